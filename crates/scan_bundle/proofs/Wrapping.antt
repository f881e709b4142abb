-- Bytes written one part behind another from the front of a buffer, and the bundle of one record.
use Prim.Native.Nat.{ℕ, ◌+◌, ◌≤◌}
use mathlib.Core.List.{List, [], ◌++◌, append-nil}
use mathlib.Core.Path.{◌≡◌, refl, sym, ◌∙◌, ap, ap₂}
use native.Mathlib.Omega.{arith}
use lib.ListN.{length, take, drop, length-append, length-drop}
use lib.Seq.{take-length, take_at, drop_at, drop-drop, paste}
use Rattle.spec.specs.Card.{in_bytes}
use Rattle.spec.specs.Bundle.{bundled}
use Rattle.scan_bundle.specs.Bundles.{one_record, head_bytes, WrapsHead, Wraps}

-- the buffer begins with what was written, and what lies behind it stays
pub record Begins (out done now : List ℕ) : Type 0 where
  pub fits : length done ≤ length out
  pub is : now ≡ done ++ drop (length done) out

pub begin_none : (out : List ℕ) → Begins out [] out
begin_none out = record { fits = omega arith; is = refl }

module _ {out done now : List ℕ} (b : Begins out done now) where
  pub length_begun : length now ≡ length out
  length_begun = ap length b.is ∙ length-append done (drop (length done) out) ∙ omega (arith, length-drop (length done) out, b.fits)

  pub begin_more : {next : List ℕ} (p : ℕ) (s : List ℕ) → p ≡ length done → p + length s ≤ length out → next ≡ paste now p s (length s) → Begins out (done ++ s) next
  begin_more {next} p s e h n =
      let q : drop p now ≡ drop p out = ap (drop p) b.is ∙ drop_at done (drop (length done) out) p (sym e) ∙ ap (λ (i : ℕ). drop i out) (sym e) in
      let k : length (done ++ s) ≡ p + length s = length-append done s ∙ ap (λ (i : ℕ). i + length s) (sym e) in
      record {
        fits = omega arith;
        is = n ∙ ap₂ {C = List ℕ} (λ x y. x ++ y)
            (ap₂ {C = List ℕ} (λ x y. x ++ y) (ap (take p) b.is ∙ take_at done (drop (length done) out) p (sym e)) (take-length s))
            (sym (drop-drop (length s) p now) ∙ ap (drop (length s)) q ∙ drop-drop (length s) p out ∙ ap (λ (i : ℕ). drop i out) (sym k));
      }

-- the bundle of one record, by its parts
bundled_one : (name text : List ℕ) → bundled (one_record name text) ≡ (head_bytes (length name) (length text) ++ name) ++ text
unfolding bundled
bundled_one name text = rw (append-nil name, append-nil text, length-append name text)

wrapped : {name text out now : List ℕ} {r : ℕ} → Begins out ((head_bytes (length name) (length text) ++ name) ++ text) now → r ≡ 32 + (length name + length text) → Wraps name text out now r
wrapped {name} {text} {out} {now} {r} b e =
    let w = bundled_one name text in
    let k : length ((head_bytes (length name) (length text) ++ name) ++ text) ≡ r =
    length-append (head_bytes (length name) (length text) ++ name) text ∙ ap (λ (i : ℕ). i + length text) (length-append (head_bytes (length name) (length text)) name) ∙ omega (arith, e) in
    record {
      long = length_begun b;
      count = sym (ap length w ∙ k);
      written = b.is ∙ ap₂ {C = List ℕ} (λ x y. x ++ y) (sym w) (ap (λ (i : ℕ). drop i out) k);
    }

-- eight numbers one behind another
pub head_wrapped : (out : List ℕ) (name text : ℕ) {a b c d e f g h : List ℕ} → 32 ≤ length out
    → a ≡ paste out 0 (in_bytes 4 1) 4 → b ≡ paste a 4 (in_bytes 4 16) 4 → c ≡ paste b 8 (in_bytes 4 32) 4 → d ≡ paste c 12 (in_bytes 4 (32 + (name + text))) 4
    → e ≡ paste d 16 (in_bytes 4 0) 4 → f ≡ paste e 20 (in_bytes 4 name) 4 → g ≡ paste f 24 (in_bytes 4 name) 4 → h ≡ paste g 28 (in_bytes 4 text) 4
    → WrapsHead name text out h
head_wrapped out name text room ea eb ec ed ee ef eg eh =
    let b1 = begin_more (begin_none out) 0 (in_bytes 4 1) refl (omega arith) ea in
    let b2 = begin_more b1 4 (in_bytes 4 16) refl (omega arith) eb in
    let b3 = begin_more b2 8 (in_bytes 4 32) refl (omega arith) ec in
    let b4 = begin_more b3 12 (in_bytes 4 (32 + (name + text))) refl (omega arith) ed in
    let b5 = begin_more b4 16 (in_bytes 4 0) refl (omega arith) ee in
    let b6 = begin_more b5 20 (in_bytes 4 name) refl (omega arith) ef in
    let b7 = begin_more b6 24 (in_bytes 4 name) refl (omega arith) eg in
    let b8 = begin_more b7 28 (in_bytes 4 text) refl (omega arith) eh in
    record { long = length_begun b8; written = b8.is }

-- then the name and the text
pub record_wrapped : (name text out : List ℕ) {a b c : List ℕ} {r : ℕ} → 32 + (length name + length text) ≤ length out → WrapsHead (length name) (length text) out a
    → b ≡ paste a 32 name (length name) → c ≡ paste b (32 + length name) text (length text) → r ≡ 32 + (length name + length text) → Wraps name text out c r
record_wrapped name text out {a} {b} {c} room h eb ec er =
    let head = head_bytes (length name) (length text) in
    let b1 : Begins out head a = record { fits = omega arith; is = h.written } in
    let b2 : Begins out (head ++ name) b = begin_more b1 32 name refl (omega arith) eb in
    let b3 : Begins out ((head ++ name) ++ text) c = begin_more b2 (32 + length name) text (sym (length-append head name)) (omega arith) ec in
    wrapped b3 er
