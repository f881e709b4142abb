-- One part of a text after another.
use Prim.Native.Nat.{ℕ, ◌+◌, ◌-◌, ◌≤◌, ◌<◌}
use mathlib.Core.List.{List, [], ◌∷◌, ◌++◌, append-nil, append_assoc}
use mathlib.Core.Path.{◌≡◌, refl, sym, ◌∙◌, ap}
use native.Mathlib.Nat.{le_refl}
use native.Mathlib.Numerals.{add-one}
use native.Mathlib.Omega.{arith}
use lib.ListN.{length, take, drop, set, length-append, length-set}
use lib.Seq.{length-take-le, take_all, take-take, take-append-le, take-append_seam, take-suc-set, paste, length-paste}
use Rattle.spec.specs.Limits.{max_text}
use Rattle.text_buffer.specs.Puts.{OpenText, PutsText}

pub puts_none : {buffer : List ℕ} {place : ℕ} → OpenText buffer place → PutsText buffer place [] buffer place
puts_none {buffer} {place} o =
    record {
      long = refl;
      low = omega (arith, o.low);
      fits = λ h. record { count = omega arith; bytes = sym (append-nil (take place buffer)) };
      over = λ h. omega arith;
    }

-- past the limit
pub puts_long : (buffer : List ℕ) (place : ℕ) (s : List ℕ) → max_text < place + length s → PutsText buffer place s buffer 8193
puts_long buffer place s h =
    record { long = refl; low = le_refl 8193; fits = λ k. absurd (omega arith); over = λ k. h }

pub puts_over : {before s middle : List ℕ} {place q : ℕ} → PutsText before place s middle q → max_text < q → (u : List ℕ) → PutsText before place (s ++ u) middle q
puts_over {before} {s} {middle} {place} {q} p h u =
    record {
      long = p.long;
      low = p.low;
      fits = λ k. absurd (omega arith);
      over = λ k. let b = p.over h in omega (arith, length-append s u);
    }

module _ {before s middle : List ℕ} {place q : ℕ} (p : PutsText before place s middle q) (h : q ≤ max_text) where
  pub open_on : OpenText before place → OpenText middle q
  open_on o = record { room = rw p.long o.room; low = h }

  pub puts_then : {u after : List ℕ} {r : ℕ} → PutsText middle q u after r → PutsText before place (s ++ u) after r
  puts_then {u} {after} {r} n =
      let f = p.fits h in
      record {
        long = n.long ∙ p.long;
        low = n.low;
        fits = λ k.
            let g = n.fits k in
            record {
              count = rw length-append (omega (arith, f.count, g.count));
              bytes = g.bytes ∙ ap (λ (l : List ℕ). l ++ u) f.bytes ∙ append_assoc (take place before) s u;
            };
        over = λ k. let b = n.over k in rw length-append (omega (arith, f.count));
      }

-- A part is written, and what is left ends in the whole.
pub record Done (whole rest before : List ℕ) (place : ℕ) (now : List ℕ) (n : ℕ) : Type 0 where
  pub part : List ℕ
  pub adds : part ++ rest ≡ whole
  pub puts : PutsText before place part now n

pub done_none : {whole rest before : List ℕ} {place : ℕ} → OpenText before place → rest ≡ whole → Done whole rest before place before place
done_none o e = record { part = []; adds = e; puts = puts_none o }

module _ {whole before now next : List ℕ} {place n r : ℕ} (s rest : List ℕ) (d : Done whole (s ++ rest) before place now n) (low : n ≤ max_text) (p : PutsText now n s next r) where
  pub done_on : Done whole rest before place next r
  done_on = record { part = d.part ++ s; adds = append_assoc d.part s rest ∙ d.adds; puts = puts_then d.puts low p }

  pub done_over : max_text < r → PutsText before place whole next r
  done_over h = rw (← d.adds, ← (append_assoc d.part s rest)) (puts_over (puts_then d.puts low p) h rest)

pub done_end : {whole before now : List ℕ} {place n : ℕ} → Done whole [] before place now n → PutsText before place whole now n
done_end d = rw (← d.adds, append-nil d.part) d.puts

-- Written over from the same place on.
pub puts_again : {before s now u after : List ℕ} {place n r : ℕ} → OpenText before place → PutsText before place s now n → n ≤ max_text → PutsText now place u after r → PutsText before place u after r
puts_again {before} {s} {now} {u} {after} {place} {n} o p h q =
    let f = p.fits h in
    let k : length (take place before) ≡ place = length-take-le place before (omega (arith, o.low, o.room)) in
    let same : take place now ≡ take place before =
    sym (take-take place n now (omega (arith, f.count))) ∙ ap (take place) f.bytes ∙ take-append-le place (take place before) s (omega (arith, k)) ∙ take-take place place before (le_refl place) in
    record {
      long = q.long ∙ p.long;
      low = q.low;
      fits = λ k. let g = q.fits k in record { count = g.count; bytes = g.bytes ∙ ap (λ (l : List ℕ). l ++ u) same };
      over = q.over;
    }

-- ---- bytes

module _ (buffer : List ℕ) (place : ℕ) (o : OpenText buffer place) where
  pub puts_bytes : (s : List ℕ) {after : List ℕ} → length s ≤ 8192 - place → after ≡ paste buffer place s (length s) → PutsText buffer place s after (place + length s)
  puts_bytes s {after} h e =
      let n : length (take place buffer) ≡ place = length-take-le place buffer (omega (arith, o.low, o.room)) in
      let w : place + length s ≤ length buffer = omega (arith, o.low, o.room) in
      let k : length (take place buffer ++ s) ≡ place + length s = length-append (take place buffer) s ∙ ap (λ (x : ℕ). x + length s) n in
      let q : take (place + length s) (take place buffer ++ s ++ drop (place + length s) buffer) ≡ take place buffer ++ s =
      ap (λ (x : ℕ). take x (take place buffer ++ s ++ drop (place + length s) buffer)) (sym k) ∙ take-append_seam (take place buffer ++ s) (drop (place + length s) buffer) in
      record {
        long = ap length e ∙ length-paste buffer place s (length s) w (le_refl (length s));
        low = omega (arith, o.low);
        fits = λ b. record { count = refl; bytes = rw (e, take_all (length s) s (le_refl (length s))) q };
        over = λ b. omega (arith, o.low);
      }

  pub puts_byte : (b : ℕ) → place < 8192 → PutsText buffer place (b ∷ []) (set buffer place b) (place + 1)
  puts_byte b h =
      record {
        long = length-set buffer place b;
        low = omega arith;
        fits = λ k. record { count = refl; bytes = rw (add-one place) (take-suc-set buffer place b (omega (arith, o.room))) };
        over = λ k. omega arith;
      }
