-- Places in texts that lie end to end: where each begins, and the text of a place.
use Prim.Native.Nat.{ℕ, zero, suc, ◌+◌, ◌-◌, ◌*◌, ◌≤◌, ◌<◌}
use mathlib.Core.List.{List, [], ◌∷◌, map}
use mathlib.Core.Option.{some}
use mathlib.Core.Path.{◌≡◌, refl, sym, ◌∙◌, ap}
use native.Mathlib.Nat.{not-suc-le-zero, le_of_suc-le-suc}
use native.Mathlib.Numerals.{add-one}
use native.Mathlib.Omega.{arith}
use borrow.Author.Tests.{le-leb, lt-leb, lt-ltb, le-ltb}
use lib.ListN.{length, drop, get_or, length-drop, drop_of_length-le}
use lib.Seq.{length-take-le, drop-cons}
use Rattle.spec.specs.Answers.{Place, plain, in_text, next_text, spot, base_of}
use Rattle.spec.specs.Basics.{sum}
use Rattle.spec.specs.Card.{number_at, card_names}
use Rattle.spec.specs.Bundle.{Extent, extent_at, text_extents, lying_at, bundle_texts, extents_end}
use Rattle.scan_bundle.specs.Bundles.{LaidBundle, record_place_of}
use Rattle.scan_bundle.proofs.Extents.{no_extent, step, ended, end_forward}
use Rattle.scan_bundle.proofs.Lying.{text_extent, text_at, length_text_extents, length_texts, length_body, laid_room, laid_ends, record_lies}

-- ---- where a text begins

length_lying : (s : List ℕ) (e : Extent) → e.offset + e.size ≤ length s → length (lying_at s e) ≡ e.size
unfolding lying_at
length_lying s e h = length-take-le e.size (drop e.offset s) (omega (arith, length-drop e.offset s))

-- The texts before text k are as long as the way from the first one's offset to its own, and each has one place more.
base_lies : (least most at : ℕ) (es : List Extent) (t : ℕ) (body : List ℕ) → extents_end least most at es ≡ some t → t ≤ length body → (k : ℕ) → k < length es
    → base_of (map (lying_at body) es) k + at ≡ (get_or es k no_extent).offset + k
unfolding base_of
base_lies least most at [] t body h w k l = absurd (not-suc-le-zero l)
base_lies least most at (e ∷ es) t body h w zero l = let x = step least most at e es t h in omega (arith, x.fits.starts)
base_lies least most at (e ∷ es) t body h w (suc k) l =
    let x = step least most at e es t h in
    let f = end_forward least most (at + e.size) es t x.rest in
    let n = length_lying body e (omega (arith, x.fits.starts)) in
    let g = base_lies least most (at + e.size) es t body x.rest w k (le_of_suc-le-suc l) in
    omega arith

pub base_none : (ts : List (List ℕ)) → base_of ts 0 ≡ 0
unfolding base_of
base_none [] = refl
base_none (t ∷ ts) = refl

pub base_more : (ts : List (List ℕ)) (k : ℕ) → k < length ts → k ≤ base_of ts k
unfolding base_of
base_more [] k l = absurd (not-suc-le-zero l)
base_more (t ∷ ts) zero l = omega arith
base_more (t ∷ ts) (suc k) l = let h = base_more ts k (le_of_suc-le-suc l) in omega arith

-- All texts together are as long as the way from the first one's offset to the end of the last.
extents_sum : (least most at : ℕ) (es : List Extent) (t : ℕ) (body : List ℕ) → extents_end least most at es ≡ some t → t ≤ length body
    → sum (map (λ (l : List ℕ). length l) (map (lying_at body) es)) + at ≡ t
unfolding sum
extents_sum least most at [] t body h w = let x = ended least most at t h in omega arith
extents_sum least most at (e ∷ es) t body h w =
    let x = step least most at e es t h in
    let f = end_forward least most (at + e.size) es t x.rest in
    let n = length_lying body e (omega (arith, x.fits.starts)) in
    let g = extents_sum least most (at + e.size) es t body x.rest w in
    omega arith

pub texts_sum : (s : List ℕ) → LaidBundle s → 0 < number_at 0 4 s → sum (map (λ (l : List ℕ). length l) (bundle_texts s)) + (16 + 16 * number_at 0 4 s + number_at 24 4 s) ≡ length s
unfolding bundle_texts extent_at
texts_sum s l h =
    let x = laid_ends s l in
    let body = card_names s in
    let all = extents_sum 0 (length s) x.named (text_extents s) (length body) body x.texts (omega arith) in
    let first = rw (text_extent s 0 h) at (base_lies 0 (length s) x.named (text_extents s) (length body) body x.texts (omega arith) 0 (omega (arith, length_text_extents s))) in
    let none = base_none (map (lying_at body) (text_extents s)) in
    let room = laid_room s l in
    let long = length_body s in
    omega arith

pub record Based (s : List ℕ) (k : ℕ) : Type 0 where
  pub forward : number_at 24 4 s ≤ number_at (24 + 16 * k) 4 s
  pub is : number_at (24 + 16 * k) 4 s - number_at 24 4 s + k ≡ base_of (bundle_texts s) k

pub based : (s : List ℕ) → LaidBundle s → (k : ℕ) → k < number_at 0 4 s → Based s k
unfolding bundle_texts extent_at
based s l k h =
    let x = laid_ends s l in
    let body = card_names s in
    let first = rw (text_extent s 0 (omega arith)) at (base_lies 0 (length s) x.named (text_extents s) (length body) body x.texts (omega arith) 0 (omega (arith, length_text_extents s))) in
    let this = rw (text_extent s k h) at (base_lies 0 (length s) x.named (text_extents s) (length body) body x.texts (omega arith) k (omega (arith, length_text_extents s))) in
    let none = base_none (map (lying_at body) (text_extents s)) in
    let more = base_more (map (lying_at body) (text_extents s)) k (omega (arith, length_texts s)) in
    record { forward = omega arith; is = omega arith }

-- ---- the text of a place

-- so many texts on
pub moved : ℕ → Place → Place
moved zero p = p
moved (suc k) p = moved k (next_text p)

moved_plain : (k x : ℕ) → moved k (plain x) ≡ plain x
unfolding moved
moved_plain zero x = refl
moved_plain (suc k) x = moved_plain k x

moved_in : (k j x : ℕ) → moved k (in_text j x) ≡ in_text (k + j) x
unfolding moved
moved_in zero j x = let z : 0 + j ≡ j = omega arith in rw z
moved_in (suc k) j x = let z : suc k + j ≡ k + suc j = omega arith in rw z (moved_in k (suc j) x)

pub record Spotting (s : List ℕ) (place left k : ℕ) : Type 0 where
  pub within : k ≤ number_at 0 4 s
  pub rest : spot (bundle_texts s) place ≡ moved k (spot (drop k (bundle_texts s)) left)

pub spot_begin : (s : List ℕ) (place : ℕ) → Spotting s place place 0
unfolding moved
spot_begin s place = record { within = omega arith; rest = refl }

module _ {s : List ℕ} {place left k : ℕ} (x : Spotting s place left k) where
  pub spot_past : number_at 0 4 s ≤ k → {n : ℕ} → n ≡ number_at 0 4 s → record_place_of n (record { text = n; offset = left }) ≡ spot (bundle_texts s) place
  unfolding spot record_place_of
  spot_past h {n} e =
      rw (le-ltb n n (omega arith))
      (sym (x.rest ∙ rw (drop_of_length-le (bundle_texts s) {i = k} (omega (arith, length_texts s))) (moved_plain k left)))

  module _ (l : LaidBundle s) (h : k < number_at 0 4 s) (size : ℕ) (e : size ≡ number_at (24 + 16 * k + 4) 4 s) where
    text_long : length (get_or (bundle_texts s) k []) ≡ size
    unfolding extent_at
    text_long =
        let y = record_lies s l k h in
        ap length (text_at s k h) ∙ length_lying (card_names s) (extent_at (24 + 16 * k) s) (omega (arith, y.text.room, length_body s)) ∙ sym e

    opened : spot (bundle_texts s) place ≡ moved k (spot (get_or (bundle_texts s) k [] ∷ drop (k + 1) (bundle_texts s)) left)
    opened = x.rest ∙ ap (λ (ts : List (List ℕ)). moved k (spot ts left)) (drop-cons (bundle_texts s) k [] (omega (arith, length_texts s)) ∙ rw (add-one k))

    pub spot_here : left ≤ size → {n : ℕ} → n ≡ number_at 0 4 s → record_place_of n (record { text = k; offset = left }) ≡ spot (bundle_texts s) place
    unfolding spot record_place_of
    spot_here a {n} q =
        let z : k + 0 ≡ k = omega arith in
        rw (lt-ltb k n (omega arith))
        (sym (opened ∙ rw (text_long, le-leb left size a) (moved_in k 0 left ∙ ap (λ (j : ℕ). in_text j left) z)))

    pub spot_on : size < left → Spotting s place (left - (size + 1)) (k + 1)
    unfolding spot moved
    spot_on a =
        let z : left - suc size ≡ left - (size + 1) = omega arith in
        record {
          within = omega arith;
          rest = opened ∙ rw (text_long, lt-leb left size a, z, add-one k);
        }
