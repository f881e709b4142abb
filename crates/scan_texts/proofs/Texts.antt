-- The texts of a bundle: their bytes together, and the first bad byte of them all.
use Rattle.std.specs.Prelude.{Option as StdOption, Some, None}
use Prim.Native.Nat.{ℕ, zero, suc, ◌+◌, ◌*◌, ◌-◌, ◌≤◌, ◌<◌}
use mathlib.Core.Bool.{true, false}
use mathlib.Core.List.{List, [], ◌∷◌, map}
use mathlib.Core.Option.{Option, none, some, none-ne-some, some-injective}
use mathlib.Core.Path.{◌≡◌, refl, sym, ◌∙◌, ap}
use native.Mathlib.Nat.{not-suc-le-zero, le_of_suc-le-suc}
use native.Mathlib.Numerals.{add-one}
use native.Mathlib.Omega.{arith}
use lib.Dec.{eqb}
use lib.ListN.{length, drop, get_or, drop_of_length-le}
use lib.Seq.{drop-cons}
use Rattle.lists.specs.Tests.{split}
use Rattle.spec.specs.Basics.{or_else, sum}
use Rattle.spec.specs.Bytes.{newline, forbidden}
use Rattle.spec.specs.Limits.{max_manifest, max_place, max_bundle}
use Rattle.spec.specs.Answers.{base_of}
use Rattle.spec.specs.Card.{number_at}
use Rattle.spec.specs.Bundle.{sound_bundle, bundle_texts}
use Rattle.spec.specs.Manifest.{bad_byte, bad_byte_in}
use Rattle.scan_raw.specs.Texts.{place_of}
use Rattle.scan_bundle.specs.Bundles.{LaidBundle}
use Rattle.scan_bundle.proofs.Laws.{sound_is_laid, sound_few}
use Rattle.scan_bundle.proofs.Checking.{sound_laid}
use Rattle.scan_bundle.proofs.Lying.{laid_room, laid_enough, length_texts}
use Rattle.scan_bundle.proofs.Places.{base_none, base_more, texts_sum}
use Rattle.scan_texts.specs.Checks.{ShortBundle}

-- ---- bytes together

-- the texts up to text k
base_within : (ts : List (List ℕ)) (k : ℕ) → k < length ts → base_of ts k + length (get_or ts k []) ≤ sum (map (λ (t : List ℕ). length t) ts) + k
unfolding base_of sum
base_within [] k h = absurd (not-suc-le-zero h)
base_within (t ∷ ts) zero h = omega arith
base_within (t ∷ ts) (suc k) h = let g = base_within ts k (le_of_suc-le-suc h) in omega arith

base_next : (ts : List (List ℕ)) (k : ℕ) → suc k < length ts → base_of ts (suc k) ≡ suc (base_of ts k + length (get_or ts k []))
unfolding base_of
base_next [] k h = absurd (not-suc-le-zero h)
base_next (t ∷ ts) zero h = let g = base_none ts in omega arith
base_next (t ∷ ts) (suc k) h = let g = base_next ts k (le_of_suc-le-suc h) in omega arith

-- ---- a sound bundle

module _ (s : List ℕ) (h : sound_bundle 1 max_bundle s ≡ true) where
  pub laid : LaidBundle s
  laid = sound_is_laid 1 max_bundle s h

  pub some_text : 1 ≤ number_at 0 4 s
  some_text = laid_enough 1 max_bundle s (sound_laid 1 max_bundle s h)

  pub few_texts : number_at 0 4 s ≤ 64
  few_texts = sound_few 1 max_bundle s h

  pub bundle_head : 28 ≤ length s
  bundle_head = omega (arith, laid_room s laid, some_text)

  -- n records and the names lie before the texts, whose first begins x bytes behind the records
  module _ {n x : ℕ} (e : n ≡ number_at 0 4 s) (f : x ≡ number_at 24 4 s) where
    pub texts_before : 16 + 16 * n + x ≤ length s
    texts_before = rw (e, f) (omega (arith, texts_sum s laid some_text))

    pub texts_together : length s - (16 + 16 * n + x) ≡ sum (map (λ (t : List ℕ). length t) (bundle_texts s))
    texts_together = rw (e, f) (omega (arith, texts_sum s laid some_text))

module _ (s : List ℕ) (a : ShortBundle s) (k : ℕ) (h : k < number_at 0 4 s) where
  near : base_of (bundle_texts s) k + length (get_or (bundle_texts s) k []) ≤ sum (map (λ (t : List ℕ). length t) (bundle_texts s)) + k
  near = base_within (bundle_texts s) k (omega (arith, length_texts s))

  pub text_near : base_of (bundle_texts s) k + length (get_or (bundle_texts s) k []) ≤ max_place
  text_near = omega (arith, near, a.short, few_texts s a.sound)

  pub text_short : length (get_or (bundle_texts s) k []) ≤ max_manifest
  text_short = omega (arith, near, a.short, base_more (bundle_texts s) k (omega (arith, length_texts s)))

-- ---- 3

-- a place further on
shifted : ℕ → Option ℕ → Option ℕ
shifted base o = or_else o (λ p. some (base + p)) λ _. none

bad_shifted : (base last at : ℕ) (s : List ℕ) → bad_byte last (base + at) s ≡ shifted base (bad_byte last at s)
unfolding bad_byte shifted
bad_shifted base last at [] =
    split (eqb last newline) (λ (e : eqb last newline ≡ true). rw e) (λ (e : eqb last newline ≡ false). rw e)
bad_shifted base last at (b ∷ s) =
    let z : suc (base + at) ≡ base + suc at = omega arith in
    split (forbidden b) (λ (e : forbidden b ≡ true). rw e) (λ (e : forbidden b ≡ false). rw (e, z) (bad_shifted base b (suc at) s))

bad_low : (last at : ℕ) (s : List ℕ) (p : ℕ) → bad_byte last at s ≡ some p → p ≤ at + length s
unfolding bad_byte
bad_low last at [] p e =
    split (eqb last newline)
    (λ (t : eqb last newline ≡ true). let q : none ≡ some p = rw t at e in absurd (none-ne-some p q))
    (λ (t : eqb last newline ≡ false). let q : some at ≡ some p = rw t at e in let r = some-injective at p q in omega arith)
bad_low last at (b ∷ s) p e =
    split (forbidden b)
    (λ (t : forbidden b ≡ true). let q : some at ≡ some p = rw t at e in let r = some-injective at p q in omega arith)
    (λ (t : forbidden b ≡ false). let r = bad_low b (suc at) s p (rw t at e) in omega arith)

-- the texts before text k have no bad byte
pub record BadLeft (ts : List (List ℕ)) (k : ℕ) : Type 0 where
  pub at : ℕ
  pub rest : bad_byte_in 0 ts ≡ bad_byte_in at (drop k ts)
  pub base : k < length ts → at ≡ base_of ts k

pub bad_begin : (ts : List (List ℕ)) → BadLeft ts 0
bad_begin ts = record { at = 0; rest = refl; base = λ h. sym (base_none ts) }

module _ {ts : List (List ℕ)} {k : ℕ} (g : BadLeft ts k) where
  pub bad_end : length ts ≤ k → place_of None ≡ bad_byte_in 0 ts
  unfolding bad_byte_in place_of
  bad_end h = sym (g.rest ∙ rw (drop_of_length-le ts {i = k} h))

  -- t is text k, and f its first bad byte
  module _ (h : k < length ts) {t : List ℕ} (e : t ≡ get_or ts k []) (f : StdOption ℕ) (q : place_of f ≡ bad_byte newline 0 t) where
    here : bad_byte_in 0 ts ≡ or_else (bad_byte newline g.at t) some λ _. bad_byte_in (suc (g.at + length t)) (drop (suc k) ts)
    unfolding bad_byte_in
    here = g.rest ∙ rw (drop-cons ts k [] h, e)

    moved : bad_byte newline g.at t ≡ shifted g.at (place_of f)
    moved =
        let z : g.at ≡ g.at + 0 = omega arith in
        ap (λ (j : ℕ). bad_byte newline j t) z ∙ bad_shifted g.at newline 0 t ∙ ap (shifted g.at) (sym q)

    pub bad_here : {p base : ℕ} → f ≡ Some p → base ≡ base_of ts k → place_of (Some (base + p)) ≡ bad_byte_in 0 ts
    unfolding place_of shifted
    bad_here {p} {base} m n =
        let z : g.at ≡ base = g.base h ∙ sym n in
        sym (here ∙ rw (moved, m, z))

    pub bad_on : f ≡ None → BadLeft ts (k + 1)
    unfolding place_of shifted
    bad_on m =
        record {
          at = suc (g.at + length t);
          rest = here ∙ rw (moved, m, add-one);
          base = λ l.
              let z : length t ≡ length (get_or ts k []) = ap length e in
              let y : suc k ≡ k + 1 = omega arith in
              let x = base_next ts k (omega arith) in
              let v : g.at + length t ≡ base_of ts k + length (get_or ts k []) = omega (arith, z, g.base h) in
              ap (λ (j : ℕ). suc j) v ∙ sym x ∙ ap (base_of ts) y;
        }

-- its place among all texts
pub bad_near : (s : List ℕ) (a : ShortBundle s) (k : ℕ) → k < number_at 0 4 s → {t : List ℕ} → t ≡ get_or (bundle_texts s) k [] → (f : StdOption ℕ) → place_of f ≡ bad_byte newline 0 t
    → {p base : ℕ} → f ≡ Some p → base ≡ base_of (bundle_texts s) k → base + p ≤ max_place
unfolding place_of
bad_near s a k h {t} e f q {p} m b =
    let x = bad_low newline 0 t p (sym q ∙ ap place_of m) in
    let l : length t ≡ length (get_or (bundle_texts s) k []) = ap length e in
    omega (arith, text_near s a k h, b)
