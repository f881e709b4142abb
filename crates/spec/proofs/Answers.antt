-- The table of section "When the planner says no": each row's number, in its order, and its place.
use Prim.Native.Nat.{ℕ, zero, suc, ◌+◌, ◌-◌, ◌≤◌, ◌<◌}
use mathlib.Core.Bool.{true, false}
use lib.ListN.{length, get_or}
use native.Mathlib.Nat.{not-suc-le-zero, le_of_suc-le-suc}
use native.Mathlib.Omega.{arith}
use borrow.Author.Tests.{le-leb, lt-leb}
use mathlib.Core.Path.{◌≡◌, refl}
use mathlib.Core.List.{List, [], ◌∷◌, map}
use Rattle.spec.specs.declared.Refusal.{Refusal}
use Rattle.spec.specs.declared.Refusal.TheVariants.{ShortBuffer, LongManifest, BadByte, BadLine, BadDollar, NotYet, BadRule, BadPath, OverLimit, BadVersion, BadCard, BadTarget, NoRoot, Circle, MissingSource, EndlessText, LongText, NoCommand, BadBundle, BadOpen, BadHeaders}
use Rattle.spec.specs.Answers.{number_of_refusal, place_of_refusal, refusal_says, in_text, spot, base_of, placed}

abbrev rows : ℕ → List Refusal
rows p =
    ShortBuffer ∷ LongManifest ∷ BadByte p ∷ BadLine p ∷ BadDollar p ∷ NotYet p ∷ BadRule p ∷ BadPath p ∷ OverLimit p ∷ BadVersion p ∷ BadCard ∷ BadTarget p ∷ NoRoot ∷ Circle p ∷ MissingSource p ∷ EndlessText p ∷ LongText p ∷ NoCommand p ∷ BadBundle ∷ BadOpen p ∷ BadHeaders p ∷ []

pub numbers : (p : ℕ) → map number_of_refusal (rows p) ≡ 1 ∷ 2 ∷ 3 ∷ 4 ∷ 5 ∷ 6 ∷ 7 ∷ 8 ∷ 9 ∷ 10 ∷ 11 ∷ 12 ∷ 13 ∷ 14 ∷ 15 ∷ 16 ∷ 17 ∷ 18 ∷ 19 ∷ 19 ∷ 20 ∷ []
unfolding number_of_refusal
numbers p = refl

pub places : (p : ℕ) → map place_of_refusal (rows p) ≡ 0 ∷ 0 ∷ p ∷ p ∷ p ∷ p ∷ p ∷ p ∷ p ∷ p ∷ 0 ∷ p ∷ 0 ∷ p ∷ p ∷ p ∷ p ∷ p ∷ 0 ∷ p ∷ p ∷ []
unfolding place_of_refusal
places p = refl

pub in_texts : (p : ℕ) → map (λ (r : Refusal). (refusal_says r).text) (rows p) ≡
    false ∷ false ∷ true ∷ true ∷ true ∷ true ∷ true ∷ true ∷ true ∷ true ∷ false ∷ false ∷ false ∷ false ∷ false ∷ false ∷ false ∷ false ∷ false ∷ true ∷ false ∷ []
unfolding refusal_says
in_texts p = refl

-- where one text was read, a place in it is its offset in that text
pub one_text : (m : List ℕ) (r : Refusal) → (refusal_says r).text ≡ true → place_of_refusal r ≤ length m → placed (m ∷ []) (refusal_says r) ≡ in_text 0 (place_of_refusal r)
unfolding placed spot place_of_refusal
one_text m r e h = rw (e, le-leb (refusal_says r).value (length m) h) refl

-- an offset in text k, its end too, is one place past the base of that text, and the other way round
pub spot_base : (ts : List (List ℕ)) (k i : ℕ) → k < length ts → i ≤ length (get_or ts k []) → spot ts (base_of ts k + i) ≡ in_text k i
unfolding spot base_of
spot_base [] k i h l = absurd (not-suc-le-zero h)
spot_base (t ∷ ts) zero i h l = let z : 0 + i ≡ i = omega arith in rw (z, le-leb i (length t) l)
spot_base (t ∷ ts) (suc k) i h l =
    let z : suc (length t) + base_of ts k + i - suc (length t) ≡ base_of ts k + i = omega arith in
    rw (lt-leb (suc (length t) + base_of ts k + i) (length t) (omega arith), z, spot_base ts k i (le_of_suc-le-suc h) l)

-- 0 is the number of an answer
pub refusal_not_0 : (r : Refusal) → number_of_refusal r ≡ 0 → ⊥
unfolding number_of_refusal
refusal_not_0 ShortBuffer e = omega arith
refusal_not_0 LongManifest e = omega arith
refusal_not_0 (BadByte p) e = omega arith
refusal_not_0 (BadLine p) e = omega arith
refusal_not_0 (BadDollar p) e = omega arith
refusal_not_0 (NotYet p) e = omega arith
refusal_not_0 (BadRule p) e = omega arith
refusal_not_0 (BadPath p) e = omega arith
refusal_not_0 (OverLimit p) e = omega arith
refusal_not_0 (BadVersion p) e = omega arith
refusal_not_0 BadCard e = omega arith
refusal_not_0 (BadTarget p) e = omega arith
refusal_not_0 NoRoot e = omega arith
refusal_not_0 (Circle n) e = omega arith
refusal_not_0 (MissingSource f) e = omega arith
refusal_not_0 (EndlessText s) e = omega arith
refusal_not_0 (LongText s) e = omega arith
refusal_not_0 (NoCommand s) e = omega arith
refusal_not_0 BadBundle e = omega arith
refusal_not_0 (BadOpen p) e = omega arith
refusal_not_0 (BadHeaders s) e = omega arith
