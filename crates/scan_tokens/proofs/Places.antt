-- Reading a slice from place to place.
use Prim.Native.Nat.{ℕ, suc, ◌+◌, ◌-◌, ◌≤◌, ◌<◌}
use mathlib.Core.Bool.{Bool, false}
use mathlib.Core.List.{List, [], ◌∷◌, ◌++◌}
use mathlib.Core.Path.{◌≡◌, refl, sym, ◌∙◌, ap}
use native.Mathlib.Nat.{le_refl, le_trans, le_antisymm}
use native.Mathlib.Numerals.{add-one}
use native.Mathlib.Omega.{arith}
use borrow.Author.Tests.{ne_eqb}
use lib.ListN.{length, take, drop, get_or, drop_of_length-le, length-drop, length-append}
use lib.Seq.{drop-cons, take_at}
use Rattle.std.specs.Prelude.{◌==◌}
use Rattle.lists.specs.Parts.{part}
use Rattle.lists.specs.Runs.{Reads, Scanning, after_run, scan_end}
use Rattle.spec.specs.Basics.{is_empty}

-- The byte at a place, and what is left behind it.
pub at_cons : (s : List ℕ) (k : ℕ) → k < length s → drop k s ≡ get_or s k 0 ∷ drop (k + 1) s
at_cons s k h = rw (add-one, drop-cons s k 0 h)

pub at_end : (s : List ℕ) (k : ℕ) → length s ≤ k → drop k s ≡ []
at_end s k h = drop_of_length-le s {i = k} h

-- A loop that reads from i on is at k, and f of what is left is f of what was left.
pub record Going {A : Type 0} (f : List ℕ → A) (s : List ℕ) (i k : ℕ) : Type 0 where
  pub forward : i ≤ k
  pub within : k ≤ length s
  pub same : f (drop i s) ≡ f (drop k s)

pub going_begin : {A : Type 0} {f : List ℕ → A} {s : List ℕ} {i : ℕ} → i ≤ length s → Going f s i i
going_begin h = record { forward = le_refl _; within = h; same = refl }

pub going_on : {A : Type 0} {f : List ℕ → A} {s : List ℕ} {i k r : ℕ} → Going f s i k → k ≤ r → r ≤ length s → f (drop k s) ≡ f (drop r s) → Going f s i r
going_on a h w e = record { forward = le_trans a.forward h; within = w; same = a.same ∙ e }

-- Where f leaves the rest as it is, the reader stops.
pub going_stop : {f : List ℕ → List ℕ} {s : List ℕ} {i k : ℕ} → Going f s i k → f (drop k s) ≡ drop k s → Reads f s i k
going_stop a e = record { forward = a.forward; within = a.within; rest = sym (a.same ∙ e) }

-- A scan that has passed every byte ends where the slice does.
pub scan_all : {p : ℕ → Bool} {s : List ℕ} {i k : ℕ} → Scanning p s i k → length s ≤ k → Reads (after_run p) s i (length s)
scan_all a h = rw (← le_antisymm a.within h) (scan_end a h)

-- What lies between two places is what stands in front of the rest.
pub part_passed : (s : List ℕ) {i r : ℕ} (front : List ℕ) → i ≤ r → r ≤ length s → front ++ drop r s ≡ drop i s → part s i r ≡ front
part_passed s {i} {r} front h w e =
    let n : length front ≡ r - i =
    omega (arith, length-drop i s, length-drop r s, simp length-append at (ap length e)) in
    ap (take (r - i)) (sym e) ∙ take_at front (drop r s) (r - i) n

-- ---- the test for an empty list

pub not_empty : {A : Type 0} (s : List A) → (length s ≡ 0 → ⊥) → is_empty s ≡ false
not_empty [] h = absurd (h refl)
not_empty (b ∷ s) h = refl

-- what a slice's own test says
pub emptiness : {A : Type 0} (s : List A) {r : Bool} → r ≡ (length s == 0) → is_empty s ≡ r
emptiness [] e = sym e
emptiness (b ∷ s) e = sym (e ∙ ne_eqb (suc (length s)) 0 (λ (z : suc (length s) ≡ 0). omega arith))
