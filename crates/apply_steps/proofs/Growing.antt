-- The tables of the graph with a step more.
use Prim.Native.Nat.{ℕ, suc, ◌+◌, ◌<◌}
use mathlib.Core.Bool.{Bool, true, false, or-false}
use mathlib.Core.List.{List, [], ◌∷◌, ◌++◌, append-nil}
use mathlib.Core.Path.{◌≡◌, refl, sym, ◌∙◌, ap}
use native.Mathlib.Numerals.{add-one}
use native.Mathlib.Omega.{arith}
use borrow.Author.Tests.{eqb-true, eqb-false}
use lib.Dec.{eqb}
use lib.ListN.{length, get_or, set, length-set}
use lib.Seq.{get_or-set_same, get_or-set_other}
use Rattle.lists.specs.Tests.{if_b, split, or_left, or_right}
use Rattle.lists.specs.Members.{has}
use Rattle.spec.specs.Reading.{Step}
use Rattle.spec.specs.Graph.{makers, makers_from}
use Rattle.hold_columns.specs.Columns.{made_by, maker_in, HoldsColumns}
use Rattle.hold_columns.proofs.Held.{held_makers}
use Rattle.apply_step_columns.specs.StepColumns.{set_all}

-- ---- makers

abbrev new_maker : ℕ → Bool → List ℕ
new_maker n b = if_b b (λ _. n ∷ []) (λ _. [])

makers_from_more : (k : ℕ) (steps : List Step) (s : Step) (f n : ℕ) → n ≡ k + length steps
    → makers_from k (steps ++ (s ∷ [])) f ≡ makers_from k steps f ++ new_maker n (has f s.outs)
unfolding makers_from
makers_from_more k [] s f n e =
    let z : n ≡ k = omega arith in
    split (has f s.outs) (λ (h : has f s.outs ≡ true). rw (h, z)) (λ (h : has f s.outs ≡ false). rw h)
makers_from_more k (x ∷ l) s f n e =
    let r = makers_from_more (suc k) l s f n (omega arith) in
    split (has f x.outs)
    (λ (h : has f x.outs ≡ true). rw h (ap (λ (m : List ℕ). k ∷ m) r))
    (λ (h : has f x.outs ≡ false). rw h r)

pub makers_more : (steps : List Step) (s : Step) (f : ℕ) → makers (steps ++ (s ∷ [])) f ≡ makers steps f ++ new_maker (length steps) (has f s.outs)
unfolding makers
makers_more steps s f = makers_from_more 0 steps s f (length steps) (omega arith)

-- ---- the makers' table

set_all_not : (v : ℕ) (fs made : List ℕ) (f : ℕ) → has f fs ≡ false → get_or (set_all v fs made) f 0 ≡ get_or made f 0
unfolding set_all has
set_all_not v [] made f h = refl
set_all_not v (x ∷ fs) made f h =
    set_all_not v fs (set made x v) f (or_right (eqb f x) (has f fs) h)
    ∙ get_or-set_other made x f v 0 (eqb-false f x (or_left (eqb f x) (has f fs) h))

set_all_has : (v : ℕ) (fs made : List ℕ) (f : ℕ) → ((i : ℕ) → i < length fs → get_or fs i 0 < length made) → has f fs ≡ true → get_or (set_all v fs made) f 0 ≡ v
unfolding set_all has
set_all_has v [] made f low h = absurd (let z : ◌≡◌ {A = ℕ} 0 1 = cc in omega arith)
set_all_has v (x ∷ fs) made f low h =
    split (has f fs)
    (λ (e : has f fs ≡ true). set_all_has v fs (set made x v) f (λ i b. omega (arith, low (suc i) (omega arith), length-set made x v)) e)
    (λ (e : has f fs ≡ false).
    let t : eqb f x ≡ true = (rw (e, or-false (eqb f x)) at h) in
    let z : f ≡ x = eqb-true f x t in
    set_all_not v fs (set made x v) f e ∙ rw z (get_or-set_same made x v 0 (low 0 (omega arith))))

-- The files of a new step were made by no other.
module _ {steps : List Step} {files : ℕ} {mentions ends phony made : List ℕ} (t : HoldsColumns steps files mentions ends phony made) (s : Step) where
  pub makes_more : (now : List ℕ) → ((f : ℕ) → get_or now f 0 ≡ get_or made f 0) → ((i : ℕ) → i < length s.outs → get_or s.outs i 0 < length now)
      → ((f : ℕ) → has f s.outs ≡ true → makers steps f ≡ []) → (f : ℕ) → makers (steps ++ (s ∷ [])) f ≡ made_by (get_or (set_all (length steps + 1) s.outs now) f 0)
  unfolding maker_in made_by
  makes_more now same low fresh f =
      let old : makers steps f ≡ made_by (get_or made f 0) = sym (ap (λ (m : ℕ → List ℕ). m f) (held_makers t)) in
      split (has f s.outs)
      (λ (h : has f s.outs ≡ true).
      makers_more steps s f ∙ rw (h, fresh f h, set_all_has (length steps + 1) s.outs now f low h, add-one (length steps)))
      (λ (h : has f s.outs ≡ false).
      makers_more steps s f ∙ rw (h, set_all_not (length steps + 1) s.outs now f h, same f, append-nil (makers steps f)) old)
