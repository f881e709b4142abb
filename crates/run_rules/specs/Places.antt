-- Where in the table the record stands that a start or a finish changes.
use Rattle.std.specs.Prelude.{ℕ, suc, true, false, cond, List, [], ◌∷◌, ◌≡◌, refl, set, get_or}
use Rattle.std.proofs.Common.{ap}
use Rattle.lists.specs.Tests.{split}
use Rattle.run_rules.specs.declared.Job.{Job}
use Rattle.run_rules.specs.Runner.{turned, job_is, moved}

-- the place of the first record of step s that is in state a, or the table's length
unfoldable pub job_place : ℕ → ℕ → List Job → ℕ
job_place s a [] = 0
job_place s a (j ∷ t) = let r = job_place s a t in cond (job_is s a j) 0 (suc r)

-- One record is stored; past the end `set` stores none.
pub moved_set : (s a b : ℕ) (t : List Job) (d : Job) → moved s a b t ≡ set t (job_place s a t) (turned b (get_or t (job_place s a t) d))
unfolding moved job_place
moved_set s a b [] d = refl
moved_set s a b (j ∷ t) d =
    split (job_is s a j)
    (λ (e : job_is s a j ≡ true). rw (e, job_place, moved))
    (λ (e : job_is s a j ≡ false). rw (e, job_place, moved) (ap (λ (r : List Job). j ∷ r) (moved_set s a b t d)))
