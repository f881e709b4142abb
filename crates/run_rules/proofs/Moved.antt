-- One record of a table in another state: what the table is made of before and after.
use Prim.Native.Nat.{ℕ}
use mathlib.Core.Bool.{true, false}
use mathlib.Core.List.{List, [], ◌∷◌, ◌++◌}
use mathlib.Core.Path.{◌≡◌, refl, sym, ap, ◌∙◌}
use borrow.Author.Tests.{eqb-true}
use lib.Dec.{eqb}
use lib.ListN.{length, length-map}
use Rattle.lists.specs.Members.{any}
use Rattle.lists.specs.Tests.{split, differ, and_left, and_right, or_left, or_right}
use Rattle.run_rules.specs.declared.Job.{Job}
use Rattle.run_rules.specs.Runner.{turned, job_is, moved, all_done}
use Rattle.run_rules.specs.Claims.{steps_of}

-- t becomes u: a record of step s goes from state a to state b, and all others stay
pub record Turns (s a b : ℕ) (t u : List Job) : Type 0 where
  pub front : List Job
  pub job : Job
  pub back : List Job
  pub was : t ≡ front ++ job ∷ back
  pub is : u ≡ front ++ turned b job ∷ back
  pub step : job.step ≡ s
  pub state : job.state ≡ a

-- A record of step s in state a is found, and turned.
pub moved_turns : (s a b : ℕ) (t : List Job) → any (job_is s a) t ≡ true → Turns s a b t (moved s a b t)
unfolding any moved
moved_turns s a b [] h = differ h refl
moved_turns s a b (j ∷ t) h =
    split (job_is s a j)
    (λ (e : job_is s a j ≡ true).
    rw (e, moved)
    (record {
      front = [];
      job = j;
      back = t;
      was = refl;
      is = refl;
      step = eqb-true j.step s (and_left (eqb j.step s) (eqb j.state a) e);
      state = eqb-true j.state a (and_right (eqb j.step s) (eqb j.state a) e);
    }))
    (λ (e : job_is s a j ≡ false).
    let r = moved_turns s a b t (rw (e, any) at h) in
    rw (e, moved)
    (record {
      front = j ∷ r.front;
      job = r.job;
      back = r.back;
      was = ap (λ (l : List Job). j ∷ l) r.was;
      is = ap (λ (l : List Job). j ∷ l) r.is;
      step = r.step;
      state = r.state;
    }))

-- "changes nothing"
pub moved_none : (s a b : ℕ) (t : List Job) → any (job_is s a) t ≡ false → moved s a b t ≡ t
unfolding any moved
moved_none s a b [] h = refl
moved_none s a b (j ∷ t) h =
    let e : job_is s a j ≡ false = or_left (job_is s a j) (any (job_is s a) t) h in
    rw (e, moved) (ap (λ (l : List Job). j ∷ l) (moved_none s a b t (or_right (job_is s a j) (any (job_is s a) t) h)))

-- Steps and pools stay: all done, both tables are the same.
pub turns_same : {s a b : ℕ} {t u : List Job} → Turns s a b t u → all_done u ≡ all_done t
unfolding all_done
turns_same {b} h = ap all_done h.is ∙ go h.front ∙ sym (ap all_done h.was)
  where
    go : (l : List Job) → all_done (l ++ turned b h.job ∷ h.back) ≡ all_done (l ++ h.job ∷ h.back)
    go [] = refl
    go (k ∷ l) = ap (λ (r : List Job). turned 2 k ∷ r) (go l)

pub same_steps : (t u : List Job) → all_done t ≡ all_done u → steps_of t ≡ steps_of u
unfolding all_done
same_steps t u e = sym (steps_done t) ∙ ap steps_of e ∙ steps_done u
  where
    steps_done : (t : List Job) → steps_of (all_done t) ≡ steps_of t
    steps_done [] = refl
    steps_done (k ∷ t) = ap (λ (r : List ℕ). k.step ∷ r) (steps_done t)

pub same_length : (t u : List Job) → all_done t ≡ all_done u → length t ≡ length u
unfolding all_done
same_length t u e = sym (length-map t (turned 2)) ∙ ap length e ∙ length-map u (turned 2)
