-- What the two asks promise, for every input: the answer, and every number of the lent buffer.
use Rattle.std.specs.Prelude.{ℕ, ◌-◌, List, [], ◌++◌, ◌≡◌, eqb, length, replicate, Result}
use Rattle.lists.specs.Tests.{if_b}
use Rattle.spec.specs.declared.Refusal.{Refusal}
use Rattle.spec.specs.declared.Wanted.{Wanted}
use Rattle.spec.specs.Answers.{Said, says, refusal_says, number_of_refusal, plan_says, text_says}
use Rattle.spec.specs.Reading.{Step}
use Rattle.spec.specs.Words.{NeededCircle}
use Rattle.spec.specs.PlanAsk.{Inputs, PlanOutcome, plan_ask, listed, circular, no_plan}
use Rattle.spec.specs.TextAsk.{TextOutcome, text_ask, text, no_text}

-- "After an answer or a circle, what lies beyond it is zero."
unfoldable pub filled : List ℕ → List ℕ → List ℕ
filled l lent = l ++ replicate (length lent - length l) 0

-- "A refusal leaves output buffers all zero, with these exceptions: 1 touches nothing"
unfoldable pub left_by : Refusal → List ℕ → List ℕ
unfolding number_of_refusal filled
left_by r lent = if_b (eqb (number_of_refusal r) 1) (λ _. lent) (λ _. filled [] lent)

-- the answer says this, and the lent buffer holds that at exit
pub record AnswerIs (said : Said) (exit : List ℕ) (right : Said) (left : List ℕ) : Type 0 where
  pub says : said ≡ right
  pub leaves : exit ≡ left

-- "14 writes the circle's steps": the one outcome that is left open, "any circle as described above will do, and the place is the length of the one written"
pub record Shows (steps : List Step) (roots lent : List ℕ) (said : Said) (exit : List ℕ) : Type 0 where
  pub circle : List ℕ
  pub real : NeededCircle steps roots circle
  pub shown : AnswerIs said exit (says 14 (length circle)) (filled circle lent)

-- what an answer must say and the buffer at exit must hold, by the outcome and the buffer at entry; a list is answered with 0 and "their count"
unfoldable pub PlanMeets : PlanOutcome → List ℕ → Said → List ℕ → Type 0
PlanMeets (listed l) lent said exit = AnswerIs said exit (says 0 (length l)) (filled l lent)
PlanMeets (circular steps roots) lent said exit = Shows steps roots lent said exit
PlanMeets (no_plan r) lent said exit = AnswerIs said exit (refusal_says r) (left_by r lent)

-- the plan ask: its inputs, list buffer at entry, answer, list buffer at exit
abbrev pub PlanPromise : Inputs → List ℕ → Result ℕ Refusal → List ℕ → Type 0
PlanPromise i lent answer exit = PlanMeets (plan_ask i (length lent)) lent (plan_says answer) exit

unfoldable pub TextMeets : TextOutcome → List ℕ → Said → List ℕ → Type 0
TextMeets (text t) lent said exit = AnswerIs said exit (says 0 (length t)) (filled t lent)
TextMeets (no_text r) lent said exit = AnswerIs said exit (refusal_says r) (left_by r lent)

-- the text ask: manifest, step, what is wanted, text buffer at entry, answer, text buffer at exit
abbrev pub TextPromise : List ℕ → ℕ → Wanted → List ℕ → Result ℕ Refusal → List ℕ → Type 0
TextPromise manifest step wanted lent answer exit =
    TextMeets (text_ask manifest step wanted (length lent)) lent (text_says answer) exit
