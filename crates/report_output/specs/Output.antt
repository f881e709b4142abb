-- All that the program writes, from the bytes that it read.
use Rattle.std.specs.Prelude.{ℕ, suc, List, [], ◌∷◌, ◌++◌, ◌≡◌, length}
use Rattle.spec.specs.declared.Wanted.TheVariants.{Command}
use Rattle.spec.specs.Limits.{max_text}
use Rattle.spec.specs.Answers.{Said, refusal_says, placed}
use Rattle.spec.specs.Bundle.{bundle_texts}
use Rattle.spec.specs.Reading.{Step}
use Rattle.spec.specs.Words.{NeededCircle}
use Rattle.spec.specs.PlanAsk.{PlanOutcome, listed, circular, no_plan}
use Rattle.spec.specs.TextAsk.{TextOutcome, text, no_text, text_ask}
use Rattle.printing.specs.Lines.{no_work, refused_line, circle_output, step_line_of}

-- the `command` text of a step
unfoldable pub command_text : List ℕ → ℕ → TextOutcome
unfolding text_ask
command_text bundle s = text_ask bundle s Command max_text

-- the line of a refusal, with its place among the texts of the bundle
unfoldable pub said_line : List ℕ → Said → List ℕ
unfolding refused_line placed bundle_texts
said_line bundle s = refused_line s.number (placed (bundle_texts bundle) s)

-- "Texts are all checked, in list order": all have one, or the first that has none
pub data Checks : Type 0 where
  fine : Checks
  stopped : Said → Checks

unfoldable pub after_text : TextOutcome → Checks → Checks
unfolding refusal_says
after_text (text t) rest = rest
after_text (no_text r) rest = stopped (refusal_says r)

unfoldable pub check_texts : List ℕ → List ℕ → Checks
unfolding after_text command_text
check_texts bundle [] = fine
check_texts bundle (s ∷ l) = after_text (command_text bundle s) (check_texts bundle l)

-- A step's line; where all texts are checked first, the second case is never met.
unfoldable pub step_line : ℕ → ℕ → TextOutcome → List ℕ
unfolding step_line_of
step_line k n (text t) = step_line_of k n t
step_line k n (no_text r) = []

-- the lines of the steps of l, k of the list's n steps having gone before
unfoldable pub step_lines : List ℕ → ℕ → ℕ → List ℕ → List ℕ
unfolding step_line command_text
step_lines bundle n k [] = []
step_lines bundle n k (s ∷ l) = step_line (suc k) n (command_text bundle s) ++ step_lines bundle n (suc k) l

-- "before anything is written": a text that is refused gives its refusal alone
unfoldable pub checked_output : List ℕ → List ℕ → Checks → List ℕ
unfolding step_lines said_line
checked_output bundle l fine = step_lines bundle (length l) 0 l
checked_output bundle l (stopped s) = said_line bundle s

unfoldable pub list_output : List ℕ → List ℕ → List ℕ
unfolding checked_output check_texts
list_output bundle [] = no_work
list_output bundle (s ∷ l) = checked_output bundle (s ∷ l) (check_texts bundle (s ∷ l))

pub record WritesCircle (steps : List Step) (targets out : List ℕ) : Type 0 where
  pub circle : List ℕ
  pub real : NeededCircle steps targets circle
  pub shown : out ≡ circle_output circle

-- what the program may write, by the plan's outcome: only the circle is left open
unfoldable pub Outputs : List ℕ → PlanOutcome → List ℕ → Type 0
unfolding list_output said_line refusal_says
Outputs bundle (listed l) out = out ≡ list_output bundle l
Outputs bundle (circular steps targets) out = WritesCircle steps targets out
Outputs bundle (no_plan r) out = out ≡ said_line bundle (refusal_says r)
