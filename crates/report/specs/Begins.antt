-- What the functions promise that begin the output and make its lines.
use Rattle.std.specs.Prelude.{ℕ, ◌≤◌, List, [], ◌∷◌, ◌≡◌, eqb, length, take}
use Rattle.lists.specs.Tests.{if_b}
use Rattle.spec.specs.Limits.{least_list}
use Rattle.spec.specs.Answers.{Said}
use Rattle.spec.specs.PlanAsk.{Inputs, plan_ask}
use Rattle.spec.specs.Promises.{PlanMeets}
use Rattle.answers.specs.declared.Numbers.{Numbers as Two}
use Rattle.printing.specs.Lines.{no_work, circle_output}
use Rattle.printing.specs.Writes.{line_room}
use Rattle.report_output.specs.declared.Begun.{Begun}
use Rattle.report_output.specs.declared.Begun.TheVariants.{Whole, Refusal, Steps}
use Rattle.report_output.specs.Opens.{Start, whole, refusal, to_come, starts_as, Opening, whole_output, refusing, refusal_line, OpensReport}
use Rattle.report_output.specs.Output.{Checks, fine, stopped, check_texts, step_lines, Outputs}
use Rattle.report.specs.Held.{TextRooms, LineRooms, AllFine}

unfoldable pub checked_opening : List ℕ → ℕ → Checks → Opening
unfolding refusing refusal_line
checked_opening bundle n fine = record { begun = to_come n; bytes = [] }
checked_opening bundle n (stopped s) = refusing (refusal_line bundle s)

unfoldable pub list_opening : List ℕ → List ℕ → Opening
unfolding whole_output checked_opening check_texts
list_opening bundle [] = whole_output no_work
list_opening bundle (s ∷ l) = checked_opening bundle (length (s ∷ l)) (check_texts bundle (s ∷ l))

-- by what the plan's answer says and its list
unfoldable pub plan_opening : List ℕ → Said → List ℕ → Opening
unfolding refusing refusal_line list_opening circle_output
plan_opening bundle s list =
    if_b (eqb s.number 0) (λ _. list_opening bundle (take s.value list)) λ _.
    if_b (eqb s.number 14) (λ _. refusing (circle_output (take s.value list))) λ _.
    refusing (refusal_line bundle s)

-- Where lines are to come, all texts are checked, and the buffers hold those of the first steps; else the buffers were working space.
abbrev pub HeldBy : Begun → List ℕ → List ℕ → List ℕ → List ℕ → Type 0
HeldBy (Whole n) bundle list bytes ends = Unit {0}
HeldBy (Refusal n) bundle list bytes ends = Unit {0}
HeldBy (Steps n held) bundle list bytes ends = AllFine bundle (take n list) bytes ends held

pub record OpensHolding (o : Opening) (bundle list lent : List ℕ) (r : Begun) (exit bytes ends : List ℕ) : Type 0 where
  pub opens : OpensReport o lent r exit
  pub held : HeldBy r bundle list bytes ends

-- what is written in all: the bytes in the line, or the line of each listed step
unfoldable pub written_by : Start → List ℕ → List ℕ → List ℕ → List ℕ
unfolding step_lines
written_by (whole n) bundle list line = take n line
written_by (refusal n) bundle list line = take n line
written_by (to_come n) bundle list line = step_lines bundle n 0 (take n list)

-- how many of the line's bytes or of the list's numbers are to be read
abbrev pub StartWithin : Start → List ℕ → List ℕ → Type 0
StartWithin (whole n) list line = n ≤ length line
StartWithin (refusal n) list line = n ≤ length line
StartWithin (to_come n) list line = n ≤ length list

pub record Rooms (list line bytes ends : List ℕ) : Type 0 where
  pub list_room : length list ≡ least_list
  pub line_room_law : line_room ≤ length line
  pub texts : TextRooms bytes ends

-- ... where the line has room for the lines of all texts too
pub record AnswerRooms (list bytes ends out : List ℕ) : Type 0 where
  pub rooms : Rooms list out bytes ends
  pub lines : LineRooms bytes ends out

pub record ListRooms (line bytes ends : List ℕ) : Type 0 where
  pub line_room_law : line_room ≤ length line
  pub texts : TextRooms bytes ends

-- a list and a circle lie within the list
pub record Planned (s : Two) (list line bytes ends : List ℕ) : Type 0 where
  pub listed : s.number ≡ 0 → s.value ≤ length list
  pub shown : s.number ≡ 14 → s.value ≤ length list
  pub rooms : Rooms list line bytes ends

-- the plan ask's inputs, list and line at entry, answer, all buffers at exit: the list holds what the plan ask promises, the line what follows from that, and what is
-- written in all is what the program may write
pub record BeginsReport (i : Inputs) (list line : List ℕ) (r : Begun) (list_exit line_exit bytes_exit ends_exit : List ℕ) : Type 0 where
  pub says : Said
  pub planned : PlanMeets (plan_ask i (length list)) list says list_exit
  pub opens : OpensReport (plan_opening i.manifest says list_exit) line r line_exit
  pub held : HeldBy r i.manifest list_exit bytes_exit ends_exit
  pub within : StartWithin (starts_as r) list_exit line_exit
  pub right : Outputs i.manifest (plan_ask i (length list)) (written_by (starts_as r) i.manifest list_exit line_exit)
