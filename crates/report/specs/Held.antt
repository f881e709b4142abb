-- Texts that stand in lent buffers: end to end in one of bytes, and where each ends in one of numbers.
use Rattle.std.specs.Prelude.{ℕ, ◌+◌, ◌*◌, ◌≤◌, ◌<◌, List, [], ◌∷◌, ◌++◌, ◌≡◌, length, take, drop, Result, Ok, Err}
use Rattle.spec.specs.Limits.{max_text}
use Rattle.spec.specs.TextAsk.{text}
use Rattle.answers.specs.Numbers.{said}
use Rattle.printing.specs.Writes.{step_room, LeavesOutput}
use Rattle.report_lines.specs.Cut.{TextsInOrder, cut_texts}
use Rattle.report_output.specs.Output.{fine, stopped, command_text, check_texts, step_lines}
use Rattle.report.specs.declared.Lines.{Lines}
use Rattle.answers.specs.declared.Numbers.{Numbers}

-- these are the `command` texts of these steps
unfoldable pub AreCommands : List ℕ → List ℕ → List (List ℕ) → Type 0
unfolding command_text
AreCommands bundle [] [] = Unit {0}
AreCommands bundle [] (t ∷ ts) = ⊥
AreCommands bundle (s ∷ ss) [] = ⊥
AreCommands bundle (s ∷ ss) (t ∷ ts) = (command_text bundle s ≡ text t) × AreCommands bundle ss ts

-- the buffers hold the `command` texts of the first n of these steps
pub record HeldTexts (bundle steps bytes ends : List ℕ) (n : ℕ) : Type 0 where
  pub few : n ≤ length steps
  pub placed : n ≤ length ends
  pub order : TextsInOrder bytes 0 (take n ends)
  pub commands : AreCommands bundle (take n steps) (cut_texts bytes 0 (take n ends))

-- ------------------------------------------------------------------ asking

-- room for one text at least
pub record TextRooms (bytes ends : List ℕ) : Type 0 where
  pub bytes_room : max_text ≤ length bytes
  pub ends_room : 0 < length ends

pub record TextsWanted (steps bytes ends : List ℕ) : Type 0 where
  pub some : 0 < length steps
  pub rooms : TextRooms bytes ends

-- one step at least
pub record HoldsSome (bundle steps bytes ends : List ℕ) (n : ℕ) : Type 0 where
  pub some : 0 < n
  pub held : HeldTexts bundle steps bytes ends n

unfoldable pub AskedIs : List ℕ → List ℕ → List ℕ → List ℕ → Result ℕ Numbers → Type 0
unfolding check_texts
AskedIs bundle steps bytes ends (Ok n) = HoldsSome bundle steps bytes ends n
AskedIs bundle steps bytes ends (Err x) = stopped (said x) ≡ check_texts bundle steps

-- ------------------------------------------------------------------ the check of all texts

-- all steps have a text, and the buffers hold those of the first n
pub record AllFine (bundle steps bytes ends : List ℕ) (n : ℕ) : Type 0 where
  pub fine : fine ≡ check_texts bundle steps
  pub held : HeldTexts bundle steps bytes ends n

unfoldable pub CheckedIs : List ℕ → List ℕ → List ℕ → List ℕ → Result ℕ Numbers → Type 0
unfolding check_texts
CheckedIs bundle steps bytes ends (Ok n) = AllFine bundle steps bytes ends n
CheckedIs bundle steps bytes ends (Err x) = stopped (said x) ≡ check_texts bundle steps

-- ------------------------------------------------------------------ the lines

-- room for the lines of all texts that the buffers can hold
pub record LineRooms (bytes ends out : List ℕ) : Type 0 where
  pub texts : TextRooms bytes ends
  pub lines : length bytes + step_room * length ends ≤ length out

-- `place` lines are written, and those of the other steps are to come
pub record ToWrite (bundle steps bytes ends out : List ℕ) (place held : ℕ) : Type 0 where
  pub within : place ≤ length steps
  pub rest : AllFine bundle (drop place steps) bytes ends held
  pub rooms : LineRooms bytes ends out

pub record NextWanted (bundle steps bytes ends : List ℕ) (held : ℕ) : Type 0 where
  pub wanted : TextsWanted steps bytes ends
  pub rest : AllFine bundle steps bytes ends held

pub record LinesWanted (bundle steps bytes ends out : List ℕ) (place held : ℕ) : Type 0 where
  pub more : place < length steps
  pub left : ToWrite bundle steps bytes ends out place held

-- The lines of one step at least, which come next; the buffers hold their texts. What was to be written is these lines, and behind them what is to be written from the
-- next place on: so rounds one behind another, from place 0 until no step is left, are all lines in list order.
pub record MakesLines (bundle steps : List ℕ) (place : ℕ) (r : Lines) (bytes ends out out_exit : List ℕ) : Type 0 where
  pub holds : HoldsSome bundle (drop place steps) bytes ends r.steps
  pub lines : LeavesOutput (step_lines bundle (length steps) place (take r.steps (drop place steps))) out r.bytes out_exit
  pub on : step_lines bundle (length steps) place (drop place steps) ≡ take r.bytes out_exit ++ step_lines bundle (length steps) (place + r.steps) (drop (place + r.steps) steps)
