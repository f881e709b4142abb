-- `cut_forms::paths::next_listed` meets its contract.
use mathlib.Core.Logic.{inl, inr}
use Rattle.scan_raw.proofs.Answers.{next_stop, next_path, next_bad}
use Rattle.cut_forms.specs.Paths.{NextListed}
use Rattle.cut_forms.proofs.Walks.{walk_stop, walk_bad}
use Rattle.cut_forms.proofs.paths.next_listed.Goals as goal

pub returns-in-Path : goal.returns-in-Path
unfolding NextListed
returns-in-Path c = next_path _ _ _ c.next_path.ensures c.in-Path.is

pub returns-in-Stop : goal.returns-in-Stop
unfolding NextListed
returns-in-Stop c = λ ps w. elim c.in-Stop.is [
  | inl (x, e) ↦ walk_stop (next_stop _ _ _ c.next_path.ensures e) w
  | inr (x, e) ↦ walk_bad (next_bad _ _ _ c.next_path.ensures e) w
]
