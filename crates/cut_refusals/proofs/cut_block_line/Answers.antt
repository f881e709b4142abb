-- `cut_refusals::cut_block_line` meets its contract.
use mathlib.Core.Path.{subst}
use Rattle.cut_forms.specs.Statements.{BindingAt, AssignmentAt}
use Rattle.scan_cursor.specs.Spans.{line_of}
use Rattle.cut_refusals.specs.Cuts.{BlockLineAt}
use Rattle.cut_refusals.proofs.Dollars.{sound_indented}
use Rattle.cut_refusals.proofs.Cut.{line_wrong, line_open, line_binds, fault_near}
use Rattle.cut_refusals.proofs.cut_block_line.Goals as goal

pub returns-in-Ok : goal.returns-in-Ok
unfolding AssignmentAt BlockLineAt
returns-in-Ok c = line_binds (line_of _ _ _) (sound_indented _) (subst (AssignmentAt _ _) c.in-Ok.is c.cut_indented.ensures) c.if-ended.true

pub returns-in-Ok-2 : goal.returns-in-Ok-2
unfolding AssignmentAt BlockLineAt
returns-in-Ok-2 c =
    let b : BindingAt _ _ _ _ _ = subst (AssignmentAt _ _) c.in-Ok.is c.cut_indented.ensures in
    line_open (line_of _ _ _) b.cut c.if-ended.false

pub refusal-requires : goal.refusal-requires
unfolding AssignmentAt
refusal-requires c = fault_near _ _ _ c.requires.near (subst (AssignmentAt _ _) c.in-Err.is c.cut_indented.ensures)

pub returns-in-Err : goal.returns-in-Err
unfolding AssignmentAt BlockLineAt
returns-in-Err c = rw c.refusal.ensures (line_wrong (line_of _ _ _) _ (subst (AssignmentAt _ _) c.in-Err.is c.cut_indented.ensures))
