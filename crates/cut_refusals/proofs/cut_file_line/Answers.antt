-- `cut_refusals::cut_file_line` meets its contract.
use Rattle.std.specs.Prelude.{Ok}
use mathlib.Core.Bool.{true, false}
use mathlib.Core.Path.{◌≡◌, subst}
use Rattle.spec.specs.declared.Refusal.TheVariants.{BadLine}
use Rattle.spec.specs.Lines.{Line}
use Rattle.spec.specs.Forms.{cut_statement}
use Rattle.cut_forms.specs.declared.Statement.{Statement}
use Rattle.cut_forms.specs.declared.Statement.TheVariants.{Rule, Build, Default, Open, Binding}
use Rattle.cut_forms.specs.Statements.{RuleAt, BuildAt, DefaultAt, OpenAt, BindingAt, StatementAt}
use Rattle.scan_cursor.specs.Spans.{line_of}
use Rattle.cut_refusals.specs.Cuts.{Wrong, FileLineAt}
use Rattle.cut_refusals.proofs.Dollars.{sound_statement}
use Rattle.cut_refusals.proofs.Cut.{line_wrong, line_open, line_binds, fault_near}
use Rattle.cut_refusals.proofs.cut_file_line.Goals as goal

whole : (l : Line) (s : Statement) → StatementAt l.text (cut_statement l.text) (Ok s) → l.ended ≡ true → FileLineAt l (Ok s)
unfolding StatementAt FileLineAt
whole l (Rule from to) a e = (e, a)
whole l (Build p) a e = (e, a)
whole l (Default at) a e = (e, a)
whole l (Open sub from to) a e = (e, a)
whole l (Binding from to at) a e = line_binds l (sound_statement _) a e

broken : (l : Line) (s : Statement) → StatementAt l.text (cut_statement l.text) (Ok s) → l.ended ≡ false → Wrong l (cut_statement l.text) (BadLine l.start)
unfolding StatementAt
broken l (Rule from to) a e = let b : RuleAt _ _ _ _ = a in line_open l b.cut e
broken l (Build p) a e = let b : BuildAt _ _ _ = a in line_open l b.cut e
broken l (Default at) a e = let b : DefaultAt _ _ _ = a in line_open l b.cut e
broken l (Open sub from to) a e = let b : OpenAt _ _ _ _ _ = a in line_open l b.cut e
broken l (Binding from to at) a e = let b : BindingAt _ _ _ _ _ = a in line_open l b.cut e

pub returns-in-Ok : goal.returns-in-Ok
returns-in-Ok c = whole (line_of _ _ _) _ (subst (StatementAt _ _) c.in-Ok.is c.cut_statement.ensures) c.if-ended.true

pub returns-in-Ok-2 : goal.returns-in-Ok-2
unfolding FileLineAt
returns-in-Ok-2 c = broken (line_of _ _ _) _ (subst (StatementAt _ _) c.in-Ok.is c.cut_statement.ensures) c.if-ended.false

pub refusal-requires : goal.refusal-requires
unfolding StatementAt
refusal-requires c = fault_near _ _ _ c.requires.near (subst (StatementAt _ _) c.in-Err.is c.cut_statement.ensures)

pub returns-in-Err : goal.returns-in-Err
unfolding StatementAt FileLineAt
returns-in-Err c = rw c.refusal.ensures (line_wrong (line_of _ _ _) _ (subst (StatementAt _ _) c.in-Err.is c.cut_statement.ensures))
