-- `scan_targets::name_at` meets its contract: a law for each way out.
use native.Mathlib.Omega.{arith}
use Rattle.scan_targets.proofs.Walk.{past_end, at_end, at_empty, at_long, at_name}
use Rattle.scan_targets.proofs.name_at.Goals as goal

pub returns-then-t-from : goal.returns-then-t-from
returns-then-t-from c = past_end _ _ c.if-t-from.true

pub returns-then-t-end : goal.returns-then-t-end
returns-then-t-end c = at_end c.line_end-end.ensures c.if-t-end.true

pub returns-then-end-from-lt1 : goal.returns-then-end-from-lt1
returns-then-end-from-lt1 c = at_empty c.line_end-end.ensures c.if-t-end.false (omega arith)

pub returns-then-end-from-gt-PATH : goal.returns-then-end-from-gt-PATH
returns-then-end-from-gt-PATH c = at_long c.line_end-end.ensures c.if-t-end.false (omega arith)

pub returns : goal.returns
returns c = at_name c.line_end-end.ensures c.if-t-end.false (omega arith) (omega arith)
