-- `scan_depfile::target_is` meets its contract.
use mathlib.Core.Bool.{true}
use Rattle.scan_depfile.specs.Answers.{TargetIs}
use Rattle.scan_depfile.proofs.Told.{name_in, name_over}
use Rattle.scan_depfile.proofs.Naming.{matching_begin, matching_on, matching_other, matching_short, matching_long, matching_end}
use Rattle.scan_depfile.proofs.target_is.Goals as goal

pub loop-k-init : goal.loop-k-init
loop-k-init c = matching_begin c.args.out.now c.requires

pub loop-k-preserved : goal.loop-k-preserved
loop-k-preserved c = matching_on c.loop-k.invariant c.loop-k-test.true (name_in true _ _ _ c.name_byte.ensures c.in_ok-b.was) c.if-b-out.false

pub returns-in_err-b : goal.returns-in_err-b
unfolding TargetIs
returns-in_err-b c = rw c.from_residual.ensures (matching_short c.loop-k.invariant c.loop-k-test.true (name_over true _ _ _ c.name_byte.ensures c.in_err-b.was))

pub returns-then-b-out : goal.returns-then-b-out
unfolding TargetIs
returns-then-b-out c = matching_other c.loop-k.invariant c.loop-k-test.true (name_in true _ _ _ c.name_byte.ensures c.in_ok-b.was) c.if-b-out.true

pub returns-in-Some : goal.returns-in-Some
unfolding TargetIs
returns-in-Some c = matching_long c.loop-k.invariant c.loop-k-test.false (name_in true _ _ _ c.name_byte-2.ensures c.in-Some.is)

pub returns-in-None : goal.returns-in-None
unfolding TargetIs
returns-in-None c = matching_end c.loop-k.invariant c.loop-k-test.false (name_over true _ _ _ c.name_byte-2.ensures c.in-None.is)
