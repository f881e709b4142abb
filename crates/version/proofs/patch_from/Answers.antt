-- `version::patch_from` meets its contract.
use Rattle.version.specs.Version.{patch_from}
use Rattle.version.proofs.Steps.{none_read, last_read, one_read}
use Rattle.version.proofs.patch_from.Goals as goal

pub returns-in_err-patch : goal.returns-in_err-patch
unfolding patch_from
returns-in_err-patch c = rw (none_read _ c.number.ensures c.in_err-patch.was) c.from_residual.ensures

pub returns-then-end-s : goal.returns-then-end-s
unfolding patch_from
returns-then-end-s c = rw (one_read _ c.number.ensures c.in_ok-patch.was c.if-end-s.true)

pub returns : goal.returns
unfolding patch_from
returns c = rw (last_read _ c.number.ensures c.in_ok-patch.was c.if-end-s.false)
