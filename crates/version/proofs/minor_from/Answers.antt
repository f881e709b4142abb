-- `version::minor_from` meets its contract.
use Rattle.version.specs.Version.{minor_from}
use Rattle.version.proofs.Steps.{none_read, last_read, one_read}
use Rattle.version.proofs.minor_from.Goals as goal

pub returns-in_err-minor : goal.returns-in_err-minor
unfolding minor_from
returns-in_err-minor c = rw (none_read _ c.number.ensures c.in_err-minor.was) c.from_residual.ensures

pub returns-then-i-s : goal.returns-then-i-s
unfolding minor_from
returns-then-i-s c = rw (one_read _ c.number.ensures c.in_ok-minor.was c.if-i-s.true) c.patch_from.ensures

pub returns : goal.returns
unfolding minor_from
returns c = rw (last_read _ c.number.ensures c.in_ok-minor.was c.if-i-s.false)
