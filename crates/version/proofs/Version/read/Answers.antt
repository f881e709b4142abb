-- `Version::read` meets its contract.
use Rattle.version.specs.Version.{read_version, major_from}
use Rattle.version.proofs.Steps.{none_read, last_read, one_read}
use Rattle.version.proofs.Version.read.Goals as goal

pub returns-in_err-major : goal.returns-in_err-major
unfolding read_version major_from
returns-in_err-major c = rw (none_read _ c.number.ensures c.in_err-major.was) c.from_residual.ensures

pub returns-then-i-s : goal.returns-then-i-s
unfolding read_version major_from
returns-then-i-s c = rw (one_read _ c.number.ensures c.in_ok-major.was c.if-i-s.true) c.minor_from.ensures

pub returns : goal.returns
unfolding read_version major_from
returns c = rw (last_read _ c.number.ensures c.in_ok-major.was c.if-i-s.false)
