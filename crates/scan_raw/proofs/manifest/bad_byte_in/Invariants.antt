use Rattle.scan_raw.proofs.Bytes.{Checking}
use Rattle.scan_raw.proofs.manifest.bad_byte_in.Given as goal

abbrev pub invariant-loop-i : goal.invariant-loop-i
invariant-loop-i l = Checking l.m l.last l.i
