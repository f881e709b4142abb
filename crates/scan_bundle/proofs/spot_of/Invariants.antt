use Rattle.scan_bundle.proofs.Places.{Spotting}
use Rattle.scan_bundle.proofs.spot_of.Given as goal

abbrev pub invariant-loop-k : goal.invariant-loop-k
invariant-loop-k l = Spotting l.b l.place l.left l.k
