use mathlib.Core.Path.{◌≡◌}
use Rattle.test_scan.proofs.Adding.{Adding}
use lib.ListN.{length}
use Prim.Native.Nat.{◌-◌}
use Rattle.test_scan.proofs.name_tables.add_all.Given as goal

abbrev pub invariant-loop-n : goal.invariant-loop-n
invariant-loop-n l = (length l.index ≡ length l.initial.index) × Adding l.list (length l.initial.names) l.initial.numbers l.from l.count l.n l.names l.index l.numbers

abbrev pub decreases-loop-n : goal.decreases-loop-n
decreases-loop-n l = length l.initial.numbers - l.n
