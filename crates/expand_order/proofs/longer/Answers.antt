-- `expand_order::longer` meets its contract.
use Prim.Native.Nat.{ℕ, ◌<◌}
use mathlib.Core.Path.{◌≡◌}
use native.Mathlib.Omega.{arith}
use borrow.Author.Tests.{lt-ltb, le-ltb}
use Rattle.std.specs.Cmp.{ranked}
use Rattle.std.specs.Ordering.{nat_cmp}
use Rattle.std.specs.declared.cmp.Ordering.{Ordering}
use Rattle.std.specs.declared.cmp.Ordering.TheVariants.{Less, Equal, Greater}
use Rattle.expand_order.specs.Ahead.{order_lengths}
use Rattle.expand_order.proofs.longer.Goals as goal

ranks : (i j : ℕ) (o : Ordering) → o ≡ nat_cmp i j → o ≡ order_lengths i j
unfolding order_lengths
ranks i j Less e = let l : i < j = ranked _ _ Less e in rw (lt-ltb i j l)
ranks i j Equal e = let l : i ≡ j = ranked _ _ Equal e in rw (le-ltb i j (omega arith), le-ltb j i (omega arith))
ranks i j Greater e = let l : j < i = ranked _ _ Greater e in rw (le-ltb i j (omega arith), lt-ltb j i l)

pub returns : goal.returns
returns c = ranks _ _ _ c.cmp.ensures
