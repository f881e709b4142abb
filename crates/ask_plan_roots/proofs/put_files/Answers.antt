-- `ask_plan_roots::put_files` meets its contract.
use mathlib.Core.Path.{ap}
use mathlib.Core.List.{List, ◌++◌}
use Prim.Native.Nat.{ℕ}
use lib.ListN.{length, drop}
use Rattle.ask_plan_roots.proofs.Choosing.{put_all}
use Rattle.ask_plan_roots.proofs.put_files.Goals as goal

pub returns : goal.returns
returns c = put_all c.requires (ap (λ (z : List ℕ). z ++ drop (length c.args.fs.now) c.args.out.now) c.copy_from_slice.ensures.after)
