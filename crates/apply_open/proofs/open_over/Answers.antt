use Rattle.apply_open.specs.Opens.{open_over}
use Rattle.spec.specs.Limits.{max_path}
use borrow.Author.Tests.{lt-ltb, le-ltb}
use native.Mathlib.Omega.{arith}
use Rattle.apply_open.proofs.open_over.Goals as goal

pub returns-then-n-gt-PATH : goal.returns-then-n-gt-PATH
unfolding open_over
returns-then-n-gt-PATH c = rw (lt-ltb max_path c.args.n (omega arith))

pub returns-else-n-gt-PATH : goal.returns-else-n-gt-PATH
unfolding open_over
returns-else-n-gt-PATH c = rw (le-ltb max_path c.args.n (omega arith))
