-- `apply_files::path_over` meets its contract.
use Prim.Native.Nat.{◌+◌}
use native.Mathlib.Omega.{arith}
use borrow.Author.Tests.{lt-ltb, le-ltb}
use Rattle.spec.specs.Limits.{max_path, max_mentions}
use Rattle.apply_files.specs.Path.{path_over}
use Rattle.apply_files.proofs.path_over.Goals as goal

pub returns-then-n-gt-PATH : goal.returns-then-n-gt-PATH
unfolding path_over
returns-then-n-gt-PATH c = rw (lt-ltb max_path c.args.n (omega arith))

pub returns-then-c-ge-MENTIONS : goal.returns-then-c-ge-MENTIONS
unfolding path_over
returns-then-c-ge-MENTIONS c =
    let a = c.args in
    rw (le-ltb max_path a.n (omega arith), lt-ltb max_mentions (a.c.mentions + 1) (omega arith))

pub returns : goal.returns
unfolding path_over
returns c =
    let a = c.args in
    rw (le-ltb max_path a.n (omega arith), le-ltb max_mentions (a.c.mentions + 1) (omega arith))
