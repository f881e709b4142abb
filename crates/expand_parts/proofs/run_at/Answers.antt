-- `expand_parts::run_at` meets its contract.
use native.Mathlib.Omega.{arith}
use Rattle.scan_dollars.proofs.Answers.{tells_byte, tells_join, tells_name, tells_bad}
use Rattle.expand_parts.proofs.Begin.{plain_begins, literal_begins, join_begins, name_begins, none_begins}
use Rattle.expand_parts.proofs.run_at.Goals as goal

pub returns-then-raw-i-ne36 : goal.returns-then-raw-i-ne36
returns-then-raw-i-ne36 c = plain_begins _ _ _ _ _ c.requires.0 c.requires.1.sound c.if-raw-i-ne36.true c.find-end.ensures

pub slice_bounds-variable-count : goal.slice_bounds-variable-count
slice_bounds-variable-count c = let f = tells_name _ _ _ _ c.dollar.ensures c.in-Name.is in omega (arith, f.ordered)

pub slice_bounds-variable-start : goal.slice_bounds-variable-start
slice_bounds-variable-start c = let f = tells_name _ _ _ _ c.dollar.ensures c.in-Name.is in omega (arith, f.ordered)

pub slice_bounds-variable-end : goal.slice_bounds-variable-end
slice_bounds-variable-end c = let f = tells_name _ _ _ _ c.dollar.ensures c.in-Name.is in omega (arith, f.before, f.found.within)

pub returns-in-Byte : goal.returns-in-Byte
returns-in-Byte c = literal_begins _ _ _ _ _ c.requires.0 c.requires.1.sound c.if-raw-i-ne36.false (tells_byte _ _ _ _ c.dollar.ensures c.in-Byte.is)

pub returns-in-Join : goal.returns-in-Join
returns-in-Join c = join_begins _ _ _ _ _ c.requires.0 c.requires.1.sound c.if-raw-i-ne36.false (tells_join _ _ _ _ c.dollar.ensures c.in-Join.is)

pub returns-in-Name : goal.returns-in-Name
returns-in-Name c = name_begins _ _ _ _ _ c.requires.0 c.requires.1.sound c.if-raw-i-ne36.false (tells_name _ _ _ _ c.dollar.ensures c.in-Name.is) (c.variable.ensures c.args.raw.now)

pub returns-in-Bad : goal.returns-in-Bad
returns-in-Bad c = none_begins _ _ _ _ _ c.requires.0 c.requires.1.sound c.if-raw-i-ne36.false (tells_bad _ _ _ _ c.dollar.ensures c.in-Bad.is)
