-- `scan_cursor::put_line` meets its contract.
use native.Mathlib.Omega.{arith}
use lib.ListN.{length-set}
use Rattle.scan_cursor.specs.Found.{none, passed, put}
use Rattle.scan_cursor.proofs.put_line.Goals as goal

pub returns-then-s : goal.returns-then-s
returns-then-s c = passed (c.requires.past c.if-s.true) c.if-s.true

pub returns-then-s-2 : goal.returns-then-s-2
returns-then-s-2 c = none c.if-s-2.true

pub bounds-out-filled-2 : goal.bounds-out-filled-2
bounds-out-filled-2 c = rw length-set (omega (arith, c.requires.room))

pub returns : goal.returns
returns c = put c.if-s-2.false c.if-s.false
