-- `scan_dollars::dollar` meets its contract.
use native.Mathlib.Omega.{arith}
use Rattle.scan_dollars.specs.Element.{TellsElement}
use Rattle.scan_dollars.proofs.Elements.{nothing_begins, short_begins, brace_begins, join_begins, byte_begins, other_begins}
use Rattle.scan_dollars.proofs.dollar.Goals as goal

pub returns-then-s-at : goal.returns-then-s-at
unfolding TellsElement
returns-then-s-at c = nothing_begins c.args.s.now c.args.at c.if-s-at.true

pub returns-in-1 : goal.returns-in-1
unfolding TellsElement
returns-in-1 c = short_begins c.args.s.now c.if-s-at.false c.class_in.ensures c.in-1.is c.short_name-end.ensures

pub returns-in-10 : goal.returns-in-10
returns-in-10 c = brace_begins c.args.s.now c.if-s-at.false c.class_in.ensures c.braced.result c.in-10.is c.braced.ensures

pub returns-in-4 : goal.returns-in-4
unfolding TellsElement
returns-in-4 c = join_begins c.args.s.now c.if-s-at.false c.class_in.ensures c.in-4.is c.spaces.ensures

pub returns-in-5 : goal.returns-in-5
unfolding TellsElement
returns-in-5 c = byte_begins c.args.s.now c.if-s-at.false c.class_in.ensures (rw c.in-5.is)

pub returns-in-3 : goal.returns-in-3
unfolding TellsElement
returns-in-3 c = byte_begins c.args.s.now c.if-s-at.false c.class_in.ensures (rw c.in-3.is)

pub returns-in-6 : goal.returns-in-6
unfolding TellsElement
returns-in-6 c = byte_begins c.args.s.now c.if-s-at.false c.class_in.ensures (rw c.in-6.is)

pub returns-in_default : goal.returns-in_default
unfolding TellsElement
returns-in_default c =
    other_begins c.args.s.now c.if-s-at.false c.class_in.ensures (omega arith) (omega arith) (omega arith) (omega arith) (omega arith) (omega arith)
