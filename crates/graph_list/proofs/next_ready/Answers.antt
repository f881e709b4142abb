-- `graph_list::next_ready` meets its contract.
use mathlib.Core.Path.{refl, ◌∙◌, sym}
use Rattle.graph_list.proofs.Passing.{pass_begin, pass_ask, pass_more, pass_found, pass_none}
use Rattle.graph_list.proofs.next_ready.Goals as goal

pub loop-s-init : goal.loop-s-init
loop-s-init c = pass_begin c.requires

pub look-best-requires : goal.look-best-requires
look-best-requires c = pass_ask c.requires c.loop-s.invariant c.loop-s-test.true refl

pub loop-s-preserved : goal.loop-s-preserved
loop-s-preserved c = pass_more c.requires.sorted c.loop-s.invariant c.loop-s-test.true refl c.look-best.ensures

pub shape_of-clear : goal.shape_of-clear
shape_of-clear c = c.loop-s.invariant.long ∙ sym c.requires.long

pub returns-then-best-pending : goal.returns-then-best-pending
returns-then-best-pending c = pass_found c.loop-s.invariant c.loop-s-test.false c.if-best-pending.true

pub returns : goal.returns
returns c = pass_none c.loop-s.invariant c.loop-s-test.false c.if-best-pending.false
