-- `ask_header_graph::split_lists` meets its contract.
use Rattle.ask_header_graph.proofs.Splitting.{split_begin, split_more, split_end}
use native.Mathlib.Omega.{arith}
use Rattle.ask_header_graph.proofs.split_lists.Goals as goal

pub loop-s-init : goal.loop-s-init
loop-s-init c = split_begin c.requires

pub listed_number-n-requires : goal.listed_number-n-requires
listed_number-n-requires c = omega (arith, c.loop-s.invariant.asks.long, c.loop-s.invariant.asks.few, c.loop-s-test.true)

pub put-requires-in-loop-s : goal.put-requires-in-loop-s
put-requires-in-loop-s c = let z = c.loop-s.invariant.asks.small c.loop-s.s c.loop-s-test.true in omega (arith, z, c.listed_number-n.ensures, c.loop-s.invariant.asks.listed_long, c.loop-s-test.true)

pub loop-s-preserved : goal.loop-s-preserved
loop-s-preserved c = split_more c.loop-s.invariant c.loop-s-test.true c.listed_number-n.ensures c.put.ensures c.put-in-loop-s.ensures

pub returns : goal.returns
returns c = split_end c.loop-s.invariant c.loop-s-test.false
