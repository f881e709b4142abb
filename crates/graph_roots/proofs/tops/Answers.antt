-- `graph_roots::tops` meets its contract.
use Rattle.graph_roots.proofs.Gathering.{gather_begin, gather_ask, gather_more, gather_end}
use borrow.Author.Rules.{rules}
use Rattle.graph_roots.proofs.tops.Goals as goal

pub mark_inputs-requires : goal.mark_inputs-requires
mark_inputs-requires c = record { sound = c.requires.sound; blank = c.requires.blank }

pub loop-s-init : goal.loop-s-init
loop-s-init c = gather_begin

pub outs-requires : goal.outs-requires
outs-requires c = c.requires.sound.placed c.loop-s.s c.loop-s-test.true

pub append_unmarked-k-requires : goal.append_unmarked-k-requires
append_unmarked-k-requires c = gather_ask c.requires c.mark_inputs.ensures c.loop-s.invariant c.loop-s-test.true c.outs.ensures

pub loop-s-preserved : goal.loop-s-preserved
loop-s-preserved c = gather_more c.requires c.mark_inputs.ensures c.loop-s.invariant c.loop-s-test.true c.outs.ensures c.append_unmarked-k.ensures

pub shape_of-out : goal.shape_of-out
shape_of-out c = c.loop-s.invariant.long

pub returns : goal.returns
returns c = record { space = record { long = (search rules) }; promise = gather_end c.requires c.mark_inputs.ensures c.loop-s.invariant c.loop-s-test.false }
