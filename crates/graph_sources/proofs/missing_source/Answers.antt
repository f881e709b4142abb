-- `graph_sources::missing_source` meets its contract.
use mathlib.Core.Path.{refl}
use Rattle.hold_columns.proofs.Held.{inputs_low}
use Rattle.graph_sources.proofs.Absent.{lowest_begin, lowest_more, found_end, none_end}
use Rattle.graph_sources.proofs.missing_source.Goals as goal

pub lowest_absent-low-requires : goal.lowest_absent-low-requires
lowest_absent-low-requires c = (c.requires.roots_low, c.requires.timed)

pub loop-s-init : goal.loop-s-init
loop-s-init c = lowest_begin c.lowest_absent-low.ensures

pub inputs-fs-requires : goal.inputs-fs-requires
inputs-fs-requires c = c.requires.placed c.loop-s.s-index c.loop-s-test.true

pub lowest_absent-low-requires-in-loop-s : goal.lowest_absent-low-requires-in-loop-s
lowest_absent-low-requires-in-loop-s c = (inputs_low c.requires.low _ _ c.inputs-fs.ensures, c.requires.timed)

pub loop-s-preserved : goal.loop-s-preserved
loop-s-preserved c = lowest_more c.loop-s.invariant c.loop-s-test.true refl c.inputs-fs.ensures c.lowest_absent-low-in-loop-s.ensures

pub returns-then-low-made : goal.returns-then-low-made
returns-then-low-made c = found_end c.loop-s.invariant c.loop-s-test.false c.if-low-made.true

pub returns : goal.returns
returns c = none_end c.loop-s.invariant c.loop-s-test.false c.if-low-made.false
