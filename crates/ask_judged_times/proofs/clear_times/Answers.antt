-- `ask_judged_times::clear_times` meets its contract.
use mathlib.Core.Path.{sym, ◌∙◌}
use Rattle.ask_judged_times.proofs.Clearing.{clear_begin, clear_off, clear_on, clear_end}
use Rattle.ask_judged_times.proofs.clear_times.Goals.{then-marked_maker, else-marked_maker}
use Rattle.ask_judged_times.proofs.clear_times.Goals as goal

pub loop-f-init : goal.loop-f-init
loop-f-init c = clear_begin

pub marked_maker-requires : goal.marked_maker-requires
marked_maker-requires c = record { file = c.loop-f-test.true; maker = c.requires.makers c.loop-f.f c.loop-f-test.true }

pub loop-f-preserved : goal.loop-f-preserved
loop-f-preserved c = elim c.if-marked_maker.branch [
  | then-marked_maker w ↦ rw w.times-is (clear_off c.loop-f.invariant c.loop-f-test.true c.requires.timed (sym c.marked_maker.ensures ∙ w.if-marked_maker.true))
  | else-marked_maker w ↦ rw w.times-is (clear_on c.loop-f.invariant c.loop-f-test.true (sym c.marked_maker.ensures ∙ w.if-marked_maker.false))
]

pub shape_of-times : goal.shape_of-times
shape_of-times c = c.loop-f.invariant.long

pub returns : goal.returns
returns c = clear_end c.loop-f.invariant c.loop-f-test.false
