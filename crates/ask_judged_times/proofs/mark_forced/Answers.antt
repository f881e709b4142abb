-- `ask_judged_times::mark_forced` meets its contract.
use mathlib.Core.Path.{sym, ◌∙◌}
use native.Mathlib.Omega.{arith}
use Rattle.std.proofs.lemmas.Grind.{common_steps}
use Rattle.ask_judged_times.proofs.Forcing.{force_begin, force_more, force_end}
use Rattle.ask_judged_times.proofs.mark_forced.Goals as goal

pub loop-s-init : goal.loop-s-init
loop-s-init c = force_begin c.requires

pub is_forced-forced-requires : goal.is_forced-forced-requires
is_forced-forced-requires c = (c.requires.asked, c.loop-s-test.true)

pub loop-s-preserved : goal.loop-s-preserved
loop-s-preserved c = force_more c.loop-s.invariant c.loop-s-test.true (grind (arith, common_steps))

pub shape_of-marks : goal.shape_of-marks
shape_of-marks c = c.loop-s.invariant.long ∙ sym c.requires.marks_long

pub returns : goal.returns
returns c = force_end c.loop-s.invariant c.loop-s-test.false
