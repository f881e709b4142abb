-- `plan::answer` meets its contract.
use mathlib.Core.Path.{sym}
use lib.Seq.{length-take-le}
use Rattle.report.proofs.Beginning.{whole_within, refusal_within, steps_within, steps_held}
use Rattle.report.proofs.Rounds.{rounds_start, rooms_kept}
use Rattle.plan.proofs.answer.Goals as goal

pub begin-requires : goal.begin-requires
begin-requires g c = c.requires.rooms

pub slice_bounds-write-end : goal.slice_bounds-write-end
slice_bounds-write-end g c = whole_within c.begin.new.list c.begin.new.line c.in-Whole.is c.begin.ensures.within

pub slice_bounds-write-end-in-Whole : goal.slice_bounds-write-end-in-Whole
slice_bounds-write-end-in-Whole g c = sym (length-take-le _ c.begin.new.line (whole_within c.begin.new.list c.begin.new.line c.in-Whole.is c.begin.ensures.within))

pub slice_bounds-write-end-in-Refusal : goal.slice_bounds-write-end-in-Refusal
slice_bounds-write-end-in-Refusal g c = refusal_within c.begin.new.list c.begin.new.line c.in-Refusal.is c.begin.ensures.within

pub slice_bounds-write-end-in-Refusal-2 : goal.slice_bounds-write-end-in-Refusal-2
slice_bounds-write-end-in-Refusal-2 g c = sym (length-take-le _ c.begin.new.line (refusal_within c.begin.new.list c.begin.new.line c.in-Refusal.is c.begin.ensures.within))

pub slice_bounds-write_steps-end : goal.slice_bounds-write_steps-end
slice_bounds-write_steps-end g c = steps_within c.begin.new.list c.begin.new.line c.in-Steps.is c.begin.ensures.within

pub slice_bounds-write_steps-end-in-Steps : goal.slice_bounds-write_steps-end-in-Steps
slice_bounds-write_steps-end-in-Steps g c = sym (length-take-le _ c.begin.new.list (steps_within c.begin.new.list c.begin.new.line c.in-Steps.is c.begin.ensures.within))

pub write_steps-requires : goal.write_steps-requires
write_steps-requires g c = rounds_start (steps_held c.args.bundle.now c.begin.new.list c.begin.new.bytes c.begin.new.ends c.in-Steps.is c.begin.ensures.held) (rooms_kept c.begin.auto.bytes c.begin.auto.ends c.begin.auto.line c.requires.lines)
