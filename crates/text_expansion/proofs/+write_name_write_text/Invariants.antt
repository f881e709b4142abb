use Rattle.std.proofs.Common.{◌-◌, ◌+◌, ◌*◌, length}
use Rattle.hold_reading.specs.ReadBuffers.{buffers_of}
use Rattle.text_expansion.proofs.Writing.{Writing}
use Rattle.text_expansion.proofs.+write_name_write_text.Given as goal

abbrev pub decreases-write_name : goal.decreases-write_name
decreases-write_name l = 2 * l.a.depth

abbrev pub decreases-write_text : goal.decreases-write_text
decreases-write_text l = 2 * l.a.depth + 1

abbrev pub invariant-write_text-loop-i : goal.invariant-write_text-loop-i
invariant-write_text-loop-i l = Writing l.t (buffers_of l.read) l.a l.raw l.initial.buffer l.initial.x l.buffer l.x l.i

abbrev pub decreases-write_text-loop-i : goal.decreases-write_text-loop-i
decreases-write_text-loop-i l = length l.raw - l.i
