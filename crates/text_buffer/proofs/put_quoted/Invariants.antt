use Rattle.text_buffer.proofs.Quoting.{Copying}
use Rattle.text_buffer.proofs.put_quoted.Given as goal

abbrev pub invariant-loop-i : goal.invariant-loop-i
invariant-loop-i l = Copying l.name l.initial.buffer l.place l.buffer l.i
