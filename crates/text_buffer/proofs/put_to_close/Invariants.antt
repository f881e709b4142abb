use Rattle.text_buffer.proofs.Quoting.{ToClose}
use Rattle.text_buffer.proofs.put_to_close.Given as goal

abbrev pub invariant-loop-b : goal.invariant-loop-b
invariant-loop-b l = ToClose l.name l.initial.buffer l.place l.buffer l.n l.b-index
