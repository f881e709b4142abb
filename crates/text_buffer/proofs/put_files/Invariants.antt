use Rattle.spec.specs.Text.{spelled_by}
use Rattle.text_buffer.proofs.Joining.{Joining}
use Rattle.text_buffer.proofs.put_files.Given as goal

abbrev pub invariant-loop-i : goal.invariant-loop-i
invariant-loop-i l = Joining l.names l.index l.count l.fs l.separator (spelled_by l.plain) l.initial.buffer l.place l.buffer l.n l.i
