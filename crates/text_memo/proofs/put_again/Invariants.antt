use Rattle.text_memo.proofs.Again.{Copying}
use Rattle.text_memo.proofs.put_again.Given as goal

abbrev pub invariant-loop-i : goal.invariant-loop-i
invariant-loop-i l = Copying l.initial.buffer l.from l.to l.place l.buffer l.i l.n
