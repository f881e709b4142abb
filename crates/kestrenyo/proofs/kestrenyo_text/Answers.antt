-- `kestrenyo_text` meets its contract: what the ask ensures, with three numbers for the answer and one for what is wanted.
use Rattle.kestrenyo.proofs.Telling.{tells_text}
use Rattle.kestrenyo.proofs.kestrenyo_text.Goals as goal

pub returns : goal.returns
returns c = tells_text _ c.of_reply.ensures.text c.locate.ensures (rw c.wanted_of.ensures at c.text.ensures)
