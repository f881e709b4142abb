-- `kestrenyo_texts` meets its contract: the ask's promise, with three numbers for the answer and one for what is wanted.
use mathlib.Core.Path.{◌∙◌}
use Rattle.kestrenyo.proofs.Telling.{says_texts, tells_texts}
use Rattle.kestrenyo.proofs.kestrenyo_texts.Goals as goal

pub returns : goal.returns
returns c = tells_texts _ _ _ _ _ _ _ _ _ _ _ (c.of_reply.ensures.text ∙ says_texts _) c.locate.ensures (rw c.wanted_of.ensures at c.texts.ensures)
