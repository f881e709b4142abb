-- `scan_card_lookup::order_at` meets its contract.
use Rattle.scan_card_lookup.proofs.order_at.Goals as goal

pub returns : goal.returns
returns c = rw (c.requires.name, ← c.word.ensures.is, ← c.word-2.ensures.is, ← c.word-3.ensures.is) c.compare.ensures
