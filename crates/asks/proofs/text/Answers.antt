-- `asks::text` meets its contract.
use Rattle.spec.proofs.Demands.{text_demands}
use Rattle.asks.proofs.Short.{short_text}
use borrow.Author.Rules.{rules}
use Rattle.asks.proofs.text.Goals as goal

pub returns-then-buffer-lt-TEXT : goal.returns-then-buffer-lt-TEXT
returns-then-buffer-lt-TEXT c = text_demands _ _ _ _ _ _ (short_text c.args.manifest.now c.args.step c.args.wanted c.args.buffer.now c.if-buffer-lt-TEXT.true)

pub returns : goal.returns
returns c = text_demands _ _ _ _ _ _ (search rules)
