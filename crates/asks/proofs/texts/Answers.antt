-- `asks::texts` meets its contract.
use Rattle.asks.proofs.Short.{short_texts}
use Rattle.asks.proofs.texts.Goals as goal

pub returns-then-bytes-lt-TEXT : goal.returns-then-bytes-lt-TEXT
returns-then-bytes-lt-TEXT c = short_texts c.args.manifest.now c.args.steps.now c.args.wanted c.args.bytes.now c.args.ends.now c.if-bytes-lt-TEXT.true
