-- `scan_bundle::part_at` meets its contract.
use Rattle.scan_bundle.proofs.Lying.{part_lies}
use Rattle.scan_bundle.proofs.part_at.Goals as goal

pub returns : goal.returns
returns c = part_lies _ _ c.word.ensures.is c.word-2.ensures.is c.word-3.ensures.is
