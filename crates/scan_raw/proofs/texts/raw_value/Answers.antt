-- `scan_raw::texts::raw_value` meets its contract.
use mathlib.Core.Path.{◌∙◌}
use Rattle.lists.specs.Parts.{part_to_end}
use Rattle.spec.specs.Forms.{raw_value}
use Rattle.scan_raw.proofs.texts.raw_value.Goals as goal

pub returns : goal.returns
unfolding raw_value
returns c = part_to_end c.args.s.now c.spaces-i.result ∙ c.spaces-i.ensures.rest
