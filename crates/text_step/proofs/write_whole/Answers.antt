-- `text_step::write_whole` meets its contract.
use Rattle.text_step.proofs.Wanting.{whole_asked, whole_written}
use Rattle.text_step.proofs.write_whole.Goals as goal

pub write_name-x-requires : goal.write_name-x-requires
write_name-x-requires c = whole_asked c.requires c.blank-d.ensures

pub returns : goal.returns
returns c = whole_written c.requires c.blank-d.ensures c.write_name-x.ensures
