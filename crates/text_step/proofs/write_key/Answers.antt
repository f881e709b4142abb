-- `text_step::write_key` meets its contract.
use Rattle.text_step.proofs.Wanting.{number_low, key_asked, key_written}
use Rattle.text_step.proofs.write_key.Goals as goal

pub key_name-requires : goal.key_name-requires
key_name-requires c = (c.key_names-keys.ensures, number_low c.args.key c.number_of-k.ensures)

pub write_whole-requires : goal.write_whole-requires
write_whole-requires c = key_asked c.args.key c.number_of-k.ensures c.key_name.ensures c.is_plain-plain.result c.requires

pub returns : goal.returns
returns c = key_written c.args.key c.number_of-k.ensures c.key_name.ensures c.is_plain-plain.ensures c.write_whole.ensures
