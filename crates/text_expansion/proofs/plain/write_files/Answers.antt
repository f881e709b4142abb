-- `text_expansion::plain::write_files` meets its contract.
use Rattle.text_memo.proofs.Spans.{moved_writes}
use Rattle.text_expansion.proofs.Plainly.{part_ask}
use Rattle.text_expansion.proofs.plain.write_files.Goals as goal

pub put_files-n-requires : goal.put_files-n-requires
put_files-n-requires c = part_ask c.requires

pub returns : goal.returns
returns c = λ files h. moved_writes (c.put_files-n.ensures files h) c.draft_at.ensures
