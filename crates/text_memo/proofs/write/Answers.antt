-- `text_memo::write` meets its contract.
use Rattle.text_memo.proofs.Spans.{moved_writes}
use Rattle.text_memo.proofs.write.Goals as goal

pub returns : goal.returns
returns c = moved_writes c.put_bytes.ensures c.draft_at.ensures
