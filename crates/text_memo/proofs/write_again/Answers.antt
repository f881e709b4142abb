-- `text_memo::write_again` meets its contract.
use Rattle.text_memo.proofs.Spans.{moved_writes}
use Rattle.text_memo.proofs.write_again.Goals as goal

pub returns : goal.returns
returns c = moved_writes c.put_again.ensures c.draft_at.ensures
