-- `text_memo::draft_at` meets its contract.
use Rattle.text_memo.proofs.Spans.{moved_to_law}
use Rattle.text_memo.proofs.draft_at.Goals as goal

pub returns : goal.returns
returns c = moved_to_law c.args.d c.args.at
