-- `report::hold_next` meets its contract.
use Rattle.report.proofs.Rounds.{next_held, next_or}
use Rattle.report.proofs.hold_next.Goals as goal

pub returns-then-held-ne0 : goal.returns-then-held-ne0
returns-then-held-ne0 c = next_held c.requires c.if-held-ne0.true

pub ask_texts-requires : goal.ask_texts-requires
ask_texts-requires c = c.requires.wanted

pub returns : goal.returns
returns c = rw c.unwrap_or.ensures (next_or c.requires _ _ _ c.ask_texts.ensures)
