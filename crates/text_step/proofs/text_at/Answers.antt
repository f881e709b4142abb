-- `text_step::text_at` meets its contract.
use Rattle.text_step.proofs.Wanting.{leads_asked}
use Rattle.text_step.proofs.Answering.{in_endless, wants, in_long, in_text_law}
use Rattle.text_step.proofs.text_at.Goals as goal

pub leads_back-requires : goal.leads_back-requires
leads_back-requires c = leads_asked c.requires

pub returns-then-leads_back : goal.returns-then-leads_back
returns-then-leads_back c = let a = c.args in in_endless a.key c.requires c.leads_back.ensures c.if-leads_back.true c.zero_bytes_from.ensures

pub write_key-n-requires : goal.write_key-n-requires
write_key-n-requires c = let a = c.args in wants a.key c.requires c.leads_back.ensures c.if-leads_back.false

pub returns-then-n-gt-TEXT : goal.returns-then-n-gt-TEXT
returns-then-n-gt-TEXT c = let a = c.args in in_long a.key c.requires c.leads_back.ensures c.if-leads_back.false c.write_key-n.ensures c.if-n-gt-TEXT.true c.zero_bytes_from-then-n-gt-TEXT.ensures

pub returns : goal.returns
returns c = let a = c.args in in_text_law a.key c.requires c.leads_back.ensures c.if-leads_back.false c.write_key-n.ensures c.if-n-gt-TEXT.false c.zero_bytes_from-2.ensures
