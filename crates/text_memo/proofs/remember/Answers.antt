-- `text_memo::remember` meets its contract.
use Rattle.text_memo.proofs.Spans.{remember_key, remember_nothing}
use Rattle.text_memo.proofs.remember.Goals as goal

pub returns-then-k-ge-RULE_KEYS : goal.returns-then-k-ge-RULE_KEYS
returns-then-k-ge-RULE_KEYS c = let a = c.args in remember_nothing a.d a.name.now a.from

pub returns : goal.returns
returns c = let a = c.args in remember_key a.d a.name.now a.from c.key_number-k.ensures c.if-k-ge-RULE_KEYS.false
