-- `text_memo::span_of` meets its contract.
use Rattle.text_memo.proofs.Spans.{span_key, span_none}
use Rattle.text_memo.proofs.span_of.Goals as goal

pub returns-then-k-lt-RULE_KEYS : goal.returns-then-k-lt-RULE_KEYS
returns-then-k-lt-RULE_KEYS c = let a = c.args in span_key a.d a.name.now c.key_number-k.ensures c.if-k-lt-RULE_KEYS.true

pub returns : goal.returns
returns c = let a = c.args in span_none a.d a.name.now c.key_number-k.ensures c.if-k-lt-RULE_KEYS.false
