-- `text_buffer::is_safe` meets its contract.
use Rattle.text_buffer.proofs.Quoting.{safe_low_letter, safe_underscore, safe_high_letter, safe_digit, safe_plus}
use Rattle.text_buffer.proofs.is_safe.Goals as goal

pub returns-then-b-ge97 : goal.returns-then-b-ge97
returns-then-b-ge97 c = safe_low_letter c.args.b c.if-b-ge97.true

pub returns-then-b-eq95 : goal.returns-then-b-eq95
returns-then-b-eq95 c = safe_underscore c.args.b c.if-b-eq95.true

pub returns-then-b-ge65 : goal.returns-then-b-ge65
returns-then-b-ge65 c = safe_high_letter c.args.b c.if-b-ge97.false c.if-b-eq95.false c.if-b-ge65.true

pub returns-then-b-ge45 : goal.returns-then-b-ge45
returns-then-b-ge45 c = safe_digit c.args.b c.if-b-ge65.false c.if-b-ge45.true

pub returns : goal.returns
returns c = safe_plus c.args.b c.if-b-ge45.false
