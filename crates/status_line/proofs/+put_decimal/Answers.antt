-- `put_decimal`, which calls itself, meets its contract. The measure is the number.
use Rattle.status_line.proofs.Decimal.{decimal_more, after_over, last_digit, only_digit}
use Rattle.status_line.proofs.+put_decimal.Goals as goal

pub returns-then-n-lt10 : goal.returns-then-n-lt10
returns-then-n-lt10 t c = only_digit c.args.n c.if-n-lt10.true c.digit.ensures c.put_byte.ensures

pub returns-then-next-gt-TEXT : goal.returns-then-next-gt-TEXT
returns-then-next-gt-TEXT t c = after_over _ (decimal_more c.args.n c.if-n-lt10.false) c.put_decimal-next.ensures c.if-next-gt-TEXT.true

pub returns : goal.returns
returns t c = last_digit c.args.n c.if-n-lt10.false c.digit-2.ensures c.put_decimal-next.ensures c.if-next-gt-TEXT.false c.put_byte-2.ensures
