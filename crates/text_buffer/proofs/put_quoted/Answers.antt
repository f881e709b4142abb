-- `text_buffer::put_quoted` meets its contract.
use mathlib.Core.Path.{sym, ◌∙◌}
use Rattle.text_buffer.proofs.Quoting.{quoted_long, copy_begin, copy_open, copy_on, copy_quoted, copy_end}
use Rattle.text_buffer.proofs.put_quoted.Goals as goal

pub returns-then-place-name : goal.returns-then-place-name
returns-then-place-name c = quoted_long c.args.buffer.now c.args.place c.args.name.now c.if-place-name.true

pub loop-i-init : goal.loop-i-init
loop-i-init c = copy_begin c.args.name.now c.requires c.if-place-name.false

pub put_in_quotes-requires : goal.put_in_quotes-requires
put_in_quotes-requires c = copy_open c.loop-i.invariant

pub returns-then-not-is_safe : goal.returns-then-not-is_safe
returns-then-not-is_safe c = copy_quoted c.loop-i.invariant c.loop-i-test.true (sym c.is_safe.ensures ∙ c.if-not-is_safe.true) c.requires c.put_in_quotes.ensures

pub loop-i-preserved : goal.loop-i-preserved
loop-i-preserved c = copy_on c.loop-i.invariant c.loop-i-test.true (sym c.is_safe.ensures ∙ c.if-not-is_safe.false)

pub returns : goal.returns
returns c = copy_end c.loop-i.invariant c.loop-i-test.false c.loop-i.auto.i-end
