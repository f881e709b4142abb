-- `text_lookup::lookup` meets its contract.
use mathlib.Core.Path.{sym, ◌∙◌}
use Rattle.text_lookup.proofs.Newest.{looks_inputs, looks_lines, looks_outputs, looks_on}
use Rattle.text_lookup.proofs.lookup.Goals as goal

pub returns-then-equal : goal.returns-then-equal
returns-then-equal c = looks_inputs c.args.name.now c.args.a (sym c.equal.ensures ∙ c.if-equal.true)

pub returns-then-equal-2 : goal.returns-then-equal-2
returns-then-equal-2 c = looks_lines c.args.name.now c.args.a (sym c.equal.ensures ∙ c.if-equal.false) (sym c.equal-2.ensures ∙ c.if-equal-2.true)

pub returns-then-equal-3 : goal.returns-then-equal-3
returns-then-equal-3 c = looks_outputs c.args.name.now c.args.a (sym c.equal.ensures ∙ c.if-equal.false) (sym c.equal-2.ensures ∙ c.if-equal-2.false) (sym c.equal-3.ensures ∙ c.if-equal-3.true)

pub returns : goal.returns
returns c = looks_on c.args.name.now c.args.a (sym c.equal.ensures ∙ c.if-equal.false) (sym c.equal-2.ensures ∙ c.if-equal-2.false) (sym c.equal-3.ensures ∙ c.if-equal-3.false) c.of_block.ensures
