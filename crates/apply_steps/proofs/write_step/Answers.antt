-- `apply_steps::write_step` meets its contract.
use borrow.Author.Rules.{rules}
use native.Mathlib.Omega.{arith}
use Rattle.apply_steps.proofs.Outcomes.{write_many, write_over, write_goes, write_four, write_rule, write_scopes, write_columns}
use Rattle.apply_steps.proofs.write_step.Goals as goal

pub returns-then-c-ge-STEPS : goal.returns-then-c-ge-STEPS
returns-then-c-ge-STEPS c = record { space = search rules; promise = write_many c.args.s.start (omega (arith, c.if-c-ge-STEPS.true)) }

pub four-requires : goal.four-requires
four-requires c = write_four c.requires (omega (arith, c.if-c-ge-STEPS.false))

pub slice_bounds-rule_number-count : goal.slice_bounds-rule_number-count
slice_bounds-rule_number-count c = omega (arith, c.requires.stands.ordered)

pub slice_bounds-rule_number-start : goal.slice_bounds-rule_number-start
slice_bounds-rule_number-start c = omega (arith, c.requires.stands.ordered, c.requires.stands.ins.within)

pub slice_bounds-rule_number-end : goal.slice_bounds-rule_number-end
slice_bounds-rule_number-end c = omega (arith, c.requires.stands.ordered, c.requires.stands.ins.within)

pub rule_number-n-requires : goal.rule_number-n-requires
rule_number-n-requires c = write_rule c.requires (rw c.in-Some.is at c.four.ensures.promise)

pub current_scope-requires : goal.current_scope-requires
current_scope-requires c = write_scopes c.requires

pub put_step-e-requires : goal.put_step-e-requires
put_step-e-requires c = write_columns c.requires (rw c.in-Some.is at c.four.ensures.promise) c.if-c-ge-STEPS.false _ c.rule_number-n.ensures c.current_scope.ensures

pub returns : goal.returns
returns c = record { space = search rules; promise = write_goes c.args.s.start c.if-c-ge-STEPS.false (rw c.in-Some.is at c.four.ensures.promise) c.rule_number-n.ensures c.current_scope.ensures c.put_step-e.ensures }

pub returns-in_default : goal.returns-in_default
returns-in_default c = record { space = search rules; promise = write_over c.args.s.start (rw c.in_default.is at c.four.ensures.promise) }
