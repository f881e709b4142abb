-- `cut_bindings::cut_value` meets its contract.
use mathlib.Core.Path.{subst}
use native.Mathlib.Omega.{arith}
use Rattle.scan_classes.proofs.Sorted.{sorted, in_class, not_in_class}
use Rattle.scan_raw.specs.Texts.{ValueBad, ValueScanned}
use Rattle.cut_forms.specs.Statements.{AssignmentAt}
use Rattle.cut_forms.proofs.Faults.{no_form_law}
use Rattle.cut_forms.proofs.Words.{value_none, value_other, value_short, value_sound, value_bad}
use Rattle.cut_bindings.proofs.cut_value.Goals as goal
use Rattle.cut_bindings.proofs.cut_value.Goals.{then-l-at-via-then-l-at, then-l-at-via-else-l-at+then-class_in-ne-EQUALS}

pub returns-then-l-at : goal.returns-then-l-at
unfolding AssignmentAt
returns-then-l-at c = elim c.then-l-at.branch [
  | then-l-at-via-then-l-at w ↦ no_form_law (value_none c.gap-at.ensures _ w.if-l-at.true)
  | then-l-at-via-else-l-at+then-class_in-ne-EQUALS w ↦ no_form_law (value_other c.gap-at.ensures w.if-l-at.false _ (not_in_class (sorted _).equals w.class_in.ensures w.if-class_in-ne-EQUALS.true))
]

pub overflow_sub-result : goal.overflow_sub-result
overflow_sub-result c = omega (arith, value_short c.gap-at.ensures c.raw_value-raw.ensures)

pub overflow_add-result : goal.overflow_add-result
unfolding ValueScanned
overflow_add-result c =
    let b : ValueBad _ _ = subst (ValueScanned _) c.in-Some.is c.bad_dollar.ensures in
    omega (arith, value_short c.gap-at.ensures c.raw_value-raw.ensures, b.within)

pub returns-in-None : goal.returns-in-None
unfolding AssignmentAt ValueScanned
returns-in-None c = value_sound c.gap-at.ensures c.if-l-at.false (in_class (sorted _).equals c.class_in.ensures c.if-class_in-ne-EQUALS.false) c.raw_value-raw.ensures c.requires.1 (subst (ValueScanned _) c.in-None.is c.bad_dollar.ensures)

pub returns-in-Some : goal.returns-in-Some
unfolding AssignmentAt ValueScanned
returns-in-Some c = value_bad c.gap-at.ensures c.if-l-at.false (in_class (sorted _).equals c.class_in.ensures c.if-class_in-ne-EQUALS.false) c.raw_value-raw.ensures _ (subst (ValueScanned _) c.in-Some.is c.bad_dollar.ensures)
