-- `scan_targets::bad_form` meets its contract.
use Rattle.scan_targets.proofs.Runs.{form_long, form_none, form_last}
use Rattle.scan_targets.proofs.bad_form.Goals as goal

pub returns-then-t-gt-TARGETS : goal.returns-then-t-gt-TARGETS
returns-then-t-gt-TARGETS c = form_long _ c.if-t-gt-TARGETS.true

pub returns-then-t-eq0 : goal.returns-then-t-eq0
returns-then-t-eq0 c = form_none _ c.if-t-eq0.true

pub returns : goal.returns
returns c = form_last _ c.if-t-gt-TARGETS.false c.if-t-eq0.false
