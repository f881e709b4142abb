-- `report::begin_list` meets its contract.
use Rattle.report.proofs.Beginning.{list_none, list_fine, list_stopped}
use Rattle.report.proofs.begin_list.Goals as goal

pub returns-then-steps-eq0 : goal.returns-then-steps-eq0
returns-then-steps-eq0 c = list_none c.args.bundle.now c.args.steps.now c.if-steps-eq0.true c.say_no_work.ensures

pub returns-in-Ok : goal.returns-in-Ok
returns-in-Ok c = list_fine c.args.bundle.now c.args.steps.now c.args.line.now _ _ _ _ c.if-steps-eq0.false (rw c.in-Ok.is at c.check_texts.ensures) c.zero_bytes_from.ensures

pub returns-in-Err : goal.returns-in-Err
returns-in-Err c = list_stopped c.args.bundle.now c.args.steps.now c.args.line.now _ _ _ _ c.if-steps-eq0.false (rw c.in-Err.is at c.check_texts.ensures) c.refuse.ensures
