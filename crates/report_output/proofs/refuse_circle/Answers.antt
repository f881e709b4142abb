-- `report_output::refuse_circle` meets its contract.
use Rattle.report_output.proofs.Refusals.{opens_refusal}
use Rattle.report_output.proofs.refuse_circle.Goals as goal

pub returns : goal.returns
returns c = opens_refusal c.say_circle.ensures
