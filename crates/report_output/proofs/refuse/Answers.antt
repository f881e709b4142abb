-- `report_output::refuse` meets its contract.
use Rattle.report_output.proofs.Refusals.{refuses_so}
use Rattle.report_output.proofs.refuse.Goals as goal

pub returns : goal.returns
returns c = refuses_so c.args.bundle.now c.args.n _ c.locate.ensures c.say_refused.ensures
