-- `asks::plan` meets its contract.
use Rattle.spec.specs.PlanAsk.{inputs_of}
use Rattle.spec.proofs.Demands.{plan_demands}
use Rattle.asks.proofs.Short.{short_list}
use borrow.Author.Rules.{rules}
use Rattle.asks.proofs.plan.Goals as goal

pub returns-then-list-lt-LIST : goal.returns-then-list-lt-LIST
returns-then-list-lt-LIST c = plan_demands _ _ _ _ (short_list (inputs_of c.args.manifest.now c.args.card.now c.args.targets.now c.args.headers.now) c.args.list.now c.if-list-lt-LIST.true)

pub returns : goal.returns
returns c = plan_demands _ _ _ _ (search rules)
