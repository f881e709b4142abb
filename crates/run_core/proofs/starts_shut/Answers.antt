-- `run_core::starts_shut` meets its contract.
use mathlib.Core.Path.{sym, ◌∙◌}
use Rattle.run_core.specs.Numbers.{jobs_in}
use Rattle.run_core.proofs.Steps.{shut_limit, shut_held, shut_failed}
use Rattle.run_core.proofs.starts_shut.Goals as goal

pub count_running-r-requires : goal.count_running-r-requires
count_running-r-requires c = tt

pub returns-then-limit-r : goal.returns-then-limit-r
returns-then-limit-r c = shut_limit c.args.gate c.args.load (jobs_in c.args.c.now) c.count_running-r.ensures c.if-limit-r.true

pub held_back-requires : goal.held_back-requires
held_back-requires c = tt

pub returns-then-held_back : goal.returns-then-held_back
returns-then-held_back c = shut_held c.args.gate c.args.load (jobs_in c.args.c.now) c.count_running-r.ensures c.if-limit-r.false (sym c.held_back.ensures ∙ c.if-held_back.true)

pub any_failed-requires : goal.any_failed-requires
any_failed-requires c = tt

pub returns : goal.returns
returns c = c.any_failed.ensures ∙ shut_failed c.args.gate c.args.load (jobs_in c.args.c.now) c.count_running-r.ensures c.if-limit-r.false (sym c.held_back.ensures ∙ c.if-held_back.false)
