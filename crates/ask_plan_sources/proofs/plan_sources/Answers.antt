-- `ask_plan_sources::plan_sources` meets its contract.
use Rattle.ask_plan_sources.proofs.Outcomes.{ask_missing, missing, goes_on}
use Rattle.ask_plan_sources.proofs.plan_sources.Goals as goal

pub missing_source-requires : goal.missing_source-requires
missing_source-requires c = ask_missing c.requires

pub returns-in-Some : goal.returns-in-Some
returns-in-Some c = missing c.missing_source.ensures c.in-Some.is c.zero_words_from.ensures

pub plan_listed-requires : goal.plan_listed-requires
plan_listed-requires c = c.requires.asked

pub returns : goal.returns
returns c = goes_on c.missing_source.ensures c.in_default.is c.plan_listed.ensures
