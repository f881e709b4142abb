-- `ask_judged_times::mark_then_clear` meets its contract.
use Rattle.ask_judged_times.proofs.Clearing.{ask_clear, times_judged}
use borrow.Author.Rules.{rules}
use Rattle.ask_judged_times.proofs.mark_then_clear.Goals as goal

pub clear_times-requires : goal.clear_times-requires
clear_times-requires c = ask_clear c.requires c.mark_forced.ensures

pub returns : goal.returns
returns c = record { space = record { long = (search rules) }; promise = times_judged c.requires.asked c.mark_forced.ensures c.clear_times.ensures }
