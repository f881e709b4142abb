-- `graph_list::list_marked` meets its contract.
use Rattle.graph_list.proofs.Marked.{ask_list, stale_listed}
use borrow.Author.Rules.{rules}
use Rattle.graph_list.proofs.list_marked.Goals as goal

pub stale_commands-requires : goal.stale_commands-requires
stale_commands-requires c = record {
  sound = c.requires.asked.sound;
  timed = c.requires.asked.timed;
  steps = c.requires.asked.steps;
  unmarked = c.requires.unmarked;
}

pub list_pending-requires : goal.list_pending-requires
list_pending-requires c = ask_list c.requires c.stale_commands.ensures

pub returns : goal.returns
returns c = record { space = (record { long = (search rules) }, record { long = (search rules) }); promise = stale_listed c.stale_commands.ensures c.list_pending.ensures.promise }
