-- `graph_list::list_stale` meets its contract.
use Rattle.spec.specs.Limits.{max_steps}
use Rattle.hold_columns.proofs.Blank.{take_blank, length_blank}
use Rattle.graph_list.proofs.list_stale.Goals as goal

pub slice_bounds-list_marked-end : goal.slice_bounds-list_marked-end
slice_bounds-list_marked-end c = length_blank _ max_steps c.requires.sound.few_steps

pub slice_bounds-list_marked-end-2 : goal.slice_bounds-list_marked-end-2
slice_bounds-list_marked-end-2 c = length_blank _ max_steps c.requires.sound.few_steps

pub list_marked-requires : goal.list_marked-requires
list_marked-requires c = record {
  asked = c.requires;
  unmarked = take_blank _ max_steps c.requires.sound.few_steps;
  unclear = take_blank _ max_steps c.requires.sound.few_steps;
}

pub returns : goal.returns
returns c = c.list_marked.ensures.promise
