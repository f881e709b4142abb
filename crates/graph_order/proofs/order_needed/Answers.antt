-- `graph_order::order_needed` meets its contract.
use mathlib.Core.Path.{sym}
use Rattle.spec.specs.Limits.{max_steps}
use Rattle.hold_columns.proofs.Blank.{take_blank, length_blank}
use Rattle.graph_order.proofs.order_needed.Goals as goal

pub slice_bounds-sort_or_show-end : goal.slice_bounds-sort_or_show-end
slice_bounds-sort_or_show-end c = length_blank _ max_steps c.requires.sound.few_steps

pub slice_bounds-sort_or_show-end-2 : goal.slice_bounds-sort_or_show-end-2
slice_bounds-sort_or_show-end-2 c = length_blank _ max_steps c.requires.sound.few_steps

pub slice_bounds-sort_or_show-end-3 : goal.slice_bounds-sort_or_show-end-3
slice_bounds-sort_or_show-end-3 c = length_blank _ max_steps c.requires.sound.few_steps

pub sort_or_show-requires : goal.sort_or_show-requires
sort_or_show-requires c = record {
  asked = record {
    sound = c.requires.sound;
    files = c.requires.files;
    unseen = take_blank _ max_steps c.requires.sound.few_steps;
    unpassed = take_blank _ max_steps c.requires.sound.few_steps;
    path_long = sym (length_blank _ max_steps c.requires.sound.few_steps);
  };
  room = c.requires.room;
}

pub returns : goal.returns
returns c = c.sort_or_show.ensures.promise
