-- `graph_stale::stale_commands` meets its contract.
use mathlib.Core.Path.{sym, ◌∙◌, ap}
use lib.ListN.{length}
use Rattle.lists.specs.Fill.{length_zeros}
use Rattle.spec.specs.Limits.{max_steps}
use Rattle.hold_columns.proofs.Blank.{length_blank}
use Rattle.graph_stale.proofs.Marking.{all_marked}
use Rattle.graph_stale.proofs.stale_commands.Goals as goal

pub slice_bounds-judge_all-end : goal.slice_bounds-judge_all-end
slice_bounds-judge_all-end c = length_blank _ max_steps c.requires.sound.few_steps

pub judge_all-requires : goal.judge_all-requires
judge_all-requires c = record {
  asked = record {
    sound = c.requires.sound;
    timed = c.requires.timed;
    stale_long = ap length c.requires.unmarked ∙ length_zeros _;
    late_long = sym (length_blank _ max_steps c.requires.sound.few_steps);
  };
  steps = c.requires.steps;
}

pub returns : goal.returns
returns c = all_marked c.judge_all.ensures c.requires.unmarked c.keep_commands.ensures
