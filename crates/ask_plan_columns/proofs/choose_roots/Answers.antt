-- `ask_plan_columns::choose_roots` meets its contract.
use Rattle.spec.specs.Limits.{max_files}
use Rattle.hold_columns.proofs.Blank.{length_blank}
use Rattle.ask_plan_columns.proofs.Columns.{few_files, marked}
use Rattle.ask_plan_columns.proofs.choose_roots.Goals as goal

pub slice_bounds-find_in-end : goal.slice_bounds-find_in-end
slice_bounds-find_in-end c = length_blank _ max_files (few_files c.requires)

pub find_in-requires : goal.find_in-requires
find_in-requires c = marked c.requires

pub returns : goal.returns
returns c = c.find_in.ensures.promise
