-- `run_columns::gate_of` meets its contract.
use Rattle.std.proofs.Common.{rules}
use Rattle.run_columns.specs.Chosen.{asked_gate}
use Rattle.run_columns.proofs.gate_of.Goals as goal

pub returns : goal.returns
unfolding asked_gate
returns c = search rules
