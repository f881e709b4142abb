-- `run_columns::start_in` meets its contract.
use lib.ListN.{length}
use Rattle.run_core.specs.Numbers.{jobs_in}
use Rattle.run_columns.proofs.Answers.{start_gated}
use Rattle.run_columns.proofs.start_in.Goals as goal

pub returns : goal.returns
returns c =
    let x = c.args in
    record {
      space = c.start_of-answer.ensures.space;
      promise = start_gated (jobs_in x.records.now) x.links.now x.a (length x.marks.now) x.room.now c.start_made.ensures c.start_of-answer.ensures.promise c.gate_of-gate.ensures;
    }
