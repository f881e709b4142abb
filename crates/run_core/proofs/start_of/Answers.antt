-- `run_core::start_of` meets its contract.
use mathlib.Core.Path.{refl, ap, ◌∙◌}
use lib.ListN.{length}
use Rattle.lists.specs.Fill.{zeroed_all, length_zeros}
use Rattle.run_core.specs.Numbers.{jobs_in}
use Rattle.run_core.proofs.Rows.{length_pending, length_rows}
use Rattle.run_core.proofs.Rooms.{length_left}
use Rattle.run_core.proofs.Steps.{start_shut, start_lowest}
use Rattle.run_core.proofs.start_of.Goals as goal

pub starts_shut-requires : goal.starts_shut-requires
starts_shut-requires c = tt

pub returns-then-starts_shut : goal.returns-then-starts_shut
returns-then-starts_shut c =
    let a = c.args in
    record {
      space = (record { long = refl }, record { long = refl });
      promise = start_shut a.graph.now a.room.now a.limit a.gate a.load (jobs_in a.c.now) c.starts_shut.ensures (length a.marks.now) c.if-starts_shut.true;
    }

pub zero_words_from-requires : goal.zero_words_from-requires
zero_words_from-requires c = tt

pub mark_pending-requires : goal.mark_pending-requires
mark_pending-requires c = tt

pub pass_rows-requires : goal.pass_rows-requires
pass_rows-requires c = tt

pub leave_room-requires : goal.leave_room-requires
leave_room-requires c = tt

pub lowest_ready-requires : goal.lowest_ready-requires
lowest_ready-requires c = tt

pub returns : goal.returns
returns c =
    let a = c.args in
    record {
      space = (
        record { long = ap length c.leave_room.ensures ∙ length_left _ _ },
        record {
          long =
              ap length c.pass_rows.ensures ∙ length_rows _ _ _
              ∙ ap length c.mark_pending.ensures ∙ length_pending _ _
              ∙ ap length c.zero_words_from.ensures ∙ ap length (zeroed_all a.marks.now) ∙ length_zeros (length a.marks.now);
        },
      );
      promise = start_lowest a.graph.now a.room.now a.limit a.gate a.load (jobs_in a.c.now) c.starts_shut.ensures a.marks.now c.if-starts_shut.false
          c.zero_words_from.ensures c.mark_pending.ensures c.pass_rows.ensures c.leave_room.ensures c.lowest_ready.ensures;
    }
