-- Where a step's parts stand among the written mentions.
use Rattle.std.specs.Prelude.{ℕ, zero, suc, ◌≤◌, ◌<◌, List, length, get_or}
use Rattle.spec.specs.Limits.{max_files, max_steps}
use Rattle.hold_columns.specs.Columns.{outs_end, ins_end, implicit_end, order_only_end, last_end}
use Rattle.hold_reading.specs.Held.{columns_end, end_in}
use Rattle.ask_header_list.specs.declared.StepPlaces.{StepPlaces}

unfoldable pub start_in : List ℕ → ℕ → ℕ
start_in graph zero = 0
start_in graph (suc s) = end_in graph s last_end

unfoldable pub places_in : List ℕ → ℕ → StepPlaces
unfolding start_in
places_in graph s =
    record {
      start = start_in graph s;
      outs = end_in graph s outs_end;
      ins = end_in graph s ins_end;
      implicit = end_in graph s implicit_end;
      order = end_in graph s order_only_end;
    }

-- the graph has room for all columns, and a step may have this number
pub record PlacesAsk (graph : List ℕ) (s : ℕ) : Type 0 where
  pub long : columns_end ≤ length graph
  pub few : s < max_steps

-- The parts follow one another, and what they mention are files.
pub record SoundPlaces (graph : List ℕ) (p : StepPlaces) : Type 0 where
  pub output : p.start < p.outs
  pub outs : p.outs ≤ p.ins
  pub ins : p.ins ≤ p.implicit
  pub implicit : p.implicit ≤ p.order
  pub within : p.order ≤ length graph
  pub low : (i : ℕ) → p.start ≤ i → i < p.order → get_or graph i 0 < max_files
