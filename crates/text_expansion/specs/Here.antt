-- What the lent buffers hold of the step that is asked for.
use Rattle.std.specs.Prelude.{ℕ, ◌≤◌, ◌<◌, Bool, List, ◌≡◌, length, get_or}
use Rattle.lists.specs.Parts.{part}
use Rattle.spec.specs.Reading.{Step, Reading}
use Rattle.hold_names.specs.Table.{HoldsNames}
use Rattle.hold_bindings.specs.Log.{Logged}
use Rattle.text_lookup.specs.declared.Asked.{Asked}
use Rattle.text_lookup.specs.Scope.{StepScope}
use Rattle.hold_reading.specs.Buffers.{Buffers}

-- the same step, with names spelt another way, and so many rule texts deep
abbrev pub asked_as : Asked → Bool → ℕ → Asked
asked_as a plain depth =
    record { step = a.step; rule = a.rule; scope = a.scope; entries = a.entries; files = a.files; outs = a.outs; ins = a.ins; rest = a.rest; depth = depth; plain = plain }

-- its files: outputs, and behind them the explicit inputs, in the column of mentions that begins the graph
pub record StepFiles (names index graph : List ℕ) (a : Asked) (rd : Reading) (s : Step) : Type 0 where
  pub named : HoldsNames names index a.files rd.files
  pub outs_ordered : a.outs ≤ a.ins
  pub ins_ordered : a.ins ≤ a.rest
  pub within : a.rest ≤ length graph
  pub outs : part graph a.outs a.ins ≡ s.outs
  pub ins : part graph a.ins a.rest ≡ s.ins
  pub low : (i : ℕ) → a.outs ≤ i → i < a.rest → get_or graph i 0 < a.files

pub record Here (bs : Buffers) (a : Asked) (log : List Logged) (rd : Reading) (s : Step) : Type 0 where
  pub scope : StepScope bs.texts bs.bind a log rd s
  pub files : StepFiles bs.names bs.index bs.graph a rd s
