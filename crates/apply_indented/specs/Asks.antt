-- What an indented line asks: a line that lies in a manifest, room for a value, and the table of bindings.
use Rattle.std.specs.Prelude.{ℕ, ◌≤◌, List, length}
use Rattle.spec.specs.Limits.{max_value}
use Rattle.cut_refusals.specs.Cuts.{CutAsks}
use Rattle.hold_reading.specs.declared.Counts.{Counts}
use Rattle.hold_reading.specs.declared.Open.{Open}
use Rattle.hold_reading.specs.Binds.{SoundBlock}

pub record KeyAsks (t : List ℕ) (start : ℕ) (l texts bind : List ℕ) (c : Counts) (o : Open) : Type 0 where
  pub cut : CutAsks t start l
  pub sound : SoundBlock texts bind c o

pub record IndentedAsks (t : List ℕ) (start : ℕ) (l texts bind word : List ℕ) (c : Counts) (o : Open) : Type 0 where
  pub cut : CutAsks t start l
  pub room : max_value ≤ length word
  pub sound : SoundBlock texts bind c o
