-- What a line whose value is expanded asks: a sound raw value, room for a value within its limit, and the table of bindings.
use Rattle.std.specs.Prelude.{ℕ, ◌≤◌, false, List, ◌≡◌, length}
use Rattle.std.proofs.Math.Option.{none}
use Rattle.spec.specs.Limits.{max_manifest, max_value}
use Rattle.spec.specs.Dollars.{bad_dollar}
use Rattle.scan_classes.specs.Table.{classes}
use Rattle.hold_reading.specs.declared.Counts.{Counts}
use Rattle.hold_reading.specs.declared.Open.{Open}
use Rattle.hold_reading.specs.Binds.{SoundBlock}
use Rattle.apply_bindings.specs.Limits.{binding_over}

pub record BindingAsks (t raw texts bind word : List ℕ) (c : Counts) (o : Open) : Type 0 where
  pub table : t ≡ classes
  pub short : length raw ≤ max_manifest
  pub dollars : bad_dollar raw ≡ none
  pub room : max_value ≤ length word
  pub sound : SoundBlock texts bind c o

-- the table, with room for a line of this name and value
pub record RoomForBinding (texts bind : List ℕ) (c : Counts) (o : Open) (n v : List ℕ) : Type 0 where
  pub sound : SoundBlock texts bind c o
  pub within : binding_over (length n) (length v) c ≡ false
