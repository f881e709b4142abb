-- What every rule of a reading is: the keys are among the four, and their texts have no bad `$`.
use Rattle.std.specs.Prelude.{ℕ, List, true, ◌≡◌}
use Rattle.std.proofs.Math.Option.{none, some}
use Rattle.spec.specs.Dollars.{bad_dollar}
use Rattle.spec.specs.Reading.{Bound, Reading, bound_to, keys_of}
use Rattle.spec.specs.Statements.{rule_key}

pub record SoundKey (n raw : List ℕ) : Type 0 where
  pub key : rule_key n ≡ true
  pub sound : bad_dollar raw ≡ none

abbrev pub SoundKeys : List Bound → Type 0
SoundKeys keys = (n raw : List ℕ) → bound_to n keys ≡ some raw → SoundKey n raw

abbrev pub SoundRules : Reading → Type 0
SoundRules rd = (rule : List ℕ) → SoundKeys (keys_of rule rd.rules)
