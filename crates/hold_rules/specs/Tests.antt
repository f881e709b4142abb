-- What is looked up in the table of bindings for a rule's block.
use Rattle.std.specs.Prelude.{ℕ, ◌<◌, Bool, not, ◌||◌, List}
use Rattle.spec.specs.Statements.{rule_key}
use Rattle.hold_bindings.specs.Log.{Logged, of_keys, newest, is_at}
use Rattle.hold_bindings.specs.Held.{SoundBindings}

-- a table whose entry this is
pub record OfRule (texts bind : List ℕ) (count entry : ℕ) : Type 0 where
  pub table : SoundBindings texts bind count
  pub below : entry < count

-- does the rule declared at an entry have this key
unfoldable pub keyed : ℕ → List ℕ → List Logged → Bool
unfolding newest is_at
keyed entry n log = is_at (newest (of_keys entry) n log)

-- "key twice or unknown in a rule" (7)
unfoldable pub bad_key : ℕ → List ℕ → List Logged → Bool
unfolding rule_key keyed
bad_key entry n log = not (rule_key n) || keyed entry n log
