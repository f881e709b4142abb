-- What a step's names are looked up in, and what an answer means.
use Rattle.std.specs.Prelude.{ℕ, ◌<◌, List, [], ◌≡◌, length}
use Rattle.spec.specs.Bytes.{space, newline}
use Rattle.spec.specs.Limits.{max_steps}
use Rattle.spec.specs.Basics.{or_else}
use Rattle.spec.specs.Reading.{Step, Reading, bound_to, var_from, keys_of}
use Rattle.spec.specs.Sound.{SoundKeys}
use Rattle.spec.specs.Text.{Spelling, joined_by, names_of, Found, as_is, of_rule}
use Rattle.hold_bindings.specs.Log.{Logged, of_keys, of_block, entry_at, bound_by, scoping_of, variables_of}
use Rattle.hold_bindings.specs.Held.{max_entries, HoldsBindings, HasEntry}
use Rattle.text_lookup.specs.declared.Asked.{Asked}
use Rattle.text_lookup.specs.declared.Source.{Source}
use Rattle.text_lookup.specs.declared.Source.TheVariants.{Inputs, InputLines, Outputs, Value, Text, Unset}

-- The table of bindings holds the scope of this step of a reading.
pub record StepScope (texts bind : List ℕ) (a : Asked) (log : List Logged) (rd : Reading) (s : Step) : Type 0 where
  pub bound : HoldsBindings log texts bind a.entries
  pub vars : rd.vars ≡ variables_of log
  pub stands : s.scope ≡ a.scope
  pub block : s.block ≡ bound_by (of_block a.step) log
  pub keys : keys_of s.rule rd.rules ≡ bound_by (of_keys a.rule) log
  pub sound : SoundKeys (keys_of s.rule rd.rules)
  pub scope_low : a.scope < length (scoping_of log).outers
  pub step_low : a.step < max_steps
  pub rule_low : a.rule < max_entries

-- it holds the scope of some step of some reading
pub record InScope (texts bind : List ℕ) (a : Asked) : Type 0 where
  pub log : List Logged
  pub reading : Reading
  pub step : Step
  pub scope : StepScope texts bind a log reading step

-- what an answer means, by how names of files are spelt
unfoldable pub meaning : Spelling → Reading → Step → List Logged → Source → Found
unfolding joined_by names_of entry_at
meaning spell rd s log Inputs = as_is (joined_by space (names_of spell rd s.ins))
meaning spell rd s log InputLines = as_is (joined_by newline (names_of spell rd s.ins))
meaning spell rd s log Outputs = as_is (joined_by space (names_of spell rd s.outs))
meaning spell rd s log (Value k) = as_is (entry_at k log).value
meaning spell rd s log (Text k) = of_rule (entry_at k log).value
meaning spell rd s log Unset = as_is []

-- the lookup's later parts
abbrev pub from_file : List ℕ → Reading → Step → Found
from_file n rd s = as_is (var_from rd.vars.scopes s.scope n)

abbrev pub from_rule : List ℕ → Reading → Step → Found
from_rule n rd s = or_else (bound_to n (keys_of s.rule rd.rules)) of_rule λ _. from_file n rd s

abbrev pub from_block : List ℕ → Reading → Step → Found
from_block n rd s = or_else (bound_to n s.block) as_is λ _. from_rule n rd s

-- an entry of the table
pub record There (texts bind : List ℕ) (a : Asked) (k : ℕ) : Type 0 where
  pub entry : HasEntry texts bind k
  pub low : k < a.entries

-- The answer means what is found, whatever scope is held and however names are spelt, and its entry is there.
pub record LooksUp (texts bind : List ℕ) (a : Asked) (found : Spelling → Reading → Step → Found) (r : Source) : Type 0 where
  pub means : (spell : Spelling) (log : List Logged) (rd : Reading) (s : Step) → StepScope texts bind a log rd s → found spell rd s ≡ meaning spell rd s log r
  pub value : (k : ℕ) → r ≡ Value k → There texts bind a k
  pub text : (k : ℕ) → r ≡ Text k → There texts bind a k
