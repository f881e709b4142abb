-- What a line that only binds is held to: rule lines, keys, variables and the lines of blocks touch the table of bindings alone. What holds of all
-- buffers then follows by proofs/Lift.antt.
use Rattle.std.specs.Prelude.{ℕ, ◌+◌, ◌≤◌, ◌≡◌, List, [], ◌∷◌, ◌++◌, map, length, Result, Err}
use Rattle.spec.specs.declared.Refusal.{Refusal}
use Rattle.spec.specs.Limits.{max_files, max_mentions}
use Rattle.spec.specs.Reading.{Rule, Step, Reading}
use Rattle.spec.specs.Statements.{Block, Outcome, goes_on, refused}
use Rattle.hold_bindings.specs.Log.{Logged}
use Rattle.hold_reading.specs.Held.{joined, OpensBlock, HoldsBound}
use Rattle.hold_reading.specs.declared.Counts.{Counts}
use Rattle.hold_reading.specs.declared.Open.{Open}
use Rattle.hold_reading.specs.declared.State.{State}
use Rattle.hold_reading.specs.Went.{went}

-- the table of bindings holds this reading and block
pub record Known (log : List Logged) (texts bind : List ℕ) (c : Counts) (rd : Reading) (b : Block) (o : Open) : Type 0 where
  pub bound : HoldsBound log texts bind c (joined rd b)
  pub opens : OpensBlock log b o
  -- counts within their limits that a line that binds leaves as they are
  pub few_files : length (joined rd b).files ≤ max_files
  pub few_mentions : (joined rd b).mentions ≤ max_mentions

-- it holds some reading and block
pub record SoundBlock (texts bind : List ℕ) (c : Counts) (o : Open) : Type 0 where
  pub log : List Logged
  pub reading : Reading
  pub block : Block
  pub known : Known log texts bind c reading block o

-- the counts with a binding more, whose value has n bytes
abbrev pub counted_more : ℕ → Counts → Counts
counted_more n c =
    record {
      files = c.files;
      steps = c.steps;
      paths = c.paths;
      defaults = c.defaults;
      entries = c.entries + 1;
      rules = c.rules;
      bindings = c.bindings + 1;
      mentions = c.mentions;
      written = c.written + n;
      opened = c.opened;
    }

-- the counts with a rule more
abbrev pub counted_rule : Counts → Counts
counted_rule c =
    record {
      files = c.files;
      steps = c.steps;
      paths = c.paths;
      defaults = c.defaults;
      entries = c.entries + 1;
      rules = c.rules + 1;
      bindings = c.bindings;
      mentions = c.mentions;
      written = c.written;
      opened = c.opened;
    }

-- the counts with a file more that is opened, by a path of n bytes: in the scope that is read in, and in a new one, whose mark is an entry
abbrev pub counted_opened : ℕ → Counts → Counts
counted_opened n c =
    record {
      files = c.files;
      steps = c.steps;
      paths = c.paths;
      defaults = c.defaults;
      entries = c.entries;
      rules = c.rules;
      bindings = c.bindings;
      mentions = c.mentions;
      written = c.written + n;
      opened = c.opened + 1;
    }

abbrev pub counted_entered : ℕ → Counts → Counts
counted_entered n c =
    record {
      files = c.files;
      steps = c.steps;
      paths = c.paths;
      defaults = c.defaults;
      entries = c.entries + 1;
      rules = c.rules;
      bindings = c.bindings;
      mentions = c.mentions;
      written = c.written + n;
      opened = c.opened + 1;
    }

-- the counts with a mark more, by which a scope is gone back to
abbrev pub counted_back : Counts → Counts
counted_back c =
    record {
      files = c.files;
      steps = c.steps;
      paths = c.paths;
      defaults = c.defaults;
      entries = c.entries + 1;
      rules = c.rules;
      bindings = c.bindings;
      mentions = c.mentions;
      written = c.written;
      opened = c.opened;
    }

-- a rule with a key more, and a step with a line more in its block
abbrev pub key_more : List ℕ → List ℕ → Rule → Rule
key_more n v r = record { name = r.name; keys = record { name = n; value = v } ∷ r.keys }

abbrev pub line_more : List ℕ → List ℕ → Step → Step
line_more n v s =
    record { outs = s.outs; ins = s.ins; implicit = s.implicit; order_only = s.order_only; rule = s.rule; block = record { name = n; value = v } ∷ s.block; scope = s.scope }

-- a step without its block
unfoldable pub without_block : Step → Step
without_block s = record { outs = s.outs; ins = s.ins; implicit = s.implicit; order_only = s.order_only; rule = s.rule; block = []; scope = s.scope }

-- what the names and the columns of the graph hold stays: files, defaults, mentions, and the steps without their blocks
pub record Beside (c : Counts) (rd : Reading) (c' : Counts) (rd' : Reading) : Type 0 where
  pub files : rd'.files ≡ rd.files
  pub steps : map without_block rd'.steps ≡ map without_block rd.steps
  pub defaults : rd'.defaults ≡ rd.defaults
  pub mentions : rd'.mentions ≡ rd.mentions
  pub files_counted : c'.files ≡ c.files
  pub paths_counted : c'.paths ≡ c.paths
  pub defaults_counted : c'.defaults ≡ c.defaults
  pub mentions_counted : c'.mentions ≡ c.mentions

-- An outcome and an answer agree: what goes on is held by the log with more entries, and all else stays; a refusal is the same.
pub data Binds (log : List Logged) (c : Counts) (rd : Reading) (texts bind : List ℕ) : Outcome → Result State Refusal → Type 0 where
  goes : {rd' : Reading} {b : Block} {c' : Counts} {o : Open} (more : List Logged) → HoldsBound (more ++ log) texts bind c' (joined rd' b) → OpensBlock (more ++ log) b o
      → Beside c rd c' (joined rd' b) → Binds log c rd texts bind (goes_on rd' b) (went c' o)
  refuses : {r : Refusal} → Binds log c rd texts bind (refused r) (Err r)

-- A line's answer agrees with its outcome, whatever reading and block were held.
pub record Meets (texts bind : List ℕ) (c : Counts) (o : Open) (line : Reading → Block → Outcome) (texts' bind' : List ℕ) (r : Result State Refusal) : Type 0 where
  pub agrees : (log : List Logged) (rd : Reading) (b : Block) → Known log texts bind c rd b o → Binds log c (joined rd b) texts' bind' (line rd b) r
