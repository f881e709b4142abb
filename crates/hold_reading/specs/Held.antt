-- What the reader's lent buffers hold between lines: the files' names, the table of bindings, and the columns of the graph. It is the reading
-- with the open block already joined to it, so that closing a block changes no buffer.
use Rattle.std.specs.Prelude.{ℕ, suc, ◌+◌, ◌*◌, ◌≤◌, ◌<◌, ◌≡◌, Bool, true, false, List, [], ◌∷◌, length, get_or, Some, Result, Err}
use Rattle.std.proofs.Math.Option.{none}
use Rattle.lists.specs.Parts.{part}
use Rattle.spec.specs.declared.Refusal.{Refusal}
use Rattle.spec.specs.Basics.{concat}
use Rattle.spec.specs.Limits.{max_steps, max_files, max_rules, max_bindings, max_mentions, max_written, max_opened}
use Rattle.spec.specs.Reading.{Step, Rule, Reading, is_phony}
use Rattle.spec.specs.Statements.{Block, no_block, rule_block, build_block, Outcome, goes_on, opens, refused, over_paths}
use Rattle.spec.specs.Dollars.{bad_dollar}
use Rattle.spec.specs.Lines.{Line}
use Rattle.spec.specs.Manifest.{with_rule, with_step}
use Rattle.spec.specs.Graph.{step_at}
use Rattle.arena.specs.Columns.{Lies, start_of}
use Rattle.hold_names.specs.Table.{HoldsNames}
use Rattle.hold_bindings.specs.Log.{Logged, of_rules, of_block, entry_at, bound_by, scoping_of, variables_of, rules_of, newest_rule, Owned}
use Rattle.hold_bindings.specs.Held.{max_entries, HoldsBindings, values_in}
use Rattle.hold_columns.specs.Columns.{per_step, end_place, HoldsColumns}
use Rattle.hold_reading.specs.declared.Counts.{Counts}
use Rattle.hold_reading.specs.declared.Open.{Open}
use Rattle.hold_reading.specs.declared.Open.TheVariants.{Nothing, Rule as OpenRule, Step as OpenStep}
use Rattle.hold_reading.specs.declared.LineTurn.{LineTurn}
use Rattle.hold_reading.specs.declared.LineTurn.TheVariants.{Answered, Opens as TurnOpens}
use Rattle.hold_reading.specs.Buffers.{Buffers}
use Rattle.hold_reading.specs.declared.State.{State}
use Rattle.hold_reading.specs.Went.{went}

-- the reading with its open block closed
unfoldable pub joined : Reading → Block → Reading
unfolding with_rule with_step
joined rd no_block = rd
joined rd (rule_block start r) = with_rule r rd
joined rd (build_block s) = with_step s rd

-- the open block as the code has it
pub data OpensBlock (log : List Logged) : Block → Open → Type 0 where
  nothing : OpensBlock log no_block Nothing
  a_rule : {start k : ℕ} {r : Rule} → newest_rule log ≡ Some k → OpensBlock log (rule_block start r) (OpenRule start k)
  a_step : {s : Step} → OpensBlock log (build_block s) OpenStep

-- the scopes around the current one
abbrev pub around_now : List Logged → List ℕ
around_now log = get_or (scoping_of log).outers (scoping_of log).current []

-- the table of bindings holds the reading's variables, rules and blocks
pub record HoldsBound (log : List Logged) (texts bind : List ℕ) (c : Counts) (rd : Reading) : Type 0 where
  pub held : HoldsBindings log texts bind c.entries
  pub vars : rd.vars ≡ variables_of log
  pub rules : rd.rules ≡ rules_of log
  pub blocks : (s : ℕ) → s < length rd.steps → (step_at rd.steps s).block ≡ bound_by (of_block s) log
  pub scoped : (s : ℕ) → s < length rd.steps → (step_at rd.steps s).scope < length (scoping_of log).outers
  pub owned : Owned (length rd.steps) log
  pub steps_counted : c.steps ≡ length rd.steps
  pub rules_counted : c.rules ≡ length rd.rules
  pub bindings_counted : c.bindings ≡ rd.bindings
  pub written_counted : c.written ≡ rd.written
  pub opened_counted : c.opened ≡ rd.opened
  -- each file that was opened had one scope and two marks of it at most, and each scope around the current one still has its second
  pub few_scopes : length (scoping_of log).outers ≤ c.opened
  pub entries_counted : c.entries + length (around_now log) + 2 ≤ c.rules + c.bindings + 2 * c.opened
  pub few_rules : c.rules ≤ max_rules
  pub few_bindings : c.bindings ≤ max_bindings
  pub few_steps : c.steps ≤ max_steps
  pub few_written : c.written ≤ max_written
  pub few_opened : c.opened ≤ max_opened
  -- values and the bytes of names share what has been written
  pub shared : values_in log + length (concat rd.files) ≤ c.written

-- the number for a step's rule: 0 for phony, else the declaration's entry and one more
pub data Ruled (log : List Logged) (rule : List ℕ) : ℕ → Type 0 where
  phony : is_phony rule ≡ true → Ruled log rule 0
  declared : {k : ℕ} → k < length log → (entry_at k log).owner ≡ of_rules → (entry_at k log).name ≡ rule → is_phony rule ≡ false → Ruled log rule (suc k)

-- A step's rule and its scope are kept as one number.
abbrev pub scope_unit : ℕ
scope_unit = max_entries + 1

unfoldable pub rule_with_scope : ℕ → ℕ → ℕ
rule_with_scope n scope = scope_unit * scope + n

-- the number for a step
pub record RuledIn (log : List Logged) (s : Step) (v : ℕ) : Type 0 where
  pub rule : ℕ
  pub low : rule < scope_unit
  pub ruled : Ruled log s.rule rule
  pub is : v ≡ rule_with_scope rule s.scope

-- the ends of all steps that a manifest may have
abbrev pub max_ends : ℕ
max_ends = per_step * max_steps

-- capacities of the columns of the graph: mentions, the ends of each step, phony or not, each file's maker, each step's rule and scope, defaults
abbrev pub capacities : List ℕ
capacities = max_mentions ∷ max_ends ∷ max_steps ∷ max_files ∷ max_steps ∷ max_mentions ∷ []

-- where the columns behind the mentions start, and where the last one ends
abbrev pub ends_start : ℕ
ends_start = start_of capacities 1

abbrev pub phony_start : ℕ
phony_start = start_of capacities 2

abbrev pub made_start : ℕ
made_start = start_of capacities 3

abbrev pub rule_start : ℕ
rule_start = start_of capacities 4

abbrev pub defaults_start : ℕ
defaults_start = start_of capacities 5

abbrev pub columns_end : ℕ
columns_end = start_of capacities 6

-- end k of step s
abbrev pub end_in : List ℕ → ℕ → ℕ → ℕ
end_in graph s k = get_or graph (ends_start + end_place s k) 0

-- the columns hold the reading's steps, makers and defaults
pub record Graphed (log : List Logged) (graph : List ℕ) (c : Counts) (rd : Reading) : Type 0 where
  pub mentions : List ℕ
  pub ends : List ℕ
  pub phony : List ℕ
  pub made : List ℕ
  pub rule_of : List ℕ
  pub lies : Lies capacities graph (mentions ∷ ends ∷ phony ∷ made ∷ rule_of ∷ rd.defaults ∷ [])
  pub tables : HoldsColumns rd.steps (length rd.files) mentions ends phony made
  pub ruled_all : length rule_of ≡ length rd.steps
  pub ruled : (s : ℕ) → s < length rd.steps → RuledIn log (step_at rd.steps s) (get_or rule_of s 0)
  pub paths_counted : c.paths ≡ length mentions
  pub defaults_counted : c.defaults ≡ length rd.defaults
  pub mentions_counted : c.mentions ≡ rd.mentions
  pub few_mentions : c.paths + c.defaults ≤ c.mentions
  pub mentions_low : c.mentions ≤ max_mentions
  -- every default is an output, so a file that is there
  pub defaults_low : (i : ℕ) → i < length rd.defaults → get_or rd.defaults i 0 < length rd.files

-- all that is held of a reading
pub record HoldsReading (log : List Logged) (bs : Buffers) (c : Counts) (rd : Reading) : Type 0 where
  pub named : HoldsNames bs.names bs.index c.files rd.files
  pub bound : HoldsBound log bs.texts bs.bind c rd
  pub graphed : Graphed log bs.graph c rd
  -- every name was a path within its limit, so a longer expansion is no file's name
  pub short : over_paths rd.files ≡ false

-- An outcome and an answer agree: what goes on is held, and a refusal is the same. The buffers are working space after a refusal, which the
-- promises say by their room (`SameRoom`, `Spare`).
pub data Agrees (bs : Buffers) : Outcome → Result State Refusal → Type 0 where
  goes : {log : List Logged} {rd : Reading} {b : Block} {c : Counts} {o : Open} → HoldsReading log bs c (joined rd b) → OpensBlock log b o
      → Agrees bs (goes_on rd b) (went c o)
  refuses : {r : Refusal} → Agrees bs (refused r) (Err r)

-- The same of the line `l` that may open a file.
pub data TurnAgrees (l : Line) (bs : Buffers) : Outcome → LineTurn → Type 0 where
  turn_answers : {out : Outcome} {a : Result State Refusal} → Agrees bs out a → TurnAgrees l bs out (Answered a)
  turn_opens : {log : List Logged} {rd : Reading} {c : Counts} {sub : Bool} {from to : ℕ} → HoldsReading log bs c rd → from < to → to ≤ length l.text
      → bad_dollar (part l.text from to) ≡ none → TurnAgrees l bs (opens l.start sub (part l.text from to) rd) (TurnOpens c sub from to)
