-- What an agreement says of the outcome, by the answer; and what is held before the first line.
use Rattle.std.specs.Prelude.{Result, Err}
use Prim.Native.Nat.{ℕ, ◌≤◌, ◌<◌}
use mathlib.Core.Bool.{Bool, false}
use mathlib.Core.Option.{none}
use mathlib.Core.List.{List, [], ◌∷◌, map}
use mathlib.Core.Path.{◌≡◌, refl}
use native.Mathlib.Nat.{not-suc-le-zero}
use native.Mathlib.Omega.{arith}
use lib.ListN.{length, drop, length-drop}
use Rattle.lists.specs.Members.{not_in_nil, any_none}
use Rattle.lists.specs.Parts.{part}
use Rattle.spec.specs.declared.Refusal.{Refusal}
use Rattle.spec.specs.Basics.{concat, sum}
use Rattle.spec.specs.Limits.{max_path}
use Rattle.spec.specs.Reading.{Reading, nothing_read}
use Rattle.spec.specs.Graph.{makers, makers_from}
use Rattle.spec.specs.Dollars.{bad_dollar}
use Rattle.spec.specs.Lines.{Line}
use Rattle.spec.specs.Statements.{Block, no_block, Outcome, goes_on, opens, refused, longer_than, over_paths}
use Rattle.arena.specs.Columns.{Lies}
use Rattle.hold_names.specs.Table.{HoldsNames}
use Rattle.hold_bindings.specs.Log.{Logged, bound_by, scoping_of, scopes_from, variables_of, rules_in, rules_of}
use Rattle.hold_bindings.specs.Held.{HoldsBindings, values_in}
use Rattle.hold_columns.specs.Columns.{made_by}
use Rattle.hold_reading.specs.declared.Counts.{Counts}
use Rattle.hold_reading.specs.declared.Open.{Open}
use Rattle.hold_reading.specs.declared.LineTurn.TheVariants.{Answered, Opens as TurnOpens}
use Rattle.hold_reading.specs.Held.{joined, OpensBlock, capacities, HoldsReading, Agrees, goes, refuses, TurnAgrees, turn_opens, turn_answers}
use Rattle.hold_reading.specs.Buffers.{Buffers}
use Rattle.hold_reading.specs.declared.State.{State}
use Rattle.hold_reading.specs.Went.{went}

-- ---- by the answer

-- The reading goes on, and is held.
pub record GoesOn (bs : Buffers) (c : Counts) (o : Open) (out : Outcome) : Type 0 where
  pub log : List Logged
  pub reading : Reading
  pub block : Block
  pub outcome : out ≡ goes_on reading block
  pub holds : HoldsReading log bs c (joined reading block)
  pub opens : OpensBlock log block o

module _ {bs : Buffers} where
  pub agreed_on : {out : Outcome} {c : Counts} {o : Open} → Agrees bs out (went c o) → GoesOn bs c o out
  agreed_on (goes {log = l} {rd = rd} {b = b} h p) = record { log = l; reading = rd; block = b; outcome = refl; holds = h; opens = p }

  pub agreed_refused : {out : Outcome} {r : Refusal} → Agrees bs out (Err r) → out ≡ refused r
  agreed_refused refuses = refl

-- ---- a line that may open a file

-- the line opens a file, and what was read before it is held
pub record OpensAt (l : Line) (bs : Buffers) (c : Counts) (sub : Bool) (from to : ℕ) (out : Outcome) : Type 0 where
  pub log : List Logged
  pub reading : Reading
  pub outcome : out ≡ opens l.start sub (part l.text from to) reading
  pub holds : HoldsReading log bs c reading
  pub longer : from < to
  pub within : to ≤ length l.text
  pub sound : bad_dollar (part l.text from to) ≡ none

module _ {l : Line} {bs : Buffers} where
  pub turned_answer : {out : Outcome} {a : Result State Refusal} → TurnAgrees l bs out (Answered a) → Agrees bs out a
  turned_answer (turn_answers g) = g

  pub turned_opens : {out : Outcome} {c : Counts} {sub : Bool} {from to : ℕ} → TurnAgrees l bs out (TurnOpens c sub from to) → OpensAt l bs c sub from to out
  turned_opens (turn_opens {log = g} {rd = rd} h a b d) =
      record { log = g; reading = rd; outcome = refl; holds = h; longer = a; within = b; sound = d }

-- ---- before the first line

abbrev pub no_counts : Counts
no_counts = record { files = 0; steps = 0; paths = 0; defaults = 0; entries = 0; rules = 0; bindings = 0; mentions = 0; written = 0; opened = 1 }

none_lies : (ns a : List ℕ) → sum ns ≤ length a → Lies ns a (map (λ (n : ℕ). []) ns)
unfolding Lies sum
none_lies [] a h = tt
none_lies (n ∷ ns) a h = (omega arith, omega arith, refl, none_lies ns (drop n a) (omega (arith, length-drop n a)))

none_over : over_paths [] ≡ false
unfolding over_paths
none_over = any_none (longer_than max_path)

module _ (bs : Buffers) where
  pub start_held : HoldsNames bs.names bs.index 0 [] → HoldsBindings [] bs.texts bs.bind 0 → sum capacities ≤ length bs.graph
      → HoldsReading [] bs no_counts (joined nothing_read no_block)
  unfolding joined bound_by scoping_of scopes_from variables_of rules_of rules_in values_in concat makers makers_from made_by Rattle.hold_columns.specs.Columns.step_ends_from
  start_held n b g =
      record {
        named = n;
        bound =
            record {
              held = b;
              vars = refl;
              rules = refl;
              blocks = λ s d. absurd (not-suc-le-zero d);
              scoped = λ s d. absurd (not-suc-le-zero d);
              owned = tt;
              steps_counted = refl;
              rules_counted = refl;
              bindings_counted = refl;
              written_counted = refl;
              opened_counted = refl;
              few_scopes = omega arith;
              entries_counted = omega arith;
              few_rules = omega arith;
              few_bindings = omega arith;
              few_steps = omega arith;
              few_written = omega arith;
              few_opened = omega arith;
              shared = omega arith;
            };
        graphed =
            record {
              mentions = [];
              ends = [];
              phony = [];
              made = [];
              rule_of = [];
              lies = none_lies capacities bs.graph g;
              tables =
                  record {
                    mentioned = refl;
                    ended = refl;
                    phonies = refl;
                    counted = refl;
                    makes = λ f d. absurd (not-suc-le-zero d);
                    low = λ f d. absurd (not_in_nil d);
                    few_steps = omega arith;
                    few_files = omega arith;
                    few_mentions = omega arith;
                  };
              ruled_all = refl;
              ruled = λ s d. absurd (not-suc-le-zero d);
              paths_counted = refl;
              defaults_counted = refl;
              mentions_counted = refl;
              few_mentions = omega arith;
              mentions_low = omega arith;
              defaults_low = λ i d. absurd (not-suc-le-zero d);
            };
        short = none_over;
      }
