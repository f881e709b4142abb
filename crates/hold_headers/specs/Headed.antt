-- What the second columns of the graph hold while the listed inputs of the steps are added. They are laid out as the first ones are, with two changes: they have
-- the steps so far with their listed inputs, and what each step's depfile tells stands where the first ones have rules.
use Rattle.std.specs.Prelude.{ℕ, ◌+◌, ◌*◌, ◌≤◌, ◌<◌, false, List, ◌++◌, map, ◌≡◌, length, drop, get_or, Result, Ok, Err}
use Rattle.lists.specs.Members.{◌∈◌}
use Rattle.spec.specs.declared.Refusal.{Refusal}
use Rattle.spec.specs.Basics.{is_empty, concat}
use Rattle.spec.specs.Reading.{Step, Reading, is_phony}
use Rattle.spec.specs.Graph.{step_at, makers}
use Rattle.spec.specs.Headers.{Listed, HeaderGraph, Heading, headed, headless}
use Rattle.hold_bindings.specs.Log.{Logged}
use Rattle.hold_columns.specs.Columns.{bit, mentions_of, step_ends_from, made_by}
use Rattle.hold_reading.specs.declared.Counts.{Counts}
use Rattle.hold_reading.specs.Held.{rule_start}
use Rattle.hold_reading.specs.Buffers.{Buffers}
use Rattle.apply_files.specs.Lines.{LineHeld, Writing}

-- ------------------------------------------------------------------ what a step's depfile tells, as a number

-- the number of files that it lists, twice, and one more where it is missing
unfoldable pub listed_number : Listed → ℕ
listed_number l = 2 * length l.files + bit l.missing

-- that of step s
abbrev pub listed_in : List ℕ → ℕ → ℕ
listed_in graph s = get_or graph (rule_start + s) 0

-- ------------------------------------------------------------------ what is held

-- what was read of the manifest, with files and counts as they are after the mentions of another reading
abbrev pub reading_with : Reading → Reading → Reading
reading_with rd now =
    record { rules = rd.rules; vars = rd.vars; files = now.files; steps = rd.steps; defaults = rd.defaults; bindings = rd.bindings; mentions = now.mentions; written = now.written; opened = rd.opened }

abbrev pub phony_bits : List Step → List ℕ
phony_bits steps = map (λ (s : Step). bit (is_phony s.rule)) steps

-- As within a line that mentions files: the manifest's reading, and the columns of the steps so far. Which steps are phony is there for all steps.
abbrev pub head_line : List Logged → Reading → HeaderGraph → List ℕ → LineHeld
head_line log rd h made =
    record {
      log = log;
      reading = reading_with rd h.reading;
      mentions = concat (map mentions_of h.reading.steps);
      ends = step_ends_from 0 h.reading.steps;
      phony = phony_bits rd.steps;
      made = made;
      rule_of = map listed_number h.lists;
    }

-- what the steps mention that are still to come
abbrev pub mentions_left : Reading → HeaderGraph → List ℕ
mentions_left rd h = concat (map mentions_of (drop (length h.reading.steps) rd.steps))

-- The buffers hold the manifest's reading, and the second columns the steps so far with their listed inputs. Makers are those of all steps.
pub record HoldsHeaders (log : List Logged) (bs : Buffers) (c : Counts) (rd : Reading) (h : HeaderGraph) : Type 0 where
  pub made : List ℕ
  pub writing : Writing bs c (head_line log rd h made)
  pub makes : (f : ℕ) → makers rd.steps f ≡ made_by (get_or made f 0)
  pub low : (f : ℕ) → f ∈ concat (map mentions_of h.reading.steps) → f < length h.reading.files
  pub more : List (List ℕ)
  pub grown : h.reading.files ≡ rd.files ++ more
  pub bindings : h.reading.bindings ≡ rd.bindings
  pub listed : length h.lists ≡ length h.reading.steps
  pub room : c.paths + length (mentions_left rd h) + c.defaults ≤ c.mentions
  pub outputs : (s : ℕ) → s < length rd.steps → is_empty (step_at rd.steps s).outs ≡ false

-- With a step more they agree: what is headed is held, and a refusal is the same. The buffers are working space after a refusal.
pub data AgreesHeaders (log : List Logged) (bs : Buffers) (rd : Reading) : Heading → Result Counts Refusal → Type 0 where
  heads : {h : HeaderGraph} {c : Counts} → HoldsHeaders log bs c rd h → AgreesHeaders log bs rd (headed h) (Ok c)
  refuses : {r : Refusal} → AgreesHeaders log bs rd (headless r) (Err r)
