-- A step in the columns: the makers of its outputs, phony or not, and its rule with its scope.
use Rattle.std.specs.Prelude.{ℕ, zero, suc, ◌+◌, ◌^◌, ◌≤◌, ◌<◌, List, [], ◌∷◌, ◌++◌, ◌≡◌, length, get_or, set, Option, Some, None}
use Rattle.lists.specs.Tests.{if_b}
use Rattle.lists.specs.Parts.{part}
use Rattle.spec.specs.Limits.{max_steps}
use Rattle.spec.specs.Reading.{is_phony}
use Rattle.hold_bindings.specs.Log.{Logged, of_rules, newest}
use Rattle.hold_bindings.specs.Held.{max_entries, max_scopes}
use Rattle.hold_columns.specs.Columns.{outs_end, end_place, end_at}
use Rattle.hold_reading.specs.declared.Counts.{Counts}
use Rattle.hold_reading.specs.Held.{rule_with_scope}
use Rattle.apply_files.specs.Lines.{LineHeld, Columns}

-- ------------------------------------------------------------------ the rule's number

unfoldable pub entry_number : Option ℕ → ℕ
entry_number (Some k) = suc k
entry_number None = 0

-- 0 for phony, else the newest declaration's entry and one more
unfoldable pub rule_number : List ℕ → List Logged → ℕ
rule_number name log = if_b (is_phony name) (λ _. 0) (λ _. entry_number (newest of_rules name log))

-- ------------------------------------------------------------------ makers

-- all these files are made by v
unfoldable pub set_all : ℕ → List ℕ → List ℕ → List ℕ
set_all v [] made = made
set_all v (f ∷ fs) made = set_all v fs (set made f v)

-- the columns of a line lie in the graph
abbrev pub Laid : List ℕ → LineHeld → Type 0
Laid graph h = Columns graph h.mentions h.ends h.phony h.made h.rule_of h.reading.defaults

abbrev pub with_made : ℕ → List ℕ → LineHeld → LineHeld
with_made v fs h =
    record {
      log = h.log;
      reading = h.reading;
      mentions = h.mentions;
      ends = h.ends;
      phony = h.phony;
      made = set_all v fs h.made;
      rule_of = h.rule_of;
    }

-- a part of the mentions is of files that are there
pub record StepPart (from to : ℕ) (h : LineHeld) : Type 0 where
  pub ordered : from ≤ to
  pub within : to ≤ length h.mentions
  pub low : (i : ℕ) → i < length h.mentions → get_or h.mentions i 0 < length h.made

pub record MakeAsks (graph : List ℕ) (from to v : ℕ) : Type 0 where
  pub line : LineHeld
  pub laid : Laid graph line
  pub some : StepPart from to line
  pub small : v < 2 ^ 32

pub record MarksMade (graph : List ℕ) (from to v : ℕ) (graph' : List ℕ) : Type 0 where
  pub laid : (h : LineHeld) → Laid graph h → StepPart from to h → Laid graph' (with_made v (part h.mentions from to) h)

-- ------------------------------------------------------------------ the step

-- where the outputs of the newest step end
abbrev pub newest_end : Counts → LineHeld → ℕ
newest_end c h = end_at h.ends c.steps outs_end

-- the line has its ends, its outputs start at `from`, and there is room for its step
pub record StepReady (from : ℕ) (c : Counts) (h : LineHeld) : Type 0 where
  pub ended : end_place c.steps outs_end < length h.ends
  pub outs : StepPart from (newest_end c h) h
  pub phony : length h.phony ≡ c.steps
  pub ruled : length h.rule_of ≡ c.steps
  pub few : c.steps < max_steps

pub record PutStepAsks (graph : List ℕ) (from n scope : ℕ) (c : Counts) : Type 0 where
  pub line : LineHeld
  pub laid : Laid graph line
  pub ready : StepReady from c line
  pub small : n ≤ max_entries
  pub few : scope < max_scopes

-- phony or not, as a number, by the rule's number
abbrev pub phony_bit : ℕ → ℕ
phony_bit zero = 1
phony_bit (suc n) = 0

unfoldable pub with_step_rule : ℕ → ℕ → ℕ → Counts → LineHeld → LineHeld
unfolding set_all rule_with_scope
with_step_rule from n scope c h =
    record {
      log = h.log;
      reading = h.reading;
      mentions = h.mentions;
      ends = h.ends;
      phony = h.phony ++ (phony_bit n ∷ []);
      made = set_all (c.steps + 1) (part h.mentions from (newest_end c h)) h.made;
      rule_of = h.rule_of ++ (rule_with_scope n scope ∷ []);
    }

abbrev pub counted_step : Counts → Counts
counted_step c =
    record {
      files = c.files;
      steps = c.steps + 1;
      paths = c.paths;
      defaults = c.defaults;
      entries = c.entries;
      rules = c.rules;
      bindings = c.bindings;
      mentions = c.mentions;
      written = c.written;
      opened = c.opened;
    }

pub record PutsStep (graph : List ℕ) (from n scope : ℕ) (c : Counts) (graph' : List ℕ) (r : Counts) : Type 0 where
  pub laid : (h : LineHeld) → Laid graph h → StepReady from c h → Laid graph' (with_step_rule from n scope c h)
  pub counted : r ≡ counted_step c
