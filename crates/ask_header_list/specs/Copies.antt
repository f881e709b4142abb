-- Written mentions copied to the end of the second ones, and a step's ends behind them.
use Rattle.std.specs.Prelude.{ℕ, ◌+◌, ◌-◌, ◌*◌, ◌≤◌, ◌<◌, List, [], ◌∷◌, ◌++◌, ◌≡◌, length, get_or, set}
use Rattle.lists.specs.Parts.{part}
use Rattle.spec.specs.Limits.{max_files, max_mentions, max_steps}
use Rattle.hold_columns.specs.Columns.{outs_end, ins_end, implicit_end, order_only_end, end_place}
use Rattle.hold_reading.specs.declared.Counts.{Counts}
use Rattle.hold_reading.specs.Held.{columns_end, ends_start, rule_start}
use Rattle.apply_files.specs.Lines.{Columns}
use Rattle.ask_header_list.specs.declared.StepPlaces.{StepPlaces}
use Rattle.ask_header_list.specs.declared.StepEnds.{StepEnds}
use Rattle.ask_header_list.specs.Places.{SoundPlaces}

-- ------------------------------------------------------------------ mentions

abbrev pub counted_copies : ℕ → Counts → Counts
counted_copies n c =
    record {
      files = c.files;
      steps = c.steps;
      paths = c.paths + n;
      defaults = c.defaults;
      entries = c.entries;
      rules = c.rules;
      bindings = c.bindings;
      mentions = c.mentions;
      written = c.written;
      opened = c.opened;
    }

-- so many numbers fit at the end of the second mentions
pub record CopyAsks (graph : List ℕ) (from to : ℕ) (second : List ℕ) (c : Counts) : Type 0 where
  pub ordered : from ≤ to
  pub within : to ≤ length graph
  pub low : (i : ℕ) → from ≤ i → i < to → get_or graph i 0 < max_files
  pub long : columns_end ≤ length second
  pub room : c.paths + (to - from) ≤ max_mentions

-- The second mentions have the written ones from one place to another at their end.
pub record Copies (graph : List ℕ) (from to : ℕ) (second : List ℕ) (c : Counts) (second' : List ℕ) (r : Counts) : Type 0 where
  pub copied : (m e p d u f : List ℕ) → Columns second m e p d u f → c.paths ≡ length m → Columns second' (m ++ part graph from to) e p d u f
  pub counted : r ≡ counted_copies (to - from) c

-- ------------------------------------------------------------------ the ends of a step

-- the number for a step's depfile, and the ends of its parts
unfoldable pub ended_in : List ℕ → ℕ → StepEnds → ℕ → List ℕ
ended_in second s e n =
    let a = set second (ends_start + end_place s outs_end) e.outs in
    let b = set a (ends_start + end_place s ins_end) e.ins in
    let c = set b (ends_start + end_place s implicit_end) e.implicit in
    let d = set c (ends_start + end_place s order_only_end) e.order in
    set d (rule_start + s) n

pub record EndAsks (second : List ℕ) (s : ℕ) (e : StepEnds) (n : ℕ) : Type 0 where
  pub long : columns_end ≤ length second
  pub few : s < max_steps
  pub outs : e.outs ≤ max_mentions
  pub ins : e.ins ≤ max_mentions
  pub implicit : e.implicit ≤ max_mentions
  pub order : e.order ≤ max_mentions
  pub small : n ≤ 2 * max_mentions + 1

-- the ends of a step's parts in the second columns, from the written ones: its mentions start at `base`, and its listed files end at `listed`
abbrev pub moved_ends : StepPlaces → ℕ → ℕ → StepEnds
moved_ends p base listed =
    record {
      outs = base + (p.outs - p.start);
      ins = base + (p.ins - p.start);
      implicit = listed;
      order = listed + (p.order - p.implicit);
    }

abbrev pub ends_of : StepEnds → List ℕ
ends_of e = e.outs ∷ e.ins ∷ e.implicit ∷ e.order ∷ []

-- ------------------------------------------------------------------ a step behind its listed files

pub record CloseAsks (graph : List ℕ) (p : StepPlaces) (second : List ℕ) (s base : ℕ) (c : Counts) (n : ℕ) : Type 0 where
  pub sound : SoundPlaces graph p
  pub long : columns_end ≤ length second
  pub few : s < max_steps
  pub before : base + (p.implicit - p.start) ≤ c.paths
  pub room : c.paths + (p.order - p.implicit) ≤ max_mentions
  pub small : n ≤ 2 * max_mentions + 1

-- Order-only inputs, ends and number of step s stand behind what was there, if the steps before have theirs.
pub record Closes (graph : List ℕ) (p : StepPlaces) (second : List ℕ) (s base : ℕ) (c : Counts) (n : ℕ) (second' : List ℕ) (r : Counts) : Type 0 where
  pub closed : (m e o d u f : List ℕ) → Columns second m e o d u f → c.paths ≡ length m → length e ≡ end_place s outs_end → length u ≡ s
      → Columns second' (m ++ part graph p.implicit p.order) (e ++ ends_of (moved_ends p base c.paths)) o d (u ++ (n ∷ [])) f
  pub counted : r ≡ counted_copies (p.order - p.implicit) c
