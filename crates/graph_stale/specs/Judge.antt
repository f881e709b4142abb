-- Stale and time, read from the tables: what is known of each step stands in two columns.
use Rattle.std.specs.Prelude.{ℕ, ◌≤◌, ◌<◌, ◌≡◌, Bool, ◌&&◌, ◌||◌, List, [], ◌∷◌, map, eqb, ltb, length, get_or}
use Rattle.lists.specs.Tests.{if_b}
use Rattle.lists.specs.Members.{◌∈◌, ◌∉◌, any}
use Rattle.lists.specs.Fill.{zeros}
use Rattle.orders.specs.Order.{IsOrder}
use Rattle.orders.specs.Greedy.{In, By}
use Rattle.spec.specs.Basics.{is_empty}
use Rattle.spec.specs.Reading.{Step}
use Rattle.spec.specs.Graph.{before, needed}
use Rattle.spec.specs.Stale.{Verdict, greatest, verdict, stale_needed}
use Rattle.hold_columns.specs.Columns.{bit, maker_in, makers_in, inputs_in, outs_in, HoldsColumns, SoundColumns, FilesMade, Marks, SortedSteps}
use Rattle.graph_stale.specs.declared.Judged.{Judged}

-- what the columns say of a step
abbrev pub known : List ℕ → List ℕ → ℕ → Verdict
known stale late m = record { stale = eqb (get_or stale m 0) 1; time = get_or late m 0 }

-- the time of a file on the card, by its number
abbrev pub time_at : List ℕ → ℕ → ℕ
time_at times f = get_or times f 0

-- the time that a phony maker gives
unfoldable pub late_time : List ℕ → List ℕ → List ℕ → ℕ
late_time phony late [] = 0
late_time phony late (m ∷ ms) = if_b (eqb (get_or phony m 0) 1) (λ _. get_or late m 0) (λ _. 0)

unfoldable pub file_time : List ℕ → List ℕ → List ℕ → List ℕ → ℕ → ℕ
unfolding late_time maker_in
file_time made phony times late f = if_b (eqb (time_at times f) 0) (λ _. late_time phony late (maker_in made f)) (λ _. time_at times f)

unfoldable pub newest_of : List ℕ → List ℕ → List ℕ → List ℕ → List ℕ → ℕ
unfolding greatest file_time
newest_of made phony times late fs = greatest (map (file_time made phony times late) fs)

-- is a maker of these files stale
unfoldable pub stale_maker : List ℕ → List ℕ → List ℕ → Bool
unfolding any makers_in
stale_maker made stale fs = any (λ m. eqb (get_or stale m 0) 1) (makers_in made fs)

-- is one of these files missing, or older than t
unfoldable pub outdated : List ℕ → ℕ → List ℕ → Bool
unfolding any
outdated times t fs = any (λ f. eqb (time_at times f) 0 || ltb (time_at times f) t) fs

-- what asking the time of a file asks
pub record FileAsked (made phony times late : List ℕ) (f : ℕ) : Type 0 where
  pub low : f < length made
  pub timed : length times ≡ length made
  pub maker_low : get_or made f 0 ≤ length phony
  pub late_long : length late ≡ length phony

pub record FilesAsked (fs made phony times late : List ℕ) : Type 0 where
  pub files : FilesMade (length phony) fs made
  pub timed : length times ≡ length made
  pub late_long : length late ≡ length phony

-- has a step no inputs at all, and is an output missing
unfoldable pub bare_missing : List ℕ → List ℕ → List ℕ → ℕ → Bool
unfolding outdated inputs_in outs_in
bare_missing mentions ends times s = is_empty (inputs_in mentions ends s) && outdated times 0 (outs_in mentions ends s)

-- what judging a step asks
pub record JudgeAsked (mentions ends phony made times stale late : List ℕ) : Type 0 where
  pub sound : SoundColumns (length phony) mentions ends made
  pub timed : length times ≡ length made
  pub stale_long : length stale ≡ length phony
  pub late_long : length late ≡ length phony

-- the verdict on step s, from what the columns say of the others
pub record VerdictTold (steps : List Step) (times stale late : List ℕ) (s : ℕ) (judged : Judged) : Type 0 where
  pub told_stale : judged.stale ≡ bit (verdict steps (time_at times) (known stale late) s).stale
  pub told_time : judged.time ≡ (verdict steps (time_at times) (known stale late) s).time

-- whatever steps the tables hold
abbrev pub Judges : List ℕ → List ℕ → List ℕ → List ℕ → List ℕ → List ℕ → List ℕ → ℕ → Judged → Type 0
Judges mentions ends phony made times stale late s judged =
    (steps : List Step) (files : ℕ) → HoldsColumns steps files mentions ends phony made → VerdictTold steps times stale late s judged

-- the columns hold the verdict on each step of the order, and what they held before of any other
pub record AllTold (mentions ends phony made times order before_stale stale late : List ℕ) : Type 0 where
  pub stale_long : length stale ≡ length phony
  pub late_long : length late ≡ length phony
  pub others : (s : ℕ) → s ∉ order → get_or stale s 0 ≡ get_or before_stale s 0
  pub told : (steps : List Step) (files : ℕ) → HoldsColumns steps files mentions ends phony made → SortedSteps (before steps) order
      → (s : ℕ) → s ∈ order → VerdictTold steps times stale late s (record { stale = get_or stale s 0; time = get_or late s 0 })

pub record AllAsked (mentions ends phony made times order stale late : List ℕ) : Type 0 where
  pub asked : JudgeAsked mentions ends phony made times stale late
  pub steps : (i : ℕ) → i < length order → get_or order i 0 < length phony

-- the marks of phony steps are taken off, the others kept
pub record CommandsKept (phony marks exit : List ℕ) : Type 0 where
  pub long : length exit ≡ length phony
  pub off : (s : ℕ) → s < length phony → get_or phony s 0 ≡ 1 → get_or exit s 0 ≡ 0
  pub kept : (s : ℕ) → s < length phony → (get_or phony s 0 ≡ 1 → ⊥) → get_or exit s 0 ≡ get_or marks s 0

pub record StaleAsked (mentions ends phony made times order marks : List ℕ) : Type 0 where
  pub sound : SoundColumns (length phony) mentions ends made
  pub timed : length times ≡ length made
  pub steps : (i : ℕ) → i < length order → get_or order i 0 < length phony
  pub unmarked : marks ≡ zeros (length phony)

-- Only steps of the order are marked; and the marked ones are the stale needed command steps, whatever steps the tables hold and whatever the
-- roots are, where `order` is an order of the needed steps.
pub record StaleMarked (mentions ends phony made times order marks : List ℕ) : Type 0 where
  pub long : length marks ≡ length phony
  pub inside : (s : ℕ) → get_or marks s 0 ≡ 1 → s ∈ order
  pub marked : (steps : List Step) (files : ℕ) (roots : List ℕ) → HoldsColumns steps files mentions ends phony made → IsOrder (In (needed steps roots)) (By (before steps)) order
      → Marks (length phony) (stale_needed steps (time_at times) roots) marks
