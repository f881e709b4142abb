-- The list of the pending steps: at each place the lowest of them not yet listed with none of them upstream.
use Rattle.std.specs.Prelude.{ℕ, ◌≤◌, ◌<◌, ◌≡◌, ◌⊎◌, Bool, true, List, eqb, length, get_or, Option, Some, None}
use Rattle.lists.specs.Fill.{zeros}
use Rattle.lists.specs.Members.{◌∈◌, all, keep, up_to}
use Rattle.orders.specs.Order.{IsOrder}
use Rattle.orders.specs.Greedy.{In, By, greedy}
use Rattle.orders.specs.Reach.{ComesBefore, upstream}
use Rattle.spec.specs.Reading.{Step}
use Rattle.spec.specs.Graph.{before, needed}
use Rattle.spec.specs.Stale.{list_of}
use Rattle.hold_columns.specs.Columns.{makers_in, before_in, HoldsColumns, SoundColumns, SortedSteps, Shown}
use Rattle.graph_stale.specs.Judge.{time_at}

-- the steps with the mark 1
unfoldable pub marked : ℕ → List ℕ → List ℕ
unfolding keep up_to
marked n marks = keep (λ s. eqb (get_or marks s 0) 1) (up_to n)

-- are all makers of these files clear
unfoldable pub all_clear : List ℕ → List ℕ → List ℕ → Bool
unfolding all makers_in
all_clear made clear fs = all (λ m. eqb (get_or clear m 0) 1) (makers_in made fs)

-- no pending step is upstream of s
abbrev pub Unblocked : (ℕ → List ℕ) → List ℕ → ℕ → Type 0
Unblocked before pending s = (m : ℕ) → ComesBefore before m s → get_or pending m 0 ≡ 1 → ⊥

-- a clear step is not pending, and no pending step is upstream of it
abbrev pub ClearSteps : (ℕ → List ℕ) → List ℕ → List ℕ → Type 0
ClearSteps before pending clear = (s : ℕ) → get_or clear s 0 ≡ 1 → (get_or pending s 0 ≡ 1 → ⊥) × Unblocked before pending s

-- What a look at step s makes of the lowest ready step so far and of the clear steps, by whether its inputs' makers are all clear.
pub record LooksAt (s : ℕ) (ready : Bool) (pending clear exit : List ℕ) (best r : ℕ) : Type 0 where
  pub long : length exit ≡ length clear
  pub keeps : (u : ℕ) → get_or clear u 0 ≡ 1 → get_or exit u 0 ≡ 1
  pub clears : (u : ℕ) → get_or exit u 0 ≡ 1 → (get_or clear u 0 ≡ 1) ⊎ ((u ≡ s) × (ready ≡ true) × (get_or pending s 0 ≡ 1 → ⊥))
  pub free : ready ≡ true → (get_or pending s 0 ≡ 1 → ⊥) → get_or exit s 0 ≡ 1
  pub lower : r ≤ best
  pub found : r < best → (r ≡ s) × (ready ≡ true) × (get_or pending s 0 ≡ 1)
  pub least : ready ≡ true → get_or pending s 0 ≡ 1 → (get_or clear s 0 ≡ 1 → ⊥) → r ≤ s

pub record LookAsked (mentions ends made pending clear : List ℕ) (s : ℕ) : Type 0 where
  pub sound : SoundColumns (length pending) mentions ends made
  pub long : length clear ≡ length pending
  pub low : s < length pending

-- r is the lowest pending step of the order with none upstream, or n where there is none
pub record NextReady (before : ℕ → List ℕ) (pending order : List ℕ) (n r : ℕ) : Type 0 where
  pub within : r ≤ n
  pub found : r < n → (r ∈ order) × (get_or pending r 0 ≡ 1) × Unblocked before pending r
  pub least : (s : ℕ) → s ∈ order → get_or pending s 0 ≡ 1 → Unblocked before pending s → r ≤ s

-- the lowest such step of n, or none
unfoldable pub ReadyFound : (ℕ → List ℕ) → List ℕ → List ℕ → ℕ → Option ℕ → Type 0
ReadyFound before pending order n (Some s) = NextReady before pending order n s × (s < n)
ReadyFound before pending order n None = NextReady before pending order n n

pub record PassAsked (mentions ends made order pending clear : List ℕ) : Type 0 where
  pub sound : SoundColumns (length pending) mentions ends made
  pub sorted : SortedSteps (before_in mentions ends made) order
  pub steps : (i : ℕ) → i < length order → get_or order i 0 < length pending
  pub long : length clear ≡ length pending
  pub clear_now : ClearSteps (before_in mentions ends made) pending clear

pub record ReadyPassed (mentions ends made order pending exit : List ℕ) (r : Option ℕ) : Type 0 where
  pub next : ReadyFound (before_in mentions ends made) pending order (length pending) r
  pub long : length exit ≡ length pending
  pub clear_now : ClearSteps (before_in mentions ends made) pending exit

-- What the list asks: sound tables, an order that holds every pending step, nothing clear yet, room for every step.
pub record ListAsked (mentions ends made order pending clear list : List ℕ) : Type 0 where
  pub sound : SoundColumns (length pending) mentions ends made
  pub sorted : SortedSteps (before_in mentions ends made) order
  pub steps : (i : ℕ) → i < length order → get_or order i 0 < length pending
  pub inside : (s : ℕ) → get_or pending s 0 ≡ 1 → s ∈ order
  pub unclear : clear ≡ zeros (length pending)
  pub room : length pending ≤ length list

-- the least list of the pending steps
unfoldable pub least_in : List ℕ → List ℕ → List ℕ → List ℕ → List ℕ
unfolding greedy marked upstream before_in
least_in mentions ends made pending = greedy (marked (length pending) pending) (upstream (before_in mentions ends made) (length pending))

-- What listing the stale steps asks: sound tables, a time for each file, an order of steps with each after those before it, room for every step.
pub record StaleListAsked (mentions ends phony made times order list : List ℕ) : Type 0 where
  pub sound : SoundColumns (length phony) mentions ends made
  pub timed : length times ≡ length made
  pub sorted : SortedSteps (before_in mentions ends made) order
  pub steps : (i : ℕ) → i < length order → get_or order i 0 < length phony
  pub room : length phony ≤ length list

-- the same, with working space that is all zero
pub record ListSpaceAsked (mentions ends phony made times order marks clear list : List ℕ) : Type 0 where
  pub asked : StaleListAsked mentions ends phony made times order list
  pub unmarked : marks ≡ zeros (length phony)
  pub unclear : clear ≡ zeros (length phony)

-- The list is document 01's, whatever steps the tables hold and whatever the roots are, where `order` is an order of the needed steps.
abbrev pub StaleListed : List ℕ → List ℕ → List ℕ → List ℕ → List ℕ → List ℕ → List ℕ → ℕ → List ℕ → Type 0
StaleListed mentions ends phony made times order list k exit =
    (steps : List Step) (files : ℕ) (roots : List ℕ) → HoldsColumns steps files mentions ends phony made → IsOrder (In (needed steps roots)) (By (before steps)) order
    → Shown (list_of steps (time_at times) roots) list k exit
