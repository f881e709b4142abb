-- "Without defaults, every output that is no step's input": inputs are marked, then the outputs without a mark are kept.
use Rattle.std.specs.Prelude.{ℕ, zero, suc, ◌+◌, ◌≤◌, ◌<◌, ◌≡◌, not, ◌⊎◌, List, [], ◌++◌, eqb, length, get_or, take}
use Rattle.lists.specs.Fill.{zeros}
use Rattle.lists.specs.Members.{◌∈◌, keep}
use Rattle.spec.specs.Limits.{max_files}
use Rattle.spec.specs.Reading.{Step}
use Rattle.spec.specs.Graph.{tops}
use Rattle.hold_columns.specs.Columns.{inputs_in, outs_in, HoldsColumns, SoundColumns}

-- the files of a list are marked too
pub record MarkedToo (fs marks exit : List ℕ) : Type 0 where
  pub long : length exit ≡ length marks
  pub marks_all : (f : ℕ) → f ∈ fs → get_or exit f 0 ≡ 1
  pub keeps : (f : ℕ) → get_or marks f 0 ≡ 1 → get_or exit f 0 ≡ 1
  pub only : (f : ℕ) → get_or exit f 0 ≡ 1 → (get_or marks f 0 ≡ 1) ⊎ (f ∈ fs)

-- the inputs of the first n steps are marked, and no other file
pub record InputsMarked (mentions ends : List ℕ) (n files : ℕ) (marks : List ℕ) : Type 0 where
  pub long : length marks ≡ files
  pub marked : (s f : ℕ) → s < n → f ∈ inputs_in mentions ends s → get_or marks f 0 ≡ 1
  pub only : (f : ℕ) → get_or marks f 0 ≡ 1 → (s : ℕ) × (s < n) × (f ∈ inputs_in mentions ends s)

-- the files of a list that are not marked
unfoldable pub unmarked : List ℕ → List ℕ → List ℕ
unfolding keep
unmarked marks fs = keep (λ f. not (eqb (get_or marks f 0) 1)) fs

-- the first r numbers are the first k as they were, then the unmarked files of the list
pub record Appended (fs marks out : List ℕ) (k : ℕ) (exit : List ℕ) (r : ℕ) : Type 0 where
  pub long : length exit ≡ length out
  pub within : r ≤ k + length fs
  pub front : take r exit ≡ take k out ++ unmarked marks fs

-- the outputs of the first n steps
unfoldable pub outs_before : List ℕ → List ℕ → ℕ → List ℕ
unfolding outs_in
outs_before mentions ends zero = []
outs_before mentions ends (suc s) = outs_before mentions ends s ++ outs_in mentions ends s

pub record MarkAsked (mentions ends phony made marks : List ℕ) : Type 0 where
  pub sound : SoundColumns (length phony) mentions ends made
  pub blank : marks ≡ zeros (length made)

pub record AppendAsked (fs marks out : List ℕ) (k : ℕ) : Type 0 where
  pub low : (i : ℕ) → i < length fs → get_or fs i 0 < length marks
  pub few : length marks ≤ max_files
  pub room : k + length fs ≤ length out

pub record TopsAsked (mentions ends phony made marks out : List ℕ) : Type 0 where
  pub sound : SoundColumns (length phony) mentions ends made
  pub blank : marks ≡ zeros (length made)
  pub room : length mentions ≤ length out

-- the first r numbers are the outputs that are no step's input
pub record TopsFound (mentions ends phony made out : List ℕ) (r : ℕ) : Type 0 where
  pub within : r ≤ length out
  pub low : (f : ℕ) → f ∈ take r out → f < length made
  pub found : (steps : List Step) (files : ℕ) → HoldsColumns steps files mentions ends phony made → take r out ≡ tops steps
