-- What the numbers of a target list are held to.
use Rattle.std.specs.Prelude.{ℕ, ◌≤◌, ◌<◌, List, map, ◌≡◌, length, take, get_or, Result, Ok, Err}
use Rattle.std.proofs.Math.Option.{none, some}
use Rattle.spec.specs.Limits.{max_targets}
use Rattle.spec.specs.Reading.{number_of}
use Rattle.spec.specs.Targets.{Target, targets_of, bad_target}
use Rattle.hold_names.specs.Table.{HoldsNames, SoundNames}

pub record NumberingAsked (names index : List ℕ) (count : ℕ) (out : List ℕ) : Type 0 where
  pub named : SoundNames names index count
  -- each name takes two bytes at least
  pub room : max_targets ≤ length out

-- the files of a target list by number
unfoldable pub target_numbers_of : List (List ℕ) → List ℕ → List ℕ
unfolding targets_of number_of
target_numbers_of files targets = map (λ (t : Target). number_of t.name files) (targets_of targets)

-- the list is good, and the buffer begins with its numbers
pub record TargetsNumbered (targets out : List ℕ) (files : List (List ℕ)) (n : ℕ) : Type 0 where
  pub good : bad_target files targets ≡ none
  pub within : n ≤ length out
  pub counted : n ≡ length (target_numbers_of files targets)
  pub numbers : take n out ≡ target_numbers_of files targets
  pub low : (i : ℕ) → i < n → get_or out i 0 < length files

abbrev pub Says : List ℕ → List ℕ → List (List ℕ) → Result ℕ ℕ → Type 0
Says targets out files (Ok n) = TargetsNumbered targets out files n
Says targets out files (Err place) = bad_target files targets ≡ some place

pub record NumbersTargets (targets names index : List ℕ) (count : ℕ) (out : List ℕ) (r : Result ℕ ℕ) : Type 0 where
  pub says : (files : List (List ℕ)) → HoldsNames names index count files → Says targets out files r
