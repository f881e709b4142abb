-- The numbers that the name table answers.
use Rattle.std.specs.Prelude.{ℕ, ◌+◌, ◌*◌, ◌^◌, ◌≤◌, ◌<◌, List, [], ◌∷◌, ◌++◌, ◌≡◌, length, take, drop}
use Rattle.hold_names.specs.declared.Added.{Added}
use Rattle.hold_names.specs.declared.Added.TheVariants.{Old, New, Full}
use Rattle.hold_names.specs.Table.{max_numbers, HoldsNames, added, files_after, count_after}
use Rattle.spec.specs.Targets.{targets_of}
use Rattle.test_scan.specs.Targets.{good_names}

-- 0 for no room, 2k + 1 for a path that was there as number k, 2k + 2 for one that is new
unfoldable pub added_number : Added → ℕ
added_number (Old k) = 2 * k + 1
added_number (New k) = 2 * k + 2
added_number Full = 0

-- ---- one name

pub record AddsNumber (names index : List ℕ) (count : ℕ) (path names' index' : List ℕ) (number count' : ℕ) : Type 0 where
  pub same : length names' ≡ length names
  pub low : number < 2 ^ 32
  pub answer : (files : List (List ℕ)) → HoldsNames names index count files →
      let a = added (length names) path files in (number ≡ added_number a) × (count' ≡ count_after a count) × HoldsNames names' index' (count_after a count) (files_after a path files)

-- ---- the names of a list

-- the numbers of names that are added one after another, by a table with room for so many bytes that holds these files
unfoldable pub numbered : ℕ → List (List ℕ) → List (List ℕ) → List ℕ
unfolding added_number added files_after
numbered room files [] = []
numbered room files (p ∷ ps) = let a = added room p files in added_number a ∷ numbered room (files_after a p files) ps

-- the files that it holds then
unfoldable pub held_after : ℕ → List (List ℕ) → List (List ℕ) → List (List ℕ)
unfolding added files_after
held_after room files [] = files
held_after room files (p ∷ ps) = held_after room (files_after (added room p files) p files) ps

-- those that have room in a buffer for their numbers
abbrev pub first_names : List ℕ → List ℕ → List (List ℕ)
first_names numbers list = take (length numbers) (good_names (targets_of list))

pub record NamesAsked (names index : List ℕ) : Type 0 where
  pub empty : HoldsNames names index 0 []

pub record AddsAll (list : List ℕ) (room : ℕ) (before : List ℕ) (n : ℕ) (names index after : List ℕ) : Type 0 where
  pub counted : n ≡ length (first_names before list)
  pub within : n ≤ length before
  pub numbers : after ≡ numbered room [] (first_names before list) ++ drop n before
  pub table : let files = held_after room [] (first_names before list) in HoldsNames names index (length files) files

-- ---- buffers of any length

pub record Room (names index : List ℕ) : Type 0 where
  pub small : length names < 2 ^ 32
  pub room : max_numbers ≤ length index

-- 0, and all as it was
pub record NumbersUntouched (names index numbers : List ℕ) (r : ℕ) (names' index' numbers' : List ℕ) : Type 0 where
  pub none : r ≡ 0
  pub bytes : names' ≡ names
  pub links : index' ≡ index
  pub column : numbers' ≡ numbers

pub record NumbersNames (list names index numbers : List ℕ) (r : ℕ) (names' index' numbers' : List ℕ) : Type 0 where
  pub refuses : (Room names index → ⊥) → NumbersUntouched names index numbers r names' index' numbers'
  pub adds : Room names index → (n : ℕ) × (r ≡ n + 1) × AddsAll list (length names) numbers n names' index' numbers'
