-- What the answers about a `$` say of what it begins.
use Rattle.std.specs.Prelude.{ℕ, ◌≤◌, List, ◌≡◌, length, drop, Option as StdOption, Some, None}
use Rattle.std.proofs.Math.Option.{Option, none, some}
use Rattle.lists.specs.Parts.{part}
use Rattle.spec.specs.Dollars.{Element, literal, joins, names, wrong, element}
use Rattle.scan_dollars.specs.declared.Escape.{Escape}
use Rattle.scan_dollars.specs.declared.Escape.TheVariants.{Byte, Join, Name, Bad}

-- what follows it, if it is sound
unfoldable pub rest_of : Element → Option (List ℕ)
rest_of (literal b s) = some s
rest_of (joins s) = some s
rest_of (names n s) = some s
rest_of wrong = none

-- What an answer tells of x, which begins at place `at`: what it is, and where the bytes after it start.
pub record FoundElement (s : List ℕ) (at next : ℕ) (x y : Element) : Type 0 where
  pub forward : at ≤ next
  pub within : next ≤ length s
  pub is : x ≡ y

pub record DollarName (s : List ℕ) (at from to next : ℕ) (x : Element) : Type 0 where
  pub ordered : from ≤ to
  pub before : to ≤ next
  pub found : FoundElement s at next x (names (part s from to) (drop next s))

unfoldable pub TellsElement : List ℕ → ℕ → Element → Escape → Type 0
TellsElement s at x (Byte b next) = FoundElement s at next x (literal b (drop next s))
TellsElement s at x (Join next) = FoundElement s at next x (joins (drop next s))
TellsElement s at x (Name from to next) = DollarName s at from to next x
TellsElement s at x Bad = x ≡ wrong

-- where what follows it starts, if it is sound
pub record DollarPassed (s : List ℕ) (at next : ℕ) : Type 0 where
  pub forward : at ≤ next
  pub within : next ≤ length s
  pub rest : rest_of (element (drop at s)) ≡ some (drop next s)

unfoldable pub PastAt : List ℕ → ℕ → StdOption ℕ → Type 0
PastAt s at (Some next) = DollarPassed s at next
PastAt s at None = rest_of (element (drop at s)) ≡ none
