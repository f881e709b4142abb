-- The numbers of a version, as the code hands them over: a value and a place.
use Rattle.std.specs.Prelude.{List, ℕ, drop, Option, Some, None}
use Rattle.version.specs.Version.{Number, value, none}

unfoldable pub part_of : List ℕ → Option (ℕ × ℕ) → Number
part_of s (Some (n, i)) = value n (drop i s)
part_of s None = none
