-- What the functions on a target list answer.
use Rattle.std.specs.Prelude.{ℕ, ◌+◌, Bool, not, List, [], ◌∷◌, eqb, length}
use Rattle.lists.specs.Tests.{if_b}
use Rattle.spec.specs.Bytes.{newline}
use Rattle.spec.specs.Targets.{Target, bad_length}
use Rattle.scan_targets.specs.declared.NextTarget.{NextTarget}
use Rattle.scan_targets.specs.declared.NextTarget.TheVariants.{End, Bad, Name}

-- a byte of a name
unfoldable pub other : ℕ → Bool
other b = not (eqb b newline)

-- the first of the names that are left
unfoldable pub next_in : List Target → NextTarget
unfolding bad_length
next_in [] = End
next_in (t ∷ ts) = if_b (bad_length t.name) (λ _. Bad) (λ _. Name (t.start + length t.name))
