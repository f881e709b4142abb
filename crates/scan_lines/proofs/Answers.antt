-- What an answer says, once its case is known.
use Prim.Native.Nat.{ℕ}
use mathlib.Core.Bool.{true, false}
use mathlib.Core.List.{List}
use mathlib.Core.Path.{◌≡◌}
use Rattle.scan_lines.specs.declared.LineEnd.{LineEnd}
use Rattle.scan_lines.specs.declared.LineEnd.TheVariants.{Ended, Comment, Open}
use Rattle.scan_lines.specs.Endings.{EndedAs, LineOpen, LineAt}

-- ---- `line_end`

module _ (m : List ℕ) (i : ℕ) (r : LineEnd) (p : LineAt m i r) where
  pub line_ended : {e : ℕ} → r ≡ Ended e → EndedAs false m i e
  unfolding LineAt
  line_ended e = rw e at p

  pub line_comment : {e : ℕ} → r ≡ Comment e → EndedAs true m i e
  unfolding LineAt
  line_comment e = rw e at p

  pub line_open : r ≡ Open → LineOpen m i
  unfolding LineAt
  line_open e = rw e at p
