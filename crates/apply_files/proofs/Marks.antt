-- What the answer to mentions says, and one mention before others.
use Rattle.std.specs.Prelude.{Option, Some, None}
use mathlib.Core.Bool.{true, false}
use mathlib.Core.List.{List, [], ◌∷◌, ◌++◌}
use mathlib.Core.Path.{◌≡◌}
use Prim.Native.Nat.{ℕ}
use Rattle.spec.specs.Statements.{over_paths}
use Rattle.hold_reading.specs.declared.Counts.{Counts}
use Rattle.hold_reading.specs.Buffers.{Buffers}
use Rattle.apply_files.specs.Lines.{LineHeld, Writing, with_mention, with_paths, over_line, AddedPaths, on, over}
use Rattle.apply_files.proofs.Limits.{line_later, short_append}

module _ {bs : Buffers} {h : LineHeld} {ps : List (List ℕ)} where
  pub marks_on : {c : Counts} → AddedPaths bs h ps (Some c) → Writing bs c (with_paths ps h)
  marks_on (on w s) = w

  pub marks_short : {c : Counts} → AddedPaths bs h ps (Some c) → over_paths ps ≡ false
  marks_short (on w s) = s

  pub marks_over : AddedPaths bs h ps None → (more : List (List ℕ)) → over_line (ps ++ more) h.reading ≡ true
  marks_over (over f) = f

-- one path, then the others
module _ {bs : Buffers} (p : List ℕ) (ps : List (List ℕ)) (h : LineHeld) where
  pub marks_cons : {r : Option Counts} → over_paths (p ∷ []) ≡ false → AddedPaths bs (with_mention p h) ps r → AddedPaths bs h (p ∷ ps) r
  unfolding with_paths with_mention
  marks_cons q (on w s) = on w (short_append (p ∷ []) ps q s)
  marks_cons q (over f) = over (λ more. line_later (p ∷ []) (ps ++ more) h.reading (f more))
