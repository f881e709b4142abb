-- What a raw text begins with at a place.
use Rattle.std.specs.Prelude.{ℕ, ◌≤◌, ◌<◌, List, [], ◌∷◌, ◌++◌, ◌≡◌, length, drop}
use Rattle.std.proofs.Math.Option.{none}
use Rattle.lists.specs.Parts.{part}
use Rattle.spec.specs.Dollars.{bad_dollar, byte, ref, pieces}
use Rattle.spec.specs.Dollars as rules
use Rattle.scan_classes.specs.Table.{classes}
use Rattle.text_references.specs.declared.Piece.{Piece}
use Rattle.text_references.specs.declared.Piece.TheVariants.{Bytes, Name}

-- What reading a raw text from place i on asks: no bad `$` follows.
pub record ReferencesReady (t raw : List ℕ) (i : ℕ) : Type 0 where
  pub table : t ≡ classes
  pub within : i ≤ length raw
  pub sound : bad_dollar (drop i raw) ≡ none

-- bytes as pieces
unfoldable pub plainly : List ℕ → List rules.Piece
plainly [] = []
plainly (b ∷ s) = byte b ∷ plainly s

-- From place i up to place `next` the text gives these pieces; they are about its part from place to place.
pub record PiecesStand (raw : List ℕ) (i from to next : ℕ) (l : List rules.Piece) : Type 0 where
  pub ordered : from ≤ to
  pub inside : to ≤ length raw
  pub forward : i < next
  pub within : next ≤ length raw
  pub sound : bad_dollar (drop next raw) ≡ none
  pub gives : pieces (drop i raw) ≡ l ++ pieces (drop next raw)

unfoldable pub BeginsPiece : List ℕ → ℕ → Piece → Type 0
unfolding plainly
BeginsPiece raw i (Bytes from to next) = PiecesStand raw i from to next (plainly (part raw from to))
BeginsPiece raw i (Name from to next) = PiecesStand raw i from to next (ref (part raw from to) ∷ [])
