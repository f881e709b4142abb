-- For callers: what a piece gives of an expansion and of the names referred to.
use Prim.Native.Nat.{ℕ}
use mathlib.Core.List.{List, [], ◌∷◌, ◌++◌}
use mathlib.Core.Path.{◌≡◌, refl, ◌∙◌, ap}
use lib.ListN.{drop}
use Rattle.lists.specs.Parts.{part}
use Rattle.spec.specs.Dollars.{ref, fill, expand, refs_of, refs, pieces}
use Rattle.spec.specs.Dollars as rules
use Rattle.text_references.specs.declared.Piece.{Piece}
use Rattle.text_references.specs.declared.Piece.TheVariants.{Bytes, Name}
use Rattle.text_references.specs.Begins.{ReferencesReady, plainly, PiecesStand, BeginsPiece}

fill_plainly : (look : List ℕ → List ℕ) (s : List ℕ) (l : List rules.Piece) → fill look (plainly s ++ l) ≡ s ++ fill look l
unfolding fill plainly
fill_plainly look [] l = refl
fill_plainly look (b ∷ s) l = ap (λ (r : List ℕ). b ∷ r) (fill_plainly look s l)

refs_plainly : (s : List ℕ) (l : List rules.Piece) → refs_of (plainly s ++ l) ≡ refs_of l
unfolding refs_of plainly
refs_plainly [] l = refl
refs_plainly (b ∷ s) l = refs_plainly s l

module _ {raw : List ℕ} {i : ℕ} {p : Piece} {from to next : ℕ} where
  pub as_bytes : BeginsPiece raw i p → p ≡ Bytes from to next → PiecesStand raw i from to next (plainly (part raw from to))
  unfolding BeginsPiece
  as_bytes b e = rw e at b

  pub as_name : BeginsPiece raw i p → p ≡ Name from to next → PiecesStand raw i from to next (ref (part raw from to) ∷ [])
  unfolding BeginsPiece
  as_name b e = rw e at b

module _ {raw : List ℕ} {i from to next : ℕ} where
  module _ (b : PiecesStand raw i from to next (plainly (part raw from to))) where
    pub expand_bytes : (look : List ℕ → List ℕ) → expand look (drop i raw) ≡ part raw from to ++ expand look (drop next raw)
    unfolding expand
    expand_bytes look = ap (fill look) b.gives ∙ fill_plainly look (part raw from to) (pieces (drop next raw))

    pub refs_bytes : refs (drop i raw) ≡ refs (drop next raw)
    unfolding refs
    refs_bytes = ap refs_of b.gives ∙ refs_plainly (part raw from to) (pieces (drop next raw))

  module _ (b : PiecesStand raw i from to next (ref (part raw from to) ∷ [])) where
    pub expand_name : (look : List ℕ → List ℕ) → expand look (drop i raw) ≡ look (part raw from to) ++ expand look (drop next raw)
    unfolding expand fill
    expand_name look = ap (fill look) b.gives

    pub refs_name : refs (drop i raw) ≡ part raw from to ∷ refs (drop next raw)
    unfolding refs refs_of
    refs_name = ap refs_of b.gives

-- After a piece the text can be read on.
pub ready_on : {t raw : List ℕ} {i from to next : ℕ} {l : List rules.Piece} → ReferencesReady t raw i → PiecesStand raw i from to next l → ReferencesReady t raw next
ready_on r b = record { table = r.table; within = b.within; sound = b.sound }
