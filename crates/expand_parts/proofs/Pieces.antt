-- What the expansion of a raw text begins with: its bytes up to the first `$`, or what a `$` stands for.
use Prim.Native.Nat.{ℕ}
use mathlib.Core.Bool.{true, false}
use mathlib.Core.List.{List, [], ◌∷◌, ◌++◌}
use mathlib.Core.Path.{◌≡◌, refl, ◌∙◌, ap}
use borrow.Author.Tests.{eqb-false}
use lib.Dec.{eqb}
use Rattle.lists.specs.Tests.{split}
use Rattle.lists.specs.Runs.{is_not, run, after_run}
use Rattle.spec.specs.Bytes.{dollar}
use Rattle.spec.specs.Dollars.{literal, joins, names, element, fill, expand}
use Rattle.scan_raw.proofs.Pieces.{pieces_byte, pieces_literal, pieces_join, pieces_name}

module _ (look : List ℕ → List ℕ) where
  expand_byte : (b : ℕ) (s : List ℕ) → (b ≡ dollar → ⊥) → expand look (b ∷ s) ≡ b ∷ expand look s
  unfolding expand fill
  expand_byte b s h = rw (pieces_byte b s h)

  -- the bytes up to the first `$`
  pub expand_run : (s : List ℕ) → expand look s ≡ run (is_not dollar) s ++ expand look (after_run (is_not dollar) s)
  unfolding run after_run
  expand_run [] = refl
  expand_run (b ∷ s) =
      split (eqb b dollar)
      (λ (e : eqb b dollar ≡ true). rw e)
      (λ (e : eqb b dollar ≡ false). rw e (expand_byte b s (eqb-false b dollar e) ∙ ap (λ (l : List ℕ). b ∷ l) (expand_run s)))

  module _ (s : List ℕ) where
    pub expand_literal : {b : ℕ} {r : List ℕ} → element s ≡ literal b r → expand look (dollar ∷ s) ≡ b ∷ expand look r
    unfolding expand fill
    expand_literal e = rw (pieces_literal s e)

    pub expand_join : {r : List ℕ} → element s ≡ joins r → expand look (dollar ∷ s) ≡ expand look r
    unfolding expand fill
    expand_join e = rw (pieces_join s e)

    pub expand_name : {n r : List ℕ} → element s ≡ names n r → expand look (dollar ∷ s) ≡ look n ++ expand look r
    unfolding expand fill
    expand_name e = rw (pieces_name s e)
