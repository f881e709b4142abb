-- The kind of a line by its first byte and its first byte that is no space, and what a kind says in the rules' words.
use Prim.Native.Nat.{ℕ, ◌≤◌, ◌<◌}
use mathlib.Core.Bool.{true, false}
use mathlib.Core.List.{List, [], ◌∷◌}
use mathlib.Core.Path.{◌≡◌, refl}
use native.Mathlib.Nat.{not-suc-le-zero}
use native.Mathlib.Omega.{arith}
use borrow.Author.Tests.{ne_eqb}
use lib.Dec.{eqb}
use lib.ListN.{length, get_or}
use Rattle.lists.specs.Tests.{split}
use Rattle.lists.specs.Runs.{Reads, after_run}
use Rattle.spec.specs.Bytes.{space, hash}
use Rattle.spec.specs.Lines.{is_space, starts_with, is_comment, is_blank, is_indented}
use Rattle.scan_lines.specs.declared.LineKind.{LineKind}
use Rattle.scan_lines.specs.declared.LineKind.TheVariants.{Comment, Blank, Indented, Statement}
use Rattle.scan_lines.specs.Endings.{kind_of}
use Rattle.scan_tokens.proofs.Places.{at_cons, at_end}

starts : (c : ℕ) (s : List ℕ) → 0 < length s → starts_with c s ≡ eqb (get_or s 0 0) c
unfolding starts_with
starts c [] h = absurd (not-suc-le-zero h)
starts c (b ∷ s) h = refl

-- the first byte that is no space stands at i
module _ {s : List ℕ} {i : ℕ} (a : Reads (after_run is_space) s 0 i) where
  pub kind_blank : length s ≤ i → Blank ≡ kind_of s
  unfolding kind_of is_comment is_blank starts_with
  kind_blank h = rw (← a.rest, at_end s i h)

  module _ (h : i < length s) where
    pub kind_comment : get_or s i 0 ≡ hash → Comment ≡ kind_of s
    unfolding kind_of is_comment starts_with
    kind_comment e = rw (← a.rest, at_cons s i h, e)

    module _ (n : get_or s i 0 ≡ hash → ⊥) where
      pub kind_indented : get_or s 0 0 ≡ space → Indented ≡ kind_of s
      unfolding kind_of is_comment is_blank is_indented
      kind_indented e =
          rw (starts space s (omega arith), ← a.rest, at_cons s i h, e, ne_eqb _ _ n)

      pub kind_statement : (get_or s 0 0 ≡ space → ⊥) → Statement ≡ kind_of s
      unfolding kind_of is_comment is_blank is_indented
      kind_statement e =
          rw (starts space s (omega arith), ← a.rest, at_cons s i h, ne_eqb _ _ n, ne_eqb _ _ e)

-- ---- in the rules' words

unfoldable KindIs : List ℕ → LineKind → Type 0
KindIs s Comment = is_comment s ≡ true
KindIs s Blank = (is_comment s ≡ false) × (is_blank s ≡ true)
KindIs s Indented = (is_comment s ≡ false) × (is_blank s ≡ false) × (is_indented s ≡ true)
KindIs s Statement = (is_comment s ≡ false) × (is_blank s ≡ false) × (is_indented s ≡ false)

kind_is : (s : List ℕ) → KindIs s (kind_of s)
unfolding kind_of KindIs
kind_is s =
    split (is_comment s) (λ (a : is_comment s ≡ true). rw (a, KindIs) a)
    (λ (a : is_comment s ≡ false).
    split (is_blank s) (λ (b : is_blank s ≡ true). rw (a, b, KindIs) (a, b))
    (λ (b : is_blank s ≡ false).
    split (is_indented s)
    (λ (c : is_indented s ≡ true). rw (a, b, c, KindIs) (a, b, c))
    (λ (c : is_indented s ≡ false). rw (a, b, c, KindIs) (a, b, c))))

module _ (s : List ℕ) where
  pub is_comment_law : Comment ≡ kind_of s → is_comment s ≡ true
  unfolding KindIs
  is_comment_law e = rw (← e) at (kind_is s)

  pub is_blank_law : Blank ≡ kind_of s → (is_comment s ≡ false) × (is_blank s ≡ true)
  unfolding KindIs
  is_blank_law e = rw (← e) at (kind_is s)

  pub is_indented_law : Indented ≡ kind_of s → (is_comment s ≡ false) × (is_blank s ≡ false) × (is_indented s ≡ true)
  unfolding KindIs
  is_indented_law e = rw (← e) at (kind_is s)

  pub is_statement : Statement ≡ kind_of s → (is_comment s ≡ false) × (is_blank s ≡ false) × (is_indented s ≡ false)
  unfolding KindIs
  is_statement e = rw (← e) at (kind_is s)
