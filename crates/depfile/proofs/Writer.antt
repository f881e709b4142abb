-- A writer of make-style texts, with any spaces and continuations between names and any blank lines around; and which names have a spelling.
use Prim.Native.Nat.{ℕ, suc}
use mathlib.Core.Bool.{Bool, true, false, ◌||◌}
use mathlib.Core.List.{List, [], ◌∷◌, ◌++◌}
use mathlib.Core.Option.{Option, none, some}
use mathlib.Core.Path.{◌≡◌}
use lib.Dec.{eqb}
use Rattle.lists.specs.Members.{◌∉◌}
use Rattle.lists.specs.Tests.{if_b}
use Rattle.depfile.specs.Depfile.{newline_byte, space_byte, hash_byte, dollar_byte, colon_byte, backslash_byte, DepRule}

-- ---- names

unfoldable pub escaped : ℕ → List ℕ
escaped b =
    if_b (eqb b dollar_byte) (λ _. dollar_byte ∷ b ∷ []) λ _.
    if_b (eqb b space_byte || eqb b hash_byte) (λ _. backslash_byte ∷ b ∷ []) λ _. b ∷ []

-- Behind a name that ends in a backslash stands a continuation: a space there would be one of its bytes.
unfoldable pub spelled : List ℕ → List ℕ
unfolding escaped
spelled [] = []
spelled (b ∷ []) = if_b (eqb b backslash_byte) (λ _. b ∷ backslash_byte ∷ newline_byte ∷ []) (λ _. escaped b)
spelled (b ∷ c ∷ n) = escaped b ++ spelled (c ∷ n)

-- The names that have a spelling: those with a byte, and without a newline. A target has no colon either.
pub record Spellable (n : List ℕ) : Type 0 where
  pub some_byte : n ≡ [] → ⊥
  pub no_newline : newline_byte ∉ n

pub record SpellableTarget (n : List ℕ) : Type 0 where
  pub name : Spellable n
  pub no_colon : colon_byte ∉ n

abbrev pub AllNames : (List ℕ → Type 0) → List (List ℕ) → Type 0
AllNames P [] = Unit {0}
AllNames P (n ∷ l) = P n × AllNames P l

pub record SpellableRule (r : DepRule) : Type 0 where
  pub targets : AllNames SpellableTarget r.targets
  pub prerequisites : AllNames Spellable r.prerequisites

-- ---- a rule

-- a gap: each `true` is a continuation, each `false` a space
unfoldable pub gap_text : List Bool → List ℕ
gap_text [] = []
gap_text (true ∷ g) = backslash_byte ∷ newline_byte ∷ gap_text g
gap_text (false ∷ g) = space_byte ∷ gap_text g

-- How the gaps between names are to be: of one at least.
pub record Gap : Type 0 where
  pub first : Bool
  pub more : List Bool

-- the names with a gap before each, and then t
unfoldable pub gapped : (ℕ → Gap) → List (List ℕ) → List ℕ → List ℕ
unfolding gap_text spelled
gapped g [] t = t
gapped g (n ∷ l) t = gap_text ((g 0).first ∷ (g 0).more) ++ (spelled n ++ gapped (λ k. g (suc k)) l t)

-- the same with no gap before the first
unfoldable pub joined : (ℕ → Gap) → List (List ℕ) → List ℕ → List ℕ
unfolding gapped
joined g [] t = t
joined g (n ∷ l) t = spelled n ++ gapped g l t

-- blank lines, each of a gap or of nothing
unfoldable pub blank_text : List (List Bool) → List ℕ
unfolding gap_text
blank_text [] = []
blank_text (g ∷ l) = gap_text g ++ (newline_byte ∷ blank_text l)

-- the end of the rule's line and the blank lines behind it; or no last newline
unfoldable pub end_text : Option (List (List Bool)) → List ℕ
unfolding blank_text
end_text none = []
end_text (some l) = newline_byte ∷ blank_text l

-- How a text is to be laid out: the blank lines before the rule, the gaps between names, and its end.
pub record Layout : Type 0 where
  pub before : List (List Bool)
  pub targets : ℕ → Gap
  pub prerequisites : ℕ → Gap
  pub end : Option (List (List Bool))

unfoldable pub depfile_of : Layout → DepRule → List ℕ
unfolding joined gapped blank_text end_text
depfile_of y r = blank_text y.before ++ joined y.targets r.targets (colon_byte ∷ gapped y.prerequisites r.prerequisites (end_text y.end))
