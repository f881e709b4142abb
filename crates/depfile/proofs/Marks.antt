-- The marks of a text, from its first byte or its first two.
use Prim.Native.Nat.{ℕ}
use mathlib.Core.Bool.{true, false, ◌&&◌, ◌||◌}
use mathlib.Core.List.{List, [], ◌∷◌}
use mathlib.Core.Path.{◌≡◌, refl}
use native.Mathlib.Omega.{arith}
use borrow.Author.Tests.{ne_eqb}
use lib.Dec.{eqb}
use Rattle.lists.specs.Tests.{split}
use Rattle.depfile.specs.Depfile.{newline_byte, space_byte, hash_byte, dollar_byte, backslash_byte, Mark, byte, gap, line, lone, mark_of, marks_of}

-- ---- alone

pub mark_byte : (b : ℕ) → (b ≡ space_byte → ⊥) → (b ≡ newline_byte → ⊥) → (b ≡ dollar_byte → ⊥) → mark_of b ≡ byte b
unfolding mark_of
mark_byte b h k l = rw (ne_eqb b space_byte h, ne_eqb b newline_byte k, ne_eqb b dollar_byte l)

pub marks_alone : (b : ℕ) (s : List ℕ) → (b ≡ backslash_byte → ⊥) → (b ≡ dollar_byte → ⊥) → marks_of (b ∷ s) ≡ mark_of b ∷ marks_of s
unfolding marks_of
marks_alone b [] h k = refl
marks_alone b (c ∷ s) h k = rw (ne_eqb b backslash_byte h, ne_eqb b dollar_byte k)

pub marks_byte : (b : ℕ) (s : List ℕ) → (b ≡ backslash_byte → ⊥) → (b ≡ dollar_byte → ⊥) → (b ≡ space_byte → ⊥) → (b ≡ newline_byte → ⊥) → marks_of (b ∷ s) ≡ byte b ∷ marks_of s
marks_byte b s h k l m = rw (marks_alone b s h k, mark_byte b l m k)

pub marks_space : (s : List ℕ) → marks_of (space_byte ∷ s) ≡ gap ∷ marks_of s
unfolding marks_of
marks_space [] = refl
marks_space (c ∷ s) = refl

pub marks_newline : (s : List ℕ) → marks_of (newline_byte ∷ s) ≡ line ∷ marks_of s
unfolding marks_of
marks_newline [] = refl
marks_newline (c ∷ s) = refl

-- ---- by the next byte

pub marks_joined : (s : List ℕ) → marks_of (backslash_byte ∷ newline_byte ∷ s) ≡ gap ∷ marks_of s
unfolding marks_of
marks_joined s = refl

pub marks_escaped_space : (s : List ℕ) → marks_of (backslash_byte ∷ space_byte ∷ s) ≡ byte space_byte ∷ marks_of s
unfolding marks_of
marks_escaped_space s = refl

pub marks_escaped_hash : (s : List ℕ) → marks_of (backslash_byte ∷ hash_byte ∷ s) ≡ byte hash_byte ∷ marks_of s
unfolding marks_of
marks_escaped_hash s = refl

pub marks_dollars : (s : List ℕ) → marks_of (dollar_byte ∷ dollar_byte ∷ s) ≡ byte dollar_byte ∷ marks_of s
unfolding marks_of
marks_dollars s = refl

pub marks_backslash : (c : ℕ) (s : List ℕ) → (c ≡ newline_byte → ⊥) → (c ≡ space_byte → ⊥) → (c ≡ hash_byte → ⊥) → marks_of (backslash_byte ∷ c ∷ s) ≡ byte backslash_byte ∷ marks_of (c ∷ s)
unfolding marks_of
marks_backslash c s h k l = rw (ne_eqb c newline_byte h, ne_eqb c space_byte k, ne_eqb c hash_byte l)

pub marks_lone : (c : ℕ) (s : List ℕ) → (c ≡ dollar_byte → ⊥) → marks_of (dollar_byte ∷ c ∷ s) ≡ lone ∷ marks_of (c ∷ s)
unfolding marks_of
marks_lone c s h = rw (ne_eqb c dollar_byte h)

-- ---- last of all

pub marks_end : marks_of [] ≡ []
unfolding marks_of
marks_end = refl

pub marks_last_backslash : marks_of (backslash_byte ∷ []) ≡ byte backslash_byte ∷ []
unfolding marks_of
marks_last_backslash = refl

pub marks_last_dollar : marks_of (dollar_byte ∷ []) ≡ lone ∷ []
unfolding marks_of
marks_last_dollar = refl

-- ---- any text

none_cons : (m : Mark) (l : List Mark) → m ∷ l ≡ [] → ⊥
none_cons m l e = let z : ◌≡◌ {A = ℕ} 0 1 = cc in omega arith

pub marks_some : (b : ℕ) (s : List ℕ) → marks_of (b ∷ s) ≡ [] → ⊥
unfolding marks_of
marks_some b [] e = none_cons (mark_of b) [] e
marks_some b (c ∷ s) e =
    let joins = eqb b backslash_byte && eqb c newline_byte in
    let escapes = eqb b backslash_byte && (eqb c space_byte || eqb c hash_byte) in
    let dollars = eqb b dollar_byte && eqb c dollar_byte in
    split joins (λ (j : joins ≡ true). none_cons _ _ (rw j at e))
    (λ (j : joins ≡ false).
    split escapes (λ (k : escapes ≡ true). none_cons _ _ (rw (j, k) at e))
    (λ (k : escapes ≡ false).
    split dollars (λ (d : dollars ≡ true). none_cons _ _ (rw (j, k, d) at e))
    (λ (d : dollars ≡ false). none_cons _ _ (rw (j, k, d) at e))))
