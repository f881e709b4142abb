-- The target list: its names with their starts, and refusal 12.
use Rattle.std.specs.Prelude.{ℕ, suc, List, [], ◌∷◌, ◌++◌, Bool, not, ◌||◌, eqb, ltb, length}
use Rattle.std.proofs.Math.Option.{Option, none, some}
use Rattle.lists.specs.Tests.{if_b}
use Rattle.spec.specs.Basics.{is_empty, among}
use Rattle.spec.specs.Limits.{max_targets, max_path}
use Rattle.spec.specs.Bytes.{newline}

-- a name and where it starts
pub record Target : Type 0 where
  pub start : ℕ
  pub name : List ℕ

-- "names .. each ended by a newline": the names, from one that starts at `start` and of which `n` is read
unfoldable pub targets_from : ℕ → ℕ → List ℕ → List ℕ → List Target
targets_from start at n [] = []
targets_from start at n (b ∷ s) =
    if_b (eqb b newline) (λ _. record { start = start; name = n } ∷ targets_from (suc at) (suc at) [] s)
    (λ _. targets_from start (suc at) (n ++ (b ∷ [])) s)

unfoldable pub targets_of : List ℕ → List Target
unfolding targets_from
targets_of s = targets_from 0 0 [] s

-- is the last name unended
unfoldable pub unended : ℕ → List ℕ → Bool
unended last [] = not (eqb last newline)
unended last (b ∷ s) = unended b s

-- "names of 1 to 255 literal bytes"
unfoldable pub bad_length : List ℕ → Bool
bad_length n = is_empty n || ltb max_path (length n)

-- "malformed, or a name the manifest never mentions": "the first bad name counts"
unfoldable pub first_bad : List (List ℕ) → List Target → Option ℕ
unfolding bad_length among
first_bad files [] = none
first_bad files (t ∷ ts) = if_b (bad_length t.name || not (among t.name files)) (λ _. some t.start) (λ _. first_bad files ts)

-- "an over-long list or one with an unended last name"
unfoldable pub malformed : List ℕ → Bool
unfolding unended
malformed s = ltb max_targets (length s) || unended newline s

-- the place of a 12, if there is one: "For 12 the first bad name counts; an over-long list or one with an unended last name is place 0, before the names."
unfoldable pub bad_target : List (List ℕ) → List ℕ → Option ℕ
unfolding malformed first_bad targets_of
bad_target files s = if_b (malformed s) (λ _. some 0) (λ _. first_bad files (targets_of s))
