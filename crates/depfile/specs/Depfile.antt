-- [4] "the make-style texts the compiler leaves": one rule, as document 02 reads it byte by byte, with readings 12 and 13. Quotations are of [4].
use Rattle.std.specs.Prelude.{ℕ, Bool, true, false, ◌&&◌, ◌||◌, List, [], ◌∷◌, ◌++◌, eqb}
use Rattle.std.proofs.Math.Option.{Option, none, some, map}
use Rattle.lists.specs.Bytes.{eq_bytes}
use Rattle.lists.specs.Tests.{if_b}

abbrev pub newline_byte : ℕ
newline_byte = 10

abbrev pub space_byte : ℕ
space_byte = 32

abbrev pub hash_byte : ℕ
hash_byte = 35

abbrev pub dollar_byte : ℕ
dollar_byte = 36

abbrev pub colon_byte : ℕ
colon_byte = 58

abbrev pub backslash_byte : ℕ
backslash_byte = 92

-- ------------------------------------------------------------------ bytes

-- What one byte of a text, or two together, stand for: a byte of a name, a space between names, the end of a line, a lone `$`.
pub data Mark : Type 0 where
  byte : ℕ → Mark
  gap : Mark
  line : Mark
  lone : Mark

-- "a lone `$` is malformed, other bytes are themselves": what a byte stands for alone
unfoldable pub mark_of : ℕ → Mark
mark_of b =
    if_b (eqb b space_byte) (λ _. gap) λ _.
    if_b (eqb b newline_byte) (λ _. line) λ _.
    if_b (eqb b dollar_byte) (λ _. lone) λ _. byte b

-- From the left, two bytes together: "backslash and newline count as a space, a backslash before a space or `#` gives that byte, `$$` gives `$`"; or else
-- one alone. So a backslash before any other byte, or last of all, is itself.
unfoldable pub marks_of : List ℕ → List Mark
unfolding mark_of
marks_of [] = []
marks_of (b ∷ []) = mark_of b ∷ []
marks_of (b ∷ c ∷ s) =
    if_b (eqb b backslash_byte && eqb c newline_byte) (λ _. gap ∷ marks_of s) λ _.
    if_b (eqb b backslash_byte && (eqb c space_byte || eqb c hash_byte)) (λ _. byte c ∷ marks_of s) λ _.
    if_b (eqb b dollar_byte && eqb c dollar_byte) (λ _. byte c ∷ marks_of s) λ _. mark_of b ∷ marks_of (c ∷ s)

-- ------------------------------------------------------------------ the rule

pub record DepRule : Type 0 where
  pub targets : List (List ℕ)
  pub prerequisites : List (List ℕ)

abbrev pub dep_rule : List (List ℕ) → List (List ℕ) → DepRule
dep_rule t p = record { targets = t; prerequisites = p }

-- A name w ends before the names l. No name is empty: where no byte was read, none ends.
unfoldable pub name_then : List ℕ → List (List ℕ) → List (List ℕ)
name_then [] l = l
name_then (b ∷ w) l = (b ∷ w) ∷ l

-- "blank lines": nothing but spaces and ends of lines
unfoldable pub blank_lines : List Mark → Bool
blank_lines [] = true
blank_lines (byte b ∷ s) = false
blank_lines (gap ∷ s) = blank_lines s
blank_lines (line ∷ s) = blank_lines s
blank_lines (lone ∷ s) = false

-- "Names after the colon", "names between spaces", where w is read of the first. The rule ends at the end of its line, with "blank lines" behind it,
-- or of the text: "the last newline may be absent". None is malformed.
unfoldable pub prerequisites_from : List ℕ → List Mark → Option (List (List ℕ))
unfolding name_then blank_lines
prerequisites_from w [] = some (name_then w [])
prerequisites_from w (byte b ∷ s) = prerequisites_from (w ++ (b ∷ [])) s
prerequisites_from w (gap ∷ s) = map (name_then w) (prerequisites_from [] s)
prerequisites_from w (line ∷ s) = if_b (blank_lines s) (λ _. some (name_then w [])) (λ _. none)
prerequisites_from w (lone ∷ s) = none

-- a target w ends before those of a rule
unfoldable pub target_then : List ℕ → DepRule → DepRule
unfolding name_then
target_then w r = dep_rule (name_then w r.targets) r.prerequisites

-- "targets up to the first colon, names between spaces", where w is read of the first; a line that ends without a colon is malformed. There may be no target.
unfoldable pub rule_from : List ℕ → List Mark → Option DepRule
unfolding name_then target_then prerequisites_from
rule_from w [] = none
rule_from w (byte b ∷ s) =
    if_b (eqb b colon_byte)
    (λ _. map (dep_rule (name_then w [])) (prerequisites_from [] s))
    (λ _. rule_from (w ++ (b ∷ [])) s)
rule_from w (gap ∷ s) = map (target_then w) (rule_from [] s)
rule_from w (line ∷ s) = none
rule_from w (lone ∷ s) = none

-- what follows the blank lines at the front
unfoldable pub behind_blank : List Mark → List Mark
behind_blank [] = []
behind_blank (byte b ∷ s) = byte b ∷ s
behind_blank (gap ∷ s) = behind_blank s
behind_blank (line ∷ s) = behind_blank s
behind_blank (lone ∷ s) = lone ∷ s

-- "one rule and blank lines": none is a malformed text.
unfoldable pub depfile_rule : List ℕ → Option DepRule
unfolding marks_of behind_blank rule_from
depfile_rule s = rule_from [] (behind_blank (marks_of s))

-- ------------------------------------------------------------------ for a step

unfoldable pub first_is : List ℕ → List (List ℕ) → Bool
unfolding eq_bytes
first_is out [] = false
first_is out (t ∷ l) = eq_bytes t out

-- "A malformed text, one whose first target isn't the step's first output, .. is refusal 20": none; else the names that the text lists for the step.
unfoldable pub listed_for : List ℕ → Option DepRule → Option (List (List ℕ))
unfolding first_is
listed_for out none = none
listed_for out (some r) = if_b (first_is out r.targets) (λ _. some r.prerequisites) (λ _. none)
