-- The answers of the two asks as document 01's numbers and values.
use Rattle.std.specs.Prelude.{ℕ, zero, suc, ◌+◌, ◌-◌, Bool, true, false, List, [], ◌∷◌, leb, length, Result, Ok, Err}
use Rattle.lists.specs.Tests.{if_b}
use Rattle.spec.specs.declared.Refusal.{Refusal}
use Rattle.spec.specs.declared.Refusal.TheVariants.{ShortBuffer, LongManifest, BadByte, BadLine, BadDollar, NotYet, BadRule, BadPath, OverLimit, BadVersion, BadCard, BadTarget, NoRoot, Circle, MissingSource, EndlessText, LongText, NoCommand, BadBundle, BadOpen, BadHeaders}

-- what an answer says: a refusal's number with its place, and whether that stands in a text; or 0 with the count that a plan or a text gives
pub record Said : Type 0 where
  pub number : ℕ
  pub text : Bool
  pub value : ℕ

-- a number with a value that is a number by itself
abbrev pub says : ℕ → ℕ → Said
says n v = record { number = n; text = false; value = v }

-- a refusal whose place stands in a text that was read: the offset of a byte or of a line's start
abbrev pub says_at : ℕ → ℕ → Said
says_at n p = record { number = n; text = true; value = p }

-- the table of refusals, with its columns "no." and "place"
unfoldable pub refusal_says : Refusal → Said
refusal_says ShortBuffer = says 1 0
refusal_says LongManifest = says 2 0
refusal_says (BadByte p) = says_at 3 p
refusal_says (BadLine p) = says_at 4 p
refusal_says (BadDollar p) = says_at 5 p
refusal_says (NotYet p) = says_at 6 p
refusal_says (BadRule p) = says_at 7 p
refusal_says (BadPath p) = says_at 8 p
refusal_says (OverLimit p) = says_at 9 p
refusal_says (BadVersion p) = says_at 10 p
refusal_says BadCard = says 11 0
refusal_says (BadTarget p) = says 12 p
refusal_says NoRoot = says 13 0
refusal_says (Circle n) = says 14 n
refusal_says (MissingSource f) = says 15 f
refusal_says (EndlessText s) = says 16 s
refusal_says (LongText s) = says 17 s
refusal_says (NoCommand s) = says 18 s
-- [1] at 0
refusal_says BadBundle = says 19 0
-- [1] at a line
refusal_says (BadOpen p) = says_at 19 p
-- [4] at a step, or at 0
refusal_says (BadHeaders s) = says 20 s

unfoldable pub number_of_refusal : Refusal → ℕ
unfolding refusal_says
number_of_refusal r = (refusal_says r).number

unfoldable pub place_of_refusal : Refusal → ℕ
unfolding refusal_says
place_of_refusal r = (refusal_says r).value

unfoldable pub plan_says : Result ℕ Refusal → Said
unfolding refusal_says
plan_says (Ok n) = says 0 n
plan_says (Err r) = refusal_says r

unfoldable pub text_says : Result ℕ Refusal → Said
unfolding refusal_says
text_says (Ok n) = says 0 n
text_says (Err r) = refusal_says r

-- ------------------------------------------------------------------ places in texts

-- a place: a number by itself, or an offset in one of the texts that were read
pub data Place : Type 0 where
  plain : ℕ → Place
  in_text : ℕ → ℕ → Place

abbrev pub next_text : Place → Place
next_text (plain n) = plain n
next_text (in_text k p) = in_text (suc k) p

-- The texts are laid end to end with one place between two, so that one number is a place in all of them and the end of one is no place of the next.
unfoldable pub spot : List (List ℕ) → ℕ → Place
spot [] p = plain p
spot (t ∷ ts) p = if_b (leb p (length t)) (λ _. in_text 0 p) (λ _. next_text (spot ts (p - suc (length t))))

-- [1] where text k begins among them
unfoldable pub base_of : List (List ℕ) → ℕ → ℕ
base_of [] k = 0
base_of (t ∷ ts) zero = 0
base_of (t ∷ ts) (suc k) = suc (length t) + base_of ts k

unfoldable pub placed : List (List ℕ) → Said → Place
unfolding spot
placed texts s = if_b s.text (λ _. spot texts s.value) (λ _. plain s.value)
