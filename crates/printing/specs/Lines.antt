-- The lines that the program writes, as lists of bytes.
use Rattle.std.specs.Prelude.{ℕ, zero, suc, ◌+◌, ◌/◌, ◌%◌, List, [], ◌∷◌, ◌++◌, ltb, length}
use Rattle.lists.specs.Tests.{if_b}
use Rattle.lists.specs.Text.{bytes}
use Rattle.spec.specs.Answers.{Place, plain, in_text}

-- A number in decimal digits, the highest first and with no leading zero. The first argument bounds the digits: n itself is more than n has.
unfoldable pub decimal_up : ℕ → ℕ → List ℕ
decimal_up zero n = []
decimal_up (suc f) n = if_b (ltb n 10) (λ _. (48 + n) ∷ []) (λ _. decimal_up f (n / 10) ++ ((48 + n % 10) ∷ []))

unfoldable pub decimal : ℕ → List ℕ
unfolding decimal_up
decimal n = decimal_up (suc n) n

abbrev pub newline_bytes : List ℕ
newline_bytes = 10 ∷ []

-- a word and a number behind it
unfoldable pub worded : List ℕ → ℕ → List ℕ
unfolding decimal
worded w n = w ++ decimal n

-- "`no work` for an empty list"
abbrev pub no_work : List ℕ
no_work = bytes "no work" ++ newline_bytes

-- a place: "printed `0:17`" where it stands in a text
unfoldable pub place_text : Place → List ℕ
unfolding worded decimal
place_text (plain n) = decimal n
place_text (in_text k n) = decimal k ++ worded (bytes ":") n

-- "`refused N at P` for a refusal", without its line end
unfoldable pub refused_text : ℕ → Place → List ℕ
unfolding worded place_text
refused_text n p = worded (bytes "refused ") n ++ bytes " at " ++ place_text p

unfoldable pub refused_line : ℕ → Place → List ℕ
unfolding refused_text
refused_line n p = refused_text n p ++ newline_bytes

-- "after a 14 a line such as `circle 0 1`"
unfoldable pub spaced : List ℕ → List ℕ
unfolding worded
spaced [] = []
spaced (s ∷ l) = worded (bytes " ") s ++ spaced l

unfoldable pub circle_line : List ℕ → List ℕ
unfolding spaced
circle_line l = bytes "circle" ++ spaced l ++ newline_bytes

-- after a 14: the refusal's line, then the circle's
unfoldable pub circle_output : List ℕ → List ℕ
unfolding refused_line circle_line
circle_output circle = refused_line 14 (plain (length circle)) ++ circle_line circle

-- "a line for each listed step, with its place in the list, the list's length and its `command` text"
unfoldable pub head_of : ℕ → ℕ → List ℕ
unfolding worded
head_of k n = worded (bytes "[") k ++ worded (bytes "/") n ++ bytes "] "

unfoldable pub step_line_of : ℕ → ℕ → List ℕ → List ℕ
unfolding head_of
step_line_of k n text = head_of k n ++ text ++ newline_bytes
