-- The numbers that the scanners' functions answer, for every input. A start past the end leaves nothing, as the end does.
use Rattle.std.specs.Prelude.{ℕ, ◌+◌, ◌-◌, ◌*◌, List, [], ◌∷◌, length, drop}
use Rattle.std.proofs.Math.Option.{Option, none, some}
use Rattle.lists.specs.Tests.{if_b}
use Rattle.spec.specs.Dollars.{element, bad_in}
use Rattle.spec.specs.Lines.{indent, Line, lines_from, is_comment, is_blank, is_indented}
use Rattle.spec.specs.Forms.{no_form, left_at_dollar, not_yet, Cut, fits, fails, path_stop, after_path, Paths}
use Rattle.scan_dollars.specs.Element.{rest_of}

-- 0 for none, p + 1 for place p
unfoldable pub or_none : Option ℕ → ℕ
or_none none = 0
or_none (some p) = p + 1

-- ---- tokens

-- the place where what f leaves of s, read from place i on, begins
unfoldable pub place_after : (List ℕ → List ℕ) → List ℕ → ℕ → ℕ
place_after f s i = length s - length (f (drop i s))

-- ---- dollars

unfoldable pub rest_number : List ℕ → Option (List ℕ) → ℕ
rest_number s none = 0
rest_number s (some rest) = length s - length rest + 1

-- 0 for a bad `$` in front of place i, e + 1 where the bytes after what it begins start at place e
unfoldable pub dollar_number : List ℕ → ℕ → ℕ
unfolding rest_number rest_of element
dollar_number s i = rest_number s (rest_of (element (drop i s)))

-- ---- paths: 2e for an end at place e, 2p + 1 for a first bad `$` at place p

unfoldable pub path_cut : List ℕ → ℕ → Option ℕ → ℕ
unfolding place_after
path_cut s i none = 2 * place_after after_path s i
path_cut s i (some o) = 2 * (i + o) + 1

-- the path at place i
unfoldable pub path_number : List ℕ → ℕ → ℕ
unfolding path_cut bad_in path_stop
path_number s i = path_cut s i (bad_in path_stop (drop i s))

-- a list of paths; a bad `$` is all that such a list fails by
unfoldable pub paths_number : List ℕ → Cut Paths → ℕ
paths_number s (fits ps) = 2 * (length s - length ps.rest)
paths_number s (fails (left_at_dollar left)) = 2 * (length s - left) + 1
paths_number s (fails no_form) = 0
paths_number s (fails not_yet) = 0

-- ---- words: 0 for a name, or the number of the refusal

unfoldable pub word_number : Cut (List ℕ) → ℕ
word_number (fits w) = 0
word_number (fails no_form) = 4
word_number (fails (left_at_dollar left)) = 5
word_number (fails not_yet) = 6

-- ---- lines

-- the place behind the newline that ends the first of these lines, or 0 where no newline does
unfoldable pub end_of : List Line → ℕ
end_of [] = 0
end_of (l ∷ ls) = if_b l.ended (λ _. l.start + length l.text + 1) (λ _. 0)

-- of the line at place i
unfoldable pub end_number : List ℕ → ℕ → ℕ
unfolding end_of lines_from
end_number m i = end_of (lines_from indent i (drop i m))

-- 0 for a comment, 1 for a blank line, 2 for an indented one, 3 for a statement
unfoldable pub kind_number : List ℕ → ℕ
unfolding is_comment is_blank is_indented
kind_number s =
    if_b (is_comment s) (λ _. 0) λ _.
    if_b (is_blank s) (λ _. 1) λ _.
    if_b (is_indented s) (λ _. 2) λ _. 3
