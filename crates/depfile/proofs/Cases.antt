-- Worked cases of the definition.
use Prim.Native.String.{String}
use mathlib.Core.Bool.{true, false}
use mathlib.Core.List.{List, [], ◌∷◌, map}
use mathlib.Core.Option.{Option, none, some}
use mathlib.Core.Path.{◌≡◌, refl}
use Rattle.lists.specs.Text.{bytes}
use lib.ListN.{get_or}
use Rattle.depfile.specs.Depfile.{DepRule, dep_rule, depfile_rule, listed_for}
use Rattle.depfile.proofs.Writer.{Gap, depfile_of}

-- a text's rule, and a rule by its names
abbrev read : String → Option DepRule
read s = depfile_rule (bytes s)

abbrev rule : List String → List String → Option DepRule
rule t p = some (dep_rule (map bytes t) (map bytes p))

-- What gcc 12.2 wrote (`-MMD -MF`): names with a space, `#`, `$`, backslashes, a tab and a colon, and a list over several lines. With `-MP` it writes
-- more rules than one. Of the file `f\ g.h` it doubles the backslash, which stays doubled here.
compiler :
    (read "o\\ ut.o: main.c a\\ b.h c\\#.h d$$.h some/long/directory/header_number_1.h \\\n some/long/directory/header_number_2.h \\\n some/long/directory/header_number_3.h \\\n some/long/directory/header_number_4.h\n"
    ≡ rule ("o ut.o" ∷ []) ("main.c" ∷ "a b.h" ∷ "c#.h" ∷ "d$.h" ∷ "some/long/directory/header_number_1.h" ∷ "some/long/directory/header_number_2.h" ∷ "some/long/directory/header_number_3.h" ∷ "some/long/directory/header_number_4.h" ∷ []))
    × (read "m2.o: m2.c e\\.h f\\\\\\ g.h tab\\\tx.h colon:y.h\n" ≡ rule ("m2.o" ∷ []) ("m2.c" ∷ "e\\.h" ∷ "f\\\\ g.h" ∷ "tab\\\tx.h" ∷ "colon:y.h" ∷ []))
    × (read "m3.o: main.c a\\ b.h\na\\ b.h:\n" ≡ none)
unfolding depfile_rule
compiler = (refl, refl, refl)

-- Blank lines before and after, of spaces and continuations too; the last newline absent; a rule of no target, of no prerequisite.
blank :
    (read "\n  \n\\\n\na: b\n\n  \n\\\n \n" ≡ rule ("a" ∷ []) ("b" ∷ []))
    × (read "a: b" ≡ rule ("a" ∷ []) ("b" ∷ []))
    × (read "  a  b  :  c  " ≡ rule ("a" ∷ "b" ∷ []) ("c" ∷ []))
    × (read "a\\\nb:\\\nc\\\n" ≡ rule ("a" ∷ "b" ∷ []) ("c" ∷ []))
    × (read ":" ≡ rule [] [])
    × (read ": a" ≡ rule [] ("a" ∷ []))
unfolding depfile_rule
blank = (refl, refl, refl, refl, refl, refl)

-- The first colon ends the targets whatever stands beside it; later ones, tabs, carriage returns, 0 and `#` are themselves.
themselves :
    (read "a:b:c d:" ≡ rule ("a" ∷ []) ("b:c" ∷ "d:" ∷ []))
    × (read "a\\:b" ≡ rule ("a\\" ∷ []) ("b" ∷ []))
    × (read "C:\\x.o: y" ≡ rule ("C" ∷ []) ("\\x.o:" ∷ "y" ∷ []))
    × (read "a: #b\tc \r\n" ≡ rule ("a" ∷ []) ("#b\tc" ∷ "\r" ∷ []))
unfolding depfile_rule
themselves = (refl, refl, refl, refl)

-- Backslashes from the left, each by its next byte.
backslashes :
    (read "a: a\\\\ b" ≡ rule ("a" ∷ []) ("a\\ b" ∷ []))
    × (read "a: \\\\\\#" ≡ rule ("a" ∷ []) ("\\\\#" ∷ []))
    × (read "a: b\\\\\nc" ≡ rule ("a" ∷ []) ("b\\" ∷ "c" ∷ []))
    × (read "a: b\\c\\" ≡ rule ("a" ∷ []) ("b\\c\\" ∷ []))
    × (read "a: \\$$" ≡ rule ("a" ∷ []) ("\\$" ∷ []))
    × (read "a: $$$$\\ " ≡ rule ("a" ∷ []) ("$$ " ∷ []))
unfolding depfile_rule
backslashes = (refl, refl, refl, refl, refl, refl)

-- No rule, a second one, a line with a name and no colon, a lone `$` anywhere.
malformed :
    (read "" ≡ none)
    × (read "\n \\\n\n" ≡ none)
    × (read "a: b\n\nb:\n" ≡ none)
    × (read "a b\n" ≡ none)
    × (read "a\nb: c\n" ≡ none)
    × (read "a: b\nc\n" ≡ none)
    × (read "a$: b\n" ≡ none)
    × (read "a: $b\n" ≡ none)
    × (read "a: b$$$" ≡ none)
    × (read "a: b\n$\n" ≡ none)
    × (read "$\na: b\n" ≡ none)
unfolding depfile_rule
malformed = (refl, refl, refl, refl, refl, refl, refl, refl, refl, refl, refl)

-- The first target is the step's first output, or nothing is listed.
first_output_law :
    (listed_for (bytes "a") (read "a b: c d") ≡ some (bytes "c" ∷ bytes "d" ∷ []))
    × (listed_for (bytes "b") (read "a b: c d") ≡ none)
    × (listed_for (bytes "") (read ": c d") ≡ none)
    × (listed_for (bytes "a") (read "a b c d") ≡ none)
unfolding depfile_rule listed_for
first_output_law = (refl, refl, refl, refl)

-- The writer: gcc's text; and one with a name that ends in a backslash, blank lines around it, no last newline.
abbrev space : Gap
space = record { first = false; more = [] }

abbrev new_line : Gap
new_line = record { first = false; more = true ∷ false ∷ [] }

writes :
    (depfile_of record { before = []; targets = λ i. space; prerequisites = λ i. get_or (space ∷ space ∷ new_line ∷ []) i space; end = some [] } (dep_rule (bytes "o ut.o" ∷ []) (bytes "main.c" ∷ bytes "c#.h" ∷ bytes "d$.h" ∷ []))
    ≡ bytes "o\\ ut.o: main.c c\\#.h \\\n d$$.h\n")
    × (depfile_of record { before = [] ∷ (false ∷ true ∷ []) ∷ []; targets = λ i. space; prerequisites = λ i. space; end = none } (dep_rule (bytes "a\\" ∷ bytes "b" ∷ []) (bytes "c\\ \\" ∷ bytes "d:" ∷ []))
    ≡ bytes "\n \\\n\na\\\\\n b: c\\\\ \\\\\n d:")
    × (depfile_of record { before = []; targets = λ i. space; prerequisites = λ i. space; end = some ((false ∷ []) ∷ []) } (dep_rule (bytes "a" ∷ []) []) ≡ bytes "a:\n \n")
unfolding depfile_of
writes = (refl, refl, refl)
