-- "A table of 256 byte classes sorts each byte: name byte (letter, digit, `_ . -`), short-name byte (name byte other than `.`), space,
-- newline, `$ : | = # { }`, forbidden (0, tab 9, carriage return 13), other. Its rule holds at every entry."
use Rattle.std.specs.Prelude.{ℕ, Bool, ◌&&◌, ◌||◌, eqb, leb}
use Rattle.lists.specs.Tests.{if_b}

abbrev pub newline : ℕ
newline = 10

abbrev pub space : ℕ
space = 32

abbrev pub hash : ℕ
hash = 35

abbrev pub dollar : ℕ
dollar = 36

abbrev pub dot : ℕ
dot = 46

abbrev pub colon : ℕ
colon = 58

abbrev pub equals : ℕ
equals = 61

abbrev pub open_brace : ℕ
open_brace = 123

abbrev pub bar : ℕ
bar = 124

abbrev pub close_brace : ℕ
close_brace = 125

unfoldable pub between : ℕ → ℕ → ℕ → Bool
between a z b = leb a b && leb b z

-- letters are ASCII (reading 11)
unfoldable pub letter : ℕ → Bool
unfolding between
letter b = between 65 90 b || between 97 122 b

unfoldable pub digit : ℕ → Bool
unfolding between
digit b = between 48 57 b

-- `_` is 95 and `-` is 45
unfoldable pub short_byte : ℕ → Bool
unfolding letter digit
short_byte b = letter b || digit b || eqb b 95 || eqb b 45

unfoldable pub name_byte : ℕ → Bool
unfolding short_byte
name_byte b = short_byte b || eqb b dot

unfoldable pub forbidden : ℕ → Bool
forbidden b = eqb b 0 || eqb b 9 || eqb b 13

-- the class numbers of the table
unfoldable pub class_of : ℕ → ℕ
unfolding short_byte forbidden
class_of b =
    if_b (short_byte b) (λ _. 1) λ _.
    if_b (eqb b dot) (λ _. 2) λ _.
    if_b (eqb b space) (λ _. 3) λ _.
    if_b (eqb b newline) (λ _. 4) λ _.
    if_b (eqb b dollar) (λ _. 5) λ _.
    if_b (eqb b colon) (λ _. 6) λ _.
    if_b (eqb b bar) (λ _. 7) λ _.
    if_b (eqb b equals) (λ _. 8) λ _.
    if_b (eqb b hash) (λ _. 9) λ _.
    if_b (eqb b open_brace) (λ _. 10) λ _.
    if_b (eqb b close_brace) (λ _. 11) λ _.
    if_b (forbidden b) (λ _. 12) λ _. 0
