-- Dollars: what a raw text is made of, where a `$` of it is bad, what it expands to, and which names it refers to.
use Rattle.std.specs.Prelude.{ℕ, zero, suc, ◌-◌, List, [], ◌∷◌, ◌++◌, Bool, true, false, not, ◌&&◌, ◌||◌, eqb, length}
use Rattle.std.proofs.Math.Option.{Option, none, some}
use Rattle.lists.specs.Tests.{if_b}
use Rattle.lists.specs.Runs.{run, after_run}
use Rattle.spec.specs.Basics.{is_empty}
use Rattle.spec.specs.Bytes.{newline, space, dollar, colon, open_brace, close_brace, short_byte, name_byte}
use Rattle.spec.specs.Lines.{is_space}

-- What a `$` begins, each with what follows it.
pub data Element : Type 0 where
  -- `$$`, `$ ` or `$:`, with the byte that it gives
  literal : ℕ → List ℕ → Element
  -- a join and the next line's leading spaces
  joins : List ℕ → Element
  -- `$name` or `${name}`
  names : List ℕ → List ℕ → Element
  wrong : Element

-- "`$$`, `$ ` and `$:` give `$`, space and colon."
unfoldable pub escaped : ℕ → Bool
escaped b = eqb b dollar || eqb b space || eqb b colon

-- the name bytes behind `${`, and what follows them: "A name has one byte at least"
unfoldable pub braced : List ℕ → List ℕ → Element
braced n [] = wrong
braced n (b ∷ s) = if_b (eqb b close_brace && not (is_empty n)) (λ _. names n s) (λ _. wrong)

-- From the byte after the `$` on: "`$` before a newline joins the lines and drops the next line's leading spaces." "`${name}` takes name bytes, `$name` the
-- longest run of short-name bytes", which a join ends; "any other `$` is bad."
unfoldable pub element : List ℕ → Element
unfolding escaped braced short_byte name_byte run after_run
element [] = wrong
element (b ∷ s) =
    if_b (escaped b) (λ _. literal b s) λ _.
    if_b (eqb b newline) (λ _. joins (after_run is_space s)) λ _.
    if_b (eqb b open_brace) (λ _. braced (run name_byte s) (after_run name_byte s)) λ _.
    if_b (short_byte b) (λ _. names (run short_byte (b ∷ s)) (after_run short_byte (b ∷ s))) λ _. wrong

-- a raw text is bytes and references to names
pub data Piece : Type 0 where
  byte : ℕ → Piece
  ref : List ℕ → Piece

-- A raw text as it is read from the front: its pieces, and what follows it from the byte on that ends it; or, where a `$` is bad, its pieces up to the
-- first such `$`, and what follows from that `$` on.
pub record Raw : Type 0 where
  pub pieces : List Piece
  pub rest : List ℕ
  pub sound : Bool

unfoldable pub with_piece : Piece → Raw → Raw
with_piece p r = record { pieces = p ∷ r.pieces; rest = r.rest; sound = r.sound }

-- the text goes on after what the `$` at the front of `t` begins
unfoldable pub go_on : List ℕ → Element → (List ℕ → Raw) → Raw
unfolding with_piece
go_on t (literal b s) k = with_piece (byte b) (k s)
go_on t (joins s) k = k s
go_on t (names n s) k = with_piece (ref n) (k s)
go_on t wrong k = record { pieces = []; rest = t; sound = false }

-- "Dollars are read from the left", up to a byte that ends the text and stands in no dollar; each turn takes a byte at least, so `k`, which is the number
-- of bytes, is never used up
unfoldable pub read_up : (ℕ → Bool) → ℕ → List ℕ → Raw
unfolding go_on element with_piece
read_up ends zero s = record { pieces = []; rest = s; sound = true }
read_up ends (suc k) [] = record { pieces = []; rest = []; sound = true }
read_up ends (suc k) (b ∷ s) =
    if_b (ends b) (λ _. record { pieces = []; rest = b ∷ s; sound = true }) λ _.
    if_b (eqb b dollar) (λ _. go_on (b ∷ s) (element s) (read_up ends k)) (λ _. with_piece (byte b) (read_up ends k s))

unfoldable pub read_raw : (ℕ → Bool) → List ℕ → Raw
unfolding read_up
read_raw ends s = read_up ends (length s) s

-- the offset of the first bad `$`, if there is one: the place of a 5 is "the `$`"
unfoldable pub bad_in : (ℕ → Bool) → List ℕ → Option ℕ
unfolding read_raw
bad_in ends s = if_b (read_raw ends s).sound (λ _. none) (λ _. some (length s - length (read_raw ends s).rest))

-- of a raw text that only its end ends, as that of a value is
unfoldable pub bad_dollar : List ℕ → Option ℕ
unfolding bad_in
bad_dollar raw = bad_in (λ b. false) raw

unfoldable pub pieces : List ℕ → List Piece
unfolding read_raw
pieces raw = (read_raw (λ b. false) raw).pieces

unfoldable pub fill : (List ℕ → List ℕ) → List Piece → List ℕ
fill look [] = []
fill look (byte b ∷ ps) = b ∷ fill look ps
fill look (ref n ∷ ps) = look n ++ fill look ps

-- what a raw text expands to, where `look` gives what each name stands for
unfoldable pub expand : (List ℕ → List ℕ) → List ℕ → List ℕ
unfolding fill pieces
expand look raw = fill look (pieces raw)

unfoldable pub refs_of : List Piece → List (List ℕ)
refs_of [] = []
refs_of (byte b ∷ ps) = refs_of ps
refs_of (ref n ∷ ps) = n ∷ refs_of ps

-- the names that a raw text refers to
unfoldable pub refs : List ℕ → List (List ℕ)
unfolding refs_of pieces
refs raw = refs_of (pieces raw)
