-- What is written of a text in the lent buffer.
use Rattle.std.specs.Prelude.{ℕ, zero, suc, ◌+◌, ◌≤◌, ◌<◌, List, [], ◌∷◌, ◌++◌, map, ◌≡◌, length, take, get_or}
use Rattle.spec.specs.Limits.{max_text}
use Rattle.spec.specs.Text.{quote, inside_quotes, Spelling}
use Rattle.hold_names.specs.Table.{SoundNames}

-- the buffer has room for a longest text, which is written up to this place
pub record OpenText (buffer : List ℕ) (place : ℕ) : Type 0 where
  pub room : max_text ≤ length buffer
  pub low : place ≤ max_text

-- The bytes s stand behind the first `place` bytes, up to place r.
pub record BytesBehind (before : List ℕ) (place : ℕ) (s after : List ℕ) (r : ℕ) : Type 0 where
  pub count : r ≡ place + length s
  pub bytes : take r after ≡ take place before ++ s

-- They are written, or r is past the limit and so are they.
pub record PutsText (before : List ℕ) (place : ℕ) (s after : List ℕ) (r : ℕ) : Type 0 where
  pub long : length after ≡ length before
  pub low : r ≤ max_text + 1
  pub fits : r ≤ max_text → BytesBehind before place s after r
  pub over : max_text < r → max_text < place + length s

-- ------------------------------------------------------------------ files

-- a name behind the quote that opens it
abbrev pub to_close : List ℕ → List ℕ
to_close n = inside_quotes n ++ (quote ∷ [])

-- the names of files by their numbers, as a text spells them
abbrev pub names_in : Spelling → List (List ℕ) → List ℕ → List (List ℕ)
names_in spell files fs = map (λ (f : ℕ). spell (get_or files f [])) fs

-- name i of a list with its separator before it
unfoldable pub headed : ℕ → ℕ → List ℕ → List ℕ
headed c zero n = n
headed c (suc i) n = c ∷ n

-- what writing a file's name asks
pub record FileNameAsk (names index : List ℕ) (count f : ℕ) (buffer : List ℕ) (place : ℕ) : Type 0 where
  pub named : SoundNames names index count
  pub low : f < count
  pub free : OpenText buffer place

-- what writing the names of a list of files asks
pub record FileNamesAsk (names index : List ℕ) (count : ℕ) (fs buffer : List ℕ) (place : ℕ) : Type 0 where
  pub named : SoundNames names index count
  pub low : (i : ℕ) → i < length fs → get_or fs i 0 < count
  pub free : OpenText buffer place
