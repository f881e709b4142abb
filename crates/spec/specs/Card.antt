-- The time card: which bytes are a sound one, and the time of each file on it.
use Rattle.std.specs.Prelude.{ℕ, zero, suc, ◌+◌, ◌*◌, ◌/◌, ◌%◌, List, [], ◌∷◌, Bool, true, false, ◌&&◌, eqb, leb, length, take, drop}
use Rattle.lists.specs.Tests.{if_b}
use Rattle.lists.specs.Bytes.{eq_bytes, less_bytes}
use Rattle.spec.specs.Limits.{max_records, max_card, max_path, max_time}

-- "Numbers are little-endian."
unfoldable pub little_endian : List ℕ → ℕ
little_endian [] = 0
little_endian (b ∷ s) = b + 256 * little_endian s

-- a number as so many bytes
abbrev pub in_bytes : ℕ → ℕ → List ℕ
in_bytes zero n = []
in_bytes (suc k) n = n % 256 ∷ in_bytes k (n / 256)

-- the number of `size` bytes at an offset
unfoldable pub number_at : ℕ → ℕ → List ℕ → ℕ
unfolding little_endian
number_at at size s = little_endian (take size (drop at s))

-- "Each record: name offset counted from the names (4), name length 1 to 255 (4), time 1 to 2^63 - 1 (8)."
pub record CardRecord : Type 0 where
  pub offset : ℕ
  pub size : ℕ
  pub time : ℕ

-- the record at an offset
unfoldable pub record_at : ℕ → List ℕ → CardRecord
unfolding number_at
record_at at s = record { offset = number_at at 4 s; size = number_at (at + 4) 4 s; time = number_at (at + 8) 8 s }

-- the first records of those bytes
unfoldable pub records_of : ℕ → List ℕ → List CardRecord
unfolding record_at
records_of zero s = []
records_of (suc n) s = record_at 0 s ∷ records_of n (drop 16 s)

-- the rules for one record whose name has to start at `at`
unfoldable pub sound_record : ℕ → CardRecord → Bool
sound_record at r = eqb r.offset at && leb 1 r.size && leb r.size max_path && leb 1 r.time && leb r.time max_time

-- "Names lie end to end in record order to the end": each starts where the one before it ends, the last ends where the card does
unfoldable pub sound_records : ℕ → ℕ → List CardRecord → Bool
unfolding sound_record
sound_records at end [] = eqb at end
sound_records at end (r ∷ rs) = sound_record at r && sound_records (at + r.size) end rs

-- a file on the card
pub record Entry : Type 0 where
  pub name : List ℕ
  pub time : ℕ

-- each record's name is the next of the names
unfoldable pub entries_of : List CardRecord → List ℕ → List Entry
entries_of [] names = []
entries_of (r ∷ rs) names = record { name = take r.size names; time = r.time } ∷ entries_of rs (drop r.size names)

-- "strictly rising by bytes (a prefix comes first)"
unfoldable pub rising : List Entry → Bool
unfolding less_bytes
rising [] = true
rising (e ∷ []) = true
rising (e ∷ f ∷ l) = less_bytes e.name f.name && rising (f ∷ l)

-- "A header of counts and offsets, 4 bytes each: count n, offset of records (16), offset of names (16 + 16n), total length."
unfoldable pub sound_layout : List ℕ → Bool
unfolding number_at
sound_layout s =
    leb 16 (length s) && eqb (number_at 4 4 s) 16 && eqb (number_at 8 4 s) (16 + 16 * number_at 0 4 s) && eqb (number_at 12 4 s) (length s) && leb (number_at 8 4 s) (length s)

-- "n is at most 1,024, the card at most 49,152 bytes"
unfoldable pub sound_header : List ℕ → Bool
unfolding number_at sound_layout
sound_header s = sound_layout s && leb (length s) max_card && leb (number_at 0 4 s) max_records

-- the records, the names, and the files that they tell of
unfoldable pub card_records : List ℕ → List CardRecord
unfolding records_of number_at
card_records s = records_of (number_at 0 4 s) (drop 16 s)

unfoldable pub card_names : List ℕ → List ℕ
unfolding number_at
card_names s = drop (16 + 16 * number_at 0 4 s) s

unfoldable pub card_entries : List ℕ → List Entry
unfolding entries_of card_records card_names
card_entries s = entries_of (card_records s) (card_names s)

-- the rules for the records and the names
unfoldable pub sound_names : List ℕ → Bool
unfolding sound_records card_records card_names rising card_entries
sound_names s = sound_records 0 (length (card_names s)) (card_records s) && rising (card_entries s)

-- a card that breaks no rule; its records are looked at only under a sound header
unfoldable pub sound_card : List ℕ → Bool
unfolding sound_header sound_names
sound_card s = if_b (sound_header s) (λ _. sound_names s) (λ _. false)

-- "A file not listed is missing and has time 0."
unfoldable pub time_in : List Entry → List ℕ → ℕ
unfolding eq_bytes
time_in [] n = 0
time_in (e ∷ l) n = if_b (eq_bytes n e.name) (λ _. e.time) (λ _. time_in l n)
