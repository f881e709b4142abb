-- What the functions on a card's bytes promise.
use Rattle.std.specs.Prelude.{ℕ, ◌+◌, ◌*◌, ◌≤◌, ◌<◌, List, [], ◌≡◌, length, get_or}
use Rattle.lists.specs.Parts.{part}
use Rattle.spec.specs.Limits.{max_card, max_records}
use Rattle.spec.specs.Card.{number_at, Entry, card_entries}

-- what a sound header says: there are n records, and the names start after them, within the card
pub record Headed (s : List ℕ) (n : ℕ) : Type 0 where
  pub count : n ≡ number_at 0 4 s
  pub few : n ≤ max_records
  pub room : 16 + 16 * n ≤ length s
  pub short : length s ≤ max_card

-- entry k of a card, and what a file has that is not listed
abbrev pub unlisted : Entry
unlisted = record { name = []; time = 0 }

unfoldable pub card_entry_at : List ℕ → ℕ → Entry
card_entry_at s k = get_or (card_entries s) k unlisted

-- the bytes of entry k: its name starts `offset` bytes after the names do
pub record EntryListed (s : List ℕ) (k : ℕ) : Type 0 where
  pub within : k < number_at 0 4 s
  pub few : number_at 0 4 s ≤ max_records
  pub long : 16 + 16 * number_at 0 4 s ≤ length s
  pub short : length s ≤ max_card
  pub room : 16 + 16 * number_at 0 4 s + number_at (16 + 16 * k) 4 s + number_at (16 + 16 * k + 4) 4 s ≤ length s
  pub name : (card_entry_at s k).name ≡ part s (16 + 16 * number_at 0 4 s + number_at (16 + 16 * k) 4 s) (16 + 16 * number_at 0 4 s + number_at (16 + 16 * k) 4 s + number_at (16 + 16 * k + 4) 4 s)
  pub time : (card_entry_at s k).time ≡ number_at (16 + 16 * k + 8) 8 s
