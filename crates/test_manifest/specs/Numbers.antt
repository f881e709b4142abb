-- The reader's answer in numbers, and what is answered for buffers of any length.
use Rattle.std.specs.Prelude.{ℕ, suc, Bool, true, false, List, ◌≡◌, length, Result, Ok, Err}
use Rattle.lists.specs.Fill.{zeros}
use Rattle.spec.specs.Answers.{refusal_says, Place, plain, in_text}
use Rattle.answer_places.specs.Places.{placed_in}
use Rattle.scan_classes.specs.Table.{classes}
use Rattle.apply_manifest.specs.Manifests.{Roomy, IsRead}
use Rattle.test_manifest.specs.declared.ReadNumbers.{ReadNumbers}
use Rattle.hold_reading.specs.Buffers.{Buffers, SameRoom}
use Rattle.hold_reading.specs.declared.Counts.{Counts}
use Rattle.spec.specs.declared.Refusal.{Refusal}

-- a place in two numbers: 0 and itself, or the record of its text and one more, and the offset there
abbrev pub place_record : Place → ℕ
place_record (plain v) = 0
place_record (in_text k v) = suc k

abbrev pub place_value : Place → ℕ
place_value (plain v) = v
place_value (in_text k v) = v

-- a number and a place, and nothing counted
abbrev pub bare_numbers : ℕ → ℕ → ℕ → ReadNumbers
bare_numbers n t p =
    record { number = n; text = t; place = p; files = 0; steps = 0; paths = 0; defaults = 0; entries = 0; rules = 0; bindings = 0; mentions = 0; written = 0 }

unfoldable pub in_numbers : List ℕ → Result Counts Refusal → ReadNumbers
unfolding placed_in
in_numbers bundle (Ok c) =
    record {
      number = 0;
      text = 0;
      place = 0;
      files = c.files;
      steps = c.steps;
      paths = c.paths;
      defaults = c.defaults;
      entries = c.entries;
      rules = c.rules;
      bindings = c.bindings;
      mentions = c.mentions;
      written = c.written;
    }
in_numbers bundle (Err r) =
    let p = placed_in bundle (refusal_says r) in
    bare_numbers (refusal_says r).number (place_record p) (place_value p)

-- a test that is true exactly where the buffers have room for any manifest
pub record JudgesRoom (bs : Buffers) (word : List ℕ) (r : Bool) : Type 0 where
  pub enough : r ≡ true → Roomy classes bs word
  pub lacking : r ≡ false → Roomy classes bs word → ⊥

-- all zero, with the room that they had
pub record Cleared (bs bs' : Buffers) : Type 0 where
  pub names : bs'.names ≡ zeros (length bs.names)
  pub index : bs'.index ≡ zeros (length bs.index)
  pub texts : bs'.texts ≡ zeros (length bs.texts)
  pub bind : bs'.bind ≡ zeros (length bs.bind)
  pub graph : bs'.graph ≡ zeros (length bs.graph)

-- what is left of the buffers: they hold what was read, and a refusal leaves them all zero
unfoldable pub Left : Result Counts Refusal → Buffers → Buffers → Type 0
Left (Ok c) bs bs' = SameRoom bs bs'
Left (Err r) bs bs' = Cleared bs bs'

-- The manifest has been read into the buffers, or refused. The word buffer is left zero.
pub record ReadWhole (m : List ℕ) (bs : Buffers) (word : List ℕ) (a : Result Counts Refusal) (bs' : Buffers) (word' : List ℕ) : Type 0 where
  pub read : IsRead m bs' a
  pub left : Left a bs bs'
  pub word_zero : word' ≡ zeros (length word)

-- the same, and the numbers say which
pub record ReadAs (m : List ℕ) (bs : Buffers) (word : List ℕ) (r : ReadNumbers) (bs' : Buffers) (word' : List ℕ) : Type 0 where
  pub answer : Result Counts Refusal
  pub read : ReadWhole m bs word answer bs' word'
  pub says : r ≡ in_numbers m answer

-- buffers as they were
pub record Untouched (bs : Buffers) (word : List ℕ) (bs' : Buffers) (word' : List ℕ) : Type 0 where
  pub names_stay : bs'.names ≡ bs.names
  pub index_stay : bs'.index ≡ bs.index
  pub texts_stay : bs'.texts ≡ bs.texts
  pub bind_stay : bs'.bind ≡ bs.bind
  pub graph_stay : bs'.graph ≡ bs.graph
  pub word_stay : word' ≡ word

-- What the reader answers; or, where a buffer has no room for some manifest, 255 and the buffers as they were.
pub record ReadsManifest (m : List ℕ) (bs : Buffers) (word : List ℕ) (r : ReadNumbers) (bs' : Buffers) (word' : List ℕ) : Type 0 where
  pub roomy : Roomy classes bs word → ReadAs m bs word r bs' word'
  pub small : (Roomy classes bs word → ⊥) → (r ≡ bare_numbers 255 0 0) × Untouched bs word bs' word'
