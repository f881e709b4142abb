-- Where record k and the name of entry k lie in the bytes of a sound card.
use Prim.Native.Nat.{ℕ, zero, suc, ◌+◌, ◌-◌, ◌*◌, ◌≤◌, ◌<◌}
use mathlib.Core.Bool.{Bool, true, false, ◌&&◌}
use mathlib.Core.List.{List, [], ◌∷◌}
use mathlib.Core.Path.{◌≡◌, refl, ◌∙◌, ap}
use native.Mathlib.Nat.{not-suc-le-zero}
use native.Mathlib.Omega.{arith}
use borrow.Author.Tests.{eqb-true}
use lib.ListN.{length, take, drop, get_or, length-drop}
use lib.Seq.{drop-drop}
use Rattle.lists.specs.Tests.{split, differ, and_left, and_right}
use Rattle.spec.specs.Card.{CardRecord, number_at, record_at, records_of, sound_record, sound_records, Entry, entries_of, rising, sound_header, card_records, card_names, card_entries, sound_names, sound_card}
use Rattle.scan_card.specs.Fields.{Headed, unlisted, card_entry_at, EntryListed}
use Rattle.scan_card.proofs.Rules.{header, Fair, fair}

-- ---- records

record_drop : (s : List ℕ) (p : ℕ) → record_at 0 (drop p s) ≡ record_at p s
unfolding record_at
record_drop s p = rw (drop-drop 4 p s, drop-drop 8 p s)

pub records_cons : (s : List ℕ) (p m : ℕ) → records_of (suc m) (drop p s) ≡ record_at p s ∷ records_of m (drop (p + 16) s)
unfolding records_of
records_cons s p m = rw (← record_drop s p, drop-drop 16 p s)

length_records : (n : ℕ) (s : List ℕ) → length (records_of n s) ≡ n
unfolding records_of
length_records zero s = refl
length_records (suc n) s = ap suc (length_records n (drop 16 s))

-- ---- names

length_entries : (rs : List CardRecord) (names : List ℕ) → length (entries_of rs names) ≡ length rs
unfolding entries_of
length_entries [] names = refl
length_entries (r ∷ rs) names = ap suc (length_entries rs (drop r.size names))

-- Names never run past the end.
pub names_within : (at end : ℕ) (rs : List CardRecord) → sound_records at end rs ≡ true → at ≤ end
unfolding sound_records
names_within at end [] h = omega (arith, eqb-true at end h)
names_within at end (r ∷ rs) h =
    let b = names_within (at + r.size) end rs (and_right (sound_record at r) (sound_records (at + r.size) end rs) h) in
    omega arith

-- what a record says of its entry
record Lies (names : List ℕ) (r : CardRecord) (e : Entry) : Type 0 where
  room : r.offset + r.size ≤ length names
  is : e ≡ record { name = take r.size (drop r.offset names); time = r.time }

entry_lies : (s : List ℕ) (p n at : ℕ) (names : List ℕ) → sound_records at (length names) (records_of n (drop p s)) ≡ true → (k : ℕ) → k < n → Lies names (record_at (p + 16 * k) s) (get_or (entries_of (records_of n (drop p s)) (drop at names)) k unlisted)
unfolding sound_records entries_of
entry_lies s p zero at names h k l = absurd (not-suc-le-zero l)
entry_lies s p (suc n) at names h zero l =
    let r = record_at p s in
    let rs = records_of n (drop (p + 16) s) in
    let g : sound_record at r && sound_records (at + r.size) (length names) rs ≡ true = rw (records_cons s p n) at h in
    let f : Fair at r = fair (and_left (sound_record at r) (sound_records (at + r.size) (length names) rs) g) in
    let b = names_within (at + r.size) (length names) rs (and_right (sound_record at r) (sound_records (at + r.size) (length names) rs) g) in
    let z : p + 16 * 0 ≡ p = omega arith in
    rw (z, records_cons s p n) (record { room = omega arith; is = rw f.starts })
entry_lies s p (suc n) at names h (suc k) l =
    let r = record_at p s in
    let rs = records_of n (drop (p + 16) s) in
    let g : sound_record at r && sound_records (at + r.size) (length names) rs ≡ true = rw (records_cons s p n) at h in
    let z : p + 16 * suc k ≡ p + 16 + 16 * k = omega arith in
    rw (z, records_cons s p n, drop-drop r.size at names)
    (entry_lies s (p + 16) n (at + r.size) names (and_right (sound_record at r) (sound_records (at + r.size) (length names) rs) g) k (omega arith))

-- ---- a sound card

-- The header comes first.
pub bad_header : (s : List ℕ) → sound_header s ≡ false → false ≡ sound_card s
unfolding sound_card
bad_header s h = rw h

pub good_header : (s : List ℕ) {b : Bool} → sound_header s ≡ true → b ≡ sound_names s → b ≡ sound_card s
unfolding sound_card
good_header s h e = rw h e

module _ (s : List ℕ) (h : sound_card s ≡ true) where
  pub card_header : sound_header s ≡ true
  unfolding sound_card
  card_header = split (sound_header s) (λ (e : sound_header s ≡ true). e) (λ (e : sound_header s ≡ false). differ (rw e at h) refl)

  card_names_law : sound_names s ≡ true
  unfolding sound_card
  card_names_law = rw card_header at h

  pub card_rising : rising (card_entries s) ≡ true
  unfolding sound_names
  card_rising = and_right (sound_records 0 (length (card_names s)) (card_records s)) (rising (card_entries s)) card_names_law

  card_lies : (k : ℕ) → k < number_at 0 4 s → Lies (card_names s) (record_at (16 + 16 * k) s) (card_entry_at s k)
  unfolding sound_names card_records card_entries card_entry_at
  card_lies k l =
      entry_lies s 16 (number_at 0 4 s) 0 (card_names s) (and_left (sound_records 0 (length (card_names s)) (card_records s)) (rising (card_entries s)) card_names_law) k l

pub headed : {s : List ℕ} {n : ℕ} → sound_header s ≡ true → n ≡ number_at 0 4 s → Headed s n
headed h e = let f = header h in record { count = e; few = omega arith; room = omega arith; short = f.short }

pub length_card : (s : List ℕ) → length (card_entries s) ≡ number_at 0 4 s
unfolding card_entries card_records
length_card s = length_entries (card_records s) (card_names s) ∙ length_records (number_at 0 4 s) (drop 16 s)

pub listed : {s : List ℕ} → sound_card s ≡ true → (k : ℕ) → k < number_at 0 4 s → EntryListed s k
unfolding record_at card_names
listed {s} h k l =
    let f = header (card_header s h) in
    let y = card_lies s h k l in
    let a = 16 + 16 * number_at 0 4 s in
    let o = number_at (16 + 16 * k) 4 s in
    let z = number_at (16 + 16 * k + 4) 4 s in
    let w : a + o + z - (a + o) ≡ z = omega arith in
    record {
      within = l;
      few = f.few;
      long = omega arith;
      short = f.short;
      room = omega (arith, y.room, length-drop a s);
      name = rw w (ap (λ (e : Entry). e.name) y.is ∙ rw (drop-drop o a s));
      time = ap (λ (e : Entry). e.time) y.is;
    }
