-- The walk over a card's records and names: a turn of it, and its two ends.
use Prim.Native.Nat.{ℕ, zero, suc, ◌+◌, ◌-◌, ◌*◌, ◌≤◌, ◌<◌}
use mathlib.Core.Bool.{Bool, true, false, ◌&&◌}
use mathlib.Core.List.{List, [], ◌∷◌}
use mathlib.Core.Path.{◌≡◌, refl, sym, ◌∙◌, ap}
use native.Mathlib.Nat.{not-suc-le-zero}
use native.Mathlib.Omega.{arith}
use borrow.Author.Tests.{eq-eqb, ne_eqb, eqb-true, eqb-false}
use lib.Dec.{eqb}
use lib.ListN.{length, take, drop, length-drop}
use lib.Seq.{drop-drop}
use Rattle.lists.specs.Tests.{split, and_left, and_right}
use Rattle.lists.specs.Parts.{part}
use Rattle.lists.specs.Bytes.{less_bytes}
use Rattle.spec.specs.Card.{CardRecord, record_at, records_of, sound_record, sound_records, Entry, entries_of, rising, card_records, card_names, card_entries, sound_names}
use Rattle.scan_card.specs.Fields.{Headed}
use Rattle.scan_card.proofs.Rules.{Fair, fair}
use Rattle.scan_card.proofs.Places.{records_cons, names_within}

-- the records from k on
unfoldable pub left : List ℕ → ℕ → ℕ → List CardRecord
left s n k = records_of (n - k) (drop (16 + 16 * k) s)

abbrev pub named : List ℕ → Entry
named n = record { name = n; time = 0 }

-- The rules for them, after a name that lies from `from` to `to`.
unfoldable pub onward : List ℕ → ℕ → ℕ → ℕ → ℕ → Bool
onward s n from to k =
    sound_records (to - (16 + 16 * n)) (length s - (16 + 16 * n)) (left s n k) && rising (named (part s from to) ∷ entries_of (left s n k) (drop to s))

-- The state of the walk.
pub record Naming (s : List ℕ) (n from to k : ℕ) : Type 0 where
  pub within : k ≤ n
  pub start : 16 + 16 * n ≤ to
  pub forward : from ≤ to
  pub room : to ≤ length s
  pub rest : sound_names s ≡ onward s n from to k

rising_none : rising [] ≡ true
unfolding rising
rising_none = refl

rising_one : (e : Entry) → rising (e ∷ []) ≡ true
unfolding rising
rising_one e = refl

rising_two : (e f : Entry) (l : List Entry) → rising (e ∷ f ∷ l) ≡ less_bytes e.name f.name && rising (f ∷ l)
unfolding rising
rising_two e f l = refl

-- Times have no part in the order.
rising_named : (e : Entry) (l : List Entry) → rising (e ∷ l) ≡ rising (named e.name ∷ l)
unfolding rising
rising_named e [] = refl
rising_named e (f ∷ l) = refl

-- ---- before the first name there is an empty one

some_less : (size : ℕ) (names : List ℕ) → 1 ≤ size → 1 ≤ length names → less_bytes [] (take size names) ≡ true
unfolding less_bytes
some_less zero names a b = absurd (not-suc-le-zero a)
some_less (suc size) [] a b = absurd (not-suc-le-zero b)
some_less (suc size) (x ∷ names) a b = refl

first_less : (r : CardRecord) (rs : List CardRecord) (names : List ℕ) → sound_records 0 (length names) (r ∷ rs) ≡ true → less_bytes [] (take r.size names) ≡ true
unfolding sound_records
first_less r rs names h =
    let x = sound_record 0 r in
    let y = sound_records (0 + r.size) (length names) rs in
    let f : Fair 0 r = fair (and_left x y h) in
    let b = names_within (0 + r.size) (length names) rs (and_right x y h) in
    some_less r.size names f.some (omega arith)

first_rises : (rs : List CardRecord) (names : List ℕ) → sound_records 0 (length names) rs && rising (entries_of rs names) ≡ sound_records 0 (length names) rs && rising (named [] ∷ entries_of rs names)
unfolding entries_of
first_rises [] names = rw (rising_none, rising_one (named []))
first_rises (r ∷ rs) names =
    split (sound_records 0 (length names) (r ∷ rs))
    (λ (e : sound_records 0 (length names) (r ∷ rs) ≡ true).
    rw (e, rising_two (named []) (record { name = take r.size names; time = r.time }) (entries_of rs (drop r.size names)), first_less r rs names e))
    (λ (e : sound_records 0 (length names) (r ∷ rs) ≡ false). rw e)

pub naming_begin : {s : List ℕ} {n : ℕ} → Headed s n → Naming s n (16 + 16 * n) (16 + 16 * n) 0
unfolding onward left sound_names card_records card_names card_entries
naming_begin {s} {n} h =
    let a : 16 + 16 * n - (16 + 16 * n) ≡ 0 = omega arith in
    let b : n - 0 ≡ n = omega arith in
    record {
      within = omega arith;
      start = omega arith;
      forward = omega arith;
      room = h.room;
      rest = rw (← h.count, a, b, ← length-drop (16 + 16 * n) s) (first_rises (records_of n (drop 16 s)) (drop (16 + 16 * n) s));
    }

-- ---- a turn

-- what the record at k has to say
pub record Turn (s : List ℕ) (n from to k : ℕ) : Type 0 where
  pub fair : sound_record (to - (16 + 16 * n)) (record_at (16 + 16 * k) s) ≡ true
  pub room : to + (record_at (16 + 16 * k) s).size ≤ length s
  pub less : less_bytes (part s from to) (part s to (to + (record_at (16 + 16 * k) s).size)) ≡ true

left_none : (s : List ℕ) (n k : ℕ) → n ≤ k → left s n k ≡ []
unfolding left records_of
left_none s n k h = let a : n - k ≡ 0 = omega arith in rw a

left_cons : (s : List ℕ) (n k : ℕ) → k < n → left s n k ≡ record_at (16 + 16 * k) s ∷ left s n (k + 1)
unfolding left
left_cons s n k h =
    let a : n - k ≡ suc (n - (k + 1)) = omega arith in
    let b : 16 + 16 * k + 16 ≡ 16 + 16 * (k + 1) = omega arith in
    rw (a, records_cons s (16 + 16 * k) (n - (k + 1)), b)

sound_none : (at end : ℕ) → sound_records at end [] ≡ eqb at end
unfolding sound_records
sound_none at end = refl

sound_cons : (at end : ℕ) (r : CardRecord) (rs : List CardRecord) → sound_records at end (r ∷ rs) ≡ sound_record at r && sound_records (at + r.size) end rs
unfolding sound_records
sound_cons at end r rs = refl

entries_none : (names : List ℕ) → entries_of [] names ≡ []
unfolding entries_of
entries_none names = refl

entries_cons : (r : CardRecord) (rs : List CardRecord) (names : List ℕ) → entries_of (r ∷ rs) names ≡ record { name = take r.size names; time = r.time } ∷ entries_of rs (drop r.size names)
unfolding entries_of
entries_cons r rs names = refl

-- one record more: its own rules, and the others after it
onward_cons : (s : List ℕ) (n from to k : ℕ) (r : CardRecord) → 16 + 16 * n ≤ to → left s n k ≡ r ∷ left s n (k + 1) →
    onward s n from to k ≡ (sound_record (to - (16 + 16 * n)) r && sound_records (to + r.size - (16 + 16 * n)) (length s - (16 + 16 * n)) (left s n (k + 1))) && (less_bytes (part s from to) (part s to (to + r.size)) && rising (named (part s to (to + r.size)) ∷ entries_of (left s n (k + 1)) (drop (to + r.size) s)))
unfolding onward
onward_cons s n from to k r h e =
    let a : to + r.size - (16 + 16 * n) ≡ to - (16 + 16 * n) + r.size = omega arith in
    let b : to + r.size - to ≡ r.size = omega arith in
    rw (e, sound_cons, entries_cons, rising_two, rising_named, a, b, drop-drop r.size to s)

same_end : (a x y : ℕ) → a ≤ x → x ≤ y → eqb (x - a) (y - a) && true ≡ eqb x y
same_end a x y h l =
    split (eqb x y)
    (λ (e : eqb x y ≡ true). rw (e, eq-eqb (x - a) (y - a) (ap (λ (z : ℕ). z - a) (eqb-true x y e))))
    (λ (e : eqb x y ≡ false). rw (e, ne_eqb (x - a) (y - a) (λ q. eqb-false x y e (omega arith))))

module _ {s : List ℕ} {n from to k : ℕ} (r : Naming s n from to k) where
  pub naming_end : n ≤ k → eqb to (length s) ≡ sound_names s
  unfolding onward
  naming_end h =
      sym
      (r.rest
      ∙ rw (left_none s n k h, sound_none, entries_none, rising_one) (same_end (16 + 16 * n) to (length s) r.start r.room))

  module _ (l : k < n) where
    step : sound_names s ≡ (sound_record (to - (16 + 16 * n)) (record_at (16 + 16 * k) s) && sound_records (to + (record_at (16 + 16 * k) s).size - (16 + 16 * n)) (length s - (16 + 16 * n)) (left s n (k + 1))) && (less_bytes (part s from to) (part s to (to + (record_at (16 + 16 * k) s).size)) && rising (named (part s to (to + (record_at (16 + 16 * k) s).size)) ∷ entries_of (left s n (k + 1)) (drop (to + (record_at (16 + 16 * k) s).size) s)))
    step = r.rest ∙ onward_cons s n from to k (record_at (16 + 16 * k) s) r.start (left_cons s n k l)

    pub turn : sound_names s ≡ true → Turn s n from to k
    turn h =
        let z = (record_at (16 + 16 * k) s).size in
        let a = sound_record (to - (16 + 16 * n)) (record_at (16 + 16 * k) s) in
        let b = sound_records (to + z - (16 + 16 * n)) (length s - (16 + 16 * n)) (left s n (k + 1)) in
        let c = less_bytes (part s from to) (part s to (to + z)) in
        let d = rising (named (part s to (to + z)) ∷ entries_of (left s n (k + 1)) (drop (to + z) s)) in
        let f = and_left (a && b) (c && d) (sym step ∙ h) in
        let w = names_within (to + z - (16 + 16 * n)) (length s - (16 + 16 * n)) (left s n (k + 1)) (and_right a b f) in
        record {
          fair = and_left a b f;
          room = omega (arith, r.start, r.room);
          less = and_left c d (and_right (a && b) (c && d) (sym step ∙ h));
        }

    pub turned : (z : ℕ) → z ≡ (record_at (16 + 16 * k) s).size → sound_record (to - (16 + 16 * n)) (record_at (16 + 16 * k) s) ≡ true → to + z ≤ length s → less_bytes (part s from to) (part s to (to + z)) ≡ true → Naming s n to (to + z) (k + 1)
    unfolding onward
    turned z e f m g =
        record {
          within = omega arith;
          start = omega (arith, r.start);
          forward = omega arith;
          room = m;
          rest = step ∙ rw (f, ← e, g);
        }
