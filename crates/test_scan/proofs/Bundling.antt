-- A bundle's answers as numbers: what each answer of the crate below gives.
use Rattle.std.specs.Prelude.{Option, Some, None, unwrap_or}
use Prim.Native.Nat.{ℕ, ◌+◌, ◌≤◌, ◌<◌}
use mathlib.Core.Bool.{true, false}
use mathlib.Core.List.{List, []}
use mathlib.Core.Path.{◌≡◌, refl}
use native.Mathlib.Omega.{arith}
use borrow.Author.Tests.{le-leb, lt-leb, lt-ltb, le-ltb, eq-eqb, ne_eqb}
use lib.ListN.{length, get_or}
use Rattle.lists.specs.Bytes.{eq_bytes}
use Rattle.lists.specs.Tests.{split}
use Rattle.spec.specs.Answers.{spot, base_of}
use Rattle.spec.specs.Basics.{among}
use Rattle.spec.specs.Reading.{number_of}
use Rattle.spec.proofs.Numbers.{number_below}
use Rattle.scan_bundle.proofs.Lying.{length_names}
use Rattle.spec.specs.Bundle.{bundle_names, bundle_texts, sound_bundle}
use Rattle.spec.specs.Card.{number_at}
use Rattle.spec.specs.Limits.{max_bundle}
use Rattle.scan_bundle.specs.declared.Spot.{Spot}
use Rattle.scan_bundle.specs.Bundles.{LaidBundle, Indexes, found_record, record_place_of, Wraps}
use Rattle.scan_bundle.proofs.Laws.{opened, malformed_is, sound_is_laid, sound_few, found_at, found_none}
use Rattle.test_scan.specs.Bundles.{bundle_count, record_number, records_in, text_number, base_number, record_text_of, spot_number, WrapsInto}

-- ---- how many, and which

pub count_over : (b : List ℕ) (least most : ℕ) → 512 < most → 0 ≡ bundle_count b least most
unfolding bundle_count
count_over b least most h = rw (lt-leb most 512 h)

module _ {b : List ℕ} {least most : ℕ} {order order' : List ℕ} {r : Option ℕ} (x : Indexes b least most order order' r) (h : most ≤ 512) where
  pub sound_small : {n : ℕ} → r ≡ Some n → n ≤ 512
  sound_small e = let o = opened x e in omega (arith, o.indexed.count, sound_few least most b o.sound)

  pub count_sound : {n : ℕ} → r ≡ Some n → n + 1 ≡ bundle_count b least most
  unfolding bundle_count
  count_sound e = let o = opened x e in rw (le-leb most 512 h, o.sound, o.indexed.count)

  pub count_malformed : r ≡ None → 0 ≡ bundle_count b least most
  unfolding bundle_count
  count_malformed e = rw (le-leb most 512 h, malformed_is x e)

at_below : (b path : List ℕ) → among path (bundle_names b) ≡ true → number_of path (bundle_names b) < number_at 0 4 b
at_below b path a = omega (arith, number_below path (bundle_names b) a, length_names b)

module _ {b : List ℕ} {order order' : List ℕ} {r : Option ℕ} (x : Indexes b 0 512 order order' r) (path : List ℕ) where
  pub find_malformed : r ≡ None → 0 ≡ record_number b path
  unfolding record_number
  find_malformed e = rw (malformed_is x e)

  module _ {n : ℕ} (e : r ≡ Some n) {f : Option ℕ} (g : f ≡ found_record path (bundle_names b)) where
    pub find_missing : f ≡ None → 1 ≡ record_number b path
    unfolding record_number
    find_missing q = rw ((opened x e).sound, found_none path (bundle_names b) g q)

    pub find_at : {k : ℕ} → f ≡ Some k → k + 2 ≡ record_number b path
    unfolding record_number
    find_at q = let (a, c) = found_at path (bundle_names b) g q in rw ((opened x e).sound, a, c)

    pub find_small : {k : ℕ} → f ≡ Some k → k < 512
    find_small q =
        let (a, c) = found_at path (bundle_names b) g q in
        omega (arith, c, at_below b path a, sound_few 0 512 b (opened x e).sound)

-- ---- a manifest's bundle

module _ {b order order' : List ℕ} {r : Option ℕ} (x : Indexes b 1 max_bundle order order' r) where
  records_sound : {n : ℕ} → r ≡ Some n → n ≡ records_in b
  unfolding records_in
  records_sound e = let o = opened x e in rw o.sound o.indexed.count

  records_none : r ≡ None → 0 ≡ records_in b
  unfolding records_in
  records_none e = rw (malformed_is x e)

pub records_told : {b order order' : List ℕ} (r : Option ℕ) → Indexes b 1 max_bundle order order' r → unwrap_or r 0 ≡ records_in b
records_told (Some n) x = records_sound x refl
records_told None x = records_none x refl

-- a bundle with a record is sound
pub record Sounds (b : List ℕ) (n : ℕ) : Type 0 where
  pub laid : LaidBundle b
  pub count : n ≡ number_at 0 4 b
  pub few : n ≤ max_bundle

pub sounds : (b : List ℕ) {n : ℕ} → n ≡ records_in b → 0 < n → Sounds b n
unfolding records_in
sounds b {n} e h =
    split (sound_bundle 1 max_bundle b)
    (λ (s : sound_bundle 1 max_bundle b ≡ true). let q = rw s at e in record { laid = sound_is_laid 1 max_bundle b s; count = q; few = rw q (sound_few 1 max_bundle b s) })
    (λ (s : sound_bundle 1 max_bundle b ≡ false). let q = rw s at e in absurd (omega arith))

module _ (b : List ℕ) (k : ℕ) {n : ℕ} (e : n ≡ records_in b) where
  pub text_none : n ≤ k → (text : List ℕ) → 0 ≡ text_number b k text
  unfolding text_number
  text_none h text = rw (← e, le-ltb k n h)

  pub text_other : k < n → (text : List ℕ) → eq_bytes (get_or (bundle_texts b) k []) text ≡ false → 0 ≡ text_number b k text
  unfolding text_number
  text_other h text q = rw (← e, lt-ltb k n h, q)

  pub text_same : k < n → (text : List ℕ) → eq_bytes (get_or (bundle_texts b) k []) text ≡ true → length text + 1 ≡ text_number b k text
  unfolding text_number
  text_same h text q = rw (← e, lt-ltb k n h, q)

  pub base_none : n ≤ k → 0 ≡ base_number b k
  unfolding base_number
  base_none h = rw (← e, le-ltb k n h)

  pub base_at : k < n → {r : ℕ} → r ≡ base_of (bundle_texts b) k → r ≡ base_number b k
  unfolding base_number
  base_at h q = rw (← e, lt-ltb k n h) q

module _ (b : List ℕ) (place : ℕ) {n : ℕ} (e : n ≡ records_in b) where
  pub spot_none : n ≡ 0 → 0 ≡ spot_number b place
  unfolding spot_number
  spot_none h = rw (← e, eq-eqb n 0 h)

  module _ (h : n ≡ 0 → ⊥) (r : Spot) (q : record_place_of n r ≡ spot (bundle_texts b) place) where
    pub spot_past : n ≤ r.text → 1 ≡ spot_number b place
    unfolding spot_number record_text_of record_place_of
    spot_past l = rw (← e, ne_eqb n 0 h, ← q, le-ltb r.text n l)

    pub spot_in : r.text < n → r.text + 2 ≡ spot_number b place
    unfolding spot_number record_text_of record_place_of
    spot_in l = rw (← e, ne_eqb n 0 h, ← q, lt-ltb r.text n l)

-- ---- written

module _ (name text out : List ℕ) where
  pub wraps_fit : length name + length text < 4294967264 → 32 + (length name + length text) ≤ length out → {out' : List ℕ} {r : ℕ} → Wraps name text out out' r → WrapsInto name text out out' r
  wraps_fit a b w = record { fits = λ _ _. w; long = λ h. absurd (omega arith); short = λ h. absurd (omega arith) }

  pub wraps_long : 4294967264 ≤ length name + length text → WrapsInto name text out out 0
  wraps_long a = record { fits = λ h _. absurd (omega arith); long = λ _. (refl, refl); short = λ _. (refl, refl) }

  pub wraps_short : length out < 32 + (length name + length text) → WrapsInto name text out out 0
  wraps_short a = record { fits = λ _ h. absurd (omega arith); long = λ _. (refl, refl); short = λ _. (refl, refl) }
