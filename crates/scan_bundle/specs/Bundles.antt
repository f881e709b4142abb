-- What the functions on a bundle's bytes ask for and promise.
use Rattle.std.specs.Prelude.{ℕ, ◌+◌, ◌*◌, ◌≤◌, ◌<◌, Bool, true, not, List, [], ◌∷◌, ◌++◌, map, ◌≡◌, ltb, length, take, drop, get_or, Option, Some, None, Result, Ok, Err}
use Rattle.lists.specs.Tests.{if_b}
use Rattle.lists.specs.Lent.{Spare}
use Rattle.arena.specs.Rising.{RisingPaths, PathBetween}
use Rattle.spec.specs.Answers.{Place, plain, in_text}
use Rattle.spec.specs.Basics.{among, or_else}
use Rattle.spec.specs.Bundle.{extents_of, extents_end, bundle_names, laid_bundle, sound_bundle, BundleRecord, bundled}
use Rattle.spec.specs.Card.{in_bytes, number_at}
use Rattle.spec.specs.Reading.{number_of}
use Rattle.spec.specs.Statements.{twice}
use Rattle.scan_bundle.specs.declared.Spot.{Spot}

-- ---- header and extents

-- a bundle whose header and extents break no rule; names may still be there twice
pub record LaidBundle (s : List ℕ) : Type 0 where
  pub least : ℕ
  pub most : ℕ
  pub laid : laid_bundle least most s ≡ true

-- what a sound header says: there are n records, and they lie within the bundle
pub record RunAsks (s : List ℕ) (n : ℕ) : Type 0 where
  pub count : n ≡ number_at 0 4 s
  pub room : 16 + 16 * n ≤ length s
  pub short : length s < 4294967296

-- where the extents end, of which the first is at `first`
unfoldable pub run_of : ℕ → ℕ → ℕ → ℕ → ℕ → List ℕ → Option ℕ
unfolding extents_end extents_of
run_of least most start n first s = or_else (extents_end least most start (extents_of n (drop first s))) (λ e. Some e) (λ _. None)

-- an extent at p, and its bytes, lie within the bundle
pub record LiesAt (s : List ℕ) (p : ℕ) : Type 0 where
  pub header : 16 ≤ length s
  pub here : p + 8 ≤ length s
  pub room : 16 + 16 * number_at 0 4 s + number_at p 4 s + number_at (p + 4) 4 s ≤ length s

-- ---- names

-- the numbers of the first n names, sorted by name: each of them once, and no name twice
pub record NamesSorted (names : List (List ℕ)) (n : ℕ) (order : List ℕ) : Type 0 where
  pub long : length order ≡ n
  pub below : (i : ℕ) → i < length order → get_or order i 0 < n
  pub rising : RisingPaths (map (λ (k : ℕ). get_or names k []) order)
  pub all : (k : ℕ) → k < n → (i : ℕ) × (i < length order) × (get_or order i 0 ≡ k)

-- a name among them is that of a record, or belongs at a place
pub record PlacesRecord (names : List (List ℕ)) (n : ℕ) (order name : List ℕ) (r : Result ℕ ℕ) : Type 0 where
  pub taken : {k : ℕ} → r ≡ Ok k → (k < n) × (name ≡ get_or names k [])
  pub free : {p : ℕ} → r ≡ Err p → PathBetween (map (λ (k : ℕ). get_or names k []) order) name p p

pub record SortsNames (s : List ℕ) (n : ℕ) (order order' : List ℕ) (r : Bool) : Type 0 where
  pub space : Spare order order'
  pub answer : r ≡ not (twice (bundle_names s))
  pub sorted : r ≡ true → NamesSorted (bundle_names s) n (take n order')

-- a bundle of n records whose numbers `order` begins with, sorted by name
pub record BundleIndexed (s : List ℕ) (n : ℕ) (order : List ℕ) : Type 0 where
  pub laid : LaidBundle s
  pub count : n ≡ number_at 0 4 s
  pub room : n ≤ length order
  pub sorted : NamesSorted (bundle_names s) n (take n order)

unfoldable pub bundle_answer : ℕ → ℕ → List ℕ → Option ℕ
unfolding sound_bundle number_at
bundle_answer least most s = if_b (sound_bundle least most s) (λ _. Some (number_at 0 4 s)) (λ _. None)

-- The answer, and the order of a sound bundle; otherwise that is working space.
pub record Indexes (s : List ℕ) (least most : ℕ) (order order' : List ℕ) (r : Option ℕ) : Type 0 where
  pub space : Spare order order'
  pub answer : r ≡ bundle_answer least most s
  pub sorted : sound_bundle least most s ≡ true → BundleIndexed s (number_at 0 4 s) order'

-- the record of a name
unfoldable pub found_record : List ℕ → List (List ℕ) → Option ℕ
unfolding among number_of
found_record p names = if_b (among p names) (λ _. Some (number_of p names)) (λ _. None)

-- ---- places

-- a place in one of n texts, or past them all
unfoldable pub record_place_of : ℕ → Spot → Place
record_place_of n r = if_b (ltb r.text n) (λ _. in_text r.text r.offset) (λ _. plain r.offset)

-- ---- a bundle of one record written

abbrev pub one_record : List ℕ → List ℕ → List BundleRecord
one_record name text = record { name = name; bytes = text } ∷ []

-- its header, and where its name and its text lie, from the lengths of these
abbrev pub head_bytes : ℕ → ℕ → List ℕ
head_bytes name text =
    in_bytes 4 1 ++ (in_bytes 4 16 ++ (in_bytes 4 32 ++ (in_bytes 4 (32 + (name + text)) ++ (in_bytes 4 0 ++ (in_bytes 4 name ++ (in_bytes 4 name ++ in_bytes 4 text))))))

-- What lies behind it stays.
pub record WrapsHead (name text : ℕ) (out out' : List ℕ) : Type 0 where
  pub long : length out' ≡ length out
  pub written : out' ≡ head_bytes name text ++ drop 32 out

-- the bundle's bytes, and behind them what was there
pub record Wraps (name text out out' : List ℕ) (r : ℕ) : Type 0 where
  pub long : length out' ≡ length out
  pub count : r ≡ length (bundled (one_record name text))
  pub written : out' ≡ bundled (one_record name text) ++ drop r out
