-- What a table of names holds, and what its functions answer. Nothing but this file says how names lie in the two buffers.
use Rattle.std.specs.Prelude.{ℕ, zero, suc, ◌+◌, ◌*◌, ◌-◌, ◌/◌, ◌%◌, ◌^◌, ◌≤◌, ◌<◌, min, Bool, true, false, ◌&&◌, List, [], ◌∷◌, ◌++◌, ◌⊎◌, ◌≡◌, ltb, leb, length, take, drop, get_or, set, Option, Some, None}
use Rattle.lists.specs.Tests.{if_b}
use Rattle.lists.specs.Bytes.{eq_bytes, less_bytes}
use Rattle.lists.specs.Order.{order_bytes}
use Rattle.std.specs.declared.cmp.Ordering.{Ordering}
use Rattle.std.specs.declared.cmp.Ordering.TheVariants.{Less, Equal, Greater}
use Rattle.spec.specs.Limits.{max_files}
use Rattle.spec.specs.Basics.{among, concat}
use Rattle.spec.specs.Reading.{number_of}
use Rattle.hold_names.specs.declared.Added.{Added}
use Rattle.hold_names.specs.declared.Added.TheVariants.{Old, New, Full}
use Rattle.hold_names.specs.declared.Compared.{Compared}
use Rattle.hold_names.specs.declared.Compared.TheVariants.{Before, Same, Behind}
use Rattle.hold_names.specs.declared.Matched.{Matched}
use Rattle.hold_names.specs.declared.Halved.{Halved}
use Rattle.hold_names.specs.declared.Lookup.{Lookup}
use Rattle.hold_names.specs.declared.Sought.{Sought}

-- ---- what is held

-- the ends of names that lie end to end from a place on
unfoldable pub name_ends_from : ℕ → List (List ℕ) → List ℕ
name_ends_from at [] = []
name_ends_from at (f ∷ l) = (at + length f) ∷ name_ends_from (at + length f) l

-- The numbers of a table beside its bytes, in three parts: an end for each name; a number for each bucket; and blocks of the numbers of those names that
-- found no room in their bucket, sorted by name. Behind the buckets stands the number of the last block.
abbrev pub heads_from : ℕ
heads_from = max_files

abbrev pub buckets : ℕ
buckets = max_files - 1

abbrev pub last_at : ℕ
last_at = heads_from + buckets

abbrev pub blocks_from : ℕ
blocks_from = heads_from + max_files

-- each block but a lone one has 63 names or more
abbrev pub max_blocks : ℕ
max_blocks = max_files / 63

abbrev pub max_numbers : ℕ
max_numbers = blocks_from + max_blocks * 128

-- the bucket of a name, by its bytes
unfoldable pub bucket_from : ℕ → List ℕ → ℕ
bucket_from h [] = h
bucket_from h (b ∷ s) = bucket_from ((h * 117 + b) % max_files) s

-- The sum h of the bytes before place i is r with those before place j.
pub record Summed (s : List ℕ) (h i r j : ℕ) : Type 0 where
  pub small : r < max_files
  pub rest : bucket_from h (drop i s) ≡ bucket_from r (drop j s)

unfoldable pub bucket_of : List ℕ → ℕ
unfolding bucket_from
bucket_of p = min (bucket_from 0 p) (buckets - 1)

-- A bucket has room for two names, each by its number and one more, or 0.
abbrev pub pair_base : ℕ
pair_base = 65536

abbrev pub pair_at : List ℕ → ℕ → ℕ
pair_at index b = get_or index (heads_from + b) 0

abbrev pub first_in : List ℕ → ℕ → ℕ
first_in index b = pair_at index b % pair_base

abbrev pub second_in : List ℕ → ℕ → ℕ
second_in index b = pair_at index b / pair_base

-- a block's names, and behind them how many it has
abbrev pub last_block : List ℕ → ℕ
last_block index = get_or index last_at 0

abbrev pub entry : List ℕ → ℕ → ℕ → ℕ
entry index j i = get_or index (blocks_from + j * 128 + i) 0

abbrev pub size_of : List ℕ → ℕ → ℕ
size_of index j = entry index j 127

-- a name stands in block j at place i
abbrev pub StandsAt : List ℕ → ℕ → ℕ → Type 0
StandsAt index j i = (j ≤ last_block index) × (i < size_of index j)

-- the names in all blocks up to this one
unfoldable pub held_to : List ℕ → ℕ → ℕ
held_to index zero = size_of index 0
held_to index (suc j) = held_to index j + size_of index (suc j)

-- Seven halvings tell the names of a block apart, and the blocks.
pub record Shape (index : List ℕ) (count : ℕ) : Type 0 where
  pub blocks : last_block index < max_blocks
  pub few : (j : ℕ) → j ≤ last_block index → size_of index j ≤ 126
  pub some : (j : ℕ) → j ≤ last_block index → 0 < last_block index → 63 ≤ size_of index j
  pub held : held_to index (last_block index) ≤ count

abbrev pub name_at : List (List ℕ) → ℕ → List ℕ
name_at files k = get_or files k []

-- the names of all blocks, one block after another
pub record Sorted (files : List (List ℕ)) (index : List ℕ) : Type 0 where
  pub below : (j i : ℕ) → StandsAt index j i → entry index j i < length files
  pub rising : (j i k l : ℕ) → StandsAt index j i → StandsAt index k l → j * 128 + i < k * 128 + l
      → less_bytes (name_at files (entry index j i)) (name_at files (entry index k l)) ≡ true

abbrev pub StandsIn : ℕ → List ℕ → Type 0
StandsIn n index = (j : ℕ) × (i : ℕ) × StandsAt index j i × (entry index j i ≡ n)

-- name k is one of the two of bucket b, or that one is full and k is sorted among the others
abbrev pub Placed : List ℕ → ℕ → ℕ → Type 0
Placed index b k = (first_in index b ≡ suc k) ⊎ ((second_in index b ≡ suc k) ⊎ ((0 < second_in index b) × StandsIn k index))

-- where each of the names is looked for
pub record Searched (index : List ℕ) (count : ℕ) (files : List (List ℕ)) : Type 0 where
  pub shape : Shape index count
  pub sorted : Sorted files index
  pub first : (b : ℕ) → b < buckets → first_in index b ≤ count
  pub second : (b : ℕ) → b < buckets → second_in index b ≤ count
  pub both : (b : ℕ) → b < buckets → 0 < second_in index b → 0 < first_in index b
  pub placed : (k : ℕ) → k < count → Placed index (bucket_of (name_at files k)) k

pub record HoldsNames (names index : List ℕ) (count : ℕ) (files : List (List ℕ)) : Type 0 where
  pub counted : count ≡ length files
  pub few : count ≤ max_files
  pub room : max_numbers ≤ length index
  pub small : length names < 2 ^ 32
  pub within : length (concat files) ≤ length names
  pub bytes : take (length (concat files)) names ≡ concat files
  pub column : take count index ≡ name_ends_from 0 files
  -- no name is there twice
  pub once : (i j : ℕ) → i < j → j < count → get_or files i [] ≡ get_or files j [] → ⊥
  pub search : Searched index count files

-- the buffers hold some table
pub record SoundNames (names index : List ℕ) (count : ℕ) : Type 0 where
  pub files : List (List ℕ)
  pub holds : HoldsNames names index count files

-- ---- the answers, by the names held

unfoldable pub found : List ℕ → List (List ℕ) → Option ℕ
found p files = if_b (among p files) (λ _. Some (number_of p files)) (λ _. None)

-- is there room for one more, with so many bytes
unfoldable pub fits : ℕ → List ℕ → List (List ℕ) → Bool
fits bytes p files = ltb (length files) max_files && leb (length (concat files) + length p) bytes

unfoldable pub added : ℕ → List ℕ → List (List ℕ) → Added
unfolding fits
added bytes p files =
    if_b (among p files) (λ _. Old (number_of p files)) λ _. if_b (fits bytes p files) (λ _. New (length files)) (λ _. Full)

-- the names and their count after an answer
unfoldable pub files_after : Added → List ℕ → List (List ℕ) → List (List ℕ)
files_after (Old k) p files = files
files_after (New k) p files = files ++ (p ∷ [])
files_after Full p files = files

unfoldable pub count_after : Added → ℕ → ℕ
count_after (Old k) n = n
count_after (New k) n = n + 1
count_after Full n = n

pub record FindsName (names index : List ℕ) (count : ℕ) (path : List ℕ) (r : Option ℕ) : Type 0 where
  pub answer : (files : List (List ℕ)) → HoldsNames names index count files → r ≡ found path files

pub record AddsName (names index : List ℕ) (count : ℕ) (path names' index' : List ℕ) (r : Added) : Type 0 where
  pub answer : (files : List (List ℕ)) → HoldsNames names index count files → r ≡ added (length names) path files
  pub after : (files : List (List ℕ)) → HoldsNames names index count files → HoldsNames names' index' (count_after r count) (files_after r path files)

pub record NamesFile (names index : List ℕ) (count k : ℕ) (r : List ℕ) : Type 0 where
  pub answer : (files : List (List ℕ)) → HoldsNames names index count files → r ≡ get_or files k []

-- where name k begins, by the column of ends
unfoldable pub name_start : List ℕ → ℕ → ℕ
name_start index zero = 0
name_start index (suc k) = get_or index k 0

-- ---- the search, and with how many names it compares the path

-- what a compare with one name tells, with the number of compares made so far
unfoldable pub compared_of : ℕ → Ordering → Compared
compared_of n Less = Before n
compared_of n Equal = Same n
compared_of n Greater = Behind n

unfoldable pub on_order : Ordering → (Unit {0} → ℕ) → (Unit {0} → ℕ) → (Unit {0} → ℕ) → ℕ
on_order Less f g h = f tt
on_order Equal f g h = g tt
on_order Greater f g h = h tt

-- "one lookup is to compare the path with at most 16 names, shown by a count": halving what is sorted between two places compares with the one in the
-- middle, and goes on in front of it or behind it where that is another. At the end those compares follow that belong to the place. The first number is more
-- than it goes on.
unfoldable pub halvings : ℕ → List (List ℕ) → (ℕ → ℕ) → List ℕ → (ℕ → ℕ) → ℕ → ℕ → ℕ
unfolding on_order
halvings zero files pick path more low high = more low
halvings (suc n) files pick path more low high =
    let mid = low + (high - low) / 2 in
    if_b (ltb low high)
    (λ _. suc
    (on_order (order_bytes path (name_at files (pick mid))) (λ _. halvings n files pick path more low mid) (λ _. 0)
    (λ _. halvings n files pick path more (mid + 1) high)))
    (λ _. more low)

-- numbers from one place on, each so many places behind the one before
abbrev pub picked : List ℕ → ℕ → ℕ → ℕ → ℕ
picked index from by i = get_or index (from + i * by) 0

-- the first names of all blocks but the first block, then the names of a block
unfoldable pub compares_in : List ℕ → List (List ℕ) → List ℕ → ℕ → ℕ
unfolding halvings
compares_in path files index j =
    let n = size_of index j in halvings n files (picked index (blocks_from + j * 128) 1) path (λ _. 0) 0 n

unfoldable pub compares_sorted : List ℕ → List (List ℕ) → List ℕ → ℕ
unfolding compares_in halvings
compares_sorted path files index =
    let n = last_block index in halvings n files (picked index (blocks_from + 128) 128) path (compares_in path files index) 0 n

-- a compare with one name of a bucket, where it has that one; if it is another, those that follow
unfoldable pub compares_from : List ℕ → List (List ℕ) → ℕ → ℕ → ℕ
unfolding on_order
compares_from path files zero more = 0
compares_from path files (suc k) more = suc (on_order (order_bytes path (name_at files k)) (λ _. more) (λ _. 0) (λ _. more))

-- the two of its bucket, then the sorted ones
unfoldable pub compares_of : List ℕ → List (List ℕ) → List ℕ → ℕ
unfolding compares_from compares_sorted bucket_of
compares_of path files index =
    let b = bucket_of path in
    compares_from path files (first_in index b) (compares_from path files (second_in index b) (compares_sorted path files index))

abbrev pub max_compares : ℕ
max_compares = 16

-- of so many sorted names, those before place `low` are less than the path, those from `high` on are greater
pub record Between (files : List (List ℕ)) (pick : ℕ → ℕ) (many : ℕ) (path : List ℕ) (low high : ℕ) : Type 0 where
  pub before : (i : ℕ) → i < low → less_bytes (name_at files (pick i)) path ≡ true
  pub after : (i : ℕ) → high ≤ i → i < many → less_bytes path (name_at files (pick i)) ≡ true

-- the same of all blocks: a new path belongs to block j, at place i
pub record Fits (files : List (List ℕ)) (index path : List ℕ) (j i : ℕ) : Type 0 where
  pub before : (k l : ℕ) → StandsAt index k l → k * 128 + l < j * 128 + i → less_bytes (name_at files (entry index k l)) path ≡ true
  pub after : (k l : ℕ) → StandsAt index k l → j * 128 + i ≤ k * 128 + l → less_bytes path (name_at files (entry index k l)) ≡ true

-- one compare of the path with name k, after n others
pub record ComparesName (names index : List ℕ) (count k : ℕ) (path : List ℕ) (n : ℕ) (r : Compared) : Type 0 where
  pub answer : (files : List (List ℕ)) → HoldsNames names index count files → r ≡ compared_of (n + 1) (order_bytes path (name_at files k))

-- the same, where it is told only whether they are the same
pub record MatchesName (names index : List ℕ) (count k : ℕ) (path : List ℕ) (n : ℕ) (r : Matched) : Type 0 where
  pub made : r.compares ≡ n + 1
  pub answer : (files : List (List ℕ)) → HoldsNames names index count files → r.same ≡ eq_bytes path (name_at files k)

-- What halving looks at: numbers of names, sorted.
pub record PicksNames (names index : List ℕ) (count from by many : ℕ) : Type 0 where
  pub few : many ≤ 127
  pub inside : (i : ℕ) → i < many → from + i * by < length index
  pub below : (i : ℕ) → i < many → picked index from by i < count
  pub rising : (files : List (List ℕ)) → HoldsNames names index count files → (i j : ℕ) → i < j → j < many
      → less_bytes (name_at files (picked index from by i)) (name_at files (picked index from by j)) ≡ true

-- the path is name k
abbrev pub Is : List (List ℕ) → ℕ → List ℕ → ℕ → Type 0
Is files count path k = (k < count) × (name_at files k ≡ path)

-- Halving, after n compares: the path has this number, or none of the names is the path and its place among them is this one.
pub record Halves (names index : List ℕ) (count from by many : ℕ) (path : List ℕ) (n : ℕ) (r : Halved) : Type 0 where
  pub within : r.place ≤ many
  pub few : r.compares ≤ n + 7
  pub answer : (files : List (List ℕ)) → HoldsNames names index count files
      → (Is files count path r.number × ((more : ℕ → ℕ) → r.compares ≡ n + halvings many files (picked index from by) path more 0 many))
      ⊎ ((r.number ≡ count) × Between files (picked index from by) many path r.place r.place
      × ((more : ℕ → ℕ) → r.compares + more r.place ≡ n + halvings many files (picked index from by) path more 0 many))

-- The same of all blocks.
pub record SeeksSorted (names index : List ℕ) (count : ℕ) (path : List ℕ) (n : ℕ) (r : Sought) : Type 0 where
  pub block : r.block ≤ last_block index
  pub within : r.place ≤ size_of index r.block
  pub compares : (files : List (List ℕ)) → HoldsNames names index count files → r.compares ≡ n + compares_sorted path files index
  pub answer : (files : List (List ℕ)) → HoldsNames names index count files
      → Is files count path r.number ⊎ ((r.number ≡ count) × Fits files index path r.block r.place)

-- The same of the second name of a bucket, which is s less one, and then of the sorted ones.
pub record SeeksSecond (names index : List ℕ) (count : ℕ) (path : List ℕ) (s n : ℕ) (r : Sought) : Type 0 where
  pub block : r.block ≤ last_block index
  pub within : r.place ≤ size_of index r.block
  pub compares : (files : List (List ℕ)) → HoldsNames names index count files
      → r.compares ≡ n + compares_from path files s (compares_sorted path files index)
  pub answer : (files : List (List ℕ)) → HoldsNames names index count files
      → Is files count path r.number
      ⊎ ((r.number ≡ count) × ((k : ℕ) → s ≡ suc k → name_at files k ≡ path → ⊥) × (0 < s → Fits files index path r.block r.place))

-- A lookup: the path's bucket; its number, which is the count of names where it is not there, and with how many names it was compared.
pub record SeeksName (names index : List ℕ) (count : ℕ) (path : List ℕ) (r : Lookup) : Type 0 where
  pub home : r.bucket ≡ bucket_of path
  pub few : r.compares ≤ max_compares
  pub block : r.block ≤ last_block index
  pub within : r.place ≤ size_of index r.block
  pub number : (files : List (List ℕ)) → HoldsNames names index count files → r.number ≡ number_of path files
  pub compares : (files : List (List ℕ)) → HoldsNames names index count files → r.compares ≡ compares_of path files index
  pub place : (files : List (List ℕ)) → HoldsNames names index count files → among path files ≡ false → 0 < second_in index (bucket_of path)
      → Fits files index path r.block r.place

-- ---- a name more

-- the numbers from one place up to another stand so many places higher
pub record Lifted (l : List ℕ) (from to by : ℕ) (l' : List ℕ) : Type 0 where
  pub long : length l' ≡ length l
  pub moved : (k : ℕ) → from ≤ k → k < to → get_or l' (k + by) 0 ≡ get_or l k 0
  pub below : (k : ℕ) → k < from + by → get_or l' k 0 ≡ get_or l k 0
  pub above : (k : ℕ) → to + by ≤ k → get_or l' k 0 ≡ get_or l k 0

-- the numbers from one place up to another stand one place higher; what lies behind them, up to a third place, may have moved
pub record Roomed (l : List ℕ) (from to end : ℕ) (l' : List ℕ) : Type 0 where
  pub long : length l' ≡ length l
  pub moved : (k : ℕ) → from ≤ k → k < to → get_or l' (k + 1) 0 ≡ get_or l k 0
  pub below : (k : ℕ) → k ≤ from → get_or l' k 0 ≡ get_or l k 0
  pub above : (k : ℕ) → end ≤ k → get_or l' k 0 ≡ get_or l k 0

-- a number more in block j, at place i
pub record PutIn (index : List ℕ) (n j i : ℕ) (index' : List ℕ) : Type 0 where
  pub long : length index' ≡ length index
  pub front : (q : ℕ) → q < blocks_from → get_or index' q 0 ≡ get_or index q 0
  pub others : (k l : ℕ) → (k ≡ j → ⊥) → l < 128 → entry index' k l ≡ entry index k l
  pub before : (l : ℕ) → l < i → entry index' j l ≡ entry index j l
  pub here : entry index' j i ≡ n
  pub behind : (l : ℕ) → i ≤ l → l < size_of index j → entry index' j (l + 1) ≡ entry index j l
  pub size : size_of index' j ≡ size_of index j + 1

-- block j of 127 names is two now
pub record Parted (index : List ℕ) (j : ℕ) (index' : List ℕ) : Type 0 where
  pub long : length index' ≡ length index
  pub front : (q : ℕ) → q < last_at → get_or index' q 0 ≡ get_or index q 0
  pub last : last_block index' ≡ last_block index + 1
  pub before : (k l : ℕ) → k < j → l < 128 → entry index' k l ≡ entry index k l
  pub lower : (l : ℕ) → l < 64 → entry index' j l ≡ entry index j l
  pub lowers : size_of index' j ≡ 64
  pub upper : (l : ℕ) → l < 63 → entry index' (j + 1) l ≡ entry index j (64 + l)
  pub uppers : size_of index' (j + 1) ≡ 63
  pub after : (k l : ℕ) → j < k → k ≤ last_block index → l < 128 → entry index' (k + 1) l ≡ entry index k l

-- one more among the sorted ones, in block j at place i; a block that is full then is parted
pub record Spared (index : List ℕ) (n j i : ℕ) (index' : List ℕ) : Type 0 where
  pub middle : List ℕ
  pub put : PutIn index n j i middle
  pub room : (size_of index j ≡ 126 → ⊥) → index' ≡ middle
  pub full : size_of index j ≡ 126 → Parted middle j index'

-- the numbers of a name more: its end, and its bucket, or its place among the sorted ones where that is full
pub record Entered (index : List ℕ) (count b to j i : ℕ) (index' : List ℕ) : Type 0 where
  pub first : pair_at index b ≡ 0 → index' ≡ set (set index count to) (heads_from + b) (count + 1)
  pub second : 0 < pair_at index b → pair_at index b < pair_base → index' ≡ set (set index count to) (heads_from + b) (pair_at index b + (count + 1) * pair_base)
  pub spare : pair_base ≤ pair_at index b → Spared (set index count to) count j i index'
