-- The lookup of a path: the first name of its bucket, the second, and the sorted names.
use Prim.Native.Nat.{ℕ, zero, suc, ◌+◌, ◌*◌, ◌-◌, ◌/◌, ◌%◌, ◌≤◌, ◌<◌}
use mathlib.Core.Bool.{Bool, true, false}
use mathlib.Core.List.{List}
use mathlib.Core.Logic.{◌⊎◌, inl, inr, ⊎_elim}
use mathlib.Core.Path.{◌≡◌, refl, sym, ◌∙◌, ap}
use native.Mathlib.Decide.{dec_lt}
use native.Mathlib.Nat.{not-suc-le-zero}
use native.Mathlib.Omega.{arith}
use lib.ListN.{length, get_or}
use Rattle.lists.specs.Bytes.{eq_bytes, less_bytes, eq_bytes_true, eq_bytes_false, less_ne, less_total, less_trans}
use Rattle.lists.specs.Order.{order_bytes, less_order, equal_order, greater_order, order_less, order_greater}
use Rattle.lists.specs.Tests.{split}
use Rattle.std.specs.declared.cmp.Ordering.{Ordering}
use Rattle.std.specs.declared.cmp.Ordering.TheVariants.{Less, Equal, Greater}
use Rattle.spec.specs.Reading.{number_of}
use Rattle.hold_names.specs.declared.Halved.{Halved}
use Rattle.hold_names.specs.declared.Matched.{Matched}
use Rattle.hold_names.specs.declared.Sought.{Sought}
use Rattle.hold_names.specs.Table.{heads_from, max_numbers, bucket_of, pair_base, pair_at, first_in, second_in, blocks_from, last_block, entry, size_of, StandsAt, name_at, StandsIn, Placed, HoldsNames, SoundNames, NamesFile, on_order, halvings, picked, compares_in, compares_sorted, compares_from, compares_of, max_compares, Between, Fits, MatchesName, PicksNames, Is, Halves, SeeksSorted, SeeksSecond, SeeksName}
use Rattle.spec.proofs.Numbers.{number_missing}
use Rattle.hold_names.proofs.Buckets.{bucket_small, first_stands, among_nowhere}
use Rattle.hold_names.proofs.Halving.{seven}

-- ---- a compare with one name

-- the path is another
abbrev Other : Ordering → Type 0
Other o = (o ≡ Less) ⊎ (o ≡ Greater)

other_ne : (s t : List ℕ) → Other (order_bytes s t) → t ≡ s → ⊥
other_ne s t o e =
    ⊎_elim (λ (l : order_bytes s t ≡ Less). less_ne (order_less s t l) (sym e)) (λ (l : order_bytes s t ≡ Greater). less_ne (order_greater s t l) e) o

ne_other : (s t : List ℕ) → (s ≡ t → ⊥) → Other (order_bytes s t)
ne_other s t h =
    split (less_bytes s t) (λ (p : less_bytes s t ≡ true). inl (less_order s t p))
    (λ (p : less_bytes s t ≡ false).
    split (less_bytes t s)
    (λ (q : less_bytes t s ≡ true). inr (greater_order s t q))
    (λ (q : less_bytes t s ≡ false). absurd (h (less_total s t p q))))

module _ (path : List ℕ) (files : List (List ℕ)) where
  compares_none : (more : ℕ) → compares_from path files 0 more ≡ 0
  unfolding compares_from
  compares_none more = refl

  compares_same : (s more : ℕ) → 0 < s → order_bytes path (name_at files (s - 1)) ≡ Equal → compares_from path files s more ≡ 1
  unfolding compares_from on_order
  compares_same zero more a e = absurd (not-suc-le-zero a)
  compares_same (suc k) more a e = let z : suc k - 1 ≡ k = omega arith in rw (rw z at e)

  compares_other : (s more : ℕ) → 0 < s → Other (order_bytes path (name_at files (s - 1))) → compares_from path files s more ≡ suc more
  unfolding compares_from on_order
  compares_other zero more a o = absurd (not-suc-le-zero a)
  compares_other (suc k) more a o =
      let z : suc k - 1 ≡ k = omega arith in
      ⊎_elim (λ (e : order_bytes path (name_at files (suc k - 1)) ≡ Less). rw (rw z at e)) (λ (e : order_bytes path (name_at files (suc k - 1)) ≡ Greater). rw (rw z at e)) o

  compares_one : (o : Ordering) (more : ℕ) → on_order o (λ _. more) (λ _. 0) (λ _. more) ≤ more
  unfolding on_order
  compares_one Less more = omega arith
  compares_one Equal more = omega arith
  compares_one Greater more = omega arith

  compares_few : (s more : ℕ) → compares_from path files s more ≤ suc more
  unfolding compares_from
  compares_few zero more = omega arith
  compares_few (suc k) more = omega (arith, compares_one (order_bytes path (name_at files k)) more)

-- Whatever is held, a lookup compares with 16 names at most, as long as there are no more than 128 blocks of 127 names.
pub at_most_sixteen : (path : List ℕ) (files : List (List ℕ)) (index : List ℕ) → last_block index ≤ 127 → ((j : ℕ) → j ≤ last_block index → size_of index j ≤ 127)
    → compares_of path files index ≤ max_compares
unfolding compares_of compares_sorted compares_in
at_most_sixteen path files index h g =
    let e : compares_of path files index
    ≡ compares_from path files (first_in index (bucket_of path)) (compares_from path files (second_in index (bucket_of path)) (compares_sorted path files index)) = refl in
    let s : compares_sorted path files index ≤ 7 + 7 =
    seven files (picked index (blocks_from + 128) 128) path (compares_in path files index) 7 (last_block index) h
    (λ j a. let y : compares_in path files index j ≤ 7 + 0 = seven files (picked index (blocks_from + j * 128) 1) path (λ _. 0) 0 (size_of index j) (g j a) (λ k c. omega arith) in omega (arith, y)) in
    omega (
      arith,
      e,
      compares_few path files (first_in index (bucket_of path)) (compares_from path files (second_in index (bucket_of path)) (compares_sorted path files index)),
      compares_few path files (second_in index (bucket_of path)) (compares_sorted path files index),
      s,
    )

-- One compare with the name that lies there.
pub matches_name : {names index : List ℕ} {count k : ℕ} {path name : List ℕ} {made : ℕ} {same : Bool} → NamesFile names index count k name → same ≡ eq_bytes path name
    → MatchesName names index count k path made (record { same = same; compares = made + 1 })
matches_name {path = path} f e = record { made = refl; answer = λ files h. e ∙ ap (eq_bytes path) (f.answer files h) }

-- The compare with name k told that it is the path.
met : {names index : List ℕ} {count k : ℕ} {path : List ℕ} {n : ℕ} {r : Matched} → MatchesName names index count k path n r → r.same ≡ true
    → (files : List (List ℕ)) → HoldsNames names index count files → path ≡ name_at files k
met {k = k} {path = path} t e files h = eq_bytes_true path (name_at files k) (sym (t.answer files h) ∙ e)

-- The compare with name k, after n others, told that it is another; m compares were made.
pub record Passed (names index : List ℕ) (count k : ℕ) (path : List ℕ) (n m : ℕ) : Type 0 where
  pub made : m ≡ n + 1
  pub other : (files : List (List ℕ)) → HoldsNames names index count files → Other (order_bytes path (name_at files k))

pub passed : {names index : List ℕ} {count k : ℕ} {path : List ℕ} {n : ℕ} {r : Matched} → MatchesName names index count k path n r → r.same ≡ false
    → Passed names index count k path n r.compares
passed {k = k} {path = path} t e =
    record {
      made = t.made;
      other = λ files h. ne_other path (name_at files k) (eq_bytes_false (sym (t.answer files h) ∙ e));
    }

-- ---- the sorted names

module _ (index : List ℕ) where
  lead_is : (j : ℕ) → picked index (blocks_from + 128) 128 j ≡ entry index (j + 1) 0
  lead_is j = ap (λ (y : ℕ). get_or index y 0) (omega arith)

  entry_is : (j i : ℕ) → picked index (blocks_from + j * 128) 1 i ≡ entry index j i
  entry_is j i = ap (λ (y : ℕ). get_or index y 0) (omega arith)

module _ {names index : List ℕ} {count : ℕ} (s : SoundNames names index count) where
  lead_stands : {files : List (List ℕ)} → HoldsNames names index count files → (j : ℕ) → j < last_block index → StandsAt index (j + 1) 0
  lead_stands h j a = (omega arith, omega (arith, h.search.shape.some (j + 1) (omega arith) (omega arith)))

  pub leads_picks : {last : ℕ} → last ≡ last_block index → PicksNames names index count (blocks_from + 128) 128 last
  leads_picks {last} e =
      let h = s.holds in
      record {
        few = omega (arith, e, h.search.shape.blocks);
        inside = λ i a. omega (arith, e, h.search.shape.blocks, h.room);
        below = λ i a. rw (lead_is index i) (omega (arith, h.counted, h.search.sorted.below (i + 1) 0 (lead_stands h i (omega (arith, e)))));
        rising = λ files g i j a b.
            rw (lead_is index i, lead_is index j)
            (g.search.sorted.rising (i + 1) 0 (j + 1) 0 (lead_stands g i (omega (arith, e))) (lead_stands g j (omega (arith, e))) (omega arith));
      }

  pub block_picks : {j n : ℕ} → j ≤ last_block index → n ≡ size_of index j → PicksNames names index count (blocks_from + j * 128) 1 n
  block_picks {j} {n} l e =
      let h = s.holds in
      record {
        few = omega (arith, e, h.search.shape.few j l);
        inside = λ i a. omega (arith, e, h.search.shape.few j l, h.search.shape.blocks, h.room);
        below = λ i a. rw (entry_is index j i) (omega (arith, h.counted, h.search.sorted.below j i (l, omega (arith, e))));
        rising = λ files g i k a b.
            rw (entry_is index j i, entry_is index j k)
            (g.search.sorted.rising j i j k (l, omega (arith, e)) (l, omega (arith, e)) (omega arith));
      }

  -- The first names of blocks tell the block, its names the place.
  module _ {files : List (List ℕ)} (h : HoldsNames names index count files) {path : List ℕ} {j i : ℕ} (b : j ≤ last_block index)
      (x : Between files (picked index (blocks_from + 128) 128) (last_block index) path j j)
      (y : Between files (picked index (blocks_from + j * 128) 1) (size_of index j) path i i) (w : i ≤ size_of index j) where
    abbrev name : ℕ → ℕ → List ℕ
    name k l = name_at files (entry index k l)

    small : (k : ℕ) → k ≤ last_block index → size_of index k ≤ 126
    small = h.search.shape.few

    lead_below : 0 < j → less_bytes (name j 0) path ≡ true
    lead_below a = let z : j - 1 + 1 ≡ j = omega arith in rw z at (rw (lead_is index (j - 1)) at (x.before (j - 1) (omega arith)))

    lead_above : (k : ℕ) → j < k → k ≤ last_block index → less_bytes path (name k 0) ≡ true
    lead_above k a c = let z : k - 1 + 1 ≡ k = omega arith in rw z at (rw (lead_is index (k - 1)) at (x.after (k - 1) (omega arith) (omega arith)))

    first_stands_in : (k : ℕ) → 0 < k → k ≤ last_block index → StandsAt index k 0
    first_stands_in k a c = let z : k - 1 + 1 ≡ k = omega arith in rw z at (lead_stands h (k - 1) (omega arith))

    before_here : (l : ℕ) → l < i → less_bytes (name j l) path ≡ true
    before_here l a = rw (entry_is index j l) at (y.before l a)

    after_here : (l : ℕ) → i ≤ l → l < size_of index j → less_bytes path (name j l) ≡ true
    after_here l a c = rw (entry_is index j l) at (y.after l a c)

    pub fits_there : Fits files index path j i
    fits_there =
        record {
          before = λ k l s a. elim (dec_lt k j) [
            | yes d ↦
                less_trans (name k l) (name j 0) path
                (h.search.sorted.rising k l j 0 s (first_stands_in j (omega arith) b) (omega (arith, s.1, small k s.0)))
                (lead_below (omega arith))
            | no d ↦ (
                let z : k ≡ j = omega (arith, w, small j b) in
                rw z (before_here l (omega arith))
                )
          ];
          after = λ k l s a. elim (dec_lt j k) [
            | yes d ↦ elim (dec_lt 0 l) [
              | yes e ↦
                  less_trans path (name k 0) (name k l) (lead_above k d s.0)
                  (h.search.sorted.rising k 0 k l (first_stands_in k (omega arith) s.0) s (omega arith))
              | no e ↦ (let z : l ≡ 0 = omega arith in rw z (lead_above k d s.0))
            ]
            | no d ↦ (
                let z : k ≡ j = omega (arith, s.1, small k s.0) in
                rw z (after_here l (omega arith) (rw z at s.1))
                )
          ];
        }

-- A block has its numbers within the room.
pub block_inside : {names index : List ℕ} {count : ℕ} {path : List ℕ} {n : ℕ} → SoundNames names index count → {last : ℕ} → last ≡ last_block index
    → {b : Halved} → Halves names index count (blocks_from + 128) 128 last path n b → (b.place ≤ last_block index) × (blocks_from + b.place * 128 + 127 < max_numbers) × (max_numbers ≤ length index)
block_inside s e x = (omega (arith, e, x.within), omega (arith, e, x.within, s.holds.search.shape.blocks), s.holds.room)

module _ {names index : List ℕ} {count : ℕ} {path : List ℕ} {n : ℕ} where
  -- the path is the first name of a block
  pub sorted_lead : {last : ℕ} → last ≡ last_block index → {b : Halved} → Halves names index count (blocks_from + 128) 128 last path n b → b.number < count
      → SeeksSorted names index count path n (record { number = b.number; compares = b.compares; block = 0; place = 0 })
  unfolding compares_sorted
  sorted_lead {last} e {b} x l =
      let g : Halves names index count (blocks_from + 128) 128 (last_block index) path n b = rw e at x in
      let pick = picked index (blocks_from + 128) 128 in
      record {
        block = omega arith;
        within = omega arith;
        compares = λ files h.
            ⊎_elim
            (λ (f : Is files count path b.number × ((more : ℕ → ℕ) → b.compares ≡ n + halvings (last_block index) files pick path more 0 (last_block index))). f.1 (compares_in path files index))
            (λ (f : (b.number ≡ count) × Between files pick (last_block index) path b.place b.place × ((more : ℕ → ℕ) → b.compares + more b.place ≡ n + halvings (last_block index) files pick path more 0 (last_block index))).
            absurd (omega (arith, f.0)))
            (g.answer files h);
        answer = λ files h.
            ⊎_elim
            (λ (f : Is files count path b.number × ((more : ℕ → ℕ) → b.compares ≡ n + halvings (last_block index) files pick path more 0 (last_block index))). inl f.0)
            (λ (f : (b.number ≡ count) × Between files pick (last_block index) path b.place b.place × ((more : ℕ → ℕ) → b.compares + more b.place ≡ n + halvings (last_block index) files pick path more 0 (last_block index))).
            absurd (omega (arith, f.0)))
            (g.answer files h);
      }

  -- it is looked for in a block
  module _ {last : ℕ} (e : last ≡ last_block index) {b : Halved} (x : Halves names index count (blocks_from + 128) 128 last path n b) (l : count ≤ b.number)
      {size : ℕ} (f : size ≡ size_of index b.place) {r : Halved} (y : Halves names index count (blocks_from + b.place * 128) 1 size path b.compares r) where
    abbrev leads : ℕ → ℕ
    leads = picked index (blocks_from + 128) 128

    abbrev those : ℕ → ℕ
    those = picked index (blocks_from + b.place * 128) 1

    above : Halves names index count (blocks_from + 128) 128 (last_block index) path n b
    above = rw e at x

    inner : Halves names index count (blocks_from + b.place * 128) 1 (size_of index b.place) path b.compares r
    inner = rw f at y

    told_block : (files : List (List ℕ)) → HoldsNames names index count files
        → Between files leads (last_block index) path b.place b.place × (b.compares + compares_in path files index b.place ≡ n + compares_sorted path files index)
    unfolding compares_sorted
    told_block files h =
        ⊎_elim (λ (g : Is files count path b.number × ((more : ℕ → ℕ) → b.compares ≡ n + halvings (last_block index) files leads path more 0 (last_block index))). absurd (omega (arith, g.0.0)))
        (λ (g : (b.number ≡ count) × Between files leads (last_block index) path b.place b.place × ((more : ℕ → ℕ) → b.compares + more b.place ≡ n + halvings (last_block index) files leads path more 0 (last_block index))).
        (g.1, g.2 (compares_in path files index)))
        (above.answer files h)

    counted_block : (files : List (List ℕ)) → HoldsNames names index count files → r.compares ≡ b.compares + compares_in path files index b.place
    unfolding compares_in
    counted_block files h =
        ⊎_elim (λ (g : Is files count path r.number × ((more : ℕ → ℕ) → r.compares ≡ b.compares + halvings (size_of index b.place) files those path more 0 (size_of index b.place))). g.1 (λ _. 0))
        (λ (g : (r.number ≡ count) × Between files those (size_of index b.place) path r.place r.place
        × ((more : ℕ → ℕ) → r.compares + more r.place ≡ b.compares + halvings (size_of index b.place) files those path more 0 (size_of index b.place))).
        omega (arith, g.2 (λ _. 0)))
        (inner.answer files h)

    pub sorted_on : SoundNames names index count → SeeksSorted names index count path n (record { number = r.number; compares = r.compares; block = b.place; place = r.place })
    sorted_on s =
        record {
          block = above.within;
          within = inner.within;
          compares = λ files h. omega (arith, counted_block files h, (told_block files h).1);
          answer = λ files h.
              ⊎_elim (λ (g : Is files count path r.number × ((more : ℕ → ℕ) → r.compares ≡ b.compares + halvings (size_of index b.place) files those path more 0 (size_of index b.place))). inl g.0)
              (λ (g : (r.number ≡ count) × Between files those (size_of index b.place) path r.place r.place
              × ((more : ℕ → ℕ) → r.compares + more r.place ≡ b.compares + halvings (size_of index b.place) files those path more 0 (size_of index b.place))).
              inr (g.0, fits_there s h above.within (told_block files h).0 g.1 inner.within))
              (inner.answer files h);
        }

-- ---- the second name of a bucket, then the sorted ones

module _ {names index : List ℕ} {count : ℕ} {path : List ℕ} {second n : ℕ} where
  pub second_none : second ≡ 0 → SeeksSecond names index count path second n (record { number = count; compares = n; block = 0; place = 0 })
  second_none e =
      record {
        block = omega arith;
        within = omega arith;
        compares = λ files h.
            rw (e, compares_none path files (compares_sorted path files index)) (omega arith);
        answer = λ files h. inr (refl, (λ k q. absurd (omega (arith, e, q))), (λ l. absurd (omega (arith, e, l))));
      }

  module _ (a : 0 < second) (b : second ≤ count) where
    pub second_same : {r : Matched} → MatchesName names index count (second - 1) path n r → r.same ≡ true
        → SeeksSecond names index count path second n (record { number = second - 1; compares = r.compares; block = 0; place = 0 })
    second_same {r} t e =
        record {
          block = omega arith;
          within = omega arith;
          compares = λ files h.
              omega
              (arith, t.made, compares_same path files second (compares_sorted path files index) a (equal_order path (name_at files (second - 1)) (met t e files h)));
          answer = λ files h. inl (omega arith, sym (met t e files h));
        }

    pub second_on : {m : ℕ} → Passed names index count (second - 1) path n m → {r : Sought} → SeeksSorted names index count path m r → SeeksSecond names index count path second n r
    second_on {m} p {r} h =
        record {
          block = h.block;
          within = h.within;
          compares = λ files g.
              omega (arith, p.made, h.compares files g, compares_other path files second (compares_sorted path files index) a (p.other files g));
          answer = λ files g.
              ⊎_elim (λ (f : Is files count path r.number). inl f)
              (λ (f : (r.number ≡ count) × Fits files index path r.block r.place).
              inr (f.0, (λ k q. let z : second - 1 ≡ k = omega (arith, q) in rw z at (other_ne path (name_at files (second - 1)) (p.other files g))), (λ l. f.1)))
              (h.answer files g);
        }

-- ---- the whole lookup

-- A name that is the path has the path's number.
stands : {names index : List ℕ} {count : ℕ} {files : List (List ℕ)} → HoldsNames names index count files → {path : List ℕ} {k : ℕ} → k < count → name_at files k ≡ path → k ≡ number_of path files
stands {files = files} h {path} {k} l e =
    sym (first_stands path files k (omega (arith, h.counted)) e (λ i d f. h.once i k d l (f ∙ sym e))).1

-- The path is no name if it is none of those where it is looked for.
nowhere_held : {names index : List ℕ} {count : ℕ} {files : List (List ℕ)} → HoldsNames names index count files → (path : List ℕ)
    → ((k : ℕ) → Placed index (bucket_of path) k → name_at files k ≡ path → ⊥) → count ≡ number_of path files
nowhere_held {index = index} {files = files} h path g =
    h.counted
    ∙ sym (number_missing path files
    (among_nowhere path files (λ k l e. g k (rw (ap bucket_of e) at (h.search.placed k (omega (arith, h.counted)))) e)))

-- The path is none of the sorted names.
not_sorted : {files : List (List ℕ)} {index path : List ℕ} {j i : ℕ} → Fits files index path j i → (n : ℕ) → StandsIn n index → name_at files n ≡ path → ⊥
not_sorted {files} {index} {path} {j} {i} z n s e =
    let (k, l, a, q) = s in
    let w : name_at files (entry index k l) ≡ path = ap (name_at files) q ∙ e in
    elim (dec_lt (k * 128 + l) (j * 128 + i)) [
      | yes d ↦ less_ne (z.before k l a d) w
      | no d ↦ less_ne (z.after k l a (omega arith)) (sym w)
    ]

module _ {names index : List ℕ} {count : ℕ} (path : List ℕ) (sound : SoundNames names index count) {b pair : ℕ} (e : b ≡ bucket_of path) (q : pair ≡ get_or index (heads_from + b) 0) where
  abbrev home : ℕ
  home = bucket_of path

  pair_is : pair ≡ pair_at index home
  pair_is = rw e at q

  abbrev more : List (List ℕ) → ℕ
  more files = compares_sorted path files index

  pub first_low : pair % pair_base ≤ count
  first_low = omega (arith, pair_is, sound.holds.search.first home (bucket_small path))

  pub second_low : pair / pair_base ≤ count
  second_low = omega (arith, pair_is, sound.holds.search.second home (bucket_small path))

  pub seek_none : pair % pair_base ≡ 0 → SeeksName names index count path (record { bucket = b; number = count; compares = 0; block = 0; place = 0 })
  unfolding compares_of
  seek_none z =
      let f : first_in index home ≡ 0 = omega (arith, pair_is) in
      let none : (files : List (List ℕ)) → HoldsNames names index count files → 0 < second_in index home → ⊥ =
      λ files h l. omega (arith, f, h.search.both home (bucket_small path) l) in
      record {
        home = e;
        few = omega arith;
        block = omega arith;
        within = omega arith;
        number = λ files h. nowhere_held h path
            (λ k p n. ⊎_elim (λ (c : first_in index home ≡ suc k). omega (arith, f, c))
            (⊎_elim (λ (c : second_in index home ≡ suc k). none files h (omega (arith, c))) (λ (c : (0 < second_in index home) × StandsIn k index). none files h c.0)) p);
        compares = λ files h. rw f (sym (compares_none path files (compares_from path files (second_in index home) (more files))));
        place = λ files h g l. absurd (none files h l);
      }

  module _ (a : 0 < pair % pair_base) where
    first_is_law : first_in index home ≡ pair % pair_base
    first_is_law = ap (λ (y : ℕ). y % pair_base) (sym pair_is)

    second_is : second_in index home ≡ pair / pair_base
    second_is = ap (λ (y : ℕ). y / pair_base) (sym pair_is)

    pub seek_same : {r : Matched} → MatchesName names index count (pair % pair_base - 1) path 0 r → r.same ≡ true
        → SeeksName names index count path (record { bucket = b; number = pair % pair_base - 1; compares = r.compares; block = 0; place = 0 })
    unfolding compares_of
    seek_same t d =
        let k = pair % pair_base - 1 in
        let number : (files : List (List ℕ)) → HoldsNames names index count files → k ≡ number_of path files =
        λ files h. stands h (omega (arith, first_low)) (sym (met t d files h)) in
        record {
          home = e;
          few = omega (arith, t.made);
          block = omega arith;
          within = omega arith;
          number = number;
          compares = λ files h.
              rw first_is_law
              (t.made ∙ omega arith ∙ sym (compares_same path files (pair % pair_base) (compares_from path files (second_in index home) (more files)) a (equal_order path (name_at files k) (met t d files h))));
          place = λ files h g l.
              absurd (omega (arith, number files h, number_missing path files g, h.counted, first_low));
        }

    module _ {m : ℕ} (p : Passed names index count (pair % pair_base - 1) path 0 m) {r : Sought} (s : SeeksSecond names index count path (pair / pair_base) m r) where
      counted : (files : List (List ℕ)) → HoldsNames names index count files → r.compares ≡ compares_of path files index
      unfolding compares_of
      counted files h =
          rw (first_is_law, second_is)
          (s.compares files h ∙ ap (λ (y : ℕ). y + compares_from path files (pair / pair_base) (more files)) p.made
          ∙ omega arith ∙ sym (compares_other path files (pair % pair_base) (compares_from path files (pair / pair_base) (more files)) a (p.other files h)))

      absent : (files : List (List ℕ)) → HoldsNames names index count files → ((k : ℕ) → pair / pair_base ≡ suc k → name_at files k ≡ path → ⊥)
          → (0 < pair / pair_base → Fits files index path r.block r.place) → count ≡ number_of path files
      absent files h g z =
          nowhere_held h path
          (λ k w n. ⊎_elim
          (λ (c : first_in index home ≡ suc k). let y : pair % pair_base - 1 ≡ k = omega (arith, c, first_is_law) in other_ne path (name_at files (pair % pair_base - 1)) (p.other files h) (rw y n))
          (⊎_elim (λ (c : second_in index home ≡ suc k). g k (sym second_is ∙ c) n)
          (λ (c : (0 < second_in index home) × StandsIn k index). not_sorted (z (rw second_is at c.0)) k c.1 n)) w)

      pub seek_on : SeeksName names index count path (record { bucket = b; number = r.number; compares = r.compares; block = r.block; place = r.place })
      seek_on =
          record {
            home = e;
            few =
                omega
                (arith, counted sound.files sound.holds, at_most_sixteen path sound.files index (omega (arith, sound.holds.search.shape.blocks)) (λ j a. omega (arith, sound.holds.search.shape.few j a)));
            block = s.block;
            within = s.within;
            number = λ files h.
                ⊎_elim (λ (f : Is files count path r.number). stands h f.0 f.1)
                (λ (f : (r.number ≡ count) × ((k : ℕ) → pair / pair_base ≡ suc k → name_at files k ≡ path → ⊥) × (0 < pair / pair_base → Fits files index path r.block r.place)).
                f.0 ∙ absent files h f.1 f.2) (s.answer files h);
            compares = counted;
            place = λ files h g l.
                ⊎_elim (λ (f : Is files count path r.number). absurd (omega (arith, stands h f.0 f.1, number_missing path files g, h.counted, f.0)))
                (λ (f : (r.number ≡ count) × ((k : ℕ) → pair / pair_base ≡ suc k → name_at files k ≡ path → ⊥) × (0 < pair / pair_base → Fits files index path r.block r.place)).
                f.2 (rw second_is at l)) (s.answer files h);
          }
