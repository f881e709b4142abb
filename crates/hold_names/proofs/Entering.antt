-- Where each name is looked for, with no name and with a name more: as the first or the second of its bucket, or sorted among the others.
use Prim.Native.Nat.{ℕ, suc, ◌+◌, ◌*◌, ◌/◌, ◌%◌, ◌≤◌, ◌<◌}
use mathlib.Core.List.{List, [], ◌∷◌, ◌++◌}
use mathlib.Core.Logic.{inl, inr, ⊎_elim}
use mathlib.Core.Path.{◌≡◌, refl, sym, ◌∙◌, ap}
use native.Mathlib.Decide.{dec_lt}
use native.Mathlib.Nat.{not-suc-le-zero}
use native.Mathlib.Omega.{arith}
use lib.ListN.{length, take, get_or, set, length-set, length-append, length-take}
use lib.Seq.{get_or-set_same, get_or-set_other, get_or-take, ext_get_or, take-set-le, take-suc-set}
use Rattle.lists.specs.Fill.{zeroed, get_or_zeroed_in}
use Rattle.spec.specs.Limits.{max_files}
use Rattle.hold_names.specs.Table.{heads_from, max_numbers, buckets, last_at, blocks_from, last_block, entry, size_of, held_to, Shape, bucket_of, pair_base, pair_at, first_in, second_in, name_at, Sorted, StandsIn, Placed, Searched, Fits, Spared, Entered}
use Rattle.hold_names.proofs.Buckets.{bucket_small, name_old, name_new}
use Rattle.hold_names.proofs.Blocks.{Agrees, shape_kept, sorted_kept, fits_kept, in_kept, last_kept, entry_kept, spared_shape, spared_sorted, spared_has, spared_keeps, spared_front, spared_long}

-- ---- no name

module _ (index : List ℕ) (r : max_numbers ≤ length index) where
  abbrev clean : List ℕ
  clean = zeroed index heads_from max_numbers

  zero_at : (i : ℕ) → heads_from ≤ i → i < max_numbers → get_or clean i 0 ≡ 0
  zero_at i a b = get_or_zeroed_in index heads_from max_numbers (omega arith) (omega (arith, r)) i a b

  none_last : last_block clean ≡ 0
  none_last = zero_at last_at (omega arith) (omega arith)

  none_size : (j : ℕ) → j ≤ last_block clean → size_of clean j ≡ 0
  none_size j a = zero_at (blocks_from + j * 128 + 127) (omega arith) (omega (arith, none_last))

  none_held : held_to clean 0 ≡ 0
  unfolding held_to
  none_held = none_size 0 (omega arith)

  pub searched_none : Searched clean 0 []
  searched_none =
      record {
        shape =
            record {
              blocks = omega (arith, none_last);
              few = λ j a. omega (arith, none_size j a);
              some = λ j a b. absurd (omega (arith, none_last));
              held = rw none_last (omega (arith, none_held));
            };
        sorted = record { below = λ j i a. absurd (omega (arith, none_size j a.0, a.1)); rising = λ j i k l a b c. absurd (omega (arith, none_size j a.0, a.1)) };
        first = λ b a. omega (arith, zero_at (heads_from + b) (omega arith) (omega arith));
        second = λ b a. omega (arith, zero_at (heads_from + b) (omega arith) (omega arith));
        both = λ b a c. absurd (omega (arith, zero_at (heads_from + b) (omega arith) (omega arith)));
        placed = λ k a. absurd (not-suc-le-zero a);
      }

-- ---- a name more

sorted_old : (files : List (List ℕ)) (p : List ℕ) {index : List ℕ} → Sorted files index → Sorted (files ++ (p ∷ [])) index
sorted_old files p {index} s =
    record {
      below = λ j i a. omega (arith, s.below j i a, length-append files (p ∷ []));
      rising = λ j i k l a b c. rw (name_old files p (entry index j i) (s.below j i a), name_old files p (entry index k l) (s.below k l b)) (s.rising j i k l a b c);
    }

shape_more : {index : List ℕ} {count : ℕ} → Shape index count → Shape index (count + 1)
shape_more s = record { blocks = s.blocks; few = s.few; some = s.some; held = omega (arith, s.held) }

module _ {index : List ℕ} {count : ℕ} {files : List (List ℕ)} (x : Searched index count files) (r : max_numbers ≤ length index) (f : count ≡ length files) (a : count < max_files) (p : List ℕ) where
  abbrev more : List (List ℕ)
  more = files ++ (p ∷ [])

  old_bucket : (k : ℕ) → k < count → bucket_of (name_at more k) ≡ bucket_of (name_at files k)
  old_bucket k l = ap bucket_of (name_old files p k (omega (arith, f)))

  new_bucket : bucket_of (name_at more count) ≡ bucket_of p
  new_bucket = ap bucket_of (rw f (name_new files p))

  -- the end of the name is put down, and its bucket is v
  module _ (to v : ℕ) where
    abbrev b : ℕ
    b = bucket_of p

    abbrev now : List ℕ
    now = set (set index count to) (heads_from + b) v

    other_number : (i : ℕ) → (i ≡ count → ⊥) → (i ≡ heads_from + b → ⊥) → get_or now i 0 ≡ get_or index i 0
    other_number i c d = get_or-set_other (set index count to) (heads_from + b) i v 0 d ∙ get_or-set_other index count i to 0 c

    pub pair_now : pair_at now b ≡ v
    pair_now = get_or-set_same (set index count to) (heads_from + b) v 0 (simp length-set (omega (arith, r, bucket_small p)))

    pair_other : (c : ℕ) → (c ≡ b → ⊥) → pair_at now c ≡ pair_at index c
    pair_other c d = other_number (heads_from + c) (λ (q : heads_from + c ≡ count). omega (arith, q)) (λ (q : heads_from + c ≡ heads_from + b). d (omega arith))

    blocks_kept : Agrees index now
    blocks_kept =
        record {
          same = λ q g. other_number q (λ (e : q ≡ count). omega (arith, e)) (λ (e : q ≡ heads_from + b). omega (arith, e, bucket_small p));
        }

    pub column_now : take (suc count) now ≡ take count index ++ (to ∷ [])
    column_now = take-set-le (suc count) (set index count to) (heads_from + b) v (omega arith) ∙ take-suc-set index count to (omega (arith, r))

    placed_other : (c k : ℕ) → (c ≡ b → ⊥) → Placed index c k → Placed now c k
    placed_other c k d q =
        rw (pair_other c d)
        (⊎_elim (λ (e : first_in index c ≡ suc k). inl e)
        (⊎_elim (λ (e : second_in index c ≡ suc k). inr (inl e))
        (λ (e : (0 < second_in index c) × StandsIn k index). inr (inr (e.0, in_kept blocks_kept e.1)))) q)

    -- what holds of v and of each number that a bucket had holds of each that one has
    each_pair : (P : ℕ → Type 0) → P v → ((c : ℕ) → c < buckets → P (pair_at index c)) → (c : ℕ) → c < buckets → P (pair_at now c)
    each_pair P h g c l =
        elim (dec_lt c b) [
          | yes d ↦ rw (pair_other c (λ (q : c ≡ b). omega (arith, q))) (g c l)
          | no d ↦ elim (dec_lt b c) [
            | yes e ↦ rw (pair_other c (λ (q : c ≡ b). omega (arith, q))) (g c l)
            | no e ↦ (let z : c ≡ b = omega arith in rw (z, pair_now) h)
          ]
        ]

    still_placed : ((k : ℕ) → Placed index b k → Placed now b k) → (c k : ℕ) → Placed index c k → Placed now c k
    still_placed o c k q =
        elim (dec_lt c b) [
          | yes d ↦ placed_other c k (λ (e : c ≡ b). omega (arith, e)) q
          | no d ↦ elim (dec_lt b c) [
            | yes g ↦ placed_other c k (λ (e : c ≡ b). omega (arith, e)) q
            | no g ↦ (let z : c ≡ b = omega arith in rw z (o k (rw z at q)))
          ]
        ]

    searched_head : v % pair_base ≤ count + 1 → v / pair_base ≤ count + 1 → (0 < v / pair_base → 0 < v % pair_base)
        → ((k : ℕ) → Placed index b k → Placed now b k) → Placed now b count → Searched now (count + 1) more
    searched_head h i j o n =
        record {
          shape = shape_more (shape_kept blocks_kept x.shape);
          sorted = sorted_old files p (sorted_kept blocks_kept x.sorted);
          first = each_pair (λ (w : ℕ). w % pair_base ≤ count + 1) h (λ c l. omega (arith, x.first c l));
          second = each_pair (λ (w : ℕ). w / pair_base ≤ count + 1) i (λ c l. omega (arith, x.second c l));
          both = each_pair (λ (w : ℕ). 0 < w / pair_base → 0 < w % pair_base) j x.both;
          placed = λ k l. elim (dec_lt k count) [
            | yes d ↦ rw (old_bucket k d) (still_placed o (bucket_of (name_at files k)) k (x.placed k d))
            | no d ↦ (let z : k ≡ count = omega arith in rw (z, new_bucket) n)
          ];
        }

  -- the first of its bucket, or the second
  pub searched_first : (to : ℕ) → pair_at index (bucket_of p) ≡ 0 → Searched (set (set index count to) (heads_from + bucket_of p) (count + 1)) (count + 1) more
  searched_first to e =
      searched_head to (count + 1) (omega arith) (omega arith) (λ l. omega arith)
      (λ k q. absurd (⊎_elim (λ (c : first_in index (bucket_of p) ≡ suc k). omega (arith, e)) (⊎_elim (λ (c : second_in index (bucket_of p) ≡ suc k). omega (arith, e)) (λ (c : (0 < second_in index (bucket_of p)) × StandsIn k index). omega (arith, e, c.0))) q))
      (inl (omega (arith, pair_now to (count + 1))))

  pub searched_second : (to : ℕ) → 0 < pair_at index (bucket_of p) → pair_at index (bucket_of p) < pair_base
      → Searched (set (set index count to) (heads_from + bucket_of p) (pair_at index (bucket_of p) + (count + 1) * pair_base)) (count + 1) more
  searched_second to d e =
      let v = pair_at index (bucket_of p) + (count + 1) * pair_base in
      searched_head to v (omega (arith, x.first (bucket_of p) (bucket_small p))) (omega arith) (λ l. omega arith)
      (λ k q. ⊎_elim (λ (c : first_in index (bucket_of p) ≡ suc k). inl (omega (arith, e, c, pair_now to v)))
      (⊎_elim (λ (c : second_in index (bucket_of p) ≡ suc k). absurd (omega (arith, e))) (λ (c : (0 < second_in index (bucket_of p)) × StandsIn k index). absurd (omega (arith, e, c.0)))) q)
      (inr (inl (omega (arith, e, pair_now to v))))

  -- one of the sorted ones
  module _ (to : ℕ) {j i : ℕ} {index' : List ℕ} (s : Spared (set index count to) count j i index') (c : j ≤ last_block index) (w : i ≤ size_of index j) (z : Fits files index p j i)
      (full : 0 < second_in index (bucket_of p)) where
    abbrev ended : List ℕ
    ended = set index count to

    end_beyond : (q : ℕ) → heads_from ≤ q → get_or ended q 0 ≡ get_or index q 0
    end_beyond q l = get_or-set_other index count q to 0 (λ (e : q ≡ count). omega (arith, e))

    ended_kept : Agrees index ended
    ended_kept = record { same = λ q l. end_beyond q (omega arith) }

    shape_was : Shape ended count
    shape_was = shape_kept ended_kept x.shape

    block_was : j ≤ last_block ended
    block_was = omega (arith, last_kept ended_kept)

    place_was : i ≤ size_of ended j
    place_was = omega (arith, entry_kept ended_kept j 127)

    pair_kept : (b : ℕ) → b < buckets → pair_at index' b ≡ pair_at index b
    pair_kept b l = spared_front s shape_was block_was place_was (heads_from + b) (omega arith) ∙ end_beyond (heads_from + b) (omega arith)

    spare_placed : (b k : ℕ) → b < buckets → Placed index b k → Placed index' b k
    spare_placed b k l q =
        rw (pair_kept b l)
        (⊎_elim (λ (e : first_in index b ≡ suc k). inl e)
        (⊎_elim (λ (e : second_in index b ≡ suc k). inr (inl e))
        (λ (e : (0 < second_in index b) × StandsIn k index).
        inr (inr (e.0, spared_keeps s shape_was block_was place_was (in_kept ended_kept e.1))))) q)

    pub searched_spare : Searched index' (count + 1) more
    searched_spare =
        record {
          shape = spared_shape s shape_was block_was place_was a;
          sorted = spared_sorted s shape_was block_was place_was f (sorted_kept ended_kept x.sorted) (fits_kept ended_kept z);
          first = λ b l. rw (pair_kept b l) (omega (arith, x.first b l));
          second = λ b l. rw (pair_kept b l) (omega (arith, x.second b l));
          both = λ b l. rw (pair_kept b l) (x.both b l);
          placed = λ k l. elim (dec_lt k count) [
            | yes d ↦ rw (old_bucket k d) (spare_placed (bucket_of (name_at files k)) k (bucket_small (name_at files k)) (x.placed k d))
            | no d ↦ (let e : k ≡ count = omega arith in
                rw (e, new_bucket, pair_kept (bucket_of p) (bucket_small p)) (inr (inr (full, spared_has s shape_was block_was place_was))))
          ];
        }

    front_same : take (suc count) index' ≡ take (suc count) ended
    front_same =
        ext_get_or 0 (take (suc count) index') (take (suc count) ended)
        (simp (length-take, spared_long s shape_was block_was place_was) refl)
        (λ q l.
        let h : q < suc count = omega (arith, length-take (suc count) index') in
        get_or-take (suc count) index' q 0 h ∙ spared_front s shape_was block_was place_was q (omega arith) ∙ sym (get_or-take (suc count) ended q 0 h))

    pub column_spare : take (suc count) index' ≡ take count index ++ (to ∷ [])
    column_spare = front_same ∙ take-suc-set index count to (omega (arith, r))

-- ---- the three ways in which a name is entered

-- the index with an end put down is asked for the same
module _ (index : List ℕ) (to : ℕ) {count : ℕ} (l : count < max_files) {ended : List ℕ} (m : ended ≡ set index count to) where
  agrees_ended : Agrees index ended
  agrees_ended = record { same = λ q a. rw m (get_or-set_other index count q to 0 (λ (e : q ≡ count). omega (arith, e))) }

  pub spare_asked : {j i : ℕ} → max_numbers ≤ length index → j ≤ last_block index → i ≤ size_of index j
      → (max_numbers ≤ length ended) × (count < max_files) × (j ≤ last_block ended) × (i ≤ size_of ended j)
  spare_asked {j} r b w =
      (rw (m, length-set index count to) r, l, omega (arith, last_kept agrees_ended), omega (arith, entry_kept agrees_ended j 127))

  pub spare_shape : Shape index count → Shape ended count
  spare_shape = shape_kept agrees_ended

pair_read : (index : List ℕ) (b to count : ℕ) → count < max_files → {ended : List ℕ} → ended ≡ set index count to → {pair : ℕ} → pair ≡ get_or ended (heads_from + b) 0 → pair ≡ pair_at index b
pair_read index b to count a m q = q ∙ rw m (get_or-set_other index count (heads_from + b) to 0 (λ (e : heads_from + b ≡ count). omega (arith, e)))

module _ (index : List ℕ) (count b to j i : ℕ) (a : count < max_files) {ended : List ℕ} (m : ended ≡ set index count to) {pair : ℕ} (q : pair ≡ get_or ended (heads_from + b) 0) {after : List ℕ} where
  pub enter_first : pair ≡ 0 → after ≡ set ended (heads_from + b) (count + 1) → Entered index count b to j i after
  enter_first z e =
      record {
        first = λ _. rw m at e;
        second = λ d _. absurd (omega (arith, pair_read index b to count a m q, d));
        spare = λ d. absurd (omega (arith, pair_read index b to count a m q, d));
      }

  pub enter_second : (pair ≡ 0 → ⊥) → pair < pair_base → after ≡ set ended (heads_from + b) (pair + (count + 1) * pair_base) → Entered index count b to j i after
  enter_second y z e =
      record {
        first = λ d. absurd (y (pair_read index b to count a m q ∙ d));
        second = λ _ _. rw (m, pair_read index b to count a m q) at e;
        spare = λ d. absurd (omega (arith, pair_read index b to count a m q, d));
      }

  pub enter_spare : pair_base ≤ pair → Spared ended count j i after → Entered index count b to j i after
  enter_spare z s =
      record {
        first = λ d. absurd (omega (arith, pair_read index b to count a m q, d));
        second = λ _ d. absurd (omega (arith, pair_read index b to count a m q, d));
        spare = λ _. rw m at s;
      }
