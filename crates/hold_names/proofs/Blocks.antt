-- The blocks of sorted names: with the same numbers, with a name more, and with one block parted.
use Prim.Native.Nat.{ℕ, zero, suc, ◌+◌, ◌*◌, ◌-◌, ◌≤◌, ◌<◌}
use mathlib.Core.List.{List, [], ◌∷◌, ◌++◌}
use mathlib.Core.Logic.{◌⊎◌, inl, inr, ⊎_elim}
use mathlib.Core.Path.{◌≡◌, refl, ◌∙◌}
use native.Mathlib.Decide.{dec_lt}
use native.Mathlib.Omega.{arith}
use lib.ListN.{length, get_or, length-append}
use Rattle.spec.specs.Limits.{max_files}
use Rattle.hold_names.specs.Table.{last_at, blocks_from, max_blocks, max_numbers, last_block, entry, size_of, StandsAt, held_to, Shape, name_at, Sorted, StandsIn, Fits, PutIn, Parted, Spared}
use Rattle.hold_names.proofs.Buckets.{name_old, name_new}

-- ---- the same numbers

pub record Agrees (index index' : List ℕ) : Type 0 where
  pub same : (q : ℕ) → last_at ≤ q → get_or index' q 0 ≡ get_or index q 0

module _ {index index' : List ℕ} (g : Agrees index index') where
  pub last_kept : last_block index' ≡ last_block index
  last_kept = g.same last_at (omega arith)

  pub entry_kept : (j i : ℕ) → entry index' j i ≡ entry index j i
  entry_kept j i = g.same (blocks_from + j * 128 + i) (omega arith)

  back_kept : (j i : ℕ) → StandsAt index' j i → StandsAt index j i
  back_kept j i s = (omega (arith, last_kept, s.0), omega (arith, entry_kept j 127, s.1))

  held_kept : (j : ℕ) → held_to index' j ≡ held_to index j
  unfolding held_to
  held_kept zero = entry_kept 0 127
  held_kept (suc j) = omega (arith, held_kept j, entry_kept (suc j) 127)

  pub shape_kept : {count : ℕ} → Shape index count → Shape index' count
  shape_kept s =
      record {
        blocks = omega (arith, last_kept, s.blocks);
        few = λ j a. omega (arith, entry_kept j 127, s.few j (omega (arith, last_kept)));
        some = λ j a b. omega (arith, entry_kept j 127, s.some j (omega (arith, last_kept)) (omega (arith, last_kept)));
        held = rw last_kept (omega (arith, held_kept (last_block index), s.held));
      }

  pub sorted_kept : {files : List (List ℕ)} → Sorted files index → Sorted files index'
  sorted_kept s =
      record {
        below = λ j i a. rw (entry_kept j i) (s.below j i (back_kept j i a));
        rising = λ j i k l a b c. rw (entry_kept j i, entry_kept k l) (s.rising j i k l (back_kept j i a) (back_kept k l b) c);
      }

  pub fits_kept : {files : List (List ℕ)} {path : List ℕ} {j i : ℕ} → Fits files index path j i → Fits files index' path j i
  fits_kept f =
      record {
        before = λ k l a b. rw (entry_kept k l) (f.before k l (back_kept k l a) b);
        after = λ k l a b. rw (entry_kept k l) (f.after k l (back_kept k l a) b);
      }

  pub in_kept : {n : ℕ} → StandsIn n index → StandsIn n index'
  in_kept s =
      let (j, i, a, e) = s in
      (j, i, (omega (arith, last_kept, a.0), omega (arith, entry_kept j 127, a.1)), entry_kept j i ∙ e)

-- ---- what is moved stays in order

-- what stands at n now stood at p: those below a as they are, those up to c moved by s, those from d on by t
abbrev Way : ℕ → ℕ → ℕ → ℕ → ℕ → ℕ → ℕ → ℕ → Type 0
Way a b s c d t n p = ((n < a) × (p ≡ n)) ⊎ (((b ≤ n) × (n < c) × (p + s ≡ n)) ⊎ ((d ≤ n) × (p + t ≡ n)))

way_rises : (a b s c d t : ℕ) → a + s ≤ b → c + t ≤ d + s → a + t ≤ d → c ≤ d → (n p m q : ℕ) → Way a b s c d t n p → Way a b s c d t m q → n < m → p < q
way_rises a b s c d t e f g h n p m q v w l =
    ⊎_elim
    (λ (x : (n < a) × (p ≡ n)).
    ⊎_elim (λ (y : (m < a) × (q ≡ m)). omega (arith, x, y))
    (⊎_elim (λ (y : (b ≤ m) × (m < c) × (q + s ≡ m)). omega (arith, x, y)) (λ (y : (d ≤ m) × (q + t ≡ m)). omega (arith, x, y))) w)
    (⊎_elim
    (λ (x : (b ≤ n) × (n < c) × (p + s ≡ n)).
    ⊎_elim (λ (y : (m < a) × (q ≡ m)). omega (arith, x, y))
    (⊎_elim (λ (y : (b ≤ m) × (m < c) × (q + s ≡ m)). omega (arith, x, y)) (λ (y : (d ≤ m) × (q + t ≡ m)). omega (arith, x, y))) w)
    (λ (x : (d ≤ n) × (p + t ≡ n)).
    ⊎_elim (λ (y : (m < a) × (q ≡ m)). omega (arith, x, y))
    (⊎_elim (λ (y : (b ≤ m) × (m < c) × (q + s ≡ m)). omega (arith, x, y)) (λ (y : (d ≤ m) × (q + t ≡ m)). omega (arith, x, y))) w))
    v

-- where a name stood before
record Came (index index' : List ℕ) (a b s c d t k l : ℕ) : Type 0 where
  block : ℕ
  place : ℕ
  stands : StandsAt index block place
  same : entry index' k l ≡ entry index block place
  way : Way a b s c d t (k * 128 + l) (block * 128 + place)

-- ---- a name more

module _ {index : List ℕ} {n j i : ℕ} {index' : List ℕ} (x : PutIn index n j i index') (b : j ≤ last_block index) (w : i ≤ size_of index j)
    (few : (k : ℕ) → k ≤ last_block index → size_of index k ≤ 126) where
  pub put_last : last_block index' ≡ last_block index
  put_last = x.front last_at (omega arith)

  pub size_other : (k : ℕ) → (k ≡ j → ⊥) → size_of index' k ≡ size_of index k
  size_other k h = x.others k 127 h (omega arith)

  -- above place i of block j all moved by one
  abbrev Was : ℕ → ℕ → Type 0
  Was k l = Came index index' (j * 128 + i) (j * 128 + i + 1) 1 (j * 128 + 128) (j * 128 + 128) 0 k l

  abbrev New : ℕ → ℕ → Type 0
  New k l = (k * 128 + l ≡ j * 128 + i) × (entry index' k l ≡ n)

  was_other : (k l : ℕ) → (k ≡ j → ⊥) → StandsAt index' k l → Was k l
  was_other k l h s =
      let small : l < size_of index k = omega (arith, s.1, size_other k h) in
      let low : k ≤ last_block index = omega (arith, s.0, put_last) in
      record {
        block = k;
        place = l;
        stands = (low, small);
        same = x.others k l h (omega (arith, small, few k low));
        way = elim (dec_lt k j) [
          | yes d ↦ inl (omega (arith, small, few k low), refl)
          | no d ↦ inr (inr (elim (dec_lt j k) [ yes e ↦ omega arith | no e ↦ absurd (h (omega arith)) ], omega arith))
        ];
      }

  was_here : (l : ℕ) → l < size_of index' j → New j l ⊎ Was j l
  was_here l s =
      elim (dec_lt l i) [
        | yes d ↦ inr (record { block = j; place = l; stands = (b, omega (arith, w)); same = x.before l d; way = inl (omega arith, refl) })
        | no d ↦ elim (dec_lt i l) [
          | yes e ↦ (
              let z : l - 1 + 1 ≡ l = omega arith in
              let c : l - 1 < size_of index j = omega (arith, s, x.size) in
              inr (record {
                block = j;
                place = l - 1;
                stands = (b, c);
                same = rw z at (x.behind (l - 1) (omega arith) c);
                way = inr (inl (omega arith, omega (arith, c, few j b), omega arith));
              })
              )
          | no e ↦ (let z : l ≡ i = omega arith in inl (omega arith, rw z x.here))
        ]
      ]

  was : (k l : ℕ) → StandsAt index' k l → New k l ⊎ Was k l
  was k l s =
      elim (dec_lt k j) [
        | yes d ↦ inr (was_other k l (λ (q : k ≡ j). omega (arith, q)) s)
        | no d ↦ elim (dec_lt j k) [
          | yes e ↦ inr (was_other k l (λ (q : k ≡ j). omega (arith, q)) s)
          | no e ↦ (let z : k ≡ j = omega arith in rw z (was_here l (rw z at s.1)))
        ]
      ]

  put_has : StandsIn n index'
  put_has = (j, i, (omega (arith, put_last), omega (arith, x.size, w)), x.here)

  put_keeps : {m : ℕ} → StandsIn m index → StandsIn m index'
  put_keeps {m} q =
      let (k, l, s, e) = q in
      let other : (k ≡ j → ⊥) → StandsIn m index' =
      λ h. (k, l, (omega (arith, put_last, s.0), omega (arith, size_other k h, s.1)), x.others k l h (omega (arith, s.1, few k s.0)) ∙ e) in
      elim (dec_lt k j) [
        | yes d ↦ other (λ (q : k ≡ j). omega (arith, q))
        | no d ↦ elim (dec_lt j k) [
          | yes f ↦ other (λ (q : k ≡ j). omega (arith, q))
          | no f ↦ (
              let z : k ≡ j = omega arith in
              let y : l < size_of index j = rw z at s.1 in
              let c : entry index j l ≡ m = rw z at e in
              elim (dec_lt l i) [
                | yes g ↦ (j, l, (omega (arith, put_last), omega (arith, x.size, y)), x.before l g ∙ c)
                | no g ↦ (j, l + 1, (omega (arith, put_last), omega (arith, x.size, y)), x.behind l (omega arith) y ∙ c)
              ]
              )
        ]
      ]

  held_before : (k : ℕ) → k < j → held_to index' k ≡ held_to index k
  unfolding held_to
  held_before zero a = size_other 0 (λ (q : 0 ≡ j). omega (arith, q))
  held_before (suc k) a = omega (arith, held_before k (omega arith), size_other (suc k) (λ (q : suc k ≡ j). omega (arith, q)))

  held_from : (k : ℕ) → j ≤ k → held_to index' k ≡ held_to index k + 1
  unfolding held_to
  held_from zero a = let z : j ≡ 0 = omega arith in rw z at x.size
  held_from (suc k) a =
      elim (dec_lt j (suc k)) [
        | yes d ↦ omega (arith, held_from k (omega arith), size_other (suc k) (λ (q : suc k ≡ j). omega (arith, q)))
        | no d ↦ (
            let z : j ≡ suc k = omega arith in
            let y : size_of index' (suc k) ≡ size_of index (suc k) + 1 = rw z at x.size in
            omega (arith, held_before k (omega arith), y)
            )
      ]

  pub put_held : held_to index' (last_block index) ≡ held_to index (last_block index) + 1
  put_held = held_from (last_block index) b

  -- sorted by the names with one more, whose number is n
  module _ (files : List (List ℕ)) (p : List ℕ) (e : n ≡ length files) (s : Sorted files index) (f : Fits files index p j i) where
    abbrev more : List (List ℕ)
    more = files ++ (p ∷ [])

    abbrev now : ℕ → ℕ → List ℕ
    now k l = name_at more (entry index' k l)

    name_new_here : (k l : ℕ) → New k l → now k l ≡ p
    name_new_here k l a = rw (a.1, e) (name_new files p)

    name_was : (k l : ℕ) (a : Was k l) → now k l ≡ name_at files (entry index a.block a.place)
    name_was k l a =
        rw a.same (name_old files p (entry index a.block a.place) (s.below a.block a.place a.stands))

    pub put_sorted : Sorted more index'
    put_sorted =
        record {
          below = λ k l a. ⊎_elim (λ (c : New k l). omega (arith, c.1, e, length-append files (p ∷ [])))
              (λ (c : Was k l). omega (arith, c.same, s.below c.block c.place c.stands, length-append files (p ∷ []))) (was k l a);
          rising = λ k l m o a c d.
              ⊎_elim
              (λ (u : New k l).
              ⊎_elim (λ (v : New m o). absurd (omega (arith, u.0, v.0)))
              (λ (v : Was m o).
              rw (name_new_here k l u, name_was m o v)
              (f.after v.block v.place v.stands
              (⊎_elim (λ (y : (m * 128 + o < j * 128 + i) × (v.block * 128 + v.place ≡ m * 128 + o)). omega (arith, y, u.0, d))
              (⊎_elim (λ (y : (j * 128 + i + 1 ≤ m * 128 + o) × (m * 128 + o < j * 128 + 128) × (v.block * 128 + v.place + 1 ≡ m * 128 + o)). omega (arith, y, u.0, d))
              (λ (y : (j * 128 + 128 ≤ m * 128 + o) × (v.block * 128 + v.place + 0 ≡ m * 128 + o)). omega (arith, y, u.0, d))) v.way))) (was m o c))
              (λ (u : Was k l).
              ⊎_elim
              (λ (v : New m o).
              rw (name_new_here m o v, name_was k l u)
              (f.before u.block u.place u.stands
              (⊎_elim (λ (y : (k * 128 + l < j * 128 + i) × (u.block * 128 + u.place ≡ k * 128 + l)). omega (arith, y, v.0, d))
              (⊎_elim (λ (y : (j * 128 + i + 1 ≤ k * 128 + l) × (k * 128 + l < j * 128 + 128) × (u.block * 128 + u.place + 1 ≡ k * 128 + l)). omega (arith, y, v.0, d))
              (λ (y : (j * 128 + 128 ≤ k * 128 + l) × (u.block * 128 + u.place + 0 ≡ k * 128 + l)). omega (arith, y, v.0, d, w, few j b))) u.way)))
              (λ (v : Was m o).
              rw (name_was k l u, name_was m o v)
              (s.rising u.block u.place v.block v.place u.stands v.stands
              (way_rises (j * 128 + i) (j * 128 + i + 1) 1 (j * 128 + 128) (j * 128 + 128) 0 (omega arith) (omega arith) (omega (arith, w, few j b)) (omega arith) (k * 128 + l)
              (u.block * 128 + u.place) (m * 128 + o) (v.block * 128 + v.place) u.way v.way d)))
              (was m o c))
              (was k l a);
        }

-- ---- a block parted

module _ {index : List ℕ} {j : ℕ} {index' : List ℕ} (x : Parted index j index') (b : j ≤ last_block index) (full : size_of index j ≡ 127)
    (few : (k : ℕ) → k ≤ last_block index → (k ≡ j → ⊥) → size_of index k ≤ 126) where
  -- the upper half of block j moved by 64, and what is behind it by 128
  abbrev Stood : ℕ → ℕ → Type 0
  Stood k l = Came index index' (j * 128 + 64) (j * 128 + 128) 64 (j * 128 + 191) (j * 128 + 256) 128 k l

  size_before : (k : ℕ) → k < j → size_of index' k ≡ size_of index k
  size_before k a = x.before k 127 a (omega arith)

  size_after : (k : ℕ) → j < k → k ≤ last_block index → size_of index' (k + 1) ≡ size_of index k
  size_after k a c = x.after k 127 a c (omega arith)

  stood_before : (k l : ℕ) → k < j → StandsAt index' k l → Stood k l
  stood_before k l a s =
      let y : l < size_of index k = omega (arith, s.1, size_before k a) in
      let f : size_of index k ≤ 126 = few k (omega arith) (λ (q : k ≡ j). omega (arith, q)) in
      record { block = k; place = l; stands = (omega arith, y); same = x.before k l a (omega arith); way = inl (omega arith, refl) }

  stood_lower : (l : ℕ) → l < size_of index' j → Stood j l
  stood_lower l s =
      record {
        block = j;
        place = l;
        stands = (b, omega (arith, full, s, x.lowers));
        same = x.lower l (omega (arith, s, x.lowers));
        way = inl (omega (arith, s, x.lowers), refl);
      }

  stood_upper : (l : ℕ) → l < size_of index' (j + 1) → Stood (j + 1) l
  stood_upper l s =
      record {
        block = j;
        place = 64 + l;
        stands = (b, omega (arith, full, s, x.uppers));
        same = x.upper l (omega (arith, s, x.uppers));
        way = inr (inl (omega arith, omega (arith, s, x.uppers), omega arith));
      }

  stood_after : (k l : ℕ) → j < k → k ≤ last_block index → l < size_of index' (k + 1) → Stood (k + 1) l
  stood_after k l a c s =
      let y : l < size_of index k = omega (arith, s, size_after k a c) in
      let f : size_of index k ≤ 126 = few k c (λ (q : k ≡ j). omega (arith, q)) in
      record { block = k; place = l; stands = (c, y); same = x.after k l a c (omega arith); way = inr (inr (omega arith, omega arith)) }

  stood : (k l : ℕ) → StandsAt index' k l → Stood k l
  stood k l s =
      elim (dec_lt k j) [
        | yes d ↦ stood_before k l d s
        | no d ↦ elim (dec_lt j k) [
          | no e ↦ (let z : k ≡ j = omega arith in rw z (stood_lower l (rw z at s.1)))
          | yes e ↦ elim (dec_lt (j + 1) k) [
            | no f ↦ (let z : k ≡ j + 1 = omega arith in rw z (stood_upper l (rw z at s.1)))
            | yes f ↦ (
                let z : k ≡ k - 1 + 1 = omega arith in
                rw z (stood_after (k - 1) l (omega arith) (omega (arith, x.last, s.0)) (rw z at s.1))
                )
          ]
        ]
      ]

  pub parted_sorted : {files : List (List ℕ)} → Sorted files index → Sorted files index'
  parted_sorted s =
      record {
        below = λ k l a. let c = stood k l a in omega (arith, c.same, s.below c.block c.place c.stands);
        rising = λ k l m o a c d.
            let u = stood k l a in
            let v = stood m o c in
            rw (u.same, v.same)
            (s.rising u.block u.place v.block v.place u.stands v.stands
            (way_rises (j * 128 + 64) (j * 128 + 128) 64 (j * 128 + 191) (j * 128 + 256) 128 (omega arith) (omega arith) (omega arith) (omega arith) (k * 128 + l)
            (u.block * 128 + u.place) (m * 128 + o) (v.block * 128 + v.place) u.way v.way d));
      }

  pub parted_keeps : {m : ℕ} → StandsIn m index → StandsIn m index'
  parted_keeps {m} q =
      let (k, l, s, e) = q in
      elim (dec_lt k j) [
        | yes d ↦ (
          k,
          l,
          (omega (arith, x.last, s.0), omega (arith, size_before k d, s.1)),
          x.before k l d (omega (arith, s.1, few k s.0 (λ (q : k ≡ j). omega (arith, q)))) ∙ e,
        )
        | no d ↦ elim (dec_lt j k) [
          | yes f ↦ (
            k + 1,
            l,
            (omega (arith, x.last, s.0), omega (arith, size_after k f s.0, s.1)),
            x.after k l f s.0 (omega (arith, s.1, few k s.0 (λ (q : k ≡ j). omega (arith, q)))) ∙ e,
          )
          | no f ↦ (
              let z : k ≡ j = omega arith in
              let y : l < size_of index j = rw z at s.1 in
              let c : entry index j l ≡ m = rw z at e in
              elim (dec_lt l 64) [
                | yes g ↦ (j, l, (omega (arith, x.last, b), omega (arith, x.lowers)), x.lower l g ∙ c)
                | no g ↦ (
                    let v : 64 + (l - 64) ≡ l = omega arith in
                    (j + 1, l - 64, (omega (arith, x.last, b), omega (arith, x.uppers, y, full)), x.upper (l - 64) (omega (arith, y, full)) ∙ rw v c)
                    )
              ]
              )
        ]
      ]

  held_below : (k : ℕ) → k < j → held_to index' k ≡ held_to index k
  unfolding held_to
  held_below zero a = size_before 0 a
  held_below (suc k) a = omega (arith, held_below k (omega arith), size_before (suc k) a)

  held_lower : (k : ℕ) → k ≡ j → held_to index' k + 63 ≡ held_to index k
  unfolding held_to
  held_lower zero a =
      let u : size_of index 0 ≡ 127 = rw (← a) at full in
      let v : size_of index' 0 ≡ 64 = rw (← a) at x.lowers in
      omega (arith, u, v)
  held_lower (suc k) a =
      let u : size_of index (suc k) ≡ 127 = rw (← a) at full in
      let v : size_of index' (suc k) ≡ 64 = rw (← a) at x.lowers in
      omega (arith, u, v, held_below k (omega arith))

  held_upper : (k : ℕ) → k ≡ j → held_to index' (suc k) ≡ held_to index k
  unfolding held_to
  held_upper k a =
      let v : size_of index' (suc k) ≡ 63 = let z : j + 1 ≡ suc k = omega arith in rw z at x.uppers in
      omega (arith, v, held_lower k a)

  held_after : (k : ℕ) → j ≤ k → k ≤ last_block index → held_to index' (suc k) ≡ held_to index k
  unfolding held_to
  held_after zero a c = held_upper 0 (omega arith)
  held_after (suc k) a c =
      elim (dec_lt j (suc k)) [
        | yes d ↦ (
            let z : suc k + 1 ≡ suc (suc k) = omega arith in
            let y : size_of index' (suc (suc k)) ≡ size_of index (suc k) = rw z at (size_after (suc k) d c) in
            omega (arith, held_after k (omega arith) (omega arith), y)
            )
        | no d ↦ held_upper (suc k) (omega arith)
      ]

  pub parted_held : held_to index' (last_block index') ≡ held_to index (last_block index)
  parted_held =
      let z : last_block index' ≡ suc (last_block index) = omega (arith, x.last) in
      rw z (held_after (last_block index) b (omega arith))

  -- what holds of 64, of 63 and of each other size holds of each
  pub parted_each : (P : ℕ → Type 0) → P 64 → P 63 → ((k : ℕ) → k ≤ last_block index → (k ≡ j → ⊥) → P (size_of index k)) → (k : ℕ) → k ≤ last_block index' → P (size_of index' k)
  parted_each P u v h k a =
      elim (dec_lt k j) [
        | yes d ↦ rw (size_before k d) (h k (omega arith) (λ (q : k ≡ j). omega (arith, q)))
        | no d ↦ elim (dec_lt j k) [
          | no e ↦ (let z : k ≡ j = omega arith in rw (z, x.lowers) u)
          | yes e ↦ elim (dec_lt (j + 1) k) [
            | no f ↦ (let z : k ≡ j + 1 = omega arith in rw (z, x.uppers) v)
            | yes f ↦ (
                let z : k ≡ k - 1 + 1 = omega arith in
                rw (z, size_after (k - 1) (omega arith) (omega (arith, x.last)))
                (h (k - 1) (omega (arith, x.last)) (λ (q : k - 1 ≡ j). omega (arith, q)))
                )
          ]
        ]
      ]

-- ---- how many blocks there are

module _ (index : List ℕ) where
  held_least : (n : ℕ) → ((k : ℕ) → k ≤ n → 63 ≤ size_of index k) → (n + 1) * 63 ≤ held_to index n
  unfolding held_to
  held_least zero h = omega (arith, h 0 (omega arith))
  held_least (suc n) h = omega (arith, held_least n (λ k a. h k (omega arith)), h (suc n) (omega arith))

  held_full : (n j : ℕ) → j ≤ n → size_of index j ≡ 126 → ((k : ℕ) → k ≤ n → 63 ≤ size_of index k) → (n + 2) * 63 ≤ held_to index n
  unfolding held_to
  held_full zero j a e h = let z : j ≡ 0 = omega arith in let y : size_of index 0 ≡ 126 = rw z at e in omega (arith, y)
  held_full (suc n) j a e h =
      elim (dec_lt j (suc n)) [
        | yes d ↦ omega (arith, held_full n j (omega arith) e (λ k c. h k (omega arith)), h (suc n) (omega arith))
        | no d ↦ (
            let z : j ≡ suc n = omega arith in
            let y : size_of index (suc n) ≡ 126 = rw z at e in
            omega (arith, y, held_least n (λ k c. h k (omega arith)))
            )
      ]

  pub another : {count j : ℕ} → Shape index count → count < max_files → j ≤ last_block index → size_of index j ≡ 126 → last_block index + 1 < max_blocks
  another {count} {j} s a b e =
      elim (dec_lt 0 (last_block index)) [
        | no d ↦ omega arith
        | yes d ↦ omega (arith, s.held, held_full (last_block index) j b e (λ k c. s.some k c d))
      ]

-- ---- one more among the sorted ones

module _ {index : List ℕ} {n j i : ℕ} {mid : List ℕ} (p : PutIn index n j i mid) {r : ℕ} (e : r ≡ size_of index j + 1) where
  pub part_asked : max_numbers ≤ length index → Shape index n → n < max_files → j ≤ last_block index → r ≡ 127
      → (max_numbers ≤ length mid) × (last_block mid + 1 < max_blocks) × (j ≤ last_block mid)
  part_asked l s a b f =
      let z : last_block mid ≡ last_block index = p.front last_at (omega arith) in
      (omega (arith, p.long), omega (arith, z, another index s a b (omega (arith, e, f))), omega (arith, z))

  pub spared_parted : r ≡ 127 → {index' : List ℕ} → Parted mid j index' → Spared index n j i index'
  spared_parted f x = record { middle = mid; put = p; room = λ h. absurd (h (omega (arith, e, f))); full = λ _. x }

  pub spared_whole : (r ≡ 127 → ⊥) → Spared index n j i mid
  spared_whole f = record { middle = mid; put = p; room = λ _. refl; full = λ h. absurd (f (omega (arith, e, h))) }

module _ {index : List ℕ} {count j i : ℕ} {index' : List ℕ} (x : Spared index count j i index') (s : Shape index count) (b : j ≤ last_block index) (w : i ≤ size_of index j) where
  abbrev mid : List ℕ
  mid = x.middle

  mid_few : (k : ℕ) → k ≤ last_block mid → (k ≡ j → ⊥) → size_of mid k ≤ 126
  mid_few k a h =
      let l = put_last x.put b w s.few in
      omega (arith, size_other x.put b w s.few k h, s.few k (omega (arith, l)))

  module _ (e : size_of index j ≡ 126) where
    mid_block : j ≤ last_block mid
    mid_block = omega (arith, put_last x.put b w s.few, b)

    mid_full : size_of mid j ≡ 127
    mid_full = omega (arith, x.put.size, e)

  -- the sizes with one more, whether the block is parted or not
  mid_some : (k : ℕ) → k ≤ last_block mid → 0 < last_block mid → 63 ≤ size_of mid k
  mid_some k a c =
      let l = put_last x.put b w s.few in
      let o : 63 ≤ size_of index k = s.some k (omega (arith, l)) (omega (arith, l)) in
      elim (dec_lt k j) [
        | yes d ↦ omega (arith, size_other x.put b w s.few k (λ (q : k ≡ j). omega (arith, q)))
        | no d ↦ elim (dec_lt j k) [
          | yes f ↦ omega (arith, size_other x.put b w s.few k (λ (q : k ≡ j). omega (arith, q)))
          | no f ↦ (let z : k ≡ j = omega arith in rw z (omega (arith, x.put.size, rw z at o)))
        ]
      ]

  mid_held : held_to mid (last_block mid) ≤ count + 1
  mid_held = rw (put_last x.put b w s.few) (omega (arith, put_held x.put b w s.few, s.held))

  shape_full : count < max_files → size_of index j ≡ 126 → Parted mid j index' → Shape index' (count + 1)
  shape_full a e p =
      let l = put_last x.put b w s.few in
      record {
        blocks = omega (arith, p.last, l, another index s a b e);
        few = parted_each p (mid_block e) (mid_full e) mid_few (λ (y : ℕ). y ≤ 126) (omega arith) (omega arith) mid_few;
        some = λ k c d. parted_each p (mid_block e) (mid_full e) mid_few (λ (y : ℕ). 63 ≤ y) (omega arith) (omega arith)
            (λ m u v. elim (dec_lt 0 (last_block mid)) [
              | yes y ↦ mid_some m u y
              | no y ↦ absurd (v (omega (arith, mid_block e)))
            ]) k c;
        held = omega (arith, parted_held p (mid_block e) (mid_full e) mid_few, mid_held);
      }

  shape_room : (size_of index j ≡ 126 → ⊥) → Shape mid (count + 1)
  shape_room e =
      let l = put_last x.put b w s.few in
      record {
        blocks = omega (arith, l, s.blocks);
        few = λ k a. elim (dec_lt k j) [
          | yes d ↦ mid_few k a (λ (q : k ≡ j). omega (arith, q))
          | no d ↦ elim (dec_lt j k) [
            | yes f ↦ mid_few k a (λ (q : k ≡ j). omega (arith, q))
            | no f ↦ (
                let z : k ≡ j = omega arith in
                rw z (elim (dec_lt (size_of index j) 126) [
                  | yes g ↦ omega (arith, x.put.size)
                  | no g ↦ absurd (e (omega (arith, s.few j b)))
                ])
                )
          ]
        ];
        some = mid_some;
        held = mid_held;
      }

  -- what holds of the middle one, and of what parting makes of it, holds
  either : (P : List ℕ → Type 0) → ((size_of index j ≡ 126 → ⊥) → P mid) → (size_of index j ≡ 126 → Parted mid j index' → P index') → P index'
  either P f g =
      elim (dec_lt (size_of index j) 126) [
        | yes d ↦ (let h : size_of index j ≡ 126 → ⊥ = λ (q : size_of index j ≡ 126). omega (arith, q) in rw (x.room h) (f h))
        | no d ↦ (let h : size_of index j ≡ 126 = omega (arith, s.few j b) in g h (x.full h))
      ]

  pub spared_shape : count < max_files → Shape index' (count + 1)
  spared_shape a = either (λ (y : List ℕ). Shape y (count + 1)) shape_room (shape_full a)

  pub spared_sorted : {files : List (List ℕ)} {p : List ℕ} → count ≡ length files → Sorted files index → Fits files index p j i → Sorted (files ++ (p ∷ [])) index'
  spared_sorted {files} {p} e o f =
      let z : Sorted (files ++ (p ∷ [])) mid = put_sorted x.put b w s.few files p e o f in
      either (λ (y : List ℕ). Sorted (files ++ (p ∷ [])) y) (λ h. z) (λ h q. parted_sorted q (mid_block h) (mid_full h) mid_few z)

  pub spared_has : StandsIn count index'
  spared_has =
      let z : StandsIn count mid = put_has x.put b w s.few in
      either (λ (y : List ℕ). StandsIn count y) (λ h. z) (λ h q. parted_keeps q (mid_block h) (mid_full h) mid_few z)

  pub spared_keeps : {m : ℕ} → StandsIn m index → StandsIn m index'
  spared_keeps {m} o =
      let z : StandsIn m mid = put_keeps x.put b w s.few o in
      either (λ (y : List ℕ). StandsIn m y) (λ h. z) (λ h q. parted_keeps q (mid_block h) (mid_full h) mid_few z)

  -- the ends of names and the buckets
  pub spared_front : (q : ℕ) → q < last_at → get_or index' q 0 ≡ get_or index q 0
  spared_front q a =
      let z : get_or mid q 0 ≡ get_or index q 0 = x.put.front q (omega arith) in
      either (λ (y : List ℕ). get_or y q 0 ≡ get_or index q 0) (λ h. z) (λ h c. c.front q a ∙ z)

  pub spared_long : length index' ≡ length index
  spared_long = either (λ (y : List ℕ). length y ≡ length index) (λ h. x.put.long) (λ h c. c.long ∙ x.put.long)
