-- Numbers moved up: a loop that moves them one by one, room made in a block, and a block parted.
use Prim.Native.Nat.{ℕ, ◌+◌, ◌*◌, ◌-◌, ◌≤◌, ◌<◌}
use mathlib.Core.List.{List}
use mathlib.Core.Path.{◌≡◌, refl, ◌∙◌, ap}
use native.Mathlib.Decide.{dec_lt}
use native.Mathlib.Omega.{arith}
use lib.ListN.{length, get_or, set, length-set}
use lib.Seq.{get_or-set_same, get_or-set_other}
use Rattle.hold_names.specs.Table.{last_at, blocks_from, max_blocks, max_numbers, last_block, size_of, Lifted, Roomed, PutIn, Parted}

-- ---- the loop

-- those from place i on have moved
pub record Lifting (l : List ℕ) (from to by : ℕ) (c : List ℕ) (i : ℕ) : Type 0 where
  pub long : length c ≡ length l
  pub low : from ≤ i
  pub high : i ≤ to
  pub lifted : Lifted l i to by c

pub lift_begin : (l : List ℕ) {from to : ℕ} (by : ℕ) → from ≤ to → Lifting l from to by l to
lift_begin l {from} {to} by h =
    record {
      long = refl;
      low = h;
      high = omega arith;
      lifted = record { long = refl; moved = λ k a b. absurd (omega arith); below = λ k a. refl; above = λ k a. refl };
    }

pub lift_on : {l : List ℕ} {from to by : ℕ} {c : List ℕ} {i : ℕ} → Lifting l from to by c i → from < i → to + by ≤ length l
    → Lifting l from to by (set c (i - 1 + by) (get_or c (i - 1) 0)) (i - 1)
lift_on {l} {from} {to} {by} {c} {i} y a r =
    let x = y.lifted in
    let v = get_or c (i - 1) 0 in
    let other : (k : ℕ) → (k ≡ i - 1 + by → ⊥) → get_or (set c (i - 1 + by) v) k 0 ≡ get_or c k 0 = λ k h. get_or-set_other c (i - 1 + by) k v 0 h in
    let long : length (set c (i - 1 + by) v) ≡ length l = length-set c (i - 1 + by) v ∙ y.long in
    record {
      long = long;
      low = omega arith;
      high = omega (arith, y.high);
      lifted =
          record {
            long = long;
            moved = λ k m n. elim (dec_lt k i) [
              | no d ↦ other (k + by) (λ (q : k + by ≡ i - 1 + by). omega (arith, q)) ∙ x.moved k (omega arith) n
              | yes d ↦ (
                  let z : k ≡ i - 1 = omega arith in
                  rw z (get_or-set_same c (i - 1 + by) v 0 (omega (arith, y.long, y.high)) ∙ x.below (i - 1) (omega arith))
                  )
            ];
            below = λ k m. other k (λ (q : k ≡ i - 1 + by). omega (arith, q)) ∙ x.below k (omega arith);
            above = λ k m. other k (λ (q : k ≡ i - 1 + by). omega (arith, q, y.high)) ∙ x.above k m;
          };
    }

pub lift_end : {l : List ℕ} {from to by : ℕ} {c : List ℕ} {i : ℕ} → Lifting l from to by c i → i ≤ from → Lifted l from to by c
lift_end {from = from} {i = i} y a = let z : i ≡ from = omega (arith, y.low) in rw z at y.lifted

-- the same number at a place that is written in another way
place : (l : List ℕ) {a b : ℕ} → a ≡ b → get_or l a 0 ≡ get_or l b 0
place l e = ap (λ (y : ℕ). get_or l y 0) e

-- ---- room made in a block

pub room_kept : (l : List ℕ) {from to : ℕ} (end : ℕ) → to ≤ from → Roomed l from to end l
room_kept l end h = record { long = refl; moved = λ k a b. absurd (omega arith); below = λ k a. refl; above = λ k a. refl }

pub room_made : {l : List ℕ} {from up : ℕ} {l' : List ℕ} (to end : ℕ) → Lifted l from up 1 l' → to ≤ up → up + 1 ≤ end → Roomed l from to end l'
room_made to end x least most =
    record {
      long = x.long;
      moved = λ k a b. x.moved k a (omega arith);
      below = λ k a. x.below k (omega arith);
      above = λ k a. x.above k (omega arith);
    }

module _ (index : List ℕ) (n j i m : ℕ) (r : max_numbers ≤ length index) (b : j < max_blocks) (w : i ≤ size_of index j) (few : size_of index j ≤ 126) (e : m ≡ size_of index j)
    {c : List ℕ} (x : Roomed index (blocks_from + j * 128 + i) (blocks_from + j * 128 + m) (blocks_from + j * 128 + 128) c) where
  abbrev from : ℕ
  from = blocks_from + j * 128

  abbrev filled : List ℕ
  filled = set c (from + i) n

  abbrev grown : List ℕ
  grown = set filled (from + 127) (m + 1)

  other : (q : ℕ) → (q ≡ from + i → ⊥) → (q ≡ from + 127 → ⊥) → get_or grown q 0 ≡ get_or c q 0
  other q g h = get_or-set_other filled (from + 127) q (m + 1) 0 h ∙ get_or-set_other c (from + i) q n 0 g

  long_filled : length filled ≡ length index
  long_filled = length-set c (from + i) n ∙ x.long

  pub put_in : PutIn index n j i grown
  put_in =
      record {
        long = length-set filled (from + 127) (m + 1) ∙ long_filled;
        front = λ q a. other q (λ (d : q ≡ from + i). omega (arith, d)) (λ (d : q ≡ from + 127). omega (arith, d)) ∙ x.below q (omega arith);
        others = λ k l h a. elim (dec_lt k j) [
          | yes d ↦ other (blocks_from + k * 128 + l) (λ (g : blocks_from + k * 128 + l ≡ from + i). omega (arith, g)) (λ (g : blocks_from + k * 128 + l ≡ from + 127). omega (arith, g))
              ∙ x.below (blocks_from + k * 128 + l) (omega arith)
          | no d ↦ (
              let f : j < k = elim (dec_lt j k) [ yes g ↦ g | no g ↦ absurd (h (omega arith)) ] in
              other (blocks_from + k * 128 + l) (λ (g : blocks_from + k * 128 + l ≡ from + i). omega (arith, g, w, few)) (λ (g : blocks_from + k * 128 + l ≡ from + 127). omega (arith, g))
              ∙ x.above (blocks_from + k * 128 + l) (omega arith)
              )
        ];
        before = λ l a. other (from + l) (λ (g : from + l ≡ from + i). omega (arith, g)) (λ (g : from + l ≡ from + 127). omega (arith, g, w, few)) ∙ x.below (from + l) (omega arith);
        here = get_or-set_other filled (from + 127) (from + i) (m + 1) 0 (λ (g : from + i ≡ from + 127). omega (arith, g, w, few)) ∙ get_or-set_same c (from + i) n 0 (omega (arith, x.long, r, w, few));
        behind = λ l a d.
            other (from + (l + 1)) (λ (g : from + (l + 1) ≡ from + i). omega (arith, g)) (λ (g : from + (l + 1) ≡ from + 127). omega (arith, g, few, d))
            ∙ place c (omega arith) ∙ x.moved (from + l) (omega arith) (omega (arith, e, d));
        size = get_or-set_same filled (from + 127) (m + 1) 0 (omega (arith, long_filled, r)) ∙ ap (λ (y : ℕ). y + 1) e;
      }

-- ---- a block parted

module _ (index : List ℕ) (j m : ℕ) (r : max_numbers ≤ length index) (e : m ≡ last_block index) (b : j ≤ last_block index) (w : last_block index + 1 < max_blocks) where
  abbrev next : ℕ
  next = blocks_from + (j + 1) * 128

  module _ {c d : List ℕ} (x : Lifted index (blocks_from + (j + 1) * 128) (blocks_from + (m + 1) * 128) 128 c)
      (y : Lifted c (blocks_from + (j + 1) * 128 - 64) (blocks_from + (j + 1) * 128 - 1) 64 d) where
    abbrev one : List ℕ
    one = set d (next - 1) 64

    abbrev two : List ℕ
    two = set one (next + 127) 63

    abbrev all : List ℕ
    all = set two last_at (m + 1)

    long_d : length d ≡ length index
    long_d = y.long ∙ x.long

    long_one : length one ≡ length index
    long_one = length-set d (next - 1) 64 ∙ long_d

    long_two : length two ≡ length index
    long_two = length-set one (next + 127) 63 ∙ long_one

    apart : (q : ℕ) → (q ≡ next - 1 → ⊥) → (q ≡ next + 127 → ⊥) → (q ≡ last_at → ⊥) → get_or all q 0 ≡ get_or d q 0
    apart q f g h = get_or-set_other two last_at q (m + 1) 0 h ∙ get_or-set_other one (next + 127) q 63 0 g ∙ get_or-set_other d (next - 1) q 64 0 f

    -- what lies before the next block
    early : (q : ℕ) → q < next - 1 → (q ≡ last_at → ⊥) → get_or all q 0 ≡ get_or index q 0
    early q a h =
        apart q (λ (g : q ≡ next - 1). omega (arith, g)) (λ (g : q ≡ next + 127). omega (arith, g)) h ∙ y.below q (omega arith) ∙ x.below q (omega arith)

    pub parted : Parted index j all
    parted =
        record {
          long = length-set two last_at (m + 1) ∙ long_two;
          front = λ q a. early q (omega arith) (λ (g : q ≡ last_at). omega (arith, g));
          last = get_or-set_same two last_at (m + 1) 0 (omega (arith, long_two, r)) ∙ ap (λ (z : ℕ). z + 1) e;
          before = λ k l a h. early (blocks_from + k * 128 + l) (omega arith) (λ (g : blocks_from + k * 128 + l ≡ last_at). omega (arith, g));
          lower = λ l h. early (blocks_from + j * 128 + l) (omega arith) (λ (g : blocks_from + j * 128 + l ≡ last_at). omega (arith, g));
          lowers =
              let z : blocks_from + j * 128 + 127 ≡ next - 1 = omega arith in
              place all z ∙ get_or-set_other two last_at (next - 1) (m + 1) 0 (λ (g : next - 1 ≡ last_at). omega (arith, g))
              ∙ get_or-set_other one (next + 127) (next - 1) 63 0 (λ (g : next - 1 ≡ next + 127). omega (arith, g)) ∙ get_or-set_same d (next - 1) 64 0 (omega (arith, long_d, r));
          upper = λ l h.
              apart (blocks_from + (j + 1) * 128 + l) (λ (g : blocks_from + (j + 1) * 128 + l ≡ next - 1). omega (arith, g)) (λ (g : blocks_from + (j + 1) * 128 + l ≡ next + 127). omega (arith, g))
              (λ (g : blocks_from + (j + 1) * 128 + l ≡ last_at). omega (arith, g))
              ∙ place d (omega arith) ∙ y.moved (next - 64 + l) (omega arith) (omega arith) ∙ x.below (next - 64 + l) (omega arith) ∙ place index (omega arith);
          uppers =
              get_or-set_other two last_at (next + 127) (m + 1) 0 (λ (g : next + 127 ≡ last_at). omega (arith, g)) ∙ get_or-set_same one (next + 127) 63 0 (omega (arith, long_one, r));
          after = λ k l a f h.
              apart (blocks_from + (k + 1) * 128 + l) (λ (g : blocks_from + (k + 1) * 128 + l ≡ next - 1). omega (arith, g)) (λ (g : blocks_from + (k + 1) * 128 + l ≡ next + 127). omega (arith, g))
              (λ (g : blocks_from + (k + 1) * 128 + l ≡ last_at). omega (arith, g))
              ∙ y.above (blocks_from + (k + 1) * 128 + l) (omega arith) ∙ place c (omega arith) ∙ x.moved (blocks_from + k * 128 + l) (omega arith) (omega (arith, e));
        }
