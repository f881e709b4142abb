-- The numbers of a table from a place on move up by one, the last one first.
use Prim.Native.Nat.{ℕ, ◌+◌, ◌-◌, ◌≤◌, ◌<◌}
use mathlib.Core.List.{List, ◌∷◌, ◌++◌}
use mathlib.Core.Path.{◌≡◌, refl, sym, ◌∙◌, ap, ap₂}
use native.Mathlib.Omega.{arith}
use lib.ListN.{length, take, drop, get_or, set, length-set}
use lib.Seq.{take-take, take-add, take-set-le, drop-set-lt, get_or-take, get_or-set_same}
use Rattle.lists.specs.Parts.{part, part_none, part_cons, part_set_before, drop_take}
use Rattle.arena.specs.Inserted.{Shifted}

-- Those from place i on have moved.
pub record Shifting (table₀ table : List ℕ) (n p i : ℕ) : Type 0 where
  pub long : length table ≡ length table₀
  pub low : p ≤ i
  pub high : i ≤ n
  pub front : take i table ≡ take i table₀
  pub moved : part table (i + 1) (n + 1) ≡ part table₀ i n
  pub beyond : drop (n + 1) table ≡ drop (n + 1) table₀

pub shift_begin : (table : List ℕ) {n p : ℕ} → p ≤ n → Shifting table table n p n
shift_begin table {n} h =
    record {
      long = refl;
      low = h;
      high = omega arith;
      front = refl;
      moved = part_none table (n + 1) (n + 1) (omega arith) ∙ sym (part_none table n n (omega arith));
      beyond = refl;
    }

module _ {table₀ table : List ℕ} {n p i : ℕ} (x : Shifting table₀ table n p i) (room : n < length table₀) where
  front_less : (k : ℕ) → k ≤ i → take k table ≡ take k table₀
  front_less k h = sym (take-take k i table h) ∙ ap (take k) x.front ∙ take-take k i table₀ h

  -- what stands from a place on after a store there
  stored : (k v : ℕ) → k ≤ n → part (set table k v) k (n + 1) ≡ v ∷ part table (k + 1) (n + 1)
  stored k v h =
      part_cons (set table k v) k (n + 1) (omega arith) (omega (arith, length-set table k v, x.long))
      ∙ ap₂ ◌∷◌ (get_or-set_same table k v 0 (omega (arith, x.long))) (part_set_before table (k + 1) (n + 1) k v (omega arith))

  pub shift_on : p < i → Shifting table₀ (set table i (get_or table (i - 1) 0)) n p (i - 1)
  shift_on h =
      record {
        long = length-set table i (get_or table (i - 1) 0) ∙ x.long;
        low = omega arith;
        high = omega (arith, x.high);
        front = take-set-le (i - 1) table i (get_or table (i - 1) 0) (omega arith) ∙ front_less (i - 1) (omega arith);
        moved = moved;
        beyond = drop-set-lt (n + 1) table i (get_or table (i - 1) 0) (omega (arith, x.high)) ∙ x.beyond;
      }
    where
      same : get_or table (i - 1) 0 ≡ get_or table₀ (i - 1) 0
      same =
          sym (get_or-take i table (i - 1) 0 (omega arith))
          ∙ ap (λ (l : List ℕ). get_or l (i - 1) 0) x.front
          ∙ get_or-take i table₀ (i - 1) 0 (omega arith)

      moved : part (set table i (get_or table (i - 1) 0)) (i - 1 + 1) (n + 1) ≡ part table₀ (i - 1) n
      moved =
          let z : i - 1 + 1 ≡ i = omega arith in
          rw z
          (stored i (get_or table (i - 1) 0) x.high
          ∙ ap₂ ◌∷◌ same x.moved
          ∙ sym (part_cons table₀ (i - 1) n (omega (arith, x.high)) (omega (arith, x.high)) ∙ rw z))

  pub shift_end : i ≤ p → (v : ℕ) → Shifted table₀ n p v (set table p v)
  shift_end h v =
      let e : i ≡ p = omega (arith, x.low) in
      let z : n + 1 ≡ p + (n + 1 - p) = omega (arith, x.high) in
      let a : take p (set table p v) ≡ take p (take n table₀) = take-set-le p table p v (omega arith) ∙ front_less p (omega arith) ∙ sym (take-take p n table₀ (omega (arith, x.high))) in
      let b : part (set table p v) p (n + 1) ≡ v ∷ drop p (take n table₀) = stored p v (omega (arith, x.high)) ∙ ap (λ (l : List ℕ). v ∷ l) (rw e at x.moved ∙ sym (drop_take p n table₀)) in
      record {
        long = length-set table p v ∙ x.long;
        entries = ap (λ (k : ℕ). take k (set table p v)) z ∙ take-add p (n + 1 - p) (set table p v) ∙ ap₂ ◌++◌ a b;
        beyond = drop-set-lt (n + 1) table p v (omega (arith, x.high)) ∙ x.beyond;
      }
