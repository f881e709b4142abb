-- The search for a file whose maker is not done: its loop.
use Prim.Native.Nat.{ℕ, suc, ◌+◌, ◌-◌, ◌≤◌, ◌<◌}
use native.Mathlib.Nat.{le_refl}
use native.Mathlib.Decide.{dec_lt}
use native.Mathlib.Omega.{arith}
use mathlib.Core.Path.{◌≡◌, sym, ◌∙◌}
use mathlib.Core.List.{List}
use lib.ListN.{length, get_or}
use Rattle.hold_columns.specs.Columns.{maker_at}
use Rattle.graph_order.specs.Walk.{Over, OpenInput}

pub record Opening (fs made seen : List ℕ) (from i : ℕ) : Type 0 where
  pub forward : from ≤ i
  pub within : i ≤ length fs
  pub over : Over fs made seen from i

pub opening : {fs made seen : List ℕ} {from : ℕ} → from ≤ length fs → Opening fs made seen from from
opening {from} b = record { forward = le_refl from; within = b; over = λ j p q m e. absurd (omega arith) }

module _ {fs made seen : List ℕ} {from i : ℕ} (r : Opening fs made seen from i) where
  pub open_more : i < length fs → ((m : ℕ) → maker_at made fs i ≡ suc m → get_or seen m 0 ≡ 2) → Opening fs made seen from (i + 1)
  open_more b f = record {
    forward = omega (arith, r.forward);
    within = omega arith;
    over = λ j p q m e. elim (dec_lt j i) [
      | yes d ↦ r.over j p d m e
      | no d ↦ (let k : j ≡ i = omega arith in f m (rw k at e))
    ];
  }

  -- by the maker k of the file at place i, and what is marked of it
  module _ (b : i < length fs) {k : ℕ} (e : k ≡ maker_at made fs i) where
    pub open_none : k ≡ 0 → Opening fs made seen from (i + 1)
    open_none z = open_more b (λ m q. absurd (omega arith))

    pub open_done : {v : ℕ} → v ≡ get_or seen (k - 1) 0 → v ≡ 2 → Opening fs made seen from (i + 1)
    open_done p z = open_more b (λ m q. let d : k - 1 ≡ m = omega arith in rw d at (sym p ∙ z))

    pub open_found : {v : ℕ} → v ≡ get_or seen (k - 1) 0 → (v ≡ 2 → ⊥) → (k ≡ 0 → ⊥) → OpenInput fs made seen from i
    open_found p z d = record {
      forward = r.forward;
      within = r.within;
      over = r.over;
      made_there = λ h. omega arith;
      not_done = λ h w. z (p ∙ rw e w);
    }

  pub open_end : length fs ≤ i → OpenInput fs made seen from (length fs)
  open_end b = record {
    forward = omega (arith, r.forward, r.within);
    within = le_refl (length fs);
    over = λ j p q. r.over j p (omega arith);
    made_there = λ h. absurd (omega arith);
    not_done = λ h. absurd (omega arith);
  }
