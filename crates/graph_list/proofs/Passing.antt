-- One pass along the order.
use Rattle.std.specs.Prelude.{Some, None}
use Prim.Native.Nat.{ℕ, ◌+◌, ◌≤◌, ◌<◌}
use native.Mathlib.Numerals.{add-one}
use native.Mathlib.Decide.{dec_lt}
use native.Mathlib.Omega.{arith}
use mathlib.Core.Path.{◌≡◌, refl, ◌∙◌}
use mathlib.Core.Bool.{true}
use mathlib.Core.Logic.{inl, inr}
use mathlib.Core.List.{List, [], ◌∷◌, ◌++◌}
use lib.Dec.{eqb}
use lib.ListN.{length, get_or, take}
use lib.Seq.{take-suc, take_all}
use borrow.Author.Tests.{eqb-true, eq-eqb}
use Rattle.lists.specs.Members.{◌∈◌, all_true, true_all, in_snoc, in_left, in_right, here, not_in_nil}
use Rattle.orders.specs.Reach.{direct, further}
use Rattle.hold_columns.specs.Columns.{inputs_in, before_in, SortedSteps}
use Rattle.graph_list.specs.Listing.{all_clear, Unblocked, ClearSteps, LooksAt, LookAsked, NextReady, ReadyFound, PassAsked, ReadyPassed}

pub record Passing (mentions ends made order pending clear : List ℕ) (best i : ℕ) : Type 0 where
  pub within : i ≤ length order
  pub long : length clear ≡ length pending
  pub clear_now : ClearSteps (before_in mentions ends made) pending clear
  pub done : (s : ℕ) → s ∈ take i order → (get_or pending s 0 ≡ 1 → ⊥) → Unblocked (before_in mentions ends made) pending s → get_or clear s 0 ≡ 1
  pub next : NextReady (before_in mentions ends made) pending (take i order) (length pending) best

pub pass_begin : {mentions ends made order pending clear : List ℕ} → PassAsked mentions ends made order pending clear → Passing mentions ends made order pending clear (length pending) 0
pass_begin r = record {
  within = omega arith;
  long = r.long;
  clear_now = r.clear_now;
  done = λ s h. absurd (not_in_nil h);
  next = record { within = omega arith; found = λ b. absurd (omega arith); least = λ s h. absurd (not_in_nil h) };
}

-- a step is unblocked where those before it are neither pending nor blocked
unblocked_by : (before : ℕ → List ℕ) (pending : List ℕ) (s : ℕ) → ((m : ℕ) → m ∈ before s → (get_or pending m 0 ≡ 1 → ⊥) × Unblocked before pending m) → Unblocked before pending s
unblocked_by before pending s f m (direct h) = (f m h).0
unblocked_by before pending s f m (further {k = k} u h) = (f k h).1 m u

module _ {mentions ends made order pending clear : List ℕ} {best i : ℕ} (q : SortedSteps (before_in mentions ends made) order) (r : Passing mentions ends made order pending clear best i)
    (b : i < length order) {s : ℕ} (e : s ≡ get_or order i 0) where
  -- no pending step is upstream exactly where the makers of the inputs are all clear

  ready_unblocked : all_clear made clear (inputs_in mentions ends s) ≡ true → Unblocked (before_in mentions ends made) pending s
  unfolding all_clear before_in
  ready_unblocked a = unblocked_by (before_in mentions ends made) pending s (λ m h. r.clear_now m (eqb-true (get_or clear m 0) 1 (all_true (λ k. eqb (get_or clear k 0) 1) (before_in mentions ends made s) a h)))

  unblocked_ready : Unblocked (before_in mentions ends made) pending s → all_clear made clear (inputs_in mentions ends s) ≡ true
  unfolding all_clear before_in
  unblocked_ready u = true_all (λ k. eqb (get_or clear k 0) 1) (before_in mentions ends made s)
      (λ m h. eq-eqb (get_or clear m 0) 1 (r.done m (q.after i b m (rw (← e) h)) (u m (direct h)) (λ k w. u k (further w h))))

  one_more : take (i + 1) order ≡ take i order ++ (s ∷ [])
  one_more = rw (add-one i, e) (take-suc order i 0 b)

  pub pass_more : {exit : List ℕ} {k : ℕ} → LooksAt s (all_clear made clear (inputs_in mentions ends s)) pending clear exit best k → Passing mentions ends made order pending exit k (i + 1)
  pass_more {exit} {k} l = record {
    within = omega arith;
    long = l.long ∙ r.long;
    clear_now = λ u h. elim (l.clears u h) [
      | inl c ↦ r.clear_now u c
      | inr c ↦ (rw c.0 c.2, rw c.0 (ready_unblocked c.1))
    ];
    done = λ u h p w. elim (in_snoc (take i order) (rw one_more at h)) [
      | inl c ↦ l.keeps u (r.done u c p w)
      | inr c ↦ rw c (l.free (unblocked_ready (rw c at w)) (rw c at p))
    ];
    next = record {
      within = omega (arith, l.lower, r.next.within);
      found = λ c. elim (dec_lt k best) [
        | yes d ↦ (
            let (a, y, z) = l.found d in
            (rw (one_more, a) (in_right (take i order) (here refl)), rw a z, rw a (ready_unblocked y))
            )
        | no d ↦ (
            let a : k ≡ best = omega (arith, l.lower) in
            let (x, y, z) = r.next.found (omega arith) in
            (rw (one_more, a) (in_left (s ∷ []) x), rw a y, rw a z)
            )
      ];
      least = λ u h p w. elim (in_snoc (take i order) (rw one_more at h)) [
        | inl c ↦ (let a = r.next.least u c p w in omega (arith, l.lower))
        | inr c ↦ rw c (l.least (unblocked_ready (rw c at w)) (rw c at p) (λ d. (r.clear_now s d).0 (rw c at p)))
      ];
    };
  }

module _ {mentions ends made order pending clear : List ℕ} {best i : ℕ} (r : Passing mentions ends made order pending clear best i) (b : length order ≤ i) where
  next_end : NextReady (before_in mentions ends made) pending order (length pending) best
  next_end = rw (take_all i order b) at r.next

  pub pass_found : best < length pending → ReadyPassed mentions ends made order pending clear (Some best)
  unfolding ReadyFound
  pass_found c = record { next = (next_end, c); long = r.long; clear_now = r.clear_now }

  pub pass_none : length pending ≤ best → ReadyPassed mentions ends made order pending clear None
  unfolding ReadyFound
  pass_none c = record {
    next = (let e : best ≡ length pending = omega (arith, r.next.within) in rw e at next_end);
    long = r.long;
    clear_now = r.clear_now;
  }

pub pass_ask : {mentions ends made order pending before_clear clear : List ℕ} {best i s : ℕ} → PassAsked mentions ends made order pending before_clear → Passing mentions ends made order pending clear best i
    → i < length order → s ≡ get_or order i 0 → LookAsked mentions ends made pending clear s
pass_ask {i} q r b e = record { sound = q.sound; long = r.long; low = rw e (q.steps i b) }
