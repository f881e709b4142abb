-- The marks of the stale needed command steps.
use Prim.Native.Nat.{ℕ, ◌+◌, ◌≤◌, ◌<◌}
use native.Mathlib.Decide.{dec_lt, ℕ_discrete}
use native.Mathlib.Omega.{arith}
use mathlib.Core.Path.{◌≡◌, refl, sym, ap, ap₂, ◌∙◌}
use mathlib.Core.Bool.{Bool, true, false, ◌&&◌}
use mathlib.Core.List.{List}
use lib.Dec.{eqb}
use lib.ListN.{length, get_or, set, length-set, get_or-eq_default}
use lib.Seq.{get_or-set_same, get_or-set_other}
use Rattle.lists.specs.Tests.{split, differ}
use Rattle.lists.specs.Fill.{zeros, get_or_zeros}
use Rattle.lists.specs.Members.{◌∈◌, has, has_true, has_false, in_has, not_in_has, keep, in_keep, keep_in, dec_in}
use Rattle.orders.specs.Order.{IsOrder}
use Rattle.orders.specs.Greedy.{In, By}
use Rattle.orders.specs.GreedyLaws.{whole_order, order_whole}
use Rattle.orders.specs.Reach.{Closed, direct_earlier}
use Rattle.orders.specs.Along.{Solves, along_solves, solution_unique}
use Rattle.spec.specs.Reading.{Step}
use Rattle.spec.specs.Graph.{before, needed, needed_order}
use Rattle.spec.specs.Stale.{Verdict, unknown, phony_step, verdict, verdicts_along, verdicts_of, is_stale, stale_needed}
use Rattle.spec.specs.Words.{input}
use Rattle.spec.proofs.Graph.{in_before, in_needed}
use Rattle.spec.proofs.Stale.{verdict_local}
use Rattle.hold_columns.specs.Columns.{bit, HoldsColumns, Marks, SortedSteps}
use Rattle.hold_columns.proofs.Held.{held_phony}
use Rattle.graph_stale.specs.Judge.{known, time_at, VerdictTold, AllTold, CommandsKept, StaleMarked}
use Rattle.graph_stale.proofs.Judging.{bit_test}

-- the steps below s are seen to
pub record Keeping (phony marks now : List ℕ) (s : ℕ) : Type 0 where
  pub within : s ≤ length phony
  pub long : length now ≡ length phony
  pub off : (u : ℕ) → u < s → get_or phony u 0 ≡ 1 → get_or now u 0 ≡ 0
  pub kept : (u : ℕ) → u < s → (get_or phony u 0 ≡ 1 → ⊥) → get_or now u 0 ≡ get_or marks u 0
  pub left : (u : ℕ) → s ≤ u → get_or now u 0 ≡ get_or marks u 0

pub keep_begin : {phony marks : List ℕ} → length marks ≡ length phony → Keeping phony marks marks 0
keep_begin e = record { within = omega arith; long = e; off = λ u b. absurd (omega arith); kept = λ u b. absurd (omega arith); left = λ u b. refl }

module _ {phony marks now : List ℕ} {s : ℕ} (r : Keeping phony marks now s) (b : s < length phony) {v : ℕ} (e : v ≡ get_or phony s 0) where
  pub keep_off : v ≡ 1 → Keeping phony marks (set now s 0) (s + 1)
  keep_off w = record {
    within = omega arith;
    long = simp length-set r.long;
    off = λ u c p. elim (ℕ_discrete u s) [
      | yes q ↦ rw q (get_or-set_same now s 0 0 (omega (arith, r.long)))
      | no d ↦ get_or-set_other now s u 0 0 d ∙ r.off u (omega arith) p
    ];
    kept = λ u c p. elim (ℕ_discrete u s) [
      | yes q ↦ absurd (p (rw q (sym e ∙ w)))
      | no d ↦ get_or-set_other now s u 0 0 d ∙ r.kept u (omega arith) p
    ];
    left = λ u c. get_or-set_other now s u 0 0 (λ q. omega arith) ∙ r.left u (omega arith);
  }

  pub keep_on : (v ≡ 1 → ⊥) → Keeping phony marks now (s + 1)
  keep_on w = record {
    within = omega arith;
    long = r.long;
    off = λ u c p. elim (ℕ_discrete u s) [ yes q ↦ absurd (w (e ∙ rw q at p)) | no d ↦ r.off u (omega arith) p ];
    kept = λ u c p. elim (ℕ_discrete u s) [ yes q ↦ r.left u (omega arith) | no d ↦ r.kept u (omega arith) p ];
    left = λ u c. r.left u (omega arith);
  }

pub keep_end : {phony marks now : List ℕ} {s : ℕ} → Keeping phony marks now s → length phony ≤ s → CommandsKept phony marks now
keep_end r b = record { long = r.long; off = λ u c. r.off u (omega arith); kept = λ u c. r.kept u (omega arith) }

has_keep : (p : ℕ → Bool) (l : List ℕ) (s : ℕ) → has s (keep p l) ≡ (has s l && p s)
has_keep p l s = split (has s l)
    (λ (e : has s l ≡ true). split (p s)
    (λ (f : p s ≡ true). rw (e, f) (in_has (keep_in p l (has_true s l e) f)))
    (λ (f : p s ≡ false). rw (e, f) (not_in_has {x = s} {l = keep p l} (λ h. differ (in_keep p l h).1 f))))
    (λ (e : has s l ≡ false). rw e (not_in_has {x = s} {l = keep p l} (λ h. has_false s l e (in_keep p l h).0)))

and_none : (a : Bool) → (a && false) ≡ false
and_none true = refl
and_none false = refl

told_of : Bool → ℕ → Verdict
told_of b t = record { stale = b; time = t }

needed_closed : (steps : List Step) (roots : List ℕ) → Closed (before steps) (In (needed steps roots))
needed_closed steps roots s h m k = (in_needed steps roots).1 (input ((in_needed steps roots).0 h) ((in_before steps s).0 k))

-- a mark stands at a step of the order
marked_inside : {mentions ends phony made times order blank stale late exit : List ℕ} → AllTold mentions ends phony made times order blank stale late
    → blank ≡ zeros (length phony) → CommandsKept phony stale exit → (s : ℕ) → get_or exit s 0 ≡ 1 → s ∈ order
marked_inside {phony} {order} {exit} t unmarked k s e = elim (dec_lt s (length phony)) [
  | yes b ↦ elim (ℕ_discrete (get_or phony s 0) 1) [
    | yes p ↦ absurd (omega (arith, k.off s b p))
    | no p ↦ elim (dec_in s order) [
      | yes h ↦ h
      | no h ↦ absurd (omega (arith, k.kept s b p, t.others s h, ap (λ (l : List ℕ). get_or l s 0) unmarked, get_or_zeros (length phony) s))
    ]
  ]
  | no b ↦ absurd (omega (arith, get_or-eq_default exit 0 {n = s} (omega (arith, k.long))))
]

module _ {mentions ends phony made times order blank stale late exit : List ℕ} (t : AllTold mentions ends phony made times order blank stale late)
    (unmarked : blank ≡ zeros (length phony)) (k : CommandsKept phony stale exit) {steps : List Step} {files : ℕ} (h : HoldsColumns steps files mentions ends phony made)
    (roots : List ℕ) (o : IsOrder (In (needed steps roots)) (By (before steps)) order) where
  sorted : SortedSteps (before steps) order
  sorted = record { once = o.lists.once; after = direct_earlier (needed_closed steps roots) o }

  of : (s : ℕ) → s ∈ needed steps roots → VerdictTold steps times stale late s (record { stale = get_or stale s 0; time = get_or late s 0 })
  of s w = t.told steps files h sorted s (o.lists.each s w)

  solves : Solves (verdict steps (time_at times)) (In (needed steps roots)) (known stale late)
  unfolding told_of
  solves s w = ap₂ told_of (ap (λ (n : ℕ). eqb n 1) (of s w).told_stale ∙ bit_test (verdict steps (time_at times) (known stale late) s).stale) (of s w).told_time

  same : (s : ℕ) → s ∈ needed steps roots → known stale late s ≡ verdicts_of steps (time_at times) roots s
  unfolding verdicts_along needed_order
  same = solution_unique (verdict_local steps (time_at times)) (needed_closed steps roots) o (known stale late) (verdicts_of steps (time_at times) roots) solves
      (along_solves (verdict_local steps (time_at times)) (needed_closed steps roots) (whole_order (needed steps roots) (before steps) (order_whole (needed steps roots) (before steps) o)) unknown)

  -- the mark before the phony steps' are taken off
  needed_mark : (s : ℕ) → get_or stale s 0 ≡ bit (has s (needed steps roots) && (verdicts_of steps (time_at times) roots s).stale)
  needed_mark s = split (has s (needed steps roots))
      (λ (e : has s (needed steps roots) ≡ true).
      let w : s ∈ needed steps roots = has_true s (needed steps roots) e in
      rw e ((of s w).told_stale ∙ ap (λ (v : Verdict). bit v.stale) (sym (solves s w) ∙ same s w)))
      (λ (e : has s (needed steps roots) ≡ false).
      rw e (t.others s (λ w. has_false s (needed steps roots) e (o.lists.no_others s w)) ∙ ap (λ (l : List ℕ). get_or l s 0) unmarked ∙ get_or_zeros (length phony) s))

  stale_mark : (s : ℕ) → s < length phony → get_or exit s 0 ≡ bit (has s (needed steps roots) && is_stale steps (time_at times) roots s)
  unfolding is_stale
  stale_mark s b = split (phony_step steps s)
      (λ (e : phony_step steps s ≡ true). rw (e, and_none (has s (needed steps roots))) (k.off s b (held_phony h s ∙ ap bit e)))
      (λ (e : phony_step steps s ≡ false). rw e (k.kept s b (λ q. absurd (omega (arith, sym q ∙ held_phony h s ∙ ap bit e))) ∙ needed_mark s))

  stale_marks : Marks (length phony) (stale_needed steps (time_at times) roots) exit
  unfolding stale_needed
  stale_marks = record {
    long = k.long;
    marked = λ s b. stale_mark s b ∙ ap bit (sym (has_keep (is_stale steps (time_at times) roots) (needed steps roots) s));
  }

pub all_marked : {mentions ends phony made times order blank stale late exit : List ℕ} → AllTold mentions ends phony made times order blank stale late
    → blank ≡ zeros (length phony) → CommandsKept phony stale exit → StaleMarked mentions ends phony made times order exit
all_marked t unmarked k = record { long = k.long; inside = marked_inside t unmarked k; marked = λ steps files roots h o. stale_marks t unmarked k h roots o }
