-- The order, the circle, the verdicts and the list that are computed are those of the words: what demand 3 rests on.
use Prim.Native.Nat.{ℕ}
use mathlib.Core.Path.{◌≡◌, sym, ap, ◌∙◌}
use mathlib.Core.Logic.{◌↔◌}
use mathlib.Core.Bool.{true, false, not, true≢false}
use mathlib.Core.List.{List}
use lib.ListN.{length}
use borrow.Author.Tests.{not-true}
use Rattle.lists.specs.Tests.{split, and_true, and_left, and_right}
use Rattle.lists.specs.Members.{◌∈◌, Rising, in_keep, keep_in, rising_keep}
use Rattle.orders.specs.Order.{IsOrder}
use Rattle.orders.specs.Greedy.{In, By}
use Rattle.orders.specs.GreedyLaws.{whole_order, whole_least, order_whole}
use Rattle.orders.specs.Circle.{circle_of, not_whole_circle}
use Rattle.orders.specs.Reach.{Closed, upstream, upstream_whole, rising_reach, upstream_sound}
use Rattle.orders.specs.Along.{Solves, values, along_solves, solution_unique}
use Rattle.orders.specs.Same.{order_as, circle_as, least_as}
use Rattle.spec.specs.Reading.{Step}
use Rattle.spec.specs.Graph.{makers_of, before, needed, needed_order, has_order}
use Rattle.spec.specs.Stale.{Verdict, unknown, verdicts_along, verdicts_of, phony_step, is_stale, stale_needed, list_of}
use Rattle.spec.specs.Headers.{Listed, judged}
use Rattle.spec.specs.Words.{Needed, input, NeededOrder, NeededCircle, RightVerdicts, Stale, StaleList}
use Rattle.spec.proofs.Graph.{in_before, in_needed, in_upstream, needed_low}
use Rattle.spec.proofs.Stale.{told_verdict, verdict_local, told_local}
use Rattle.spec.proofs.StaleWords.{verdict_words}
use Rattle.spec.proofs.Judged.{SoundSteps, judged_agrees}

module _ (steps : List Step) (roots : List ℕ) where
  wanted : (s : ℕ) → In (needed steps roots) s ↔ Needed steps roots s
  wanted s = in_needed steps roots

  flipped : (s : ℕ) → Needed steps roots s ↔ In (needed steps roots) s
  flipped s = ((in_needed steps roots).1, (in_needed steps roots).0)

  -- what is computed as an order is one
  pub order_right : has_order steps roots ≡ true → NeededOrder steps roots (needed_order steps roots)
  unfolding has_order needed_order
  order_right e = order_as wanted (λ s w m. in_before steps s) (whole_order (needed steps roots) (before steps) e)

  computed_order : {l : List ℕ} → NeededOrder steps roots l → IsOrder (In (needed steps roots)) (By (before steps)) l
  computed_order o = order_as flipped (λ s w m. ((in_before steps s).1, (in_before steps s).0)) o

  pub has_order_law : {l : List ℕ} → NeededOrder steps roots l → has_order steps roots ≡ true
  unfolding has_order
  has_order_law o = order_whole (needed steps roots) (before steps) (computed_order o)

  -- where there is no order there is a circle
  pub some_circle : has_order steps roots ≡ false → NeededCircle steps roots (circle_of (needed steps roots) (before steps))
  unfolding has_order
  some_circle e = circle_as wanted (λ s w m. in_before steps s) (not_whole_circle (needed steps roots) (before steps) e)

  pub no_order : (¬ ((l : List ℕ) × NeededOrder steps roots l)) ↔ (has_order steps roots ≡ false)
  no_order = (
    λ f. split (has_order steps roots) (λ (e : has_order steps roots ≡ true). absurd (f (needed_order steps roots, order_right e))) (λ (e : has_order steps roots ≡ false). e),
    λ e o. true≢false (sym (has_order_law o.1) ∙ e),
  )

  needed_closed : Closed (before steps) (In (needed steps roots))
  needed_closed s h m k = (in_needed steps roots).1 (input ((in_needed steps roots).0 h) ((in_before steps s).0 k))

  module _ (card : ℕ → ℕ) (ls : List Listed) where
    -- what is told of each needed step
    abbrev pub told_of : ℕ → Verdict
    told_of = values unknown (told_verdict steps card ls) (needed_order steps roots)

    told_solves : {l : List ℕ} → NeededOrder steps roots l → Solves (told_verdict steps card ls) (In (needed steps roots)) (values unknown (told_verdict steps card ls) l)
    told_solves o = along_solves (told_local steps card ls) needed_closed (computed_order o) unknown

    -- the verdicts along any order of the needed steps
    pub verdicts_right : {l : List ℕ} → NeededOrder steps roots l → RightVerdicts steps card ls roots (values unknown (told_verdict steps card ls) l)
    verdicts_right {l} o s w = (verdict_words steps card ls (values unknown (told_verdict steps card ls) l) s).0 (told_solves o s ((in_needed steps roots).1 w))

    -- document 01's sentences fix the verdicts
    pub verdicts_unique : {l : List ℕ} → NeededOrder steps roots l → (v w : ℕ → Verdict) → RightVerdicts steps card ls roots v → RightVerdicts steps card ls roots w
        → (s : ℕ) → Needed steps roots s → v s ≡ w s
    verdicts_unique o v w p q s n =
        solution_unique (told_local steps card ls) needed_closed (computed_order o) v w
        (λ t h. (verdict_words steps card ls v t).1 (p t ((in_needed steps roots).0 h)))
        (λ t h. (verdict_words steps card ls w t).1 (q t ((in_needed steps roots).0 h))) s ((in_needed steps roots).1 n)

    -- the computed verdicts, by the judged times, are stale where the words say so
    judged_stale : SoundSteps steps ls → {l : List ℕ} → NeededOrder steps roots l → (v : ℕ → Verdict) → RightVerdicts steps card ls roots v
        → (s : ℕ) → Needed steps roots s → (v s).stale ≡ (verdicts_of steps (judged steps card ls) roots s).stale
    unfolding verdicts_along
    judged_stale w o v r s n =
        (judged_agrees steps card ls w needed_closed (computed_order o) (λ t h. needed_low ((in_needed steps roots).0 h)) v (verdicts_of steps (judged steps card ls) roots)
        (λ t h. (verdict_words steps card ls v t).1 (r t ((in_needed steps roots).0 h)))
        (along_solves (verdict_local steps (judged steps card ls)) needed_closed (computed_order (order_right (has_order_law o))) unknown)
        s ((in_needed steps roots).1 n)).stale

    module _ (w : SoundSteps steps ls) {l : List ℕ} (o : NeededOrder steps roots l) where
      abbrev times : ℕ → ℕ
      times = judged steps card ls

      -- a step counts as one whose outputs are missing where its depfile makes it stale: those that are stale by these times are stale by the words
      pub in_stale : (v : ℕ → Verdict) → RightVerdicts steps card ls roots v → {s : ℕ} → (s ∈ stale_needed steps times roots) ↔ Stale steps roots v s
      unfolding stale_needed is_stale
      in_stale v r {s} = (
        λ h. let (n, e) = in_keep (is_stale steps times roots) (needed steps roots) h in
            let c = and_left (not (phony_step steps s)) (verdicts_of steps times roots s).stale e in
            let d = and_right (not (phony_step steps s)) (verdicts_of steps times roots s).stale e in
            let k : Needed steps roots s = (in_needed steps roots).0 n in
            record { needed = k; command = not-true (phony_step steps s) c; stale = judged_stale w o v r s k ∙ d },
        λ q. keep_in (is_stale steps times roots) (needed steps roots) ((in_needed steps roots).1 q.needed)
            (and_true (not (phony_step steps s)) (verdicts_of steps times roots s).stale (ap not q.command) (sym (judged_stale w o v r s q.needed) ∙ q.stale)),
      )

      rising_stale : Rising (stale_needed steps times roots)
      unfolding stale_needed needed
      rising_stale = rising_keep (is_stale steps times roots) (needed steps roots) (rising_reach (before steps) (length steps) (makers_of steps roots))

      -- the computed list is the least one
      pub list_right : (v : ℕ → Verdict) → RightVerdicts steps card ls roots v → StaleList steps roots v (list_of steps times roots)
      unfolding list_of
      list_right v r =
          let up = upstream (before steps) (length steps) in
          least_as (λ s. in_stale v r) (λ s q m. in_upstream steps s (needed_low ((in_stale v r).0 q).needed))
          (whole_least (stale_needed steps times roots) up rising_stale
          (upstream_whole needed_closed (computed_order o) (stale_needed steps times roots) up
          (λ s h. (in_needed steps roots).1 ((in_stale v r).0 h).needed)
          (λ s h m k. upstream_sound (before steps) (length steps) s k)))
