-- The marked table holds: each case by computing the definitions, and M7's circle by the promise.
use Rattle.std.specs.Prelude.{Result}
use Prim.Native.Nat.{ℕ, ◌<◌}
use native.Mathlib.Omega.{arith}
use mathlib.Core.Path.{◌≡◌, refl, sym, ap, ◌∙◌}
use mathlib.Core.List.{List, [], ◌∷◌}
use lib.ListN.{length}
use Rattle.lists.specs.Text.{bytes}
use Rattle.lists.specs.Members.{◌∈◌, here, there, Once, once_head}
use Rattle.spec.specs.Answers.{Said, plan_says, says}
use Rattle.spec.specs.Card.{sound_card, card_entries, time_in}
use Rattle.spec.specs.Bundle.{alone, no_lists}
use Rattle.spec.specs.PlanAsk.{inputs_of, plan_ask, circular}
use Rattle.spec.specs.TextAsk.{text_ask}
use Rattle.spec.specs.Words.{Needed}
use Rattle.spec.specs.Promises.{filled, AnswerIs, Shows, PlanMeets, PlanPromise}
use Rattle.spec.specs.Marked.{card_of, phony_step_of, Marked}
use Rattle.spec.proofs.Graph.{needed_low}
use Rattle.spec.specs.declared.Refusal.{Refusal}

only_zero : (c : List ℕ) → 0 < length c → Once c → ((s : ℕ) → s ∈ c → s ≡ 0) → c ≡ 0 ∷ []
only_zero [] b o f = absurd (omega arith)
only_zero (x ∷ []) b o f = ap (λ (n : ℕ). n ∷ []) (f x (here refl))
only_zero (x ∷ y ∷ l) b o f = absurd (once_head x (y ∷ l) o (here (f x (here refl) ∙ sym (f y (there (here refl))))))

shows_zero : (lent exit : List ℕ) (said : Said) → Shows (phony_step_of 0 (0 ∷ []) ∷ []) (0 ∷ []) lent said exit → AnswerIs said exit (says 14 1) (filled (0 ∷ []) lent)
shows_zero lent exit said p =
    let e : p.circle ≡ 0 ∷ [] = only_zero p.circle p.real.one_or_more p.real.once (λ s h. lowest (p.real.wanted s h)) in
    rw e at p.shown
  where
    lowest : {s : ℕ} → Needed (phony_step_of 0 (0 ∷ []) ∷ []) (0 ∷ []) s → s ≡ 0
    lowest n = let b = needed_low n in omega arith

m7_circular : plan_ask (inputs_of (alone (bytes "build a: phony a\n")) (card_of []) (bytes "a\n") no_lists) 512 ≡ circular (phony_step_of 0 (0 ∷ []) ∷ []) (0 ∷ [])
unfolding plan_ask alone
m7_circular = refl

m7_right : (lent : List ℕ) (answer : Result ℕ Refusal) (exit : List ℕ) → length lent ≡ 512
    → PlanPromise (inputs_of (alone (bytes "build a: phony a\n")) (card_of []) (bytes "a\n") no_lists) lent answer exit → AnswerIs (plan_says answer) exit (says 14 1) (filled (0 ∷ []) lent)
unfolding PlanMeets
m7_right lent answer exit room p =
    let e : plan_ask (inputs_of (alone (bytes "build a: phony a\n")) (card_of []) (bytes "a\n") no_lists) (length lent) ≡ circular (phony_step_of 0 (0 ∷ []) ∷ []) (0 ∷ []) = rw room m7_circular in
    shows_zero lent exit (plan_says answer) (rw e at p)

pub marked : Marked
unfolding plan_ask text_ask sound_card card_entries time_in alone
marked = record { m0 = refl; m0_first = refl; m0_second = refl; m1 = refl; m2 = refl; m2_none = refl; m3 = refl; m4 = refl; m5 = refl; m6 = refl; m7 = m7_right; m8 = refl; m9 = refl; m10_length = refl; m10_bytes = refl; m10_sound = refl; m10_time = refl }
