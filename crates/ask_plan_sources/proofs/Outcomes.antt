-- 15, and what comes after it.
use Rattle.std.specs.Prelude.{Option, Some, None, Result, Err}
use Prim.Native.Nat.{ℕ}
use native.Mathlib.Nat.{le_refl}
use mathlib.Core.Path.{◌≡◌, refl, ◌∙◌}
use mathlib.Core.List.{List}
use lib.ListN.{length, get_or}
use Rattle.lists.specs.Fill.{zeroed}
use Rattle.spec.specs.declared.Refusal.TheVariants.{MissingSource}
use Rattle.spec.specs.Answers.{number_of_refusal, plan_says}
use Rattle.spec.specs.PlanAsk.{plan_sources}
use Rattle.spec.specs.Promises.{left_by, PlanMeets}
use Rattle.spec.proofs.Promises.{cleared}
use Rattle.graph_sources.specs.Sources.{MissingFound, SourceAsked}
use Rattle.ask_plan_list.specs.Stages.{PlansListed}
use Rattle.ask_plan_sources.specs.Sources.{SourcesAsked, PlansSources}
use Rattle.ask_plan_sources.proofs.Missing.{missing_found, missing_not}
use Rattle.spec.specs.declared.Refusal.{Refusal}

pub ask_missing : {wmentions wends mentions ends phony made times roots order list : List ℕ} → SourcesAsked wmentions wends mentions ends phony made times roots order list
    → SourceAsked wmentions wends made times roots order
ask_missing {order = order} q = record {
  placed = λ s b. q.written.placed (get_or order s 0) (q.asked.steps s b);
  low = q.written.low;
  roots_low = q.roots_low;
  timed = q.asked.asked.timed;
}

module _ {wmentions wends mentions ends phony made times roots order list : List ℕ} {o : Option ℕ} (m : MissingFound wmentions wends made times roots order (length made) o) {exit : List ℕ} where
  -- 15
  pub missing : {r : ℕ} → o ≡ Some r → exit ≡ zeroed list 0 (length list) → PlansSources wmentions wends mentions ends phony made times roots order list (Err (MissingSource r)) exit
  unfolding plan_sources PlanMeets plan_says left_by number_of_refusal MissingFound
  missing k z = let (l, b) = rw k at m in record { plans = λ i rd h s w e o. rw (missing_found s w o (rw e at l) b) (record { says = refl; leaves = z ∙ cleared list }) }

  pub goes_on : o ≡ None → {answer : Result ℕ Refusal} → PlansListed mentions ends phony made times order list answer exit
      → PlansSources wmentions wends mentions ends phony made times roots order list answer exit
  unfolding plan_sources MissingFound
  goes_on k p = let l = rw k at m in record { plans = λ i rd h s w e o. rw (missing_not s w o (rw e at l) (le_refl (length made))) (p.plans i rd h s o) }
