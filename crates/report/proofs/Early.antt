-- Only a circle is refused with 14: reading refuses with 2 to 10 and 19, and the checks around it with 1, 11, 12, 13, 15, 16, 17 and 20.
use Prim.Native.Nat.{ℕ}
use native.Mathlib.Omega.{arith}
use mathlib.Core.Path.{◌≡◌}
use Rattle.spec.specs.declared.Refusal.{Refusal}
use Rattle.spec.specs.Answers.{number_of_refusal}
use Rattle.spec.specs.PlanAsk.{Inputs, no_plan, plan_ask}
use Rattle.spec.proofs.Manifests.{of_reading}
use Rattle.spec.proofs.Demands.{header_number}
use Rattle.spec.proofs.Outcomes.{Not14, of_read}
use Rattle.answer_places.proofs.Outcomes.{PlanRefusals, plan_refuses}

no_circle : PlanRefusals Not14
unfolding number_of_refusal
no_circle =
    record {
      short = λ e. omega arith;
      card = λ e. omega arith;
      target = λ p e. omega arith;
      root = λ e. omega arith;
      headers = λ r o e. omega (arith, header_number o, e);
      source = λ f e. omega arith;
    }

-- No outcome but a circle has the number 14.
pub not_14 : (i : Inputs) (room : ℕ) {r : Refusal} → plan_ask i room ≡ no_plan r → Not14 r
not_14 i room e = plan_refuses Not14 i no_circle room (λ q h. of_read (of_reading i.manifest h)) e
