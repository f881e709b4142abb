-- The list by the times by which steps are judged is the ask's.
use Rattle.std.specs.Prelude.{Ok}
use Prim.Native.Nat.{ℕ}
use native.Mathlib.Omega.{arith}
use mathlib.Core.Path.{ap, fun_ext}
use mathlib.Core.List.{List}
use lib.ListN.{length}
use Rattle.spec.specs.Answers.{plan_says, says}
use Rattle.spec.specs.PlanAsk.{roots_of, plan_listed}
use Rattle.spec.specs.Promises.{PlanMeets}
use Rattle.graph_list.specs.Listing.{StaleListAsked, StaleListed}
use Rattle.ask_plan_list.specs.Stages.{OrderAsked, PlansListed}

module _ {mentions ends phony made times order list : List ℕ} where
  pub ask_list : OrderAsked mentions ends phony made times order list → StaleListAsked mentions ends phony made times order list
  ask_list q = record {
    sound = q.asked.sound;
    timed = q.asked.timed;
    sorted = q.sorted;
    steps = q.steps;
    room = omega (arith, q.asked.sound.few_steps, q.asked.room);
  }

  pub listed : {k : ℕ} {exit : List ℕ} → StaleListed mentions ends phony made times order list k exit → PlansListed mentions ends phony made times order list (Ok k) exit
  unfolding plan_listed PlanMeets plan_says
  listed l =
      record {
        plans = λ i rd h s o.
            let t = rw (fun_ext s.timed) at (l h.reading.steps (length h.reading.files) (roots_of i rd) s.held o) in
            record { says = ap (says 0) t.counted; leaves = t.shown };
      }
