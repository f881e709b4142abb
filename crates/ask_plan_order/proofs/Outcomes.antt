-- 14, and what comes after it.
use Rattle.std.specs.Prelude.{Result, Ok, Err}
use Prim.Native.Nat.{ℕ, ◌<◌}
use native.Mathlib.Omega.{arith}
use mathlib.Core.Path.{◌≡◌, ap}
use mathlib.Core.List.{List}
use lib.ListN.{length, get_or, take}
use Rattle.lists.specs.Members.{in_at}
use Rattle.orders.specs.Order.{IsOrder, IsCircle}
use Rattle.orders.specs.Greedy.{In, By}
use Rattle.orders.specs.GreedyLaws.{order_whole}
use Rattle.orders.specs.Circle.{circle_not_whole}
use Rattle.orders.specs.Reach.{Closed, reach_closed, reach_low, direct_earlier}
use Rattle.orders.specs.Same.{circle_as}
use Rattle.spec.specs.declared.Refusal.TheVariants.{Circle}
use Rattle.spec.specs.Reading.{Reading}
use Rattle.spec.specs.Headers.{HeaderGraph}
use Rattle.spec.specs.Graph.{before, needed, has_order}
use Rattle.spec.specs.Answers.{number_of_refusal, place_of_refusal, plan_says, says}
use Rattle.spec.specs.PlanAsk.{Inputs, roots_of, plan_ordered}
use Rattle.spec.specs.Promises.{PlanMeets}
use Rattle.spec.proofs.Graph.{in_before, in_needed}
use Rattle.hold_columns.specs.Columns.{makers_in, before_in, needed_in, FilesMade}
use Rattle.hold_columns.proofs.Makers.{makers_small}
use Rattle.hold_columns.proofs.Held.{before_small, held_before, held_needed, held_steps}
use Rattle.graph_order.specs.Sort.{NeededAsked, NeededSorted, InOrder, InCircle}
use Rattle.ask_plan_list.specs.Stages.{Staged, OrderOf}
use Rattle.ask_plan_sources.specs.Sources.{SourcesAsked, PlansSources}
use Rattle.ask_plan_order.specs.Order.{RootsAsked, OrderSpaceAsked, PlansOrdered}
use Rattle.spec.specs.declared.Refusal.{Refusal}

-- ---- what sorting tells, by its answer

module _ (mentions ends made roots order list exit : List ℕ) {n m : ℕ} {o : Result ℕ ℕ} (s : NeededSorted mentions ends made roots n order list exit o) (z : n ≡ m) where
  pub order_told : {k : ℕ} → o ≡ Ok k → InOrder mentions ends made roots m order k list exit
  unfolding NeededSorted
  order_told e = rw (e, z) at s

  pub circle_told : {k : ℕ} → o ≡ Err k → InCircle mentions ends made roots m k list exit
  unfolding NeededSorted
  circle_told e = rw (e, z) at s

-- ---- what it says of the steps held

module _ {i : Inputs} (rd : Reading) {h : HeaderGraph} {mentions ends phony made times roots : List ℕ} (s : Staged i h mentions ends phony made times) (e : roots ≡ roots_of i rd) where
  needed_order_law : {l : List ℕ} → IsOrder (In (needed_in mentions ends made (length phony) roots)) (By (before_in mentions ends made)) l → OrderOf i rd h l
  needed_order_law o = rw (held_steps s.held, e, held_needed s.held (roots_of i rd), held_before s.held) at o

  needed_circle : {c : List ℕ} → IsCircle (In (needed_in mentions ends made (length phony) roots)) (By (before_in mentions ends made)) c
      → IsCircle (In (needed h.reading.steps (roots_of i rd))) (By (before h.reading.steps)) c
  needed_circle o = rw (held_steps s.held, e, held_needed s.held (roots_of i rd), held_before s.held) at o

module _ {wmentions wends mentions ends phony made times roots list : List ℕ} where
  -- 14
  pub circle : {k : ℕ} {exit : List ℕ} → InCircle mentions ends made roots (length phony) k list exit
      → PlansOrdered wmentions wends mentions ends phony made times roots list (Err (Circle k)) exit
  unfolding plan_ordered has_order PlanMeets plan_says number_of_refusal place_of_refusal
  circle c =
      record {
        plans = λ i rd h s w e.
            let real = needed_circle rd s e c.real in
            rw (circle_not_whole (needed h.reading.steps (roots_of i rd)) (before h.reading.steps) real) (record {
              circle = c.circle;
              real = circle_as (λ t. in_needed h.reading.steps (roots_of i rd)) (λ t x m. in_before h.reading.steps t) real;
              shown = record { says = ap (says 14) c.shown.counted; leaves = c.shown.shown };
            });
      }

  -- the list is as it was
  pub goes_on : {order lent exit : List ℕ} {k : ℕ} {answer : Result ℕ Refusal} → InOrder mentions ends made roots (length phony) order k list lent
      → PlansSources wmentions wends mentions ends phony made times roots (take k order) lent answer exit → PlansOrdered wmentions wends mentions ends phony made times roots list answer exit
  unfolding plan_ordered has_order
  goes_on r p =
      record {
        plans = λ i rd h s w e.
            let o = needed_order_law rd s e r.sorted.in_order in
            rw (order_whole (needed h.reading.steps (roots_of i rd)) (before h.reading.steps) o) (rw r.kept at (p.plans i rd h s w e o));
      }

-- ---- what the functions called ask

pub ask_sort : {wmentions wends mentions ends phony made times roots order list : List ℕ} → OrderSpaceAsked wmentions wends mentions ends phony made times roots order list → NeededAsked mentions ends made roots order list
ask_sort q = record {
  sound = rw q.long q.asked.asked.sound;
  files = rw q.long (record { low = q.asked.roots_low; makers = q.asked.asked.sound.makers });
  room = omega (arith, q.long, q.asked.asked.sound.few_steps, q.asked.asked.room);
}

module _ {wmentions wends mentions ends phony made times roots list : List ℕ} (q : RootsAsked wmentions wends mentions ends phony made times roots list) where
  files : FilesMade (length phony) roots made
  files = record { low = q.roots_low; makers = q.asked.sound.makers }

  closed : Closed (before_in mentions ends made) (In (needed_in mentions ends made (length phony) roots))
  unfolding needed_in
  closed = reach_closed (before_in mentions ends made) (length phony) (makers_in made roots) (before_small q.asked.sound) (makers_small files)

  order_low : {l : List ℕ} → IsOrder (In (needed_in mentions ends made (length phony) roots)) (By (before_in mentions ends made)) l → (s : ℕ) → s < length l → get_or l s 0 < length phony
  unfolding needed_in
  order_low {l} o s b = reach_low (before_in mentions ends made) (length phony) (makers_in made roots) (o.lists.no_others (get_or l s 0) (in_at l s b))

  pub ask_sources : {order exit : List ℕ} {k : ℕ} → InOrder mentions ends made roots (length phony) order k list exit
      → SourcesAsked wmentions wends mentions ends phony made times roots (take k order) exit
  ask_sources r = record {
    asked = record {
      asked = record { sound = q.asked.sound; timed = q.asked.timed; room = rw r.kept q.asked.room };
      sorted = record { once = r.sorted.in_order.lists.once; after = direct_earlier closed r.sorted.in_order };
      steps = order_low r.sorted.in_order;
    };
    written = q.written;
    roots_low = q.roots_low;
  }
