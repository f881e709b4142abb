-- The stages behind the header lists, one after another.
use Rattle.std.specs.Prelude.{Result}
use mathlib.Core.Path.{◌≡◌, ◌∙◌}
use mathlib.Core.List.{List}
use Prim.Native.Nat.{ℕ}
use native.Mathlib.Omega.{arith}
use lib.ListN.{length}
use Rattle.ask_headed_times.specs.Times.{HeadedAsked, HeadedTimes}
use Rattle.ask_plan_order.specs.Order.{RootsAsked, PlansOrdered}
use Rattle.ask_plan_headed.specs.Headed.{HeadedSpaceAsked, PlansHeaded}
use Rattle.spec.specs.declared.Refusal.{Refusal}

module _ {card names index wmentions wends mentions ends phony made missing listed roots times list : List ℕ} (q : HeadedSpaceAsked card names index wmentions wends mentions ends phony made missing listed roots times list) where
  pub ask_times : HeadedAsked card names index mentions ends made missing listed times
  ask_times = record {
    sound = q.asked.card_sound;
    named = q.asked.named;
    asked = record {
      sound = rw q.asked.missing_long q.asked.sound;
      listed_long = omega (arith, q.asked.listed_long, q.asked.missing_long);
      few = λ s b. q.asked.few s (omega (arith, b, q.asked.missing_long));
      timed = q.timed;
    };
  }

  pub ask_order : {after : List ℕ} → length after ≡ length times → RootsAsked wmentions wends mentions ends phony made after roots list
  ask_order e = record {
    asked = record { sound = q.asked.sound; timed = e ∙ q.timed; room = q.asked.room };
    written = q.asked.written;
    roots_low = q.asked.roots_low;
  }

pub planned : {card names index wmentions wends mentions ends phony made missing listed roots times list : List ℕ} {answer : Result ℕ Refusal} {exit : List ℕ} → HeadedTimes card names index mentions ends made missing listed times
    → PlansOrdered wmentions wends mentions ends phony made times roots list answer exit → PlansHeaded card names index wmentions wends mentions ends phony made missing listed roots list answer exit
planned {phony = phony} t p = record { plans = λ i rd h c w x e. p.plans i rd h (record { held = w.held; timed = t.timed i h phony c w }) x e }
