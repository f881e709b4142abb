-- The card's times are those by which steps are judged where no depfile tells anything, and the columns are what was read.
use Rattle.std.specs.Prelude.{Result}
use Prim.Native.Nat.{ℕ}
use native.Mathlib.Nat.{le_of_eq}
use mathlib.Core.List.{List}
use mathlib.Core.Path.{◌≡◌, sym, ◌∙◌}
use lib.ListN.{length}
use Rattle.spec.specs.PlanAsk.{card_time}
use Rattle.spec.proofs.NoLists.{by_card}
use Rattle.hold_columns.proofs.Held.{held_inputs, held_steps, held_sound}
use Rattle.hold_reading.specs.declared.Counts.{Counts}
use Rattle.hold_parts.proofs.Parts.{Cut, cut_tables, cut_counted}
use Rattle.ask_file_times.specs.Times.{TimesAsked, Timed}
use Rattle.ask_headed_times.proofs.Judging.{filled_times}
use Rattle.ask_plan_order.specs.Order.{RootsAsked, PlansOrdered}
use Rattle.ask_plan_unlisted.specs.Unlisted.{CardPlanAsked, PlansByCard, UnlistedAsked, PlansUnlisted}
use Rattle.spec.specs.declared.Refusal.{Refusal}

module _ {card names index mentions ends phony made roots times list : List ℕ} (q : CardPlanAsked card names index mentions ends phony made roots times list) where
  pub ask_times : TimesAsked card names index (length made) times
  ask_times = record { sound = q.card_sound; named = q.named; room = le_of_eq (sym q.timed) }

  pub ask_order : {after : List ℕ} → length after ≡ length times → RootsAsked mentions ends mentions ends phony made after roots list
  ask_order e = record {
    asked = record { sound = q.sound; timed = e ∙ q.timed; room = q.room };
    written = record { placed = q.sound.placed; low = q.sound.low };
    roots_low = q.roots_low;
  }

  pub planned : {after : List ℕ} {answer : Result ℕ Refusal} {exit : List ℕ} → Timed card names index (length made) times after
      → PlansOrdered mentions ends mentions ends phony made after roots list answer exit → PlansByCard card names index mentions ends phony made roots list answer exit
  planned t p = record {
    plans = λ i rd ls a n h w e.
        p.plans i rd (record { reading = rd; lists = ls })
        (record { held = h; timed = λ f. rw (a, by_card rd ls w (card_time card rd)) (filled_times q.card_sound t (le_of_eq q.timed) rd n f) })
        (record { held = held_inputs h }) e;
  }

-- ------------------------------------------------------------------ by the buffer

module _ {card names index graph : List ℕ} {c : Counts} {roots list mentions ends phony made : List ℕ} (e : Cut graph c mentions ends phony made) where
  pub askable : (a : UnlistedAsked card names index graph c roots list) {times : List ℕ} → c.files ≡ length times
      → CardPlanAsked card names index mentions ends phony made roots times list
  askable a l =
      let t = cut_tables e a.tabled in
      let z = cut_counted e a.tabled in
      record {
        card_sound = a.card_sound;
        named = record { files = a.reading.files; holds = rw z a.named };
        sound = rw (held_steps t) (held_sound t);
        roots_low = rw z a.roots_low;
        timed = sym l ∙ sym z;
        room = a.room;
      }

  pub plans_unlisted : {answer : Result ℕ Refusal} {exit : List ℕ} → PlansByCard card names index mentions ends phony made roots list answer exit
      → PlansUnlisted card names index graph c roots list answer exit
  plans_unlisted p = record { plans = λ i rd ls a n h w q. p.plans i rd ls a (rw (cut_counted e h) n) (cut_tables e h) w q }
