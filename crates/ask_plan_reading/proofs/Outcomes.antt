-- 11 and 12, and what comes after them.
use Rattle.std.specs.Prelude.{Result, Ok, Err}
use Prim.Native.Nat.{ℕ, ◌≤◌, ◌<◌}
use mathlib.Core.Bool.{true, false}
use mathlib.Core.List.{List}
use mathlib.Core.Option.{some}
use mathlib.Core.Path.{◌≡◌, refl, ◌∙◌, subst}
use native.Mathlib.Omega.{arith}
use lib.ListN.{length, take}
use lib.Seq.{length-take-le, get_or-take}
use Rattle.lists.specs.Fill.{zeroed}
use Rattle.spec.specs.declared.Refusal.TheVariants.{BadCard, BadTarget}
use Rattle.spec.specs.Reading.{Reading}
use Rattle.spec.specs.Card.{sound_card}
use Rattle.spec.specs.Targets.{bad_target}
use Rattle.spec.specs.Answers.{number_of_refusal, plan_says}
use Rattle.spec.specs.PlanAsk.{inputs_of, target_files, plan_targets, plan_read}
use Rattle.spec.specs.Promises.{left_by, PlanMeets}
use Rattle.spec.proofs.Promises.{cleared}
use Rattle.hold_bindings.specs.Log.{Logged}
use Rattle.hold_reading.specs.declared.Counts.{Counts}
use Rattle.hold_reading.specs.Held.{HoldsReading}
use Rattle.hold_reading.specs.Buffers.{Buffers}
use Rattle.ask_target_files.specs.Numbered.{target_numbers_of, NumberingAsked, TargetsNumbered, Says, NumbersTargets}
use Rattle.ask_plan_columns.specs.Columns.{ColumnsAsked, PlansColumns}
use Rattle.ask_plan_reading.specs.Asked.{NumbersSpaceAsked, PlansTargets, PlansRead}
use Rattle.spec.specs.declared.Refusal.{Refusal}

module _ {headers card targets : List ℕ} {bs : Buffers} {c : Counts} {list exit : List ℕ} where
  -- ---- 11

  pub bad_card : sound_card card ≡ false → exit ≡ zeroed list 0 (length list) → PlansRead headers card targets bs c list (Err BadCard) exit
  unfolding plan_read PlanMeets plan_says left_by number_of_refusal
  bad_card s z = record { plans = λ manifest log rd e h. rw s (record { says = refl; leaves = z ∙ cleared list }) }

  pub good_card : sound_card card ≡ true → {answer : Result ℕ Refusal} → PlansTargets headers card targets bs c list answer exit → PlansRead headers card targets bs c list answer exit
  unfolding plan_read
  good_card s p = record { plans = λ manifest log rd e h. rw s (p.plans manifest log rd e h) }

  -- ---- 12

  pub bad_target_law : exit ≡ zeroed list 0 (length list) → {numbers : List ℕ} {r : Result ℕ ℕ} {place : ℕ} → NumbersTargets targets bs.names bs.index c.files numbers r → r ≡ Err place
      → PlansTargets headers card targets bs c list (Err (BadTarget place)) exit
  unfolding plan_targets PlanMeets plan_says left_by number_of_refusal
  bad_target_law z {numbers} {place = place} n w =
      record {
        plans = λ manifest log rd e h.
            let b : bad_target rd.files targets ≡ some place = subst (Says targets numbers rd.files) w (n.says rd.files h.named) in
            rw b (record { says = refl; leaves = z ∙ cleared list });
      }

pub numbering : {t headers card : List ℕ} {bs : Buffers} {c : Counts} {numbers list : List ℕ} → NumbersSpaceAsked t headers card bs c numbers list
    → NumberingAsked bs.names bs.index c.files numbers
numbering a =
    let r = a.asked.asked in
    record { named = record { files = r.reading.files; holds = r.holds.named }; room = omega (arith, a.long) }

-- ---- past 12, by the columns

-- the targets' numbers, as far as they are filled
module _ {targets : List ℕ} {bs : Buffers} {c : Counts} {numbers : List ℕ} {x : Result ℕ ℕ} {k : ℕ} (n : NumbersTargets targets bs.names bs.index c.files numbers x)
    (w : x ≡ Ok k) where
  numbered : {log : List Logged} {rd : Reading} → HoldsReading log bs c rd → TargetsNumbered targets numbers rd.files k
  numbered {rd = rd} h = subst (Says targets numbers rd.files) w (n.says rd.files h.named)

  targets_are : {log : List Logged} {rd : Reading} → HoldsReading log bs c rd → take k numbers ≡ target_files targets rd
  unfolding target_files target_numbers_of
  targets_are h = (numbered h).numbers

  pub good_targets : {headers card list exit : List ℕ} {answer : Result ℕ Refusal} → PlansColumns headers card bs c (take k numbers) list answer exit
      → PlansTargets headers card targets bs c list answer exit
  unfolding plan_targets
  good_targets {headers} {card} p =
      record {
        plans = λ manifest log rd e h.
            rw (numbered h).good (p.plans (inputs_of manifest card targets headers) log rd refl refl e h (targets_are h));
      }

  module _ {t headers card before list : List ℕ} (a : NumbersSpaceAsked t headers card bs c before list) where
    pub numbers_within : k ≤ length numbers
    numbers_within = (numbered a.asked.asked.holds).within

    pub columns : length numbers ≡ length before → ColumnsAsked t headers card bs c (take k numbers) list
    columns l =
        let r = a.asked.asked in
        let m = numbered r.holds in
        record {
          asked = record {
            table = r.table;
            lists_sound = r.lists_sound;
            card_sound = a.asked.sound;
            names_long = r.names_long;
            manifest = r.manifest;
            log = r.log;
            reading = r.reading;
            is = r.is;
            holds = r.holds;
            roots_low = λ i b.
                let z : i < k = omega (arith, length-take-le k numbers m.within) in
                rw (get_or-take k numbers i 0 z, r.holds.named.counted) (m.low i z);
            room = r.room;
          };
          few = omega (arith, length-take-le k numbers m.within, m.within, l, a.long);
        }
