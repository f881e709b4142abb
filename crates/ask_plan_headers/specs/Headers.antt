-- What the plan from the header lists on asks and promises.
use Rattle.std.specs.Prelude.{ℕ, ◌≤◌, ◌<◌, true, List, ◌≡◌, length, get_or, Result}
use Rattle.spec.specs.Limits.{least_list, max_written, max_headers}
use Rattle.spec.specs.Reading.{Reading}
use Rattle.spec.specs.Manifest.{read_manifest, accepted}
use Rattle.spec.specs.Card.{sound_card}
use Rattle.spec.specs.Headers.{sound_headers}
use Rattle.spec.specs.Answers.{plan_says}
use Rattle.spec.specs.PlanAsk.{Inputs, roots_of, plan_headers}
use Rattle.spec.specs.Promises.{PlanMeets}
use Rattle.scan_classes.specs.Table.{classes}
use Rattle.hold_bindings.specs.Log.{Logged}
use Rattle.hold_reading.specs.declared.Counts.{Counts}
use Rattle.hold_reading.specs.Held.{HoldsReading}
use Rattle.hold_reading.specs.Buffers.{Buffers}
use Rattle.spec.specs.declared.Refusal.{Refusal}

-- a sound bundle of header lists, and room for the numbers of all that there may be
pub record ListsAsked (headers order : List ℕ) : Type 0 where
  pub sound : sound_headers headers ≡ true
  pub room : max_headers ≤ length order

-- past 13: some manifest's reading is held, the lent bundle of header lists and the card are sound
pub record HeadersPlanAsked (t headers card : List ℕ) (bs : Buffers) (c : Counts) (roots list : List ℕ) : Type 0 where
  pub table : t ≡ classes
  pub lists_sound : sound_headers headers ≡ true
  pub card_sound : sound_card card ≡ true
  pub names_long : max_written ≤ length bs.names
  pub manifest : List ℕ
  pub log : List Logged
  pub reading : Reading
  pub is : read_manifest manifest ≡ accepted reading
  pub holds : HoldsReading log bs c reading
  pub roots_low : (i : ℕ) → i < length roots → get_or roots i 0 < c.files
  pub room : least_list ≤ length list

-- whatever ask and reading it is
pub record PlansHeaders (headers card : List ℕ) (bs : Buffers) (c : Counts) (roots list : List ℕ) (r : Result ℕ Refusal) (exit : List ℕ) : Type 0 where
  pub plans : (i : Inputs) (log : List Logged) (rd : Reading) → i.headers ≡ headers → i.card ≡ card → read_manifest i.manifest ≡ accepted rd
      → HoldsReading log bs c rd → roots ≡ roots_of i rd → PlanMeets (plan_headers i rd) list (plan_says r) exit
