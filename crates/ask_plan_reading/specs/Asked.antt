-- What the plan from a reading asks and promises.
use Rattle.std.specs.Prelude.{ℕ, ◌≤◌, true, List, ◌≡◌, length, Result}
use Rattle.spec.specs.Limits.{max_targets, max_written, least_list}
use Rattle.spec.specs.Reading.{Reading}
use Rattle.spec.specs.Manifest.{read_manifest, accepted}
use Rattle.spec.specs.Card.{sound_card}
use Rattle.spec.specs.Headers.{sound_headers}
use Rattle.spec.specs.Answers.{plan_says}
use Rattle.spec.specs.PlanAsk.{inputs_of, plan_targets, plan_read}
use Rattle.spec.specs.Promises.{PlanMeets}
use Rattle.scan_classes.specs.Table.{classes}
use Rattle.hold_bindings.specs.Log.{Logged}
use Rattle.hold_reading.specs.declared.Counts.{Counts}
use Rattle.hold_reading.specs.Held.{HoldsReading}
use Rattle.hold_reading.specs.Buffers.{Buffers}
use Rattle.spec.specs.declared.Refusal.{Refusal}

-- the buffers hold some manifest's reading, the header lists are a sound bundle, and the list has the room that 1 asks for
pub record ReadAsked (t headers : List ℕ) (bs : Buffers) (c : Counts) (list : List ℕ) : Type 0 where
  pub table : t ≡ classes
  pub lists_sound : sound_headers headers ≡ true
  pub names_long : max_written ≤ length bs.names
  pub manifest : List ℕ
  pub log : List Logged
  pub reading : Reading
  pub is : read_manifest manifest ≡ accepted reading
  pub holds : HoldsReading log bs c reading
  pub room : least_list ≤ length list

-- past 11
pub record TargetsAsked (t headers card : List ℕ) (bs : Buffers) (c : Counts) (list : List ℕ) : Type 0 where
  pub asked : ReadAsked t headers bs c list
  pub sound : sound_card card ≡ true

-- with working space
pub record NumbersSpaceAsked (t headers card : List ℕ) (bs : Buffers) (c : Counts) (numbers list : List ℕ) : Type 0 where
  pub asked : TargetsAsked t headers card bs c list
  pub long : length numbers ≡ max_targets

-- whatever manifest was read, and whatever reading was held, this is the plan ask's outcome for it: past 11
pub record PlansTargets (headers card targets : List ℕ) (bs : Buffers) (c : Counts) (list : List ℕ) (r : Result ℕ Refusal) (exit : List ℕ) : Type 0 where
  pub plans : (manifest : List ℕ) (log : List Logged) (rd : Reading) → read_manifest manifest ≡ accepted rd → HoldsReading log bs c rd
      → PlanMeets (plan_targets (inputs_of manifest card targets headers) rd) list (plan_says r) exit

-- and from 11 on
pub record PlansRead (headers card targets : List ℕ) (bs : Buffers) (c : Counts) (list : List ℕ) (r : Result ℕ Refusal) (exit : List ℕ) : Type 0 where
  pub plans : (manifest : List ℕ) (log : List Logged) (rd : Reading) → read_manifest manifest ≡ accepted rd → HoldsReading log bs c rd
      → PlanMeets (plan_read (inputs_of manifest card targets headers) rd) list (plan_says r) exit
