-- What the plan from the graph's columns asks and promises.
use Rattle.std.specs.Prelude.{ℕ, ◌≤◌, ◌<◌, List, ◌≡◌, length, get_or, Option, Result}
use Rattle.lists.specs.Fill.{zeros}
use Rattle.spec.specs.Limits.{max_mentions}
use Rattle.spec.specs.Reading.{Reading}
use Rattle.spec.specs.Manifest.{read_manifest, accepted}
use Rattle.spec.specs.Answers.{plan_says}
use Rattle.spec.specs.PlanAsk.{Inputs, target_files, plan_rooted}
use Rattle.spec.specs.Promises.{PlanMeets}
use Rattle.hold_bindings.specs.Log.{Logged}
use Rattle.hold_reading.specs.declared.Counts.{Counts}
use Rattle.hold_reading.specs.Held.{HoldsReading}
use Rattle.hold_reading.specs.Buffers.{Buffers}
use Rattle.hold_parts.specs.Parts.{mentions_in, ends_in, phony_in, made_in, defaults_in, Tabled}
use Rattle.ask_plan_roots.specs.Roots.{RootsFound}
use Rattle.ask_plan_headers.specs.Headers.{HeadersPlanAsked}
use Rattle.spec.specs.declared.Refusal.{Refusal}

-- ---- the choice of the roots

-- what is found of the roots by these columns
pub record FoundIn (graph : List ℕ) (c : Counts) (targets out : List ℕ) (r : Option ℕ) : Type 0 where
  pub found : RootsFound (mentions_in graph c) (ends_in graph c) (phony_in graph c) (made_in graph c) (defaults_in graph c) targets out r

-- the columns of some reading, targets that are files, and room for the roots
pub record ChoiceAskedIn (graph : List ℕ) (c : Counts) (targets out : List ℕ) : Type 0 where
  pub reading : Reading
  pub tabled : Tabled graph c reading
  pub low : (i : ℕ) → i < length targets → get_or targets i 0 < c.files
  pub few : length targets ≤ max_mentions
  pub room : max_mentions ≤ length out

-- with a mark for each file
pub record ChoiceSpace (graph : List ℕ) (c : Counts) (targets marks out : List ℕ) : Type 0 where
  pub asked : ChoiceAskedIn graph c targets out
  pub blank : marks ≡ zeros c.files

-- ---- 13, then the header lists

-- what the plan from the header lists on asks, with the targets for the roots
pub record ColumnsAsked (t headers card : List ℕ) (bs : Buffers) (c : Counts) (targets list : List ℕ) : Type 0 where
  pub asked : HeadersPlanAsked t headers card bs c targets list
  pub few : length targets ≤ max_mentions

-- with room for the roots
pub record RootsSpaceAsked (t headers card : List ℕ) (bs : Buffers) (c : Counts) (targets out list : List ℕ) : Type 0 where
  pub asked : ColumnsAsked t headers card bs c targets list
  pub room : max_mentions ≤ length out

-- whatever ask and reading it is, with the targets' numbers
pub record PlansColumns (headers card : List ℕ) (bs : Buffers) (c : Counts) (targets list : List ℕ) (r : Result ℕ Refusal) (exit : List ℕ) : Type 0 where
  pub plans : (i : Inputs) (log : List Logged) (rd : Reading) → i.headers ≡ headers → i.card ≡ card → read_manifest i.manifest ≡ accepted rd
      → HoldsReading log bs c rd → targets ≡ target_files i.targets rd → PlanMeets (plan_rooted i rd) list (plan_says r) exit
