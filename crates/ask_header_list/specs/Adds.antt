-- The listed inputs of one step: what is asked, and that the answer agrees with the definition.
use Rattle.std.specs.Prelude.{ℕ, ◌≤◌, ◌<◌, List, ◌≡◌, length, Result}
use Rattle.spec.specs.Limits.{max_path, max_written}
use Rattle.spec.specs.Reading.{Reading}
use Rattle.spec.specs.Graph.{step_at}
use Rattle.spec.specs.Headers.{HeaderGraph, depfile_named, add_headers}
use Rattle.hold_bindings.specs.Log.{Logged}
use Rattle.hold_reading.specs.declared.Counts.{Counts}
use Rattle.hold_reading.specs.Held.{Graphed}
use Rattle.hold_reading.specs.Buffers.{buffers}
use Rattle.scan_bundle.specs.Bundles.{BundleIndexed}
use Rattle.hold_headers.specs.Headed.{HoldsHeaders, AgreesHeaders}
use Rattle.spec.specs.declared.Refusal.{Refusal}

-- the steps before step s are headed
pub record StepHeld (log : List Logged) (graph names index texts bind second : List ℕ) (s : ℕ) (c : Counts) (rd : Reading) (h : HeaderGraph) : Type 0 where
  pub before : Counts
  pub written : Graphed log graph before rd
  pub next : s < length rd.steps
  pub done : length h.reading.steps ≡ s
  pub holds : HoldsHeaders log (buffers names index texts bind second) c rd h

pub record AddHeadersAsks (headers : List ℕ) (count : ℕ) (order graph names index second word : List ℕ) (s : ℕ) (c : Counts) : Type 0 where
  pub indexed : BundleIndexed headers count order
  pub names_long : max_written ≤ length names
  pub word_long : max_path ≤ length word
  pub log : List Logged
  pub texts : List ℕ
  pub bind : List ℕ
  pub reading : Reading
  pub headed : HeaderGraph
  pub held : StepHeld log graph names index texts bind second s c reading headed

-- Whatever was held, the answer is that of the depfile of this name.
pub record AddsHeaders (headers name graph names index second : List ℕ) (s : ℕ) (c : Counts) (names' index' second' : List ℕ) (r : Result Counts Refusal) : Type 0 where
  pub agrees : (log : List Logged) (texts bind : List ℕ) (rd : Reading) (h : HeaderGraph) → StepHeld log graph names index texts bind second s c rd h
      → AgreesHeaders log (buffers names' index' texts bind second') rd (add_headers s (step_at rd.steps s) (depfile_named headers rd s name) h) r
