-- One step after another: what is held before each, and what its answer agrees with.
use Rattle.std.specs.Prelude.{ℕ, ◌≤◌, ◌<◌, List, [], ◌≡◌, length, Result}
use Rattle.spec.specs.Limits.{max_path, max_text, max_written}
use Rattle.spec.specs.Reading.{Reading}
use Rattle.spec.specs.Sound.{SoundRules}
use Rattle.spec.specs.Graph.{step_at}
use Rattle.spec.specs.Headers.{HeaderGraph, depfile_of, add_headers, stepless, with_headers}
use Rattle.scan_classes.specs.Table.{classes}
use Rattle.scan_bundle.specs.Bundles.{BundleIndexed}
use Rattle.hold_bindings.specs.Log.{Logged}
use Rattle.hold_reading.specs.declared.Counts.{Counts}
use Rattle.hold_reading.specs.Held.{HoldsBound, Graphed}
use Rattle.hold_reading.specs.Buffers.{Buffers, with_files}
use Rattle.hold_headers.specs.Headed.{HoldsHeaders, AgreesHeaders}
use Rattle.spec.specs.declared.Refusal.{Refusal}

-- a sound bundle of header lists, and room for its longest texts
pub record ListsReady (t headers : List ℕ) (count : ℕ) (order names name word : List ℕ) : Type 0 where
  pub table : t ≡ classes
  pub indexed : BundleIndexed headers count order
  pub names_long : max_written ≤ length names
  pub name_long : max_text ≤ length name
  pub word_long : max_path ≤ length word

-- ------------------------------------------------------------------ one step

-- The manifest's reading is held by the written columns, by the counts c, and the steps before step s with their listed inputs by the second ones, by the counts d.
pub record TurnHeld (log : List Logged) (bs : Buffers) (c : Counts) (second : List ℕ) (s : ℕ) (d : Counts) (rd : Reading) (h : HeaderGraph) : Type 0 where
  pub bound : HoldsBound log bs.texts bs.bind c rd
  pub graphed : Graphed log bs.graph c rd
  pub done : length h.reading.steps ≡ s
  pub holds : HoldsHeaders log (with_files bs bs.names bs.index second) d rd h

pub record TurnAsked (t headers : List ℕ) (count : ℕ) (order : List ℕ) (bs : Buffers) (c : Counts) (second name word : List ℕ) (s : ℕ) (d : Counts) : Type 0 where
  pub ready : ListsReady t headers count order bs.names name word
  pub there : s < c.steps
  pub log : List Logged
  pub reading : Reading
  pub headed : HeaderGraph
  pub sound : SoundRules reading
  pub held : TurnHeld log bs c second s d reading headed

-- whatever was held
pub record Turns (headers : List ℕ) (bs : Buffers) (c : Counts) (second : List ℕ) (s : ℕ) (d : Counts) (names index second' : List ℕ) (r : Result Counts Refusal) : Type 0 where
  pub agrees : (log : List Logged) (rd : Reading) (h : HeaderGraph) → TurnHeld log bs c second s d rd h
      → AgreesHeaders log (with_files bs names index second') rd (add_headers s (step_at rd.steps s) (depfile_of headers rd s) h) r

-- ------------------------------------------------------------------ all steps

-- no mention is in the second columns yet
abbrev pub no_paths : Counts → Counts
no_paths c =
    record {
      files = c.files;
      steps = c.steps;
      paths = 0;
      defaults = c.defaults;
      entries = c.entries;
      rules = c.rules;
      bindings = c.bindings;
      mentions = c.mentions;
      written = c.written;
      opened = c.opened;
    }

abbrev pub no_steps : Reading → HeaderGraph
no_steps rd = record { reading = stepless rd; lists = [] }

-- before the first step
abbrev pub StartHeld : List Logged → Buffers → Counts → List ℕ → Reading → Type 0
StartHeld log bs c second rd = TurnHeld log bs c second 0 (no_paths c) rd (no_steps rd)

pub record WalkAsked (t headers : List ℕ) (count : ℕ) (order : List ℕ) (bs : Buffers) (c : Counts) (second name word : List ℕ) : Type 0 where
  pub ready : ListsReady t headers count order bs.names name word
  pub log : List Logged
  pub reading : Reading
  pub sound : SoundRules reading
  pub held : StartHeld log bs c second reading

pub record HeadsAll (headers : List ℕ) (bs : Buffers) (c : Counts) (second names index second' : List ℕ) (r : Result Counts Refusal) : Type 0 where
  pub agrees : (log : List Logged) (rd : Reading) → StartHeld log bs c second rd → AgreesHeaders log (with_files bs names index second') rd (with_headers headers rd) r
