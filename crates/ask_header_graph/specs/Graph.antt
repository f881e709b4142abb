-- The listed inputs of all steps: what is asked, and what names and second columns hold then.
use Rattle.std.specs.Prelude.{ℕ, ◌+◌, ◌-◌, ◌*◌, ◌≤◌, ◌<◌, List, map, ◌≡◌, length, take, Result, Ok, Err}
use Rattle.lists.specs.Parts.{part}
use Rattle.spec.specs.declared.Refusal.{Refusal}
use Rattle.spec.specs.Limits.{max_steps, max_files, max_mentions, max_path, max_text, max_written}
use Rattle.spec.specs.Reading.{Reading}
use Rattle.spec.specs.Manifest.{read_manifest, accepted}
use Rattle.spec.specs.Headers.{listed_of, HeaderGraph, Heading, headed, headless, with_headers}
use Rattle.scan_classes.specs.Table.{classes}
use Rattle.scan_bundle.specs.Bundles.{BundleIndexed}
use Rattle.hold_names.specs.Table.{HoldsNames}
use Rattle.hold_bindings.specs.Log.{Logged}
use Rattle.hold_columns.specs.Columns.{per_step, implicit_end, end_at, HoldsColumns}
use Rattle.hold_reading.specs.declared.Counts.{Counts}
use Rattle.hold_reading.specs.Held.{ends_start, phony_start, made_start, rule_start, columns_end, HoldsReading}
use Rattle.hold_reading.specs.Buffers.{Buffers}
use Rattle.hold_headers.specs.Headed.{listed_number}

-- ------------------------------------------------------------------ the columns, as parts of their buffer

module _ (second : List ℕ) (d : Counts) where
  abbrev pub mentions_in : List ℕ
  mentions_in = take d.paths second

  abbrev pub ends_in : List ℕ
  ends_in = part second ends_start (ends_start + per_step * d.steps)

  abbrev pub phony_in : List ℕ
  phony_in = part second phony_start (phony_start + d.steps)

  abbrev pub made_in : List ℕ
  made_in = part second made_start (made_start + d.files)

  -- what the depfiles tell, a number for each step
  abbrev pub told_in : List ℕ
  told_in = part second rule_start (rule_start + d.steps)

-- the files that step s lists are the last of its implicit inputs
pub record ListedLast (mentions ends : List ℕ) (s : ℕ) (fs : List ℕ) : Type 0 where
  pub few : length fs ≤ end_at ends s implicit_end
  pub is : part mentions (end_at ends s implicit_end - length fs) (end_at ends s implicit_end) ≡ fs

-- ------------------------------------------------------------------ what is held

-- Names and second columns hold the steps with their listed inputs, by the counts d. The counts of what was read are c.
pub record HeadedGraph (names index second : List ℕ) (c d : Counts) (h : HeaderGraph) : Type 0 where
  pub long : columns_end ≤ length second
  pub few_paths : d.paths ≤ max_mentions
  pub few_steps : d.steps ≤ max_steps
  pub few_files : d.files ≤ max_files
  pub same_steps : d.steps ≡ c.steps
  pub more_files : c.files ≤ d.files
  pub steps_counted : d.steps ≡ length h.reading.steps
  pub named : HoldsNames names index d.files h.reading.files
  pub tables : HoldsColumns h.reading.steps (length h.reading.files) (mentions_in second d) (ends_in second d) (phony_in second d) (made_in second d)
  pub told : told_in second d ≡ map listed_number h.lists
  pub told_all : length h.lists ≡ d.steps
  pub lists : (s : ℕ) → s < length h.lists → ListedLast (mentions_in second d) (ends_in second d) s (listed_of h.lists s).files

-- ------------------------------------------------------------------ what is asked and promised

-- Some manifest's reading is held, the bundle of header lists is sound and sorted, and there is room.
pub record HeadStepsAsked (t headers : List ℕ) (count : ℕ) (order : List ℕ) (bs : Buffers) (c : Counts) (second name word : List ℕ) : Type 0 where
  pub table : t ≡ classes
  pub indexed : BundleIndexed headers count order
  pub names_long : max_written ≤ length bs.names
  pub second_long : columns_end ≤ length second
  pub name_long : max_text ≤ length name
  pub word_long : max_path ≤ length word
  pub manifest : List ℕ
  pub log : List Logged
  pub reading : Reading
  pub is : read_manifest manifest ≡ accepted reading
  pub holds : HoldsReading log bs c reading

-- The answer agrees with the definition: what is headed is held, and a refusal is the same. The buffers are working space after a refusal.
pub data AgreesSteps (names index second : List ℕ) (c : Counts) : Heading → Result Counts Refusal → Type 0 where
  all_headed : {h : HeaderGraph} {d : Counts} → HeadedGraph names index second c d h → AgreesSteps names index second c (headed h) (Ok d)
  one_refused : {r : Refusal} → AgreesSteps names index second c (headless r) (Err r)

-- ... whatever manifest was read
pub record HeadsSteps (headers : List ℕ) (bs : Buffers) (c : Counts) (names index second : List ℕ) (r : Result Counts Refusal) : Type 0 where
  pub agrees : (manifest : List ℕ) (log : List Logged) (rd : Reading) → read_manifest manifest ≡ accepted rd → HoldsReading log bs c rd
      → AgreesSteps names index second c (with_headers headers rd) r
