-- What the name of a step's depfile asks of what was read, and what it tells.
use Rattle.std.specs.Prelude.{ℕ, ◌≤◌, ◌<◌, List, [], ◌++◌, false, ◌≡◌, length, take, Option, Some, None, Result, Ok, Err}
use Rattle.spec.specs.Basics.{is_empty}
use Rattle.spec.specs.Limits.{max_text}
use Rattle.spec.specs.declared.Refusal.{Refusal}
use Rattle.spec.specs.Reading.{Reading}
use Rattle.spec.specs.Sound.{SoundRules}
use Rattle.spec.specs.TextAsk.{TextOutcome, text, no_text}
use Rattle.spec.specs.Headers.{no_depfile, bad_depfile, depfile_named, depfile_of}
use Rattle.scan_classes.specs.Table.{classes}
use Rattle.hold_names.specs.Table.{HoldsNames}
use Rattle.hold_bindings.specs.Log.{Logged}
use Rattle.hold_reading.specs.declared.Counts.{Counts}
use Rattle.hold_reading.specs.Buffers.{Buffers}
use Rattle.hold_reading.specs.Held.{HoldsBound, Graphed}

-- ------------------------------------------------------------------ by the text of the key

-- the name stands in the first n bytes
pub record NameStands (o : TextOutcome) (n : ℕ) (word : List ℕ) : Type 0 where
  pub is : o ≡ text (take n word)
  pub some : is_empty (take n word) ≡ false
  pub within : n ≤ length word

unfoldable pub NameIs : TextOutcome → List ℕ → Result (Option ℕ) Refusal → Type 0
NameIs o word (Ok None) = o ≡ text []
NameIs o word (Ok (Some n)) = NameStands o n word
NameIs o word (Err r) = o ≡ no_text r

-- ------------------------------------------------------------------ for a step

-- What is held of a reading once more files were named.
pub record HoldsGrown (log : List Logged) (bs : Buffers) (c : Counts) (files : ℕ) (rd : Reading) (more : List (List ℕ)) : Type 0 where
  pub bound : HoldsBound log bs.texts bs.bind c rd
  pub graphed : Graphed log bs.graph c rd
  pub named : HoldsNames bs.names bs.index files (rd.files ++ more)

-- Some reading is held, as a manifest gives it, the step is there, and the word has room for a longest text.
pub record DepfileAsk (t : List ℕ) (bs : Buffers) (c : Counts) (files step : ℕ) (word : List ℕ) : Type 0 where
  pub table : t ≡ classes
  pub room : max_text ≤ length word
  pub log : List Logged
  pub reading : Reading
  pub more : List (List ℕ)
  pub holds : HoldsGrown log bs c files reading more
  pub sound : SoundRules reading
  pub there : step < c.steps

-- what is found of the depfile goes by the name in the first n bytes
pub record GoesByName (rd : Reading) (step n : ℕ) (word : List ℕ) : Type 0 where
  pub found : (headers : List ℕ) → depfile_of headers rd step ≡ depfile_named headers rd step (take n word)
  pub some : is_empty (take n word) ≡ false
  pub within : n ≤ length word

-- What is found of the step's depfile, in any bundle of header lists.
unfoldable pub TellsDepfile : Reading → ℕ → List ℕ → Result (Option ℕ) Refusal → Type 0
TellsDepfile rd step word (Ok None) = (headers : List ℕ) → depfile_of headers rd step ≡ no_depfile
TellsDepfile rd step word (Ok (Some n)) = GoesByName rd step n word
TellsDepfile rd step word (Err r) = (headers : List ℕ) → depfile_of headers rd step ≡ bad_depfile r

-- ... whatever reading is held
pub record NamesDepfile (bs : Buffers) (c : Counts) (files step : ℕ) (word : List ℕ) (r : Result (Option ℕ) Refusal) : Type 0 where
  pub tells : (log : List Logged) (rd : Reading) (more : List (List ℕ)) → HoldsGrown log bs c files rd more → TellsDepfile rd step word r
