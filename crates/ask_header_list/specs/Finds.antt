-- The depfile of a step, by its name: the record of the bundle, and where its names start.
use Rattle.std.specs.Prelude.{ℕ, ◌*◌, ◌≤◌, ◌<◌, true, false, List, [], ◌≡◌, length, get_or, Option, Some, None}
use Rattle.std.proofs.Math.Option.{none}
use Rattle.spec.specs.declared.Refusal.TheVariants.{BadHeaders}
use Rattle.spec.specs.Basics.{or_else}
use Rattle.spec.specs.Bundle.{bundle_texts}
use Rattle.spec.specs.Card.{number_at}
use Rattle.spec.specs.Reading.{Reading}
use Rattle.spec.specs.Statements.{over_paths}
use Rattle.spec.specs.Headers.{FoundDepfile, no_depfile, missing_depfile, depfile_lists, bad_depfile, first_output, depfile_named}
use Rattle.hold_names.specs.Table.{HoldsNames}
use Rattle.scan_bundle.specs.Bundles.{LaidBundle, BundleIndexed}
use Rattle.hold_reading.specs.declared.Counts.{Counts}
use Rattle.hold_reading.specs.Buffers.{Buffers, buffers}
use Rattle.apply_files.specs.Lines.{LineHeld, Writing, with_paths, over_line}
use Rattle.ask_header_names.specs.Names.{HeaderAsks}
use Rattle.depfile.specs.Depfile.{depfile_rule, listed_for}
use Rattle.scan_depfile.specs.Answers.{listed_at, ListedFrom}
use Rattle.ask_header_list.specs.declared.DepfilePlace.{DepfilePlace}
use Rattle.ask_header_list.specs.declared.DepfilePlace.TheVariants.{Unnamed, Absent, Lists, Malformed}

-- the names that text k lists for a first output start at `from`
unfoldable pub StartsAt : List ℕ → List ℕ → ℕ → DepfilePlace → Type 0
StartsAt text out k Unnamed = ⊥
StartsAt text out k Absent = ⊥
StartsAt text out k (Lists j from) = (j ≡ k) × ListedFrom text out from
StartsAt text out k Malformed = listed_for out (depfile_rule text) ≡ none

abbrev pub list_text_in : List ℕ → ℕ → List ℕ
list_text_in headers k = get_or (bundle_texts headers) k []

-- the names of text k start at `from`
pub record ListsFrom (headers : List ℕ) (rd : Reading) (s : ℕ) (name : List ℕ) (k from : ℕ) : Type 0 where
  pub low : k < number_at 0 4 headers
  pub within : from ≤ length (list_text_in headers k)
  pub found : depfile_named headers rd s name ≡ or_else (listed_at (list_text_in headers k) from) depfile_lists (λ _. bad_depfile (BadHeaders s))

-- what is found of the depfile, for step s of a reading
unfoldable pub DepfileFor : List ℕ → Reading → ℕ → List ℕ → DepfilePlace → Type 0
DepfileFor headers rd s name Unnamed = depfile_named headers rd s name ≡ no_depfile
DepfileFor headers rd s name Absent = depfile_named headers rd s name ≡ missing_depfile
DepfileFor headers rd s name (Lists k from) = ListsFrom headers rd s name k from
DepfileFor headers rd s name Malformed = depfile_named headers rd s name ≡ bad_depfile (BadHeaders s)

-- a sound bundle of header lists, and names of which one has the number of the first output
pub record FindAsks (headers : List ℕ) (count : ℕ) (order names index : List ℕ) (files out : ℕ) : Type 0 where
  pub indexed : BundleIndexed headers count order
  pub paths : List (List ℕ)
  pub named : HoldsNames names index files paths
  pub below : out < files

pub record FindsDepfile (headers name names index : List ℕ) (files out : ℕ) (r : DepfilePlace) : Type 0 where
  pub finds : (paths : List (List ℕ)) → HoldsNames names index files paths → (rd : Reading) (s : ℕ) → first_output rd s ≡ get_or paths out [] → DepfileFor headers rd s name r

-- ------------------------------------------------------------------ its names mentioned

-- a list that was found stands in the bundle
unfoldable pub StepPlaced : List ℕ → DepfilePlace → Type 0
StepPlaced headers Unnamed = Unit {0}
StepPlaced headers Absent = Unit {0}
StepPlaced headers (Lists k from) = (k < number_at 0 4 headers) × (from ≤ length (list_text_in headers k))
StepPlaced headers Malformed = Unit {0}

pub record ToldAsks (headers : List ℕ) (place : DepfilePlace) (names index second word : List ℕ) (c : Counts) : Type 0 where
  pub laid : LaidBundle headers
  pub placed : StepPlaced headers place
  pub asks : HeaderAsks word names index second c

-- The names are mentioned, or the step is refused; the number is that of what is told.
pub data ToldFor (s : ℕ) (bs : Buffers) (h : LineHeld) : FoundDepfile → Option (Counts × ℕ) → Type 0 where
  unnamed : {c : Counts} → Writing bs c h → ToldFor s bs h no_depfile (Some (c, 0))
  absent : {c : Counts} → Writing bs c h → ToldFor s bs h missing_depfile (Some (c, 1))
  lists : {ns : List (List ℕ)} {c : Counts} {n : ℕ} → Writing bs c (with_paths ns h) → over_paths ns ≡ false → n ≡ 2 * length ns → ToldFor s bs h (depfile_lists ns) (Some (c, n))
  passed : {ns : List (List ℕ)} → over_line ns h.reading ≡ true → ToldFor s bs h (depfile_lists ns) None
  bad : ToldFor s bs h (bad_depfile (BadHeaders s)) None

pub record MentionsListed (headers : List ℕ) (place : DepfilePlace) (names index second : List ℕ) (c : Counts) (names' index' second' : List ℕ) (r : Option (Counts × ℕ)) : Type 0 where
  pub tells : (rd : Reading) (s : ℕ) (name : List ℕ) → DepfileFor headers rd s name place → (texts bind : List ℕ) (h : LineHeld) → Writing (buffers names index texts bind second) c h
      → ToldFor s (buffers names' index' texts bind second') h (depfile_named headers rd s name) r
