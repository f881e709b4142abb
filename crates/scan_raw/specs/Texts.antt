-- What the answers about raw texts say.
use Rattle.std.specs.Prelude.{ℕ, ◌-◌, ◌≤◌, ◌<◌, List, [], ◌≡◌, length, drop, Option as StdOption, Some, None, Result, Ok, Err}
use Rattle.std.proofs.Math.Option.{Option, none, some}
use Rattle.lists.specs.Tests.{if_b}
use Rattle.lists.specs.Parts.{part}
use Rattle.lists.specs.Runs.{Reads}
use Rattle.spec.specs.Basics.{or_else}
use Rattle.spec.specs.Dollars.{bad_in, bad_dollar}
use Rattle.spec.specs.Forms.{fits, fails, left_at_dollar, then, gap, path_stop, after_path, raw_path, with_path, path_begins, paths}
use Rattle.scan_raw.specs.declared.NextPath.{NextPath}
use Rattle.scan_raw.specs.declared.NextPath.TheVariants.{Stop, Path, BadDollar as WrongDollar}

-- The path that starts at place i ends at place r, and its dollars are sound.
pub record PathEnds (s : List ℕ) (i r : ℕ) : Type 0 where
  pub reads : Reads after_path s i r
  pub sound : bad_in path_stop (drop i s) ≡ none

-- The first bad `$` of the path that starts at place i stands at place p.
pub record PathBad (s : List ℕ) (i p : ℕ) : Type 0 where
  pub forward : i ≤ p
  pub within : p < length s
  pub bad : bad_in path_stop (drop i s) ≡ some (p - i)

unfoldable pub PathAt : List ℕ → ℕ → Result ℕ ℕ → Type 0
PathAt s i (Ok r) = PathEnds s i r
PathAt s i (Err p) = PathBad s i p

-- The first bad `$` of a raw value stands at place p.
pub record ValueBad (raw : List ℕ) (p : ℕ) : Type 0 where
  pub within : p < length raw
  pub bad : bad_dollar raw ≡ some p

unfoldable pub ValueScanned : List ℕ → StdOption ℕ → Type 0
ValueScanned raw None = bad_dollar raw ≡ none
ValueScanned raw (Some p) = ValueBad raw p

-- ---- the first path of a list, which is all that some lines have

-- no path, a sound one and what follows it, or one whose first bad `$` has so many bytes from it on
pub data FirstPath : Type 0 where
  no_path : FirstPath
  one_path : List ℕ → List ℕ → FirstPath
  bad_path : ℕ → FirstPath

-- behind spaces and joins
unfoldable pub first_at : List ℕ → FirstPath
first_at t =
    if_b (path_begins t)
    (λ _. or_else (bad_in path_stop t) (λ at. bad_path (length t - at)) (λ _. one_path (raw_path t) (after_path t)))
    (λ _. no_path)

unfoldable pub first_path : List ℕ → FirstPath
first_path s = first_at (gap s)

-- ---- lists of paths, from place i on

-- There is no more path, and the list ends at place g.
pub record PathsStop (s : List ℕ) (i g : ℕ) : Type 0 where
  pub forward : i ≤ g
  pub within : g ≤ length s
  pub first : first_path (drop i s) ≡ no_path
  pub is : paths (drop i s) ≡ fits (record { raw = []; rest = drop g s })

-- The next path goes from place g to place r.
pub record PathNext (s : List ℕ) (i g r : ℕ) : Type 0 where
  pub forward : i ≤ g
  pub longer : g < r
  pub within : r ≤ length s
  pub sound : bad_dollar (part s g r) ≡ none
  pub first : first_path (drop i s) ≡ one_path (part s g r) (drop r s)
  pub is : paths (drop i s) ≡ then (paths (drop r s)) (with_path (part s g r))

-- The next path has its first bad `$` at place p.
pub record PathsBad (s : List ℕ) (i p : ℕ) : Type 0 where
  pub forward : i ≤ p
  pub within : p < length s
  pub first : first_path (drop i s) ≡ bad_path (length s - p)
  pub is : paths (drop i s) ≡ fails (left_at_dollar (length s - p))

unfoldable pub NextPathAt : List ℕ → ℕ → NextPath → Type 0
NextPathAt s i (Stop g) = PathsStop s i g
NextPathAt s i (Path g r) = PathNext s i g r
NextPathAt s i (WrongDollar p) = PathsBad s i p

-- ---- the check of a manifest

unfoldable pub place_of : StdOption ℕ → Option ℕ
place_of None = none
place_of (Some p) = some p
