-- What an answer says, once its case is known.
use Rattle.std.specs.Prelude.{Option, Some, None, Result, Ok, Err}
use Prim.Native.Nat.{ℕ}
use mathlib.Core.List.{List}
use mathlib.Core.Option.{none}
use mathlib.Core.Path.{◌≡◌}
use Rattle.spec.specs.Dollars.{bad_dollar}
use Rattle.scan_raw.specs.declared.NextPath.{NextPath}
use Rattle.scan_raw.specs.declared.NextPath.TheVariants.{Stop, Path, BadDollar as WrongDollar}
use Rattle.scan_raw.specs.Texts.{PathEnds, PathBad, PathAt, PathsStop, PathNext, PathsBad, NextPathAt, ValueBad, ValueScanned}

-- ---- `path`

module _ (s : List ℕ) (i : ℕ) (r : Result ℕ ℕ) (p : PathAt s i r) where
  pub path_to : {e : ℕ} → r ≡ Ok e → PathEnds s i e
  unfolding PathAt
  path_to e = rw e at p

  pub path_wrong : {at : ℕ} → r ≡ Err at → PathBad s i at
  unfolding PathAt
  path_wrong e = rw e at p

-- ---- `next_path`

module _ (s : List ℕ) (i : ℕ) (r : NextPath) (p : NextPathAt s i r) where
  pub next_stop : {g : ℕ} → r ≡ Stop g → PathsStop s i g
  unfolding NextPathAt
  next_stop e = rw e at p

  pub next_path : {g e : ℕ} → r ≡ Path g e → PathNext s i g e
  unfolding NextPathAt
  next_path e = rw e at p

  pub next_bad : {at : ℕ} → r ≡ WrongDollar at → PathsBad s i at
  unfolding NextPathAt
  next_bad e = rw e at p

-- ---- `bad_dollar`

module _ (raw : List ℕ) (r : Option ℕ) (p : ValueScanned raw r) where
  pub value_sound : r ≡ None → bad_dollar raw ≡ none
  unfolding ValueScanned
  value_sound e = rw e at p

  pub value_bad : {at : ℕ} → r ≡ Some at → ValueBad raw at
  unfolding ValueScanned
  value_bad e = rw e at p
