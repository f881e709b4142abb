-- The paths of a list at places of a line.
use Rattle.std.specs.Prelude.{ℕ, ◌≤◌, Bool, not, List, [], ◌≡◌, length, drop, Option, Some, None, Result, Ok, Err}
use Rattle.spec.specs.Basics.{is_empty}
use Rattle.spec.specs.Forms.{fits, paths}
use Rattle.scan_raw.specs.Texts.{PathNext}
use Rattle.cut_forms.specs.Faults.{Fails}
use Rattle.cut_forms.specs.declared.Fault.{Fault}

-- ps is the list of paths that starts at place `at`.
pub record PathsAt (l : List ℕ) (at : ℕ) (ps : List (List ℕ)) : Type 0 where
  pub within : at ≤ length l
  pub rest : List ℕ
  pub cut : paths (drop at l) ≡ fits (record { raw = ps; rest = rest })

-- The first path of the list that starts at place `at`, if it has one.
unfoldable pub NextListed : List ℕ → ℕ → Option (ℕ × ℕ) → Type 0
NextListed l at (Some (from, to)) = PathNext l at from to
NextListed l at None = (ps : List (List ℕ)) → PathsAt l at ps → ps ≡ []

-- The list that starts at place `at` ends at place e.
pub record ListEnds (l : List ℕ) (at e : ℕ) (any : Bool) : Type 0 where
  pub forward : at ≤ e
  pub within : e ≤ length l
  pub raw : List (List ℕ)
  pub cut : paths (drop at l) ≡ fits (record { raw = raw; rest = drop e l })
  pub some : any ≡ not (is_empty raw)

unfoldable pub ListedAt : List ℕ → ℕ → Result (Bool × ℕ) Fault → Type 0
ListedAt l at (Ok (any, e)) = ListEnds l at e any
ListedAt l at (Err f) = Fails l (paths (drop at l)) f
