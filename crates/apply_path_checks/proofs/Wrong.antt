-- What a list of paths is refused for: that any is wrong is what document 01 asks of them one after another.
use Prim.Native.Nat.{ℕ}
use mathlib.Core.Bool.{Bool, true, false, not, ◌||◌}
use mathlib.Core.List.{List, [], ◌∷◌}
use mathlib.Core.Path.{◌≡◌, refl}
use borrow.Author.Tests.{not-false}
use Rattle.lists.specs.Tests.{or_right}
use Rattle.lists.specs.Members.{any}
use Rattle.spec.specs.Basics.{is_empty}
use Rattle.spec.specs.Reading.{Reading, is_made}
use Rattle.spec.specs.Statements.{expanded}
use Rattle.hold_bindings.specs.Log.{Logged}
use Rattle.expand_parts.specs.Runs as runs
use Rattle.expand_parts.proofs.Expansions.{expanded_vars}
use Rattle.hold_reading.specs.declared.Counts.{Counts}
use Rattle.hold_reading.specs.Held.{HoldsBound}
use Rattle.apply_path_checks.specs.declared.PathKind.TheVariants.{Input, Output, Default}
use Rattle.apply_path_checks.specs.Checks.{path_of, wrong_path}

-- ---- paths as they are expanded

pub path_held : {log : List Logged} {texts bind : List ℕ} {c : Counts} {rd : Reading} → HoldsBound log texts bind c rd → (raw : List ℕ) → path_of rd raw ≡ runs.expanded_by log raw
unfolding path_of
path_held {log} {rd = rd} b raw = expanded_vars log rd.vars raw b.vars

pub expanded_cons : (rd : Reading) (q : List ℕ) (qs : List (List ℕ)) → expanded rd (q ∷ qs) ≡ path_of rd q ∷ expanded rd qs
unfolding expanded path_of
expanded_cons rd q qs = refl

pub expanded_none : (rd : Reading) → expanded rd [] ≡ []
unfolding expanded
expanded_none rd = refl

-- ---- any of two tests

or_swap : (a b c d : Bool) → (a || b) || (c || d) ≡ (a || c) || (b || d)
or_swap true b c d = refl
or_swap false true true d = refl
or_swap false true false d = refl
or_swap false false c d = refl

any_or : {A : Type 0} (p q : A → Bool) (l : List A) → any p l || any q l ≡ any (λ x. p x || q x) l
unfolding any
any_or p q [] = refl
any_or p q (x ∷ l) = rw (← (any_or p q l)) (or_swap (p x) (any p l) (q x) (any q l))

-- ---- by the kind of path

pub any_input : (rd : Reading) (ps : List (List ℕ)) → any is_empty ps ≡ any (wrong_path Input rd) ps
unfolding wrong_path
any_input rd ps = refl

pub any_output : (rd : Reading) (ps : List (List ℕ)) → any is_empty ps || any (λ p. is_made p rd) ps ≡ any (wrong_path Output rd) ps
unfolding wrong_path
any_output rd ps = any_or is_empty (λ p. is_made p rd) ps

pub any_default : (rd : Reading) (ps : List (List ℕ)) → any is_empty ps || any (λ p. not (is_made p rd)) ps ≡ any (wrong_path Default rd) ps
unfolding wrong_path
any_default rd ps = any_or is_empty (λ p. not (is_made p rd)) ps

-- A default that is not refused is an output.
pub default_made : (rd : Reading) (p : List ℕ) → wrong_path Default rd p ≡ false → is_made p rd ≡ true
unfolding wrong_path
default_made rd p h = not-false _ (or_right (is_empty p) (not (is_made p rd)) h)
