-- The members of a rising list, before and after one more is put in.
use Prim.Native.Nat.{ℕ, zero, suc, ◌<◌}
use mathlib.Core.Bool.{Bool, true, false, ◌||◌}
use mathlib.Core.List.{List, [], ◌∷◌, ◌++◌}
use mathlib.Core.Path.{◌≡◌, refl, sym, ◌∙◌, ap}
use native.Mathlib.Nat.{not-suc-le-zero, le_of_suc-le-suc}
use native.Mathlib.Omega.{arith}
use lib.ListN.{length, take, drop, get_or, take-append-drop}
use Rattle.lists.specs.Tests.{or_false}
use Rattle.lists.specs.Bytes.{eq_bytes, eq_eq_bytes, ne_eq_bytes}
use Rattle.lists.specs.Members.{any, any_append}
use Rattle.spec.specs.Basics.{among}
use Rattle.arena.specs.Inserted.{inserted}
use Rattle.arena.specs.Rising.{PathBetween}
use Rattle.arena.proofs.Rising.{between_none}

among_cons : (q p : List ℕ) (ps : List (List ℕ)) → among q (p ∷ ps) ≡ eq_bytes q p || among q ps
unfolding among any
among_cons q p ps = refl

among_append : (q : List ℕ) (ps rs : List (List ℕ)) → among q (ps ++ rs) ≡ among q ps || among q rs
unfolding among
among_append q ps rs = any_append (eq_bytes q) ps rs

pub among_at : (x : List ℕ) (ps : List (List ℕ)) (k : ℕ) → k < length ps → x ≡ get_or ps k [] → among x ps ≡ true
among_at x [] k h e = absurd (not-suc-le-zero h)
among_at x (p ∷ ps) zero h e = among_cons x p ps ∙ rw (eq_eq_bytes e)
among_at x (p ∷ ps) (suc k) h e = among_cons x p ps ∙ rw (among_at x ps k (le_of_suc-le-suc h) e) (or_true (eq_bytes x p))
  where
    or_true : (a : Bool) → a || true ≡ true
    or_true true = refl
    or_true false = refl

among_none : (x : List ℕ) (ps : List (List ℕ)) → ((i : ℕ) → i < length ps → x ≡ get_or ps i [] → ⊥) → among x ps ≡ false
unfolding among any
among_none x [] f = refl
among_none x (p ∷ ps) f = or_false (eq_bytes x p) (among x ps) (ne_eq_bytes x p (f 0 (omega arith))) (among_none x ps (λ i a. f (suc i) (omega arith)))

pub free_among : {ps : List (List ℕ)} {x : List ℕ} {p : ℕ} → PathBetween ps x p p → among x ps ≡ false
free_among {ps} {x} b = among_none x ps (between_none b)

pub among_inserted : (q : List ℕ) (ps : List (List ℕ)) (p : ℕ) (x : List ℕ) → among q (inserted ps p x) ≡ eq_bytes q x || among q ps
among_inserted q ps p x =
    among_append q (take p ps) (x ∷ drop p ps)
    ∙ rw (among_cons q x (drop p ps)) (or_middle (among q (take p ps)) (eq_bytes q x) (among q (drop p ps)))
    ∙ ap (λ (b : Bool). eq_bytes q x || b) (sym (among_append q (take p ps) (drop p ps)) ∙ ap (among q) (take-append-drop p ps))
  where
    or_middle : (a b c : Bool) → a || (b || c) ≡ b || (a || c)
    or_middle true true c = refl
    or_middle true false c = refl
    or_middle false b c = refl
