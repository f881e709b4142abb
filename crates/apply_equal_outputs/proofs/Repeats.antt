-- Equal lists among those of a table and those that are still to come.
use Prim.Native.Nat.{ℕ}
use mathlib.Core.Bool.{Bool, true, false, ◌||◌}
use mathlib.Core.List.{List, [], ◌∷◌}
use mathlib.Core.Path.{◌≡◌, refl, sym, ◌∙◌, ap}
use Rattle.lists.specs.Tests.{split}
use Rattle.lists.specs.Bytes.{eq_bytes, eq_eq_bytes, ne_eq_bytes, eq_bytes_true, eq_bytes_false}
use Rattle.lists.specs.Members.{any}
use Rattle.spec.specs.Basics.{among}
use Rattle.spec.specs.Statements.{twice}

-- whether one of the table comes, or two equal ones
unfoldable pub repeats : List (List ℕ) → List (List ℕ) → Bool
unfolding any among twice
repeats table ps = any (λ p. among p table) ps || twice ps

none_meets : (ps : List (List ℕ)) → any (λ p. among p []) ps ≡ false
unfolding any among
none_meets [] = refl
none_meets (p ∷ ps) = none_meets ps

pub repeats_begin : (ps : List (List ℕ)) → twice ps ≡ repeats [] ps
unfolding repeats
repeats_begin ps = ap (λ (b : Bool). b || twice ps) (sym (none_meets ps))

pub repeats_end : (table : List (List ℕ)) → repeats table [] ≡ false
unfolding repeats any twice
repeats_end table = refl

pub repeats_found : (table : List (List ℕ)) (x : List ℕ) (ps : List (List ℕ)) → among x table ≡ true → repeats table (x ∷ ps) ≡ true
unfolding repeats any
repeats_found table x ps h = rw h

eq_bytes_sym : (a b : List ℕ) → eq_bytes a b ≡ eq_bytes b a
eq_bytes_sym a b =
    split (eq_bytes a b)
    (λ (e : eq_bytes a b ≡ true). e ∙ sym (eq_eq_bytes (sym (eq_bytes_true a b e))))
    (λ (e : eq_bytes a b ≡ false). e ∙ sym (ne_eq_bytes b a (λ q. eq_bytes_false e (sym q))))

-- x joins the table and is not looked for any more
pub repeats_on : (table table' : List (List ℕ)) (x : List ℕ) (ps : List (List ℕ)) → among x table ≡ false → ((p : List ℕ) → among p table' ≡ eq_bytes p x || among p table)
    → repeats table (x ∷ ps) ≡ repeats table' ps
unfolding repeats any twice among
repeats_on table table' x ps h m =
    rw h (or_swap (any (λ p. among p table) ps) (among x ps) (twice ps) ∙ ap (λ (b : Bool). b || twice ps) (sym (joined ps)))
  where
    or_swap : (a b c : Bool) → a || (b || c) ≡ (a || b) || c
    or_swap true b c = refl
    or_swap false b c = refl

    or_four : (a b c d : Bool) → (a || b) || (c || d) ≡ (b || c) || (a || d)
    or_four true true c d = refl
    or_four true false true d = refl
    or_four true false false d = refl
    or_four false true c d = refl
    or_four false false c d = refl

    joined : (ps : List (List ℕ)) → any (λ p. among p table') ps ≡ any (λ p. among p table) ps || among x ps
    joined [] = refl
    joined (p ∷ ps) =
        rw (m p, joined ps, eq_bytes_sym p x) (or_four (eq_bytes x p) (among p table) (any (λ p. among p table) ps) (among x ps))
