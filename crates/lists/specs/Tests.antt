-- Definitions by tests: a lazy if, and what a test's value says, both ways.
use Rattle.std.specs.Prelude.{Bool, true, false, ◌&&◌, ◌||◌, ◌⊎◌, ◌≡◌, refl}
use Rattle.std.proofs.Common.{true≢false, inl, inr, sym, ◌∙◌}

-- Lazy, so that a definition by cases computes only the case that holds.
abbrev pub if_b : {A : Type 0} → Bool → (Unit {0} → A) → (Unit {0} → A) → A
if_b true f g = f tt
if_b false f g = g tt

-- A proof by the two values of a test, each with its equation.
pub split : {A : Type 0} (b : Bool) → (b ≡ true → A) → (b ≡ false → A) → A
split true f g = f refl
split false f g = g refl

pub differ : {A : Type 0} {b : Bool} → b ≡ true → b ≡ false → A
differ p q = absurd (true≢false (sym p ∙ q))

-- "and" is true exactly where both are, "or" false exactly where both are.
pub and_true : (a b : Bool) → a ≡ true → b ≡ true → a && b ≡ true
and_true a b p q = rw (p, q)

pub and_left : (a b : Bool) → a && b ≡ true → a ≡ true
and_left true b p = refl
and_left false b p = p

pub and_right : (a b : Bool) → a && b ≡ true → b ≡ true
and_right true b p = p
and_right false b p = differ p refl

pub and_false : (a b : Bool) → a && b ≡ false → (a ≡ false) ⊎ (b ≡ false)
and_false true b p = inr p
and_false false b p = inl refl

pub or_false : (a b : Bool) → a ≡ false → b ≡ false → a || b ≡ false
or_false a b p q = rw (p, q)

pub or_left : (a b : Bool) → a || b ≡ false → a ≡ false
or_left true b p = p
or_left false b p = refl

pub or_right : (a b : Bool) → a || b ≡ false → b ≡ false
or_right true b p = differ refl p
or_right false b p = p

pub or_true : (a b : Bool) → a || b ≡ true → (a ≡ true) ⊎ (b ≡ true)
or_true true b p = inl refl
or_true false b p = inr p
