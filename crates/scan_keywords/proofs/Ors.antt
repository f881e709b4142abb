-- A chain of `||`, test by test.
use mathlib.Core.Bool.{Bool, true, false, ◌||◌, or-false}
use mathlib.Core.Path.{◌≡◌, refl, sym, ◌∙◌}

pub or_then : {x v : Bool} (y : Bool) → x ≡ true → v ≡ true → v ≡ x || y
or_then y e f = rw e f

pub or_else : {x v r y : Bool} → x ≡ false → v ≡ r → r ≡ y → v ≡ x || y
or_else e f g = rw e (f ∙ g)

-- As the chain is tested, and as a list of words has it.
pub five : (a b c d e : Bool) → (((a || b) || c) || d) || e ≡ a || (b || (c || (d || (e || false))))
five true b c d e = refl
five false true c d e = refl
five false false true d e = refl
five false false false true e = refl
five false false false false e = sym (or-false e)

pub seven : (a b c d e f g : Bool) → (((((a || b) || c) || d) || e) || f) || g ≡ a || (b || (c || (d || (e || (f || (g || false))))))
seven true b c d e f g = refl
seven false true c d e f g = refl
seven false false true d e f g = refl
seven false false false true e f g = refl
seven false false false false true f g = refl
seven false false false false false true g = refl
seven false false false false false false g = sym (or-false g)
