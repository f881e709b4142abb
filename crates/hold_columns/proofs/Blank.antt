-- The first n numbers of a working space that is all zero.
use Prim.Native.Nat.{ℕ, zero, suc, ◌≤◌}
use native.Mathlib.Omega.{arith}
use mathlib.Core.Path.{◌≡◌, refl, sym, ap, ◌∙◌}
use mathlib.Core.List.{List, ◌∷◌}
use lib.ListN.{length, take}
use Rattle.lists.specs.Fill.{zeros, length_zeros}

pub take_blank : (n size : ℕ) → n ≤ size → take n (zeros size) ≡ zeros n
take_blank zero size b = refl
take_blank (suc n) zero b = absurd (omega arith)
take_blank (suc n) (suc size) b = ap (λ (l : List ℕ). 0 ∷ l) (take_blank n size (omega arith))

pub length_blank : (n size : ℕ) → n ≤ size → n ≡ length (take n (zeros size))
length_blank n size b = sym (ap length (take_blank n size b) ∙ length_zeros n)
