-- What the definitions are written with: tests and sums on lists.
use Rattle.std.specs.Prelude.{ℕ, ◌+◌, List, [], ◌∷◌, ◌++◌, Bool, true, false}
use Rattle.std.proofs.Math.Option.{Option, none, some}
use Rattle.lists.specs.Members.{any}
use Rattle.lists.specs.Bytes.{eq_bytes}

abbrev pub is_empty : {A : Type 0} → List A → Bool
is_empty [] = true
is_empty (a ∷ l) = false

-- what is made of what is there, or else of nothing
abbrev pub or_else : {A B : Type 0} → Option A → (A → B) → (Unit {0} → B) → B
or_else (some a) f g = f a
or_else none f g = g tt

-- is this name among them; "Paths are compared byte for byte."
unfoldable pub among : List ℕ → List (List ℕ) → Bool
unfolding any eq_bytes
among n l = any (eq_bytes n) l

unfoldable pub concat : {A : Type 0} → List (List A) → List A
concat [] = []
concat (l ∷ ls) = l ++ concat ls

unfoldable pub sum : List ℕ → ℕ
sum [] = 0
sum (n ∷ l) = n + sum l
