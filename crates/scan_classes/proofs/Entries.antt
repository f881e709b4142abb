-- A rule of a table, tested once over the whole table by computation, holds at each entry.
use Prim.Native.Nat.{ℕ, zero, suc, ◌+◌, ◌<◌}
use mathlib.Core.Bool.{Bool, true, ◌&&◌}
use mathlib.Core.List.{List, [], ◌∷◌}
use mathlib.Core.Path.{◌≡◌, refl}
use native.Mathlib.Nat.{add-zero, zero-add, add-suc, suc-add, le_of_suc-le-suc, not-suc-le-zero}
use borrow.Author.Tests.{eqb-true}
use lib.Dec.{eqb}
use lib.ListN.{length, get_or}
use Rattle.lists.specs.Tests.{and_left, and_right}
use Rattle.spec.specs.Bytes.{between, letter, digit, short_byte, forbidden, class_of}
use Rattle.scan_classes.specs.Table.{classes}

-- the test f passes at each entry and its place, counted from i
unfoldable pub every : (ℕ → ℕ → Bool) → ℕ → List ℕ → Bool
every f i [] = true
every f i (x ∷ xs) = f i x && every f (suc i) xs

every_from : (f : ℕ → ℕ → Bool) (xs : List ℕ) (i : ℕ) → every f i xs ≡ true → (k : ℕ) → k < length xs → f (i + k) (get_or xs k 0) ≡ true
unfolding every
every_from f [] i t k h = absurd (not-suc-le-zero h)
every_from f (x ∷ xs) i t zero h = rw add-zero (and_left (f i x) (every f (suc i) xs) t)
every_from f (x ∷ xs) i t (suc k) h =
    rw (add-suc i k, ← suc-add i k)
    (every_from f xs (suc i) (and_right (f i x) (every f (suc i) xs) t) k (le_of_suc-le-suc h))

pub every_at : (f : ℕ → ℕ → Bool) (xs : List ℕ) → every f 0 xs ≡ true → (k : ℕ) → k < length xs → f k (get_or xs k 0) ≡ true
every_at f xs t k h = rw zero-add at (every_from f xs 0 t k h)

right : ℕ → ℕ → Bool
right b c = eqb c (class_of b)

-- "Its rule holds at every entry."
pub table_right : (b : ℕ) → b < 256 → get_or classes b 0 ≡ class_of b
unfolding classes every right between letter digit short_byte forbidden class_of
table_right b h = eqb-true _ _ (every_at right classes refl b h)
