-- Several growing tables in one list: regions of fixed capacity, one after another, each beginning with a column.
use Rattle.std.specs.Prelude.{ℕ, zero, suc, ◌+◌, ◌≤◌, ◌≡◌, List, [], ◌∷◌, length, take, drop, get_or}

-- capacities, the list, the columns: each column begins its region
unfoldable pub Lies : List ℕ → List ℕ → List (List ℕ) → Type 0
Lies [] a [] = Unit {0}
Lies [] a (x ∷ xs) = ⊥
Lies (n ∷ ns) a [] = ⊥
Lies (n ∷ ns) a (x ∷ xs) = (length x ≤ n) × (n ≤ length a) × (take (length x) a ≡ x) × Lies ns (drop n a) xs

-- where region c begins
abbrev pub start_of : List ℕ → ℕ → ℕ
start_of [] c = 0
start_of (n ∷ ns) zero = 0
start_of (n ∷ ns) (suc c) = n + start_of ns c

abbrev pub column : List (List ℕ) → ℕ → List ℕ
column xs c = get_or xs c []
