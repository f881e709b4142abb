-- The list that takes at each turn the lowest wanted step that is ready, computed.
use Rattle.std.specs.Prelude.{Bool, not, ◌&&◌, ◌||◌, List, [], ◌∷◌, ◌++◌, ℕ, zero, suc, length}
use Rattle.std.proofs.Math.Option.{Option, none, some}
use Rattle.lists.specs.Members.{◌∈◌, has, all, find}

-- the wanted steps as a list, and what is before each step as a list
abbrev pub In : List ℕ → ℕ → Type 0
In want s = s ∈ want

abbrev pub By : (ℕ → List ℕ) → ℕ → ℕ → Type 0
By before m s = m ∈ before s

-- s is not listed, and what is wanted of what is before it is
unfoldable pub ready : List ℕ → (ℕ → List ℕ) → List ℕ → ℕ → Bool
ready want before l s = not (has s l) && all (λ m. has m l || not (has m want)) (before s)

unfoldable pub next : List ℕ → (ℕ → List ℕ) → List ℕ → Option ℕ
next want before l = find (ready want before l) want

-- l, then what the next turns add, the first of them the given one: at most as many as the number says
unfoldable pub extend : List ℕ → (ℕ → List ℕ) → ℕ → Option ℕ → List ℕ → List ℕ
extend want before zero o l = l
extend want before (suc k) none l = l
extend want before (suc k) (some s) l = let r = l ++ (s ∷ []) in extend want before k (next want before r) r

unfoldable pub greedy : List ℕ → (ℕ → List ℕ) → List ℕ
unfolding has all find ready next extend
greedy want before = extend want before (length want) (next want before []) []

unfoldable pub covers : List ℕ → List ℕ → Bool
covers l want = all (λ s. has s l) want

unfoldable pub whole : List ℕ → (ℕ → List ℕ) → Bool
unfolding has all greedy covers
whole want before = covers (greedy want before) want

unfoldable pub or_zero : Option ℕ → ℕ
or_zero none = 0
or_zero (some s) = s

-- a wanted step before s that l lacks
unfoldable pub blocker : List ℕ → (ℕ → List ℕ) → List ℕ → ℕ → ℕ
blocker want before l s = or_zero (find (λ m. has m want && not (has m l)) (before s))
