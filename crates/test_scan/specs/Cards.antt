-- How many names a card lists.
use Rattle.std.specs.Prelude.{ℕ, ◌+◌, List, [], ◌∷◌, eqb}
use Rattle.lists.specs.Tests.{if_b}
use Rattle.spec.specs.Card.{card_entries, time_in}

-- 1 for a name that has a time
unfoldable pub is_listed : List ℕ → List ℕ → ℕ
unfolding card_entries time_in
is_listed card p = if_b (eqb (time_in (card_entries card) p) 0) (λ _. 0) (λ _. 1)

-- those of these names that have one
unfoldable pub card_listed : List ℕ → List (List ℕ) → ℕ
unfolding is_listed
card_listed card [] = 0
card_listed card (p ∷ ps) = is_listed card p + card_listed card ps
