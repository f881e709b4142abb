-- What a place of a target list answers, and the names of one.
use Rattle.std.specs.Prelude.{ℕ, ◌+◌, List, [], ◌∷◌, length}
use Rattle.lists.specs.Tests.{if_b}
use Rattle.spec.specs.Targets.{Target, bad_length}

-- by the names from that place on: 0 for none, 1 for a first one of a bad length, e + 1 for one that ends at place e
unfoldable pub target_number : List Target → ℕ
unfolding bad_length
target_number [] = 0
target_number (t ∷ ts) = if_b (bad_length t.name) (λ _. 1) (λ _. t.start + length t.name + 1)

-- the names up to the first of a bad length
unfoldable pub good_names : List Target → List (List ℕ)
unfolding bad_length
good_names [] = []
good_names (t ∷ ts) = if_b (bad_length t.name) (λ _. []) (λ _. t.name ∷ good_names ts)
