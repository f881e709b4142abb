-- The line that a format and a status give, and where a format is wrong. Each goes over the format once; what it remembers is whether the byte before begins a placeholder.
use Rattle.std.specs.Prelude.{ℕ, suc, ◌-◌, Bool, true, false, not, List, [], ◌∷◌, ◌++◌, eqb, Option, Some, None}
use Rattle.lists.specs.Tests.{if_b}
use Rattle.status_record.specs.declared.Status.{Status}
use Rattle.status_line.specs.Pieces.{piece_of, piece_text}

-- "`%s %t %p %r %u %f %o %c %e %%`"
unfoldable pub known_key : ℕ → Bool
known_key k =
    if_b (eqb k 115) (λ _. true)
    (λ _. if_b (eqb k 116) (λ _. true)
    (λ _. if_b (eqb k 112) (λ _. true)
    (λ _. if_b (eqb k 114) (λ _. true)
    (λ _. if_b (eqb k 117) (λ _. true)
    (λ _. if_b (eqb k 102) (λ _. true)
    (λ _. if_b (eqb k 111) (λ _. true)
    (λ _. if_b (eqb k 99) (λ _. true)
    (λ _. if_b (eqb k 101) (λ _. true)
    (λ _. eqb k 37)))))))))

-- a byte behind a `%` that names no placeholder
unfoldable pub wrong_key : Bool → ℕ → Bool
unfolding known_key
wrong_key true b = not (known_key b)
wrong_key false b = false

-- whether the next byte stands behind a `%` that begins a placeholder
unfoldable pub next_state : Bool → ℕ → Bool
next_state true b = false
next_state false b = eqb b 37

-- a `%` that ends the format begins no placeholder
unfoldable pub wrong_end : ℕ → Bool → Option ℕ
wrong_end i true = Some (i - 1)
wrong_end i false = None

-- "Another `%` is refusal 21 there": the first one's place, where i is the place of the next byte
unfoldable pub wrong_from : ℕ → Bool → List ℕ → Option ℕ
unfolding wrong_key next_state wrong_end
wrong_from i a [] = wrong_end i a
wrong_from i a (b ∷ l) = if_b (wrong_key a b) (λ _. Some (i - 1)) (λ _. wrong_from (suc i) (next_state a b) l)

-- what one byte of the format adds to the line
unfoldable pub element_text : Status → Bool → ℕ → List ℕ
unfolding piece_of piece_text
element_text s true b = piece_text (piece_of s b)
element_text s false b = if_b (eqb b 37) (λ _. []) (λ _. b ∷ [])

unfoldable pub line_from : Status → Bool → List ℕ → List ℕ
unfolding element_text next_state
line_from s a [] = []
line_from s a (b ∷ l) = element_text s a b ++ line_from s (next_state a b) l
