-- The inputs of a build line by what stands after each list of them, as they are met.
use Rattle.std.specs.Prelude.{ℕ, List, [], ◌∷◌, eqb}
use Rattle.lists.specs.Tests.{if_b}
use Rattle.spec.specs.Basics.{is_empty}
use Rattle.spec.specs.Bytes.{bar}
use Rattle.spec.specs.Forms.{Cut, fits, fails, no_form, then, paths, Form, build_form, BuildLine}

-- what stands after a list of inputs: nothing, `|`, `||` (read before `|`), or a byte that does not fit
pub data Bars : Type 0 where
  line_end : Bars
  one_bar : List ℕ → Bars
  two_bars : List ℕ → Bars
  other_byte : Bars

unfoldable pub bars_at : List ℕ → Bars
bars_at [] = line_end
bars_at (b ∷ []) = if_b (eqb b bar) (λ _. one_bar []) (λ _. other_byte)
bars_at (b ∷ c ∷ s) =
    if_b (eqb b bar) (λ _. if_b (eqb c bar) (λ _. two_bars s) (λ _. one_bar (c ∷ s))) (λ _. other_byte)

unfoldable pub with_inputs : BuildLine → List (List ℕ) → List (List ℕ) → List (List ℕ) → Cut Form
with_inputs b i m o = fits (build_form (record { outs = b.outs; rule = b.rule; ins = i; implicit = m; order_only = o }))

-- from behind `||` on
unfoldable pub cut_order_only : BuildLine → List (List ℕ) → List (List ℕ) → List ℕ → Cut Form
unfolding then paths with_inputs
cut_order_only b i m s =
    then (paths s) λ o. if_b (is_empty o.rest) (λ _. with_inputs b i m o.raw) (λ _. fails no_form)

unfoldable pub after_implicit : BuildLine → List (List ℕ) → List (List ℕ) → Bars → Cut Form
unfolding cut_order_only with_inputs
after_implicit b i m line_end = with_inputs b i m []
after_implicit b i m (one_bar s) = fails no_form
after_implicit b i m (two_bars s) = cut_order_only b i m s
after_implicit b i m other_byte = fails no_form

unfoldable pub after_inputs : BuildLine → List (List ℕ) → Bars → Cut Form
unfolding then paths bars_at after_implicit cut_order_only with_inputs
after_inputs b i line_end = with_inputs b i [] []
after_inputs b i (one_bar s) = then (paths s) λ m. after_implicit b i m.raw (bars_at m.rest)
after_inputs b i (two_bars s) = cut_order_only b i [] s
after_inputs b i other_byte = fails no_form
