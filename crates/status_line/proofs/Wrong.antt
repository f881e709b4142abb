-- The walk that looks for a `%` which begins no placeholder.
use Rattle.std.specs.Prelude.{Some, None}
use Prim.Native.Nat.{ℕ, suc, ◌+◌, ◌-◌, ◌≤◌, ◌<◌}
use native.Mathlib.Nat.{le_antisymm}
use native.Mathlib.Numerals.{add-one}
use native.Mathlib.Omega.{arith}
use mathlib.Core.Bool.{Bool, true, false, true≢false}
use mathlib.Core.List.{List, [], ◌∷◌}
use mathlib.Core.Path.{◌≡◌, refl, sym, ap, ◌∙◌}
use lib.ListN.{length, drop, get_or}
use lib.Seq.{drop-cons, drop-length}
use Rattle.status_line.specs.Line.{wrong_key, next_state, wrong_end, wrong_from}

-- the first i bytes are sound, and `after` says whether the last of them begins a placeholder
pub record Looking (format : List ℕ) (i : ℕ) (after : Bool) : Type 0 where
  pub within : i ≤ length format
  pub begun : after ≡ true → 0 < i
  pub rest : wrong_from 0 false format ≡ wrong_from i after (drop i format)

pub look_begin : (format : List ℕ) → Looking format 0 false
look_begin format = record { within = omega arith; begun = λ e. absurd (true≢false (sym e)); rest = refl }

pub bad_after : (a : Bool) (b : ℕ) → wrong_key a b ≡ true → a ≡ true
unfolding wrong_key
bad_after true b e = refl
bad_after false b e = e

step : (i : ℕ) (a : Bool) (b : ℕ) (l : List ℕ) → wrong_key a b ≡ false → wrong_from i a (b ∷ l) ≡ wrong_from (suc i) (next_state a b) l
unfolding wrong_from
step i a b l e = rw e

stop : (i : ℕ) (a : Bool) (b : ℕ) (l : List ℕ) → wrong_key a b ≡ true → wrong_from i a (b ∷ l) ≡ Some (i - 1)
unfolding wrong_from
stop i a b l e = rw e

ended : (i : ℕ) (a : Bool) → wrong_from i a [] ≡ wrong_end i a
unfolding wrong_from
ended i a = refl

module _ {format : List ℕ} {i : ℕ} {a : Bool} (h : Looking format i a) where
  pub look_bad : i < length format → wrong_key a (get_or format i 0) ≡ true → Some (i - 1) ≡ wrong_from 0 false format
  look_bad l e = sym (h.rest ∙ ap (wrong_from i a) (drop-cons format i 0 l) ∙ stop i a (get_or format i 0) (drop (suc i) format) e)

  pub look_on : {b : Bool} → i < length format → wrong_key a (get_or format i 0) ≡ false → b ≡ next_state a (get_or format i 0) → Looking format (i + 1) b
  look_on {b} l e n =
      record {
        within = omega arith;
        begun = λ _. omega arith;
        rest = h.rest ∙ ap (wrong_from i a) (drop-cons format i 0 l) ∙ step i a (get_or format i 0) (drop (suc i) format) e
            ∙ ap (λ (c : Bool). wrong_from (suc i) c (drop (suc i) format)) (sym n)
            ∙ ap (λ (k : ℕ). wrong_from k b (drop k format)) (sym (add-one i));
      }

  finished : length format ≤ i → wrong_from 0 false format ≡ wrong_end i a
  finished l = h.rest ∙ ap (wrong_from i a) (ap (λ (k : ℕ). drop k format) (le_antisymm h.within l) ∙ drop-length format) ∙ ended i a

  pub look_open : length format ≤ i → a ≡ true → Some (i - 1) ≡ wrong_from 0 false format
  unfolding wrong_end
  look_open l e = sym (finished l ∙ ap (wrong_end i) e)

  pub look_end : length format ≤ i → a ≡ false → None ≡ wrong_from 0 false format
  unfolding wrong_end
  look_end l e = sym (finished l ∙ ap (wrong_end i) e)
