-- What a buffer holds once bytes are written into it as far as they fit.
use Rattle.std.specs.Prelude.{ℕ, ◌+◌, ◌-◌, List, ◌++◌, ◌≡◌, length, take, drop}

-- the bytes of s over those of a buffer, as far as they fit
unfoldable pub laid_over : List ℕ → List ℕ → List ℕ
laid_over d s = take (length d) s ++ drop (length s) d

-- the same from place `at` on
unfoldable pub laid_at : List ℕ → ℕ → List ℕ → List ℕ
laid_at d at s = take at d ++ take (length d - at) s ++ drop (at + length s) d

-- The buffer holds the bytes s, as far as they fit, over what it held before, and n is their number.
pub record Written (before s after : List ℕ) (n : ℕ) : Type 0 where
  pub count : n ≡ length s
  pub bytes : after ≡ laid_over before s
