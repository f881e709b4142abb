-- What the texts of a bundle are asked to be before any line of them is read.
use Rattle.std.specs.Prelude.{ℕ, ◌≤◌, List, map, true, ◌≡◌, length}
use Rattle.spec.specs.Basics.{sum}
use Rattle.spec.specs.Limits.{max_manifest, max_bundle}
use Rattle.spec.specs.Bundle.{sound_bundle, bundle_texts}

-- a bundle that breaks no rule and is not too long
pub record ShortBundle (s : List ℕ) : Type 0 where
  pub sound : sound_bundle 1 max_bundle s ≡ true
  pub short : sum (map (λ (t : List ℕ). length t) (bundle_texts s)) ≤ max_manifest
