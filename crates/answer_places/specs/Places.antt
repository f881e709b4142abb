-- An answer's place as its readers have it: the text that it stands in, and the offset there.
use Rattle.std.specs.Prelude.{ℕ, true, ◌&&◌, List, ◌≡◌}
use Rattle.lists.specs.Tests.{if_b}
use Rattle.spec.specs.Limits.{max_bundle}
use Rattle.spec.specs.Answers.{Said, Place, plain, spot}
use Rattle.spec.specs.Bundle.{sound_bundle, bundle_texts}
use Rattle.answers.specs.declared.Placed.{Placed}
use Rattle.answers.specs.Numbers.{place_told}

-- these numbers say a number and a place
pub record HasPlace (number : ℕ) (p : Place) (r : Placed) : Type 0 where
  pub number_is : r.number ≡ number
  pub place_is : place_told r ≡ p

-- A place in a text is looked up in a sound bundle. Of a malformed one no answer has such a place (`Sited`), and there it stays a number.
unfoldable pub placed_in : List ℕ → Said → Place
unfolding sound_bundle spot bundle_texts
placed_in bundle s = if_b (s.text && sound_bundle 1 max_bundle bundle) (λ _. spot (bundle_texts bundle) s.value) (λ _. plain s.value)

abbrev pub PlacedIn : List ℕ → Said → Placed → Type 0
PlacedIn bundle s r = HasPlace s.number (placed_in bundle s) r

-- A place in a text is one of a sound bundle: so it is with all that the asks answer.
abbrev pub Sited : List ℕ → Said → Type 0
Sited bundle s = s.text ≡ true → sound_bundle 1 max_bundle bundle ≡ true
