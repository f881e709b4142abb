-- The place of an answer, by what the bundle is found to be.
use Prim.Native.Nat.{ℕ, ◌+◌, ◌≤◌, ◌<◌}
use native.Mathlib.Numerals.{add-one}
use mathlib.Core.Bool.{Bool, true, false}
use mathlib.Core.List.{List}
use mathlib.Core.Path.{◌≡◌, refl, ◌∙◌}
use borrow.Author.Tests.{lt-ltb, le-ltb}
use Rattle.lists.specs.Tests.{split}
use Rattle.spec.specs.Limits.{max_bundle}
use Rattle.spec.specs.Answers.{Said, Place, spot, placed}
use Rattle.spec.specs.Bundle.{sound_bundle, bundle_texts}
use Rattle.spec.specs.Card.{number_at}
use Rattle.answers.specs.declared.Placed.{Placed}
use Rattle.answers.specs.Numbers.{saying}
use Rattle.scan_bundle.specs.declared.Spot.{Spot}
use Rattle.scan_bundle.specs.Bundles.{LaidBundle, record_place_of}
use Rattle.scan_bundle.proofs.Laws.{Opened}
use Rattle.answer_places.specs.Places.{HasPlace, placed_in, PlacedIn, Sited}

-- ---- a spot

module _ (number count : ℕ) (s : Spot) where
  pub spot_in_text : s.text < count → HasPlace number (record_place_of count s) (record { number = number; text = s.text + 1; value = s.offset })
  unfolding record_place_of
  spot_in_text h = record { number_is = refl; place_is = rw (lt-ltb s.text count h, add-one s.text) refl }

  pub spot_past_all : count ≤ s.text → HasPlace number (record_place_of count s) (record { number = number; text = 0; value = s.offset })
  unfolding record_place_of
  spot_past_all h = record { number_is = refl; place_is = rw (le-ltb s.text count h) refl }

-- a bundle that was found sound is one whose spots can be asked for
pub spot_asked : {b order : List ℕ} {least most n : ℕ} → Opened b least most order n → LaidBundle b × (n ≡ number_at 0 4 b)
spot_asked o = (o.indexed.laid, o.indexed.count)

-- ---- the answer

abbrev itself : ℕ → ℕ → Placed
itself number value = record { number = number; text = 0; value = value }

module _ (b : List ℕ) (number value : ℕ) (t : Bool) where
  pub placed_outside : t ≡ false → PlacedIn b (saying number t value) (itself number value)
  unfolding placed_in
  placed_outside e = record { number_is = refl; place_is = rw e refl }

  pub placed_malformed : t ≡ true → sound_bundle 1 max_bundle b ≡ false → PlacedIn b (saying number t value) (itself number value)
  unfolding placed_in
  placed_malformed e h = record { number_is = refl; place_is = rw (e, h) refl }

  pub placed_inside : {p : Place} {r : Placed} → t ≡ true → sound_bundle 1 max_bundle b ≡ true → p ≡ spot (bundle_texts b) value → HasPlace number p r
      → PlacedIn b (saying number t value) r
  unfolding placed_in
  placed_inside e h q x = record { number_is = x.number_is; place_is = rw (e, h) (x.place_is ∙ q) }

-- ---- of what the asks answer

pub placed_sited : (b : List ℕ) (s : Said) → Sited b s → placed_in b s ≡ placed (bundle_texts b) s
unfolding placed_in placed
placed_sited b s h = split s.text (λ (e : s.text ≡ true). rw (e, h e) refl) (λ (e : s.text ≡ false). rw e refl)
