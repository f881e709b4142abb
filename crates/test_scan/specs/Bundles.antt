-- A bundle's answers as numbers.
use Rattle.std.specs.Prelude.{ℕ, ◌+◌, ◌≤◌, ◌<◌, ◌&&◌, List, [], ◌≡◌, eqb, leb, ltb, length, get_or}
use Rattle.lists.specs.Bytes.{eq_bytes}
use Rattle.lists.specs.Tests.{if_b}
use Rattle.spec.specs.Answers.{Place, plain, in_text, spot, base_of}
use Rattle.spec.specs.Basics.{among}
use Rattle.spec.specs.Bundle.{bundle_names, bundle_texts, sound_bundle}
use Rattle.spec.specs.Card.{number_at}
use Rattle.spec.specs.Limits.{max_bundle}
use Rattle.spec.specs.Reading.{number_of}
use Rattle.scan_bundle.specs.Bundles.{Wraps}

unfoldable pub bundle_count : List ℕ → ℕ → ℕ → ℕ
unfolding sound_bundle number_at
bundle_count b least most = if_b (leb most 512) (λ _. if_b (sound_bundle least most b) (λ _. number_at 0 4 b + 1) (λ _. 0)) (λ _. 0)

unfoldable pub record_number : List ℕ → List ℕ → ℕ
unfolding sound_bundle among number_of bundle_names
record_number b path = if_b (sound_bundle 0 512 b) (λ _. if_b (among path (bundle_names b)) (λ _. number_of path (bundle_names b) + 2) (λ _. 1)) (λ _. 0)

-- the records of a manifest's bundle
unfoldable pub records_in : List ℕ → ℕ
unfolding sound_bundle number_at
records_in b = if_b (sound_bundle 1 max_bundle b) (λ _. number_at 0 4 b) (λ _. 0)

unfoldable pub text_number : List ℕ → ℕ → List ℕ → ℕ
unfolding records_in bundle_texts eq_bytes
text_number b k text = if_b (ltb k (records_in b) && eq_bytes (get_or (bundle_texts b) k []) text) (λ _. length text + 1) (λ _. 0)

unfoldable pub base_number : List ℕ → ℕ → ℕ
unfolding records_in bundle_texts base_of
base_number b k = if_b (ltb k (records_in b)) (λ _. base_of (bundle_texts b) k) (λ _. 0)

unfoldable pub record_text_of : Place → ℕ
record_text_of (plain p) = 1
record_text_of (in_text k p) = k + 2

unfoldable pub spot_number : List ℕ → ℕ → ℕ
unfolding records_in bundle_texts spot record_text_of
spot_number b place = if_b (eqb (records_in b) 0) (λ _. 0) (λ _. record_text_of (spot (bundle_texts b) place))

-- the bundle of one record where it has room and its length is a number of 4 bytes; otherwise 0, and the buffer stays
pub record WrapsInto (name text out out' : List ℕ) (r : ℕ) : Type 0 where
  pub fits : length name + length text < 4294967264 → 32 + (length name + length text) ≤ length out → Wraps name text out out' r
  pub long : 4294967264 ≤ length name + length text → (r ≡ 0) × (out' ≡ out)
  pub short : length out < 32 + (length name + length text) → (r ≡ 0) × (out' ≡ out)
