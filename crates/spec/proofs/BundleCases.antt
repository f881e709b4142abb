-- Bundles that the checker computes: written, read, and one for each way in which the layout is broken.
use Prim.Native.Nat.{ℕ, ◌+◌, ◌*◌}
use mathlib.Core.Bool.{true, false}
use mathlib.Core.List.{List, [], ◌∷◌, ◌++◌}
use mathlib.Core.Path.{◌≡◌, refl}
use Rattle.lists.specs.Text.{bytes}
use Rattle.spec.specs.Limits.{max_bundle}
use Rattle.spec.specs.Card.{in_bytes}
use Rattle.spec.specs.Bundle.{bundle_names, bundle_texts, sound_bundle, BundleRecord, bundled}

abbrev lent : List ℕ → List ℕ → BundleRecord
lent n t = record { name = n; bytes = t }

-- count, 16, 16 + 16n, total length
abbrev header : ℕ → ℕ → List ℕ
header n total = in_bytes 4 n ++ (in_bytes 4 16 ++ (in_bytes 4 (16 + 16 * n) ++ in_bytes 4 total))

-- a record: where its name lies, and where its text does
abbrev row : ℕ → ℕ → ℕ → ℕ → List ℕ
row at size from long = in_bytes 4 at ++ (in_bytes 4 size ++ (in_bytes 4 from ++ in_bytes 4 long))

-- one record: a name of one byte, and a text of three behind it
one : bundled (lent (bytes "a") (bytes "x y") ∷ []) ≡ header 1 36 ++ (row 0 1 1 3 ++ bytes "ax y")
unfolding bundled
one = refl

one_sound : sound_bundle 1 max_bundle (header 1 36 ++ (row 0 1 1 3 ++ bytes "ax y")) ≡ true
unfolding sound_bundle
one_sound = refl

-- two: the names in any order, a text of no bytes
abbrev two : List ℕ
two = header 2 55 ++ (row 0 2 3 4 ++ (row 2 1 7 0 ++ bytes "bcatext"))

two_sound : sound_bundle 1 max_bundle two ≡ true
unfolding sound_bundle
two_sound = refl

two_names : bundle_names two ≡ bytes "bc" ∷ bytes "a" ∷ []
unfolding bundle_names
two_names = refl

two_texts : bundle_texts two ≡ bytes "text" ∷ [] ∷ []
unfolding bundle_texts
two_texts = refl

-- a gap of one byte between the names and the first text, one between two texts, one byte left over
gap : sound_bundle 1 max_bundle (header 1 37 ++ (row 0 1 2 3 ++ bytes "a-x y")) ≡ false
unfolding sound_bundle
gap = refl

text_gap : sound_bundle 1 max_bundle (header 2 53 ++ (row 0 1 2 1 ++ (row 1 1 4 1 ++ bytes "abx-y"))) ≡ false
unfolding sound_bundle
text_gap = refl

left_over : sound_bundle 1 max_bundle (header 1 37 ++ (row 0 1 1 3 ++ bytes "ax y-")) ≡ false
unfolding sound_bundle
left_over = refl

-- a text that begins in the name, one that begins in the text before it
overlap : sound_bundle 1 max_bundle (header 1 35 ++ (row 0 1 0 3 ++ bytes "a y")) ≡ false
unfolding sound_bundle
overlap = refl

text_overlap : sound_bundle 1 max_bundle (header 2 52 ++ (row 0 1 2 2 ++ (row 1 1 3 1 ++ bytes "abxy"))) ≡ false
unfolding sound_bundle
text_overlap = refl

-- counted from where the texts begin
texts_own : sound_bundle 1 max_bundle (header 1 36 ++ (row 0 1 0 3 ++ bytes "ax y")) ≡ false
unfolding sound_bundle
texts_own = refl

-- a name twice, and one of no bytes
name_twice : sound_bundle 1 max_bundle (header 2 52 ++ (row 0 1 2 1 ++ (row 1 1 3 1 ++ bytes "aaxy"))) ≡ false
unfolding sound_bundle
name_twice = refl

no_name : sound_bundle 1 max_bundle (header 1 35 ++ (row 0 0 0 3 ++ bytes "x y")) ≡ false
unfolding sound_bundle
no_name = refl

-- no record is one too few for a manifest, and enough for header lists
none_at_least_one : sound_bundle 1 max_bundle (header 0 16) ≡ false
unfolding sound_bundle
none_at_least_one = refl

none_at_all : sound_bundle 0 512 (header 0 16) ≡ true
unfolding sound_bundle
none_at_all = refl

-- a bundle of no bytes
no_bytes : sound_bundle 0 512 [] ≡ false
unfolding sound_bundle
no_bytes = refl
