-- [1] A lent bundle: texts by name, in the card's layout.
use Rattle.std.specs.Prelude.{ℕ, zero, suc, ◌+◌, ◌*◌, List, [], ◌∷◌, ◌++◌, map, Bool, false, not, ◌&&◌, eqb, leb, length, take, drop}
use Rattle.std.proofs.Math.Option.{Option, none, some}
use Rattle.lists.specs.Tests.{if_b}
use Rattle.lists.specs.Text.{bytes}
use Rattle.spec.specs.Basics.{or_else, concat}
use Rattle.spec.specs.Limits.{max_path}
use Rattle.spec.specs.Statements.{twice}
use Rattle.spec.specs.Card.{in_bytes, number_at, sound_layout, card_names}

-- "the card's layout, .. for the time a text's offset from the names (4) and length (4)": a record has its name's extent, then its text's
pub record Extent : Type 0 where
  pub offset : ℕ
  pub size : ℕ

-- the extent at an offset
unfoldable pub extent_at : ℕ → List ℕ → Extent
unfolding number_at
extent_at at s = record { offset = number_at at 4 s; size = number_at (at + 4) 4 s }

-- the extent that each of the first n records begins with, where a record has 16 bytes
unfoldable pub extents_of : ℕ → List ℕ → List Extent
unfolding extent_at
extents_of zero s = []
extents_of (suc n) s = extent_at 0 s ∷ extents_of n (drop 16 s)

unfoldable pub name_extents : List ℕ → List Extent
unfolding extents_of number_at
name_extents s = extents_of (number_at 0 4 s) (drop 16 s)

-- those of the texts stand eight bytes on in each record
unfoldable pub text_extents : List ℕ → List Extent
unfolding extents_of number_at
text_extents s = extents_of (number_at 0 4 s) (drop 24 s)

-- what lies at an extent
unfoldable pub lying_at : List ℕ → Extent → List ℕ
lying_at s e = take e.size (drop e.offset s)

-- names and texts by record; offsets count from where the card has its names
unfoldable pub bundle_names : List ℕ → List (List ℕ)
unfolding lying_at name_extents card_names
bundle_names s = map (lying_at (card_names s)) (name_extents s)

unfoldable pub bundle_texts : List ℕ → List (List ℕ)
unfolding lying_at text_extents card_names
bundle_texts s = map (lying_at (card_names s)) (text_extents s)

-- "Names lie end to end in record order": each extent starts where the one before it ends, and its size is within bounds. Where the last one ends,
-- or none if one of them does not lie so.
unfoldable pub extents_end : ℕ → ℕ → ℕ → List Extent → Option ℕ
extents_end least most at [] = some at
extents_end least most at (e ∷ es) = if_b (eqb e.offset at && leb least e.size && leb e.size most) (λ _. extents_end least most (at + e.size) es) (λ _. none)

-- "the texts follow the names likewise": from where the names end on, and the last ends where the bundle does. Names have 1 to 255 bytes.
unfoldable pub sound_extents : List ℕ → Bool
unfolding extents_end name_extents text_extents card_names
sound_extents s =
    or_else (extents_end 1 max_path 0 (name_extents s))
    (λ t. or_else (extents_end 0 (length s) t (text_extents s)) (λ e. eqb e (length (card_names s))) (λ _. false))
    (λ _. false)

-- "of any length, 1 to 64 records": the least and the most are given, since another bundle has 0 to 512. The extents are looked at only under a
-- sound header.
unfoldable pub laid_bundle : ℕ → ℕ → List ℕ → Bool
unfolding sound_layout number_at sound_extents
laid_bundle least most s =
    if_b (sound_layout s && leb least (number_at 0 4 s) && leb (number_at 0 4 s) most) (λ _. sound_extents s) (λ _. false)

-- "names in any order, none twice"
unfoldable pub sound_bundle : ℕ → ℕ → List ℕ → Bool
unfolding laid_bundle twice bundle_names
sound_bundle least most s = if_b (laid_bundle least most s) (λ _. not (twice (bundle_names s))) (λ _. false)

-- ------------------------------------------------------------------ a bundle written

pub record BundleRecord : Type 0 where
  pub name : List ℕ
  pub bytes : List ℕ

unfoldable pub record_names : List BundleRecord → List (List ℕ)
record_names rs = map (λ (r : BundleRecord). r.name) rs

unfoldable pub record_texts : List BundleRecord → List (List ℕ)
record_texts rs = map (λ (r : BundleRecord). r.bytes) rs

-- names and texts end to end, all names first
unfoldable pub body_of : List BundleRecord → List ℕ
unfolding concat record_names record_texts
body_of rs = concat (record_names rs) ++ concat (record_texts rs)

-- each record, where the next name starts at `at` and the next text at `from`
unfoldable pub records_bytes : ℕ → ℕ → List BundleRecord → List ℕ
records_bytes at from [] = []
records_bytes at from (r ∷ rs) =
    in_bytes 4 at ++ (in_bytes 4 (length r.name) ++ (in_bytes 4 from ++ (in_bytes 4 (length r.bytes) ++ records_bytes (at + length r.name) (from + length r.bytes) rs)))

unfoldable pub bundled : List BundleRecord → List ℕ
unfolding records_bytes body_of concat record_names
bundled rs =
    in_bytes 4 (length rs) ++ (in_bytes 4 16 ++ (in_bytes 4 (16 + 16 * length rs) ++ (in_bytes 4 (16 + 16 * length rs + length (body_of rs)) ++ (records_bytes 0 (length (concat (record_names rs))) rs ++ body_of rs))))

-- "The program lends `build.ninja` alone."
unfoldable pub alone : List ℕ → List ℕ
unfolding bundled
alone text = bundled (record { name = bytes "build.ninja"; bytes = text } ∷ [])

-- "(the program lends none)": the bundle of no header list
abbrev pub no_lists : List ℕ
no_lists = bundled []
