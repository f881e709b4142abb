-- The version that a manifest asks for: how it is read, and how two are compared. Quotations are of the scope's rules.
use Rattle.std.specs.Prelude.{ℕ, ◌+◌, ◌-◌, ◌*◌, Bool, true, false, ◌&&◌, List, [], ◌∷◌, ◌≡◌, refl, leb, ltb, eqb, Option, Some, None}
use Rattle.std.proofs.Common.{zero-le, le-ltb}
use Rattle.lists.specs.Tests.{if_b}
use Rattle.version.specs.declared.Version.{Version}

abbrev pub version_dot : ℕ
version_dot = 46

-- The bytes '0' to '9'.
unfoldable pub version_digit : ℕ → Bool
version_digit b = leb 48 b && leb b 57

-- What reading a number gives: its value and the bytes after it, or nothing.
pub data Number : Type 0 where
  value : ℕ → List ℕ → Number
  none : Number

-- "each 0 to 65,535"
unfoldable pub in_range : ℕ → List ℕ → Number
in_range n s = if_b (leb n 65535) (λ _. value n s) (λ _. none)

-- The rest of a decimal number whose digits so far give n. It ends at a version_dot or at the end. "leading zeros allowed": only
-- the value is limited.
unfoldable pub number_from : ℕ → List ℕ → Number
unfolding version_digit in_range
number_from n [] = in_range n []
number_from n (b ∷ s) =
    if_b (eqb b version_dot)
    (λ _. in_range n (b ∷ s))
    (λ _. if_b (version_digit b) (λ _. number_from (n * 10 + (b - 48)) s) (λ _. none))

-- A decimal number has one version_digit at least.
unfoldable pub number : List ℕ → Number
unfolding version_digit number_from
number [] = none
number (b ∷ s) = if_b (version_digit b) (λ _. number_from 0 (b ∷ s)) (λ _. none)

abbrev pub version : ℕ → ℕ → ℕ → Version
version a b c = record { major = a; minor = b; patch = c }

-- A version by what was read as its third number, then its second, then its first. A number ends at the end or at a version_dot,
-- after which the next one begins; after the third nothing may stand.
unfoldable pub patch_from : ℕ → ℕ → Number → Option Version
patch_from a b none = None
patch_from a b (value c []) = Some (version a b c)
patch_from a b (value c (d ∷ s)) = None

unfoldable pub minor_from : ℕ → Number → Option Version
unfolding number patch_from
minor_from a none = None
minor_from a (value b []) = Some (version a b 0)
minor_from a (value b (d ∷ s)) = patch_from a b (number s)

unfoldable pub major_from : Number → Option Version
unfolding number minor_from
major_from none = None
major_from (value a []) = Some (version a 0 0)
major_from (value a (d ∷ s)) = minor_from a (number s)

-- "one to three decimal numbers with dots, each 0 to 65,535 (leading zeros allowed), absent ones 0"
unfoldable pub read_version : List ℕ → Option Version
unfolding number major_from
read_version s = major_from (number s)

-- "comparison": the greater version has the greater number at the first place where the two differ.
unfoldable pub above : Version → Version → Bool
above v w =
    if_b (eqb v.major w.major)
    (λ _. if_b (eqb v.minor w.minor) (λ _. ltb w.patch v.patch) (λ _. ltb w.minor v.minor))
    (λ _. ltb w.major v.major)

-- "the constants OURS (1.5.0) and LEAST (0.0.0)"
abbrev pub ours : Version
ours = version 1 5 0

abbrev pub least : Version
least = version 0 0 0

-- Refusal 10, "version malformed or above OURS", of what was read, and of the bytes.
unfoldable pub too_new : Option Version → Bool
unfolding above
too_new (Some v) = above v ours
too_new None = true

unfoldable pub refused_version : List ℕ → Bool
unfolding too_new read_version
refused_version s = too_new (read_version s)

both_false : (b : Bool) → if_b b (λ _. false) (λ _. false) ≡ false
both_false true = refl
both_false false = refl

-- No version is below LEAST.
pub least_lowest : (v : Version) → above least v ≡ false
unfolding above
least_lowest v =
    simp
    (le-ltb v.major 0 zero-le, le-ltb v.minor 0 zero-le, le-ltb v.patch 0 zero-le, both_false)
