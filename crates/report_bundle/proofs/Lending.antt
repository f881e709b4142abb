-- The bundle of `build.ninja` alone, of as much of its text as is lent.
use Prim.Native.Nat.{ℕ, suc, ◌+◌, ◌≤◌, ◌<◌}
use native.Mathlib.Omega.{arith}
use mathlib.Core.List.{List, ◌++◌}
use mathlib.Core.Path.{◌≡◌, refl, sym, ◌∙◌, ap}
use lib.Dec.{lit<}
use lib.ListN.{length, take, drop, length-append}
use lib.Seq.{take_at, take_all, length-take-le}
use Rattle.io.specs.Counts.{IsPrefixLen}
use Rattle.lists.specs.Text.{bytes}
use Rattle.spec.specs.Limits.{max_manifest}
use Rattle.spec.specs.Bundle.{bundled, alone}
use Rattle.scan_bundle.specs.Bundles.{one_record, Wraps}
use Rattle.report_bundle.specs.Lends.{most_read, alone_room, LendsAlone}

-- The numbers are those of any limit: `omega` would compute with the limit's own.
fits : (m t n : ℕ) → t ≤ m → 43 + m ≤ n → 32 + (11 + t) ≤ n
fits m t n e h = omega arith

short : (m t : ℕ) → t ≤ m → m < 4294967253 → 11 + t < 4294967264
short m t e h = omega arith

as_long : (m t : ℕ) → m ≡ t → t ≤ m
as_long m t e = omega arith

at_most : (m n : ℕ) → n ≤ m → n ≤ suc m
at_most m n h = omega arith

-- as much of a text as is lent has room
fits_lent : (t : ℕ) (lent : List ℕ) → t ≤ most_read → alone_room ≤ length lent → (32 + (11 + t) ≤ length lent) × (11 + t < 4294967264)
fits_lent t lent h k = (fits most_read t (length lent) h k, short most_read t h (lit< tt))

module _ (manifest : List ℕ) where
  pub all_fits : (lent : List ℕ) → length manifest ≤ max_manifest → alone_room ≤ length lent → (32 + (11 + length manifest) ≤ length lent) × (11 + length manifest < 4294967264)
  all_fits lent h k = fits_lent (length manifest) lent (at_most max_manifest (length manifest) h) k

  -- a text over the limit is cut to one byte more
  pub cut_long : max_manifest < length manifest → most_read ≡ length (take most_read manifest)
  cut_long h = sym (length-take-le most_read manifest h)

  pub cut_fits : (lent : List ℕ) → max_manifest < length manifest → alone_room ≤ length lent
      → (32 + (11 + length (take most_read manifest)) ≤ length lent) × (11 + length (take most_read manifest) < 4294967264)
  cut_fits lent h k = fits_lent (length (take most_read manifest)) lent (as_long most_read (length (take most_read manifest)) (cut_long h)) k

-- what begins with a list, and has something behind it
module _ (a rest : List ℕ) {exit : List ℕ} {r : ℕ} (k : r ≡ length a) (b : exit ≡ a ++ rest) where
  front : take r exit ≡ a
  front = ap (take r) b ∙ take_at a rest r (sym k)

  counted : IsPrefixLen r exit
  counted =
      let n : r ≤ length exit = rw b (omega (arith, length-append a rest, k)) in
      (n, sym (length-take-le r exit n))

-- the bundle as it is written
alone_wraps : (text : List ℕ) → bundled (one_record (bytes "build.ninja") text) ≡ alone text
unfolding alone
alone_wraps text = refl

module _ {manifest text lent exit : List ℕ} {r : ℕ} (w : Wraps (bytes "build.ninja") text lent exit r) where
  pub lends : take most_read manifest ≡ text → LendsAlone manifest lent exit r
  lends e =
      let a = alone_wraps text ∙ ap alone (sym e) in
      let b : exit ≡ alone (take most_read manifest) ++ drop r lent = w.written ∙ ap (λ (l : List ℕ). l ++ drop r lent) a in
      let k : r ≡ length (alone (take most_read manifest)) = w.count ∙ ap length a in
      record { counts = counted (alone (take most_read manifest)) (drop r lent) k b; bundle = front (alone (take most_read manifest)) (drop r lent) k b; behind = b }

  pub lends_all : text ≡ manifest → length manifest ≤ max_manifest → LendsAlone manifest lent exit r
  lends_all e h = lends (take_all most_read manifest (at_most max_manifest (length manifest) h) ∙ sym e)
