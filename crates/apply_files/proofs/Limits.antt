-- A line that is over a limit by the mentions so far is so whatever it mentions after them.
use Prim.Native.Nat.{ℕ, ◌+◌, ◌≤◌, ◌<◌}
use mathlib.Core.Bool.{Bool, true, false, ◌||◌, or-true}
use mathlib.Core.Logic.{inl, inr}
use mathlib.Core.List.{List, [], ◌∷◌, ◌++◌, map}
use mathlib.Core.Path.{◌≡◌, refl, ◌∙◌}
use native.Mathlib.Omega.{arith}
use borrow.Author.Tests.{lt-ltb, le-ltb, ltb-true, ltb-false}
use lib.Dec.{ltb}
use lib.ListN.{length, length-append}
use Rattle.lists.specs.Tests.{split, or_left, or_right}
use Rattle.lists.specs.Tests as tests
use Rattle.lists.specs.Members.{any, any_append}
use Rattle.spec.specs.Basics.{among, sum}
use Rattle.spec.specs.Limits.{max_files, max_bindings, max_mentions, max_path, max_written}
use Rattle.spec.specs.Reading.{Reading, mention}
use Rattle.spec.specs.Statements.{mentioned, longer_than, over_paths, over_counts}
use Rattle.spec.proofs.Numbers.{mention_none, mention_old, mention_new, mention_append}
use Rattle.hold_reading.specs.declared.Counts.{Counts}
use Rattle.apply_files.specs.Lines.{LineHeld, Writing, over_line}
use Rattle.apply_files.specs.Path.{path_over}
use Rattle.hold_reading.specs.Buffers.{Buffers}

pub or_on : (a b : Bool) → b ≡ true → a || b ≡ true
or_on a b e = rw e (or-true a)

pub or_at : (a b : Bool) → a ≡ true → a || b ≡ true
or_at a b e = rw e

-- ---- the counts

pub mention_more : (files ps : List (List ℕ)) → length files ≤ length (mention files ps)
mention_more files [] = rw (mention_none files) (omega arith)
mention_more files (p ∷ ps) =
    split (among p files)
    (λ (e : among p files ≡ true). rw (mention_old files p ps e) (mention_more files ps))
    (λ (e : among p files ≡ false).
    rw (mention_new files p ps e) (let h = mention_more (files ++ (p ∷ [])) ps in omega (arith, length-append files (p ∷ []))))

module _ (rd : Reading) where
  abbrev files_over : Bool
  files_over = ltb max_files (length rd.files)

  abbrev bindings_over : Bool
  bindings_over = ltb max_bindings rd.bindings

  abbrev mentions_over : Bool
  mentions_over = ltb max_mentions rd.mentions

  abbrev written_over : Bool
  written_over = ltb max_written rd.written

  pub over_files : max_files < length rd.files → over_counts rd ≡ true
  unfolding over_counts
  over_files h = rw (lt-ltb max_files (length rd.files) h)

  pub over_mentions : max_mentions < rd.mentions → over_counts rd ≡ true
  unfolding over_counts
  over_mentions h =
      or_at (files_over || bindings_over || mentions_over) written_over (or_on (files_over || bindings_over) mentions_over (lt-ltb max_mentions rd.mentions h))

  pub over_written : max_written < rd.written → over_counts rd ≡ true
  unfolding over_counts
  over_written h =
      or_on (files_over || bindings_over || mentions_over) written_over (lt-ltb max_written rd.written h)

-- ---- lines

module _ (p : List ℕ) (rd : Reading) where
  -- a path too long
  pub line_long : max_path < length p → (more : List (List ℕ)) → over_line (p ∷ more) rd ≡ true
  unfolding over_line over_paths any longer_than
  line_long h more = rw (lt-ltb max_path (length p) h)

  pub line_files : among p rd.files ≡ false → max_files ≤ length rd.files → (more : List (List ℕ)) → over_line (p ∷ more) rd ≡ true
  unfolding over_line mentioned
  line_files a h more =
      let k : max_files < length (mention rd.files (p ∷ more)) =
      rw (mention_new rd.files p more a) (let g = mention_more (rd.files ++ (p ∷ [])) more in omega (arith, length-append rd.files (p ∷ []))) in
      or_on (over_paths (p ∷ more)) _ (over_files (mentioned (p ∷ more) rd) k)

  pub line_mentions : max_mentions ≤ rd.mentions → (more : List (List ℕ)) → over_line (p ∷ more) rd ≡ true
  unfolding over_line mentioned
  line_mentions h more = or_on (over_paths (p ∷ more)) _ (over_mentions (mentioned (p ∷ more) rd) (omega arith))

  pub line_written : max_written < rd.written + length p → (more : List (List ℕ)) → over_line (p ∷ more) rd ≡ true
  unfolding over_line mentioned sum
  line_written h more = or_on (over_paths (p ∷ more)) _ (over_written (mentioned (p ∷ more) rd) (omega arith))

-- ---- lists, one after another

sum_append : (l r : List (List ℕ)) → sum (map (λ (p : List ℕ). length p) (l ++ r)) ≡ sum (map (λ (p : List ℕ). length p) l) + sum (map (λ (p : List ℕ). length p) r)
unfolding sum
sum_append [] r = omega arith
sum_append (p ∷ l) r = omega (arith, sum_append l r)

module _ (l r : List (List ℕ)) (rd : Reading) where
  pub mentioned_append : mentioned (l ++ r) rd ≡ mentioned r (mentioned l rd)
  unfolding mentioned
  mentioned_append =
      let a : rd.mentions + length (l ++ r) ≡ rd.mentions + length l + length r = omega (arith, length-append l r) in
      let b : rd.written + sum (map (λ (p : List ℕ). length p) (l ++ r)) ≡ rd.written + sum (map (λ (p : List ℕ). length p) l) + sum (map (λ (p : List ℕ). length p) r) = omega (arith, sum_append l r) in
      rw (mention_append rd.files l r, a, b)

  -- A list that is over a limit takes the line with it.
  pub line_later : over_line r (mentioned l rd) ≡ true → over_line (l ++ r) rd ≡ true
  unfolding over_line over_paths
  line_later h =
      let x = any (longer_than max_path) l in
      rw (any_append (longer_than max_path) l r, mentioned_append)
      (split x
      (λ (e : x ≡ true). rw e)
      (λ (e : x ≡ false). rw e h))

pub short_none : over_paths [] ≡ false
unfolding over_paths any
short_none = refl

pub short_append : (l r : List (List ℕ)) → over_paths l ≡ false → over_paths r ≡ false → over_paths (l ++ r) ≡ false
unfolding over_paths
short_append l r a b = any_append (longer_than max_path) l r ∙ rw (a, b)

pub mentioned_none : (rd : Reading) → mentioned [] rd ≡ rd
unfolding mentioned sum
mentioned_none rd =
    let a : rd.mentions + 0 ≡ rd.mentions = omega arith in
    let b : rd.written + 0 ≡ rd.written = omega arith in
    rw (mention_none rd.files, a, b)

-- ---- by the counts of one path

pub counted_over : (c : Counts) (rd : Reading) → c.mentions ≡ rd.mentions → c.written ≡ rd.written → (p : List ℕ) → path_over (length p) c ≡ true → (more : List (List ℕ))
    → over_line (p ∷ more) rd ≡ true
unfolding path_over
counted_over c rd m n p e =
    let b = ltb max_mentions (c.mentions + 1) in
    let d = ltb max_written (c.written + length p) in
    elim (tests.or_true (ltb max_path (length p)) (b || d) e) [
      | inl a ↦ line_long p rd (ltb-true max_path (length p) a)
      | inr f ↦ elim (tests.or_true b d f) [
        | inl x ↦ line_mentions p rd (omega (arith, ltb-true max_mentions (c.mentions + 1) x))
        | inr y ↦ line_written p rd (omega (arith, ltb-true max_written (c.written + length p) y))
      ]
    ]

pub path_over_law : {bs : Buffers} {c : Counts} {h : LineHeld} → Writing bs c h → (p : List ℕ) → path_over (length p) c ≡ true
    → (more : List (List ℕ)) → over_line (p ∷ more) h.reading ≡ true
path_over_law {c = c} {h = h} w p e = counted_over c h.reading w.mentions_counted w.bound.written_counted p e

-- a path that is within them
pub record Within (n : ℕ) (c : Counts) : Type 0 where
  pub short : n ≤ max_path
  pub few : c.mentions < max_mentions
  pub low : c.written + n ≤ max_written

pub path_short : (p : List ℕ) {c : Counts} → Within (length p) c → over_paths (p ∷ []) ≡ false
unfolding over_paths any longer_than
path_short p w = rw (le-ltb max_path (length p) w.short)

pub path_within : (n : ℕ) (c : Counts) → path_over n c ≡ false → Within n c
unfolding path_over
path_within n c h =
    let a = ltb max_path n in
    let b = ltb max_mentions (c.mentions + 1) in
    let d = ltb max_written (c.written + n) in
    let r : b || d ≡ false = or_right a (b || d) h in
    record {
      short = ltb-false max_path n (or_left a (b || d) h);
      few = omega (arith, ltb-false max_mentions (c.mentions + 1) (or_left b d r));
      low = ltb-false max_written (c.written + n) (or_right b d r);
    }
