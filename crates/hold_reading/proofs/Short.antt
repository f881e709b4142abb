-- Names within the limit of a path: mentions of such paths keep them so, and a longer path is none of them.
use Prim.Native.Nat.{ℕ, ◌≤◌}
use mathlib.Core.Bool.{true, false}
use mathlib.Core.List.{List, [], ◌∷◌, ◌++◌}
use mathlib.Core.Path.{◌≡◌, ◌∙◌, sym}
use borrow.Author.Tests.{ltb-false}
use lib.ListN.{length}
use Rattle.lists.specs.Tests.{split, differ, or_left, or_right, or_false}
use Rattle.lists.specs.Bytes.{eq_bytes, eq_bytes_true}
use Rattle.lists.specs.Members.{any, any_append, any_cons, any_none}
use Rattle.spec.specs.Basics.{among}
use Rattle.spec.specs.Limits.{max_path}
use Rattle.spec.specs.Reading.{mention}
use Rattle.spec.specs.Statements.{longer_than, over_paths}
use Rattle.spec.proofs.Numbers.{among_none, among_there}

module _ (p : List ℕ) (ps : List (List ℕ)) (h : over_paths (p ∷ ps) ≡ false) where
  first_short : longer_than max_path p ≡ false
  unfolding over_paths
  first_short = or_left (longer_than max_path p) (any (longer_than max_path) ps) (sym (any_cons (longer_than max_path) p ps) ∙ h)

  rest_short : over_paths ps ≡ false
  unfolding over_paths
  rest_short = or_right (longer_than max_path p) (any (longer_than max_path) ps) (sym (any_cons (longer_than max_path) p ps) ∙ h)

one_more : (files : List (List ℕ)) (p : List ℕ) → over_paths files ≡ false → longer_than max_path p ≡ false → over_paths (files ++ (p ∷ [])) ≡ false
unfolding over_paths
one_more files p f h =
    any_append (longer_than max_path) files (p ∷ [])
    ∙ or_false (any (longer_than max_path) files) (any (longer_than max_path) (p ∷ [])) f
    (any_cons (longer_than max_path) p [] ∙ or_false (longer_than max_path p) (any (longer_than max_path) []) h (any_none (longer_than max_path)))

pub mention_short : (files ps : List (List ℕ)) → over_paths files ≡ false → over_paths ps ≡ false → over_paths (mention files ps) ≡ false
unfolding mention
mention_short files [] f h = f
mention_short files (p ∷ ps) f h =
    split (among p files)
    (λ (e : among p files ≡ true). rw e (mention_short files ps f (rest_short p ps h)))
    (λ (e : among p files ≡ false). rw e (mention_short (files ++ (p ∷ [])) ps (one_more files p f (first_short p ps h)) (rest_short p ps h)))

pub among_short : (p : List ℕ) (files : List (List ℕ)) → over_paths files ≡ false → among p files ≡ true → length p ≤ max_path
unfolding longer_than
among_short p [] h a = differ a (among_none p)
among_short p (f ∷ files) h a =
    split (eq_bytes p f)
    (λ (e : eq_bytes p f ≡ true). rw (eq_bytes_true p f e) (ltb-false max_path (length f) (first_short f files h)))
    (λ (e : eq_bytes p f ≡ false). among_short p files (rest_short f files h) (sym (among_there p f files e) ∙ a))
