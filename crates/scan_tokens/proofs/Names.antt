-- Names: runs of bytes of a range of classes.
use Prim.Native.Nat.{ℕ, ◌≤◌, ◌<◌}
use mathlib.Core.Bool.{Bool, true, false}
use mathlib.Core.List.{List, [], ◌∷◌}
use mathlib.Core.Path.{◌≡◌, refl, sym, ◌∙◌}
use borrow.Author.Tests.{le-leb, lt-leb}
use lib.ListN.{drop}
use Rattle.lists.specs.Tests.{split}
use Rattle.lists.specs.Parts.{part}
use Rattle.lists.specs.Runs.{Reads, after_run, part_run}
use Rattle.spec.specs.Bytes.{short_byte, name_byte, class_of}
use Rattle.spec.specs.Forms.{name_of, after_name}
use Rattle.scan_classes.specs.Table.{class_up_to}
use Rattle.scan_classes.proofs.Sorted.{sorted}

-- ---- is the class c of a byte in the range

module _ (b : ℕ) {c : ℕ} (last : ℕ) (e : c ≡ class_of b) where
  pub range_below : c < 1 → class_up_to last (class_of b) ≡ false
  unfolding class_up_to
  range_below h = rw (← e, lt-leb 1 c h)

  module _ (l : 1 ≤ c) where
    pub range_above : last < c → class_up_to last (class_of b) ≡ false
    unfolding class_up_to
    range_above h = rw (← e, le-leb 1 c l, lt-leb c last h)

    pub range_in : c ≤ last → class_up_to last (class_of b) ≡ true
    unfolding class_up_to
    range_in h = rw (← e, le-leb 1 c l, le-leb c last h)

-- ---- runs by class are runs of names

same_run : (p q : ℕ → Bool) → ((b : ℕ) → p b ≡ q b) → (s : List ℕ) → after_run p s ≡ after_run q s
unfolding after_run
same_run p q h [] = refl
same_run p q h (b ∷ s) =
    split (q b)
    (λ (e : q b ≡ true). rw (h b, e) (same_run p q h s))
    (λ (e : q b ≡ false). rw (h b, e))

module _ {s : List ℕ} {i r : ℕ} where
  pub name_run : Reads (after_run (λ b. class_up_to 2 (class_of b))) s i r → Reads after_name s i r
  unfolding after_name
  name_run a =
      record {
        forward = a.forward;
        within = a.within;
        rest = a.rest ∙ same_run (λ b. class_up_to 2 (class_of b)) name_byte (λ b. sym (sorted b).name_range) (drop i s);
      }

  pub short_run : Reads (after_run (λ b. class_up_to 1 (class_of b))) s i r → Reads (after_run short_byte) s i r
  short_run a =
      record {
        forward = a.forward;
        within = a.within;
        rest = a.rest ∙ same_run (λ b. class_up_to 1 (class_of b)) short_byte (λ b. sym (sorted b).short_range) (drop i s);
      }

  -- The bytes that `name` passes are the name.
  pub part_name : Reads after_name s i r → part s i r ≡ name_of (drop i s)
  unfolding name_of after_name
  part_name a = part_run name_byte a
