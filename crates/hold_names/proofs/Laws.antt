-- What a caller learns from each answer, said of the list of names alone.
use Rattle.std.specs.Prelude.{Option, Some, None}
use Prim.Native.Nat.{ℕ, ◌+◌, ◌≤◌, ◌<◌}
use mathlib.Core.Bool.{true, false}
use mathlib.Core.List.{List, [], ◌∷◌, ◌++◌}
use mathlib.Core.Path.{◌≡◌, sym, ◌∙◌}
use native.Mathlib.Decide.{dec_lt}
use native.Mathlib.Omega.{arith}
use borrow.Author.Tests.{lt-ltb, le-leb}
use lib.ListN.{length}
use Rattle.lists.specs.Tests.{split, differ}
use Rattle.spec.specs.Limits.{max_files}
use Rattle.spec.specs.Basics.{among, concat}
use Rattle.spec.specs.Reading.{number_of, mention}
use Rattle.hold_names.specs.declared.Added.{Added}
use Rattle.hold_names.specs.declared.Added.TheVariants.{Old, New, Full}
use Rattle.hold_names.specs.Table.{HoldsNames, fits, added, files_after, count_after, FindsName, AddsName}
use Rattle.spec.proofs.Numbers.{number_below, number_new, mention_old, mention_new, mention_none}
use Rattle.hold_names.proofs.Halving.{clash}
use Rattle.hold_names.proofs.Steps.{found_at, found_missing}

-- ---- after `find`

module _ {names index : List ℕ} {count : ℕ} {p : List ℕ} {r : Option ℕ} (f : FindsName names index count p r) {files : List (List ℕ)} (h : HoldsNames names index count files) where
  pub find_at : {k : ℕ} → r ≡ Some k → (among p files ≡ true) × (k ≡ number_of p files) × (k < count)
  find_at {k} e =
      let (a, q) = found_at p files k (sym e ∙ f.answer files h) in
      (a, q, omega (arith, number_below p files a, h.counted))

  pub find_missing : r ≡ None → among p files ≡ false
  find_missing e = found_missing p files (sym e ∙ f.answer files h)

-- ---- after `add`

-- the path has number k among the names held now
pub record Mentioned (files : List (List ℕ)) (p : List ℕ) (k : ℕ) (names index : List ℕ) (count : ℕ) : Type 0 where
  pub holds : HoldsNames names index count (mention files (p ∷ []))
  pub number : k ≡ number_of p (mention files (p ∷ []))
  pub below : k < count

added_old : (b : ℕ) (p : List ℕ) (files : List (List ℕ)) (k : ℕ) → Old k ≡ added b p files → (among p files ≡ true) × (k ≡ number_of p files)
unfolding added
added_old b p files k e =
    split (among p files)
    (λ (h : among p files ≡ true). (h, (let q : Old k ≡ Old (number_of p files) = rw h at e in cc)))
    (λ (h : among p files ≡ false).
    split (fits b p files)
    (λ (g : fits b p files ≡ true). let q : Old k ≡ New (length files) = rw (h, g) at e in clash (cc))
    (λ (g : fits b p files ≡ false). let q : Old k ≡ Full = rw (h, g) at e in clash (cc)))

added_new : (b : ℕ) (p : List ℕ) (files : List (List ℕ)) (k : ℕ) → New k ≡ added b p files → (among p files ≡ false) × (k ≡ length files)
unfolding added
added_new b p files k e =
    split (among p files)
    (λ (h : among p files ≡ true). let q : New k ≡ Old (number_of p files) = rw h at e in clash (cc))
    (λ (h : among p files ≡ false).
    split (fits b p files)
    (λ (g : fits b p files ≡ true). (h, (let q : New k ≡ New (length files) = rw (h, g) at e in cc)))
    (λ (g : fits b p files ≡ false). let q : New k ≡ Full = rw (h, g) at e in clash (cc)))

added_full : (b : ℕ) (p : List ℕ) (files : List (List ℕ)) → Full ≡ added b p files → (among p files ≡ false) × (fits b p files ≡ false)
unfolding added
added_full b p files e =
    split (among p files)
    (λ (h : among p files ≡ true). let q : Full ≡ Old (number_of p files) = rw h at e in clash (cc))
    (λ (h : among p files ≡ false).
    split (fits b p files)
    (λ (g : fits b p files ≡ true). let q : Full ≡ New (length files) = rw (h, g) at e in clash (cc))
    (λ (g : fits b p files ≡ false). (h, g)))

module _ {names index : List ℕ} {count : ℕ} {p names' index' : List ℕ} {r : Added} (a : AddsName names index count p names' index' r) {files : List (List ℕ)} (h : HoldsNames names index count files) where
  pub after_old : {k : ℕ} → r ≡ Old k → Mentioned files p k names' index' count
  unfolding count_after files_after
  after_old {k} e =
      let (m, q) = added_old (length names) p files k (sym e ∙ a.answer files h) in
      let w : mention files (p ∷ []) ≡ files = mention_old files p [] m ∙ mention_none files in
      record {
        holds = rw w (rw e at (a.after files h));
        number = rw w q;
        below = omega (arith, number_below p files m, h.counted);
      }

  pub after_new : {k : ℕ} → r ≡ New k → Mentioned files p k names' index' (count + 1)
  unfolding count_after files_after
  after_new {k} e =
      let (m, q) = added_new (length names) p files k (sym e ∙ a.answer files h) in
      let w : mention files (p ∷ []) ≡ files ++ (p ∷ []) = mention_new files p [] m ∙ mention_none (files ++ (p ∷ [])) in
      record {
        holds = rw w (rw e at (a.after files h));
        number = rw w (q ∙ sym (number_new p files [] m));
        below = omega (arith, h.counted);
      }

  -- With room for its bytes, a new path is refused only where there are as many files as there may be.
  pub after_full : r ≡ Full → length (concat files) + length p ≤ length names → (among p files ≡ false) × (max_files ≤ length files) × HoldsNames names' index' count files
  unfolding count_after files_after fits
  after_full e b =
      let (m, g) = added_full (length names) p files (sym e ∙ a.answer files h) in
      let n : max_files ≤ length files =
      elim (dec_lt (length files) max_files) [
        | yes k ↦
            differ
            (rw
            (lt-ltb (length files) max_files (omega arith), le-leb (length (concat files) + length p) (length names) b))
            g
        | no k ↦ omega arith
      ] in
      (m, n, rw e at (a.after files h))
