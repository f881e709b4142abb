-- What each way out of `find_name` and `add` gives.
use Rattle.std.specs.Prelude.{Option, Some, None}
use Prim.Native.Nat.{ℕ, suc, ◌+◌, ◌*◌, ◌-◌, ◌≤◌, ◌<◌}
use mathlib.Core.Bool.{true, false}
use mathlib.Core.List.{List, [], ◌∷◌, ◌++◌}
use mathlib.Core.Path.{◌≡◌, refl, sym, ◌∙◌}
use native.Mathlib.Decide.{dec_lt}
use native.Mathlib.Omega.{arith}
use borrow.Author.Tests.{lt-ltb, le-ltb, le-leb, lt-leb}
use lib.ListN.{length, take}
use lib.Seq.{paste}
use Rattle.lists.specs.Tests.{split}
use Rattle.spec.specs.Limits.{max_files}
use Rattle.spec.specs.Basics.{among, concat}
use Rattle.spec.specs.Reading.{number_of}
use Rattle.hold_names.specs.declared.Added.TheVariants.{Old, New, Full}
use Rattle.hold_names.specs.declared.Lookup.{Lookup}
use Rattle.hold_names.specs.Table.{bucket_of, pair_base, pair_at, second_in, last_block, size_of, Searched, HoldsNames, found, fits, added, files_after, count_after, FindsName, AddsName, name_start, Fits, SeeksName, Entered}
use Rattle.spec.proofs.Numbers.{number_below, number_missing}
use Rattle.hold_names.proofs.Entering.{column_now, searched_first, searched_second, searched_spare, column_spare}
use Rattle.hold_names.proofs.Lies.{holds_more, used_held}
use Rattle.hold_names.proofs.Halving.{clash}

-- ---- the answer of a lookup

module _ {names index : List ℕ} {count : ℕ} {p : List ℕ} {r : Lookup} (f : SeeksName names index count p r) where
  pub sought_at : r.number < count → FindsName names index count p (Some r.number)
  unfolding found
  sought_at l =
      record {
        answer = λ files h. split (among p files)
            (λ (a : among p files ≡ true). rw (a, f.number files h))
            (λ (a : among p files ≡ false). absurd (omega (arith, f.number files h, number_missing p files a, h.counted)));
      }

  pub sought_none : count ≤ r.number → FindsName names index count p None
  unfolding found
  sought_none l =
      record {
        answer = λ files h. split (among p files)
            (λ (a : among p files ≡ true). absurd (omega (arith, f.number files h, number_below p files a, h.counted)))
            (λ (a : among p files ≡ false). rw a);
      }

-- ---- what the answers of `find` say

pub found_at : (p : List ℕ) (files : List (List ℕ)) (k : ℕ) → Some k ≡ found p files → (among p files ≡ true) × (k ≡ number_of p files)
unfolding found
found_at p files k e =
    split (among p files)
    (λ (h : among p files ≡ true). (h, (let q : Some k ≡ Some (number_of p files) = rw h at e in cc)))
    (λ (h : among p files ≡ false). let q : Some k ≡ None = rw h at e in clash (cc))

pub found_missing : (p : List ℕ) (files : List (List ℕ)) → None ≡ found p files → among p files ≡ false
unfolding found
found_missing p files e =
    split (among p files)
    (λ (h : among p files ≡ true). let q : None ≡ Some (number_of p files) = rw h at e in clash (cc))
    (λ (h : among p files ≡ false). h)

-- ---- one name more, or none

module _ {names index : List ℕ} {count : ℕ} {p : List ℕ} {r : Option ℕ} (f : FindsName names index count p r) where
  pub add_old : {k : ℕ} → r ≡ Some k → AddsName names index count p names index (Old k)
  unfolding added count_after files_after
  add_old {k} e =
      record {
        answer = λ files h. let (a, q) = found_at p files k (sym e ∙ f.answer files h) in rw (a, q);
        after = λ files h. h;
      }

  module _ (e : r ≡ None) where
    absent : (files : List (List ℕ)) → HoldsNames names index count files → among p files ≡ false
    absent files h = found_missing p files (sym e ∙ f.answer files h)

    pub add_full : ((files : List (List ℕ)) → HoldsNames names index count files → fits (length names) p files ≡ false) → AddsName names index count p names index Full
    unfolding added count_after files_after
    add_full n = record { answer = λ files h. rw (absent files h, n files h); after = λ files h. h }

    pub full_files : max_files ≤ count → AddsName names index count p names index Full
    unfolding fits
    full_files l = add_full (λ files h. rw (le-ltb (length files) max_files (omega (arith, h.counted))))

    module _ (a : count < max_files) {from : ℕ} (s : from ≡ name_start index count) where
      pub full_bytes : length names - from < length p → AddsName names index count p names index Full
      unfolding fits
      full_bytes l =
          add_full
          (λ files h.
          rw (lt-ltb (length files) max_files (omega (arith, h.counted)), lt-leb (length (concat files) + length p) (length names) (omega (arith, used_held h))))

      -- the index has a name more
      module _ (l : length p ≤ length names - from) {names' index' : List ℕ} where
        added_name : ((files : List (List ℕ)) → HoldsNames names index count files → HoldsNames names' index' (count + 1) (files ++ (p ∷ [])))
            → AddsName names index count p names' index' (New count)
        unfolding added fits count_after files_after
        added_name n =
            record {
              answer = λ files h.
                  rw
                  (absent files h, lt-ltb (length files) max_files (omega (arith, h.counted)), le-leb (length (concat files) + length p) (length names) (omega (arith, used_held h, h.within)), h.counted);
              after = n;
            }

-- The index with the name more, whichever room it found.
searched_more : {names index : List ℕ} {count : ℕ} {files : List (List ℕ)} → HoldsNames names index count files → count < max_files → (p : List ℕ) → {to j i : ℕ} {index' : List ℕ}
    → Entered index count (bucket_of p) to j i index' → j ≤ last_block index → i ≤ size_of index j → (0 < second_in index (bucket_of p) → Fits files index p j i)
    → Searched index' (count + 1) (files ++ (p ∷ [])) × (take (suc count) index' ≡ take count index ++ (to ∷ []))
searched_more {index = index} {count = count} h a p {to = to} g b w z =
    elim (dec_lt 0 (pair_at index (bucket_of p))) [
      | no d ↦ (
          let e : pair_at index (bucket_of p) ≡ 0 = omega arith in
          rw (g.first e) (searched_first h.search h.room h.counted a p to e, column_now h.search h.room h.counted a p to (count + 1))
          )
      | yes d ↦ elim (dec_lt (pair_at index (bucket_of p)) pair_base) [
        | yes e ↦
            rw (g.second d e) (searched_second h.search h.room h.counted a p to d e, column_now h.search h.room h.counted a p to (pair_at index (bucket_of p) + (count + 1) * pair_base))
        | no e ↦ (
            let k : pair_base ≤ pair_at index (bucket_of p) = omega arith in
            let y : 0 < second_in index (bucket_of p) = omega arith in
            (searched_spare h.search h.room h.counted a p to (g.spare k) b w (z y) y, column_spare h.search h.room h.counted a p to (g.spare k) b w (z y) y)
            )
      ]
    ]

module _ {names index : List ℕ} {count : ℕ} {p : List ℕ} {r : Lookup} (f : SeeksName names index count p r) (m : FindsName names index count p None) (a : count < max_files) {from : ℕ}
    (s : from ≡ name_start index count) (l : length p ≤ length names - from) {index' : List ℕ}
    (g : Entered index count r.bucket (from + length p) r.block r.place index') (y : length index' ≡ length index) where
  entered : (files : List (List ℕ)) → HoldsNames names index count files → HoldsNames (paste names from p (length p)) index' (count + 1) (files ++ (p ∷ []))
  entered files h =
      let u : from ≡ length (concat files) = s ∙ used_held h in
      let q : among p files ≡ false = absent m refl files h in
      let w : length (concat files) + length p ≤ length names = omega (arith, used_held h, h.within, s) in
      let (t, c) = searched_more h a p (rw (u, f.home) at g) f.block f.within (f.place files h q) in
      rw u (holds_more p h a q w y c t)

  pub add_new : AddsName names index count p (paste names from p (length p)) index' (New count)
  add_new = added_name m refl a s l entered
