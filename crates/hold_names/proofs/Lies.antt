-- Where name k lies in the buffers, and that they hold one list of names only.
use Prim.Native.Nat.{ℕ, zero, suc, ◌+◌, ◌-◌, ◌^◌, ◌≤◌, ◌<◌}
use mathlib.Core.Bool.{false}
use mathlib.Core.List.{List, [], ◌∷◌, ◌++◌, append-nil, append_assoc}
use mathlib.Core.Path.{◌≡◌, refl, sym, ◌∙◌, ap}
use native.Mathlib.Nat.{not-suc-le-zero, le_of_suc-le-suc}
use native.Mathlib.Decide.{dec_lt}
use native.Mathlib.Omega.{arith}
use lib.ListN.{length, take, drop, get_or, length-append}
use native.Mathlib.Numerals.{add-one}
use lib.Seq.{take-append_seam, drop-append-add, take-take, take_all, get_or-take, ext_get_or, paste, length-paste, take-paste, take-length}
use Rattle.lists.specs.Fill.{zeroed, length_zeroed}
use Rattle.lists.specs.Parts.{part, drop_take}
use Rattle.spec.specs.Limits.{max_files}
use Rattle.spec.specs.Basics.{among, concat}
use Rattle.hold_names.specs.Table.{name_ends_from, heads_from, max_numbers, Searched, HoldsNames, NamesFile, name_start}
use Rattle.hold_names.proofs.Buckets.{name_old, name_new, nowhere}
use Rattle.hold_names.proofs.Entering.{searched_none}

-- ---- names end to end

pub concat_none : concat {A = ℕ} [] ≡ []
unfolding concat
concat_none = refl

pub concat_cons : (f : List ℕ) (l : List (List ℕ)) → concat (f ∷ l) ≡ f ++ concat l
unfolding concat
concat_cons f l = refl

pub concat_snoc : (l : List (List ℕ)) (p : List ℕ) → concat (l ++ (p ∷ [])) ≡ concat l ++ p
unfolding concat
concat_snoc [] p = append-nil p
concat_snoc (f ∷ l) p = ap (λ (x : List ℕ). f ++ x) (concat_snoc l p) ∙ sym (append_assoc f (concat l) p)

-- where name k starts
abbrev pub start_of : List (List ℕ) → ℕ → ℕ
start_of files k = length (concat (take k files))

pub start_zero : (files : List (List ℕ)) → start_of files 0 ≡ 0
unfolding concat
start_zero files = refl

start_cons : (f : List ℕ) (l : List (List ℕ)) (k : ℕ) → start_of (f ∷ l) (suc k) ≡ length f + start_of l k
start_cons f l k = rw (concat_cons f (take k l)) (length-append f (concat (take k l)))

pub start_suc : (files : List (List ℕ)) (k : ℕ) → k < length files → start_of files (suc k) ≡ start_of files k + length (get_or files k [])
start_suc [] k h = absurd (not-suc-le-zero h)
start_suc (f ∷ l) zero h = omega (arith, start_cons f l 0, start_zero l, start_zero (f ∷ l))
start_suc (f ∷ l) (suc k) h = omega (arith, start_cons f l (suc k), start_cons f l k, start_suc l k (le_of_suc-le-suc h))

pub start_within : (files : List (List ℕ)) (k : ℕ) → start_of files k ≤ length (concat files)
start_within files zero = omega (arith, start_zero files)
start_within [] (suc k) = omega arith
start_within (f ∷ l) (suc k) = rw (concat_cons f l, length-append f (concat l)) (omega (arith, start_cons f l k, start_within l k))

part_after : (f r : List ℕ) (a b : ℕ) → part (f ++ r) (length f + a) (length f + b) ≡ part r a b
part_after f r a b = let z : length f + b - (length f + a) ≡ b - a = omega arith in rw (z, drop-append-add f r a)

pub part_concat : (files : List (List ℕ)) (k : ℕ) → k < length files → part (concat files) (start_of files k) (start_of files (suc k)) ≡ get_or files k []
part_concat [] k h = absurd (not-suc-le-zero h)
part_concat (f ∷ l) zero h =
    let z : start_of (f ∷ l) 1 - start_of (f ∷ l) 0 ≡ length f = omega (arith, start_cons f l 0, start_zero l, start_zero (f ∷ l)) in
    rw (z, start_zero (f ∷ l), concat_cons f l) (take-append_seam f (concat l))
part_concat (f ∷ l) (suc k) h =
    rw (start_cons f l (suc k), start_cons f l k, concat_cons f l)
    (part_after f (concat l) (start_of l k) (start_of l (suc k)) ∙ part_concat l k (le_of_suc-le-suc h))

-- ---- the column of ends

ends_at : (at : ℕ) (files : List (List ℕ)) (k : ℕ) → k < length files → get_or (name_ends_from at files) k 0 ≡ at + start_of files (suc k)
unfolding name_ends_from
ends_at at [] k h = absurd (not-suc-le-zero h)
ends_at at (f ∷ l) zero h = omega (arith, start_cons f l 0, start_zero l)
ends_at at (f ∷ l) (suc k) h = omega (arith, start_cons f l (suc k), ends_at (at + length f) l k (le_of_suc-le-suc h))

ends_snoc : (at : ℕ) (l : List (List ℕ)) (p : List ℕ) → name_ends_from at (l ++ (p ∷ [])) ≡ name_ends_from at l ++ ((at + (length (concat l) + length p)) ∷ [])
unfolding name_ends_from
ends_snoc at [] p = let z : at + (length (concat {A = ℕ} []) + length p) ≡ at + length p = omega (arith, ap length concat_none) in rw z
ends_snoc at (f ∷ l) p =
    let z : at + (length (concat (f ∷ l)) + length p) ≡ at + length f + (length (concat l) + length p) =
    omega (arith, ap length (concat_cons f l), length-append f (concat l)) in
    rw z (ap (λ (x : List ℕ). (at + length f) ∷ x) (ends_snoc (at + length f) l p))

-- ---- what is held

part_take : (l : List ℕ) (n a b : ℕ) → b ≤ n → part (take n l) a b ≡ part l a b
part_take l n a b h = rw (drop_take a n l) (take-take (b - a) (n - a) (drop a l) (omega arith))

module _ {names index : List ℕ} {count : ℕ} {files : List (List ℕ)} (h : HoldsNames names index count files) where
  pub end_held : (k : ℕ) → k < count → get_or index k 0 ≡ start_of files (suc k)
  end_held k l =
      sym (get_or-take count index k 0 l) ∙ ap (λ (x : List ℕ). get_or x k 0) h.column
      ∙ ends_at 0 files k (omega (arith, h.counted)) ∙ omega arith

  pub start_held : (k : ℕ) → k ≤ count → name_start index k ≡ start_of files k
  unfolding name_start
  start_held zero l = sym (start_zero files)
  start_held (suc k) l = end_held k l

  -- in order, and within the bytes
  pub name_within : (k : ℕ) → k < count → (name_start index k ≤ get_or index k 0) × (get_or index k 0 ≤ length names)
  name_within k l =
      omega
      (arith, start_held k (omega arith), end_held k l, start_suc files k (omega (arith, h.counted)), start_within files (suc k), h.within)

  pub name_held : (k : ℕ) → k < count → part names (name_start index k) (get_or index k 0) ≡ get_or files k []
  name_held k l =
      rw (start_held k (omega arith), end_held k l)
      (sym (part_take names (length (concat files)) (start_of files k) (start_of files (suc k)) (start_within files (suc k)))
      ∙ ap (λ (x : List ℕ). part x (start_of files k) (start_of files (suc k))) h.bytes
      ∙ part_concat files k (omega (arith, h.counted)))

  pub used_held : name_start index count ≡ length (concat files)
  used_held =
      start_held count (omega arith)
      ∙ ap (λ (x : List (List ℕ)). length (concat x)) (take_all count files (omega (arith, h.counted)))

-- ---- they hold one list only

pub holds_one : {names index : List ℕ} {count : ℕ} {f g : List (List ℕ)} → HoldsNames names index count f → HoldsNames names index count g → f ≡ g
holds_one {f = f} {g = g} a b =
    ext_get_or [] f g (sym a.counted ∙ b.counted)
    (λ k l. sym (name_held a k (omega (arith, a.counted))) ∙ name_held b k (omega (arith, a.counted)))

pub names_answer : {names index : List ℕ} {count k : ℕ} → k < count → NamesFile names index count k (part names (name_start index k) (get_or index k 0))
names_answer {k = k} l = record { answer = λ files h. name_held h k l }

-- ---- where a name begins

pub start_none : (index : List ℕ) {k : ℕ} → k ≡ 0 → 0 ≡ name_start index k
unfolding name_start
start_none index e = rw e

pub start_one : (index : List ℕ) (k : ℕ) → (k ≡ 0 → ⊥) → get_or index (k - 1) 0 ≡ name_start index k
unfolding name_start
start_one index zero h = absurd (h refl)
start_one index (suc k) h = let z : suc k - 1 ≡ k = omega arith in rw z

-- ---- no name, and one name more

pub holds_none : (names index : List ℕ) → length names < 2 ^ 32 → max_numbers ≤ length index → HoldsNames names (zeroed index heads_from max_numbers) 0 []
unfolding name_ends_from concat
holds_none names index h r =
    record {
      counted = refl;
      few = omega arith;
      room = rw (length_zeroed index heads_from max_numbers (omega arith) (omega (arith, r))) r;
      small = h;
      within = omega arith;
      bytes = refl;
      column = refl;
      once = λ i j l k. absurd (not-suc-le-zero k);
      search = searched_none index r;
    }

-- The bytes of the name and its end are put down, and it is found by the new index.
pub holds_more : {names index : List ℕ} {count : ℕ} {files : List (List ℕ)} (p : List ℕ) → HoldsNames names index count files → count < max_files → among p files ≡ false
    → length (concat files) + length p ≤ length names → {index' : List ℕ} → length index' ≡ length index
    → take (suc count) index' ≡ take count index ++ ((length (concat files) + length p) ∷ []) → Searched index' (count + 1) (files ++ (p ∷ []))
    → HoldsNames (paste names (length (concat files)) p (length p)) index' (count + 1) (files ++ (p ∷ []))
holds_more {names} {index} {count} {files} p h a m c {index'} y v x =
    let n = length (concat files) in
    let e : length (concat (files ++ (p ∷ []))) ≡ n + length p = ap length (concat_snoc files p) ∙ length-append (concat files) p in
    let z : 0 + (n + length p) ≡ n + length p = omega arith in
    let w : length (paste names n p (length p)) ≡ length names = length-paste names n p (length p) c (omega arith) in
    let f : count ≡ length files = h.counted in
    record {
      counted = omega (arith, length-append files (p ∷ []), h.counted);
      few = omega arith;
      room = rw y h.room;
      small = omega (arith, h.small);
      within = omega arith;
      bytes = rw (e, take-paste names n p (length p) h.within (omega arith), h.bytes, take-length p) (sym (concat_snoc files p));
      column = rw (add-one count, v, h.column) (sym (rw z at (ends_snoc 0 files p)));
      once = λ i j l k q. elim (dec_lt j count) [
        | yes d ↦ h.once i j l d (sym (name_old files p i (omega (arith, f))) ∙ q ∙ name_old files p j (omega (arith, f)))
        | no d ↦ (let u : j ≡ length files = omega (arith, f) in
            nowhere p files m i (omega (arith, f)) (sym (name_old files p i (omega (arith, f))) ∙ q ∙ rw u (name_new files p)))
      ];
      search = x;
    }
