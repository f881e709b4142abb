-- The bucket of a path, a name more, and where a path first stands.
use Prim.Native.Nat.{ℕ, zero, suc, ◌+◌, ◌*◌, ◌-◌, ◌/◌, ◌%◌, ◌≤◌, ◌<◌, min}
use mathlib.Core.Bool.{true, false}
use mathlib.Core.List.{List, [], ◌∷◌, ◌++◌}
use mathlib.Core.Path.{◌≡◌, refl, sym, ◌∙◌, ap}
use native.Mathlib.Nat.{not-suc-le-zero, le_of_suc-le-suc, add-mul-mod_self_right}
use native.Mathlib.Numerals.{add-one}
use native.Mathlib.Omega.{arith}
use lib.ListN.{length, drop, get_or, drop_of_length-le, get_or-append}
use lib.Seq.{drop-cons, get_or-append_seam}
use Rattle.lists.specs.Tests.{split, differ}
use Rattle.lists.specs.Bytes.{eq_bytes, eq_eq_bytes, ne_eq_bytes}
use Rattle.spec.specs.Basics.{among}
use Rattle.spec.specs.Reading.{number_of}
use Rattle.spec.specs.Limits.{max_files}
use Rattle.hold_names.specs.Table.{buckets, bucket_from, Summed, bucket_of}
use Rattle.spec.proofs.Numbers.{among_none, among_here, among_there, number_here, number_there}

-- ---- the bucket of a path

pub sum_begin : (s : List ℕ) {h i : ℕ} → h < max_files → Summed s h i h i
sum_begin s b = record { small = b; rest = refl }

module _ {s : List ℕ} {g k h i : ℕ} (x : Summed s g k h i) where
  pub sum_on : i < length s → {b : ℕ} → b ≡ get_or s i 0 → Summed s g k ((h * 117 + b) % max_files) (i + 1)
  unfolding bucket_from
  sum_on l e = record { small = omega arith; rest = x.rest ∙ rw (e, add-one, drop-cons s i 0 l) }

  pub sum_then : {r j : ℕ} → Summed s h i r j → Summed s g k r j
  sum_then y = record { small = y.small; rest = x.rest ∙ y.rest }

  pub sum_end : length s ≤ i → h ≡ bucket_from g (drop k s)
  unfolding bucket_from
  sum_end l = sym (x.rest ∙ rw (drop_of_length-le s {i = i} l))

once_less : (x y : ℕ) → (x % max_files * 117 + y) % max_files ≡ (x * 117 + y) % max_files
once_less x y =
    let z : x * 117 + y ≡ x % max_files * 117 + y + x / max_files * 117 * max_files = omega arith in
    sym (ap (λ (k : ℕ). k % max_files) z ∙ add-mul-mod_self_right (x % max_files * 117 + y) (x / max_files * 117) max_files)

four_sum : (h a b c d : ℕ)
    → (a * 1601613 + b * 13689 + c * 117 + d + h * 187388721) % max_files ≡ ((((h * 117 + a) % max_files * 117 + b) % max_files * 117 + c) % max_files * 117 + d) % max_files
four_sum h a b c d =
    let z : a * 1601613 + b * 13689 + c * 117 + d + h * 187388721 ≡ (((h * 117 + a) * 117 + b) * 117 + c) * 117 + d = omega arith in
    rw (once_less (h * 117 + a) b, once_less ((h * 117 + a) * 117 + b) c, once_less (((h * 117 + a) * 117 + b) * 117 + c) d) (ap (λ (y : ℕ). y % max_files) z)

pub sum_four : (s : List ℕ) (i h : ℕ) → i + 4 ≤ length s → h < max_files → {a b c d : ℕ} → a ≡ get_or s i 0 → b ≡ get_or s (i + 1) 0 → c ≡ get_or s (i + 2) 0 → d ≡ get_or s (i + 3) 0
    → Summed s h i ((a * 1601613 + b * 13689 + c * 117 + d + h * 187388721) % max_files) (i + 4)
sum_four s i h l m {a} {b} {c} {d} p q r t =
    let e : i + 1 + 1 ≡ i + 2 = omega arith in
    let f : i + 2 + 1 ≡ i + 3 = omega arith in
    let g : i + 3 + 1 ≡ i + 4 = omega arith in
    let x : Summed s h i (((h * 117 + a) % max_files * 117 + b) % max_files) (i + 2) = rw e at (sum_on (sum_on (sum_begin s m) (omega arith) p) (omega arith) q) in
    let y : Summed s h i ((((h * 117 + a) % max_files * 117 + b) % max_files * 117 + c) % max_files) (i + 3) = rw f at (sum_on x (omega arith) r) in
    rw (four_sum h a b c d) (rw g at (sum_on y (omega arith) t))

pub bucket_is : (s : List ℕ) {h i : ℕ} → Summed s 0 0 h i → {r q : ℕ} → r ≡ bucket_from h (drop i s) → q ≡ min r (buckets - 1) → q ≡ bucket_of s
unfolding bucket_of
bucket_is s x e f = f ∙ ap (λ (y : ℕ). min y (buckets - 1)) (e ∙ sym x.rest)

pub bucket_small : (p : List ℕ) → bucket_of p < buckets
unfolding bucket_of
bucket_small p = omega arith

-- ---- a name more

module _ (files : List (List ℕ)) (p : List ℕ) where
  pub name_old : (k : ℕ) → k < length files → get_or (files ++ (p ∷ [])) k [] ≡ get_or files k []
  name_old k l = get_or-append files (p ∷ []) [] k l

  pub name_new : get_or (files ++ (p ∷ [])) (length files) [] ≡ p
  name_new = get_or-append_seam files p [] []

-- ---- where a path first stands

pub first_stands : (p : List ℕ) (l : List (List ℕ)) (k : ℕ) → k < length l → get_or l k [] ≡ p → ((i : ℕ) → i < k → get_or l i [] ≡ p → ⊥)
    → (among p l ≡ true) × (number_of p l ≡ k)
first_stands p [] k h e f = absurd (not-suc-le-zero h)
first_stands p (x ∷ l) zero h e f = let q : eq_bytes p x ≡ true = eq_eq_bytes (sym e) in (among_here p x l q, number_here p x l q)
first_stands p (x ∷ l) (suc k) h e f =
    let q : eq_bytes p x ≡ false = ne_eq_bytes p x (λ (z : p ≡ x). f 0 (omega arith) (sym z)) in
    let (a, b) = first_stands p l k (le_of_suc-le-suc h) e (λ i d. f (suc i) (omega arith)) in
    (among_there p x l q ∙ a, number_there p x l q ∙ ap suc b)

pub among_nowhere : (p : List ℕ) (l : List (List ℕ)) → ((k : ℕ) → k < length l → get_or l k [] ≡ p → ⊥) → among p l ≡ false
among_nowhere p [] f = among_none p
among_nowhere p (x ∷ l) f =
    among_there p x l (ne_eq_bytes p x (λ (z : p ≡ x). f 0 (omega arith) (sym z))) ∙ among_nowhere p l (λ k d. f (suc k) (omega arith))

pub nowhere : (p : List ℕ) (l : List (List ℕ)) → among p l ≡ false → (k : ℕ) → k < length l → get_or l k [] ≡ p → ⊥
nowhere p [] m k h e = not-suc-le-zero h
nowhere p (x ∷ l) m zero h e = differ (among_here p x l (eq_eq_bytes (sym e))) m
nowhere p (x ∷ l) m (suc k) h e =
    split (eq_bytes p x) (λ (q : eq_bytes p x ≡ true). differ (among_here p x l q) m)
    (λ (q : eq_bytes p x ≡ false). nowhere p l (sym (among_there p x l q) ∙ m) k (le_of_suc-le-suc h) e)
