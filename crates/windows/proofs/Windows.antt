-- Two lists of bytes compared eight at a time: a number with the first byte highest orders as its bytes do.
use Prim.Native.Nat.{ℕ, zero, suc, ◌+◌, ◌-◌, ◌*◌, ◌^◌, ◌≤◌, ◌<◌, min}
use mathlib.Core.Bool.{true}
use mathlib.Core.List.{List, [], ◌∷◌}
use mathlib.Core.Path.{◌≡◌, refl, sym, ◌∙◌, ap, ap₂}
use native.Mathlib.Decide.{dec_lt}
use native.Mathlib.Nat.{not-suc-le-zero, le_of_suc-le-suc, mul_comm, pow-suc}
use native.Mathlib.Numerals.{add-one}
use native.Mathlib.Omega.{arith}
use lib.Arith.{digits_lt}
use lib.ListN.{length, take, drop, get_or}
use mir.Syntax.{w8}
use mir.Val.{Fits}
use lib.Seq.{drop-cons, take-add, take-take, take_all}
use Rattle.lists.specs.Bytes.{less_bytes, less_same, less_lower, less_prefix}
use Rattle.lists.specs.Order.{order_bytes, less_order, greater_order, equal_order}
use Rattle.std.specs.Cmp.{ranked}
use Rattle.std.specs.Ordering.{nat_cmp, ordering_then}
use Rattle.std.specs.declared.cmp.Ordering.{Ordering}
use Rattle.std.specs.declared.cmp.Ordering.TheVariants.{Less, Equal, Greater}
use Rattle.windows.specs.Windows.{high_at, High, Alike, AlikeToEnd}

-- ---- the numbers

high_suc : (s : List ℕ) (at size : ℕ) → high_at at (suc size) s ≡ get_or s at 0 * 256 ^ size + high_at (at + 1) size s
unfolding high_at
high_suc s at size = refl

high_zero : (s : List ℕ) (at : ℕ) → high_at at 0 s ≡ 0
unfolding high_at
high_zero s at = refl

-- what a slice of bytes tells of its list
abbrev pub Bytes : List ℕ → Type 0
Bytes s = (i : ℕ) → Fits w8 (get_or s i 0)

high_small : (s : List ℕ) → Bytes s → (size at : ℕ) → high_at at size s < 256 ^ size
high_small s f zero at = omega (arith, high_zero s at)
high_small s f (suc size) at = rw (high_suc s at size, pow-suc 256 size, mul_comm (256 ^ size) 256) (digits_lt (f at).fits (high_small s f size (at + 1)))

module _ (s : List ℕ) (at : ℕ) where
  four_high : (size : ℕ) → high_at at (suc (suc (suc (suc size)))) s ≡ get_or s at 0 * 256 ^ suc (suc (suc size)) + (get_or s (at + 1) 0 * 256 ^ suc (suc size) + (get_or s (at + 2) 0 * 256 ^ suc size + (get_or s (at + 3) 0 * 256 ^ size + high_at (at + 4) size s)))
  four_high size =
      let a : at + 1 + 1 ≡ at + 2 = omega arith in
      let b : at + 2 + 1 ≡ at + 3 = omega arith in
      let d : at + 3 + 1 ≡ at + 4 = omega arith in
      rw (high_suc s at (suc (suc (suc size))), high_suc s (at + 1) (suc (suc size)), a, high_suc s (at + 2) (suc size), b, high_suc s (at + 3) size, d)

  pub high_word_is : Bytes s → High s at 4 (get_or s at 0 * 16777216 + get_or s (at + 1) 0 * 65536 + get_or s (at + 2) 0 * 256 + get_or s (at + 3) 0)
  high_word_is f =
      record {
        is = omega (arith, four_high 0, high_zero s (at + 4));
        small = omega (arith, (f at).fits, (f (at + 1)).fits, (f (at + 2)).fits, (f (at + 3)).fits);
      }

  pub high_long_is : {h l : ℕ} → High s at 4 h → High s (at + 4) 4 l → High s at 8 (h * 4294967296 + l)
  high_long_is p q =
      record {
        is = omega (arith, four_high 0, high_zero s (at + 4), four_high 4, p.is, q.is);
        small = omega (arith, p.small, q.small);
      }

-- ---- the first place where numbers differ

module _ (a b : List ℕ) (fa : Bytes a) (fb : Bytes b) where
  high_less : (size at : ℕ) → at + size ≤ length a → at + size ≤ length b → high_at at size a < high_at at size b → less_bytes (drop at a) (drop at b) ≡ true
  high_less zero at ha hb h = absurd (omega (arith, high_zero a at, high_zero b at))
  high_less (suc size) at ha hb h =
      let u = get_or a at 0 in
      let v = get_or b at 0 in
      let la : at < length a = omega arith in
      let lb : at < length b = omega arith in
      let k : u * 256 ^ size + high_at (at + 1) size a < v * 256 ^ size + high_at (at + 1) size b = rw (high_suc a at size, high_suc b at size) at h in
      rw (drop-cons a at 0 la, drop-cons b at 0 lb)
      (elim (dec_lt u v) [
        | yes l ↦ less_lower u v (drop (suc at) a) (drop (suc at) b) l
        | no l ↦ elim (dec_lt v u) [
          | yes m ↦ absurd (omega (arith, digits_lt m (high_small b fb size (at + 1))))
          | no m ↦
              (let e : u ≡ v = omega arith in
              let w : u * 256 ^ size ≡ v * 256 ^ size = ap (λ (x : ℕ). x * 256 ^ size) e in
              less_same u v (drop (suc at) a) (drop (suc at) b) e
              ∙ rw add-one at (high_less size (at + 1) (omega arith) (omega arith) (omega arith)))
        ]
      ])

  high_same : (size at : ℕ) → at + size ≤ length a → at + size ≤ length b → high_at at size a ≡ high_at at size b → take size (drop at a) ≡ take size (drop at b)
  high_same zero at ha hb h = refl
  high_same (suc size) at ha hb h =
      let u = get_or a at 0 in
      let v = get_or b at 0 in
      let la : at < length a = omega arith in
      let lb : at < length b = omega arith in
      let k : u * 256 ^ size + high_at (at + 1) size a ≡ v * 256 ^ size + high_at (at + 1) size b = rw (high_suc a at size, high_suc b at size) at h in
      let e : u ≡ v =
      elim (dec_lt u v) [
        | yes l ↦ absurd (omega (arith, digits_lt l (high_small a fa size (at + 1))))
        | no l ↦ elim (dec_lt v u) [ yes m ↦ absurd (omega (arith, digits_lt m (high_small b fb size (at + 1)))) | no m ↦ omega arith ]
      ] in
      let w : u * 256 ^ size ≡ v * 256 ^ size = ap (λ (x : ℕ). x * 256 ^ size) e in
      rw (drop-cons a at 0 la, drop-cons b at 0 lb)
      (ap₂ ◌∷◌ e (rw add-one at (high_same size (at + 1) (omega arith) (omega arith) (omega arith))))

-- ---- lists that begin alike

alike_rest : (i : ℕ) (a b : List ℕ) → take i a ≡ take i b → i ≤ length a → i ≤ length b → less_bytes a b ≡ less_bytes (drop i a) (drop i b)
alike_rest zero a b e ha hb = refl
alike_rest (suc i) [] b e ha hb = absurd (not-suc-le-zero ha)
alike_rest (suc i) (x ∷ a) [] e ha hb = absurd (not-suc-le-zero hb)
alike_rest (suc i) (x ∷ a) (y ∷ b) e ha hb = less_same x y a b (cc) ∙ alike_rest i a b (cc) (le_of_suc-le-suc ha) (le_of_suc-le-suc hb)

pub alike_none : (a b : List ℕ) → Alike a b 0
alike_none a b = record { in_first = omega arith; in_second = omega arith; same = refl }

module _ {a b : List ℕ} {i : ℕ} (r : Alike a b i) where
  alike_back : (j : ℕ) → j ≤ i → Alike a b j
  alike_back j h =
      record {
        in_first = omega (arith, r.in_first);
        in_second = omega (arith, r.in_second);
        same = sym (take-take j i a h) ∙ ap (take j) r.same ∙ take-take j i b h;
      }

  module _ (fa : Bytes a) (fb : Bytes b) (ha : i + 8 ≤ length a) (hb : i + 8 ≤ length b) {x y : ℕ} (p : High a i 8 x) (q : High b i 8 y) where
    pub window_lower : x < y → Less ≡ order_bytes a b
    window_lower h =
        sym
        (less_order a b
        (alike_rest i a b r.same r.in_first r.in_second ∙ high_less a b fa fb 8 i ha hb (omega (arith, p.is, q.is))))

    pub window_higher : y < x → Greater ≡ order_bytes a b
    window_higher h =
        sym
        (greater_order a b
        (alike_rest i b a (sym r.same) r.in_second r.in_first ∙ high_less b a fb fa 8 i hb ha (omega (arith, p.is, q.is))))

    pub window_same : x ≡ y → Alike a b (i + 8)
    window_same e =
        record {
          in_first = ha;
          in_second = hb;
          same =
              rw (take-add i 8 a, take-add i 8 b, r.same, high_same a b fa fb 8 i ha hb (sym p.is ∙ e ∙ q.is));
        }

-- ---- the last window

pub alike_to_end : {a b : List ℕ} {n i : ℕ} → n ≡ min (length a) (length b) → 8 ≤ n → Alike a b i → n < i + 8 → AlikeToEnd a b n
alike_to_end {n = n} e h r l = record { least = e; eight = h; alike = alike_back r (n - 8) (omega arith) }

prefix_less : (a b : List ℕ) (n : ℕ) → take n a ≡ take n b → length a ≤ n → n ≤ length a → length a < length b → less_bytes a b ≡ true
prefix_less a b n e h k l =
    let z : n ≡ length a = omega arith in
    less_prefix a b (rw (← z) (sym e ∙ take_all n a h)) l

module _ {a b : List ℕ} {n : ℕ} (r : AlikeToEnd a b n) (s : Alike a b (n - 8 + 8)) where
  whole : take n a ≡ take n b
  whole = let z : n - 8 + 8 ≡ n = omega (arith, r.eight) in rw z at s.same

  pub end_shorter : length a < length b → Less ≡ order_bytes a b
  end_shorter h = sym (less_order a b (prefix_less a b n whole (omega (arith, r.least)) (omega (arith, r.least)) h))

  pub end_longer : length b < length a → Greater ≡ order_bytes a b
  end_longer h = sym (greater_order a b (prefix_less b a n (sym whole) (omega (arith, r.least)) (omega (arith, r.least)) h))

  pub end_same : length b ≤ length a → length a ≤ length b → Equal ≡ order_bytes a b
  end_same h k =
      sym
      (equal_order a b
      (sym (take_all n a (omega (arith, r.least))) ∙ whole ∙ take_all n b (omega (arith, r.least))))

-- How two numbers, or two lengths, compare, and the answer for the two lists that it is.
module _ {a b : List ℕ} {i : ℕ} (r : Alike a b i) (fa : Bytes a) (fb : Bytes b) (ha : i + 8 ≤ length a) (hb : i + 8 ≤ length b) {x y : ℕ} (p : High a i 8 x) (q : High b i 8 y) where
  pub window_differs : (x ≡ y → ⊥) → (o : Ordering) → o ≡ nat_cmp x y → o ≡ order_bytes a b
  window_differs h Less e = window_lower r fa fb ha hb p q (ranked x y Less e)
  window_differs h Equal e = absurd (h (ranked x y Equal e))
  window_differs h Greater e = window_higher r fa fb ha hb p q (ranked x y Greater e)

module _ {a b : List ℕ} {n : ℕ} (r : AlikeToEnd a b n) (fa : Bytes a) (fb : Bytes b) (ha : n - 8 + 8 ≤ length a) (hb : n - 8 + 8 ≤ length b) {x y : ℕ} (p : High a (n - 8) 8 x) (q : High b (n - 8) 8 y) where
  pub end_order : (o l : Ordering) → o ≡ nat_cmp x y → l ≡ nat_cmp (length a) (length b) → ordering_then o l ≡ order_bytes a b
  end_order Less l e f = window_lower r.alike fa fb ha hb p q (ranked x y Less e)
  end_order Greater l e f = window_higher r.alike fa fb ha hb p q (ranked x y Greater e)
  end_order Equal Less e f = end_shorter r (window_same r.alike fa fb ha hb p q (ranked x y Equal e)) (ranked _ _ Less f)
  end_order Equal Greater e f = end_longer r (window_same r.alike fa fb ha hb p q (ranked x y Equal e)) (ranked _ _ Greater f)
  end_order Equal Equal e f =
      let l : length a ≡ length b = ranked _ _ Equal f in
      end_same r (window_same r.alike fa fb ha hb p q (ranked x y Equal e)) (omega arith) (omega arith)
