-- A part of a list, from place f up to, not including, place e: what `&l[f..e]` lends. With what a store and a copy
-- (`set`, and `paste` of `lib.Seq`) leave of it.
use Rattle.std.specs.Prelude.{ℕ, zero, suc, ◌+◌, ◌-◌, ◌≤◌, ◌<◌, List, [], ◌∷◌, ◌++◌, ◌≡◌, length, take, drop, get_or, set}
use Rattle.std.proofs.Common.{sym, ◌∙◌, ap, add-one, arith, length-take, length-drop, length-take-le, take-suc, drop-cons, take_all, drop-drop, take-add, get_or-take, get_or-drop, drop-set-lt, drop_at}
use Rattle.std.proofs.Math.Seq.{paste, take-nil, drop-nil}
use Rattle.std.proofs.lemmas.List.Edits.{take-paste}

abbrev pub part : List ℕ → ℕ → ℕ → List ℕ
part l f e = take (e - f) (drop f l)

-- ---- parts of one list

pub length_part : (l : List ℕ) (f e : ℕ) → e ≤ length l → length (part l f e) ≡ e - f
length_part l f e h = simp (length-take, length-drop) (omega arith)

pub part_none : (l : List ℕ) (f e : ℕ) → e ≤ f → part l f e ≡ []
part_none l f e h = let z : e - f ≡ 0 = omega arith in rw z

pub part_to_end : (l : List ℕ) (f : ℕ) → part l f (length l) ≡ drop f l
part_to_end l f = take_all (length l - f) (drop f l) (omega (arith, length-drop f l))

pub part_from_start : (l : List ℕ) (e : ℕ) → part l 0 e ≡ take e l
part_from_start l e = let z : e - 0 ≡ e = omega arith in rw z

pub part_append : (l : List ℕ) (f m e : ℕ) → f ≤ m → m ≤ e → part l f m ++ part l m e ≡ part l f e
part_append l f m e hf he =
    let a : e - f ≡ (m - f) + (e - m) = omega arith in
    let b : f + (m - f) ≡ m = omega arith in
    rw (a, take-add (m - f) (e - m) (drop f l), drop-drop (m - f) f l, b)

pub part_cons : (l : List ℕ) (f e : ℕ) → f < e → f < length l → part l f e ≡ get_or l f 0 ∷ part l (f + 1) e
part_cons l f e h k =
    let a : e - f ≡ suc (e - (f + 1)) = omega arith in
    rw (a, drop-cons l f 0 k, add-one)

pub part_snoc : (l : List ℕ) (f e : ℕ) → f ≤ e → e < length l → part l f (e + 1) ≡ part l f e ++ (get_or l e 0 ∷ [])
part_snoc l f e h k =
    let a : e + 1 - f ≡ suc (e - f) = omega arith in
    let b : f + (e - f) ≡ e = omega arith in
    rw (a, take-suc (drop f l) (e - f) 0 (omega (arith, length-drop f l)), get_or-drop f l (e - f) 0, b)

pub get_d_part : (l : List ℕ) (f e i : ℕ) → f + i < e → get_or (part l f e) i 0 ≡ get_or l (f + i) 0
get_d_part l f e i h = get_or-take (e - f) (drop f l) i 0 (omega arith) ∙ get_or-drop f l i 0

pub drop_take : (a n : ℕ) (l : List ℕ) → drop a (take n l) ≡ take (n - a) (drop a l)
drop_take a n [] = rw (take-nil {A = ℕ} n, drop-nil {A = ℕ} a, take-nil {A = ℕ} (n - a))
drop_take zero n (x ∷ l) = let z : n - 0 ≡ n = omega arith in rw z
drop_take (suc a) zero (x ∷ l) = let z : 0 - suc a ≡ 0 = omega arith in rw z
drop_take (suc a) (suc n) (x ∷ l) =
    let z : suc n - suc a ≡ n - a = omega arith in
    rw z (drop_take a n l)

pub drop_part : (l : List ℕ) (f e n : ℕ) → drop n (part l f e) ≡ part l (f + n) e
drop_part l f e n =
    let z : e - (f + n) ≡ e - f - n = omega arith in
    rw (z, drop_take n (e - f) (drop f l), drop-drop n f l)

-- ---- after a store

pub part_set_before : (l : List ℕ) (f e i v : ℕ) → i < f → part (set l i v) f e ≡ part l f e
part_set_before l f e i v h = rw (drop-set-lt f l i v h)

-- ---- after a copy

module _ (d : List ℕ) (at : ℕ) (s : List ℕ) (n : ℕ) (hd : at ≤ length d) (hs : n ≤ length s) where
  pub part_paste : part (paste d at s n) at (at + n) ≡ take n s
  part_paste =
      sym (drop_take at (at + n) (paste d at s n))
      ∙ ap (drop at) (take-paste d at s n hd hs)
      ∙ drop_at (take at d) (take n s) at (length-take-le at d hd)

  pub get_or_paste_in : (i : ℕ) → i < n → get_or (paste d at s n) (at + i) 0 ≡ get_or s i 0
  get_or_paste_in i h =
      sym (get_d_part (paste d at s n) at (at + n) i (omega arith))
      ∙ ap (λ (l : List ℕ). get_or l i 0) part_paste
      ∙ get_or-take n s i 0 h
