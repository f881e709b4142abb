-- A list with zeros at the places from f up to, not including, e.
use Rattle.std.specs.Prelude.{ℕ, zero, suc, ◌+◌, ◌-◌, ◌≤◌, ◌<◌, List, ◌++◌, ◌≡◌, refl, length, take, drop, get_or, set, replicate}
use Rattle.std.proofs.Common.{append-nil, append_assoc, sym, ◌∙◌, ap, add-one, arith, take-append-drop, length-append, length-take, take_all, drop-cons}
use Rattle.std.proofs.lemmas.List.{length-replicate, replicate-append-replicate, set_at}
use Rattle.std.proofs.Math.Seq.{drop-length, paste, append_snoc}
use Rattle.std.proofs.lemmas.List.Edits.{length-paste}
use Rattle.lists.specs.Parts.{get_or_paste_in}

abbrev pub zeros : ℕ → List ℕ
zeros n = replicate n 0

pub length_zeros : (n : ℕ) → length (zeros n) ≡ n
length_zeros n = length-replicate {A = ℕ} n 0

pub get_or_zeros : (n i : ℕ) → get_or (zeros n) i 0 ≡ 0
get_or_zeros zero i = refl
get_or_zeros (suc n) zero = refl
get_or_zeros (suc n) (suc i) = get_or_zeros n i

unfoldable pub zeroed : List ℕ → ℕ → ℕ → List ℕ
zeroed l f e = take f l ++ zeros (e - f) ++ drop e l

pub zeroed_none : (l : List ℕ) (f : ℕ) → zeroed l f f ≡ l
unfolding zeroed
zeroed_none l f = let z : f - f ≡ 0 = omega arith in rw (z, append-nil (take f l)) (take-append-drop f l)

-- Nothing of a list lies past its end.
pub zeroed_past : (l : List ℕ) (f : ℕ) → length l ≤ f → zeroed l f (length l) ≡ l
unfolding zeroed
zeroed_past l f h =
    let z : length l - f ≡ 0 = omega arith in
    rw (z, take_all f l h, drop-length l, append-nil l) (append-nil l)

pub zeroed_all : (l : List ℕ) → zeroed l 0 (length l) ≡ zeros (length l)
unfolding zeroed
zeroed_all l =
    let z : length l - 0 ≡ length l = omega arith in
    rw (z, drop-length l) (append-nil (zeros (length l)))

take_zeros : (n : ℕ) → take n (zeros n) ≡ zeros n
take_zeros n = take_all n (zeros n) (omega (arith, length_zeros n))

-- Zeroing is a copy of zeros, whose laws it takes over.
pub zeroed_paste : (l : List ℕ) (f e : ℕ) → f ≤ e → zeroed l f e ≡ paste l f (zeros (e - f)) (e - f)
unfolding zeroed
zeroed_paste l f e h = let z : f + (e - f) ≡ e = omega arith in rw (take_zeros (e - f), z)

module _ (l : List ℕ) (f e : ℕ) (hf : f ≤ e) (he : e ≤ length l) where
  long : e - f ≤ length (zeros (e - f))
  long = omega (arith, length_zeros (e - f))

  pub length_zeroed : length (zeroed l f e) ≡ length l
  length_zeroed = ap length (zeroed_paste l f e hf) ∙ length-paste l f (zeros (e - f)) (e - f) (omega arith) long

  pub get_or_zeroed_in : (i : ℕ) → f ≤ i → i < e → get_or (zeroed l f e) i 0 ≡ 0
  get_or_zeroed_in i h k =
      let z : i ≡ f + (i - f) = omega arith in
      rw (zeroed_paste l f e hf, z)
      (get_or_paste_in l f (zeros (e - f)) (e - f) (omega arith) long (i - f) (omega arith)
      ∙ get_or_zeros (e - f) (i - f))

-- A turn of the loop that zeroes.
pub zeroed_more : (l : List ℕ) (f i : ℕ) → f ≤ i → i < length l → set (zeroed l f i) i 0 ≡ zeroed l f (i + 1)
unfolding zeroed
zeroed_more l f i h k =
    let p : List ℕ = take f l ++ zeros (i - f) in
    let n : length p ≡ i = simp (length-append, length-take, length_zeros) (omega arith) in
    let z : i + 1 - f ≡ i - f + 1 = omega arith in
    ap (λ (r : List ℕ). set (p ++ r) i 0) (drop-cons l i 0 k)
    ∙ set_at p (get_or l i 0) (drop (suc i) l) 0 i n
    ∙ sym (append_snoc p 0 (drop (suc i) l))
    ∙ rw (z, ← replicate-append-replicate {A = ℕ} (i - f) 1 0, ← append_assoc, add-one i)
