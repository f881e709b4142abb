-- Lists of bytes: whether two are equal, and which comes first. Bytes decide from the front, and a prefix comes first.
use Rattle.std.specs.Prelude.{ℕ, zero, suc, ◌≤◌, ◌<◌, Bool, true, false, List, [], ◌∷◌, ◌⊎◌, ◌≡◌, refl, ltb, eqb, length, take, get_or}
use Rattle.std.proofs.Common.{inl, inr, ⊎_elim, sym, ◌∙◌, ap₂, not-suc-le-zero, le_of_suc-le-suc, arith}
use borrow.Author.Tests.{lt-ltb, eq-eqb, ne_eqb, ltb-true, ltb-false, eqb-true, eqb-false}
use Rattle.lists.specs.Tests.{if_b, split, differ}

unfoldable pub eq_bytes : List ℕ → List ℕ → Bool
eq_bytes [] [] = true
eq_bytes [] (y ∷ t) = false
eq_bytes (x ∷ s) [] = false
eq_bytes (x ∷ s) (y ∷ t) = if_b (eqb x y) (λ _. eq_bytes s t) (λ _. false)

unfoldable pub less_bytes : List ℕ → List ℕ → Bool
less_bytes [] [] = false
less_bytes [] (y ∷ t) = true
less_bytes (x ∷ s) [] = false
less_bytes (x ∷ s) (y ∷ t) = if_b (eqb x y) (λ _. less_bytes s t) (λ _. ltb x y)

-- ---- equality

pub eq_bytes_refl : (s : List ℕ) → eq_bytes s s ≡ true
unfolding eq_bytes
eq_bytes_refl [] = refl
eq_bytes_refl (x ∷ s) = rw (eq-eqb x x refl) (eq_bytes_refl s)

pub eq_eq_bytes : {s t : List ℕ} → s ≡ t → eq_bytes s t ≡ true
eq_eq_bytes {s} {t} e = rw (← e) (eq_bytes_refl s)

pub eq_bytes_true : (s t : List ℕ) → eq_bytes s t ≡ true → s ≡ t
unfolding eq_bytes
eq_bytes_true [] [] h = refl
eq_bytes_true [] (y ∷ t) h = differ h refl
eq_bytes_true (x ∷ s) [] h = differ h refl
eq_bytes_true (x ∷ s) (y ∷ t) h =
    split (eqb x y)
    (λ (e : eqb x y ≡ true). ap₂ ◌∷◌ (eqb-true x y e) (eq_bytes_true s t (rw e at h)))
    (λ (e : eqb x y ≡ false). differ (rw e at h) refl)

pub eq_bytes_false : {s t : List ℕ} → eq_bytes s t ≡ false → s ≡ t → ⊥
eq_bytes_false h e = differ (eq_eq_bytes e) h

pub ne_eq_bytes : (s t : List ℕ) → (s ≡ t → ⊥) → eq_bytes s t ≡ false
ne_eq_bytes s t h = split (eq_bytes s t) (λ (e : eq_bytes s t ≡ true). absurd (h (eq_bytes_true s t e))) (λ (e : eq_bytes s t ≡ false). e)

-- ---- order

-- The first bytes decide where they differ.
module _ (x y : ℕ) (s t : List ℕ) where
  pub less_same : x ≡ y → less_bytes (x ∷ s) (y ∷ t) ≡ less_bytes s t
  unfolding less_bytes
  less_same e = rw (eq-eqb x y e)

  pub less_lower : x < y → less_bytes (x ∷ s) (y ∷ t) ≡ true
  unfolding less_bytes
  less_lower h = rw (ne_eqb x y (λ e. omega arith), lt-ltb x y h)

pub less_cons : (x y : ℕ) (s t : List ℕ) → less_bytes (x ∷ s) (y ∷ t) ≡ true → (x < y) ⊎ ((x ≡ y) × (less_bytes s t ≡ true))
unfolding less_bytes
less_cons x y s t h =
    split (eqb x y)
    (λ (e : eqb x y ≡ true). inr (eqb-true x y e, rw e at h))
    (λ (e : eqb x y ≡ false). inl (ltb-true x y (rw e at h)))

pub less_irrefl : (s : List ℕ) → less_bytes s s ≡ false
unfolding less_bytes
less_irrefl [] = refl
less_irrefl (x ∷ s) = less_same x x s s refl ∙ less_irrefl s

pub less_trans : (s t u : List ℕ) → less_bytes s t ≡ true → less_bytes t u ≡ true → less_bytes s u ≡ true
unfolding less_bytes
less_trans [] [] u p q = differ p refl
less_trans [] (y ∷ t) [] p q = q
less_trans [] (y ∷ t) (z ∷ u) p q = refl
less_trans (x ∷ s) [] u p q = differ p refl
less_trans (x ∷ s) (y ∷ t) [] p q = q
less_trans (x ∷ s) (y ∷ t) (z ∷ u) p q =
    ⊎_elim
    (λ (a : x < y).
    ⊎_elim
    (λ (b : y < z). less_lower x z s u (omega arith))
    (λ (b : (y ≡ z) × (less_bytes t u ≡ true)). less_lower x z s u (omega arith))
    (less_cons y z t u q))
    (λ (a : (x ≡ y) × (less_bytes s t ≡ true)).
    ⊎_elim
    (λ (b : y < z). less_lower x z s u (omega arith))
    (λ (b : (y ≡ z) × (less_bytes t u ≡ true)). less_same x z s u (a.0 ∙ b.0) ∙ less_trans s t u a.1 b.1)
    (less_cons y z t u q))
    (less_cons x y s t p)

pub less_asym : (s t : List ℕ) → less_bytes s t ≡ true → less_bytes t s ≡ false
less_asym s t p =
    split (less_bytes t s)
    (λ (q : less_bytes t s ≡ true). differ (less_trans s t s p q) (less_irrefl s))
    (λ (q : less_bytes t s ≡ false). q)

pub less_total : (s t : List ℕ) → less_bytes s t ≡ false → less_bytes t s ≡ false → s ≡ t
unfolding less_bytes
less_total [] [] p q = refl
less_total [] (y ∷ t) p q = differ refl p
less_total (x ∷ s) [] p q = differ refl q
less_total (x ∷ s) (y ∷ t) p q =
    split (eqb x y)
    (λ (e : eqb x y ≡ true).
    let d : x ≡ y = eqb-true x y e in
    ap₂ ◌∷◌ d (less_total s t (sym (less_same x y s t d) ∙ p) (sym (less_same y x t s (sym d)) ∙ q)))
    (λ (e : eqb x y ≡ false).
    let ne : x ≡ y → ⊥ = eqb-false x y e in
    let a : y ≤ x = ltb-false x y (rw e at p) in
    let b : x ≤ y = ltb-false y x (rw (ne_eqb y x (λ (d : y ≡ x). ne (sym d))) at q) in
    absurd (ne (omega arith)))

pub eq_less : {s t : List ℕ} → s ≡ t → less_bytes s t ≡ false
eq_less {s} {t} e = rw e (less_irrefl t)

pub less_ne : {s t : List ℕ} → less_bytes s t ≡ true → s ≡ t → ⊥
less_ne p e = differ p (eq_less e)

-- The first place where two lists differ decides, and a shorter list comes before what it begins.
pub less_at : (k : ℕ) (s t : List ℕ) → take k s ≡ take k t → k < length s → k < length t
    → get_or s k 0 < get_or t k 0 → less_bytes s t ≡ true
less_at k [] t e hs ht h = absurd (not-suc-le-zero hs)
less_at k (x ∷ s) [] e hs ht h = absurd (not-suc-le-zero ht)
less_at zero (x ∷ s) (y ∷ t) e hs ht h = less_lower x y s t h
less_at (suc k) (x ∷ s) (y ∷ t) e hs ht h = less_same x y s t (cc) ∙ less_at k s t (cc) (le_of_suc-le-suc hs) (le_of_suc-le-suc ht) h

pub less_prefix : (s t : List ℕ) → take (length s) t ≡ s → length s < length t → less_bytes s t ≡ true
unfolding less_bytes
less_prefix s [] e h = absurd (not-suc-le-zero h)
less_prefix [] (y ∷ t) e h = refl
less_prefix (x ∷ s) (y ∷ t) e h = less_same x y s t (cc) ∙ less_prefix s t (cc) (le_of_suc-le-suc h)
