-- Rising names, and the time of a name among them found by halving.
use Prim.Native.Nat.{ℕ, zero, suc, ◌+◌, ◌≤◌, ◌<◌}
use mathlib.Core.Bool.{true}
use mathlib.Core.List.{List, [], ◌∷◌}
use mathlib.Core.Path.{◌≡◌, refl, sym, ◌∙◌}
use native.Mathlib.Decide.{dec_lt}
use native.Mathlib.Nat.{not-suc-le-zero, le_of_suc-le-suc}
use native.Mathlib.Omega.{arith}
use lib.ListN.{length, get_or}
use Rattle.lists.specs.Tests.{and_left, and_right}
use Rattle.lists.specs.Bytes.{less_bytes, eq_eq_bytes, ne_eq_bytes, less_trans, less_ne}
use Rattle.spec.specs.Limits.{max_records}
use Rattle.spec.specs.Card.{Entry, rising, time_in}
use Rattle.scan_card.specs.Fields.{unlisted}

abbrev name_at : List Entry → ℕ → List ℕ
name_at l i = (get_or l i unlisted).name

head_less : (e : Entry) (l : List Entry) → rising (e ∷ l) ≡ true → (j : ℕ) → j < length l → less_bytes e.name (name_at l j) ≡ true
unfolding rising
head_less e [] h j b = absurd (not-suc-le-zero b)
head_less e (f ∷ l) h zero b = and_left (less_bytes e.name f.name) (rising (f ∷ l)) h
head_less e (f ∷ l) h (suc j) b =
    less_trans e.name f.name (name_at l j) (and_left (less_bytes e.name f.name) (rising (f ∷ l)) h)
    (head_less f l (and_right (less_bytes e.name f.name) (rising (f ∷ l)) h) j (le_of_suc-le-suc b))

rising_tail : (e : Entry) (l : List Entry) → rising (e ∷ l) ≡ true → rising l ≡ true
unfolding rising
rising_tail e [] h = refl
rising_tail e (f ∷ l) h = and_right (less_bytes e.name f.name) (rising (f ∷ l)) h

names_rise : (l : List Entry) → rising l ≡ true → (i j : ℕ) → i < j → j < length l → less_bytes (name_at l i) (name_at l j) ≡ true
names_rise [] h i j a b = absurd (not-suc-le-zero b)
names_rise (e ∷ l) h i zero a b = absurd (not-suc-le-zero a)
names_rise (e ∷ l) h zero (suc j) a b = head_less e l h j (le_of_suc-le-suc b)
names_rise (e ∷ l) h (suc i) (suc j) a b = names_rise l (rising_tail e l h) i j (le_of_suc-le-suc a) (le_of_suc-le-suc b)

-- ---- the time of a name that only entry k has, and of one that none has

time_first : (l : List Entry) (n : List ℕ) (k : ℕ) → k < length l → ((i : ℕ) → i < k → n ≡ name_at l i → ⊥) → n ≡ name_at l k → time_in l n ≡ (get_or l k unlisted).time
unfolding time_in
time_first [] n k b f e = absurd (not-suc-le-zero b)
time_first (x ∷ l) n zero b f e = rw (eq_eq_bytes e)
time_first (x ∷ l) n (suc k) b f e =
    rw (ne_eq_bytes n x.name (f 0 (omega arith))) (time_first l n k (le_of_suc-le-suc b) (λ i a. f (suc i) (omega arith)) e)

time_none : (l : List Entry) (n : List ℕ) → ((i : ℕ) → i < length l → n ≡ name_at l i → ⊥) → time_in l n ≡ 0
unfolding time_in
time_none [] n f = refl
time_none (x ∷ l) n f = rw (ne_eq_bytes n x.name (f 0 (omega arith))) (time_none l n (λ i a. f (suc i) (omega arith)))

-- ---- halving: the entries before `low` come before the name, those from `high` on after it

pub record Searching (l : List Entry) (n : List ℕ) (low high : ℕ) : Type 0 where
  pub within : high ≤ length l
  pub few : high ≤ max_records
  pub before : (i : ℕ) → i < low → less_bytes (name_at l i) n ≡ true
  pub after : (i : ℕ) → high ≤ i → i < length l → less_bytes n (name_at l i) ≡ true

pub search_begin : (l : List Entry) (n : List ℕ) (high : ℕ) → high ≡ length l → high ≤ max_records → Searching l n 0 high
search_begin l n high e f =
    record { within = omega arith; few = f; before = λ i a. absurd (not-suc-le-zero a); after = λ i a b. absurd (omega arith) }

module _ {l : List Entry} {n : List ℕ} {low high : ℕ} (r : Searching l n low high) where
  pub search_end : high ≤ low → 0 ≡ time_in l n
  search_end e =
      sym
      (time_none l n
      (λ i a q. elim (dec_lt i low) [ yes p ↦ less_ne (r.before i p) (sym q) | no p ↦ less_ne (r.after i (omega arith) a) q ]))

  module _ (h : rising l ≡ true) (mid : ℕ) (below : mid < high) where
    pub search_found : n ≡ name_at l mid → (get_or l mid unlisted).time ≡ time_in l n
    search_found e =
        sym
        (time_first l n mid (omega (arith, r.within))
        (λ i a q. less_ne (names_rise l h i mid a (omega (arith, r.within))) (sym q ∙ e))
        e)

    pub search_lower : less_bytes n (name_at l mid) ≡ true → Searching l n low mid
    search_lower e =
        record {
          within = omega (arith, r.within);
          few = omega (arith, r.few);
          before = r.before;
          after = λ i a b. elim (dec_lt mid i) [
            | yes p ↦ less_trans n (name_at l mid) (name_at l i) e (names_rise l h mid i p b)
            | no p ↦ (let q : mid ≡ i = omega arith in rw (← q) e)
          ];
        }

    pub search_higher : less_bytes (name_at l mid) n ≡ true → Searching l n (mid + 1) high
    search_higher e =
        record {
          within = r.within;
          few = r.few;
          before = λ i a. elim (dec_lt i mid) [
            | yes p ↦ less_trans (name_at l i) (name_at l mid) n (names_rise l h i mid p (omega (arith, r.within))) e
            | no p ↦ (let q : mid ≡ i = omega arith in rw (← q) e)
          ];
          after = r.after;
        }
