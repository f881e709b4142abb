-- The index of a log: halving finds a key's place in it, the newest entry of a key stands in front of that place, and an entry more is put in there.
use Rattle.std.specs.Prelude.{Some, None}
use Prim.Native.Nat.{ℕ, suc, ◌+◌, ◌-◌, ◌≤◌, ◌<◌}
use mathlib.Core.Bool.{true, false}
use mathlib.Core.List.{List, [], ◌∷◌}
use mathlib.Core.Logic.{inl, inr, ⊎_elim}
use mathlib.Core.Path.{◌≡◌, refl, sym, ◌∙◌, ap}
use native.Mathlib.Decide.{dec_lt}
use native.Mathlib.Nat.{not-suc-le-zero}
use native.Mathlib.Omega.{arith}
use borrow.Author.Tests.{eq-eqb, eqb-true}
use lib.Dec.{eqb}
use lib.ListN.{length, get_or}
use Rattle.lists.specs.Tests.{split, differ}
use Rattle.lists.specs.Bytes.{less_bytes, eq_bytes_true, eq_bytes_refl, less_trans, less_ne, less_total}
use Rattle.arena.specs.Inserted.{inserted}
use Rattle.arena.proofs.Inserting.{length_inserted, each_inserted, pairs_inserted, has_inserted, keeps_inserted}
use Rattle.hold_bindings.specs.Log.{Logged, entry_at, is_named, newest}
use Rattle.hold_bindings.specs.Index.{key_of, key_at, Before, Indexed, KeyBetween}
use Rattle.hold_bindings.proofs.Lookups.{entry_kept, entry_newest}

pub nothing_indexed : Indexed [] []
nothing_indexed =
    record {
      long = refl;
      below = λ i a. absurd (not-suc-le-zero a);
      sorted = λ i j a b. absurd (not-suc-le-zero b);
      every = λ k a. absurd (not-suc-le-zero a);
    }

-- ---- halving

pub between_all : (log : List Logged) (index key : List ℕ) → KeyBetween log index key 0 (length index)
between_all log index key =
    record { within = omega arith; before = λ i a. absurd (not-suc-le-zero a); after = λ i a b. absurd (omega arith) }

module _ {log : List Logged} {index key : List ℕ} {low high : ℕ} (b : KeyBetween log index key low high) (x : Indexed log index) {mid : ℕ} (below : mid < high) where
  pub between_lower : less_bytes key (key_at log (get_or index mid 0)) ≡ true → KeyBetween log index key low mid
  between_lower e =
      record {
        within = omega (arith, b.within);
        before = b.before;
        after = λ i a h. elim (dec_lt mid i) [
          | yes p ↦
              ⊎_elim
              (λ (l : less_bytes (key_at log (get_or index mid 0)) (key_at log (get_or index i 0)) ≡ true). less_trans key (key_at log (get_or index mid 0)) (key_at log (get_or index i 0)) e l)
              (λ (q : (key_at log (get_or index mid 0) ≡ key_at log (get_or index i 0)) × (get_or index mid 0 < get_or index i 0)). sym (ap (less_bytes key) q.0) ∙ e)
              (x.sorted mid i p h)
          | no p ↦ (let q : mid ≡ i = omega arith in rw (← q) e)
        ];
      }

  pub between_higher : less_bytes key (key_at log (get_or index mid 0)) ≡ false → KeyBetween log index key (mid + 1) high
  between_higher e =
      record {
        within = b.within;
        before = λ i a. elim (dec_lt i mid) [
          | yes p ↦
              ⊎_elim
              (λ (l : less_bytes (key_at log (get_or index i 0)) (key_at log (get_or index mid 0)) ≡ true).
              split (less_bytes key (key_at log (get_or index i 0)))
              (λ (t : less_bytes key (key_at log (get_or index i 0)) ≡ true). differ (less_trans key (key_at log (get_or index i 0)) (key_at log (get_or index mid 0)) t l) e)
              (λ (t : less_bytes key (key_at log (get_or index i 0)) ≡ false). t))
              (λ (q : (key_at log (get_or index i 0) ≡ key_at log (get_or index mid 0)) × (get_or index i 0 < get_or index mid 0)). ap (less_bytes key) q.0 ∙ e)
              (x.sorted i mid p (omega (arith, b.within)))
          | no p ↦ (let q : mid ≡ i = omega arith in rw (← q) e)
        ];
        after = b.after;
      }

-- ---- named entries

module _ (o : ℕ) (n : List ℕ) (e : Logged) where
  named_key : is_named o n e ≡ true → o ∷ n ≡ key_of e
  unfolding is_named
  named_key h =
      split (eqb e.owner o)
      (λ (p : eqb e.owner o ≡ true).
      let q : e.owner ≡ o = eqb-true e.owner o p in
      let r : n ≡ e.name = eq_bytes_true n e.name (rw p at h) in
      cc)
      (λ (p : eqb e.owner o ≡ false). differ (rw p at h) refl)

  key_named : o ∷ n ≡ key_of e → is_named o n e ≡ true
  unfolding is_named
  key_named h =
      let q : e.owner ≡ o = cc in
      let r : n ≡ e.name = cc in
      rw (eq-eqb e.owner o q, r) (eq_bytes_refl e.name)

  not_named : (is_named o n e ≡ true → ⊥) → is_named o n e ≡ false
  not_named f = split (is_named o n e) (λ (p : is_named o n e ≡ true). absurd (f p)) (λ (p : is_named o n e ≡ false). p)

  other_key : is_named o n e ≡ false → o ∷ n ≡ key_of e → ⊥
  other_key f h = differ (key_named h) f

-- An entry is the newest of its name if it has the name and no later one does.
newest_at : (o : ℕ) (n : List ℕ) (log : List Logged) (k : ℕ) → k < length log → is_named o n (entry_at k log) ≡ true
    → ((j : ℕ) → k < j → j < length log → is_named o n (entry_at j log) ≡ false) → newest o n log ≡ Some k
unfolding newest
newest_at o n [] k b h f = absurd (not-suc-le-zero b)
newest_at o n (e ∷ l) k b h f =
    elim (dec_lt k (length l)) [
      | yes p ↦ (
          let q : is_named o n e ≡ false = rw (entry_newest e l) at (f (length l) p (omega arith)) in
          rw q (newest_at o n l k p (rw (entry_kept e l k p) at h) (λ j c d. rw (entry_kept e l j d) at (f j c (omega arith))))
          )
      | no p ↦ (
          let z : k ≡ length l = omega arith in
          let q : is_named o n e ≡ true = rw (z, entry_newest e l) at h in
          rw q (ap Some (sym z))
          )
    ]

newest_none : (o : ℕ) (n : List ℕ) (log : List Logged) → ((j : ℕ) → j < length log → is_named o n (entry_at j log) ≡ false) → newest o n log ≡ None
unfolding newest
newest_none o n [] f = refl
newest_none o n (e ∷ l) f =
    let q : is_named o n e ≡ false = rw (entry_newest e l) at (f (length l) (omega arith)) in
    rw q (newest_none o n l (λ j d. rw (entry_kept e l j d) at (f j (omega arith))))

-- ---- the entry in front of the place of a name

module _ {log : List Logged} {index : List ℕ} (x : Indexed log index) {o : ℕ} {n : List ℕ} {p : ℕ} (b : KeyBetween log index (o ∷ n) p p) where
  -- An entry of this name stands in front of the place.
  in_front_law : (k : ℕ) → k < length log → o ∷ n ≡ key_at log k → (i : ℕ) × (i < p) × (get_or index i 0 ≡ k)
  in_front_law k h q =
      let (i, c, e) = x.every k h in
      elim (dec_lt i p) [
        | yes y ↦ (i, y, e)
        | no y ↦ absurd (less_ne (b.after i (omega arith) c) (q ∙ ap (key_at log) (sym e)))
      ]

  pub none_in_front : p ≡ 0 → newest o n log ≡ None
  none_in_front z =
      newest_none o n log
      (λ j h. not_named o n (entry_at j log)
      (λ t. let (i, c, e) = in_front_law j h (named_key o n (entry_at j log) t) in omega arith))

  module _ (a : 0 < p) where
    -- The one just in front of it has the name too, and is the last.
    last : (k : ℕ) → k < length log → o ∷ n ≡ key_at log k → (o ∷ n ≡ key_at log (get_or index (p - 1) 0)) × (k ≤ get_or index (p - 1) 0)
    last k h q =
        let (i, c, e) = in_front_law k h q in
        elim (dec_lt i (p - 1)) [
          | yes y ↦
              ⊎_elim
              (λ (l : less_bytes (key_at log (get_or index i 0)) (key_at log (get_or index (p - 1) 0)) ≡ true).
              differ (ap (λ (s : List ℕ). less_bytes s (key_at log (get_or index (p - 1) 0))) (q ∙ ap (key_at log) (sym e)) ∙ l) (b.before (p - 1) (omega arith)))
              (λ (r : (key_at log (get_or index i 0) ≡ key_at log (get_or index (p - 1) 0)) × (get_or index i 0 < get_or index (p - 1) 0)).
              (q ∙ ap (key_at log) (sym e) ∙ r.0, omega (arith, r.1)))
              (x.sorted i (p - 1) y (omega (arith, b.within)))
          | no y ↦ (
              let z : i ≡ p - 1 = omega arith in
              let w : get_or index (p - 1) 0 ≡ k = ap (λ (m : ℕ). get_or index m 0) (sym z) ∙ e in
              (q ∙ ap (key_at log) (sym w), omega arith)
              )
        ]

    pub last_named : is_named o n (entry_at (get_or index (p - 1) 0) log) ≡ true → newest o n log ≡ Some (get_or index (p - 1) 0)
    last_named h =
        newest_at o n log (get_or index (p - 1) 0) (x.below (p - 1) (omega (arith, b.within))) h
        (λ j c d. not_named o n (entry_at j log)
        (λ t. let w = (last j d (named_key o n (entry_at j log) t)).1 in omega arith))

    pub last_other : is_named o n (entry_at (get_or index (p - 1) 0) log) ≡ false → newest o n log ≡ None
    last_other h =
        newest_none o n log
        (λ j d. not_named o n (entry_at j log)
        (λ t. other_key o n (entry_at (get_or index (p - 1) 0) log) h (last j d (named_key o n (entry_at j log) t)).0))

-- ---- an entry more

module _ (e : Logged) (l : List Logged) {index : List ℕ} (x : Indexed l index) {p : ℕ} (b : KeyBetween l index (key_of e) p p) where
  before_kept : (i j : ℕ) → i < j → j < length index → Before (e ∷ l) (get_or index i 0) (get_or index j 0)
  before_kept i j a c =
      rw (entry_kept e l (get_or index i 0) (x.below i (omega arith)), entry_kept e l (get_or index j 0) (x.below j c)) (x.sorted i j a c)

  before_newest : (i : ℕ) → i < p → Before (e ∷ l) (get_or index i 0) (length l)
  before_newest i a =
      let k = x.below i (omega (arith, b.within)) in
      rw (entry_kept e l (get_or index i 0) k, entry_newest e l)
      (split (less_bytes (key_at l (get_or index i 0)) (key_of e))
      (λ (t : less_bytes (key_at l (get_or index i 0)) (key_of e) ≡ true). inl t)
      (λ (t : less_bytes (key_at l (get_or index i 0)) (key_of e) ≡ false). inr (less_total (key_at l (get_or index i 0)) (key_of e) t (b.before i a), k)))

  after_newest : (i : ℕ) → p ≤ i → i < length index → Before (e ∷ l) (length l) (get_or index i 0)
  after_newest i a c = rw (entry_kept e l (get_or index i 0) (x.below i c), entry_newest e l) (inl (b.after i a c))

  entry_there : (k : ℕ) → k < length (e ∷ l) → (i : ℕ) × (i < length (inserted index p (length l))) × (get_or (inserted index p (length l)) i 0 ≡ k)
  entry_there k h =
      elim (dec_lt k (length l)) [
        | yes y ↦ (
            let (i, c, q) = x.every k y in
            let (j, d, r) = keeps_inserted index p (length l) 0 b.within i c in
            (j, d, r ∙ q)
            )
        | no y ↦ (
            let z : length l ≡ k = omega arith in
            let (j, d, r) = has_inserted index p (length l) 0 b.within in
            (j, d, r ∙ z)
            )
      ]

  pub indexed_more : Indexed (e ∷ l) (inserted index p (length l))
  indexed_more =
      record {
        long = length_inserted index p (length l) 0 b.within ∙ ap suc x.long;
        below = each_inserted index p (length l) 0 b.within (λ k. k < length (e ∷ l)) (omega arith) (λ i c. omega (arith, x.below i c));
        sorted = pairs_inserted index p (length l) 0 b.within (Before (e ∷ l)) before_kept before_newest after_newest;
        every = entry_there;
      }
