-- The newest entry of a name: one entry against the name, the halving of the index, and the entry in front of the name's place.
use Rattle.std.specs.Prelude.{Some, None}
use Prim.Native.Nat.{ℕ, ◌+◌, ◌*◌, ◌-◌, ◌≤◌, ◌<◌}
use mathlib.Core.Bool.{Bool, true, false}
use mathlib.Core.List.{List, ◌∷◌}
use mathlib.Core.Path.{◌≡◌, sym, ◌∙◌, ap}
use native.Mathlib.Omega.{arith}
use borrow.Author.Tests.{eq-eqb, ne_eqb}
use lib.ListN.{length, drop, get_or}
use lib.Seq.{get_or-take, get_or-drop}
use Rattle.lists.specs.Bytes.{eq_bytes, less_bytes, less_same, less_lower, less_asym}
use Rattle.hold_bindings.specs.Log.{Logged, entry_at, is_named, newest}
use Rattle.hold_bindings.specs.Index.{key_of, key_at, KeyBetween}
use Rattle.hold_bindings.specs.Held.{rows_end, index_in, HoldsBindings, Row, PlaceOf}
use Rattle.hold_bindings.proofs.Indexing.{between_all, between_lower, between_higher, none_in_front, last_named, last_other}

-- Entry k is e, and x is the owner that was read.
module _ {e : Logged} {texts bind : List ℕ} {k : ℕ} (w : Row e texts bind k) (o : ℕ) (n : List ℕ) {x : ℕ} (p : x ≡ get_or bind (3 * k + 2) 0) where
  pub not_owned : (x ≡ o → ⊥) → false ≡ is_named o n e
  unfolding is_named
  not_owned q = rw (← w.owner, ← p, ne_eqb x o q)

  pub owned : (x ≡ o) → {m : List ℕ} → m ≡ e.name → eq_bytes n m ≡ is_named o n e
  unfolding is_named
  owned q r = rw (← w.owner, ← p, eq-eqb x o q, r)

  pub owner_before : o < x → true ≡ less_bytes (o ∷ n) (key_of e)
  owner_before q = sym (less_lower o e.owner n e.name (omega (arith, w.owner)))

  pub owner_after : x < o → false ≡ less_bytes (o ∷ n) (key_of e)
  owner_after q = sym (less_asym (e.owner ∷ e.name) (o ∷ n) (less_lower e.owner o e.name n (omega (arith, w.owner))))

  pub owner_same : x ≤ o → o ≤ x → {m : List ℕ} → m ≡ e.name → less_bytes n m ≡ less_bytes (o ∷ n) (key_of e)
  owner_same q s r = rw r (sym (less_same o e.owner n e.name (omega (arith, w.owner))))

-- ---- the index in the buffer

module _ {log : List Logged} {texts bind : List ℕ} {count : ℕ} (h : HoldsBindings log texts bind count) where
  length_index : length (index_in bind count) ≡ count
  length_index = h.index.long ∙ sym h.rows.counted

  index_at : (i : ℕ) → i < count → get_or (index_in bind count) i 0 ≡ get_or bind (rows_end + i) 0
  index_at i a = get_or-take count (drop rows_end bind) i 0 a ∙ get_or-drop rows_end bind i 0

  pub index_below : {i k : ℕ} → i < count → k ≡ get_or bind (rows_end + i) 0 → k < count
  index_below {i} a e = omega (arith, e, index_at i a, h.index.below i (omega (arith, length_index)), h.rows.counted)

-- ---- halving

pub record Halving (texts bind : List ℕ) (count o : ℕ) (n : List ℕ) (low high : ℕ) : Type 0 where
  pub ordered : low ≤ high
  pub within : high ≤ count
  pub between : (log : List Logged) → HoldsBindings log texts bind count → KeyBetween log (index_in bind count) (o ∷ n) low high

pub half_begin : {texts bind : List ℕ} {count o : ℕ} {n : List ℕ} → Halving texts bind count o n 0 count
half_begin {bind = bind} {count = count} {o = o} {n = n} =
    record {
      ordered = omega arith;
      within = omega arith;
      between = λ log h. rw (length_index h) at (between_all log (index_in bind count) (o ∷ n));
    }

module _ {texts bind : List ℕ} {count o : ℕ} {n : List ℕ} {low high : ℕ} (x : Halving texts bind count o n low high) where
  -- The entry in the middle is k, and r says whether the name comes before it.
  module _ {mid k : ℕ} (above : low ≤ mid) (below : mid < high) (q : k ≡ get_or bind (rows_end + mid) 0) {r : Bool}
      (t : (log : List Logged) (c : ℕ) → HoldsBindings log texts bind c → k < c → r ≡ less_bytes (o ∷ n) (key_at log k)) where
    compared : (log : List Logged) → HoldsBindings log texts bind count → less_bytes (o ∷ n) (key_at log (get_or (index_in bind count) mid 0)) ≡ r
    compared log h =
        let a : mid < count = omega (arith, x.within) in
        sym (t log count h (index_below h a q) ∙ ap (λ (j : ℕ). less_bytes (o ∷ n) (key_at log j)) (q ∙ sym (index_at h mid a)))

    pub half_lower : r ≡ true → Halving texts bind count o n low mid
    half_lower e =
        record {
          ordered = above;
          within = omega (arith, x.within);
          between = λ log h. between_lower (x.between log h) h.index below (compared log h ∙ e);
        }

    pub half_higher : r ≡ false → Halving texts bind count o n (mid + 1) high
    half_higher e =
        record {
          ordered = omega arith;
          within = x.within;
          between = λ log h. between_higher (x.between log h) h.index below (compared log h ∙ e);
        }

  pub half_end : high ≤ low → PlaceOf texts bind count o n low
  half_end e =
      let z : high ≡ low = omega (arith, x.ordered) in
      record { within = omega (arith, x.within); between = λ log h. rw z at (x.between log h) }

-- ---- the newest entry

module _ {texts bind : List ℕ} {count o : ℕ} {n : List ℕ} {p : ℕ} (w : PlaceOf texts bind count o n p) where
  pub seek_none : p ≡ 0 → (log : List Logged) → HoldsBindings log texts bind count → None ≡ newest o n log
  seek_none z log h = sym (none_in_front h.index (w.between log h) z)

  -- The entry in front of place p is k, and r says whether it is named.
  module _ (a : 0 < p) {k : ℕ} (q : k ≡ get_or bind (rows_end + (p - 1)) 0) {r : Bool}
      (t : (log : List Logged) (c : ℕ) → HoldsBindings log texts bind c → k < c → r ≡ is_named o n (entry_at k log)) where
    entry_in_front : {log : List Logged} → HoldsBindings log texts bind count → get_or (index_in bind count) (p - 1) 0 ≡ k
    entry_in_front h = index_at h (p - 1) (omega (arith, w.within)) ∙ sym q

    tested : {log : List Logged} → HoldsBindings log texts bind count → {b : Bool} → r ≡ b → is_named o n (entry_at (get_or (index_in bind count) (p - 1) 0) log) ≡ b
    tested {log} h e = rw (entry_in_front h) (sym (t log count h (index_below h (omega (arith, w.within)) q)) ∙ e)

    pub seek_found : r ≡ true → (log : List Logged) → HoldsBindings log texts bind count → Some k ≡ newest o n log
    seek_found e log h = sym (last_named h.index (w.between log h) a (tested h e) ∙ ap Some (entry_in_front h))

    pub seek_other : r ≡ false → (log : List Logged) → HoldsBindings log texts bind count → None ≡ newest o n log
    seek_other e log h = sym (last_other h.index (w.between log h) a (tested h e))
