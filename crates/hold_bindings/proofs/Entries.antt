-- What buffers that hold a log say of each of its entries, and how they come to hold one more.
use Prim.Native.Nat.{ℕ, zero, suc, ◌+◌, ◌*◌, ◌-◌, ◌≤◌, ◌<◌}
use mathlib.Core.List.{List, [], ◌∷◌, ◌++◌, append_assoc, append-nil}
use mathlib.Core.Path.{◌≡◌, refl, sym, ◌∙◌, ap}
use native.Mathlib.Decide.{dec_le}
use native.Mathlib.Omega.{arith}
use lib.ListN.{length, take, drop, get_or, set, length-append, length-take, length-drop, length-set, drop_of_length-le}
use lib.Seq.{take-take, take_at, drop_at, take-append-le, take-append_seam, drop-append_seam, drop-cons, drop-nil, drop-drop, drop-set-lt, get_or-take, get_or-append-add, take-suc-set, take-length, length-take-le, paste, length-paste, take-paste}
use Rattle.lists.specs.Parts.{part, part_to_end, drop_take}
use Rattle.spec.specs.Limits.{max_name}
use Rattle.arena.specs.Inserted.{inserted, Shifted}
use Rattle.hold_bindings.specs.Log.{Logged, no_entry, entry_at, as_of}
use Rattle.hold_bindings.specs.Index.{Indexed}
use Rattle.hold_bindings.specs.Held.{max_entries, max_texts, max_rows, rows_end, scopes_at, current_at, parents_at, texts_of, row_of, rows_of, values_in, ShortNames, index_in, Rows, HoldsBindings, HasEntry, RowRoom, HasRowRoom, EntryRoom, entry_start, Row, PlaceOf, Pushed, Added}
use Rattle.hold_bindings.proofs.Indexing.{nothing_indexed, indexed_more}
use Rattle.hold_bindings.proofs.Scopes.{scoping_other, scopes_kept, scopes_begun}

-- ---- lengths

length_rows : (l : List Logged) → length (rows_of l) ≡ 3 * length l
unfolding rows_of row_of
length_rows [] = refl
length_rows (e ∷ l) = simp length-append (omega (arith, length_rows l))

length_texts : (l : List Logged) → ShortNames l → length (texts_of l) ≤ max_name * length l + values_in l
unfolding texts_of values_in
length_texts [] s = omega arith
length_texts (e ∷ l) s = simp length-append (omega (arith, length_texts l s.1))

texts_fit : {log : List Logged} {texts bind : List ℕ} {count : ℕ} → Rows log texts bind count → length (texts_of log) ≤ max_texts
texts_fit {log} h = omega (arith, h.counted, h.few, h.values, length_texts log h.names)

-- ---- parts of what a list begins with

prefix : (p q t : List ℕ) → take (length (p ++ q)) t ≡ p ++ q → take (length p) t ≡ p
prefix p q t h =
    sym (take-take (length p) (length (p ++ q)) t (omega (arith, length-append p q)))
    ∙ ap (take (length p)) h
    ∙ take-append_seam p q

prefix_part : (p q r t : List ℕ) → take (length (p ++ (q ++ r))) t ≡ p ++ (q ++ r) → part t (length p) (length p + length q) ≡ q
prefix_part p q r t h =
    let n : length (p ++ (q ++ r)) ≡ length p + (length q + length r) = simp length-append in
    let z : length p + length q - length p ≡ length q = omega arith in
    rw z
    (sym (take-take (length q) (length (p ++ (q ++ r)) - length p) (drop (length p) t) (omega arith))
    ∙ ap (take (length q)) (sym (drop_take (length p) (length (p ++ (q ++ r))) t) ∙ ap (drop (length p)) h ∙ drop-append_seam p (q ++ r))
    ∙ take-append_seam q r)

prefix_last : (p q r t : List ℕ) → take (length (p ++ (q ++ r))) t ≡ p ++ (q ++ r) → part t (length p + length q) (length p + length q + length r) ≡ r
prefix_last p q r t h =
    let g : take (length (p ++ q ++ (r ++ []))) t ≡ p ++ q ++ (r ++ []) = rw (append-nil r, append_assoc p q r) h in
    rw length-append at (prefix_part (p ++ q) r [] t g)

-- ---- nothing is held yet

pub held_none : (texts bind : List ℕ) → max_texts ≤ length texts → max_rows ≤ length bind → HoldsBindings [] texts (set (set (set bind scopes_at 1) current_at 0) parents_at 0) 0
unfolding texts_of rows_of values_in
held_none texts bind t b =
    record {
      rows =
          record {
            counted = refl;
            few = omega arith;
            names = tt;
            values = omega arith;
            texts_long = t;
            bind_long = simp length-set b;
            texts_held = refl;
            bind_held = refl;
          };
      index = nothing_indexed;
      scopes = scopes_begun bind b;
    }

-- Lists that agree from one place on agree from any later one.
beyond : (l m : List ℕ) (a b : ℕ) → a ≤ b → drop a l ≡ drop a m → drop b l ≡ drop b m
beyond l m a b h e =
    let z : a + (b - a) ≡ b = omega arith in
    rw (← z, ← drop-drop (b - a) a l, ← drop-drop (b - a) a m, e)

-- ---- the newest entry

module _ (e : Logged) (l : List Logged) {texts bind : List ℕ} {count : ℕ} (h : Rows (e ∷ l) texts bind count) where
  -- The texts and the rows hold every older state of the log too.
  held_before : Rows l texts bind (length l)
  unfolding texts_of rows_of values_in
  held_before =
      record {
        counted = refl;
        few = omega (arith, h.counted, h.few);
        names = h.names.1;
        values = omega (arith, h.values);
        texts_long = h.texts_long;
        bind_long = h.bind_long;
        texts_held = prefix (texts_of l) (e.name ++ e.value) texts h.texts_held;
        bind_held = prefix (rows_of l) (row_of (length (texts_of l)) e) bind h.bind_held;
      }

  in_row : (j : ℕ) → j < 3 → get_or bind (3 * length l + j) 0 ≡ get_or (row_of (length (texts_of l)) e) j 0
  unfolding rows_of row_of
  in_row j b =
      let n = length_rows l in
      let m : length (rows_of (e ∷ l)) ≡ length (rows_of l) + 3 = simp length-append in
      rw (← n)
      (sym (get_or-take (length (rows_of (e ∷ l))) bind (length (rows_of l) + j) 0 (omega arith))
      ∙ ap (λ (r : List ℕ). get_or r (length (rows_of l) + j) 0) h.bind_held
      ∙ get_or-append-add (rows_of l) (row_of (length (texts_of l)) e) j 0)

  name_end : get_or bind (3 * length l) 0 ≡ length (texts_of l) + length e.name
  unfolding row_of
  name_end = let z : 3 * length l + 0 ≡ 3 * length l = omega arith in rw z at (in_row 0 (omega arith))

  value_end : get_or bind (3 * length l + 1) 0 ≡ length (texts_of l) + length e.name + length e.value
  unfolding row_of
  value_end = in_row 1 (omega arith)

-- The next name starts where the log's texts end.
start_held : (log : List Logged) {texts bind : List ℕ} {count : ℕ} → Rows log texts bind count → entry_start bind (length log) ≡ length (texts_of log)
unfolding entry_start texts_of
start_held [] h = refl
start_held (e ∷ l) h = value_end e l h ∙ simp length-append (omega arith)

row_top : (e : Logged) (l : List Logged) {texts bind : List ℕ} {count : ℕ} → Rows (e ∷ l) texts bind count → Row e texts bind (length l)
unfolding texts_of row_of
row_top e l {texts} {bind} h =
    let s = start_held l (held_before e l h) in
    let a = name_end e l h in
    let b = value_end e l h in
    let w : length (texts_of (e ∷ l)) ≡ length (texts_of l) + (length e.name + length e.value) = simp length-append in
    let f = texts_fit h in
    record {
      within = omega (arith, h.counted, h.few, h.bind_long);
      named = omega arith;
      valued = omega arith;
      ends = omega arith;
      texts_long = h.texts_long;
      owner = in_row e l h 2 (omega arith);
      name = rw (s, a) (prefix_part (texts_of l) e.name e.value texts h.texts_held);
      value = rw (a, b) (prefix_last (texts_of l) e.name e.value texts h.texts_held);
    }

-- ---- entries by number

length_as_of : (log : List Logged) (k : ℕ) → k ≤ length log → length (as_of k log) ≡ k
unfolding as_of
length_as_of log k b = rw length-drop (omega arith)

as_of_suc : (log : List Logged) (k : ℕ) → k < length log → as_of (suc k) log ≡ entry_at k log ∷ as_of k log
unfolding as_of entry_at
as_of_suc log k b =
    let z : suc (length log - suc k) ≡ length log - k = omega arith in
    rw (← z) (drop-cons log (length log - suc k) no_entry (omega arith))

older : (log : List Logged) (k : ℕ) {texts bind : List ℕ} {count : ℕ} → Rows log texts bind count → k ≤ length log → Rows (as_of k log) texts bind k
unfolding as_of
older [] k {texts} {bind} {count} h b =
    let z : k ≡ count = omega (arith, h.counted) in
    rw (drop-nil {A = Logged} (0 - k), z) h
older (e ∷ l) k {texts} {bind} {count} h b = elim (dec_le k (length l)) [
  | yes d ↦ (let z : suc (length l) - k ≡ suc (length l - k) = omega arith in rw z (older l k (held_before e l h) d))
  | no d ↦ (let z : suc (length l) - k ≡ 0 = omega arith in let c : k ≡ count = omega (arith, h.counted) in rw (z, c) h)
]

pub row_at : (log : List Logged) (k : ℕ) {texts bind : List ℕ} {count : ℕ} → HoldsBindings log texts bind count → k < count → Row (entry_at k log) texts bind k
row_at log k {texts} {bind} {count} h b =
    let c : k < length log = omega (arith, h.rows.counted) in
    let o : Rows (entry_at k log ∷ as_of k log) texts bind (suc k) = rw (as_of_suc log k c) at (older log (suc k) h.rows c) in
    rw (length_as_of log k (omega arith)) at (row_top (entry_at k log) (as_of k log) o)

pub row_of_law : {texts bind : List ℕ} {k : ℕ} (h : HasEntry texts bind k) → Row (entry_at k h.log) texts bind k
row_of_law {texts} {bind} {k} h = row_at h.log k h.held h.below

pub start_later : (bind : List ℕ) (k : ℕ) → (k ≡ 0 → ⊥) → get_or bind (3 * k - 2) 0 ≡ entry_start bind k
unfolding entry_start
start_later bind zero h = absurd (h refl)
start_later bind (suc k) h = let z : 3 * suc k - 2 ≡ 3 * k + 1 = omega arith in rw z

-- ---- an entry more

-- three numbers stored one after another
stored : (l p : List ℕ) (i a b c : ℕ) → i + 2 < length l → take i l ≡ p → take (i + 3) (set (set (set l i a) (i + 1) b) (i + 2) c) ≡ p ++ (a ∷ b ∷ c ∷ [])
stored l p i a b c h e =
    let x : i + 3 ≡ suc (i + 2) = omega arith in
    let y : i + 2 ≡ suc (i + 1) = omega arith in
    let z : i + 1 ≡ suc i = omega arith in
    rw (x, take-suc-set (set (set l i a) (i + 1) b) (i + 2) c (simp length-set h))
    (ap (λ (k : ℕ). take k (set (set l i a) (i + 1) b) ++ (c ∷ [])) y
    ∙ rw (take-suc-set (set l i a) (i + 1) b (simp length-set (omega arith)))
    (ap (λ (k : ℕ). take k (set l i a) ++ (b ∷ []) ++ (c ∷ [])) z
    ∙ rw (take-suc-set l i a (omega arith), e) (simp append_assoc)))

-- two texts copied one after the other
copied : (l p a b : List ℕ) (i m : ℕ) → m ≡ i + length a → m + length b ≤ length l → take i l ≡ p
    → take (m + length b) (paste (paste l i a (length a)) m b (length b)) ≡ p ++ (a ++ b)
copied l p a b i m q h e =
    let n : length (paste l i a (length a)) ≡ length l = length-paste l i a (length a) (omega arith) (omega arith) in
    take-paste (paste l i a (length a)) m b (length b) (omega arith) (omega arith)
    ∙ rw (q, take-paste l i a (length a) (omega arith) (omega arith), e, take-length a, take-length b) (append_assoc p a b)

length_copied : (l a b : List ℕ) (i m : ℕ) → m ≡ i + length a → m + length b ≤ length l
    → length (paste (paste l i a (length a)) m b (length b)) ≡ length l
length_copied l a b i m q h =
    let n : length (paste l i a (length a)) ≡ length l = length-paste l i a (length a) (omega arith) (omega arith) in
    length-paste (paste l i a (length a)) m b (length b) (omega arith) (omega arith) ∙ n

module _ {log : List Logged} {texts bind : List ℕ} {count : ℕ} (e : Logged) (r : RowRoom log texts bind count e) where
  room_start : entry_start bind count ≡ length (texts_of log)
  room_start = rw r.held.rows.counted (start_held log r.held.rows)

  -- The entry's name ends at m and its value at t.
  module _ (m t : ℕ) (hm : m ≡ entry_start bind count + length e.name) (ht : t ≡ m + length e.value) where
    pub room_fits : t ≤ max_texts
    room_fits = omega (arith, room_start, length_texts log r.held.rows.names, r.held.rows.counted, r.few, r.name, r.value)

    rows_pushed : Rows (e ∷ log)
        (paste (paste texts (entry_start bind count) e.name (length e.name)) m e.value (length e.value))
        (set (set (set bind (3 * count) m) (3 * count + 1) t) (3 * count + 2) e.owner)
        (count + 1)
    unfolding texts_of rows_of row_of values_in
    rows_pushed =
        let f = room_fits in
        let s = room_start in
        let n : length (texts_of (e ∷ log)) ≡ m + length e.value = simp length-append (omega arith) in
        let w : m + length e.value ≤ length texts = omega (arith, r.held.rows.texts_long) in
        let x : length (texts_of log) + length e.name ≡ m = omega arith in
        let y : m + length e.value ≡ t = omega arith in
        let j : length (rows_of log) ≡ 3 * count = omega (arith, length_rows log, r.held.rows.counted) in
        let k : length (rows_of (e ∷ log)) ≡ 3 * count + 3 = simp length-append (omega (arith, length_rows log, r.held.rows.counted)) in
        record {
          counted = omega (arith, r.held.rows.counted);
          few = omega (arith, r.few);
          names = (r.name, r.held.rows.names);
          values = r.value;
          texts_long = rw (length_copied texts e.name e.value (entry_start bind count) m hm w) r.held.rows.texts_long;
          bind_long = simp length-set r.held.rows.bind_long;
          texts_held = rw n (copied texts (texts_of log) e.name e.value (entry_start bind count) m hm w (rw s r.held.rows.texts_held));
          bind_held =
              rw (k, x, y)
              (stored bind (rows_of log) (3 * count) m t e.owner (omega (arith, r.few, r.held.rows.bind_long)) (rw (← j) r.held.rows.bind_held));
        }

-- Behind the rows nothing changes.
pub pushed : {texts bind : List ℕ} {count : ℕ} (e : Logged) → HasRowRoom texts bind count e → (m t : ℕ) → m ≡ entry_start bind count + length e.name → t ≡ m + length e.value
    → Pushed texts bind count e
    (paste (paste texts (entry_start bind count) e.name (length e.name)) m e.value (length e.value))
    (set (set (set bind (3 * count) m) (3 * count + 1) t) (3 * count + 2) e.owner)
pushed {bind = bind} {count = count} e h m t hm ht =
    let f : count < max_entries = h.room.few in
    record {
      long = simp length-set;
      rows = λ log r. rows_pushed e r m t hm ht;
      behind =
          drop-set-lt rows_end (set (set bind (3 * count) m) (3 * count + 1) t) (3 * count + 2) e.owner (omega arith)
          ∙ drop-set-lt rows_end (set bind (3 * count) m) (3 * count + 1) t (omega arith)
          ∙ drop-set-lt rows_end bind (3 * count) m (omega arith);
    }

-- ---- the index of an entry more

-- Buffers that agree in front of the index hold the same rows.
pub rows_kept : {log : List Logged} {texts bind bind' : List ℕ} {count : ℕ} → Rows log texts bind count → length bind' ≡ length bind → take rows_end bind' ≡ take rows_end bind → Rows log texts bind' count
rows_kept {log} {bind = bind} {bind' = bind'} h l e =
    let n : length (rows_of log) ≤ rows_end = omega (arith, length_rows log, h.counted, h.few) in
    record {
      counted = h.counted;
      few = h.few;
      names = h.names;
      values = h.values;
      texts_long = h.texts_long;
      bind_long = rw l h.bind_long;
      texts_held = h.texts_held;
      bind_held = sym (take-take (length (rows_of log)) rows_end bind' n) ∙ ap (take (length (rows_of log))) e ∙ take-take (length (rows_of log)) rows_end bind n ∙ h.bind_held;
    }

-- The rows are those of one entry more, and behind them the index was lent and comes back as m with that entry's number put in.
module _ {log : List Logged} {texts bind : List ℕ} {count : ℕ} {e : Logged} (r : RowRoom log texts bind count e)
    {p : ℕ} (place : PlaceOf texts bind count e.owner e.name p) {texts' bind' : List ℕ} (w : Pushed texts bind count e texts' bind')
    {m : List ℕ} (x : Shifted (part bind' rows_end (length bind')) count p count m) where
  abbrev back : List ℕ
  back = take rows_end bind' ++ (m ++ drop (length bind' - rows_end) (drop rows_end bind'))

  roomy : max_rows ≤ length bind'
  roomy = rw w.long r.held.rows.bind_long

  long_back : length m ≡ length bind' - rows_end
  long_back = x.long ∙ simp (length-take, length-drop) (omega (arith, roomy))

  length_back : length back ≡ length bind'
  length_back = simp (length-append, length-take, length-drop) (omega (arith, roomy, long_back))

  front_back : take rows_end back ≡ take rows_end bind'
  front_back = take_at (take rows_end bind') (m ++ drop (length bind' - rows_end) (drop rows_end bind')) rows_end (length-take-le rows_end bind' (omega (arith, roomy)))

  index_back : index_in back (count + 1) ≡ inserted (index_in bind count) p (length log)
  index_back =
      ap (take (count + 1)) (drop_at (take rows_end bind') (m ++ drop (length bind' - rows_end) (drop rows_end bind')) rows_end (length-take-le rows_end bind' (omega (arith, roomy))))
      ∙ take-append-le (count + 1) m (drop (length bind' - rows_end) (drop rows_end bind')) (omega (arith, roomy, long_back, r.few))
      ∙ x.entries
      ∙ ap (λ (l : List ℕ). inserted (take count l) p count) (part_to_end bind' rows_end ∙ w.behind)
      ∙ ap (inserted (index_in bind count) p) r.held.rows.counted

  -- What lies from the scopes on stays.
  scopes_back : drop scopes_at back ≡ drop scopes_at bind
  scopes_back =
      let end : drop (length bind' - rows_end) (drop rows_end bind') ≡ [] = drop_of_length-le (drop rows_end bind') {i = length bind' - rows_end} (simp length-drop (omega arith)) in
      sym (drop-drop max_entries rows_end back)
      ∙ ap (drop max_entries)
      (drop_at (take rows_end bind') (m ++ drop (length bind' - rows_end) (drop rows_end bind')) rows_end (length-take-le rows_end bind' (omega (arith, roomy)))
      ∙ ap (λ (r : List ℕ). m ++ r) end
      ∙ append-nil m)
      ∙ beyond m (part bind' rows_end (length bind')) (count + 1) max_entries (omega (arith, r.few)) x.beyond
      ∙ ap (drop max_entries) (part_to_end bind' rows_end ∙ w.behind)
      ∙ drop-drop max_entries rows_end bind

  rows_back : Rows (e ∷ log) texts' back (count + 1)
  rows_back = rows_kept (w.rows log r) length_back front_back

  indexed_back : Indexed (e ∷ log) (index_in back (count + 1))
  indexed_back = rw index_back (indexed_more e log r.held.index (place.between log r.held))

pub added : {texts bind : List ℕ} {count : ℕ} {e : Logged} → HasRowRoom texts bind count e → {p : ℕ} → PlaceOf texts bind count e.owner e.name p
    → {texts' bind' : List ℕ} → Pushed texts bind count e texts' bind' → {m : List ℕ} → Shifted (part bind' rows_end (length bind')) count p count m
    → Added texts bind count e texts' (take rows_end bind' ++ (m ++ drop (length bind' - rows_end) (drop rows_end bind')))
added h place w x =
    record {
      rows = λ log r. rows_back r place w x;
      index = λ log r. indexed_back r place w x;
      behind = scopes_back h.room place w x;
    }

-- ---- an entry more that is no mark

pub entry_row : {log : List Logged} {texts bind : List ℕ} {count : ℕ} {e : Logged} → EntryRoom log texts bind count e → RowRoom log texts bind count e
entry_row r = record { held = r.held; few = r.few; owner = r.owner; name = r.name; value = r.value }

pub entry_held : {log : List Logged} {texts bind : List ℕ} {count : ℕ} {e : Logged} → EntryRoom log texts bind count e → {texts' bind' : List ℕ} → Added texts bind count e texts' bind'
    → HoldsBindings (e ∷ log) texts' bind' (count + 1)
entry_held {log} {e = e} r w =
    record {
      rows = w.rows log (entry_row r);
      index = w.index log (entry_row r);
      scopes = rw (scoping_other e log r.binds) (scopes_kept r.held.scopes w.behind);
    }
