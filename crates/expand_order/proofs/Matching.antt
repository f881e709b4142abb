-- The loop that compares two expansions run by run.
use Prim.Native.Nat.{ℕ, min, ◌+◌, ◌-◌, ◌≤◌, ◌<◌}
use mathlib.Core.Bool.{true, false}
use mathlib.Core.List.{List, [], ◌++◌}
use mathlib.Core.Path.{◌≡◌, refl, sym, ◌∙◌, ap}
use native.Mathlib.Decide.{dec_lt}
use native.Mathlib.Nat.{le_refl, lt_of_lt_of_le}
use native.Mathlib.Omega.{arith}
use borrow.Author.Tests.{lt-ltb, le-ltb}
use lib.ListN.{length, drop, length-append, drop_of_length-le}
use Rattle.lists.specs.Tests.{split}
use Rattle.lists.specs.Bytes.{less_prefix}
use Rattle.lists.specs.Order.{order_bytes, less_order, greater_order, equal_order}
use Rattle.lists.specs.Parts.{drop_part}
use Rattle.std.specs.declared.cmp.Ordering as order
use Rattle.hold_bindings.specs.Log.{Logged}
use Rattle.hold_bindings.specs.Held.{HoldsBindings}
use Rattle.expand_parts.specs.declared.Run.{Run}
use Rattle.expand_order.specs.declared.Ahead.{Ahead}
use Rattle.expand_order.specs.declared.Ahead.TheVariants.{Less, Greater, Both}
use Rattle.expand_parts.specs.Runs.{expanded_by, bytes_of, RunPlaced, left_of, ExpandReady, Going, most, Filled}
use Rattle.expand_order.specs.Ahead.{Agree, FrontsCompared, order_lengths}
use Rattle.expand_order.proofs.Agreeing.{order_fronts}
use Rattle.expand_parts.proofs.Begin.{own, own_placed}
use Rattle.expand_parts.proofs.Expansions.{length_bytes, expanded_none}
use Rattle.expand_parts.proofs.Filling.{left_none}

pub record Matching (t a b texts bind : List ℕ) (count : ℕ) (x y : Run) : Type 0 where
  pub first : Going t a texts bind count x
  pub second : Going t b texts bind count y
  pub left : (log : List Logged) → HoldsBindings log texts bind count → order_bytes (expanded_by log a) (expanded_by log b) ≡ order_bytes (left_of log a texts x) (left_of log b texts y)

-- ---- the start

ready_going : {t raw texts bind : List ℕ} {count : ℕ} → ExpandReady t raw texts bind count 0 → Going t raw texts bind count (own 0 0 0)
ready_going {raw = raw} {texts = texts} r =
    record {
      table = r.table;
      short = r.short;
      placed = own_placed raw texts 0 0 0 (omega arith) (omega arith) (omega arith) r.sound;
      held = r.held;
    }

pub match_begin : {t a b texts bind : List ℕ} {count : ℕ} → ExpandReady t a texts bind count 0 → ExpandReady t b texts bind count 0 → Matching t a b texts bind count (own 0 0 0) (own 0 0 0)
match_begin {a = a} {b = b} {texts = texts} r s =
    record {
      first = ready_going r;
      second = ready_going s;
      left = λ log h. rw (left_none log a texts (own 0 0 0) (le_refl 0), left_none log b texts (own 0 0 0) (le_refl 0));
    }

-- ---- a run without its first n bytes

abbrev pub behind : Run → ℕ → Run
behind r n = record { bound = r.bound; from = r.from + n; to = r.to; next = r.next }

behind_placed : {raw texts : List ℕ} {r : Run} {n : ℕ} → RunPlaced raw texts r → n ≤ r.to - r.from → RunPlaced raw texts (behind r n)
behind_placed p h =
    record { ordered = omega (arith, p.ordered); in_raw = p.in_raw; in_texts = p.in_texts; within = p.within; sound = p.sound }

behind_bytes : (raw texts : List ℕ) (r : Run) (n : ℕ) → bytes_of raw texts (behind r n) ≡ drop n (bytes_of raw texts r)
unfolding bytes_of
behind_bytes raw texts r n =
    split r.bound
    (λ (e : r.bound ≡ true). rw e (sym (drop_part texts r.from r.to n)))
    (λ (e : r.bound ≡ false). rw e (sym (drop_part raw r.from r.to n)))

-- ---- a turn, from x and y to the runs p and q that have a byte or are the last

left_last : {raw texts bind : List ℕ} {count : ℕ} {r x : Run} → Filled raw texts bind count r x → x.to - x.from ≡ 0 → (log : List Logged) → left_of log raw texts x ≡ []
left_last {raw} {texts} {bind} {count} {r} {x} f e log =
    left_none log raw texts x (omega arith)
    ∙ ap (expanded_by log) (drop_of_length-le raw {i = x.next} (f.last (omega arith)))
    ∙ expanded_none log

left_is : (log : List Logged) (raw texts : List ℕ) (r : Run) → left_of log raw texts r ≡ bytes_of raw texts r ++ expanded_by log (drop r.next raw)
unfolding left_of
left_is log raw texts r = refl

left_longer : {raw texts : List ℕ} {x : Run} → RunPlaced raw texts x → (log : List Logged) → x.to - x.from ≤ length (left_of log raw texts x)
unfolding left_of
left_longer {raw} {texts} {x} p log = rw length-append (omega (arith, length_bytes p))

-- the two are compared where one of them has no byte left
module _ {i j : ℕ} {s t : List ℕ} (z : min i j ≡ 0) (p : i ≡ 0 → s ≡ []) (q : j ≡ 0 → t ≡ []) (k : i ≤ length s) (l : j ≤ length t) where
  ends : order_lengths i j ≡ order_bytes s t
  unfolding order_lengths
  ends = elim (dec_lt i j) [
    | yes h ↦
        (let e : s ≡ [] = p (omega arith) in
        rw (lt-ltb i j h, e) (sym (less_order [] t (less_prefix [] t refl (omega arith)))))
    | no h ↦ elim (dec_lt j i) [
      | yes g ↦
          (let e : t ≡ [] = q (omega arith) in
          rw (le-ltb i j (omega arith), lt-ltb j i g, e) (sym (greater_order s [] (less_prefix [] s refl (omega arith)))))
      | no g ↦ rw (le-ltb i j (omega arith), le-ltb j i (omega arith)) (sym (equal_order s t (p (omega arith) ∙ sym (q (omega arith)))))
    ]
  ]

less_behind : (k f e n : ℕ) → n ≤ e - f → (n ≡ 0 → ⊥) → k + (e - (f + n)) < k + (e - f)
less_behind k f e n h z = omega arith

module _ {t a b texts bind : List ℕ} {count : ℕ} {x y p q : Run} (m : Matching t a b texts bind count x y)
    (f : Filled a texts bind count x p) (g : Filled b texts bind count y q) where
  now_left : (log : List Logged) → HoldsBindings log texts bind count → order_bytes (expanded_by log a) (expanded_by log b) ≡ order_bytes (left_of log a texts p) (left_of log b texts q)
  now_left log h = m.left log h ∙ rw (f.left log h, g.left log h)

  module _ {r : Ahead} (c : FrontsCompared (bytes_of a texts p) (bytes_of b texts q) r) where
    pub match_lower : r ≡ Less → (log : List Logged) → HoldsBindings log texts bind count → order.TheVariants.Less ≡ order_bytes (expanded_by log a) (expanded_by log b)
    unfolding FrontsCompared
    match_lower e log h =
        let d : (s t : List ℕ) → order_bytes (bytes_of a texts p ++ s) (bytes_of b texts q ++ t) ≡ order.TheVariants.Less = rw e at c in
        sym (now_left log h ∙ rw (left_is log a texts p, left_is log b texts q) (d _ _))

    pub match_higher : r ≡ Greater → (log : List Logged) → HoldsBindings log texts bind count → order.TheVariants.Greater ≡ order_bytes (expanded_by log a) (expanded_by log b)
    unfolding FrontsCompared
    match_higher e log h =
        let d : (s t : List ℕ) → order_bytes (bytes_of a texts p ++ s) (bytes_of b texts q ++ t) ≡ order.TheVariants.Greater = rw e at c in
        sym (now_left log h ∙ rw (left_is log a texts p, left_is log b texts q) (d _ _))

    module _ {n : ℕ} (e : r ≡ Both n) where
      agreed : Agree (bytes_of a texts p) (bytes_of b texts q) n
      unfolding FrontsCompared
      agreed = rw e at c

      -- one of the two has no more bytes than n
      pub shorter : n ≡ min (p.to - p.from) (q.to - q.from)
      shorter = agreed.count ∙ rw (length_bytes f.placed, length_bytes g.placed)

      pub match_end : n ≡ 0 → {o : order.Ordering} → o ≡ order_lengths (p.to - p.from) (q.to - q.from) → (log : List Logged) → HoldsBindings log texts bind count → o ≡ order_bytes (expanded_by log a) (expanded_by log b)
      match_end z l log h =
          l
          ∙ ends (sym shorter ∙ z) (λ o. left_last f o log) (λ o. left_last g o log) (left_longer f.placed log) (left_longer g.placed log)
          ∙ sym (now_left log h)

      pub match_on : Matching t a b texts bind count (behind p n) (behind q n)
      match_on =
          let k = shorter in
          record {
            first = record { table = m.first.table; short = m.first.short; placed = behind_placed f.placed (omega arith); held = m.first.held };
            second = record { table = m.second.table; short = m.second.short; placed = behind_placed g.placed (omega arith); held = m.second.held };
            left = λ log h.
                now_left log h
                ∙ rw
                (left_is log a texts p, left_is log b texts q, left_is log a texts (behind p n), left_is log b texts (behind q n), behind_bytes a texts p n, behind_bytes b texts q n)
                (order_fronts agreed _ _);
          }

      pub match_less : (n ≡ 0 → ⊥) → most a (behind p n) < most a x
      match_less z = let k = shorter in lt_of_lt_of_le (less_behind _ p.from p.to n (omega arith) z) f.most
