-- A store at the end of a column lengthens it, one within it changes its entry, and neither touches another column.
use Prim.Native.Nat.{ℕ, zero, suc, ◌+◌, ◌-◌, ◌≤◌, ◌<◌}
use native.Mathlib.Omega.{arith}
use mathlib.Core.Path.{◌≡◌, sym, ap, ◌∙◌}
use mathlib.Core.List.{List, [], ◌∷◌, ◌++◌}
use lib.ListN.{length, take, drop, get_or, set, length-set, length-append, length-drop}
use lib.Seq.{take-take, take-set-le, take-set-lt, drop-set-lt, drop-set-add, take-suc-set, get_or-take, get_or-drop, drop-drop}
use Rattle.lists.specs.Parts.{part, drop_take}
use Rattle.arena.specs.Columns.{Lies, start_of, column}

-- a column within its list
pub record Column (ns a : List ℕ) (xs : List (List ℕ)) (c : ℕ) : Type 0 where
  pub fits : length (column xs c) ≤ get_or ns c 0
  pub within : start_of ns c + get_or ns c 0 ≤ length a
  pub is : take (length (column xs c)) (drop (start_of ns c) a) ≡ column xs c

pub lies_column : (ns a : List ℕ) (xs : List (List ℕ)) (c : ℕ) → Lies ns a xs → c < length xs → Column ns a xs c
unfolding Lies
lies_column [] a [] c h b = absurd (omega arith)
lies_column [] a (x ∷ xs) c h b = absurd h
lies_column (n ∷ ns) a [] c h b = absurd h
lies_column (n ∷ ns) a (x ∷ xs) zero h b = record { fits = h.0; within = omega arith; is = h.2 }
lies_column (n ∷ ns) a (x ∷ xs) (suc c) h b =
    let k = lies_column ns (drop n a) xs c h.3 (omega arith) in
    record {
      fits = k.fits;
      within = omega (arith, k.within, length-drop n a);
      is = rw (← drop-drop (start_of ns c) n a) k.is;
    }

module _ (v : ℕ) where
  pub lies_set : (ns a : List ℕ) (xs : List (List ℕ)) (c i : ℕ) → Lies ns a xs → c < length xs → i < length (column xs c)
      → Lies ns (set a (start_of ns c + i) v) (set xs c (set (column xs c) i v))
  unfolding Lies
  lies_set [] a [] c i h b l = absurd (omega arith)
  lies_set [] a (x ∷ xs) c i h b l = absurd h
  lies_set (n ∷ ns) a [] c i h b l = absurd h
  lies_set (n ∷ ns) a (x ∷ xs) zero i h b l =
      let e : 0 + i ≡ i = omega arith in (
        rw (length-set x i v) h.0,
        rw (length-set a (0 + i) v) h.1,
        rw (e, length-set x i v) (take-set-lt (length x) a i v l ∙ ap (λ (y : List ℕ). set y i v) h.2),
        rw (e, drop-set-lt n a i v (omega (arith, h.0))) h.3,
      )
  lies_set (n ∷ ns) a (x ∷ xs) (suc c) i h b l =
      let e : n + start_of ns c + i ≡ n + (start_of ns c + i) = omega arith in (
        h.0,
        rw (length-set a (n + start_of ns c + i) v) h.1,
        take-set-le (length x) a (n + start_of ns c + i) v (omega (arith, h.0)) ∙ h.2,
        rw (e, drop-set-add n a (start_of ns c + i) v) (lies_set ns (drop n a) xs c i h.3 (omega arith) l),
      )

  pub lies_push : (ns a : List ℕ) (xs : List (List ℕ)) (c : ℕ) → Lies ns a xs → c < length xs → length (column xs c) < get_or ns c 0
      → Lies ns (set a (start_of ns c + length (column xs c)) v) (set xs c (column xs c ++ (v ∷ [])))
  unfolding Lies
  lies_push [] a [] c h b l = absurd (omega arith)
  lies_push [] a (x ∷ xs) c h b l = absurd h
  lies_push (n ∷ ns) a [] c h b l = absurd h
  lies_push (n ∷ ns) a (x ∷ xs) zero h b l =
      let e : 0 + length x ≡ length x = omega arith in
      let k : length (x ++ (v ∷ [])) ≡ suc (length x) = length-append x (v ∷ []) ∙ omega arith in (
        rw k l,
        rw (length-set a (0 + length x) v) h.1,
        rw (e, k) (take-suc-set a (length x) v (omega (arith, h.1)) ∙ ap (λ (y : List ℕ). y ++ (v ∷ [])) h.2),
        rw (e, drop-set-lt n a (length x) v l) h.3,
      )
  lies_push (n ∷ ns) a (x ∷ xs) (suc c) h b l =
      let e : n + start_of ns c + length (column xs c) ≡ n + (start_of ns c + length (column xs c)) = omega arith in (
        h.0,
        rw (length-set a (n + start_of ns c + length (column xs c)) v) h.1,
        take-set-le (length x) a (n + start_of ns c + length (column xs c)) v (omega (arith, h.0)) ∙ h.2,
        rw (e, drop-set-add n a (start_of ns c + length (column xs c)) v) (lies_push ns (drop n a) xs c h.3 (omega arith) l),
      )

-- an entry of a column, and the part of the list that it is
module _ (ns a : List ℕ) (xs : List (List ℕ)) (c : ℕ) (h : Lies ns a xs) (b : c < length xs) where
  pub lies_read : (i : ℕ) → i < length (column xs c) → get_or a (start_of ns c + i) 0 ≡ get_or (column xs c) i 0
  lies_read i l =
      sym (get_or-drop (start_of ns c) a i 0) ∙ sym (get_or-take (length (column xs c)) (drop (start_of ns c) a) i 0 l) ∙ ap (λ (y : List ℕ). get_or y i 0) (lies_column ns a xs c h b).is

  pub lies_part : part a (start_of ns c) (start_of ns c + length (column xs c)) ≡ column xs c
  lies_part =
      let e : start_of ns c + length (column xs c) - start_of ns c ≡ length (column xs c) = omega arith in
      rw e (lies_column ns a xs c h b).is

-- What lies behind the last region is no part of any column.
pub lies_kept : (ns a b : List ℕ) (xs : List (List ℕ)) → Lies ns a xs → length b ≡ length a → take (start_of ns (length ns)) b ≡ take (start_of ns (length ns)) a → Lies ns b xs
unfolding Lies
lies_kept [] a b [] h l e = tt
lies_kept [] a b (x ∷ xs) h l e = absurd h
lies_kept (n ∷ ns) a b [] h l e = absurd h
lies_kept (n ∷ ns) a b (x ∷ xs) h l e =
    let m = start_of ns (length ns) in
    let z : n + m - n ≡ m = omega arith in
    let front : take (length x) b ≡ take (length x) a =
    sym (take-take (length x) (n + m) b (omega (arith, h.0)))
    ∙ ap (take (length x)) e
    ∙ take-take (length x) (n + m) a (omega (arith, h.0)) in
    let back : take m (drop n b) ≡ take m (drop n a) = rw (drop_take n (n + m) b, drop_take n (n + m) a, z) at (ap (drop n) e) in (
      h.0,
      rw l h.1,
      front ∙ h.2,
      lies_kept ns (drop n a) (drop n b) xs h.3 (length-drop n b ∙ ap (λ (k : ℕ). k - n) l ∙ sym (length-drop n a)) back,
    )
