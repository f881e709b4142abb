-- Orders, least lists and circles of the wanted steps, given what stands before what (document 01, "Needed and stale" and row 14).
use Rattle.std.specs.Prelude.{◌≡◌, refl, ◌⊎◌, List, ℕ, zero, suc, ◌≤◌, ◌<◌, length, get_or, take}
use Rattle.std.proofs.Common.{sym, ◌∙◌, inl, inr, le_antisymm, arith, take-suc, take_all}
use Rattle.std.proofs.Math.Numerals.{lt_of_le_of_ne}
use Rattle.std.proofs.Math.Decide.{dec_lt, ℕ_discrete}
use Rattle.std.proofs.Math.Seq.{take-length}
use Rattle.lists.specs.Members.{◌∈◌, ◌∉◌, Each, Once, in_at, place, place_before, once_length}

-- "An order of steps is a list with each of them once and no others."
pub record Lists (Want : ℕ → Type 0) (l : List ℕ) : Type 0 where
  pub each : (s : ℕ) → Want s → s ∈ l
  pub once : Once l
  pub no_others : (s : ℕ) → s ∈ l → Want s

-- those of them that stand before s are listed
abbrev pub ComesAfter : (ℕ → Type 0) → (ℕ → ℕ → Type 0) → List ℕ → ℕ → Type 0
ComesAfter Want Before l s = (m : ℕ) → Before m s → Want m → m ∈ l

-- an "order of the needed steps [that] has each one after the makers of all its inputs"
pub record IsOrder (Want : ℕ → Type 0) (Before : ℕ → ℕ → Type 0) (l : List ℕ) : Type 0 where
  pub lists : Lists Want l
  pub after : Each (ComesAfter Want Before) l

-- one "of them not yet listed whose [steps before it] are all listed"
pub record Ready (Want : ℕ → Type 0) (Before : ℕ → ℕ → Type 0) (l : List ℕ) (s : ℕ) : Type 0 where
  pub wanted : Want s
  pub new : s ∉ l
  pub after : ComesAfter Want Before l s

pub record Lowest (Want : ℕ → Type 0) (Before : ℕ → ℕ → Type 0) (l : List ℕ) (s : ℕ) : Type 0 where
  pub ready : Ready Want Before l s
  pub least : (t : ℕ) → Ready Want Before l t → s ≤ t

-- "At each place stands the lowest-numbered of them not yet listed whose [steps before it] are all listed."
pub record IsLeast (Want : ℕ → Type 0) (Before : ℕ → ℕ → Type 0) (l : List ℕ) : Type 0 where
  pub lists : Lists Want l
  pub lowest : Each (Lowest Want Before) l

-- "the circle's steps, one or more needed ones, each having an input, of any kind, made by the next, the last by the first, none twice"
pub record IsCircle (Want : ℕ → Type 0) (Before : ℕ → ℕ → Type 0) (c : List ℕ) : Type 0 where
  pub one_or_more : 0 < length c
  pub wanted : (s : ℕ) → s ∈ c → Want s
  pub next : (i : ℕ) → suc i < length c → Before (get_or c (suc i) 0) (get_or c i 0)
  pub last : (i : ℕ) → suc i ≡ length c → Before (get_or c 0 0) (get_or c i 0)
  pub once : Once c

-- a set of wanted steps, each with one of the set before it
abbrev pub Trap : (ℕ → Type 0) → (ℕ → ℕ → Type 0) → (ℕ → Type 0) → Type 0
Trap Want Before C = (s : ℕ) → C s → (m : ℕ) × Before m s × Want m × C m

-- no entry of a list is in a set of which each entry has an earlier one
pub no_descent : (C : ℕ → Type 0) (l : List ℕ) → ((i : ℕ) → i < length l → C (get_or l i 0) → (m : ℕ) × (m ∈ take i l) × C m) → {s : ℕ} → s ∈ l → C s → ⊥
no_descent C l down h c = let (i, b, e) = place h in go (suc i) i (omega arith) b (rw e c)
  where
    go : (n i : ℕ) → i < n → i < length l → C (get_or l i 0) → ⊥
    go zero i a b d = omega arith
    go (suc n) i a b d = let (m, k, f) = down i b d in let (j, p, q, e) = place_before i l k in go n j (omega arith) q (rw e f)

pub lists_length : {Want : ℕ → Type 0} {l r : List ℕ} → Lists Want l → Lists Want r → length l ≡ length r
lists_length {l} {r} a b =
    le_antisymm (once_length l r a.once (λ s h. b.each s (a.no_others s h))) (once_length r l b.once (λ s h. a.each s (b.no_others s h)))

module _ {Want : ℕ → Type 0} {Before : ℕ → ℕ → Type 0} where
  pub order_ready : {l : List ℕ} → IsOrder Want Before l → Each (Ready Want Before) l
  order_ready {l} o i b = record { wanted = o.lists.no_others (get_or l i 0) (in_at l i b); new = o.lists.once i b; after = o.after i b }

  pub ready_order : (l : List ℕ) → ((s : ℕ) → Want s → s ∈ l) → Each (Ready Want Before) l → IsOrder Want Before l
  ready_order l f r = record {
    lists = record { each = f; once = λ i b. (r i b).new; no_others = λ s h. (let (i, b, e) = place h in rw e at (r i b).wanted) };
    after = λ i b. (r i b).after;
  }

  pub least_order : {l : List ℕ} → IsLeast Want Before l → IsOrder Want Before l
  least_order o = record { lists = o.lists; after = λ i b. (o.lowest i b).ready.after }

  pub lowest_least : (l : List ℕ) → ((s : ℕ) → Want s → s ∈ l) → Each (Lowest Want Before) l → IsLeast Want Before l
  lowest_least l f r = record { lists = (ready_order l f (λ i b. (r i b).ready)).lists; lowest = r }

  pub trap_no_order : {C : ℕ → Type 0} → Trap Want Before C → {s : ℕ} → Want s → C s → {l : List ℕ} → ¬ IsOrder Want Before l
  trap_no_order {C} t {s} w c {l} o =
      no_descent C l (λ i b d. let (m, k, v, f) = t (get_or l i 0) d in (m, o.after i b m k v, f)) (o.lists.each s w) c

  pub circle_trap : {c : List ℕ} → IsCircle Want Before c → Trap Want Before (λ s. s ∈ c)
  circle_trap {c} o s h =
      let (i, b, e) = place h in
      elim (dec_lt (suc i) (length c)) [
        | yes d ↦ (let k = in_at c (suc i) d in (get_or c (suc i) 0, rw e at (o.next i d), o.wanted (get_or c (suc i) 0) k, k))
        | no d ↦ (let k = in_at c 0 (omega arith) in (get_or c 0 0, rw e at (o.last i (omega arith)), o.wanted (get_or c 0 0) k, k))
      ]

  pub order_no_circle : {l c : List ℕ} → IsOrder Want Before l → ¬ IsCircle Want Before c
  order_no_circle {l} {c} o r = let k = in_at c 0 r.one_or_more in trap_no_order (circle_trap r) (r.wanted (get_or c 0 0) k) k o

  -- where a least list and another order begin alike, the least list's next entry is no higher
  pub least_le : {l r : List ℕ} → IsLeast Want Before l → IsOrder Want Before r → (i : ℕ) → i < length l → take i l ≡ take i r → get_or l i 0 ≤ get_or r i 0
  least_le {l} {r} o p i b e = (o.lowest i b).least (get_or r i 0) (rw e (order_ready p i (rw (lists_length p.lists o.lists) b)))

  -- at the first place where another order differs from the least list it has the higher number
  pub first_difference : {l r : List ℕ} → IsLeast Want Before l → IsOrder Want Before r
      → (l ≡ r) ⊎ ((i : ℕ) × (i < length l) × (take i l ≡ take i r) × (get_or l i 0 < get_or r i 0))
  first_difference {l} {r} o p = elim (go (length l) (omega arith)) [ inl e ↦ inl (sym (take-length l) ∙ e ∙ take_all (length l) r (omega (arith, same))) | inr d ↦ inr d ]
    where
      same : length l ≡ length r
      same = lists_length o.lists p.lists

      go : (n : ℕ) → n ≤ length l → (take n l ≡ take n r) ⊎ ((i : ℕ) × (i < length l) × (take i l ≡ take i r) × (get_or l i 0 < get_or r i 0))
      go zero b = inl refl
      go (suc n) b = elim (go n (omega arith)) [
        | inl e ↦ elim (ℕ_discrete (get_or l n 0) (get_or r n 0)) [
          | yes q ↦ inl (take-suc l n 0 b ∙ (rw (e, q)) ∙ sym (take-suc r n 0 (omega (arith, same))))
          | no d ↦ inr (n, b, e, lt_of_le_of_ne (least_le o p n b e) d)
        ]
        | inr d ↦ inr d
      ]

  -- two lists with the lowest at each place begin alike
  lowest_same : (l r : List ℕ) → Each (Lowest Want Before) l → Each (Lowest Want Before) r → (n : ℕ) → n ≤ length l → n ≤ length r → take n l ≡ take n r
  lowest_same l r f g zero b c = refl
  lowest_same l r f g (suc n) b c =
      let e : take n l ≡ take n r = lowest_same l r f g n (omega arith) (omega arith) in
      let q : get_or l n 0 ≡ get_or r n 0 = le_antisymm ((f n b).least (get_or r n 0) (rw e (g n c).ready)) ((g n c).least (get_or l n 0) (rw (← e) (f n b).ready)) in
      take-suc l n 0 b ∙ (rw (e, q)) ∙ sym (take-suc r n 0 c)

  lowest_longest : (l r : List ℕ) → Each (Lowest Want Before) l → Each (Lowest Want Before) r → ((s : ℕ) → ¬ Ready Want Before l s) → length r ≤ length l
  lowest_longest l r f g n = elim (dec_lt (length l) (length r)) [
    | yes b ↦ absurd (n (get_or r (length l) 0)
        (rw (← lowest_same l r f g (length l) (omega arith) (omega arith), take-length l) at (g (length l) b).ready))
    | no b ↦ omega arith
  ]

  -- a list with the lowest at each place, after which nothing is ready, is the only one
  pub lowest_unique : (l r : List ℕ) → Each (Lowest Want Before) l → ((s : ℕ) → ¬ Ready Want Before l s)
      → Each (Lowest Want Before) r → ((s : ℕ) → ¬ Ready Want Before r s) → l ≡ r
  lowest_unique l r f m g n =
      let a : length r ≤ length l = lowest_longest l r f g m in
      let b : length l ≤ length r = lowest_longest r l g f n in
      sym (take-length l) ∙ lowest_same l r f g (length l) (omega arith) b ∙ take_all (length l) r a

  pub least_end : {l : List ℕ} → IsLeast Want Before l → (s : ℕ) → ¬ Ready Want Before l s
  least_end o s r = r.new (o.lists.each s r.wanted)

  pub least_unique : {l r : List ℕ} → IsLeast Want Before l → IsLeast Want Before r → l ≡ r
  least_unique {l} {r} o p = lowest_unique l r o.lowest (least_end o) p.lowest (least_end p)
