-- A circle, computed where `greedy` stops short: from a step that it lacks to one before it that it lacks too, until one comes again.
use Rattle.std.specs.Prelude.{◌≡◌, refl, true, false, not, cond, eqb, get_or, drop}
use Rattle.std.proofs.Common.{sym, add-zero, add-suc, arith, length-drop, get_or-drop, eqb-true}
use Rattle.std.proofs.Math.Logic.{inl, inr}
use Rattle.std.proofs.Math.Option.{Option, none, some}
use mathlib.Core.List.{List, [], ◌∷◌, ◌++◌}
use Prim.Native.Nat.{ℕ, zero, suc, ◌+◌, ◌≤◌, ◌<◌}
use Rattle.std.proofs.Math.Decide.{dec_lt}
use Rattle.std.proofs.Math.ListN.{length, length-append, get_or-append}
use Rattle.std.proofs.Math.Seq.{get_or-append_seam}
use Rattle.std.proofs.lemmas.Bool.{eqb-false, not-true, not-false}
use Rattle.lists.specs.Members.{◌∈◌, ◌∉◌, Once, has, find, in_cons, in_snoc, in_drop, not_in_nil, has_true, has_false, find_some, find_none, each_nil, each_snoc, once_drop, once_length}
use Rattle.lists.specs.Tests.{split}
use Rattle.orders.specs.Order.{IsCircle, order_no_circle}
use Rattle.orders.specs.Greedy.{In, By, greedy, covers, whole, or_zero, blocker}
use Rattle.orders.specs.GreedyLaws.{Lacking, covers_false, blocked, whole_order}

-- l from its first x on
unfoldable pub from : ℕ → List ℕ → List ℕ
from x [] = []
from x (y ∷ l) = let r = from x l in cond (eqb x y) (y ∷ l) r

-- the trail that goes on from s by f until a step comes again, from that step on
unfoldable pub chase : (ℕ → ℕ) → ℕ → List ℕ → ℕ → List ℕ
chase f zero trail s = []
chase f (suc k) trail s = let r = chase f k (trail ++ (s ∷ [])) (f s) in cond (has s trail) (from s trail) r

unfoldable pub missing : List ℕ → List ℕ → ℕ
missing want l = or_zero (find (λ s. not (has s l)) want)

unfoldable pub circle_from : List ℕ → (ℕ → List ℕ) → List ℕ → List ℕ
circle_from want before l = chase (blocker want before l) (suc (length want)) [] (missing want l)

unfoldable pub circle_of : List ℕ → (ℕ → List ℕ) → List ℕ
unfolding has find greedy or_zero from chase blocker missing circle_from
circle_of want before = circle_from want before (greedy want before)

-- each entry of l has the next before it
abbrev pub Linked : (ℕ → ℕ → Type 0) → List ℕ → Type 0
Linked Before l = (i : ℕ) → suc i < length l → Before (get_or l (suc i) 0) (get_or l i 0)

pub linked_init : (Before : ℕ → ℕ → Type 0) (l r : List ℕ) → Linked Before (l ++ r) → Linked Before l
linked_init Before l r f i b =
    rw (get_or-append l r 0 (suc i) b, get_or-append l r 0 i (omega arith)) at (f i (omega (arith, length-append l r)))

pub linked_last : (Before : ℕ → ℕ → Type 0) (l : List ℕ) (s i : ℕ) → Linked Before (l ++ (s ∷ [])) → suc i ≡ length l → Before s (get_or l i 0)
linked_last Before l s i f e =
    rw (e, get_or-append_seam l s [] 0, get_or-append l (s ∷ []) 0 i (omega arith)) at (f i (omega (arith, length-append l (s ∷ []))))

pub linked_snoc : (Before : ℕ → ℕ → Type 0) (l : List ℕ) (m : ℕ) → Linked Before l → ((i : ℕ) → suc i ≡ length l → Before m (get_or l i 0)) → Linked Before (l ++ (m ∷ []))
linked_snoc Before l m f g i b = elim (dec_lt (suc i) (length l)) [
  | yes d ↦ rw (get_or-append l (m ∷ []) 0 (suc i) d, get_or-append l (m ∷ []) 0 i (omega arith)) (f i d)
  | no d ↦ (
      let e : suc i ≡ length l = omega (arith, length-append l (m ∷ [])) in
      rw (get_or-append l (m ∷ []) 0 i (omega arith), e, get_or-append_seam l m [] 0) (g i e)
      )
]

pub from_drop : (s : ℕ) (l : List ℕ) → s ∈ l → (j : ℕ) × (j < length l) × (get_or l j 0 ≡ s) × (from s l ≡ drop j l)
unfolding from
from_drop s (y ∷ l) h =
    split (eqb s y)
    (λ (a : eqb s y ≡ true). (0, omega arith, sym (eqb-true s y a), rw (a, from)))
    (λ (b : eqb s y ≡ false). elim (in_cons h) [
      | inl q ↦ absurd (eqb-false s y b q)
      | inr k ↦ (let (j, c, e, g) = from_drop s l k in (suc j, omega arith, e, rw (b, from) g))
    ])
from_drop s [] h = elim h [ ]

module _ {Want : ℕ → Type 0} {Before : ℕ → ℕ → Type 0} where
  pub drop_circle : (l : List ℕ) (s j : ℕ) → Once l → ((t : ℕ) → t ∈ l → Want t) → Linked Before (l ++ (s ∷ [])) → j < length l → get_or l j 0 ≡ s
      → IsCircle Want Before (drop j l)
  drop_circle l s j o w f b e = record {
    one_or_more = omega (arith, length-drop j l);
    wanted = λ t h. w t (in_drop j l h);
    next = λ i c. rw (get_or-drop j l (suc i) 0, get_or-drop j l i 0, add-suc j i)
        (linked_init Before l (s ∷ []) f (j + i) (omega (arith, length-drop j l)));
    last = λ i c. rw (get_or-drop j l 0 0, get_or-drop j l i 0, add-zero j, e) (linked_last Before l s (j + i) f (omega (arith, length-drop j l)));
    once = once_drop l j o;
  }

  pub chase_circle : (C : ℕ → Type 0) (f : ℕ → ℕ) (n : ℕ) → ((s : ℕ) → C s → Before (f s) s × C (f s)) → ((s : ℕ) → C s → Want s)
      → ((l : List ℕ) → Once l → ((s : ℕ) → s ∈ l → C s) → length l ≤ n)
      → (k : ℕ) (l : List ℕ) (s : ℕ) → Once l → ((t : ℕ) → t ∈ l → C t) → C s → Linked Before (l ++ (s ∷ [])) → length l + k ≡ suc n
      → IsCircle Want Before (chase f k l s)
  unfolding chase
  chase_circle C f n go w most zero l s o a c g e = absurd (omega (arith, most l o a))
  chase_circle C f n go w most (suc k) l s o a c g e =
      split (has s l)
      (λ (h : has s l ≡ true). let (j, b, q, r) = from_drop s l (has_true s l h) in rw (h, chase, r) (drop_circle l s j o (λ t i. w t (a t i)) g b q))
      (λ (h : has s l ≡ false). rw (h, chase) (chase_circle C f n go w most k (l ++ (s ∷ [])) (f s)
      (each_snoc (λ earlier x. x ∉ earlier) l s o (has_false s l h))
      (λ t i. elim (in_snoc l i) [ inl b ↦ a t b | inr q ↦ rw q c ])
      (go s c).1
      (linked_snoc Before (l ++ (s ∷ [])) (f s) g (λ i q. let r : i ≡ length l = omega (arith, length-append l (s ∷ [])) in rw (r, get_or-append_seam l s [] 0) (go s c).0))
      (omega (arith, length-append l (s ∷ [])))))

pub missing_lacks : (want l : List ℕ) → covers l want ≡ false → Lacking want l (missing want l)
unfolding missing or_zero
missing_lacks want l e = go (find (λ s. not (has s l)) want) refl
  where
    go : (o : Option ℕ) → find (λ s. not (has s l)) want ≡ o → Lacking want l (or_zero o)
    go none f =
        let (s, c) = covers_false l want e in
        absurd (c.1 (has_true s l (not-false (has s l) (find_none (λ s. not (has s l)) want f c.0))))
    go (some s) f = let (h, g) = find_some (λ s. not (has s l)) want f in (h, has_false s l (not-true (has s l) g))

module _ (want : List ℕ) (before : ℕ → List ℕ) where
  pub not_whole_circle : whole want before ≡ false → IsCircle (In want) (By before) (circle_of want before)
  unfolding whole circle_of circle_from
  not_whole_circle e =
      let l : List ℕ = greedy want before in
      chase_circle (Lacking want l) (blocker want before l) (length want) (blocked want before) (λ s c. c.0)
      (λ r o a. once_length r want o (λ s h. (a s h).0)) (suc (length want)) [] (missing want l) (each_nil (λ earlier x. x ∉ earlier))
      (λ t h. absurd (not_in_nil h)) (missing_lacks want l e) (λ i b. absurd (omega arith)) (omega arith)

  pub circle_not_whole : {c : List ℕ} → IsCircle (In want) (By before) c → whole want before ≡ false
  circle_not_whole o = split (whole want before) (λ (e : whole want before ≡ true). absurd (order_no_circle (whole_order want before e) o)) (λ (e : whole want before ≡ false). e)
