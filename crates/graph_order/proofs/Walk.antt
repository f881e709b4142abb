-- A walk's turns: a step is put on the path, comes off it done, or closes a circle.
use Prim.Native.Nat.{ℕ, suc, ◌<◌}
use native.Mathlib.Decide.{ℕ_discrete}
use native.Mathlib.Omega.{arith}
use mathlib.Core.Path.{◌≡◌, refl, sym, ◌∙◌}
use mathlib.Core.Bool.{true, false}
use mathlib.Core.Logic.{inl, inr}
use mathlib.Core.List.{List, [], ◌∷◌, ◌++◌}
use lib.ListN.{length, get_or, drop, set, length-set, length-append}
use lib.Seq.{get_or-set_same, get_or-set_other}
use Rattle.lists.specs.Tests.{split}
use Rattle.lists.specs.Members.{◌∈◌, ◌∉◌, here, has, in_has, not_in_has, has_true, has_false, in_left, in_right, in_snoc, not_in_nil, each_nil, each_snoc, each_init, each_last, once_below}
use Rattle.orders.specs.Order.{IsCircle}
use Rattle.orders.specs.Greedy.{By}
use Rattle.orders.specs.Circle.{linked_init, linked_snoc, drop_circle}
use Rattle.graph_order.specs.Walk.{mark, Walk}

-- what each mark says

module _ (path done : List ℕ) (s : ℕ) where
  pub mark_two : s ∈ done → mark path done s ≡ 2
  unfolding mark
  mark_two h = rw (in_has h)

  pub mark_one : s ∉ done → s ∈ path → mark path done s ≡ 1
  unfolding mark
  mark_one d h = rw (not_in_has d, in_has h)

  pub mark_zero : s ∉ done → s ∉ path → mark path done s ≡ 0
  unfolding mark
  mark_zero d h = rw (not_in_has d, not_in_has h)

  pub two_done : mark path done s ≡ 2 → s ∈ done
  two_done e = split (has s done)
      (λ (p : has s done ≡ true). has_true s done p)
      (λ (p : has s done ≡ false). split (has s path)
      (λ (q : has s path ≡ true). let w = mark_one (has_false s done p) (has_true s path q) in absurd (omega arith))
      (λ (q : has s path ≡ false). let w = mark_zero (has_false s done p) (has_false s path q) in absurd (omega arith)))

  pub not_two : (mark path done s ≡ 2 → ⊥) → s ∉ done
  not_two d h = d (mark_two h)

  pub one_path_law : mark path done s ≡ 1 → s ∈ path
  one_path_law e = split (has s path)
      (λ (q : has s path ≡ true). has_true s path q)
      (λ (q : has s path ≡ false). split (has s done)
      (λ (p : has s done ≡ true). let w = mark_two (has_true s done p) in absurd (omega arith))
      (λ (p : has s done ≡ false). let w = mark_zero (has_false s done p) (has_false s path q) in absurd (omega arith)))

  pub not_one : s ∉ done → (mark path done s ≡ 1 → ⊥) → s ∉ path
  not_one n d h = d (mark_one n h)

has_snoc : (l : List ℕ) (x s : ℕ) → (s ≡ x → ⊥) → has s (l ++ (x ∷ [])) ≡ has s l
has_snoc l x s d = split (has s l)
    (λ (e : has s l ≡ true). rw e (in_has (in_left (x ∷ []) (has_true s l e))))
    (λ (e : has s l ≡ false). rw e (not_in_has {x = s} {l = l ++ (x ∷ [])} (λ h. elim (in_snoc l h) [ inl a ↦ has_false s l e a | inr q ↦ d q ])))

mark_same : (p q d e : List ℕ) (s : ℕ) → has s p ≡ has s q → has s d ≡ has s e → mark p d s ≡ mark q e s
unfolding mark
mark_same p q d e s a b = rw (a, b)

-- no path, and nothing done
pub walk_none : {before : ℕ → List ℕ} {n : ℕ} {Want : ℕ → Type 0} {seen : List ℕ} → length seen ≡ n → ((s : ℕ) → s < n → get_or seen s 0 ≡ 0) → Walk before n Want seen [] []
walk_none e f = record {
  long = e;
  marks = λ s b. f s b ∙ sym (mark_zero [] [] s not_in_nil not_in_nil);
  path_low = λ s h. absurd (not_in_nil h);
  path_once = each_nil (λ earlier x. x ∉ earlier);
  path_wanted = λ s h. absurd (not_in_nil h);
  linked = λ i b. absurd (omega arith);
  done_low = λ s h. absurd (not_in_nil h);
  done_once = each_nil (λ earlier x. x ∉ earlier);
  done_wanted = λ s h. absurd (not_in_nil h);
  ordered = λ i b. absurd (omega arith);
  apart = λ s h. absurd (not_in_nil h);
}

module _ {before : ℕ → List ℕ} {n : ℕ} {Want : ℕ → Type 0} {seen done : List ℕ} where
  pub walk_push : {path : List ℕ} → Walk before n Want seen path done → (m : ℕ) → m < n → Want m → m ∉ path → m ∉ done
      → ((i : ℕ) → suc i ≡ length path → m ∈ before (get_or path i 0)) → Walk before n Want (set seen m 1) (path ++ (m ∷ [])) done
  walk_push {path} w m b v np nd f = record {
    long = simp length-set w.long;
    marks = marked;
    path_low = λ s h. elim (in_snoc path h) [ inl a ↦ w.path_low s a | inr e ↦ rw e b ];
    path_once = each_snoc (λ earlier x. x ∉ earlier) path m w.path_once np;
    path_wanted = λ s h. elim (in_snoc path h) [ inl a ↦ w.path_wanted s a | inr e ↦ rw e v ];
    linked = linked_snoc (By before) path m w.linked f;
    done_low = w.done_low;
    done_once = w.done_once;
    done_wanted = w.done_wanted;
    ordered = w.ordered;
    apart = λ s h. elim (in_snoc path h) [ inl a ↦ w.apart s a | inr e ↦ rw e nd ];
  }
    where
      marked : (s : ℕ) → s < n → get_or (set seen m 1) s 0 ≡ mark (path ++ (m ∷ [])) done s
      marked s c = elim (ℕ_discrete s m) [
        | yes e ↦ rw e (get_or-set_same seen m 1 0 (omega (arith, w.long)) ∙ sym (mark_one (path ++ (m ∷ [])) done m nd (in_right path (here refl))))
        | no d ↦ get_or-set_other seen m s 1 0 d ∙ w.marks s c ∙ mark_same path (path ++ (m ∷ [])) done done s (sym (has_snoc path m s d)) refl
      ]

  pub walk_pop : (path : List ℕ) (s : ℕ) → Walk before n Want seen (path ++ (s ∷ [])) done → ((m : ℕ) → m ∈ before s → m ∈ done)
      → Walk before n Want (set seen s 2) path (done ++ (s ∷ []))
  walk_pop path s w f = record {
    long = simp length-set w.long;
    marks = marked;
    path_low = λ t h. w.path_low t (in_left (s ∷ []) h);
    path_once = each_init (λ earlier x. x ∉ earlier) path (s ∷ []) w.path_once;
    path_wanted = λ t h. w.path_wanted t (in_left (s ∷ []) h);
    linked = linked_init (By before) path (s ∷ []) w.linked;
    done_low = λ t h. elim (in_snoc done h) [ inl a ↦ w.done_low t a | inr e ↦ rw e low ];
    done_once = each_snoc (λ earlier x. x ∉ earlier) done s w.done_once new;
    done_wanted = λ t h. elim (in_snoc done h) [ inl a ↦ w.done_wanted t a | inr e ↦ rw e (w.path_wanted s top) ];
    ordered = each_snoc (λ earlier x. (m : ℕ) → m ∈ before x → m ∈ earlier) done s w.ordered f;
    apart = λ t h k. elim (in_snoc done k) [
      | inl a ↦ w.apart t (in_left (s ∷ []) h) a
      | inr e ↦ each_last (λ earlier x. x ∉ earlier) path [] s w.path_once (rw e at h)
    ];
  }
    where
      top : s ∈ path ++ (s ∷ [])
      top = in_right path (here refl)

      low : s < n
      low = w.path_low s top

      new : s ∉ done
      new = w.apart s top

      marked : (t : ℕ) → t < n → get_or (set seen s 2) t 0 ≡ mark path (done ++ (s ∷ [])) t
      marked t c = elim (ℕ_discrete t s) [
        | yes e ↦ rw e (get_or-set_same seen s 2 0 (omega (arith, w.long)) ∙ sym (mark_two path (done ++ (s ∷ [])) s (in_right done (here refl))))
        | no d ↦ get_or-set_other seen s t 2 0 d ∙ w.marks t c ∙ mark_same (path ++ (s ∷ [])) path done (done ++ (s ∷ [])) t (has_snoc path s t d) (sym (has_snoc done s t d))
      ]

module _ {before : ℕ → List ℕ} {n : ℕ} {Want : ℕ → Type 0} {seen path done : List ℕ} (w : Walk before n Want seen path done) where
  -- there is room for one more on the path, and in the order
  pub path_room : (m : ℕ) → m < n → m ∉ path → length path < n
  path_room m b d =
      let r = once_below (path ++ (m ∷ [])) n (each_snoc (λ earlier x. x ∉ earlier) path m w.path_once d)
      (λ s h. elim (in_snoc path h) [ inl a ↦ w.path_low s a | inr e ↦ rw e b ]) in
      omega (arith, length-append path (m ∷ []))

  pub done_room : (s : ℕ) → s ∈ path → length done < n
  done_room s i =
      let r = once_below (done ++ (s ∷ [])) n (each_snoc (λ earlier x. x ∉ earlier) done s w.done_once (w.apart s i))
      (λ t h. elim (in_snoc done h) [ inl a ↦ w.done_low t a | inr e ↦ rw e (w.path_low s i) ]) in
      omega (arith, length-append done (s ∷ []))

  -- the path's last step has before it one of the path's
  pub walk_circle : (m j : ℕ) → j < length path → get_or path j 0 ≡ m → ((i : ℕ) → suc i ≡ length path → m ∈ before (get_or path i 0))
      → IsCircle Want (By before) (drop j path)
  walk_circle m j b e f = drop_circle path m j w.path_once w.path_wanted (linked_snoc (By before) path m w.linked f) b e
