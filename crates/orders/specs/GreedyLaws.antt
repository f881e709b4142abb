-- `greedy` is whole exactly where an order exists, and is then the least list.
use Rattle.std.specs.Prelude.{◌≡◌, ◌⊎◌, true, false, ◌&&◌, ◌||◌, length}
use Rattle.std.proofs.Math.Path.{refl}
use Rattle.std.proofs.Common.{sym, ap, ◌∙◌, arith}
use Rattle.std.proofs.Math.Logic.{inl, inr}
use Rattle.std.proofs.Math.Bool.{Bool, not, true≢false}
use Rattle.std.proofs.Math.Option.{Option, none, some}
use mathlib.Core.List.{List, [], ◌∷◌, ◌++◌}
use Prim.Native.Nat.{ℕ, zero, suc, ◌+◌}
use Rattle.std.proofs.Math.ListN.{length-append}
use Rattle.std.proofs.lemmas.Bool.{not-true, not-false}
use Rattle.lists.specs.Members.{◌∈◌, ◌∉◌, Each, Once, Rising, ◌⊆◌, has, all, find, place}
use Rattle.lists.specs.Tests.{split, and_left, and_right, and_false, or_true}
use Rattle.lists.specs.Members.{has_true, has_false, not_in_has, all_true, all_false, true_all, find_some, find_none, find_least, each_nil, each_snoc, once_full}
use Rattle.orders.specs.Order.{IsOrder, Ready, Lowest, IsLeast, Trap, ready_order, lowest_least, trap_no_order, lowest_unique}
use Rattle.orders.specs.Greedy.{In, By, ready, next, extend, greedy, covers, whole, or_zero, blocker}

-- wanted, and not in l
abbrev pub Lacking : List ℕ → List ℕ → ℕ → Type 0
Lacking want l s = (s ∈ want) × (s ∉ l)

pub covers_true : (l want : List ℕ) → covers l want ≡ true → want ⊆ l
unfolding covers
covers_true l want e s h = has_true s l (all_true (λ s. has s l) want e h)

pub covers_false : (l want : List ℕ) → covers l want ≡ false → (s : ℕ) × Lacking want l s
unfolding covers
covers_false l want e = let (s, h, f) = all_false (λ s. has s l) want e in (s, (h, has_false s l f))

module _ (want : List ℕ) (before : ℕ → List ℕ) where
  pub ready_true : (l : List ℕ) (s : ℕ) → s ∈ want → ready want before l s ≡ true → Ready (In want) (By before) l s
  unfolding ready
  ready_true l s w e =
      let p : ℕ → Bool = λ m. has m l || not (has m want) in
      let a = and_left (not (has s l)) (all p (before s)) e in
      let b = and_right (not (has s l)) (all p (before s)) e in
      record {
        wanted = w;
        new = has_false s l (not-true (has s l) a);
        after = λ m h v. elim (or_true (has m l) (not (has m want)) (all_true p (before s) b h)) [
          | inl c ↦ has_true m l c
          | inr c ↦ absurd (has_false m want (not-true (has m want) c) v)
        ];
      }

  pub true_ready : (l : List ℕ) (s : ℕ) → Ready (In want) (By before) l s → ready want before l s ≡ true
  unfolding ready
  true_ready l s r =
      rw (not_in_has r.new) (true_all (λ m. has m l || not (has m want)) (before s) (λ m h. split (has m l)
      (λ (c : has m l ≡ true). rw c)
      (λ (c : has m l ≡ false). rw c (ap not (not_in_has (λ v. has_false m l c (r.after m h v)))))))

  pub next_ready : (l : List ℕ) {s : ℕ} → next want before l ≡ some s → Ready (In want) (By before) l s
  unfolding next
  next_ready l {s} e = let (h, f) = find_some (ready want before l) want e in ready_true l s h f

  pub next_lowest : Rising want → (l : List ℕ) {s : ℕ} → next want before l ≡ some s → Lowest (In want) (By before) l s
  unfolding next
  next_lowest u l e = record { ready = next_ready l e; least = λ t r. find_least (ready want before l) want u e r.wanted (true_ready l t r) }

  pub next_none : (l : List ℕ) → next want before l ≡ none → (s : ℕ) → ¬ Ready (In want) (By before) l s
  unfolding next
  next_none l e s r = true≢false (sym (true_ready l s r) ∙ find_none (ready want before l) want e r.wanted)

  extend_keeps : (P : List ℕ → Type 0) → ((l : List ℕ) (s : ℕ) → next want before l ≡ some s → P l → P (l ++ (s ∷ [])))
      → (k : ℕ) (o : Option ℕ) (l : List ℕ) → next want before l ≡ o → P l → P (extend want before k o l)
  unfolding extend
  extend_keeps P f zero o l e h = h
  extend_keeps P f (suc k) none l e h = h
  extend_keeps P f (suc k) (some s) l e h = extend_keeps P f k (next want before (l ++ (s ∷ []))) (l ++ (s ∷ [])) refl (f l s e h)

  extend_end : (k : ℕ) (o : Option ℕ) (l : List ℕ) → next want before l ≡ o
      → (next want before (extend want before k o l) ≡ none) ⊎ (length (extend want before k o l) ≡ length l + k)
  unfolding extend
  extend_end zero o l e = inr (omega arith)
  extend_end (suc k) none l e = inl e
  extend_end (suc k) (some s) l e = elim (extend_end k (next want before (l ++ (s ∷ []))) (l ++ (s ∷ [])) refl) [
    | inl a ↦ inl a
    | inr b ↦ inr (omega (arith, length-append l (s ∷ [])))
  ]

  -- whatever each turn keeps holds of the whole list
  pub greedy_each : (P : List ℕ → ℕ → Type 0) → ((l : List ℕ) (s : ℕ) → next want before l ≡ some s → P l s) → Each P (greedy want before)
  unfolding greedy
  greedy_each P f = extend_keeps (Each P) (λ l s e h. each_snoc P l s h (f l s e)) (length want) (next want before []) [] refl (each_nil P)

  pub greedy_ready : Each (Ready (In want) (By before)) (greedy want before)
  greedy_ready = greedy_each (Ready (In want) (By before)) (λ l s e. next_ready l e)

  pub greedy_lowest : Rising want → Each (Lowest (In want) (By before)) (greedy want before)
  greedy_lowest u = greedy_each (Lowest (In want) (By before)) (λ l s e. next_lowest u l e)

  pub greedy_once : Once (greedy want before)
  greedy_once i b = (greedy_ready i b).new

  pub greedy_wanted : greedy want before ⊆ want
  greedy_wanted s h = let (i, b, e) = place h in rw e at (greedy_ready i b).wanted

  greedy_stops : (next want before (greedy want before) ≡ none) ⊎ (length (greedy want before) ≡ 0 + length want)
  unfolding greedy
  greedy_stops = extend_end (length want) (next want before []) [] refl

  -- after the last turn nothing is ready
  pub greedy_end : (s : ℕ) → ¬ Ready (In want) (By before) (greedy want before) s
  greedy_end s r = elim greedy_stops [
    | inl e ↦ next_none (greedy want before) e s r
    | inr e ↦ r.new (once_full (greedy want before) want greedy_once greedy_wanted (omega arith) s r.wanted)
  ]

  -- a wanted step that greedy lacks has such a step before it
  pub blocked : (s : ℕ) → Lacking want (greedy want before) s
      → By before (blocker want before (greedy want before) s) s × Lacking want (greedy want before) (blocker want before (greedy want before) s)
  unfolding blocker or_zero
  blocked s (w, n) = go (find p (before s)) refl
    where
      l : List ℕ
      l = greedy want before

      p : ℕ → Bool
      p m = has m want && not (has m l)

      go : (o : Option ℕ) → find p (before s) ≡ o → By before (or_zero o) s × Lacking want l (or_zero o)
      go none e = absurd (greedy_end s (record {
        wanted = w;
        new = n;
        after = λ m h v. elim (and_false (has m want) (not (has m l)) (find_none p (before s) e h)) [
          | inl a ↦ absurd (has_false m want a v)
          | inr b ↦ has_true m l (not-false (has m l) b)
        ];
      }))
      go (some m) e =
          let (h, f) = find_some p (before s) e in
          let a = and_left (has m want) (not (has m l)) f in
          let b = and_right (has m want) (not (has m l)) f in
          (h, (has_true m want a, has_false m l (not-true (has m l) b)))

  pub greedy_trap : Trap (In want) (By before) (Lacking want (greedy want before))
  greedy_trap s c = let (h, d) = blocked s c in (blocker want before (greedy want before) s, h, d.0, d)

  pub whole_true : whole want before ≡ true → want ⊆ greedy want before
  unfolding whole
  whole_true e = covers_true (greedy want before) want e

  pub whole_false : whole want before ≡ false → (s : ℕ) × Lacking want (greedy want before) s
  unfolding whole
  whole_false e = covers_false (greedy want before) want e

  pub whole_order : whole want before ≡ true → IsOrder (In want) (By before) (greedy want before)
  whole_order e = ready_order (greedy want before) (whole_true e) greedy_ready

  pub whole_least : Rising want → whole want before ≡ true → IsLeast (In want) (By before) (greedy want before)
  whole_least u e = lowest_least (greedy want before) (whole_true e) (greedy_lowest u)

  pub order_whole : {l : List ℕ} → IsOrder (In want) (By before) l → whole want before ≡ true
  order_whole o =
      split (whole want before)
      (λ (e : whole want before ≡ true). e)
      (λ (e : whole want before ≡ false). let (s, c) = whole_false e in absurd (trap_no_order greedy_trap c.0 c o))

  -- whole or not, greedy is what taking the lowest at each turn comes to
  pub lowest_greedy : Rising want → (l : List ℕ) → Each (Lowest (In want) (By before)) l → ((s : ℕ) → ¬ Ready (In want) (By before) l s) → l ≡ greedy want before
  lowest_greedy u l f n = lowest_unique l (greedy want before) f n (greedy_lowest u) greedy_end
