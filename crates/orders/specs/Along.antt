-- Values computed step by step along an order: they solve their equations, and nothing else does.
use Rattle.std.specs.Prelude.{◌≡◌, cond, ℕ, zero, suc, ◌<◌, eqb, length, get_or, take, drop}
use Rattle.std.proofs.Math.Path.{refl, ap}
use Rattle.std.proofs.Common.{sym, ◌∙◌, arith, take-append-drop, take-suc, eq-eqb, ne_eqb}
use mathlib.Core.List.{List, [], ◌∷◌, ◌++◌}
use Rattle.lists.specs.Members.{◌∈◌, ◌∉◌, here, there, in_at, at_before, place, place_before, once_apart}
use Rattle.orders.specs.Order.{IsOrder}
use Rattle.orders.specs.Greedy.{By}
use Rattle.orders.specs.Reach.{Closed, direct_earlier}

-- the value of a step rests on the values of the steps before it
abbrev pub Local : {A : Type 0} → ((ℕ → A) → ℕ → A) → (ℕ → List ℕ) → Type 0
Local {A} f before = (g h : ℕ → A) (s : ℕ) → ((m : ℕ) → m ∈ before s → g m ≡ h m) → f g s ≡ f h s

-- g has at each step of the set the value that f asks for
abbrev pub Solves : {A : Type 0} → ((ℕ → A) → ℕ → A) → (ℕ → Type 0) → (ℕ → A) → Type 0
Solves f Want g = (s : ℕ) → Want s → g s ≡ f g s

module _ {A : Type 0} (default : A) where
  unfoldable pub look : List (ℕ × A) → ℕ → A
  look [] s = default
  look (p ∷ acc) s = let r = look acc s in cond (eqb s p.0) p.1 r

  -- acc, and in front of it the value of each step of l, computed from those before it
  unfoldable pub along : ((ℕ → A) → ℕ → A) → List ℕ → List (ℕ × A) → List (ℕ × A)
  unfolding look
  along f [] acc = acc
  along f (s ∷ l) acc = along f l ((s, f (look acc) s) ∷ acc)

  unfoldable pub values : ((ℕ → A) → ℕ → A) → List ℕ → ℕ → A
  unfolding look along
  values f l = look (along f l [])

  look_cons : (s : ℕ) (v : A) (acc : List (ℕ × A)) → look ((s, v) ∷ acc) s ≡ v
  unfolding look
  look_cons s v acc = rw (eq-eqb s s refl)

  look_other : (s : ℕ) (v : A) (acc : List (ℕ × A)) {m : ℕ} → ¬ (m ≡ s) → look ((s, v) ∷ acc) m ≡ look acc m
  unfolding look
  look_other s v acc {m} d = rw (ne_eqb m s d)

  along_append : (f : (ℕ → A) → ℕ → A) (l r : List ℕ) (acc : List (ℕ × A)) → along f (l ++ r) acc ≡ along f r (along f l acc)
  unfolding along
  along_append f [] r acc = refl
  along_append f (s ∷ l) r acc = along_append f l r ((s, f (look acc) s) ∷ acc)

  -- later steps leave a value as it is
  along_other : (f : (ℕ → A) → ℕ → A) (l : List ℕ) (acc : List (ℕ × A)) {m : ℕ} → m ∉ l → look (along f l acc) m ≡ look acc m
  unfolding along
  along_other f [] acc n = refl
  along_other f (s ∷ l) acc n = along_other f l ((s, f (look acc) s) ∷ acc) (λ h. n (there h)) ∙ look_other s (f (look acc) s) acc (λ e. n (here e))

  values_early : (f : (ℕ → A) → ℕ → A) (l : List ℕ) (i : ℕ) {m : ℕ} → m ∉ drop i l → values f l m ≡ values f (take i l) m
  unfolding values
  values_early f l i {m} n =
      ap (λ (r : List ℕ). look (along f r []) m) (sym (take-append-drop i l))
      ∙ ap (λ (r : List (ℕ × A)). look r m) (along_append f (take i l) (drop i l) [])
      ∙ along_other f (drop i l) (along f (take i l) []) n

  values_at : (f : (ℕ → A) → ℕ → A) (l : List ℕ) (i : ℕ) → i < length l → get_or l i 0 ∉ drop (suc i) l
      → values f l (get_or l i 0) ≡ f (values f (take i l)) (get_or l i 0)
  unfolding values
  values_at f l i b n = values_early f l (suc i) n ∙ rw (take-suc l i 0 b, along_append) (look_cons (get_or l i 0) (f (values f (take i l)) (get_or l i 0)) (along f (take i l) []))

module _ {A : Type 0} {f : (ℕ → A) → ℕ → A} {Want : ℕ → Type 0} {before : ℕ → List ℕ} (local : Local f before) (closed : Closed before Want)
    {l : List ℕ} (o : IsOrder Want (By before) l) where
  pub along_solves : (default : A) → Solves f Want (values default f l)
  along_solves default s w = let (i, b, e) = place (o.lists.each s w) in rw e at (at_place i b)
    where
      at_place : (i : ℕ) → i < length l → values default f l (get_or l i 0) ≡ f (values default f l) (get_or l i 0)
      at_place i b =
          values_at default f l i b (once_apart l o.lists.once (suc i) (at_before l (suc i) i (omega arith) b))
          ∙ local (values default f (take i l)) (values default f l) (get_or l i 0)
          (λ m h. sym (values_early default f l i (once_apart l o.lists.once i (direct_earlier closed o i b m h))))

  pub solution_unique : (g h : ℕ → A) → Solves f Want g → Solves f Want h → (s : ℕ) → Want s → g s ≡ h s
  solution_unique g h p q s w = let (i, b, e) = place (o.lists.each s w) in rw e at (go (suc i) i (omega arith) b)
    where
      go : (n i : ℕ) → i < n → i < length l → g (get_or l i 0) ≡ h (get_or l i 0)
      go zero i a b = absurd (omega arith)
      go (suc n) i a b =
          let t : ℕ = get_or l i 0 in
          let w : Want t = o.lists.no_others t (in_at l i b) in
          p t w ∙ local g h t (λ m k. let (j, c, d, e) = place_before i l (direct_earlier closed o i b m k) in rw e at (go n j (omega arith) d)) ∙ sym (q t w)
