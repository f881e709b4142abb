-- A text leads back exactly where it goes `deep` rule texts deep: along a circle it goes as deep as one likes.
use Prim.Native.Nat.{ℕ, zero, suc}
use mathlib.Core.List.{List, [], ◌∷◌}
use mathlib.Core.Bool.{Bool, true, false, ◌||◌}
use mathlib.Core.Logic.{◌⊎◌, inl, inr, ⊎_elim}
use mathlib.Core.Path.{◌≡◌, refl, sym, ◌∙◌, subst}
use Rattle.lists.specs.Members.{any}
use Rattle.lists.specs.Tests.{split, differ, or_true}
use Rattle.lists.specs.Bytes.{eq_bytes, eq_bytes_true, eq_eq_bytes}
use Rattle.spec.specs.Basics.{among}
use Rattle.spec.specs.Dollars.{refs}
use Rattle.spec.specs.Reading.{Step, Reading}
use Rattle.spec.specs.Text.{Found, as_is, of_rule, lookup, leads_back, deep}
use Rattle.text_recursion.specs.Depth.{leads_to, goes_deep}

-- ---- names in a list of names

or_one : (a b : Bool) → b ≡ true → a || b ≡ true
or_one true b h = refl
or_one false b h = h

pub among_here : (n : List ℕ) (l : List (List ℕ)) → among n (n ∷ l) ≡ true
unfolding among any
among_here n l = rw (eq_eq_bytes {s = n} {t = n} refl)

pub among_more : (n m : List ℕ) (l : List (List ℕ)) → among n l ≡ true → among n (m ∷ l) ≡ true
unfolding among any
among_more n m l h = or_one (eq_bytes n m) (any (eq_bytes n) l) h

among_cases : (n m : List ℕ) (l : List (List ℕ)) → among n (m ∷ l) ≡ true → (n ≡ m) ⊎ (among n l ≡ true)
unfolding among any
among_cases n m l h = ⊎_elim (λ e. inl (eq_bytes_true n m e)) (λ e. inr e) (or_true (eq_bytes n m) (any (eq_bytes n) l) h)

-- what holds of a name of the list holds of some
among_any : (p : List ℕ → Bool) (n : List ℕ) (l : List (List ℕ)) → among n l ≡ true → p n ≡ true → any p l ≡ true
unfolding any among
among_any p n [] h e = differ h refl
among_any p n (m ∷ l) h e =
    ⊎_elim
    (λ (d : n ≡ m). let q : p m ≡ true = subst (λ (x : List ℕ). p x ≡ true) d e in rw q)
    (λ (d : among n l ≡ true). or_one (p m) (any p l) (among_any p n l d e))
    (among_cases n m l h)

any_names : (p q : List ℕ → Bool) (l : List (List ℕ)) → ((n : List ℕ) → among n l ≡ true → p n ≡ true → q n ≡ true) → any p l ≡ true → any q l ≡ true
unfolding any
any_names p q [] f h = h
any_names p q (n ∷ l) f h =
    ⊎_elim
    (λ (e : p n ≡ true). let d : q n ≡ true = f n (among_here n l) e in rw d)
    (λ (e : any p l ≡ true). or_one (q n) (any q l) (any_names p q l (λ m b. f m (among_more m n l b)) e))
    (or_true (p n) (any p l) h)

both_ways : (a b : Bool) → (a ≡ true → b ≡ true) → (b ≡ true → a ≡ true) → a ≡ b
both_ways a b f g = split a (λ (e : a ≡ true). e ∙ sym (f e)) (λ (e : a ≡ false). split b (λ (d : b ≡ true). differ (g d) e) (λ (d : b ≡ false). e ∙ sym d))

module _ (rd : Reading) (s : Step) where
  -- the name u stands for a rule's text that refers to n
  record Refers (u n : List ℕ) : Type 0 where
    pub raw : List ℕ
    pub text : lookup rd s u ≡ of_rule raw
    pub named : among n (refs raw) ≡ true

  -- each of the names under expansion refers to the next, and the last to n
  abbrev Chain : List (List ℕ) → List ℕ → Type 0
  Chain [] n = Unit {0}
  Chain (u ∷ us) n = Refers u n × Chain us u

  -- a name with a rule's text whose references go k deep goes one deeper
  refers_deep : (k : ℕ) (u n : List ℕ) → Refers u n → goes_deep rd s k n ≡ true → goes_deep rd s (suc k) u ≡ true
  unfolding goes_deep leads_to
  refers_deep k u n r e = rw r.text (among_any (goes_deep rd s k) n (refs r.raw) r.named e)

  -- ---- a circle

  record On (under : List (List ℕ)) (n m : List ℕ) : Type 0 where
    pub next : List ℕ
    pub refers : Refers m next
    pub on : (next ≡ n) ⊎ (among next under ≡ true)

  chain_next : (under : List (List ℕ)) (n : List ℕ) → Chain under n → (m : List ℕ) → among m under ≡ true → On under n m
  unfolding among any
  chain_next [] n c m h = differ h refl
  chain_next (u ∷ us) n c m h =
      ⊎_elim
      (λ (e : m ≡ u). record { next = n; refers = subst (λ (x : List ℕ). Refers x n) (sym e) c.0; on = inl refl })
      (λ (e : among m us ≡ true).
      let o = chain_next us u c.1 m e in
      record {
        next = o.next;
        refers = o.refers;
        on =
            inr
            (⊎_elim
            (λ (d : o.next ≡ u). subst (λ (x : List ℕ). among x (u ∷ us) ≡ true) (sym d) (among_here u us))
            (λ (d : among o.next us ≡ true). among_more o.next u us d)
            o.on);
      })
      (among_cases m u us h)

  circle_deep : (under : List (List ℕ)) (n : List ℕ) → Chain under n → among n under ≡ true → (k : ℕ) (m : List ℕ) → among m under ≡ true → goes_deep rd s k m ≡ true
  unfolding goes_deep
  circle_deep under n c h zero m b = refl
  circle_deep under n c h (suc k) m b =
      let o = chain_next under n c m b in
      let q : among o.next under ≡ true = ⊎_elim (λ (d : o.next ≡ n). subst (λ (x : List ℕ). among x under ≡ true) (sym d) h) (λ (d : among o.next under ≡ true). d) o.on in
      refers_deep k m o.next o.refers (circle_deep under n c h k o.next q)

  -- ---- both directions

  found_back : (k : ℕ) (under : List (List ℕ)) (n : List ℕ) (f : Found) → lookup rd s n ≡ f
      → ((raw : List ℕ) → f ≡ of_rule raw → any (goes_deep rd s k) (refs raw) ≡ true → any (leads_back rd s k (n ∷ under)) (refs raw) ≡ true)
      → goes_deep rd s (suc k) n ≡ true → leads_back rd s (suc k) under n ≡ true
  unfolding goes_deep leads_to leads_back
  found_back k under n (as_is v) e f h = differ h (rw e)
  found_back k under n (of_rule raw) e f h =
      let g : any (goes_deep rd s k) (refs raw) ≡ true = rw e at h in
      rw e (split (among n under) (λ (t : among n under ≡ true). rw t) (λ (t : among n under ≡ false). rw t (f raw refl g)))

  deep_back : (k : ℕ) (under : List (List ℕ)) (n : List ℕ) → goes_deep rd s k n ≡ true → leads_back rd s k under n ≡ true
  unfolding leads_back
  deep_back zero under n h = refl
  deep_back (suc k) under n h =
      found_back k under n (lookup rd s n) refl
      (λ raw e g. any_names (goes_deep rd s k) (leads_back rd s k (n ∷ under)) (refs raw) (λ m b d. deep_back k (n ∷ under) m d) g)
      h

  found_deep : (k : ℕ) (under : List (List ℕ)) (n : List ℕ) (f : Found) → lookup rd s n ≡ f → Chain under n
      → ((raw : List ℕ) → f ≡ of_rule raw → any (leads_back rd s k (n ∷ under)) (refs raw) ≡ true → any (goes_deep rd s k) (refs raw) ≡ true)
      → leads_back rd s (suc k) under n ≡ true → goes_deep rd s (suc k) n ≡ true
  unfolding goes_deep leads_to leads_back
  found_deep k under n (as_is v) e c f h = differ h (rw e)
  found_deep k under n (of_rule raw) e c f h =
      split (among n under)
      (λ (t : among n under ≡ true). circle_deep under n c t (suc k) n t)
      (λ (t : among n under ≡ false). rw e (f raw refl (rw (e, t) at h)))

  back_deep : (k : ℕ) (under : List (List ℕ)) (n : List ℕ) → Chain under n → leads_back rd s k under n ≡ true → goes_deep rd s k n ≡ true
  unfolding goes_deep
  back_deep zero under n c h = refl
  back_deep (suc k) under n c h =
      found_deep k under n (lookup rd s n) refl c
      (λ raw e g.
      any_names (leads_back rd s k (n ∷ under)) (goes_deep rd s k) (refs raw)
      (λ m b d. back_deep k (n ∷ under) m (record { raw = raw; text = e; named = b }, c) d) g)
      h

  pub leads_back_deep : (n : List ℕ) → leads_back rd s deep [] n ≡ goes_deep rd s deep n
  leads_back_deep n = both_ways (leads_back rd s deep [] n) (goes_deep rd s deep n) (back_deep deep [] n tt) (deep_back deep [] n)
