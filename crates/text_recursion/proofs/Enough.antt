-- More than `deep` rule texts change no answer: of so many keys under expansion one is there twice, since each has a
-- number below `rule_keys`.
use Prim.Native.Nat.{ℕ, zero, suc, ◌+◌, ◌≤◌, ◌<◌}
use mathlib.Core.List.{List, [], ◌∷◌, map}
use mathlib.Core.Bool.{Bool, true, false}
use mathlib.Core.Logic.{⊎_elim}
use mathlib.Core.Path.{◌≡◌, refl, sym, ◌∙◌, ap, subst, fun_ext}
use native.Mathlib.Omega.{arith}
use borrow.Author.Tests.{ltb-true, ltb-false}
use lib.Dec.{ltb}
use lib.ListN.{length, length-map}
use Rattle.lists.specs.Members.{◌∈◌, Once, any, not_in_nil, in_cons, once_cons, once_below}
use Rattle.lists.specs.Tests.{split, differ}
use Rattle.spec.specs.Basics.{among}
use Rattle.spec.specs.Dollars.{refs}
use Rattle.spec.specs.Reading.{Step, Reading, keys_of}
use Rattle.spec.specs.Sound.{SoundKeys}
use Rattle.spec.specs.Text.{Spelling, rule_keys, key_number, Found, as_is, of_rule, lookup, leads_back, text_by, deep}
use Rattle.hold_keys.proofs.Numbers.{one_key, no_key}
use Rattle.text_lookup.proofs.Standing.{found_key}
use Rattle.text_recursion.proofs.Circles.{among_here, among_more, leads_back_deep}
use Rattle.text_recursion.proofs.Depths.{text_stable}

-- ---- keys under expansion: none is there twice

record Under (under : List (List ℕ)) : Type 0 where
  pub once : Once (map key_number under)
  pub low : (x : ℕ) → x ∈ map key_number under → x < rule_keys

none_under : Under []
none_under = record { once = λ i h. absurd (omega arith); low = λ x h. absurd (not_in_nil h) }

numbered : (n : List ℕ) (under : List (List ℕ)) → key_number n < rule_keys → key_number n ∈ map key_number under → among n under ≡ true
numbered n [] b h = absurd (not_in_nil h)
numbered n (m ∷ l) b h =
    ⊎_elim
    (λ (e : key_number n ≡ key_number m). subst (λ (x : List ℕ). among n (x ∷ l) ≡ true) (one_key n m b e) (among_here n l))
    (λ (k : key_number n ∈ map key_number l). among_more n m l (numbered n l b k))
    (in_cons h)

one_more : {under : List (List ℕ)} (n : List ℕ) → Under under → key_number n < rule_keys → among n under ≡ false → Under (n ∷ under)
one_more {under} n w b e =
    record {
      once = once_cons (key_number n) (map key_number under) (λ h. differ (numbered n under b h) e) w.once;
      low = λ x h. ⊎_elim (λ (q : x ≡ key_number n). rw q b) (λ (k : x ∈ map key_number under). w.low x k) (in_cons h);
    }

few : {under : List (List ℕ)} → Under under → length under ≤ rule_keys
few {under} w =
    let h = once_below (map key_number under) rule_keys w.once w.low in
    omega (arith, h, length-map under key_number)

-- ---- one rule text more

module _ (rd : Reading) (s : Step) (sound : SoundKeys (keys_of s.rule rd.rules)) where
  key_under : (n raw : List ℕ) → lookup rd s n ≡ of_rule raw → key_number n < rule_keys
  key_under n raw e =
      split (ltb (key_number n) rule_keys) (ltb-true (key_number n) rule_keys)
      (λ (h : ltb (key_number n) rule_keys ≡ false). differ (sound n raw (found_key rd s n raw e)).key (no_key n (ltb-false (key_number n) rule_keys h)))

  found_more : (j : ℕ) (under : List (List ℕ)) (n : List ℕ) (f : Found) → lookup rd s n ≡ f
      → ((raw : List ℕ) → f ≡ of_rule raw → among n under ≡ false → any (leads_back rd s j (n ∷ under)) (refs raw) ≡ any (leads_back rd s (suc j) (n ∷ under)) (refs raw))
      → leads_back rd s (suc j) under n ≡ leads_back rd s (suc (suc j)) under n
  unfolding leads_back
  found_more j under n (as_is v) e g = rw e
  found_more j under n (of_rule raw) e g =
      rw e (split (among n under) (λ (t : among n under ≡ true). rw t) (λ (t : among n under ≡ false). rw t (g raw refl t)))

  back_more : (j : ℕ) (under : List (List ℕ)) (n : List ℕ) → Under under → deep ≤ length under + j → leads_back rd s j under n ≡ leads_back rd s (suc j) under n
  back_more zero under n w h = absurd (omega (arith, few w, h))
  back_more (suc j) under n w h =
      found_more j under n (lookup rd s n) refl
      (λ raw e t.
      ap (λ (p : List ℕ → Bool). any p (refs raw)) (fun_ext (λ m. back_more j (n ∷ under) m (one_more n w (key_under n raw e) t) (omega (arith, h)))))

  -- 16 is the same
  pub deeper_same : (j : ℕ) → deep ≤ j → (n : List ℕ) → leads_back rd s deep [] n ≡ leads_back rd s j [] n
  deeper_same zero h n = absurd (omega (arith, h))
  deeper_same (suc j) h n =
      split (ltb j deep)
      (λ (e : ltb j deep ≡ true).
      let b = ltb-true j deep e in
      let z : deep ≡ suc j = omega (arith, b, h) in
      ap (λ (i : ℕ). leads_back rd s i [] n) z)
      (λ (e : ltb j deep ≡ false). let b = ltb-false j deep e in deeper_same j b n ∙ back_more j [] n none_under (omega (arith, b)))

  -- and so is a text, however names are spelt
  pub text_same : (spell : Spelling) (j : ℕ) → deep ≤ j → (n : List ℕ) → leads_back rd s deep [] n ≡ false → text_by spell rd s j n ≡ text_by spell rd s deep n
  text_same spell j h n e = text_stable rd s spell deep j n (sym (leads_back_deep rd s n) ∙ e) h
