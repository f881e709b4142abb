-- A text that does not go k rule texts deep is whole after k expansions.
use Prim.Native.Nat.{ℕ, zero, suc, ◌-◌, ◌≤◌}
use mathlib.Core.List.{List, [], ◌∷◌}
use mathlib.Core.Bool.{Bool, false}
use mathlib.Core.Path.{◌≡◌, refl, sym, ◌∙◌, ap}
use native.Mathlib.Omega.{arith}
use Rattle.lists.specs.Members.{any}
use Rattle.lists.specs.Tests.{differ, or_left, or_right, or_false}
use Rattle.spec.specs.Dollars.{Piece, byte, ref, pieces, fill, expand, refs_of, refs}
use Rattle.spec.specs.Reading.{Step, Reading}
use Rattle.spec.specs.Text.{Spelling, quoted, rule_keys, Found, as_is, of_rule, lookup_by, lookup, text_by, deep}
use Rattle.text_lookup.proofs.Standing.{found_rule}
use Rattle.text_recursion.specs.Depth.{leads_to, goes_deep}

-- none of the names: not the first, and none of the others
module _ (p : List ℕ → Bool) (n : List ℕ) (l : List (List ℕ)) (h : any p (n ∷ l) ≡ false) where
  pub none_first : p n ≡ false
  unfolding any
  none_first = or_left (p n) (any p l) h

  pub none_later : any p l ≡ false
  unfolding any
  none_later = or_right (p n) (any p l) h

module _ (p : List ℕ → Bool) (f g : List ℕ → List ℕ) (same : (m : List ℕ) → p m ≡ false → f m ≡ g m) where
  fill_same : (l : List Piece) → any p (refs_of l) ≡ false → fill f l ≡ fill g l
  unfolding fill refs_of
  fill_same [] h = refl
  fill_same (byte b ∷ l) h = ap (λ (r : List ℕ). b ∷ r) (fill_same l h)
  fill_same (ref n ∷ l) h = rw (same n (none_first p n (refs_of l) h), fill_same l (none_later p n (refs_of l) h))

  -- an expansion asks only for the names referred to
  pub expand_same : (raw : List ℕ) → any p (refs raw) ≡ false → expand f raw ≡ expand g raw
  unfolding expand refs
  expand_same raw h = fill_same (pieces raw) h

module _ (p q : List ℕ → Bool) (fewer : (m : List ℕ) → p m ≡ false → q m ≡ false) where
  none_fewer : (l : List (List ℕ)) → any p l ≡ false → any q l ≡ false
  unfolding any
  none_fewer [] h = refl
  none_fewer (n ∷ l) h = or_false (q n) (any q l) (fewer n (none_first p n l h)) (none_fewer l (none_later p n l h))

  leads_fewer : (rd : Reading) (s : Step) (n : List ℕ) (f : Found) → lookup rd s n ≡ f → leads_to rd s p n ≡ false → leads_to rd s q n ≡ false
  unfolding leads_to
  leads_fewer rd s n (as_is v) e h = rw e
  leads_fewer rd s n (of_rule raw) e h = rw e (none_fewer (refs raw) (rw e at h))

module _ (rd : Reading) (s : Step) where
  pub not_zero : (k : ℕ) (n : List ℕ) → goes_deep rd s k n ≡ false → k ≡ 0 → ⊥
  unfolding goes_deep
  not_zero zero n h z = differ refl h
  not_zero (suc k) n h z = omega arith

  -- what does not go k rule texts deep goes no deeper
  pub no_deeper : (k j : ℕ) (n : List ℕ) → goes_deep rd s k n ≡ false → k ≤ j → goes_deep rd s j n ≡ false
  unfolding goes_deep
  no_deeper zero j n h b = absurd (not_zero zero n h refl)
  no_deeper (suc k) zero n h b = absurd (omega arith)
  no_deeper (suc k) (suc j) n h b =
      leads_fewer (goes_deep rd s k) (goes_deep rd s j) (λ m g. no_deeper k j m g (omega arith)) rd s n (lookup rd s n) refl h

  text_below : (k : ℕ) (n raw : List ℕ) → goes_deep rd s (suc k) n ≡ false → lookup rd s n ≡ of_rule raw → any (goes_deep rd s k) (refs raw) ≡ false
  unfolding goes_deep leads_to
  text_below k n raw h e = rw e at h

  -- the names that a rule's text refers to go less deep
  pub text_shallow : (k : ℕ) (n raw : List ℕ) → goes_deep rd s k n ≡ false → lookup rd s n ≡ of_rule raw → any (goes_deep rd s (k - 1)) (refs raw) ≡ false
  text_shallow k n raw h e =
      let b : k ≡ 0 → ⊥ = not_zero k n h in
      let z : k ≡ suc (k - 1) = omega arith in
      text_below (k - 1) n raw (ap (λ (j : ℕ). goes_deep rd s j n) (sym z) ∙ h) e

  -- however names are spelt
  module _ (spell : Spelling) where
    found_stable : (k j : ℕ) (n : List ℕ) (f : Found) → lookup_by spell rd s n ≡ f → ((m : List ℕ) → goes_deep rd s k m ≡ false → text_by spell rd s j m ≡ text_by spell rd s k m)
        → goes_deep rd s (suc k) n ≡ false → text_by spell rd s (suc j) n ≡ text_by spell rd s (suc k) n
    unfolding text_by
    found_stable k j n (as_is v) e q h = rw e
    found_stable k j n (of_rule raw) e q h = rw e (expand_same (goes_deep rd s k) (text_by spell rd s j) (text_by spell rd s k) q raw (text_below k n raw h (found_rule rd s n spell quoted raw e)))

    pub text_stable : (k j : ℕ) (n : List ℕ) → goes_deep rd s k n ≡ false → k ≤ j → text_by spell rd s j n ≡ text_by spell rd s k n
    text_stable zero j n h b = absurd (not_zero zero n h refl)
    text_stable (suc k) zero n h b = absurd (omega arith)
    text_stable (suc k) (suc j) n h b = found_stable k j n (lookup_by spell rd s n) refl (λ m g. text_stable k j m g (omega arith)) h

    once : (k : ℕ) (n raw : List ℕ) → lookup_by spell rd s n ≡ of_rule raw → text_by spell rd s (suc k) n ≡ expand (text_by spell rd s k) raw
    unfolding text_by
    once k n raw e = rw e

    whole_below : (k : ℕ) (n raw : List ℕ) → goes_deep rd s (suc k) n ≡ false → suc k ≤ deep → lookup_by spell rd s n ≡ of_rule raw → text_by spell rd s deep n ≡ expand (text_by spell rd s deep) raw
    whole_below k n raw h b e =
        once rule_keys n raw e
        ∙ expand_same (goes_deep rd s k) (text_by spell rd s rule_keys) (text_by spell rd s deep) (λ m g. text_stable k rule_keys m g (omega arith) ∙ sym (text_stable k deep m g (omega arith))) raw (text_below k n raw h (found_rule rd s n spell quoted raw e))

    -- "the rule, whose text is expanded by this same order"
    pub text_whole : (k : ℕ) (n raw : List ℕ) → goes_deep rd s k n ≡ false → k ≤ deep → lookup_by spell rd s n ≡ of_rule raw → text_by spell rd s deep n ≡ expand (text_by spell rd s deep) raw
    text_whole zero n raw h b e = absurd (not_zero zero n h refl)
    text_whole (suc k) n raw h b e = whole_below k n raw h b e

    pub text_as_is : (n v : List ℕ) → lookup_by spell rd s n ≡ as_is v → text_by spell rd s deep n ≡ v
    unfolding text_by
    text_as_is n v e = rw e
