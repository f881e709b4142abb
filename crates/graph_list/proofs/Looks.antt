-- A look at one step: are its inputs' makers clear, and what follows.
use Prim.Native.Nat.{ℕ, suc, ◌-◌, ◌≤◌, ◌<◌}
use native.Mathlib.Nat.{le_refl}
use native.Mathlib.Decide.{ℕ_discrete}
use native.Mathlib.Omega.{arith}
use mathlib.Core.Path.{◌≡◌, refl, sym, ◌∙◌}
use mathlib.Core.Bool.{Bool, true, false, ◌&&◌}
use mathlib.Core.Logic.{inl, inr}
use mathlib.Core.List.{List, [], ◌∷◌}
use lib.Dec.{eqb}
use lib.ListN.{length, get_or, set, length-set}
use lib.Seq.{get_or-set_same, get_or-set_other}
use borrow.Author.Tests.{eq-eqb, ne_eqb}
use Rattle.lists.specs.Tests.{differ}
use Rattle.lists.specs.Members.{all}
use Rattle.spec.specs.Basics.{concat}
use Rattle.hold_columns.specs.Columns.{made_by, maker_in, makers_in}
use Rattle.graph_list.specs.Listing.{all_clear, LooksAt}

-- the makers of one file more

module _ (made clear : List ℕ) (l : List ℕ) (f : ℕ) {m : ℕ} (e : m ≡ get_or made f 0) where
  pub clear_none : m ≡ 0 → all_clear made clear (f ∷ l) ≡ all_clear made clear l
  unfolding all_clear makers_in maker_in made_by concat
  clear_none z = rw (← e, z)

  module _ (d : m ≡ 0 → ⊥) {v : ℕ} (h : v ≡ get_or clear (m - 1) 0) where
    by_mark : all_clear made clear (f ∷ l) ≡ (eqb v 1 && all_clear made clear l)
    unfolding all_clear makers_in maker_in made_by concat all
    by_mark = let w : get_or made f 0 ≡ suc (m - 1) = omega arith in rw (w, h)

    pub clear_not : (v ≡ 1 → ⊥) → all_clear made clear (f ∷ l) ≡ false
    clear_not w = by_mark ∙ rw (ne_eqb v 1 w)

    pub clear_more : v ≡ 1 → all_clear made clear (f ∷ l) ≡ all_clear made clear l
    clear_more w = by_mark ∙ rw (eq-eqb v 1 w)

pub clear_end : (made clear : List ℕ) → all_clear made clear [] ≡ true
unfolding all_clear makers_in concat all
clear_end made clear = refl

-- the ways out of a look

module _ {s : ℕ} {ready : Bool} {pending clear : List ℕ} {best : ℕ} where
  pub look_clear : {v : ℕ} → v ≡ get_or clear s 0 → v ≡ 1 → LooksAt s ready pending clear clear best best
  look_clear e w = record {
    long = refl;
    keeps = λ u h. h;
    clears = λ u h. inl h;
    free = λ r d. sym e ∙ w;
    lower = le_refl best;
    found = λ b. absurd (omega arith);
    least = λ r p d. absurd (d (sym e ∙ w));
  }

  pub look_blocked : {a : Bool} → a ≡ ready → a ≡ false → LooksAt s ready pending clear clear best best
  look_blocked e w = record {
    long = refl;
    keeps = λ u h. h;
    clears = λ u h. inl h;
    free = λ r d. differ r (sym e ∙ w);
    lower = le_refl best;
    found = λ b. absurd (omega arith);
    least = λ r p d. differ r (sym e ∙ w);
  }

  module _ {a : Bool} (e : a ≡ ready) (w : a ≡ true) {v : ℕ} (g : v ≡ get_or pending s 0) where
    pub look_free : (v ≡ 1 → ⊥) → s < length clear → LooksAt s ready pending clear (set clear s 1) best best
    look_free d b = record {
      long = length-set clear s 1;
      keeps = λ u h. elim (ℕ_discrete u s) [ yes q ↦ rw q (get_or-set_same clear s 1 0 b) | no n ↦ get_or-set_other clear s u 1 0 n ∙ h ];
      clears = λ u h. elim (ℕ_discrete u s) [
        | yes q ↦ inr (q, sym e ∙ w, λ p. d (g ∙ p))
        | no n ↦ inl (sym (get_or-set_other clear s u 1 0 n) ∙ h)
      ];
      free = λ r p. get_or-set_same clear s 1 0 b;
      lower = le_refl best;
      found = λ c. absurd (omega arith);
      least = λ r p n. absurd (d (g ∙ p));
    }

    pub look_lower : v ≡ 1 → s < best → LooksAt s ready pending clear clear best s
    look_lower p b = record {
      long = refl;
      keeps = λ u h. h;
      clears = λ u h. inl h;
      free = λ r d. absurd (d (sym g ∙ p));
      lower = omega arith;
      found = λ c. (refl, sym e ∙ w, sym g ∙ p);
      least = λ r q n. le_refl s;
    }

    pub look_higher : v ≡ 1 → best ≤ s → LooksAt s ready pending clear clear best best
    look_higher p b = record {
      long = refl;
      keeps = λ u h. h;
      clears = λ u h. inl h;
      free = λ r d. absurd (d (sym g ∙ p));
      lower = le_refl best;
      found = λ c. absurd (omega arith);
      least = λ r q n. b;
    }
