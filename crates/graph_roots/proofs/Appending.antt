-- Unmarked files put behind others.
use Prim.Native.Nat.{ℕ, suc, ◌+◌, ◌≤◌, ◌<◌}
use native.Mathlib.Numerals.{add-one}
use native.Mathlib.Omega.{arith}
use mathlib.Core.Path.{◌≡◌, refl, sym, ap, ◌∙◌}
use mathlib.Core.List.{List, [], ◌∷◌, ◌++◌, append-nil, append_assoc}
use lib.ListN.{length, get_or, take, drop, set, length-set, drop_of_length-le}
use lib.Seq.{drop-cons, take-suc-set}
use borrow.Author.Tests.{eq-eqb, ne_eqb}
use Rattle.lists.specs.Members.{keep}
use Rattle.graph_roots.specs.Tops.{unmarked, Appended}

unmarked_on : (marks : List ℕ) (f : ℕ) (l : List ℕ) → get_or marks f 0 ≡ 1 → unmarked marks (f ∷ l) ≡ unmarked marks l
unfolding unmarked keep
unmarked_on marks f l e = rw (eq-eqb (get_or marks f 0) 1 e)

unmarked_off : (marks : List ℕ) (f : ℕ) (l : List ℕ) → (get_or marks f 0 ≡ 1 → ⊥) → unmarked marks (f ∷ l) ≡ f ∷ unmarked marks l
unfolding unmarked keep
unmarked_off marks f l d = rw (ne_eqb (get_or marks f 0) 1 d)

unmarked_nil : (marks : List ℕ) → unmarked marks [] ≡ []
unfolding unmarked keep
unmarked_nil marks = refl

-- the first i files are seen to, and n numbers are there
pub record Appending (fs marks out : List ℕ) (k : ℕ) (now : List ℕ) (n i : ℕ) : Type 0 where
  pub within : i ≤ length fs
  pub long : length now ≡ length out
  pub few : n ≤ k + i
  pub front : take n now ++ unmarked marks (drop i fs) ≡ take k out ++ unmarked marks fs

pub append_begin : {fs marks out : List ℕ} {k : ℕ} → Appending fs marks out k out k 0
append_begin = record { within = omega arith; long = refl; few = omega arith; front = refl }

module _ {fs marks out : List ℕ} {k : ℕ} {now : List ℕ} {n i : ℕ} (r : Appending fs marks out k now n i) where
  module _ (b : i < length fs) {f v : ℕ} (e : f ≡ get_or fs i 0) (g : v ≡ get_or marks f 0) where
    left : unmarked marks (drop i fs) ≡ unmarked marks (f ∷ drop (suc i) fs)
    left = rw (drop-cons fs i 0 b, e)

    pub append_skip : v ≡ 1 → Appending fs marks out k now n (i + 1)
    append_skip w = record {
      within = omega arith;
      long = r.long;
      few = omega (arith, r.few);
      front = rw (add-one i) (ap (λ (l : List ℕ). take n now ++ l) (sym (left ∙ unmarked_on marks f (drop (suc i) fs) (sym g ∙ w))) ∙ r.front);
    }

    pub append_more : (v ≡ 1 → ⊥) → k + length fs ≤ length out → Appending fs marks out k (set now n f) (n + 1) (i + 1)
    append_more w room = record {
      within = omega arith;
      long = simp length-set r.long;
      few = omega (arith, r.few);
      front = rw (add-one i, add-one n, take-suc-set now n f (omega (arith, r.few, r.long)), append_assoc (take n now) (f ∷ []) (unmarked marks (drop (suc i) fs)))
          (ap (λ (l : List ℕ). take n now ++ l) (sym (left ∙ unmarked_off marks f (drop (suc i) fs) (λ z. w (g ∙ z)))) ∙ r.front);
    }

  pub append_end : length fs ≤ i → Appended fs marks out k now n
  append_end b = record {
    long = r.long;
    within = omega (arith, r.few, r.within);
    front = sym (ap (λ (l : List ℕ). take n now ++ l) (ap (unmarked marks) (drop_of_length-le fs {i = i} b) ∙ unmarked_nil marks) ∙ append-nil (take n now)) ∙ r.front;
  }
