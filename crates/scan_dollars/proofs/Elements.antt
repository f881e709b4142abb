-- What a `$` begins, at places of a slice.
use Prim.Native.Nat.{ℕ, ◌+◌, ◌≤◌, ◌<◌}
use mathlib.Core.Bool.{true, ◌||◌}
use mathlib.Core.List.{List, ◌∷◌}
use mathlib.Core.Logic.{◌⊎◌, inl, inr}
use mathlib.Core.Option.{none}
use mathlib.Core.Path.{◌≡◌, sym, ◌∙◌, ap}
use native.Mathlib.Omega.{arith}
use native.Mathlib.Nat.{le_refl, le_trans}
use borrow.Author.Tests.{ne_eqb}
use lib.Dec.{eqb}
use lib.ListN.{length, drop, get_or}
use Rattle.lists.specs.Tests.{if_b}
use Rattle.lists.specs.Parts.{part, part_none, length_part}
use Rattle.lists.specs.Runs.{Reads, run, after_run, part_run}
use Rattle.spec.specs.Bytes.{close_brace, short_byte, class_of}
use Rattle.spec.specs.Dollars.{Element, literal, joins, names, wrong, braced, element, escaped}
use Rattle.spec.specs.Lines.{is_space}
use Rattle.spec.specs.Forms.{name_of, after_name}
use Rattle.scan_classes.proofs.Sorted.{sorted}
use Rattle.scan_dollars.specs.declared.Escape.{Escape}
use Rattle.scan_dollars.specs.declared.Escape.TheVariants.{Byte, Join, Name, Bad}
use Rattle.scan_dollars.specs.Element.{rest_of, FoundElement, DollarName, TellsElement, DollarPassed}
use Rattle.scan_tokens.proofs.Places.{at_cons, at_end, not_empty}
use Rattle.scan_tokens.proofs.Names.{part_name}

-- ---- `${name}`, whose name goes from place i to place e

module _ {s : List ℕ} {i e : ℕ} (a : Reads after_name s i e) where
  pub braced_open : length s ≤ e → braced (name_of (drop i s)) (after_name (drop i s)) ≡ wrong
  unfolding braced
  braced_open h = rw (← a.rest, at_end s e h)

  module _ (h : e < length s) where
    pub braced_other : (get_or s e 0 ≡ close_brace → ⊥) → braced (name_of (drop i s)) (after_name (drop i s)) ≡ wrong
    unfolding braced
    braced_other k = rw (← a.rest, at_cons s e h, ne_eqb (get_or s e 0) close_brace k)

    module _ (k : get_or s e 0 ≡ close_brace) where
      pub braced_empty : e ≤ i → braced (name_of (drop i s)) (after_name (drop i s)) ≡ wrong
      unfolding braced
      braced_empty l = rw (← a.rest, at_cons s e h, k, ← (part_name a), part_none s i e l)

      pub braced_name : i < e → DollarName s i i e (e + 1) (braced (name_of (drop i s)) (after_name (drop i s)))
      unfolding braced
      braced_name l =
          let n : length (part s i e) ≡ 0 → ⊥ = λ z. omega (arith, length_part s i e a.within) in
          record {
            ordered = a.forward;
            before = omega arith;
            found =
                record {
                  forward = omega arith;
                  within = omega arith;
                  is = rw (← a.rest, at_cons s e h, k, ← (part_name a), not_empty (part s i e) n);
                };
          }

-- ---- by the class of the byte after the `$`

unfoldable by_class : ℕ → ℕ → List ℕ → Element
by_class k b s =
    if_b (eqb k 5 || eqb k 3 || eqb k 6) (λ _. literal b s) λ _.
    if_b (eqb k 4) (λ _. joins (after_run is_space s)) λ _.
    if_b (eqb k 10) (λ _. braced (name_of s) (after_name s)) λ _.
    if_b (eqb k 1) (λ _. names (run short_byte (b ∷ s)) (after_run short_byte (b ∷ s))) λ _. wrong

element_class : (b : ℕ) (s : List ℕ) → element (b ∷ s) ≡ by_class (class_of b) b s
unfolding element escaped by_class name_of after_name
element_class b s =
    rw ((sorted b).dollar, (sorted b).space, (sorted b).colon, (sorted b).newline, (sorted b).open_brace, (sorted b).short)

-- An answer about what begins later.
tells_from : (s : List ℕ) (i j : ℕ) (x y : Element) (r : Escape) → i ≤ j → y ≡ x → TellsElement s j x r → TellsElement s i y r
unfolding TellsElement
tells_from s i j x y (Byte b n) h e f = record { forward = le_trans h f.forward; within = f.within; is = e ∙ f.is }
tells_from s i j x y (Join n) h e f = record { forward = le_trans h f.forward; within = f.within; is = e ∙ f.is }
tells_from s i j x y (Name a b n) h e f =
    record {
      ordered = f.ordered;
      before = f.before;
      found = record { forward = le_trans h f.found.forward; within = f.found.within; is = e ∙ f.found.is };
    }
tells_from s i j x y Bad h e f = e ∙ f

pub nothing_begins : (s : List ℕ) (at : ℕ) → length s ≤ at → element (drop at s) ≡ wrong
unfolding element
nothing_begins s at h = rw (at_end s at h)

module _ (s : List ℕ) {at k : ℕ} (h : at < length s) (c : k ≡ class_of (get_or s at 0)) where
  here : element (drop at s) ≡ by_class k (get_or s at 0) (drop (at + 1) s)
  here = rw (at_cons s at h, c) (element_class (get_or s at 0) (drop (at + 1) s))

  pub short_begins : {e : ℕ} → k ≡ 1 → Reads (after_run short_byte) s at e → DollarName s at at e e (element (drop at s))
  unfolding by_class
  short_begins {e} p a =
      record {
        ordered = a.forward;
        before = le_refl e;
        found =
            record {
              forward = a.forward;
              within = a.within;
              is = rw (part_run short_byte a, a.rest, at_cons s at h) (sym (rw (at_cons s at h) at (sym here)) ∙ rw p);
            };
      }

  pub brace_begins : (r : Escape) → k ≡ 10 → TellsElement s (at + 1) (braced (name_of (drop (at + 1) s)) (after_name (drop (at + 1) s))) r → TellsElement s at (element (drop at s)) r
  unfolding by_class
  brace_begins r p f = tells_from s at (at + 1) _ _ r (omega arith) (here ∙ rw p) f

  pub join_begins : {n : ℕ} → k ≡ 4 → Reads (after_run is_space) s (at + 1) n → FoundElement s at n (element (drop at s)) (joins (drop n s))
  unfolding by_class
  join_begins p a =
      record { forward = omega (arith, a.forward); within = a.within; is = here ∙ rw (p, a.rest) }

  pub byte_begins : eqb k 5 || eqb k 3 || eqb k 6 ≡ true → FoundElement s at (at + 1) (element (drop at s)) (literal (get_or s at 0) (drop (at + 1) s))
  unfolding by_class
  byte_begins p = record { forward = omega arith; within = omega arith; is = here ∙ rw p }

  pub other_begins : (k ≡ 1 → ⊥) → (k ≡ 10 → ⊥) → (k ≡ 4 → ⊥) → (k ≡ 5 → ⊥) → (k ≡ 3 → ⊥) → (k ≡ 6 → ⊥) → element (drop at s) ≡ wrong
  unfolding by_class
  other_begins a b c d e f = here ∙ rw (ne_eqb k 5 d, ne_eqb k 3 e, ne_eqb k 6 f, ne_eqb k 4 c, ne_eqb k 10 b, ne_eqb k 1 a)

-- ---- what follows, whatever it is

pub passed : (s : List ℕ) (at n : ℕ) (r : Escape) → TellsElement s at (element (drop at s)) r
    → ((b : ℕ) × (r ≡ Byte b n)) ⊎ ((r ≡ Join n) ⊎ ((a : ℕ) × (b : ℕ) × (r ≡ Name a b n))) → DollarPassed s at n
unfolding rest_of TellsElement
passed s at n r t (inl (b, e)) =
    let f : FoundElement s at n (element (drop at s)) (literal b (drop n s)) = rw e at t in
    record { forward = f.forward; within = f.within; rest = ap rest_of f.is }
passed s at n r t (inr (inl e)) =
    let f : FoundElement s at n (element (drop at s)) (joins (drop n s)) = rw e at t in
    record { forward = f.forward; within = f.within; rest = ap rest_of f.is }
passed s at n r t (inr (inr (a, b, e))) =
    let f : DollarName s at a b n (element (drop at s)) = rw e at t in
    record { forward = f.found.forward; within = f.found.within; rest = ap rest_of f.found.is }

pub passed_bad : {x : Element} → x ≡ wrong → rest_of x ≡ none
unfolding rest_of
passed_bad e = ap rest_of e
