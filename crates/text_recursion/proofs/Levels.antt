-- The marks are those of the names that go so deep: names that are no rule's key go nowhere.
use Prim.Native.Nat.{ℕ, suc, ◌+◌, ◌≤◌, ◌<◌}
use mathlib.Core.List.{List, []}
use mathlib.Core.Bool.{Bool, true, false}
use mathlib.Core.Path.{◌≡◌, refl, sym, ◌∙◌, ap, fun_ext}
use native.Mathlib.Numerals.{add-one}
use native.Mathlib.Omega.{arith}
use borrow.Author.Tests.{ltb-true, ltb-false, eqb-true, eqb-false}
use lib.Dec.{ltb, eqb}
use lib.ListN.{length, get_or, set, replicate, length-set, get_or-replicate}
use lib.Seq.{get_or-set_same, get_or-set_other}
use Rattle.lists.specs.Tests.{split, differ}
use Rattle.spec.specs.Reading.{Step, Reading, keys_of}
use Rattle.spec.specs.Text.{key_names, rule_keys, key_number, Found, as_is, of_rule, lookup, leads_back, deep}
use Rattle.hold_keys.proofs.Numbers.{key_most, key_at_law, no_key}
use Rattle.hold_bindings.specs.Log.{Logged}
use Rattle.text_lookup.specs.declared.Asked.{Asked}
use Rattle.spec.specs.Sound.{SoundKeys}
use Rattle.text_lookup.specs.Scope.{StepScope}
use Rattle.text_lookup.proofs.Standing.{found_key}
use Rattle.text_recursion.specs.Depth.{leads_to, goes_deep, marks, Deeper}
use Rattle.text_recursion.proofs.Circles.{leads_back_deep}
use Rattle.text_recursion.proofs.Depths.{no_deeper}

-- ---- a name that is no rule's key leads nowhere

no_text : (rd : Reading) (s : Step) (p : List ℕ → Bool) (n : List ℕ) (f : Found) → lookup rd s n ≡ f → SoundKeys (keys_of s.rule rd.rules) → rule_keys ≤ key_number n → leads_to rd s p n ≡ false
unfolding leads_to
no_text rd s p n (as_is v) e k h = rw e
no_text rd s p n (of_rule raw) e k h = differ (k n raw (found_key rd s n raw e)).key (no_key n h)

-- ---- the loop over the keys

-- x is the mark of this name
abbrev Leads : (texts bind : List ℕ) (a : Asked) (d : List Bool) (x : Bool) (n : List ℕ) → Type 0
Leads texts bind a d x n = (log : List Logged) (rd : Reading) (s : Step) → StepScope texts bind a log rd s → x ≡ leads_to rd s (marks d) n

pub record Marking (texts bind : List ℕ) (a : Asked) (d r : List Bool) (k : ℕ) : Type 0 where
  pub low : k ≤ rule_keys
  pub long : length r ≡ suc rule_keys
  pub known : (j : ℕ) → j < k → Leads texts bind a d (get_or r j false) (get_or key_names j [])
  pub other : get_or r rule_keys false ≡ false

pub mark_begin : (texts bind : List ℕ) (a : Asked) (d : List Bool) → Marking texts bind a d (replicate (suc rule_keys) false) 0
mark_begin texts bind a d = record { low = omega arith; long = refl; known = λ j h. absurd (omega arith); other = refl }

module _ {texts bind : List ℕ} {a : Asked} {d r : List Bool} {k : ℕ} (m : Marking texts bind a d r k) where
  pub mark_on : {x : Bool} {n : List ℕ} → k < rule_keys → n ≡ get_or key_names k [] → Leads texts bind a d x n → Marking texts bind a d (set r k x) (k + 1)
  mark_on {x} {n} h e l =
      record {
        low = omega (arith, h);
        long = length-set r k x ∙ m.long;
        known = λ j b.
            split (eqb j k)
            (λ (q : eqb j k ≡ true).
            let z : j ≡ k = eqb-true j k q in
            λ log rd s c. rw (z, ← e) (get_or-set_same r k x false (omega (arith, h, m.long)) ∙ l log rd s c))
            (λ (q : eqb j k ≡ false).
            let z : j ≡ k → ⊥ = eqb-false j k q in
            λ log rd s c. get_or-set_other r k j x false z ∙ m.known j (omega (arith, b)) log rd s c);
        other = get_or-set_other r k rule_keys x false (λ (z : rule_keys ≡ k). omega (arith, h)) ∙ m.other;
      }

  -- the marks of the keys make those of all names
  pub mark_end : rule_keys ≤ k → Deeper texts bind a d r
  unfolding marks
  mark_end h =
      record {
        marked = λ log rd s c n.
            split (ltb (key_number n) rule_keys)
            (λ (e : ltb (key_number n) rule_keys ≡ true).
            let b = ltb-true (key_number n) rule_keys e in
            ap (leads_to rd s (marks d)) (sym (key_at_law n b)) ∙ sym (m.known (key_number n) (omega (arith, b, h)) log rd s c))
            (λ (e : ltb (key_number n) rule_keys ≡ false).
            let b = ltb-false (key_number n) rule_keys e in
            let z : key_number n ≡ rule_keys = omega (arith, b, key_most n) in
            no_text rd s (marks d) n (lookup rd s n) refl c.sound b ∙ sym (ap (λ (j : ℕ). get_or r j false) z ∙ m.other));
      }

-- ---- the loop over the levels

pub record Level (texts bind : List ℕ) (a : Asked) (k : ℕ) (d : List Bool) : Type 0 where
  pub low : k ≤ deep
  pub marked : (log : List Logged) (rd : Reading) (s : Step) → StepScope texts bind a log rd s → goes_deep rd s k ≡ marks d

pub level_begin : (texts bind : List ℕ) (a : Asked) → Level texts bind a 0 (replicate (suc rule_keys) true)
unfolding goes_deep marks
level_begin texts bind a =
    record {
      low = omega arith;
      marked = λ log rd s c. fun_ext (λ n. sym (get_or-replicate (suc rule_keys) (key_number n) true false (omega (arith, key_most n))));
    }

module _ {texts bind : List ℕ} {a : Asked} {k : ℕ} {d : List Bool} (l : Level texts bind a k d) where
  pub level_on : {r : List Bool} → k < deep → Deeper texts bind a d r → Level texts bind a (k + 1) r
  unfolding goes_deep
  level_on {r} b x =
      record {
        low = omega (arith, b);
        marked = λ log rd s c.
            fun_ext
            (λ n. ap (λ (j : ℕ). goes_deep rd s j n) (add-one k) ∙ ap (λ (p : List ℕ → Bool). leads_to rd s p n) (l.marked log rd s c) ∙ x.marked log rd s c n);
      }

  pub level_end : deep ≤ k → {log : List Logged} {rd : Reading} {s : Step} → StepScope texts bind a log rd s → (n : List ℕ) → marks d n ≡ leads_back rd s deep [] n
  level_end h {log} {rd} {s} c n =
      let z : k ≡ deep = omega (arith, l.low) in
      sym (leads_back_deep rd s n ∙ ap (λ (j : ℕ). goes_deep rd s j n) (sym z) ∙ ap (λ (p : List ℕ → Bool). p n) (l.marked log rd s c))

  -- a name that is not marked goes no deeper
  pub level_out : {log : List Logged} {rd : Reading} {s : Step} → StepScope texts bind a log rd s → (n : List ℕ) → marks d n ≡ false → false ≡ leads_back rd s deep [] n
  level_out {log} {rd} {s} c n e =
      sym (leads_back_deep rd s n ∙ no_deeper rd s k deep n (ap (λ (p : List ℕ → Bool). p n) (l.marked log rd s c) ∙ e) l.low)
