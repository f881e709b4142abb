-- The number of a step's rule.
use Rattle.std.specs.Prelude.{Option, Some, None}
use Prim.Native.Nat.{ℕ, ◌+◌, ◌≤◌}
use mathlib.Core.Bool.{true, false}
use mathlib.Core.List.{List, [], ◌∷◌, map}
use mathlib.Core.Path.{◌≡◌, refl, sym, ◌∙◌}
use native.Mathlib.Numerals.{add-one}
use native.Mathlib.Omega.{arith}
use borrow.Author.Tests.{eqb-true}
use lib.Dec.{eqb}
use lib.ListN.{length}
use Rattle.lists.specs.Tests.{split, differ, and_left, and_right}
use Rattle.lists.specs.Bytes.{eq_bytes, eq_bytes_true}
use Rattle.spec.specs.Basics.{among}
use Rattle.spec.specs.Reading as reading
use Rattle.spec.specs.Reading.{Rule, Reading, is_phony}
use Rattle.hold_bindings.specs.Log.{Logged, of_rules, entry_at, is_named, newest, is_at, rules_of}
use Rattle.hold_bindings.proofs.Lookups.{newest_below, entry_kept, entry_newest, declared_newest}
use Rattle.hold_reading.specs.Held.{Ruled, phony, declared}
use Rattle.apply_step_columns.specs.StepColumns.{entry_number, rule_number, phony_bit}
use Rattle.hold_columns.specs.Columns.{bit}

-- ---- what the search gives

module _ (name : List ℕ) (log : List Logged) where
  pub number_phony : is_phony name ≡ true → 0 ≡ rule_number name log
  unfolding rule_number
  number_phony e = rw e

  pub number_at : is_phony name ≡ false → {k : ℕ} → Some k ≡ newest of_rules name log → k + 1 ≡ rule_number name log
  unfolding rule_number entry_number
  number_at e {k} n = rw (e, ← n) (add-one k)

  pub number_missing : is_phony name ≡ false → None ≡ newest of_rules name log → 0 ≡ rule_number name log
  unfolding rule_number entry_number
  number_missing e n = rw (e, ← n)

-- ---- what it means

newest_named : (o : ℕ) (n : List ℕ) (log : List Logged) (k : ℕ) → newest o n log ≡ Some k → is_named o n (entry_at k log) ≡ true
unfolding newest
newest_named o n [] k e = let z : ◌≡◌ {A = ℕ} 0 1 = cc in absurd (omega arith)
newest_named o n (x ∷ l) k e =
    split (is_named o n x)
    (λ (t : is_named o n x ≡ true).
    let p : Some (length l) ≡ Some k = rw t at e in
    let q : length l ≡ k = cc in
    rw (← q, entry_newest x l) t)
    (λ (t : is_named o n x ≡ false).
    let f = rw t at e in
    rw (entry_kept x l k (newest_below o n l k f)) (newest_named o n l k f))

found_ruled : (name : List ℕ) (log : List Logged) (f : Option ℕ) → newest of_rules name log ≡ f → is_phony name ≡ false → is_at f ≡ true → Ruled log name (entry_number f)
unfolding entry_number is_at is_named
found_ruled name log (Some k) e p a =
    let h : is_named of_rules name (entry_at k log) ≡ true = newest_named of_rules name log k e in
    let o = eqb (entry_at k log).owner of_rules in
    let n = eq_bytes name (entry_at k log).name in
    declared (newest_below of_rules name log k e) (eqb-true _ _ (and_left o n h)) (sym (eq_bytes_true name _ (and_right o n h))) p
found_ruled name log None e p a = differ a refl

-- A declared rule has its number.
pub ruled : (name : List ℕ) (log : List Logged) (rd : Reading) → rd.rules ≡ rules_of log → reading.declared name rd ≡ true → Ruled log name (rule_number name log)
unfolding rule_number reading.declared
ruled name log rd r d =
    split (is_phony name)
    (λ (e : is_phony name ≡ true). rw e (phony e))
    (λ (e : is_phony name ≡ false).
    let a : among name (map (λ (x : Rule). x.name) rd.rules) ≡ true = rw e at d in
    rw e (found_ruled name log (newest of_rules name log) refl e (sym (declared_newest name log) ∙ rw (← r) a)))

pub ruled_bit : {log : List Logged} {name : List ℕ} {n : ℕ} → Ruled log name n → phony_bit n ≡ bit (is_phony name)
ruled_bit (phony e) = rw e
ruled_bit (declared b o n p) = rw p

found_low : (log : List Logged) (name : List ℕ) (f : Option ℕ) → newest of_rules name log ≡ f → entry_number f ≤ length log
unfolding entry_number
found_low log name (Some k) e = newest_below of_rules name log k e
found_low log name None e = omega arith

pub number_low : (name : List ℕ) (log : List Logged) → rule_number name log ≤ length log
unfolding rule_number
number_low name log =
    split (is_phony name)
    (λ (e : is_phony name ≡ true). rw e (omega arith))
    (λ (e : is_phony name ≡ false). rw e (found_low log name (newest of_rules name log) refl))
