-- A key stands at its number, so that a number below the count has one name; the keys of this edition come first.
use Prim.Native.Nat.{ℕ, suc, ◌≤◌, ◌<◌}
use mathlib.Core.List.{List, [], ◌∷◌, ◌++◌}
use mathlib.Core.Bool.{true, false}
use mathlib.Core.Path.{◌≡◌, sym, ◌∙◌, ap}
use native.Mathlib.Omega.{arith}
use borrow.Author.Tests.{lt-ltb, le-ltb, ltb-true, ltb-false}
use lib.Dec.{ltb}
use lib.ListN.{length, get_or}
use Rattle.lists.specs.Tests.{split}
use Rattle.lists.specs.Text.{bytes}
use Rattle.lists.specs.Bytes.{eq_bytes, eq_bytes_true}
use Rattle.spec.specs.declared.Key.{Key}
use Rattle.spec.specs.declared.Key.TheVariants.{Command, Description, Generator, Depfile, Pool}
use Rattle.spec.specs.Basics.{among}
use Rattle.spec.specs.Reading.{number_of}
use Rattle.spec.specs.Statements.{rule_key}
use Rattle.spec.specs.Text.{key_name, key_names, rule_keys, key_number}
use Rattle.spec.proofs.Numbers.{among_none, number_here, number_there, among_here, among_there, number_below, number_missing}

-- ---- any list of names

number_at : (n : List ℕ) (l : List (List ℕ)) → number_of n l < length l → get_or l (number_of n l) [] ≡ n
number_at n [] h = absurd (omega arith)
number_at n (m ∷ l) h =
    split (eq_bytes n m)
    (λ (e : eq_bytes n m ≡ true). rw (number_here n m l e) (sym (eq_bytes_true n m e)))
    (λ (e : eq_bytes n m ≡ false). rw (number_there n m l e) (number_at n l (let b = rw (number_there n m l e) at h in omega (arith, b))))

number_most : (n : List ℕ) (l : List (List ℕ)) → number_of n l ≤ length l
number_most n l =
    split (among n l)
    (λ (e : among n l ≡ true). let b = number_below n l e in omega (arith, b))
    (λ (e : among n l ≡ false). let b = number_missing n l e in omega (arith, b))

less_suc : (a b : ℕ) → ltb a b ≡ ltb (suc a) (suc b)
less_suc a b =
    split (ltb a b)
    (λ (e : ltb a b ≡ true). e ∙ sym (lt-ltb (suc a) (suc b) (let h = ltb-true a b e in omega (arith, h))))
    (λ (e : ltb a b ≡ false). e ∙ sym (le-ltb (suc a) (suc b) (let h = ltb-false a b e in omega (arith, h))))

-- the first names of a list have the first numbers
number_first : (n : List ℕ) (l r : List (List ℕ)) → among n l ≡ ltb (number_of n (l ++ r)) (length l)
number_first n [] r = among_none n ∙ sym (le-ltb (number_of n r) 0 (omega arith))
number_first n (m ∷ l) r =
    split (eq_bytes n m)
    (λ (e : eq_bytes n m ≡ true). rw (among_here n m l e, number_here n m (l ++ r) e) (sym (lt-ltb 0 (length (m ∷ l)) (omega arith))))
    (λ (e : eq_bytes n m ≡ false). rw (among_there n m l e, number_there n m (l ++ r) e) (number_first n l r ∙ less_suc (number_of n (l ++ r)) (length l)))

-- ---- the keys

pub key_most : (n : List ℕ) → key_number n ≤ rule_keys
unfolding key_number key_names
key_most n = number_most n key_names

pub key_at_law : (n : List ℕ) → key_number n < rule_keys → get_or key_names (key_number n) [] ≡ n
unfolding key_number key_names
key_at_law n h = number_at n key_names h

-- names with one number are one name
pub one_key : (n m : List ℕ) → key_number n < rule_keys → key_number n ≡ key_number m → n ≡ m
one_key n m h e = sym (key_at_law n h) ∙ ap (λ (k : ℕ). get_or key_names k []) e ∙ key_at_law m (rw (← e) h)

-- "`command` (needed), `description`, `generator`", and "Accept `depfile`" (document 02)
pub rule_key_law : (n : List ℕ) → rule_key n ≡ ltb (key_number n) 4
unfolding rule_key key_number key_names key_name
rule_key_law n = number_first n (bytes "command" ∷ bytes "description" ∷ bytes "generator" ∷ bytes "depfile" ∷ []) (bytes "pool" ∷ [])

pub no_key : (n : List ℕ) → rule_keys ≤ key_number n → rule_key n ≡ false
no_key n h = rule_key_law n ∙ le-ltb (key_number n) 4 (omega (arith, h))

pub key_low : (key : Key) → key_number (key_name key) < rule_keys
unfolding key_number key_names key_name number_of eq_bytes
key_low Command = omega arith
key_low Description = omega arith
key_low Generator = omega arith
key_low Depfile = omega arith
key_low Pool = omega arith
