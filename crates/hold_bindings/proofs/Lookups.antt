-- What is looked up in a log, as the reading looks it up, and what an entry more changes.
use Rattle.std.specs.Prelude.{Option as StdOption, Some, None}
use Prim.Native.Nat.{ℕ, suc, ◌-◌, ◌≤◌, ◌<◌}
use mathlib.Core.Bool.{true, false}
use mathlib.Core.List.{List, [], ◌∷◌, map}
use mathlib.Core.Option.{Option, some}
use mathlib.Core.Path.{◌≡◌, refl, sym, ◌∙◌, ap}
use native.Mathlib.Omega.{arith}
use borrow.Author.Tests.{eq-eqb, ne_eqb}
use lib.Dec.{eqb}
use lib.ListN.{length}
use Rattle.lists.specs.Tests.{split}
use Rattle.lists.specs.Bytes.{eq_bytes}
use Rattle.lists.specs.Members.{any}
use Rattle.spec.specs.Basics.{or_else, among}
use Rattle.spec.specs.Reading.{Rule, bound_to, has_key, keys_of}
use Rattle.hold_bindings.specs.Log.{Logged, of_scope, of_rules, of_marks, of_keys, of_block, entry_at, is_named, newest, is_at, value_of, bound_of, bound_by, rules_in, rules_of, newest_rule, keys_at, with_key, Owner, Owned}

-- ---- numbers of entries

pub newest_below : (o : ℕ) (n : List ℕ) (log : List Logged) (k : ℕ) → newest o n log ≡ Some k → k < length log
unfolding newest
newest_below o n [] k e = let z : ◌≡◌ {A = ℕ} 0 1 = cc in omega arith
newest_below o n (x ∷ l) k e =
    split (is_named o n x)
    (λ (t : is_named o n x ≡ true). let p : Some (length l) ≡ Some k = rw t at e in let q : length l ≡ k = cc in omega arith)
    (λ (t : is_named o n x ≡ false). let h = newest_below o n l k (rw t at e) in omega arith)

-- An entry keeps its number.
pub entry_kept : (x : Logged) (l : List Logged) (k : ℕ) → k < length l → entry_at k (x ∷ l) ≡ entry_at k l
unfolding entry_at
entry_kept x l k h = let z : suc (length l) - suc k ≡ suc (length l - suc k) = omega arith in rw z

pub entry_newest : (x : Logged) (l : List Logged) → entry_at (length l) (x ∷ l) ≡ x
unfolding entry_at
entry_newest x l = let z : suc (length l) - suc (length l) ≡ 0 = omega arith in rw z

-- ---- one owner's lines

module _ (e : Logged) (l : List Logged) (o : ℕ) where
  pub bound_same : e.owner ≡ o → bound_by o (e ∷ l) ≡ bound_of e ∷ bound_by o l
  unfolding bound_by
  bound_same h = rw (eq-eqb e.owner o h)

  pub bound_other : (e.owner ≡ o → ⊥) → bound_by o (e ∷ l) ≡ bound_by o l
  unfolding bound_by
  bound_other h = rw (ne_eqb e.owner o h)

-- ---- the newest entry of a name is what a lookup finds

value_kept : (x : Logged) (l : List Logged) (f : StdOption ℕ) → ((k : ℕ) → f ≡ Some k → k < length l) → value_of f (x ∷ l) ≡ value_of f l
unfolding value_of
value_kept x l (Some k) h = ap (λ (e : Logged). some e.value) (entry_kept x l k (h k refl))
value_kept x l None h = refl

pub find_newest : (o : ℕ) (n : List ℕ) (log : List Logged) → bound_to n (bound_by o log) ≡ value_of (newest o n log) log
unfolding bound_to bound_by newest is_named value_of
find_newest o n [] = refl
find_newest o n (e ∷ l) =
    let older : bound_to n (bound_by o l) ≡ value_of (newest o n l) (e ∷ l) =
    find_newest o n l ∙ sym (value_kept e l (newest o n l) (newest_below o n l)) in
    split (eqb e.owner o)
    (λ (p : eqb e.owner o ≡ true).
    split (eq_bytes n e.name)
    (λ (q : eq_bytes n e.name ≡ true). rw (p, q) (ap (λ (x : Logged). some x.value) (sym (entry_newest e l))))
    (λ (q : eq_bytes n e.name ≡ false). rw (p, q) older))
    (λ (p : eqb e.owner o ≡ false). rw p older)

-- "An unset name expands to nothing."
abbrev pub or_empty : Option (List ℕ) → List ℕ
or_empty o = or_else o (λ v. v) λ _. []

pub key_newest : (o : ℕ) (n : List ℕ) (log : List Logged) → has_key n (bound_by o log) ≡ is_at (newest o n log)
unfolding has_key among any bound_by newest is_named is_at
key_newest o n [] = refl
key_newest o n (e ∷ l) =
    split (eqb e.owner o)
    (λ (p : eqb e.owner o ≡ true).
    split (eq_bytes n e.name)
    (λ (q : eq_bytes n e.name ≡ true). rw (p, q))
    (λ (q : eq_bytes n e.name ≡ false). rw (p, q) (key_newest o n l)))
    (λ (p : eqb e.owner o ≡ false). rw p (key_newest o n l))

-- ---- owners

pub keys_not_step : (k s : ℕ) → of_keys k ≡ of_block s → ⊥
keys_not_step k s e = omega arith

module _ (steps entries scopes : ℕ) where
  pub owner_scope : (k : ℕ) → k < scopes → Owner steps entries scopes (of_scope k)
  owner_scope k h = record { key = λ j e. absurd (omega arith); line = λ s e. absurd (omega arith); scope = λ j e. omega arith }

  pub owner_rules : Owner steps entries scopes of_rules
  owner_rules = record { key = λ k e. absurd (omega arith); line = λ s e. absurd (omega arith); scope = λ k e. absurd (omega arith) }

  pub owner_marks : Owner steps entries scopes of_marks
  owner_marks = record { key = λ k e. absurd (omega arith); line = λ s e. absurd (omega arith); scope = λ k e. absurd (omega arith) }

  pub owner_keys : (j : ℕ) → j < entries → Owner steps entries scopes (of_keys j)
  owner_keys j h = record { key = λ k e. omega arith; line = λ s e. absurd (keys_not_step j s e); scope = λ k e. absurd (omega arith) }

  pub owner_step : (j : ℕ) → j < steps → Owner steps entries scopes (of_block j)
  owner_step j h = record { key = λ k e. absurd (keys_not_step k j (sym e)); line = λ s e. omega arith; scope = λ k e. absurd (omega arith) }

pub owned_more : (a b : ℕ) (log : List Logged) → a ≤ b → Owned a log → Owned b log
owned_more a b [] h w = tt
owned_more a b (e ∷ l) h w =
    (record { key = w.0.key; line = λ s p. let m = w.0.line s p in omega arith; scope = w.0.scope }, owned_more a b l h w.1)

-- The block of a step that was not begun has no line, and an entry that is not there has no keys.
pub no_lines : (steps : ℕ) (log : List Logged) (s : ℕ) → Owned steps log → steps ≤ s → bound_by (of_block s) log ≡ []
unfolding bound_by
no_lines steps [] s w h = refl
no_lines steps (e ∷ l) s w h =
    bound_other e l (of_block s) (λ p. let m = w.0.line s p in omega arith) ∙ no_lines steps l s w.1 h

pub no_keys : (steps : ℕ) (log : List Logged) (k : ℕ) → Owned steps log → length log ≤ k → bound_by (of_keys k) log ≡ []
unfolding bound_by
no_keys steps [] k w h = refl
no_keys steps (e ∷ l) k w h =
    bound_other e l (of_keys k) (λ p. let m = w.0.key k p in omega arith) ∙ no_keys steps l k w.1 (omega arith)

-- ---- rules

declared_in : (n : List ℕ) (log l : List Logged) → among n (map (λ (r : Rule). r.name) (rules_in log l)) ≡ is_at (newest of_rules n l)
unfolding among any rules_in newest is_named is_at
declared_in n log [] = refl
declared_in n log (e ∷ l) =
    split (eqb e.owner of_rules)
    (λ (p : eqb e.owner of_rules ≡ true).
    split (eq_bytes n e.name)
    (λ (q : eq_bytes n e.name ≡ true). rw (p, q))
    (λ (q : eq_bytes n e.name ≡ false). rw (p, q) (declared_in n log l)))
    (λ (p : eqb e.owner of_rules ≡ false). rw p (declared_in n log l))

pub declared_newest : (n : List ℕ) (log : List Logged) → among n (map (λ (r : Rule). r.name) (rules_of log)) ≡ is_at (newest of_rules n log)
unfolding rules_of
declared_newest n log = declared_in n log log

keys_in : (n : List ℕ) (log l : List Logged) → keys_of n (rules_in log l) ≡ keys_at (newest of_rules n l) log
unfolding keys_of rules_in newest is_named keys_at
keys_in n log [] = refl
keys_in n log (e ∷ l) =
    split (eqb e.owner of_rules)
    (λ (p : eqb e.owner of_rules ≡ true).
    split (eq_bytes n e.name)
    (λ (q : eq_bytes n e.name ≡ true). rw (p, q))
    (λ (q : eq_bytes n e.name ≡ false). rw (p, q) (keys_in n log l)))
    (λ (p : eqb e.owner of_rules ≡ false). rw p (keys_in n log l))

pub keys_newest : (n : List ℕ) (log : List Logged) → keys_of n (rules_of log) ≡ keys_at (newest of_rules n log) log
unfolding rules_of
keys_newest n log = keys_in n log log

-- ---- an entry more among the rules

-- an entry that is no key of the rules declared in m
other_keys : (e : Logged) (l m : List Logged) → ((k : ℕ) → k < length m → e.owner ≡ of_keys k → ⊥) → rules_in (e ∷ l) m ≡ rules_in l m
unfolding rules_in
other_keys e l [] h = refl
other_keys e l (x ∷ m) h =
    let older : rules_in (e ∷ l) m ≡ rules_in l m = other_keys e l m (λ k b. h k (omega arith)) in
    split (eqb x.owner of_rules)
    (λ (p : eqb x.owner of_rules ≡ true).
    rw (p, bound_other e l (of_keys (length m)) (h (length m) (omega arith))) (ap (λ (rs : List Rule). record { name = x.name; keys = bound_by (of_keys (length m)) l } ∷ rs) older))
    (λ (p : eqb x.owner of_rules ≡ false). rw p older)

module _ (e : Logged) (l : List Logged) where
  pub rules_other : (e.owner ≡ of_rules → ⊥) → ((k : ℕ) → e.owner ≡ of_keys k → ⊥) → rules_of (e ∷ l) ≡ rules_of l
  unfolding rules_of rules_in
  rules_other h f = rw (ne_eqb e.owner of_rules h) (other_keys e l l (λ k b. f k))

  pub rules_declared : (steps : ℕ) → Owned steps l → e.owner ≡ of_rules → rules_of (e ∷ l) ≡ record { name = e.name; keys = [] } ∷ rules_of l
  unfolding rules_of rules_in
  rules_declared steps w h =
      let f : (k : ℕ) → e.owner ≡ of_keys k → ⊥ = λ k p. omega arith in
      rw (eq-eqb e.owner of_rules h, bound_other e l (of_keys (length l)) (f (length l)), no_keys steps l (length l) w (omega arith))
      (ap (λ (rs : List Rule). record { name = e.name; keys = [] } ∷ rs) (other_keys e l l (λ k b. f k)))

  more_keys : (k : ℕ) → e.owner ≡ of_keys k → (m : List Logged) → newest_rule m ≡ Some k → rules_in (e ∷ l) m ≡ with_key (bound_of e) (rules_in l m)
  unfolding rules_in newest_rule with_key
  more_keys k h [] q = refl
  more_keys k h (x ∷ m) q =
      split (eqb x.owner of_rules)
      (λ (p : eqb x.owner of_rules ≡ true).
      let r : Some (length m) ≡ Some k = rw p at q in
      let z : length m ≡ k = cc in
      rw (p, bound_same e l (of_keys (length m)) (omega arith))
      (ap (λ (rs : List Rule). record { name = x.name; keys = bound_of e ∷ bound_by (of_keys (length m)) l } ∷ rs) (other_keys e l m (λ j b y. omega arith))))
      (λ (p : eqb x.owner of_rules ≡ false). rw p (more_keys k h m (rw p at q)))

  -- A key of the newest rule.
  pub rules_key : (k : ℕ) → e.owner ≡ of_keys k → newest_rule l ≡ Some k → rules_of (e ∷ l) ≡ with_key (bound_of e) (rules_of l)
  unfolding rules_of rules_in
  rules_key k h q = rw (ne_eqb e.owner of_rules (λ p. omega arith)) (more_keys k h l q)

  pub rule_begun : e.owner ≡ of_rules → newest_rule (e ∷ l) ≡ Some (length l)
  unfolding newest_rule
  rule_begun h = rw (eq-eqb e.owner of_rules h)

  pub rule_kept : (e.owner ≡ of_rules → ⊥) → newest_rule (e ∷ l) ≡ newest_rule l
  unfolding newest_rule
  rule_kept h = rw (ne_eqb e.owner of_rules h)
