-- The log of a reading: every line so far that binds a name or declares a rule, and every scope that was entered or gone back to, the newest first;
-- and what is looked up in it.
use Rattle.std.specs.Prelude.{ℕ, suc, ◌+◌, ◌*◌, ◌-◌, ◌<◌, Bool, true, false, ◌&&◌, List, [], ◌∷◌, ◌++◌, ◌≡◌, eqb, length, get_or, drop, Option as StdOption, Some, None}
use Rattle.std.proofs.Math.Option.{Option, none, some}
use Rattle.lists.specs.Tests.{if_b}
use Rattle.lists.specs.Bytes.{eq_bytes}
use Rattle.spec.specs.Reading.{Bound, Rule, Scope, Variables}

-- One line: whose it is, the name, and the value. A declaration has the rule's name and no value; a rule's key has its value as written, any
-- other line its value expanded.
pub record Logged : Type 0 where
  pub owner : ℕ
  pub name : List ℕ
  pub value : List ℕ

abbrev pub logged : ℕ → List ℕ → List ℕ → Logged
logged o n v = record { owner = o; name = n; value = v }

-- Owners: the variables of scope k, the declarations of rules, the marks of scopes, the keys of the rule whose declaration is entry k, and the block
-- of step s. Entries are numbered from 0 as they are read.
abbrev pub of_scope : ℕ → ℕ
of_scope k = 3 * k

abbrev pub of_rules : ℕ
of_rules = 1

abbrev pub of_marks : ℕ
of_marks = 2

abbrev pub of_keys : ℕ → ℕ
of_keys k = 4 + 3 * k

abbrev pub of_block : ℕ → ℕ
of_block s = 5 + 3 * s

-- The marks: a new scope is entered; the scope k is gone back to.
abbrev pub entering : Logged
entering = logged of_marks [] []

abbrev pub back_to : ℕ → Logged
back_to k = logged of_marks (k ∷ []) []

-- ------------------------------------------------------------------ entries by number

abbrev pub no_entry : Logged
no_entry = logged 0 [] []

unfoldable pub entry_at : ℕ → List Logged → Logged
entry_at k log = get_or log (length log - suc k) no_entry

-- the log when it had k entries
unfoldable pub as_of : ℕ → List Logged → List Logged
as_of k log = drop (length log - k) log

-- ------------------------------------------------------------------ the newest entry of a name

unfoldable pub is_named : ℕ → List ℕ → Logged → Bool
unfolding eq_bytes
is_named o n e = eqb e.owner o && eq_bytes n e.name

-- "a later line replaces it", "last one wins"
unfoldable pub newest : ℕ → List ℕ → List Logged → StdOption ℕ
unfolding is_named
newest o n [] = None
newest o n (e ∷ l) = if_b (is_named o n e) (λ _. Some (length l)) (λ _. newest o n l)

unfoldable pub is_at : StdOption ℕ → Bool
is_at (Some k) = true
is_at None = false

-- the first of two that is there
unfoldable pub or_newest : StdOption ℕ → StdOption ℕ → StdOption ℕ
or_newest (Some k) g = Some k
or_newest None g = g

unfoldable pub value_of : StdOption ℕ → List Logged → Option (List ℕ)
unfolding entry_at
value_of (Some k) log = some (entry_at k log).value
value_of None log = none

-- ------------------------------------------------------------------ what it means for the reading

abbrev pub bound_of : Logged → Bound
bound_of e = record { name = e.name; value = e.value }

-- one owner's lines, newest first
unfoldable pub bound_by : ℕ → List Logged → List Bound
bound_by o [] = []
bound_by o (e ∷ l) = if_b (eqb e.owner o) (λ _. bound_of e ∷ bound_by o l) (λ _. bound_by o l)

-- the scopes that were entered: for each the scopes around it, the nearest first; and the one that is read in
pub record Scoping : Type 0 where
  pub outers : List (List ℕ)
  pub current : ℕ

-- what a mark does: one without a name enters a scope inside the current one, any other goes back to the scope of that number
unfoldable pub scoping_after : List ℕ → Scoping → Scoping
scoping_after [] g = record { outers = g.outers ++ ((g.current ∷ get_or g.outers g.current []) ∷ []); current = length g.outers }
scoping_after (k ∷ n) g = record { outers = g.outers; current = k }

unfoldable pub scoping_of : List Logged → Scoping
unfolding scoping_after
scoping_of [] = record { outers = [] ∷ []; current = 0 }
scoping_of (e ∷ l) = if_b (eqb e.owner of_marks) (λ _. scoping_after e.name (scoping_of l)) (λ _. scoping_of l)

-- the scopes from number k on, with their variables
unfoldable pub scopes_from : ℕ → List (List ℕ) → List Logged → List Scope
unfolding bound_by
scopes_from k [] log = []
scopes_from k (o ∷ os) log = record { outer = o; own = bound_by (of_scope k) log } ∷ scopes_from (suc k) os log

unfoldable pub variables_of : List Logged → Variables
unfolding scoping_of scopes_from
variables_of log = record { scopes = scopes_from 0 (scoping_of log).outers log; current = (scoping_of log).current }

-- the newest entry of a name that is seen through these scopes, the first of them that has one
unfoldable pub newest_through : List ℕ → List ℕ → List Logged → StdOption ℕ
unfolding newest
newest_through [] n log = None
newest_through (k ∷ ks) n log = or_newest (newest (of_scope k) n log) (newest_through ks n log)

-- .. that is seen from a scope
unfoldable pub newest_from : ℕ → List ℕ → List Logged → StdOption ℕ
unfolding newest_through scoping_of
newest_from k n log = newest_through (k ∷ get_or (scoping_of log).outers k []) n log

-- the rules declared in a part of the log, with their keys in the whole of it, newest first
unfoldable pub rules_in : List Logged → List Logged → List Rule
unfolding bound_by
rules_in log [] = []
rules_in log (e ∷ l) =
    if_b (eqb e.owner of_rules) (λ _. record { name = e.name; keys = bound_by (of_keys (length l)) log } ∷ rules_in log l) (λ _. rules_in log l)

unfoldable pub rules_of : List Logged → List Rule
unfolding rules_in
rules_of log = rules_in log log

-- the number of the newest declaration: the rule whose block is open, while one is
unfoldable pub newest_rule : List Logged → StdOption ℕ
newest_rule [] = None
newest_rule (e ∷ l) = if_b (eqb e.owner of_rules) (λ _. Some (length l)) (λ _. newest_rule l)

unfoldable pub keys_at : StdOption ℕ → List Logged → List Bound
unfolding bound_by
keys_at (Some k) log = bound_by (of_keys k) log
keys_at None log = []

-- the newest rule with a key more
unfoldable pub with_key : Bound → List Rule → List Rule
with_key b [] = []
with_key b (r ∷ rs) = record { name = r.name; keys = b ∷ r.keys } ∷ rs

-- A key stands after its rule's declaration, a block line in the block of a step that was begun, and a variable in a scope that was entered.
pub record Owner (steps entries scopes o : ℕ) : Type 0 where
  pub key : (k : ℕ) → o ≡ of_keys k → k < entries
  pub line : (s : ℕ) → o ≡ of_block s → s < steps
  pub scope : (k : ℕ) → o ≡ of_scope k → k < scopes

abbrev pub Owned : ℕ → List Logged → Type 0
Owned steps [] = Unit {0}
Owned steps (e ∷ l) = Owner steps (length l) (length (scoping_of l).outers) e.owner × Owned steps l
