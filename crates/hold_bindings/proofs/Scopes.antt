-- The scopes of a log: what is seen from one is what the reading sees from it, what an entry more changes, and how the buffers tell the way outward.
use Rattle.std.specs.Prelude.{Option, Some, None}
use Prim.Native.Nat.{ℕ, zero, suc, ◌+◌, ◌-◌, ◌≤◌, ◌<◌}
use mathlib.Core.Bool.{true, false}
use mathlib.Core.List.{List, [], ◌∷◌, ◌++◌}
use mathlib.Core.Option.{none, some}
use mathlib.Core.Path.{◌≡◌, refl, sym, ◌∙◌, ap}
use native.Mathlib.Nat.{not-suc-le-zero}
use native.Mathlib.Omega.{arith}
use borrow.Author.Tests.{ne_eqb}
use lib.Dec.{eqb}
use lib.ListN.{length, get_or, set, drop, length-set, length-append}
use lib.Seq.{get_or-drop, get_or-set_same, get_or-set_other}
use Rattle.lists.specs.Tests.{split}
use Rattle.lists.specs.Bytes.{eq_bytes}
use Rattle.spec.specs.Reading.{Bound, Scope, scope_at, bound_to, own_vars, seen_from, var_from, file_var, bind_in}
use Rattle.spec.specs.Statements.{bound}
use Rattle.spec.specs.Manifest.{entered}
use Rattle.hold_bindings.specs.Log.{Logged, logged, of_scope, of_marks, entering, back_to, Owned, scoping_after, newest, or_newest, value_of, bound_of, bound_by, Scoping, scoping_of, scopes_from, variables_of, newest_through, newest_from}
use Rattle.hold_bindings.specs.Held.{scopes_at, current_at, parents_at, max_rows, Parent, top, inside, HoldsScopes, HoldsBindings, HasScope}
use Rattle.hold_bindings.proofs.Lookups.{newest_below, find_newest, or_empty, bound_same, bound_other}

-- ---- an entry more

pub scoping_other : (e : Logged) (l : List Logged) → (e.owner ≡ of_marks → ⊥) → scoping_of (e ∷ l) ≡ scoping_of l
unfolding scoping_of
scoping_other e l h = rw (ne_eqb e.owner of_marks h)

scopes_other : (e : Logged) (l : List Logged) (k : ℕ) (os : List (List ℕ)) → ((j : ℕ) → k ≤ j → e.owner ≡ of_scope j → ⊥) → scopes_from k os (e ∷ l) ≡ scopes_from k os l
unfolding scopes_from
scopes_other e l k [] h = refl
scopes_other e l k (o ∷ os) h =
    rw (bound_other e l (of_scope k) (h k (omega arith)))
    (ap (λ (s : List Scope). record { outer = o; own = bound_by (of_scope k) l } ∷ s) (scopes_other e l (suc k) os (λ j b. h j (omega arith))))

scopes_bound : (e : Logged) (l : List Logged) (k c : ℕ) (os : List (List ℕ)) → e.owner ≡ of_scope (k + c) → scopes_from k os (e ∷ l) ≡ bind_in c (bound_of e) (scopes_from k os l)
unfolding scopes_from bind_in
scopes_bound e l k c [] h = refl
scopes_bound e l k zero (o ∷ os) h =
    rw (bound_same e l (of_scope k) (omega arith))
    (ap (λ (s : List Scope). record { outer = o; own = bound_of e ∷ bound_by (of_scope k) l } ∷ s) (scopes_other e l (suc k) os (λ j b p. omega arith)))
scopes_bound e l k (suc c) (o ∷ os) h =
    rw (bound_other e l (of_scope k) (λ p. omega arith))
    (ap (λ (s : List Scope). record { outer = o; own = bound_by (of_scope k) l } ∷ s) (scopes_bound e l (suc k) c os (omega arith)))

-- An entry that is no variable and no mark.
pub variables_other : (e : Logged) (l : List Logged) → ((k : ℕ) → e.owner ≡ of_scope k → ⊥) → (e.owner ≡ of_marks → ⊥) → variables_of (e ∷ l) ≡ variables_of l
unfolding variables_of
variables_other e l h m =
    rw (scoping_other e l m)
    (ap (λ (s : List Scope). record { scopes = s; current = (scoping_of l).current }) (scopes_other e l 0 (scoping_of l).outers (λ j b. h j)))

-- A variable of the scope that is read in.
pub variables_bound : (n v : List ℕ) (l : List Logged) → (scoping_of l).current < length (scoping_of l).outers
    → variables_of (logged (of_scope (scoping_of l).current) n v ∷ l) ≡ bound (record { name = n; value = v }) (variables_of l)
unfolding variables_of
variables_bound n v l b =
    let e = logged (of_scope (scoping_of l).current) n v in
    rw (scoping_other e l (λ p. omega arith))
    (ap (λ (s : List Scope). record { scopes = s; current = (scoping_of l).current }) (scopes_bound e l 0 (scoping_of l).current (scoping_of l).outers (omega arith)))

-- ---- a scope by its number

scope_at_law : (log : List Logged) (j k : ℕ) (os : List (List ℕ)) → k < length os → scope_at (scopes_from j os log) k ≡ record { outer = get_or os k []; own = bound_by (of_scope (j + k)) log }
unfolding scopes_from
scope_at_law log j k [] h = absurd (not-suc-le-zero h)
scope_at_law log j zero (o ∷ os) h = let z : j + 0 ≡ j = omega arith in rw z
scope_at_law log j (suc k) (o ∷ os) h = let z : j + suc k ≡ suc j + k = omega arith in rw z (scope_at_law log (suc j) k os (omega arith))

-- ---- a scope is entered, and one is gone back to

scopes_long : (k : ℕ) (os : List (List ℕ)) (log : List Logged) → length (scopes_from k os log) ≡ length os
unfolding scopes_from
scopes_long k [] log = refl
scopes_long k (o ∷ os) log = ap suc (scopes_long (suc k) os log)

scopes_last : (k : ℕ) (os : List (List ℕ)) (o : List ℕ) (log : List Logged) → scopes_from k (os ++ (o ∷ [])) log ≡ scopes_from k os log ++ (record { outer = o; own = bound_by (of_scope (k + length os)) log } ∷ [])
unfolding scopes_from
scopes_last k [] o log = let z : k + 0 ≡ k = omega arith in rw z
scopes_last k (x ∷ os) o log =
    let z : suc k + length os ≡ k + suc (length os) = omega arith in
    ap (λ (s : List Scope). record { outer = x; own = bound_by (of_scope k) log } ∷ s) (scopes_last (suc k) os o log ∙ rw z)

outers_grow : (n : List ℕ) (g : Scoping) → length g.outers ≤ length (scoping_after n g).outers
unfolding scoping_after
outers_grow [] g = omega (arith, length-append g.outers ((g.current ∷ get_or g.outers g.current []) ∷ []))
outers_grow (k ∷ n) g = omega arith

scopes_grow : (e : Logged) (l : List Logged) → length (scoping_of l).outers ≤ length (scoping_of (e ∷ l)).outers
unfolding scoping_of
scopes_grow e l =
    split (eqb e.owner of_marks)
    (λ (p : eqb e.owner of_marks ≡ true). rw p (outers_grow e.name (scoping_of l)))
    (λ (p : eqb e.owner of_marks ≡ false). rw p (omega arith))

-- A scope that was not entered has no variables.
no_variables : (steps : ℕ) (log : List Logged) (k : ℕ) → Owned steps log → length (scoping_of log).outers ≤ k → bound_by (of_scope k) log ≡ []
unfolding bound_by
no_variables steps [] k w h = refl
no_variables steps (e ∷ l) k w h =
    bound_other e l (of_scope k) (λ p. let m = w.0.scope k p in omega (arith, m, h, scopes_grow e l))
    ∙ no_variables steps l k w.1 (omega (arith, h, scopes_grow e l))

pub variables_entered : (steps : ℕ) (l : List Logged) → Owned steps l → (scoping_of l).current < length (scoping_of l).outers
    → variables_of (entering ∷ l) ≡ entered true (variables_of l)
unfolding variables_of scoping_of scoping_after entered
variables_entered steps l w b =
    let g = scoping_of l in
    let o = g.current ∷ get_or g.outers g.current [] in
    let z : 0 + length g.outers ≡ length g.outers = omega arith in
    let s : scopes_from 0 (g.outers ++ (o ∷ [])) (entering ∷ l) ≡ scopes_from 0 g.outers l ++ (record { outer = o; own = [] } ∷ []) =
    scopes_other entering l 0 (g.outers ++ (o ∷ [])) (λ j c p. omega arith)
    ∙ scopes_last 0 g.outers o l
    ∙ rw (z, no_variables steps l (length g.outers) w (omega arith)) in
    rw (s, scopes_long 0 g.outers l, scope_at_law l 0 g.current g.outers b)

pub variables_back : (k : ℕ) (l : List Logged) → variables_of (back_to k ∷ l) ≡ record { scopes = (variables_of l).scopes; current = k }
unfolding variables_of scoping_of scoping_after
variables_back k l =
    ap (λ (s : List Scope). record { scopes = s; current = k }) (scopes_other (back_to k) l 0 (scoping_of l).outers (λ j c p. omega arith))

-- ---- through some scopes

module _ (n : List ℕ) where
  bound_first : (a b : List Bound) (v : List ℕ) → bound_to n a ≡ some v → bound_to n (a ++ b) ≡ some v
  unfolding bound_to
  bound_first [] b v e = let z : ◌≡◌ {A = ℕ} 0 1 = cc in absurd (omega arith)
  bound_first (x ∷ a) b v e =
      split (eq_bytes n x.name)
      (λ (p : eq_bytes n x.name ≡ true). rw p (rw p at e))
      (λ (p : eq_bytes n x.name ≡ false). rw p (bound_first a b v (rw p at e)))

  bound_second : (a b : List Bound) → bound_to n a ≡ none → bound_to n (a ++ b) ≡ bound_to n b
  unfolding bound_to
  bound_second [] b e = refl
  bound_second (x ∷ a) b e =
      split (eq_bytes n x.name)
      (λ (p : eq_bytes n x.name ≡ true). let q : some x.value ≡ none = rw p at e in let z : ◌≡◌ {A = ℕ} 0 1 = cc in absurd (omega arith))
      (λ (p : eq_bytes n x.name ≡ false). rw p (bound_second a b (rw p at e)))

  found_first : (log : List Logged) (a b : List Bound) (f g : Option ℕ) → bound_to n a ≡ value_of f log → bound_to n b ≡ value_of g log
      → bound_to n (a ++ b) ≡ value_of (or_newest f g) log
  unfolding or_newest value_of
  found_first log a b (Some k) g p q = bound_first a b _ p
  found_first log a b None g p q = bound_second a b p ∙ q

-- ---- what is seen from a scope

-- All of them are there.
abbrev Below : ℕ → List ℕ → Type 0
Below m [] = Unit {0}
Below m (k ∷ ks) = (k < m) × Below m ks

seen_through : (n : List ℕ) (log : List Logged) (os : List (List ℕ)) (ks : List ℕ) → Below (length os) ks
    → bound_to n (own_vars (scopes_from 0 os log) ks) ≡ value_of (newest_through ks n log) log
unfolding own_vars newest_through bound_to value_of
seen_through n log os [] h = refl
seen_through n log os (k ∷ ks) h =
    let z : 0 + k ≡ k = omega arith in
    rw (scope_at_law log 0 k os h.0, z)
    (found_first n log (bound_by (of_scope k) log) (own_vars (scopes_from 0 os log) ks) (newest (of_scope k) n log) (newest_through ks n log) (find_newest (of_scope k) n log) (seen_through n log os ks h.1))

-- ---- the way outward

module _ {outers : List (List ℕ)} {k : ℕ} where
  around_none : {os : List ℕ} {x : ℕ} → Parent outers k os x → x ≡ 0 → os ≡ []
  around_none top e = refl
  around_none (inside b) e = absurd (omega arith)

  around_some : {os : List ℕ} {x : ℕ} → Parent outers k os x → 0 < x → (x - 1 < k) × (os ≡ (x - 1) ∷ get_or outers (x - 1) [])
  around_some top e = absurd (not-suc-le-zero e)
  around_some (inside {p} b) e = let z : suc p - 1 ≡ p = omega arith in rw z (b, refl)

  around_below : {os : List ℕ} {x : ℕ} → Parent outers k os x → (m : ℕ) → k < m → ((p : ℕ) → p < k → Below m (get_or outers p [])) → Below m os
  around_below top m b r = tt
  around_below (inside {p} c) m b r = (omega arith, r p c)

module _ {g : Scoping} {bind : List ℕ} (h : HoldsScopes g bind) where
  outer_below : (f k : ℕ) → k < f → k < length g.outers → Below (length g.outers) (get_or g.outers k [])
  outer_below zero k a b = absurd (not-suc-le-zero a)
  outer_below (suc f) k a b = around_below (h.parents k b) (length g.outers) b (λ p c. outer_below f p (omega arith) (omega arith))

module _ (log : List Logged) {bind : List ℕ} (h : HoldsScopes (scoping_of log) bind) where
  pub var_newest : (k : ℕ) → k < length (scoping_of log).outers → (n : List ℕ) → var_from (variables_of log).scopes k n ≡ or_empty (value_of (newest_from k n log) log)
  unfolding var_from seen_from variables_of newest_from
  var_newest k b n =
      let o = (scoping_of log).outers in
      let seen : bound_to n (own_vars (scopes_from 0 o log) (k ∷ (scope_at (scopes_from 0 o log) k).outer)) ≡ value_of (newest_through (k ∷ get_or o k []) n log) log =
      rw (ap (λ (s : Scope). s.outer) (scope_at_law log 0 k o b)) (seen_through n log o (k ∷ get_or o k []) (b, outer_below h (suc k) k (omega arith) b)) in
      ap or_empty seen

  pub var_current : (n : List ℕ) → file_var (variables_of log) n ≡ or_empty (value_of (newest_from (scoping_of log).current n log) log)
  unfolding variables_of
  var_current n = var_newest (scoping_of log).current h.below n

-- ---- the number of what is seen

or_below : (m : ℕ) (f g : Option ℕ) → ((j : ℕ) → f ≡ Some j → j < m) → ((j : ℕ) → g ≡ Some j → j < m) → (j : ℕ) → or_newest f g ≡ Some j → j < m
unfolding or_newest
or_below m (Some k) g a b j e = a j e
or_below m None g a b j e = b j e

through_below : (ks n : List ℕ) (log : List Logged) (j : ℕ) → newest_through ks n log ≡ Some j → j < length log
unfolding newest_through
through_below [] n log j e = let z : ◌≡◌ {A = ℕ} 0 1 = cc in omega arith
through_below (k ∷ ks) n log j e =
    or_below (length log) (newest (of_scope k) n log) (newest_through ks n log) (newest_below (of_scope k) n log) (through_below ks n log) j e

pub newest_from_below : (k : ℕ) (n : List ℕ) (log : List Logged) (j : ℕ) → newest_from k n log ≡ Some j → j < length log
unfolding newest_from
newest_from_below k n log j e = through_below (k ∷ get_or (scoping_of log).outers k []) n log j e

-- ---- looking outward in the buffers

-- From scope k the name is seen as it is from the first one.
pub record Outward (texts bind : List ℕ) (count first : ℕ) (n : List ℕ) (k : ℕ) : Type 0 where
  pub within : (log : List Logged) → HoldsBindings log texts bind count → k < length (scoping_of log).outers
  pub same : (log : List Logged) → HoldsBindings log texts bind count → newest_from first n log ≡ newest_from k n log

pub out_begin : {texts bind : List ℕ} {count k : ℕ} (n : List ℕ) → HasScope texts bind count k → Outward texts bind count k n k
out_begin n s =
    record { within = λ log h. omega (arith, s.below, s.held.scopes.counted, h.scopes.counted); same = λ log h. refl }

module _ {texts bind : List ℕ} {count first : ℕ} {n : List ℕ} {k : ℕ} (x : Outward texts bind count first n k) {f : Option ℕ}
    (q : (log : List Logged) → HoldsBindings log texts bind count → f ≡ newest (of_scope k) n log) where
  pub out_found : {e : ℕ} → f ≡ Some e → (log : List Logged) → HoldsBindings log texts bind count → Some e ≡ newest_from first n log
  unfolding newest_from newest_through or_newest
  out_found e log h = sym (x.same log h ∙ rw (sym (q log h) ∙ e))

  -- The scope has no such variable, and v is the number for its parent.
  module _ (m : f ≡ None) {v : ℕ} (p : v ≡ get_or bind (parents_at + k) 0) where
    pub out_none : v ≡ 0 → (log : List Logged) → HoldsBindings log texts bind count → None ≡ newest_from first n log
    unfolding newest_from newest_through or_newest
    out_none z log h =
        sym (x.same log h ∙ rw (sym (q log h) ∙ m, around_none (h.scopes.parents k (x.within log h)) (sym p ∙ z)))

    pub out_less : 0 < v → (log : List Logged) → HoldsBindings log texts bind count → v - 1 < k
    out_less z log h = rw (← p) at (around_some (h.scopes.parents k (x.within log h)) (rw p at z)).0

    pub out_more : 0 < v → Outward texts bind count first n (v - 1)
    unfolding newest_from newest_through or_newest
    out_more z =
        record {
          within = λ log h. omega (arith, out_less z log h, x.within log h);
          same = λ log h. x.same log h ∙ rw (sym (q log h) ∙ m, (around_some (h.scopes.parents k (x.within log h)) (rw p at z)).1, ← p);
        }

-- ---- the scopes in the buffer

-- What lies from the scopes on is as it was.
pub scopes_kept : {g : Scoping} {bind bind' : List ℕ} → HoldsScopes g bind → drop scopes_at bind' ≡ drop scopes_at bind → HoldsScopes g bind'
scopes_kept {g} {bind} {bind'} h e =
    let same : (i : ℕ) → get_or bind' (scopes_at + i) 0 ≡ get_or bind (scopes_at + i) 0 =
    λ i. sym (get_or-drop scopes_at bind' i 0) ∙ ap (λ (l : List ℕ). get_or l i 0) e ∙ get_or-drop scopes_at bind i 0 in
    record {
      counted = same 0 ∙ h.counted;
      now = same 1 ∙ h.now;
      below = h.below;
      few = h.few;
      parents = λ k b. let z : scopes_at + (2 + k) ≡ parents_at + k = omega arith in let w = rw z at (same (2 + k)) in rw w (h.parents k b);
    }

-- The first scope alone.
module _ (bind : List ℕ) (l : max_rows ≤ length bind) where
  abbrev begun : List ℕ
  begun = set (set (set bind scopes_at 1) current_at 0) parents_at 0

  no_parent : (k : ℕ) → k < 1 → Parent ([] ∷ []) k (get_or ([] ∷ []) k []) (get_or begun (parents_at + k) 0)
  no_parent zero b = rw (get_or-set_same (set (set bind scopes_at 1) current_at 0) parents_at 0 0 (simp length-set (omega arith))) top
  no_parent (suc k) b = absurd (omega arith)

  pub scopes_begun : HoldsScopes (scoping_of []) begun
  unfolding scoping_of
  scopes_begun =
      record {
        counted =
            get_or-set_other (set (set bind scopes_at 1) current_at 0) parents_at scopes_at 0 0 (λ e. omega arith)
            ∙ get_or-set_other (set bind scopes_at 1) current_at scopes_at 0 0 (λ e. omega arith)
            ∙ get_or-set_same bind scopes_at 1 0 (omega arith);
        now =
            get_or-set_other (set (set bind scopes_at 1) current_at 0) parents_at current_at 0 0 (λ e. omega arith)
            ∙ get_or-set_same (set bind scopes_at 1) current_at 0 0 (simp length-set (omega arith));
        below = omega arith;
        few = omega arith;
        parents = no_parent;
      }

-- ---- the scopes of the log by number

pub scopes_counted : (log : List Logged) → length (variables_of log).scopes ≡ length (scoping_of log).outers
unfolding variables_of
scopes_counted log = scopes_long 0 (scoping_of log).outers log

pub outer_at : (log : List Logged) (k : ℕ) → k < length (scoping_of log).outers → (scope_at (variables_of log).scopes k).outer ≡ get_or (scoping_of log).outers k []
unfolding variables_of
outer_at log k h = ap (λ (s : Scope). s.outer) (scope_at_law log 0 k (scoping_of log).outers h)
