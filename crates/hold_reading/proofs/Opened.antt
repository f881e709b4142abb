-- A file that is opened: the table of bindings with it, in the scope that is read in or in a new one, and back in the scope before.
use Prim.Native.Nat.{ℕ, suc, ◌+◌, ◌≤◌, ◌<◌}
use mathlib.Core.Bool.{true, false}
use mathlib.Core.List.{List, [], ◌∷◌}
use mathlib.Core.Path.{◌≡◌, refl, sym, ◌∙◌, ap}
use native.Mathlib.Omega.{arith}
use lib.ListN.{length, get_or, length-append}
use lib.Seq.{get_or-append_seam}
use Rattle.spec.specs.Limits.{max_written, max_opened}
use Rattle.spec.specs.Reading.{Variables, Reading, scope_at}
use Rattle.spec.specs.Manifest.{with_opened, entered}
use Rattle.hold_bindings.specs.Log.{Logged, of_block, entering, back_to, scoping_after, scoping_of, variables_of}
use Rattle.hold_bindings.specs.Held.{HoldsBindings, HasScopeRoom, HasBackRoom, values_in}
use Rattle.hold_bindings.proofs.Lookups.{bound_other, owner_marks, rules_other}
use Rattle.hold_bindings.proofs.Scopes.{variables_entered, variables_back, scopes_counted, outer_at}
use Rattle.hold_reading.specs.declared.Counts.{Counts}
use Rattle.hold_reading.specs.Held.{around_now, HoldsBound}
use Rattle.hold_reading.specs.Binds.{counted_opened, counted_entered, counted_back, Beside}

-- the variables and the reading in scope k
abbrev vars_in : ℕ → Variables → Variables
vars_in k vs = record { scopes = vs.scopes; current = k }

abbrev pub in_scope : ℕ → Reading → Reading
in_scope k rd =
    record { rules = rd.rules; vars = vars_in k rd.vars; files = rd.files; steps = rd.steps; defaults = rd.defaults; bindings = rd.bindings; mentions = rd.mentions; written = rd.written; opened = rd.opened }

-- ---- marks in a log

outers_entered : (l : List Logged) → length (scoping_of (entering ∷ l)).outers ≡ length (scoping_of l).outers + 1
unfolding scoping_of scoping_after
outers_entered l = length-append (scoping_of l).outers (((scoping_of l).current ∷ around_now l) ∷ [])

around_entered : (l : List Logged) → around_now (entering ∷ l) ≡ (scoping_of l).current ∷ around_now l
unfolding scoping_of scoping_after
around_entered l = get_or-append_seam (scoping_of l).outers ((scoping_of l).current ∷ around_now l) [] []

outers_back : (k : ℕ) (l : List Logged) → (scoping_of (back_to k ∷ l)).outers ≡ (scoping_of l).outers
unfolding scoping_of scoping_after
outers_back k l = refl

around_back : (k : ℕ) (l : List Logged) → around_now (back_to k ∷ l) ≡ get_or (scoping_of l).outers k []
unfolding scoping_of scoping_after
around_back k l = refl

-- ---- the scope that is read in

pub scope_there : {log : List Logged} {texts bind : List ℕ} {c : Counts} {rd : Reading} → HoldsBound log texts bind c rd → rd.vars.current < length rd.vars.scopes
unfolding variables_of
scope_there {log} {rd = rd} b =
    let k : rd.vars.current ≡ (scoping_of log).current = ap (λ (v : Variables). v.current) b.vars in
    let n : length rd.vars.scopes ≡ length (scoping_of log).outers = ap (λ (v : Variables). length v.scopes) b.vars ∙ scopes_counted log in
    rw (k, n) b.held.scopes.below

-- ---- a file more

module _ {log : List Logged} {texts bind : List ℕ} {c : Counts} {rd : Reading} (b : HoldsBound log texts bind c rd) (n : ℕ) (f : c.opened < max_opened)
    (w : c.written + n ≤ max_written) where
  -- in the same scope
  pub bound_open : HoldsBound log texts bind (counted_opened n c) (with_opened n (entered false rd.vars) rd)
  unfolding with_opened entered
  bound_open =
      record {
        held = b.held;
        vars = b.vars;
        rules = b.rules;
        blocks = b.blocks;
        scoped = b.scoped;
        owned = b.owned;
        steps_counted = b.steps_counted;
        rules_counted = b.rules_counted;
        bindings_counted = b.bindings_counted;
        written_counted = ap (λ (x : ℕ). x + n) b.written_counted;
        opened_counted = omega (arith, b.opened_counted);
        few_scopes = omega (arith, b.few_scopes);
        entries_counted = omega (arith, b.entries_counted);
        few_rules = b.few_rules;
        few_bindings = b.few_bindings;
        few_steps = b.few_steps;
        few_written = w;
        few_opened = omega (arith, f);
        shared = omega (arith, b.shared);
      }

  -- there is room for the mark of a new scope
  pub enter_room : HasScopeRoom texts bind c.entries
  enter_room =
      record {
        log = log;
        held = b.held;
        few = omega (arith, b.entries_counted, b.few_rules, b.few_bindings, f);
        free = omega (arith, b.few_scopes, f);
      }

  -- in a new scope
  pub bound_enter : {texts' bind' : List ℕ} → HoldsBindings (entering ∷ log) texts' bind' (c.entries + 1)
      → HoldsBound (entering ∷ log) texts' bind' (counted_entered n c) (with_opened n (entered true rd.vars) rd)
  unfolding with_opened values_in
  bound_enter h =
      record {
        held = h;
        vars = ap (entered true) b.vars ∙ sym (variables_entered (length rd.steps) log b.owned b.held.scopes.below);
        rules = b.rules ∙ sym (rules_other entering log (λ p. omega arith) (λ k p. omega arith));
        blocks = λ s d. b.blocks s d ∙ sym (bound_other entering log (of_block s) (λ p. omega arith));
        scoped = λ s d. omega (arith, outers_entered log, b.scoped s d);
        owned = (owner_marks (length rd.steps) (length log) (length (scoping_of log).outers), b.owned);
        steps_counted = b.steps_counted;
        rules_counted = b.rules_counted;
        bindings_counted = b.bindings_counted;
        written_counted = ap (λ (x : ℕ). x + n) b.written_counted;
        opened_counted = omega (arith, b.opened_counted);
        few_scopes = omega (arith, outers_entered log, b.few_scopes);
        entries_counted = rw (around_entered log) (omega (arith, b.entries_counted));
        few_rules = b.few_rules;
        few_bindings = b.few_bindings;
        few_steps = b.few_steps;
        few_written = w;
        few_opened = omega (arith, f);
        shared = omega (arith, b.shared);
      }

-- ---- back in the scope before

module _ {log : List Logged} {texts bind : List ℕ} {c : Counts} {rd : Reading} (b : HoldsBound log texts bind c rd) (k : ℕ) where
  -- it is the scope that is read in
  pub bound_same_scope : rd.vars.current ≡ k → HoldsBound log texts bind c (in_scope k rd)
  unfolding variables_of
  bound_same_scope e =
      record {
        held = b.held;
        vars = ap (λ (j : ℕ). vars_in j rd.vars) (sym e) ∙ ap (λ (v : Variables). vars_in v.current v) b.vars;
        rules = b.rules;
        blocks = b.blocks;
        scoped = b.scoped;
        owned = b.owned;
        steps_counted = b.steps_counted;
        rules_counted = b.rules_counted;
        bindings_counted = b.bindings_counted;
        written_counted = b.written_counted;
        opened_counted = b.opened_counted;
        few_scopes = b.few_scopes;
        entries_counted = b.entries_counted;
        few_rules = b.few_rules;
        few_bindings = b.few_bindings;
        few_steps = b.few_steps;
        few_written = b.few_written;
        few_opened = b.few_opened;
        shared = b.shared;
      }

  -- the scope that is read in was entered from it
  module _ (l : k < length rd.vars.scopes) (o : (scope_at rd.vars.scopes rd.vars.current).outer ≡ k ∷ (scope_at rd.vars.scopes k).outer) where
    below : k < length (scoping_of log).outers
    below = omega (arith, l, ap (λ (v : Variables). length v.scopes) b.vars, scopes_counted log)

    -- the scopes around it are one less
    around_left : length (around_now log) ≡ suc (length (get_or (scoping_of log).outers k []))
    unfolding variables_of
    around_left =
        let now : (scope_at rd.vars.scopes rd.vars.current).outer ≡ around_now log =
        ap (λ (v : Variables). (scope_at v.scopes v.current).outer) b.vars ∙ outer_at log (scoping_of log).current b.held.scopes.below in
        let before : (scope_at rd.vars.scopes k).outer ≡ get_or (scoping_of log).outers k [] =
        ap (λ (v : Variables). (scope_at v.scopes k).outer) b.vars ∙ outer_at log k below in
        ap length (sym now ∙ o ∙ ap (λ (os : List ℕ). k ∷ os) before)

    -- there is room for the mark
    pub back_room : HasBackRoom texts bind c.entries k
    back_room =
        record {
          scope = record { log = log; held = b.held; below = below };
          few = omega (arith, b.entries_counted, b.few_rules, b.few_bindings, b.few_opened);
        }

    pub bound_back : {texts' bind' : List ℕ} → HoldsBindings (back_to k ∷ log) texts' bind' (c.entries + 1)
        → HoldsBound (back_to k ∷ log) texts' bind' (counted_back c) (in_scope k rd)
    unfolding values_in
    bound_back h =
        record {
          held = h;
          vars = ap (vars_in k) b.vars ∙ sym (variables_back k log);
          rules = b.rules ∙ sym (rules_other (back_to k) log (λ p. omega arith) (λ j p. omega arith));
          blocks = λ s d. b.blocks s d ∙ sym (bound_other (back_to k) log (of_block s) (λ p. omega arith));
          scoped = λ s d. rw (outers_back k log) (b.scoped s d);
          owned = (owner_marks (length rd.steps) (length log) (length (scoping_of log).outers), b.owned);
          steps_counted = b.steps_counted;
          rules_counted = b.rules_counted;
          bindings_counted = b.bindings_counted;
          written_counted = b.written_counted;
          opened_counted = b.opened_counted;
          few_scopes = rw (outers_back k log) b.few_scopes;
          entries_counted = rw (around_back k log) (omega (arith, around_left, b.entries_counted));
          few_rules = b.few_rules;
          few_bindings = b.few_bindings;
          few_steps = b.few_steps;
          few_written = b.few_written;
          few_opened = b.few_opened;
          shared = omega (arith, b.shared);
        }

-- ---- what stays

module _ {c : Counts} {rd : Reading} where
  pub beside_open : (n : ℕ) (vs : Variables) → Beside c rd (counted_opened n c) (with_opened n vs rd)
  unfolding with_opened
  beside_open n vs =
      record { files = refl; steps = refl; defaults = refl; mentions = refl; files_counted = refl; paths_counted = refl; defaults_counted = refl; mentions_counted = refl }

  pub beside_enter : (n : ℕ) (vs : Variables) → Beside c rd (counted_entered n c) (with_opened n vs rd)
  unfolding with_opened
  beside_enter n vs =
      record { files = refl; steps = refl; defaults = refl; mentions = refl; files_counted = refl; paths_counted = refl; defaults_counted = refl; mentions_counted = refl }

  pub beside_scope : (k : ℕ) → Beside c rd c (in_scope k rd)
  beside_scope k =
      record { files = refl; steps = refl; defaults = refl; mentions = refl; files_counted = refl; paths_counted = refl; defaults_counted = refl; mentions_counted = refl }

  pub beside_back : (k : ℕ) → Beside c rd (counted_back c) (in_scope k rd)
  beside_back k =
      record { files = refl; steps = refl; defaults = refl; mentions = refl; files_counted = refl; paths_counted = refl; defaults_counted = refl; mentions_counted = refl }
