-- The table of bindings with an entry more: a rule, a key of the open rule, a variable, or a line of the open step's block.
use Rattle.std.specs.Prelude.{Some}
use Prim.Native.Nat.{ℕ, ◌+◌, ◌≤◌, ◌<◌}
use mathlib.Core.Bool.{true, false}
use mathlib.Core.List.{List, [], ◌∷◌, ◌++◌, map}
use mathlib.Core.Path.{◌≡◌, refl, sym, ◌∙◌, ap, subst}
use native.Mathlib.Decide.{dec_lt}
use native.Mathlib.Omega.{arith}
use lib.Dec.{eqb}
use lib.ListN.{length, length-append, get_or-append}
use lib.Seq.{get_or-append_seam}
use Rattle.lists.specs.Tests.{split}
use Rattle.spec.specs.Limits.{max_rules, max_bindings, max_name, max_written}
use Rattle.spec.specs.Reading.{Bound as Binding, Rule, Step, Reading}
use Rattle.spec.specs.Statements.{bound, count_binding, set_var}
use Rattle.spec.specs.Manifest.{with_rule, with_step}
use Rattle.spec.specs.Graph.{no_step, step_at}
use Rattle.hold_bindings.specs.Log.{Logged, logged, of_scope, of_rules, of_marks, of_keys, of_block, bound_by, scoping_of, variables_of, rules_in, rules_of, newest_rule, with_key, Owned}
use Rattle.hold_bindings.specs.Held.{max_entries, max_owner, HoldsBindings, EntryRoom, values_in}
use Rattle.hold_bindings.proofs.Lookups.{bound_same, bound_other, owner_scope, owner_rules, owner_keys, owner_step, keys_not_step, rules_other, rules_declared, rules_key}
use Rattle.hold_bindings.proofs.Scopes.{scoping_other, variables_other, variables_bound}
use Rattle.hold_reading.specs.declared.Counts.{Counts}
use Rattle.hold_reading.specs.Held.{HoldsBound}
use Rattle.hold_reading.specs.Binds.{counted_more, counted_rule, key_more, line_more, without_block, Beside}
use Rattle.hold_reading.proofs.Bare.{bare_last}

-- ---- the newest rule

pub newest_rule_below : (log : List Logged) (k : ℕ) → newest_rule log ≡ Some k → k < length log
unfolding newest_rule
newest_rule_below [] k e = let z : ◌≡◌ {A = ℕ} 0 1 = cc in omega arith
newest_rule_below (x ∷ l) k e =
    split (eqb x.owner of_rules)
    (λ (t : eqb x.owner of_rules ≡ true). let p : Some (length l) ≡ Some k = rw t at e in let q : length l ≡ k = cc in omega arith)
    (λ (t : eqb x.owner of_rules ≡ false). let h = newest_rule_below l k (rw t at e) in omega arith)

newest_keys : (log m : List Logged) (k : ℕ) (r : Rule) (rs : List Rule) → newest_rule m ≡ Some k → rules_in log m ≡ r ∷ rs → r.keys ≡ bound_by (of_keys k) log
unfolding newest_rule rules_in
newest_keys log [] k r rs e h = let z : ◌≡◌ {A = ℕ} 0 1 = cc in absurd (omega arith)
newest_keys log (x ∷ m) k r rs e h =
    split (eqb x.owner of_rules)
    (λ (t : eqb x.owner of_rules ≡ true).
    let p : Some (length m) ≡ Some k = rw t at e in
    let q : length m ≡ k = cc in
    let g : record { name = x.name; keys = bound_by (of_keys (length m)) log } ∷ rules_in log m ≡ r ∷ rs = rw t at h in
    let w : r ≡ record { name = x.name; keys = bound_by (of_keys (length m)) log } = cc in
    ap (λ (y : Rule). y.keys) w ∙ ap (λ (n : ℕ). bound_by (of_keys n) log) q)
    (λ (t : eqb x.owner of_rules ≡ false). newest_keys log m k r rs (rw t at e) (rw t at h))

-- The keys of the newest rule are the lines of its owner.
pub open_keys : (log : List Logged) (k : ℕ) (r : Rule) (rs : List Rule) → newest_rule log ≡ Some k → r ∷ rs ≡ rules_of log → r.keys ≡ bound_by (of_keys k) log
unfolding rules_of
open_keys log k r rs e h = newest_keys log log k r rs e (sym h)

-- ---- room for an entry

pub bound_room : {log : List Logged} {texts bind : List ℕ} {c : Counts} {rd : Reading} → HoldsBound log texts bind c rd → (e : Logged) → c.entries < max_entries
    → c.written + length e.value ≤ max_written → e.owner ≤ max_owner → (e.owner ≡ of_marks → ⊥) → length e.name ≤ max_name → EntryRoom log texts bind c.entries e
bound_room b e f w o m n = record { held = b.held; few = f; binds = m; owner = o; name = n; value = omega (arith, b.shared) }

-- ---- a rule

module _ {log : List Logged} {texts bind texts' bind' : List ℕ} {c : Counts} {rd : Reading} (b : HoldsBound log texts bind c rd) where
  pub bound_rule : (n : List ℕ) → HoldsBindings (logged of_rules n [] ∷ log) texts' bind' (c.entries + 1) → c.rules < max_rules
      → HoldsBound (logged of_rules n [] ∷ log) texts' bind' (counted_rule c) (with_rule (record { name = n; keys = [] }) rd)
  unfolding with_rule values_in
  bound_rule n h f =
      let e = logged of_rules n [] in
      record {
        held = h;
        vars = b.vars ∙ sym (variables_other e log (λ k p. omega arith) (λ p. omega arith));
        rules =
            ap (λ (rs : List Rule). record { name = n; keys = [] } ∷ rs) b.rules
            ∙ sym (rules_declared e log (length rd.steps) b.owned refl);
        blocks = λ s d. b.blocks s d ∙ sym (bound_other e log (of_block s) (λ p. omega arith));
        scoped = λ s d. rw (scoping_other e log (λ p. omega arith)) (b.scoped s d);
        owned = (owner_rules (length rd.steps) (length log) (length (scoping_of log).outers), b.owned);
        steps_counted = b.steps_counted;
        rules_counted = omega (arith, b.rules_counted);
        bindings_counted = b.bindings_counted;
        written_counted = b.written_counted;
        opened_counted = b.opened_counted;
        few_scopes = rw (scoping_other e log (λ p. omega arith)) b.few_scopes;
        entries_counted = rw (scoping_other e log (λ p. omega arith)) (omega (arith, b.entries_counted));
        few_rules = omega arith;
        few_bindings = b.few_bindings;
        few_steps = b.few_steps;
        few_written = b.few_written;
        few_opened = b.few_opened;
        shared = omega (arith, b.shared);
      }

-- ---- a binding

-- what a binding whose value has n bytes changes in a reading's counts
record More (log : List Logged) (n : ℕ) (rd rd' : Reading) : Type 0 where
  files : rd'.files ≡ rd.files
  steps : length rd'.steps ≡ length rd.steps
  rules : length rd'.rules ≡ length rd.rules
  bindings : rd'.bindings ≡ rd.bindings + 1
  written : rd'.written ≡ rd.written + n
  opened : rd'.opened ≡ rd.opened
  scopes : (s : ℕ) → s < length rd'.steps → (step_at rd'.steps s).scope < length (scoping_of log).outers

module _ {log : List Logged} {texts bind texts' bind' : List ℕ} {c : Counts} {rd : Reading} (b : HoldsBound log texts bind c rd) (e : Logged)
    (h : HoldsBindings (e ∷ log) texts' bind' (c.entries + 1)) (f : c.bindings < max_bindings) (w : c.written + length e.value ≤ max_written) where
  bound_more : {rd' : Reading} → More log (length e.value) rd rd' → (e.owner ≡ of_marks → ⊥) → rd'.vars ≡ variables_of (e ∷ log) → rd'.rules ≡ rules_of (e ∷ log)
      → ((s : ℕ) → s < length rd'.steps → (step_at rd'.steps s).block ≡ bound_by (of_block s) (e ∷ log)) → Owned (length rd'.steps) (e ∷ log)
      → HoldsBound (e ∷ log) texts' bind' (counted_more (length e.value) c) rd'
  unfolding values_in
  bound_more m plain vars rules blocks owned =
      record {
        held = h;
        vars = vars;
        rules = rules;
        blocks = blocks;
        scoped = λ s d. rw (scoping_other e log plain) (m.scopes s d);
        owned = owned;
        steps_counted = omega (arith, b.steps_counted, m.steps);
        rules_counted = omega (arith, b.rules_counted, m.rules);
        bindings_counted = omega (arith, b.bindings_counted, m.bindings);
        written_counted = omega (arith, b.written_counted, m.written);
        opened_counted = b.opened_counted ∙ sym m.opened;
        few_scopes = rw (scoping_other e log plain) b.few_scopes;
        entries_counted = rw (scoping_other e log plain) (omega (arith, b.entries_counted));
        few_rules = b.few_rules;
        few_bindings = omega arith;
        few_steps = b.few_steps;
        few_written = w;
        few_opened = b.few_opened;
        shared = rw m.files (omega (arith, b.shared));
      }

-- a variable of the scope that is read in
module _ {log : List Logged} {texts bind texts' bind' : List ℕ} {c : Counts} {rd : Reading} (b : HoldsBound log texts bind c rd) (n v : List ℕ)
    (h : HoldsBindings (logged (of_scope (scoping_of log).current) n v ∷ log) texts' bind' (c.entries + 1)) (f : c.bindings < max_bindings)
    (w : c.written + length v ≤ max_written) where
  pub bound_var : HoldsBound (logged (of_scope (scoping_of log).current) n v ∷ log) texts' bind' (counted_more (length v) c) (set_var n v (count_binding (length v) rd))
  unfolding set_var count_binding
  bound_var =
      let k = (scoping_of log).current in
      let e = logged (of_scope k) n v in
      bound_more b e h f w
      (record { files = refl; steps = refl; rules = refl; bindings = refl; written = refl; opened = refl; scopes = b.scoped })
      (λ p. omega arith)
      (ap (bound (record { name = n; value = v })) b.vars ∙ sym (variables_bound n v log b.held.scopes.below))
      (b.rules ∙ sym (rules_other e log (λ p. omega arith) (λ j p. omega arith)))
      (λ s d. b.blocks s d ∙ sym (bound_other e log (of_block s) (λ p. omega arith)))
      (owner_scope (length rd.steps) (length log) (length (scoping_of log).outers) k b.held.scopes.below, b.owned)

-- a key of the open rule
module _ {log : List Logged} {texts bind texts' bind' : List ℕ} {c : Counts} (rd : Reading) (r : Rule) (k : ℕ) (b : HoldsBound log texts bind c (with_rule r rd))
    (o : newest_rule log ≡ Some k) (n v : List ℕ) (h : HoldsBindings (logged (of_keys k) n v ∷ log) texts' bind' (c.entries + 1)) (f : c.bindings < max_bindings)
    (w : c.written + length v ≤ max_written) where
  pub bound_key : HoldsBound (logged (of_keys k) n v ∷ log) texts' bind' (counted_more (length v) c) (with_rule (key_more n v r) (count_binding (length v) rd))
  unfolding with_rule with_key count_binding
  bound_key =
      let e = logged (of_keys k) n v in
      bound_more b e h f w
      (record { files = refl; steps = refl; rules = refl; bindings = refl; written = refl; opened = refl; scopes = b.scoped })
      (λ p. omega arith)
      (b.vars ∙ sym (variables_other e log (λ j p. omega arith) (λ p. omega arith)))
      (ap (with_key (record { name = n; value = v })) b.rules ∙ sym (rules_key e log k refl o))
      (λ s d. b.blocks s d ∙ sym (bound_other e log (of_block s) (keys_not_step k s)))
      (owner_keys (length rd.steps) (length log) (length (scoping_of log).outers) k (newest_rule_below log k o), b.owned)

-- a line of the open step's block
module _ {log : List Logged} {texts bind texts' bind' : List ℕ} {c : Counts} (rd : Reading) (s : Step) (b : HoldsBound log texts bind c (with_step s rd)) (n v : List ℕ)
    (h : HoldsBindings (logged (of_block (length rd.steps)) n v ∷ log) texts' bind' (c.entries + 1)) (f : c.bindings < max_bindings)
    (w : c.written + length v ≤ max_written) where
  line_blocks : (i : ℕ) → i < length (rd.steps ++ (line_more n v s ∷ []))
      → (step_at (rd.steps ++ (line_more n v s ∷ [])) i).block ≡ bound_by (of_block i) (logged (of_block (length rd.steps)) n v ∷ log)
  unfolding with_step
  line_blocks i d =
      let e = logged (of_block (length rd.steps)) n v in
      let m : length (rd.steps ++ (s ∷ [])) ≡ length rd.steps + 1 = length-append rd.steps (s ∷ []) in
      let m' : length (rd.steps ++ (line_more n v s ∷ [])) ≡ length rd.steps + 1 = length-append rd.steps (line_more n v s ∷ []) in
      elim (dec_lt i (length rd.steps)) [
        | yes l ↦
            ap (λ (x : Step). x.block) (get_or-append rd.steps (line_more n v s ∷ []) no_step i l)
            ∙ sym (ap (λ (x : Step). x.block) (get_or-append rd.steps (s ∷ []) no_step i l))
            ∙ b.blocks i (omega arith)
            ∙ sym (bound_other e log (of_block i) (λ p. omega arith))
        | no l ↦
            (let z : i ≡ length rd.steps = omega arith in
            rw z
            (ap (λ (x : Step). x.block) (get_or-append_seam rd.steps (line_more n v s) [] no_step)
            ∙ ap (λ (l : List Binding). record { name = n; value = v } ∷ l)
            (sym (ap (λ (x : Step). x.block) (get_or-append_seam rd.steps s [] no_step)) ∙ b.blocks (length rd.steps) (omega arith))
            ∙ sym (bound_same e log (of_block (length rd.steps)) refl)))
      ]

  line_scopes : (i : ℕ) → i < length (rd.steps ++ (line_more n v s ∷ [])) → (step_at (rd.steps ++ (line_more n v s ∷ [])) i).scope < length (scoping_of log).outers
  unfolding with_step
  line_scopes i d =
      let m : length (rd.steps ++ (s ∷ [])) ≡ length rd.steps + 1 = length-append rd.steps (s ∷ []) in
      let m' : length (rd.steps ++ (line_more n v s ∷ [])) ≡ length rd.steps + 1 = length-append rd.steps (line_more n v s ∷ []) in
      elim (dec_lt i (length rd.steps)) [
        | yes l ↦
            rw (get_or-append rd.steps (line_more n v s ∷ []) no_step i l, ← (get_or-append rd.steps (s ∷ []) no_step i l)) (b.scoped i (omega arith))
        | no l ↦
            (let z : i ≡ length rd.steps = omega arith in
            let q : s.scope < length (scoping_of log).outers =
            rw (get_or-append_seam rd.steps s [] no_step) at (b.scoped (length rd.steps) (omega arith)) in
            rw (z, get_or-append_seam rd.steps (line_more n v s) [] no_step) q)
      ]

  pub bound_line : HoldsBound (logged (of_block (length rd.steps)) n v ∷ log) texts' bind' (counted_more (length v) c)
      (with_step (line_more n v s) (count_binding (length v) rd))
  unfolding with_step count_binding
  bound_line =
      let e = logged (of_block (length rd.steps)) n v in
      let m : length (rd.steps ++ (line_more n v s ∷ [])) ≡ length (rd.steps ++ (s ∷ [])) = simp length-append in
      bound_more b e h f w
      (record { files = refl; steps = m; rules = refl; bindings = refl; written = refl; opened = refl; scopes = line_scopes })
      (λ p. omega arith)
      (b.vars ∙ sym (variables_other e log (λ j p. omega arith) (λ p. omega arith)))
      (b.rules ∙ sym (rules_other e log (λ p. omega arith) (λ k p. keys_not_step k (length rd.steps) (sym p))))
      line_blocks
      (rw m (owner_step (length (rd.steps ++ (s ∷ []))) (length log) (length (scoping_of log).outers) (length rd.steps) (simp length-append (omega arith))), subst (λ (k : ℕ). Owned k log) (sym m) b.owned)

-- ---- what a line leaves

module _ {c : Counts} {rd : Reading} where
  pub beside_same : Beside c rd c rd
  beside_same =
      record {
        files = refl;
        steps = refl;
        defaults = refl;
        mentions = refl;
        files_counted = refl;
        paths_counted = refl;
        defaults_counted = refl;
        mentions_counted = refl;
      }

  pub beside_rule : (r : Rule) → Beside c rd (counted_rule c) (with_rule r rd)
  unfolding with_rule
  beside_rule r =
      record {
        files = refl;
        steps = refl;
        defaults = refl;
        mentions = refl;
        files_counted = refl;
        paths_counted = refl;
        defaults_counted = refl;
        mentions_counted = refl;
      }

  beside_more : (v : List ℕ) {rd' : Reading} → rd'.files ≡ rd.files → map without_block rd'.steps ≡ map without_block rd.steps → rd'.defaults ≡ rd.defaults
      → rd'.mentions ≡ rd.mentions → Beside c rd (counted_more (length v) c) rd'
  beside_more v f s d m =
      record {
        files = f;
        steps = s;
        defaults = d;
        mentions = m;
        files_counted = refl;
        paths_counted = refl;
        defaults_counted = refl;
        mentions_counted = refl;
      }

module _ {c : Counts} (rd : Reading) (n v : List ℕ) where
  pub beside_var : Beside c rd (counted_more (length v) c) (set_var n v (count_binding (length v) rd))
  unfolding set_var count_binding
  beside_var = beside_more v refl refl refl refl

  pub beside_key : (r : Rule) → Beside c (with_rule r rd) (counted_more (length v) c) (with_rule (key_more n v r) (count_binding (length v) rd))
  unfolding with_rule count_binding
  beside_key r = beside_more v refl refl refl refl

  pub beside_line : (s : Step) → Beside c (with_step s rd) (counted_more (length v) c) (with_step (line_more n v s) (count_binding (length v) rd))
  unfolding with_step count_binding without_block
  beside_line s = beside_more v refl (bare_last rd.steps (line_more n v s) s refl) refl refl
