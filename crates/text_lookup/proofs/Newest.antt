-- The newest entry of a name in each part of the scope is what the lookup finds there.
use Rattle.std.specs.Prelude.{Option as StdOption, Some, None}
use Prim.Native.Nat.{ℕ, ◌<◌}
use mathlib.Core.List.{List}
use mathlib.Core.Bool.{true, false}
use mathlib.Core.Option.{Option, none, some}
use mathlib.Core.Path.{◌≡◌, sym, ◌∙◌, ap}
use native.Mathlib.Omega.{arith}
use lib.ListN.{length}
use Rattle.lists.specs.Text.{bytes}
use Rattle.lists.specs.Bytes.{eq_bytes}
use Rattle.spec.specs.Basics.{or_else}
use Rattle.spec.specs.Reading.{Step, Reading, Variables, bound_to, var_from}
use Rattle.spec.specs.Text.{as_is, of_rule, of_step, lookup_by}
use Rattle.hold_bindings.specs.Log.{Logged, of_keys, of_block, entry_at, newest, newest_from, value_of, bound_by, variables_of}
use Rattle.hold_bindings.specs.Held.{HoldsBindings}
use Rattle.hold_bindings.proofs.Lookups.{newest_below, find_newest, or_empty}
use Rattle.hold_bindings.proofs.Scopes.{newest_from_below, var_newest}
use Rattle.text_lookup.specs.declared.Asked.{Asked}
use Rattle.text_lookup.specs.declared.Source.{Source}
use Rattle.text_lookup.specs.declared.Source.TheVariants.{Inputs, InputLines, Outputs, Value, Text, Unset}
use Rattle.text_lookup.specs.Scope.{StepScope, InScope, meaning, from_file, from_rule, from_block, There, LooksUp}

-- f is the newest entry of a name for an owner
module _ (o : ℕ) (n : List ℕ) (a : Asked) {texts bind : List ℕ} {f : StdOption ℕ} (q : (log : List Logged) → HoldsBindings log texts bind a.entries → f ≡ newest o n log) where
  pub entry_there : {k : ℕ} → InScope texts bind a → f ≡ Some k → There texts bind a k
  entry_there {k} w e =
      let b : k < length w.log = newest_below o n w.log k (sym (q w.log w.scope.bound) ∙ e) in
      let m : k < a.entries = omega (arith, w.scope.bound.rows.counted) in
      record { entry = record { log = w.log; count = a.entries; held = w.scope.bound; below = m }; low = m }

  entry_found : {k : ℕ} (log : List Logged) → HoldsBindings log texts bind a.entries → f ≡ Some k → bound_to n (bound_by o log) ≡ some (entry_at k log).value
  unfolding value_of
  entry_found {k} log h e = find_newest o n log ∙ rw (sym (q log h) ∙ e)

  entry_missing : (log : List Logged) → HoldsBindings log texts bind a.entries → f ≡ None → bound_to n (bound_by o log) ≡ none
  unfolding value_of
  entry_missing log h e = find_newest o n log ∙ rw (sym (q log h) ∙ e)

module _ (n : List ℕ) {texts bind : List ℕ} {a : Asked} {f : StdOption ℕ} where
  -- f is the newest entry that is seen from the step's scope
  module _ (q : (log : List Logged) → HoldsBindings log texts bind a.entries → f ≡ newest_from a.scope n log) where
    seen_there : {k : ℕ} → InScope texts bind a → f ≡ Some k → There texts bind a k
    seen_there {k} w e =
        let b : k < length w.log = newest_from_below a.scope n w.log k (sym (q w.log w.scope.bound) ∙ e) in
        let m : k < a.entries = omega (arith, w.scope.bound.rows.counted) in
        record { entry = record { log = w.log; count = a.entries; held = w.scope.bound; below = m }; low = m }

    -- what the file's variables give
    seen_value : {log : List Logged} {rd : Reading} {s : Step} → StepScope texts bind a log rd s → var_from rd.vars.scopes s.scope n ≡ or_empty (value_of f log)
    seen_value {log} {rd} {s} c =
        ap (λ (v : Variables). var_from v.scopes s.scope n) c.vars
        ∙ ap (λ (k : ℕ). var_from (variables_of log).scopes k n) c.stands
        ∙ var_newest log c.bound.scopes a.scope c.scope_low n
        ∙ ap (λ (g : StdOption ℕ). or_empty (value_of g log)) (sym (q log c.bound))

    pub file_found : {k : ℕ} → InScope texts bind a → f ≡ Some k → LooksUp texts bind a (λ spell. from_file n) (Value k)
    unfolding meaning value_of
    file_found {k} w e =
        record {
          means = λ spell log rd s c. ap as_is (seen_value c ∙ ap (λ (g : StdOption ℕ). or_empty (value_of g log)) e);
          value = λ j d. let z : k ≡ j = cc in rw (← z) (seen_there w e);
          text = λ j d. let z : ◌≡◌ {A = ℕ} 0 1 = cc in absurd (omega arith);
        }

    pub file_unset : f ≡ None → LooksUp texts bind a (λ spell. from_file n) Unset
    unfolding meaning value_of
    file_unset e =
        record {
          means = λ spell log rd s c. ap as_is (seen_value c ∙ ap (λ (g : StdOption ℕ). or_empty (value_of g log)) e);
          value = λ j d. let z : ◌≡◌ {A = ℕ} 0 1 = cc in absurd (omega arith);
          text = λ j d. let z : ◌≡◌ {A = ℕ} 0 1 = cc in absurd (omega arith);
        }

  module _ (q : (log : List Logged) → HoldsBindings log texts bind a.entries → f ≡ newest (of_keys a.rule) n log) where
    pub rule_found : {k : ℕ} → InScope texts bind a → f ≡ Some k → LooksUp texts bind a (λ spell. from_rule n) (Text k)
    unfolding meaning
    rule_found {k} w e =
        record {
          means = λ spell log rd s c. ap (λ (o : Option (List ℕ)). or_else o of_rule λ _. from_file n rd s) (ap (bound_to n) c.keys ∙ entry_found (of_keys a.rule) n a q log c.bound e);
          value = λ j d. let z : ◌≡◌ {A = ℕ} 0 1 = cc in absurd (omega arith);
          text = λ j d. let z : k ≡ j = cc in rw (← z) (entry_there (of_keys a.rule) n a q w e);
        }

    pub rule_missing : {r : Source} → f ≡ None → LooksUp texts bind a (λ spell. from_file n) r → LooksUp texts bind a (λ spell. from_rule n) r
    rule_missing {r} e l =
        record {
          means = λ spell log rd s c.
              ap (λ (o : Option (List ℕ)). or_else o of_rule λ _. from_file n rd s) (ap (bound_to n) c.keys ∙ entry_missing (of_keys a.rule) n a q log c.bound e) ∙ l.means spell log rd s c;
          value = l.value;
          text = l.text;
        }

  module _ (q : (log : List Logged) → HoldsBindings log texts bind a.entries → f ≡ newest (of_block a.step) n log) where
    pub block_found : {k : ℕ} → InScope texts bind a → f ≡ Some k → LooksUp texts bind a (λ spell. from_block n) (Value k)
    unfolding meaning
    block_found {k} w e =
        record {
          means = λ spell log rd s c. ap (λ (o : Option (List ℕ)). or_else o as_is λ _. from_rule n rd s) (ap (bound_to n) c.block ∙ entry_found (of_block a.step) n a q log c.bound e);
          value = λ j d. let z : k ≡ j = cc in rw (← z) (entry_there (of_block a.step) n a q w e);
          text = λ j d. let z : ◌≡◌ {A = ℕ} 0 1 = cc in absurd (omega arith);
        }

    pub block_missing : {r : Source} → f ≡ None → LooksUp texts bind a (λ spell. from_rule n) r → LooksUp texts bind a (λ spell. from_block n) r
    block_missing {r} e l =
        record {
          means = λ spell log rd s c.
              ap (λ (o : Option (List ℕ)). or_else o as_is λ _. from_rule n rd s) (ap (bound_to n) c.block ∙ entry_missing (of_block a.step) n a q log c.bound e) ∙ l.means spell log rd s c;
          value = l.value;
          text = l.text;
        }

-- ---- the step's own names

module _ (n : List ℕ) {texts bind : List ℕ} (a : Asked) where
  pub looks_inputs : eq_bytes n (bytes "in") ≡ true → LooksUp texts bind a (λ spell rd s. lookup_by spell rd s n) Inputs
  unfolding lookup_by of_step meaning
  looks_inputs e =
      record {
        means = λ spell log rd s c. rw e;
        value = λ j d. let z : ◌≡◌ {A = ℕ} 0 1 = cc in absurd (omega arith);
        text = λ j d. let z : ◌≡◌ {A = ℕ} 0 1 = cc in absurd (omega arith);
      }

  module _ (p : eq_bytes n (bytes "in") ≡ false) where
    pub looks_lines : eq_bytes n (bytes "in_newline") ≡ true → LooksUp texts bind a (λ spell rd s. lookup_by spell rd s n) InputLines
    unfolding lookup_by of_step meaning
    looks_lines e =
        record {
          means = λ spell log rd s c. rw (p, e);
          value = λ j d. let z : ◌≡◌ {A = ℕ} 0 1 = cc in absurd (omega arith);
          text = λ j d. let z : ◌≡◌ {A = ℕ} 0 1 = cc in absurd (omega arith);
        }

    module _ (q : eq_bytes n (bytes "in_newline") ≡ false) where
      pub looks_outputs : eq_bytes n (bytes "out") ≡ true → LooksUp texts bind a (λ spell rd s. lookup_by spell rd s n) Outputs
      unfolding lookup_by of_step meaning
      looks_outputs e =
          record {
            means = λ spell log rd s c. rw (p, q, e);
            value = λ j d. let z : ◌≡◌ {A = ℕ} 0 1 = cc in absurd (omega arith);
            text = λ j d. let z : ◌≡◌ {A = ℕ} 0 1 = cc in absurd (omega arith);
          }

      pub looks_on : {r : Source} → eq_bytes n (bytes "out") ≡ false → LooksUp texts bind a (λ spell. from_block n) r → LooksUp texts bind a (λ spell rd s. lookup_by spell rd s n) r
      unfolding lookup_by of_step
      looks_on e l =
          record {
            means = λ spell log rd s c. rw (p, q, e) (l.means spell log rd s c);
            value = l.value;
            text = l.text;
          }
