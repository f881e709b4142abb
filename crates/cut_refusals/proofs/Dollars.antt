-- A line that is cut as `NAME = value` has sound dollars in its value.
use Prim.Native.Nat.{ℕ}
use mathlib.Core.Bool.{Bool, true, false, not, ◌&&◌, ◌||◌}
use mathlib.Core.List.{List, [], ◌∷◌}
use mathlib.Core.Option.{Option, none, some}
use mathlib.Core.Path.{◌≡◌, refl}
use native.Mathlib.Omega.{arith}
use lib.Dec.{eqb}
use Rattle.lists.specs.Tests.{if_b}
use Rattle.lists.specs.Text.{bytes}
use Rattle.lists.specs.Bytes.{eq_bytes}
use Rattle.lists.specs.Runs.{after_run}
use Rattle.spec.specs.Basics.{is_empty}
use Rattle.spec.specs.Bytes.{colon, equals}
use Rattle.spec.specs.Lines.{is_space}
use Rattle.spec.specs.Dollars.{bad_in, bad_dollar}
use Rattle.spec.specs.Forms.{Fault, no_form, gap, name_of, after_name, rule_word, key_word, path_stop, after_path, raw_path, path_begins, paths, paths_behind, Cut, fits, fails, Form, rule_form, build_form, default_form, open_form, binding_form, BuildLine, then, checked, raw_value, cut_inputs, after_outputs, cut_rule, cut_build, cut_default, cut_open, cut_value, cut_binding, cut_statement, cut_indented}

-- whatever a value's dollars are, a cut that gives it has found them sound
pub record Sound (x : Cut Form) : Type 0 where
  pub dollars : (n raw : List ℕ) → x ≡ fits (binding_form n raw) → bad_dollar raw ≡ none

-- ---- what gives no value

sound_fails : (e : Fault) → Sound (fails e)
sound_fails e = record { dollars = λ n raw h. let z : ◌≡◌ {A = ℕ} 0 1 = cc in absurd (omega arith) }

sound_rule : (n : List ℕ) → Sound (fits (rule_form n))
sound_rule w = record { dollars = λ n raw h. let z : ◌≡◌ {A = ℕ} 0 1 = cc in absurd (omega arith) }

sound_build : (b : BuildLine) → Sound (fits (build_form b))
sound_build b = record { dollars = λ n raw h. let z : ◌≡◌ {A = ℕ} 0 1 = cc in absurd (omega arith) }

sound_default : (ps : List (List ℕ)) → Sound (fits (default_form ps))
sound_default ps = record { dollars = λ n raw h. let z : ◌≡◌ {A = ℕ} 0 1 = cc in absurd (omega arith) }

sound_open : (sub : Bool) (p : List ℕ) → Sound (fits (open_form sub p))
sound_open sub p = record { dollars = λ n raw h. let z : ◌≡◌ {A = ℕ} 0 1 = cc in absurd (omega arith) }

-- ---- one after the other

sound_then : {A : Type 0} (x : Cut A) {k : A → Cut Form} → ((a : A) → Sound (k a)) → Sound (then x k)
unfolding then
sound_then (fits a) h = h a
sound_then (fails e) h = sound_fails e

sound_if : (b : Bool) {x y : Cut Form} → Sound x → Sound y → Sound (if_b b (λ _. x) (λ _. y))
sound_if true h k = h
sound_if false h k = k

sound_checked : (o : Option ℕ) (s : List ℕ) (w raw : List ℕ) → bad_dollar raw ≡ o → Sound (checked o s (λ _. fits (binding_form w raw)))
unfolding checked
sound_checked none s w raw e =
    record { dollars = λ n v h. let z : raw ≡ v = cc in rw (← z) e }
sound_checked (some p) s w raw e = sound_fails _

sound_behind : (o : Option ℕ) (s : List ℕ) {x : Cut Form} → Sound x → Sound (checked o s (λ _. x))
unfolding checked
sound_behind none s h = h
sound_behind (some p) s h = sound_fails _

-- ---- the forms

sound_rules : (s : List ℕ) → Sound (cut_rule s)
unfolding cut_rule
sound_rules s = sound_then (rule_word (name_of (gap s))) (λ w. sound_if (is_empty (gap (after_name (gap s)))) (sound_rule w) (sound_fails no_form))

sound_outputs : (outs : List (List ℕ)) (s : List ℕ) → Sound (after_outputs outs s)
unfolding after_outputs cut_inputs
sound_outputs outs [] = sound_fails _
sound_outputs outs (b ∷ s) =
    sound_if (eqb b colon && not (is_empty outs))
    (sound_then (rule_word (name_of (gap s))) (λ w. sound_then (paths (after_name (gap s))) (λ i.
    sound_then (paths_behind 1 i.rest) (λ m. sound_then (paths_behind 2 m.rest) (λ o. sound_if (is_empty o.rest) (sound_build _) (sound_fails no_form))))))
    (sound_fails no_form)

sound_builds : (s : List ℕ) → Sound (cut_build s)
unfolding cut_build
sound_builds s = sound_then (paths s) (λ o. sound_outputs o.raw o.rest)

sound_defaults_law : (s : List ℕ) → Sound (cut_default s)
unfolding cut_default
sound_defaults_law s = sound_then (paths s) (λ p. sound_if (is_empty p.raw || not (is_empty p.rest)) (sound_fails no_form) (sound_default _))

sound_opens : (sub : Bool) (s : List ℕ) → Sound (cut_open sub s)
unfolding cut_open
sound_opens sub s =
    sound_if (path_begins (gap s))
    (sound_behind (bad_in path_stop (gap s)) (gap s)
    (sound_if (is_empty (gap (after_path (gap s)))) (sound_open sub (raw_path (gap s))) (sound_fails no_form)))
    (sound_fails no_form)

sound_value : (w s : List ℕ) → Sound (cut_value w s)
unfolding cut_value
sound_value w [] = sound_fails _
sound_value w (b ∷ s) = sound_if (eqb b equals) (sound_checked (bad_dollar (raw_value s)) (raw_value s) w (raw_value s) refl) (sound_fails no_form)

sound_bindings : (s : List ℕ) → Sound (cut_binding s)
unfolding cut_binding
sound_bindings s = sound_then (key_word (name_of s)) (λ w. sound_value w (gap (after_name s)))

pub sound_statement : (s : List ℕ) → Sound (cut_statement s)
unfolding cut_statement
sound_statement s =
    sound_if (eq_bytes (name_of s) (bytes "rule")) (sound_rules (after_name s))
    (sound_if (eq_bytes (name_of s) (bytes "build")) (sound_builds (after_name s))
    (sound_if (eq_bytes (name_of s) (bytes "default")) (sound_defaults_law (after_name s))
    (sound_if (eq_bytes (name_of s) (bytes "include")) (sound_opens false (after_name s))
    (sound_if (eq_bytes (name_of s) (bytes "subninja")) (sound_opens true (after_name s)) (sound_bindings s)))))

pub sound_indented : (s : List ℕ) → Sound (cut_indented s)
unfolding cut_indented
sound_indented s = sound_bindings (after_run is_space s)
