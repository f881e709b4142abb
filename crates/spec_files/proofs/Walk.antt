-- What a line of a manifest changes of the scopes and of the count of opened files: one variable may be bound in the current scope, and no more. One walk over the
-- reading of a line, for whatever holds of both and stays so where a variable is bound.
use Prim.Native.Nat.{ℕ}
use mathlib.Core.List.{List, ◌++◌}
use mathlib.Core.Bool.{Bool, true, false, not, ◌||◌}
use lib.Dec.{leb}
use lib.ListN.{length}
use Rattle.lists.specs.Tests.{if_b}
use Rattle.lists.specs.Text.{bytes}
use Rattle.lists.specs.Members.{any}
use Rattle.spec.specs.declared.Refusal.{Refusal}
use Rattle.spec.specs.Basics.{is_empty}
use Rattle.spec.specs.Limits.{max_steps, max_rules, max_name, max_value}
use Rattle.spec.specs.Lines.{Line, is_comment, is_blank, is_indented}
use Rattle.spec.specs.Dollars.{expand}
use Rattle.spec.specs.Forms.{BuildLine, Cut, fits, fails, Form, rule_form, build_form, default_form, open_form, binding_form, cut_statement, cut_indented}
use Rattle.spec.specs.Reading.{Bound, Variables, Reading, file_var, has_key, declared, is_made}
use Rattle.spec.specs.Statements.{Block, no_block, rule_block, build_block, Outcome, goes_on, opens, refused, over_counts, longer_than, rule_key, count_binding, bad_paths, mentioned, inputs_of_line, over_paths, over_binding, wrong_version, bound, set_var, with_defaults, start_rule, add_key, add_step, add_var, add_to_block, add_defaults, expanded, expanded_line, statement, block_line}
use Rattle.spec.specs.Manifest.{with_rule, with_step, close, and_then, if_cut, indented, read_indented, read_statement, read_line}

module _ (P : Variables → ℕ → Type 0) (binds : (b : Bound) (vs : Variables) (n : ℕ) → P vs n → P (bound b vs) n) where
  pub data After : Outcome → Type 0 where
    after_on : {rd : Reading} {b : Block} → P rd.vars rd.opened → After (goes_on rd b)
    after_door : {start : ℕ} {sub : Bool} {raw : List ℕ} {rd : Reading} → P rd.vars rd.opened → After (opens start sub raw rd)
    after_off : {r : Refusal} → After (refused r)

  pub either_after : {x y : Outcome} (o : Bool) → After x → After y → After (if_b o (λ _. x) (λ _. y))
  either_after true a b = a
  either_after false a b = b

  pub after_then : {o : Outcome} (f : Reading → Block → Outcome) → After o → ((rd : Reading) (b : Block) → P rd.vars rd.opened → After (f rd b))
      → After (and_then o f)
  unfolding and_then
  after_then f (after_on e) g = g _ _ e
  after_then f (after_door e) g = after_door e
  after_then f after_off g = after_off

  module _ (rd : Reading) (e : P rd.vars rd.opened) where
    after_var : (start : ℕ) (m v : List ℕ) → After (add_var start m v rd)
    unfolding add_var set_var count_binding
    after_var start m v =
        either_after (over_binding m v (count_binding (length v) rd)) after_off (either_after (wrong_version m v) after_off (after_on (binds (record { name = m; value = v }) rd.vars rd.opened e)))

    after_step : (start : ℕ) (b : BuildLine) → After (add_step start b rd)
    unfolding add_step mentioned
    after_step start b =
        either_after (not (declared b.rule rd)) after_off
        (either_after (bad_paths b.outs (inputs_of_line b) rd) after_off
        (either_after (over_paths (b.outs ++ inputs_of_line b) || over_counts (mentioned (b.outs ++ inputs_of_line b) rd) || leb max_steps (length rd.steps)) after_off (after_on e)))

    after_default : (start : ℕ) (ps : List (List ℕ)) → After (add_defaults start ps rd)
    unfolding add_defaults with_defaults mentioned
    after_default start ps =
        either_after (any is_empty ps || any (λ p. not (is_made p rd)) ps) after_off (either_after (over_paths ps || over_counts (mentioned ps rd)) after_off (after_on e))

    after_statement : (start : ℕ) (x : Form) → After (statement start x rd)
    unfolding statement start_rule
    after_statement start (rule_form m) =
        either_after (declared m rd) after_off (either_after (longer_than max_name m || leb max_rules (length rd.rules)) after_off (after_on e))
    after_statement start (build_form b) = after_step start (expanded_line rd b)
    after_statement start (default_form ps) = after_default start (expanded rd ps)
    after_statement start (open_form sub raw) = after_door e
    after_statement start (binding_form m raw) = after_var start m (expand (file_var rd.vars) raw)

    after_line : (start : ℕ) (b : Block) (m raw : List ℕ) → After (block_line start b m raw rd)
    unfolding block_line add_key add_to_block count_binding
    after_line start no_block m raw = after_off
    after_line start (rule_block head r) m raw =
        either_after (not (rule_key m) || has_key m r.keys) after_off
        (either_after (longer_than max_value raw || over_counts (count_binding (length raw) rd)) after_off (after_on e))
    after_line start (build_block s) m raw =
        either_after (over_binding m (expand (file_var rd.vars) raw) (count_binding (length (expand (file_var rd.vars) raw)) rd)) after_off (after_on e)

    after_cut : (l : Line) (c : Cut Form) (f : Form → Outcome) → ((x : Form) → After (f x)) → After (if_cut l c f)
    unfolding if_cut
    after_cut l (fails x) f g = after_off
    after_cut l (fits x) f g = either_after l.ended (g x) after_off

    after_form : (l : Line) (b : Block) (x : Form) → After (indented l rd b x)
    unfolding indented
    after_form l b (binding_form m raw) = after_line l.start b m raw
    after_form l b (rule_form m) = after_off
    after_form l b (build_form x) = after_off
    after_form l b (default_form ps) = after_off
    after_form l b (open_form sub raw) = after_off

    after_indented : (l : Line) (b : Block) → After (read_indented l rd b)
    unfolding read_indented
    after_indented l no_block = after_off
    after_indented l (rule_block head r) = after_cut l (cut_indented l.text) (indented l rd (rule_block head r)) (after_form l (rule_block head r))
    after_indented l (build_block s) = after_cut l (cut_indented l.text) (indented l rd (build_block s)) (after_form l (build_block s))

    pub after_close : (b : Block) → After (close rd b)
    unfolding close with_rule with_step
    after_close no_block = after_on e
    after_close (rule_block head r) = either_after (has_key (bytes "command") r.keys) (after_on e) after_off
    after_close (build_block s) = after_on e

  pub after_read : (l : Line) (rd : Reading) (b : Block) → P rd.vars rd.opened → After (read_line l rd b)
  unfolding read_line read_statement
  after_read l rd b e =
      either_after (is_comment l.text) (after_on e)
      (either_after (is_blank l.text) (after_close rd e b)
      (either_after (is_indented l.text) (after_indented rd e l b)
      (after_then (read_statement l) (after_close rd e b)
      (λ rd' b' e'. after_cut rd' e' l (cut_statement l.text) (λ x. statement l.start x rd') (after_statement rd' e' l.start)))))
