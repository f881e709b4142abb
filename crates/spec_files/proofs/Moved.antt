-- A line is read alike wherever it starts: places move with it, and nothing else does. One walk over the reading of a line.
use Prim.Native.Nat.{ℕ, zero, suc, ◌+◌, ◌-◌, ◌≤◌}
use mathlib.Core.List.{List, [], ◌∷◌, ◌++◌}
use mathlib.Core.Bool.{Bool, true, false, not, ◌||◌}
use mathlib.Core.Path.{◌≡◌, refl}
use native.Mathlib.Nat.{le_of_suc-le-suc}
use native.Mathlib.Omega.{arith}
use lib.Dec.{leb}
use lib.ListN.{length}
use Rattle.lists.specs.Tests.{if_b}
use Rattle.lists.specs.Text.{bytes}
use Rattle.lists.specs.Members.{any}
use Rattle.spec.specs.declared.Refusal.{Refusal}
use Rattle.spec.specs.declared.Refusal.TheVariants.{BadLine, BadRule, BadPath, OverLimit, BadVersion}
use Rattle.spec.specs.Basics.{is_empty}
use Rattle.spec.specs.Answers.{says_at, refusal_says}
use Rattle.spec.specs.Limits.{max_steps, max_rules, max_name, max_value}
use Rattle.spec.specs.Lines.{At, Line, indent, ends_line, line_turn, with_byte, lines_from, is_comment, is_blank, is_indented}
use Rattle.spec.specs.Dollars.{expand}
use Rattle.spec.specs.Forms.{BuildLine, Fault, no_form, left_at_dollar, not_yet, Cut, fits, fails, Form, rule_form, build_form, default_form, open_form, binding_form, cut_statement, cut_indented}
use Rattle.spec.specs.Reading.{Rule, Step, Reading, file_var, has_key, declared, is_made}
use Rattle.spec.specs.Statements.{Block, no_block, rule_block, build_block, Outcome, goes_on, opens, refused, over_counts, longer_than, rule_key, count_binding, bad_paths, mentioned, inputs_of_line, over_paths, over_binding, wrong_version, start_rule, add_key, add_step, add_var, add_to_block, add_defaults, expanded, expanded_line, statement, block_line}
use Rattle.spec.specs.Manifest.{close, and_then, fault_of, if_cut, indented, read_indented, read_statement, read_line}

module _ (Moved : ℕ → ℕ → Type 0) where
  -- the same number, and a place in a text that has moved
  pub data RefusalMoved (r r' : Refusal) : Type 0 where
    moved : {n p p' : ℕ} → refusal_says r ≡ says_at n p → refusal_says r' ≡ says_at n p' → Moved p p' → RefusalMoved r r'

  pub data BlockMoved : Block → Block → Type 0 where
    in_none : BlockMoved no_block no_block
    in_rule : {p p' : ℕ} {r : Rule} → Moved p p' → BlockMoved (rule_block p r) (rule_block p' r)
    in_build : {s : Step} → BlockMoved (build_block s) (build_block s)

  -- what has been read is the same
  pub data OutcomeMoved : Outcome → Outcome → Type 0 where
    on : {rd : Reading} {b b' : Block} → BlockMoved b b' → OutcomeMoved (goes_on rd b) (goes_on rd b')
    door : {p p' : ℕ} {sub : Bool} {raw : List ℕ} {rd : Reading} → Moved p p' → OutcomeMoved (opens p sub raw rd) (opens p' sub raw rd)
    off : {r r' : Refusal} → RefusalMoved r r' → OutcomeMoved (refused r) (refused r')

  pub either_moved : {x y x' y' : Outcome} (o : Bool) → OutcomeMoved x x' → OutcomeMoved y y' → OutcomeMoved (if_b o (λ _. x) (λ _. y)) (if_b o (λ _. x') (λ _. y'))
  either_moved true a b = a
  either_moved false a b = b

  pub then_moved : {o o' : Outcome} (f g : Reading → Block → Outcome) → OutcomeMoved o o'
      → ((rd : Reading) (b b' : Block) → BlockMoved b b' → OutcomeMoved (f rd b) (g rd b')) → OutcomeMoved (and_then o f) (and_then o' g)
  unfolding and_then
  then_moved f g (on m) h = h _ _ _ m
  then_moved f g (door m) h = door m
  then_moved f g (off m) h = off m

  module _ (start start' : ℕ) (m : Moved start start') where
    bad_rule : OutcomeMoved (refused (BadRule start)) (refused (BadRule start'))
    unfolding refusal_says
    bad_rule = off (moved refl refl m)

    pub bad_path_law : OutcomeMoved (refused (BadPath start)) (refused (BadPath start'))
    unfolding refusal_says
    bad_path_law = off (moved refl refl m)

    pub over_limit : OutcomeMoved (refused (OverLimit start)) (refused (OverLimit start'))
    unfolding refusal_says
    over_limit = off (moved refl refl m)

    bad_line : OutcomeMoved (refused (BadLine start)) (refused (BadLine start'))
    unfolding refusal_says
    bad_line = off (moved refl refl m)

    bad_version : OutcomeMoved (refused (BadVersion start)) (refused (BadVersion start'))
    unfolding refusal_says
    bad_version = off (moved refl refl m)

    var_moved : (n v : List ℕ) (rd : Reading) → OutcomeMoved (add_var start n v rd) (add_var start' n v rd)
    unfolding add_var
    var_moved n v rd =
        either_moved (over_binding n v (count_binding (length v) rd)) over_limit (either_moved (wrong_version n v) bad_version (on in_none))

    step_moved : (b : BuildLine) (rd : Reading) → OutcomeMoved (add_step start b rd) (add_step start' b rd)
    unfolding add_step
    step_moved b rd =
        either_moved (not (declared b.rule rd)) bad_rule
        (either_moved (bad_paths b.outs (inputs_of_line b) rd) bad_path_law
        (either_moved (over_paths (b.outs ++ inputs_of_line b) || over_counts (mentioned (b.outs ++ inputs_of_line b) rd) || leb max_steps (length rd.steps)) over_limit (on in_build)))

    default_moved : (ps : List (List ℕ)) (rd : Reading) → OutcomeMoved (add_defaults start ps rd) (add_defaults start' ps rd)
    unfolding add_defaults
    default_moved ps rd =
        either_moved (any is_empty ps || any (λ p. not (is_made p rd)) ps) bad_path_law (either_moved (over_paths ps || over_counts (mentioned ps rd)) over_limit (on in_none))

    statement_moved : (x : Form) (rd : Reading) → OutcomeMoved (statement start x rd) (statement start' x rd)
    unfolding statement start_rule
    statement_moved (rule_form n) rd =
        either_moved (declared n rd) bad_rule (either_moved (longer_than max_name n || leb max_rules (length rd.rules)) over_limit (on (in_rule m)))
    statement_moved (build_form b) rd = step_moved (expanded_line rd b) rd
    statement_moved (default_form ps) rd = default_moved (expanded rd ps) rd
    statement_moved (open_form sub raw) rd = door m
    statement_moved (binding_form n raw) rd = var_moved n (expand (file_var rd.vars) raw) rd

    line_moved : {b b' : Block} (n raw : List ℕ) (rd : Reading) → BlockMoved b b' → OutcomeMoved (block_line start b n raw rd) (block_line start' b' n raw rd)
    unfolding block_line add_key add_to_block
    line_moved n raw rd in_none = bad_line
    line_moved n raw rd (in_rule {r = r} h) =
        either_moved (not (rule_key n) || has_key n r.keys) bad_rule
        (either_moved (longer_than max_value raw || over_counts (count_binding (length raw) rd)) over_limit (on (in_rule h)))
    line_moved n raw rd in_build =
        either_moved (over_binding n (expand (file_var rd.vars) raw) (count_binding (length (expand (file_var rd.vars) raw)) rd)) over_limit (on in_build)

  pub close_moved : {b b' : Block} (rd : Reading) → BlockMoved b b' → OutcomeMoved (close rd b) (close rd b')
  unfolding close
  close_moved rd in_none = on in_none
  close_moved rd (in_rule {p} {p'} {r} m) = either_moved (has_key (bytes "command") r.keys) (on in_none) (bad_rule p p' m)
  close_moved rd in_build = on in_none

  module _ (start start' : ℕ) (text : List ℕ) (ended : Bool) (places : (d : ℕ) → d ≤ length text → Moved (start + d) (start' + d)) where
    abbrev l : Line
    l = record { start = start; text = text; ended = ended }

    abbrev l' : Line
    l' = record { start = start'; text = text; ended = ended }

    at_start : Moved start start'
    at_start = let a : start + 0 ≡ start = omega arith in let b : start' + 0 ≡ start' = omega arith in let h : Moved (start + 0) (start' + 0) = places 0 (omega arith) in rw (a, b) at h

    fault_moved : (e : Fault) → OutcomeMoved (refused (fault_of l e)) (refused (fault_of l' e))
    unfolding fault_of refusal_says
    fault_moved no_form = off (moved refl refl at_start)
    fault_moved (left_at_dollar left) = off (moved refl refl (places (length text - left) (omega arith)))
    fault_moved not_yet = off (moved refl refl at_start)

    cut_moved : (c : Cut Form) (f g : Form → Outcome) → ((x : Form) → OutcomeMoved (f x) (g x)) → OutcomeMoved (if_cut l c f) (if_cut l' c g)
    unfolding if_cut
    cut_moved (fails e) f g h = fault_moved e
    cut_moved (fits x) f g h = either_moved ended (h x) (bad_line start start' at_start)

    form_moved : {b b' : Block} (rd : Reading) → BlockMoved b b' → (x : Form) → OutcomeMoved (indented l rd b x) (indented l' rd b' x)
    unfolding indented
    form_moved rd m (binding_form n raw) = line_moved start start' at_start n raw rd m
    form_moved rd m (rule_form n) = bad_line start start' at_start
    form_moved rd m (build_form x) = bad_line start start' at_start
    form_moved rd m (default_form ps) = bad_line start start' at_start
    form_moved rd m (open_form sub raw) = bad_line start start' at_start

    indented_moved : {b b' : Block} (rd : Reading) → BlockMoved b b' → OutcomeMoved (read_indented l rd b) (read_indented l' rd b')
    unfolding read_indented
    indented_moved rd in_none = bad_line start start' at_start
    indented_moved rd (in_rule {p} {p'} {r} m) =
        cut_moved (cut_indented text) (indented l rd (rule_block p r)) (indented l' rd (rule_block p' r)) (form_moved rd (in_rule m))
    indented_moved rd (in_build {s}) = cut_moved (cut_indented text) (indented l rd (build_block s)) (indented l' rd (build_block s)) (form_moved rd in_build)

    pub read_moved : {b b' : Block} (rd : Reading) → BlockMoved b b' → OutcomeMoved (read_line l rd b) (read_line l' rd b')
    unfolding read_line read_statement
    read_moved rd m =
        either_moved (is_comment text) (on m)
        (either_moved (is_blank text) (close_moved rd m)
        (either_moved (is_indented text) (indented_moved rd m)
        (then_moved (read_statement l) (read_statement l') (close_moved rd m)
        (λ rd' b b' n.
        cut_moved (cut_statement text) (λ x. statement start x rd') (λ x. statement start' x rd') (λ x. statement_moved start start' at_start x rd')))))

  -- ------------------------------------------------------------------ the lines of a text

  -- lines whose first ones start there
  pub data LinesMoved : ℕ → ℕ → List Line → List Line → Type 0 where
    none_left : {at at' : ℕ} → LinesMoved at at' [] []
    line_and : {at at' next next' : ℕ} {text : List ℕ} {ended : Bool} {ls ls' : List Line}
        → ((d : ℕ) → d ≤ length text → Moved (at + d) (at' + d)) → LinesMoved next next' ls ls'
        → LinesMoved at at' (record { start = at; text = text; ended = ended } ∷ ls) (record { start = at'; text = text; ended = ended } ∷ ls')

  place_on : (at at' d : ℕ) → Moved (suc at + d) (suc at' + d) → Moved (at + suc d) (at' + suc d)
  place_on at at' d h = let a : suc at + d ≡ at + suc d = omega arith in let b : suc at' + d ≡ at' + suc d = omega arith in rw (a, b) at h

  place_off : (at at' d : ℕ) → Moved (at + suc d) (at' + suc d) → Moved (suc at + d) (suc at' + d)
  place_off at at' d h = let a : at + suc d ≡ suc at + d = omega arith in let b : at' + suc d ≡ suc at' + d = omega arith in rw (a, b) at h

  byte_moved : (at at' b : ℕ) → ((d : ℕ) → d ≤ 1 → Moved (at + d) (at' + d)) → {ls ls' : List Line} → LinesMoved (suc at) (suc at') ls ls'
      → LinesMoved at at' (with_byte at b ls) (with_byte at' b ls')
  unfolding with_byte
  byte_moved at at' b h none_left = line_and h (none_left {at = at} {at' = at'})
  byte_moved at at' b h (line_and {text = text} p m) = line_and places m
    where
      places : (d : ℕ) → d ≤ length (b ∷ text) → Moved (at + d) (at' + d)
      places zero k = h 0 (omega arith)
      places (suc d) k = place_on at at' d (p d (le_of_suc-le-suc k))

  either_lines : {at at' : ℕ} {x y x' y' : List Line} (o : Bool) → LinesMoved at at' x x' → LinesMoved at at' y y'
      → LinesMoved at at' (if_b o (λ _. x) (λ _. y)) (if_b o (λ _. x') (λ _. y'))
  either_lines true a b = a
  either_lines false a b = b

  pub lines_moved : (q : At) (at at' : ℕ) (s : List ℕ) → ((d : ℕ) → d ≤ length s → Moved (at + d) (at' + d))
      → LinesMoved at at' (lines_from q at s) (lines_from q at' s)
  unfolding lines_from
  lines_moved q at at' [] h = none_left
  lines_moved q at at' (b ∷ s) h =
      let later : (d : ℕ) → d ≤ length s → Moved (suc at + d) (suc at' + d) = λ d k. place_off at at' d (h (suc d) (omega (arith, k))) in
      either_lines (ends_line q b) (line_and (λ d k. h d (omega (arith, k))) (lines_moved indent (suc at) (suc at') s later))
      (byte_moved at at' b (λ d k. h d (omega (arith, k))) (lines_moved (line_turn q b) (suc at) (suc at') s later))
