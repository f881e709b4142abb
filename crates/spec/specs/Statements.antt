-- A line's form applied to what has been read: its 7s, then its 8s, then its 9s, then its 10, each for the whole line before the next.
use Rattle.std.specs.Prelude.{ℕ, ◌+◌, List, [], ◌∷◌, ◌++◌, map, Bool, false, not, ◌&&◌, ◌||◌, leb, ltb, length}
use Rattle.lists.specs.Members.{any}
use Rattle.spec.specs.declared.Refusal.{Refusal}
use Rattle.spec.specs.declared.Refusal.TheVariants.{BadLine, BadRule, BadPath, OverLimit, BadVersion}
use Rattle.lists.specs.Tests.{if_b}
use Rattle.lists.specs.Text.{bytes}
use Rattle.lists.specs.Bytes.{eq_bytes}
use Rattle.spec.specs.Basics.{is_empty, among, sum}
use Rattle.spec.specs.Limits.{max_steps, max_files, max_rules, max_bindings, max_mentions, max_name, max_path, max_value, max_written}
use Rattle.spec.specs.Dollars.{expand}
use Rattle.spec.specs.Forms.{Form, rule_form, build_form, default_form, open_form, binding_form, BuildLine}
use Rattle.spec.specs.Reading.{Bound, Rule, Variables, Step, Reading, var_from, file_var, bind_in, has_key, declared, mention, numbers_of, is_made}
use Rattle.version.specs.Version.{refused_version}

-- the open block: none, a rule's (with the start of its line and what it holds so far), or a build step's
pub data Block : Type 0 where
  no_block : Block
  rule_block : ℕ → Rule → Block
  build_block : Step → Block

-- what has been read and the block that is open; a line that opens a file, by its start, whether in a new scope, its raw path and what has been read
-- before it; or a refusal
pub data Outcome : Type 0 where
  goes_on : Reading → Block → Outcome
  -- [1] a line that opens a file
  opens : ℕ → Bool → List ℕ → Reading → Outcome
  refused : Refusal → Outcome

-- ------------------------------------------------------------------ limits

-- the counts that a line of paths or values can take past their limits; rules and steps are counted where they begin
unfoldable pub over_counts : Reading → Bool
over_counts rd =
    ltb max_files (length rd.files) || ltb max_bindings rd.bindings || ltb max_mentions rd.mentions || ltb max_written rd.written

unfoldable pub longer_than : ℕ → List ℕ → Bool
longer_than n s = ltb n (length s)

-- ------------------------------------------------------------------ a rule

-- "`rule NAME`": "rule declared twice" (7), "over a limit" (9)
unfoldable pub start_rule : ℕ → List ℕ → Reading → Outcome
unfolding declared longer_than
start_rule start n rd =
    if_b (declared n rd) (λ _. refused (BadRule start)) λ _.
    if_b (longer_than max_name n || leb max_rules (length rd.rules)) (λ _. refused (OverLimit start)) λ _.
    goes_on rd (rule_block start (record { name = n; keys = [] }))

-- "indented `key = value` lines: `command` (needed), `description`, `generator`, each at most once"; "Accept `depfile`" (document 02)
unfoldable pub rule_key : List ℕ → Bool
unfolding among
rule_key n = among n (bytes "command" ∷ bytes "description" ∷ bytes "generator" ∷ bytes "depfile" ∷ [])

-- a binding line more, with so many bytes
unfoldable pub count_binding : ℕ → Reading → Reading
count_binding n rd =
    record { rules = rd.rules; vars = rd.vars; files = rd.files; steps = rd.steps; defaults = rd.defaults; bindings = rd.bindings + 1; mentions = rd.mentions; written = rd.written + n; opened = rd.opened }

-- "key twice or unknown in a rule" (7); "rule values as written" (9)
unfoldable pub add_key : ℕ → ℕ → Rule → List ℕ → List ℕ → Reading → Outcome
unfolding rule_key has_key longer_than over_counts count_binding
add_key start rule_start r n raw rd =
    let after = count_binding (length raw) rd in
    if_b (not (rule_key n) || has_key n r.keys) (λ _. refused (BadRule start)) λ _.
    if_b (longer_than max_value raw || over_counts after) (λ _. refused (OverLimit start)) λ _.
    goes_on after (rule_block rule_start (record { name = r.name; keys = record { name = n; value = raw } ∷ r.keys }))

-- ------------------------------------------------------------------ a build step

-- "Paths and block values are expanded at once with the file's variables as they then stand."
unfoldable pub expanded : Reading → List (List ℕ) → List (List ℕ)
unfolding expand var_from
expanded rd raw = map (expand (file_var rd.vars)) raw

-- is one of them there again
unfoldable pub twice : List (List ℕ) → Bool
unfolding among
twice [] = false
twice (p ∷ ps) = among p ps || twice ps

-- "empty path, output made twice (also within one step)" (8)
unfoldable pub bad_paths : List (List ℕ) → List (List ℕ) → Reading → Bool
unfolding any is_made twice
bad_paths outs ps rd = any is_empty (outs ++ ps) || any (λ p. is_made p rd) outs || twice outs

-- the mentions of a build or a default line, in their order
unfoldable pub mentioned : List (List ℕ) → Reading → Reading
unfolding mention sum
mentioned ps rd =
    record { rules = rd.rules; vars = rd.vars; files = mention rd.files ps; steps = rd.steps; defaults = rd.defaults; bindings = rd.bindings; mentions = rd.mentions + length ps; written = rd.written + sum (map (λ (p : List ℕ). length p) ps); opened = rd.opened }

-- the line with its paths expanded
unfoldable pub expanded_line : Reading → BuildLine → BuildLine
unfolding expanded
expanded_line rd b =
    record { outs = expanded rd b.outs; rule = b.rule; ins = expanded rd b.ins; implicit = expanded rd b.implicit; order_only = expanded rd b.order_only }

-- its inputs of every kind, as written
unfoldable pub inputs_of_line : BuildLine → List (List ℕ)
inputs_of_line b = b.ins ++ (b.implicit ++ b.order_only)

-- "paths 255", expanded (reading 18)
unfoldable pub over_paths : List (List ℕ) → Bool
unfolding any longer_than
over_paths ps = any (longer_than max_path) ps

-- a build line whose paths are expanded: the step, whose files are numbered "outputs before inputs in each line", joins the steps when its block closes
unfoldable pub add_step : ℕ → BuildLine → Reading → Outcome
unfolding declared bad_paths inputs_of_line mentioned over_paths over_counts numbers_of
add_step start b rd =
    let after = mentioned (b.outs ++ inputs_of_line b) rd in
    if_b (not (declared b.rule rd)) (λ _. refused (BadRule start)) λ _.
    if_b (bad_paths b.outs (inputs_of_line b) rd) (λ _. refused (BadPath start)) λ _.
    if_b (over_paths (b.outs ++ inputs_of_line b) || over_counts after || leb max_steps (length rd.steps)) (λ _. refused (OverLimit start)) λ _.
    goes_on after (build_block (record { outs = numbers_of after.files b.outs; ins = numbers_of after.files b.ins; implicit = numbers_of after.files b.implicit; order_only = numbers_of after.files b.order_only; rule = b.rule; block = []; scope = rd.vars.current }))

-- ------------------------------------------------------------------ variables

-- "declared names 64 bytes", "values 2,048 (.. others expanded)"
unfoldable pub over_binding : List ℕ → List ℕ → Reading → Bool
unfolding longer_than over_counts
over_binding n v after = longer_than max_name n || longer_than max_value v || over_counts after

-- a line of a build block: "Indented lines bind any allowed name, last one wins."
unfoldable pub add_to_block : ℕ → Step → List ℕ → List ℕ → Reading → Outcome
unfolding over_binding count_binding
add_to_block start s n v rd =
    let after = count_binding (length v) rd in
    if_b (over_binding n v after) (λ _. refused (OverLimit start)) λ _.
    goes_on after
    (build_block
    (record { outs = s.outs; ins = s.ins; implicit = s.implicit; order_only = s.order_only; rule = s.rule; block = record { name = n; value = v } ∷ s.block; scope = s.scope }))

-- [1] a binding more in the scope that is read in
abbrev pub bound : Bound → Variables → Variables
bound b vars = record { scopes = bind_in vars.current b vars.scopes; current = vars.current }

-- the newest binding of a name is the first: "a later line replaces it"
unfoldable pub set_var : List ℕ → List ℕ → Reading → Reading
unfolding bind_in
set_var n v rd =
    record { rules = rd.rules; vars = bound (record { name = n; value = v }) rd.vars; files = rd.files; steps = rd.steps; defaults = rd.defaults; bindings = rd.bindings; mentions = rd.mentions; written = rd.written; opened = rd.opened }

-- "`ninja_required_version` at file level is checked at once": "version malformed or above OURS" (10)
unfoldable pub wrong_version : List ℕ → List ℕ → Bool
unfolding eq_bytes refused_version
wrong_version n v = eq_bytes n (bytes "ninja_required_version") && refused_version v

-- "`NAME = value`: expanded at once; a later line replaces it."
unfoldable pub add_var : ℕ → List ℕ → List ℕ → Reading → Outcome
unfolding over_binding count_binding wrong_version set_var
add_var start n v rd =
    let after = count_binding (length v) rd in
    if_b (over_binding n v after) (λ _. refused (OverLimit start)) λ _.
    if_b (wrong_version n v) (λ _. refused (BadVersion start)) λ _.
    goes_on (set_var n v after) no_block

-- ------------------------------------------------------------------ default

unfoldable pub with_defaults : List (List ℕ) → Reading → Reading
unfolding numbers_of
with_defaults ps rd =
    record { rules = rd.rules; vars = rd.vars; files = rd.files; steps = rd.steps; defaults = rd.defaults ++ numbers_of rd.files ps; bindings = rd.bindings; mentions = rd.mentions; written = rd.written; opened = rd.opened }

-- "`default PATHS`, one at least, each the output of an earlier step": "empty path, .. default that is no earlier output" (8)
unfoldable pub add_defaults : ℕ → List (List ℕ) → Reading → Outcome
unfolding any is_made mentioned over_paths over_counts with_defaults
add_defaults start ps rd =
    let after = mentioned ps rd in
    if_b (any is_empty ps || any (λ p. not (is_made p rd)) ps) (λ _. refused (BadPath start)) λ _.
    if_b (over_paths ps || over_counts after) (λ _. refused (OverLimit start)) λ _.
    goes_on (with_defaults ps after) no_block

-- ------------------------------------------------------------------ the forms

-- a statement, where no block is open
unfoldable pub statement : ℕ → Form → Reading → Outcome
unfolding start_rule add_step expanded_line add_defaults expanded add_var expand var_from
statement start (rule_form n) rd = start_rule start n rd
statement start (build_form b) rd = add_step start (expanded_line rd b) rd
statement start (default_form ps) rd = add_defaults start (expanded rd ps) rd
statement start (open_form sub raw) rd = opens start sub raw rd
statement start (binding_form n raw) rd = add_var start n (expand (file_var rd.vars) raw) rd

-- "An indented line belongs to the open rule or build block; with none open it is refused with 4."
unfoldable pub block_line : ℕ → Block → List ℕ → List ℕ → Reading → Outcome
unfolding add_key add_to_block expand var_from
block_line start no_block n raw rd = refused (BadLine start)
block_line start (rule_block rule_start r) n raw rd = add_key start rule_start r n raw rd
block_line start (build_block s) n raw rd = add_to_block start s n (expand (file_var rd.vars) raw) rd
