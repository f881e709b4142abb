-- The reading of a whole bundle of manifest texts: refusals 19, 2 and 3, then the lines of the top file and of those that it opens.
use Rattle.std.specs.Prelude.{ℕ, zero, suc, ◌+◌, ◌-◌, List, [], ◌∷◌, ◌++◌, map, Bool, true, false, not, ◌||◌, eqb, leb, ltb, length, get_or}
use Rattle.std.proofs.Math.Option.{Option, none, some}
use Rattle.spec.specs.declared.Refusal.{Refusal}
use Rattle.spec.specs.declared.Refusal.TheVariants.{LongManifest, BadByte, BadLine, BadDollar, NotYet, BadRule, BadPath, OverLimit, BadBundle, BadOpen}
use Rattle.lists.specs.Tests.{if_b}
use Rattle.lists.specs.Text.{bytes}
use Rattle.spec.specs.Basics.{is_empty, or_else, among, sum}
use Rattle.spec.specs.Limits.{max_manifest, max_path, max_bundle, max_open, max_opened}
use Rattle.spec.specs.Answers.{base_of}
use Rattle.spec.specs.Bundle.{sound_bundle, bundle_names, bundle_texts}
use Rattle.spec.specs.Dollars.{expand}
use Rattle.spec.specs.Bytes.{newline, forbidden}
use Rattle.spec.specs.Lines.{Line, indent, lines_from, is_comment, is_blank, is_indented}
use Rattle.spec.specs.Forms.{Fault, no_form, left_at_dollar, not_yet, Cut, fits, fails, Form, rule_form, build_form, default_form, open_form, binding_form, cut_statement, cut_indented}
use Rattle.spec.specs.Reading.{Rule, Variables, Step, Reading, nothing_read, scope_at, has_key, var_from, file_var, number_of}
use Rattle.spec.specs.Statements.{Block, no_block, rule_block, build_block, Outcome, goes_on, opens, refused, over_counts, longer_than, statement, block_line}

-- ------------------------------------------------------------------ 3

-- "a forbidden byte, or the last byte no newline": "that byte, or the length"; "Two faults under 3: the earlier byte."
unfoldable pub bad_byte : ℕ → ℕ → List ℕ → Option ℕ
unfolding forbidden
bad_byte last at [] = if_b (eqb last newline) (λ _. none) (λ _. some at)
bad_byte last at (b ∷ s) = if_b (forbidden b) (λ _. some at) (λ _. bad_byte b (suc at) s)

-- ------------------------------------------------------------------ blocks

-- a rule and a step are among those read once their blocks close
unfoldable pub with_rule : Rule → Reading → Reading
with_rule r rd =
    record { rules = r ∷ rd.rules; vars = rd.vars; files = rd.files; steps = rd.steps; defaults = rd.defaults; bindings = rd.bindings; mentions = rd.mentions; written = rd.written; opened = rd.opened }

unfoldable pub with_step : Step → Reading → Reading
with_step s rd =
    record { rules = rd.rules; vars = rd.vars; files = rd.files; steps = rd.steps ++ (s ∷ []); defaults = rd.defaults; bindings = rd.bindings; mentions = rd.mentions; written = rd.written; opened = rd.opened }

-- "A missing `command` is found when its block closes, at the rule's line"
unfoldable pub close : Reading → Block → Outcome
unfolding has_key with_rule with_step
close rd no_block = goes_on rd no_block
close rd (rule_block start r) =
    if_b (has_key (bytes "command") r.keys) (λ _. goes_on (with_rule r rd) no_block) (λ _. refused (BadRule start))
close rd (build_block s) = goes_on (with_step s rd) no_block

-- the next part, where the reading goes on
unfoldable pub and_then : Outcome → (Reading → Block → Outcome) → Outcome
and_then (goes_on rd b) f = f rd b
and_then (opens start sub raw rd) f = opens start sub raw rd
and_then (refused r) f = refused r

-- ------------------------------------------------------------------ lines

-- the refusal of a fault in a line's bytes: "line start", "the `$`"
unfoldable pub fault_of : Line → Fault → Refusal
fault_of l no_form = BadLine l.start
fault_of l (left_at_dollar left) = BadDollar (l.start + (length l.text - left))
fault_of l not_yet = NotYet l.start

-- a line that is cut and ended is applied; "A manifest that ends inside a joined line is refused with 4", after an earlier 5 or 6 of
-- that line and before its 7 to 10 (reading 16)
unfoldable pub if_cut : Line → Cut Form → (Form → Outcome) → Outcome
unfolding fault_of
if_cut l (fails e) f = refused (fault_of l e)
if_cut l (fits x) f = if_b l.ended (λ _. f x) (λ _. refused (BadLine l.start))

-- a line of the open block; `cut_indented` cuts bindings alone, so that no other form comes here
unfoldable pub indented : Line → Reading → Block → Form → Outcome
unfolding block_line
indented l rd b (binding_form n raw) = block_line l.start b n raw rd
indented l rd b (rule_form n) = refused (BadLine l.start)
indented l rd b (build_form x) = refused (BadLine l.start)
indented l rd b (default_form ps) = refused (BadLine l.start)
indented l rd b (open_form sub raw) = refused (BadLine l.start)

-- an indented line with no block open is 4 whatever it holds (reading 9)
unfoldable pub read_indented : Line → Reading → Block → Outcome
unfolding if_cut cut_indented indented
read_indented l rd no_block = refused (BadLine l.start)
read_indented l rd (rule_block k r) = if_cut l (cut_indented l.text) (indented l rd (rule_block k r))
read_indented l rd (build_block s) = if_cut l (cut_indented l.text) (indented l rd (build_block s))

-- a line without indent, once the block before it is closed
unfoldable pub read_statement : Line → Reading → Block → Outcome
unfolding if_cut cut_statement statement
read_statement l rd b = if_cut l (cut_statement l.text) (λ x. statement l.start x rd)

-- any line without indent that is no comment closes the open block before its own fault (reading 13)
unfoldable pub read_line : Line → Reading → Block → Outcome
unfolding is_comment is_blank is_indented close read_indented and_then read_statement
read_line l rd b =
    if_b (is_comment l.text) (λ _. goes_on rd b) λ _.
    if_b (is_blank l.text) (λ _. close rd b) λ _.
    if_b (is_indented l.text) (λ _. read_indented l rd b) λ _. and_then (close rd b) (read_statement l)

-- [1] what is made of a line that opens a file: where it starts, whether in a new scope, its raw path, what has been read before it
abbrev pub Opener : Type 0
Opener = ℕ → Bool → List ℕ → Reading → Outcome

-- [1] a file that is opened is read before the lines behind
unfoldable pub opening : Opener → Outcome → Outcome
opening via (goes_on rd b) = goes_on rd b
opening via (opens start sub raw rd) = via start sub raw rd
opening via (refused r) = refused r

-- "lines from the top"; "A file's end closes its block."
unfoldable pub read_lines : Opener → List Line → Reading → Block → Outcome
unfolding close and_then opening read_line
read_lines via [] rd b = close rd b
read_lines via (l ∷ ls) rd b = and_then (opening via (read_line l rd b)) (read_lines via ls)

-- ------------------------------------------------------------------ files that are opened

-- [1] the lines of a text; its places are those among all texts
unfoldable pub text_lines : List (List ℕ) → ℕ → List Line
unfolding lines_from base_of
text_lines texts k = lines_from indent (base_of texts k) (get_or texts k [])

-- [1] one file more is opened, by a path of so many bytes
unfoldable pub with_opened : ℕ → Variables → Reading → Reading
with_opened n vars rd =
    record { rules = rd.rules; vars = vars; files = rd.files; steps = rd.steps; defaults = rd.defaults; bindings = rd.bindings; mentions = rd.mentions; written = rd.written + n; opened = suc rd.opened }

-- [1] "`include` reads in the same scope, `subninja` in a new one that sees the parent's variables"
unfoldable pub entered : Bool → Variables → Variables
entered false vars = vars
entered true vars =
    record { scopes = vars.scopes ++ (record { outer = vars.current ∷ (scope_at vars.scopes vars.current).outer; own = [] } ∷ []); current = length vars.scopes }

-- [1] back in the scope k, with no block open
unfoldable pub back_in : ℕ → Reading → Block → Outcome
back_in k rd b =
    goes_on (record { rules = rd.rules; vars = record { scopes = rd.vars.scopes; current = k }; files = rd.files; steps = rd.steps; defaults = rd.defaults; bindings = rd.bindings; mentions = rd.mentions; written = rd.written; opened = rd.opened }) no_block

-- [1] The path of a line that opens a file: its 8 and 9, where it is measured as any path and is no mention; "one more, or a name not in the bundle, is
-- refusal 19 at that line, after 10". The record of that name is read by what is given.
unfoldable pub open_path : List (List ℕ) → (ℕ → Reading → Outcome) → ℕ → Bool → List ℕ → Reading → Outcome
unfolding longer_than over_counts among number_of with_opened entered
open_path names reads start sub p rd =
    let after = with_opened (length p) (entered sub rd.vars) rd in
    if_b (is_empty p) (λ _. refused (BadPath start)) λ _.
    if_b (longer_than max_path p || over_counts after) (λ _. refused (OverLimit start)) λ _.
    if_b (not (among p names) || leb max_opened rd.opened) (λ _. refused (BadOpen start)) λ _. reads (number_of p names) after

-- [1] A line that opens a file, where so many more may be open.
unfoldable pub opener : List (List ℕ) → List (List ℕ) → ℕ → Opener
unfolding open_path expand var_from and_then read_lines text_lines back_in
opener names texts zero start sub raw rd = open_path names (λ k after. refused (BadOpen start)) start sub (expand (file_var rd.vars) raw) rd
opener names texts (suc more) start sub raw rd =
    open_path names (λ k after. and_then (read_lines (opener names texts more) (text_lines texts k) after no_block) (back_in rd.vars.current)) start sub (expand (file_var rd.vars) raw) rd

-- ------------------------------------------------------------------ the bundle

pub data Read : Type 0 where
  accepted : Reading → Read
  refused_with : Refusal → Read

-- a line of the top file that opens one is followed by `read_lines`, so that none is left
unfoldable pub read_of : Outcome → Read
read_of (goes_on rd b) = accepted rd
read_of (opens start sub raw rd) = refused_with (BadOpen start)
read_of (refused r) = refused_with r

-- [1] "3 takes them in order": the first text with a 3, whose place is one among all texts
unfoldable pub bad_byte_in : ℕ → List (List ℕ) → Option ℕ
unfolding bad_byte
bad_byte_in at [] = none
bad_byte_in at (t ∷ ts) = or_else (bad_byte newline at t) some λ _. bad_byte_in (suc (at + length t)) ts

-- "A malformed bundle is 19 at place 0, before 2; 2 sums all texts, 3 takes them in order"; then the lines from the top file's first
unfoldable pub read_manifest : List ℕ → Read
unfolding sound_bundle bundle_names bundle_texts sum bad_byte_in read_of read_lines text_lines opener
read_manifest s =
    let texts = bundle_texts s in
    if_b (not (sound_bundle 1 max_bundle s)) (λ _. refused_with BadBundle) λ _.
    if_b (ltb max_manifest (sum (map (λ (t : List ℕ). length t) texts))) (λ _. refused_with LongManifest) λ _.
    or_else (bad_byte_in 0 texts) (λ at. refused_with (BadByte at)) λ _.
    read_of (read_lines (opener (bundle_names s) texts (max_open - 1)) (text_lines texts 0) nothing_read no_block)
