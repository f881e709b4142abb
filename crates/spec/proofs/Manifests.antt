-- What any bundle is read into has sound rules, steps with an output, and one maker at most for each file; and a bundle is refused with 2 to 10 or 19 and
-- nothing else: one walk over the reading's definitions.
use Prim.Native.Nat.{ℕ, zero, suc, ◌-◌, ◌≤◌, ◌<◌}
use mathlib.Core.List.{List, [], ◌∷◌, ◌++◌, map}
use mathlib.Core.Option.{Option, none, some}
use mathlib.Core.Bool.{Bool, true, false, not, ◌&&◌, ◌||◌}
use mathlib.Core.Path.{◌≡◌, refl, sym, subst}
use native.Mathlib.Omega.{arith}
use lib.Dec.{eqb, leb, ltb}
use lib.ListN.{length, length-append}
use borrow.Author.Tests.{not-true, not-false, leb-false}
use Rattle.lists.specs.Tests.{if_b, split, and_right, or_left, or_right}
use Rattle.lists.specs.Text.{bytes}
use Rattle.lists.specs.Bytes.{eq_bytes, eq_bytes_true}
use Rattle.lists.specs.Members.{any}
use Rattle.lists.specs.Runs.{after_run}
use Rattle.spec.specs.declared.Refusal.{Refusal}
use Rattle.spec.specs.declared.Refusal.TheVariants.{LongManifest, BadByte, BadLine, BadRule, BadPath, OverLimit, BadVersion, BadBundle, BadOpen}
use Rattle.spec.specs.Basics.{is_empty, or_else, among, sum}
use Rattle.spec.specs.Answers.{number_of_refusal}
use Rattle.spec.specs.Limits.{max_manifest, max_steps, max_rules, max_name, max_path, max_value, max_bundle, max_open, max_opened}
use Rattle.spec.specs.Bundle.{sound_bundle, bundle_names, bundle_texts}
use Rattle.spec.specs.Bytes.{equals, colon}
use Rattle.spec.specs.Lines.{Line, is_comment, is_blank, is_indented, is_space}
use Rattle.spec.specs.Dollars.{bad_dollar, bad_in, expand}
use Rattle.spec.specs.Forms.{BuildLine, Fault, no_form, left_at_dollar, not_yet, Cut, fits, fails, then, checked, Form, rule_form, build_form, default_form, open_form, binding_form, key_word, rule_word, name_of, after_name, gap, path_stop, path_begins, after_path, raw_path, paths, paths_behind, raw_value, cut_rule, cut_inputs, after_outputs, cut_build, cut_default, cut_open, cut_value, cut_binding, cut_statement, cut_indented}
use Rattle.spec.specs.Reading.{Bound, Rule, Step, Reading, nothing_read, bound_to, file_var, has_key, keys_of, declared, number_of, is_made}
use Rattle.spec.specs.Statements.{Block, no_block, rule_block, build_block, Outcome, goes_on, opens, refused, over_counts, longer_than, rule_key, count_binding, twice, bad_paths, mentioned, inputs_of_line, over_paths, over_binding, wrong_version, set_var, with_defaults, start_rule, add_key, add_step, add_var, add_to_block, add_defaults, expanded, expanded_line, statement, block_line}
use Rattle.spec.specs.Manifest.{bad_byte_in, with_rule, with_step, close, and_then, fault_of, if_cut, indented, read_indented, read_statement, read_line, Opener, opening, read_lines, text_lines, with_opened, entered, back_in, open_path, opener, Read, accepted, refused_with, read_of, read_manifest}
use Rattle.spec.proofs.Numbers.{mention_longer}
use Rattle.spec.proofs.Makers.{OneMaker, NewStep, no_steps, more_files, joins, new_outputs, map_filled}
use Rattle.spec.specs.Sound.{SoundKey, SoundKeys, SoundRules}

pub data OfReading (r : Refusal) : Type 0 where
  lines : 2 ≤ number_of_refusal r → number_of_refusal r ≤ 10 → OfReading r
  files : number_of_refusal r ≡ 19 → OfReading r

-- 1 is of lent buffers alone
pub past_1 : {r : Refusal} → OfReading r → 2 ≤ number_of_refusal r
past_1 (lines a b) = a
past_1 (files e) = omega (arith, e)

-- sound rules, no more steps than the limit, and one maker for a file
abbrev Good : Reading → Type 0
Good rd = SoundRules rd × (length rd.steps ≤ max_steps) × OneMaker rd.steps (length rd.files)

-- the open block, after these steps and so many files
data SoundBlock (steps : List Step) (files : ℕ) : Block → Type 0 where
  none_open : SoundBlock steps files no_block
  rule_open : {start : ℕ} {r : Rule} → SoundKeys r.keys → SoundBlock steps files (rule_block start r)
  step_open : {s : Step} → length steps < max_steps → NewStep steps files s.outs → SoundBlock steps files (build_block s)

data Sound : Outcome → Type 0 where
  on : {rd : Reading} {b : Block} → Good rd → SoundBlock rd.steps (length rd.files) b → Sound (goes_on rd b)
  door : {start : ℕ} {sub : Bool} {raw : List ℕ} {rd : Reading} → Good rd → Sound (opens start sub raw rd)
  off : {r : Refusal} → OfReading r → Sound (refused r)

-- one or the other
either : {x y : Outcome} (o : Bool) → Sound x → Sound y → Sound (if_b o (λ _. x) (λ _. y))
either true a b = a
either false a b = b

-- the other where the test is false
otherwise : {x y : Outcome} (o : Bool) → Sound x → (o ≡ false → Sound y) → Sound (if_b o (λ _. x) (λ _. y))
otherwise true a f = a
otherwise false a f = f refl

-- ---- the refusals of a line

bad_line : (p : ℕ) → OfReading (BadLine p)
unfolding number_of_refusal
bad_line p = lines (omega arith) (omega arith)

bad_rule : (p : ℕ) → OfReading (BadRule p)
unfolding number_of_refusal
bad_rule p = lines (omega arith) (omega arith)

bad_path_law : (p : ℕ) → OfReading (BadPath p)
unfolding number_of_refusal
bad_path_law p = lines (omega arith) (omega arith)

over_limit : (p : ℕ) → OfReading (OverLimit p)
unfolding number_of_refusal
over_limit p = lines (omega arith) (omega arith)

bad_version : (p : ℕ) → OfReading (BadVersion p)
unfolding number_of_refusal
bad_version p = lines (omega arith) (omega arith)

bad_open : (p : ℕ) → OfReading (BadOpen p)
unfolding number_of_refusal
bad_open p = files refl

-- ---- rules and keys

no_keys : SoundKeys []
unfolding bound_to
no_keys n raw e = let z : ◌≡◌ {A = ℕ} 0 1 = cc in absurd (omega arith)

more_keys : (n raw : List ℕ) (keys : List Bound) → SoundKey n raw → SoundKeys keys → SoundKeys (record { name = n; value = raw } ∷ keys)
unfolding bound_to
more_keys n raw keys k h m v e =
    split (eq_bytes m n)
    (λ (t : eq_bytes m n ≡ true).
    let d : some raw ≡ some v = rw t at e in
    let z : raw ≡ v = cc in
    subst (λ (x : List ℕ). SoundKey x v) (sym (eq_bytes_true m n t)) (subst (λ (y : List ℕ). SoundKey n y) z k))
    (λ (t : eq_bytes m n ≡ false). h m v (rw t at e))

rule_joins : (r : Rule) (rd : Reading) → SoundRules rd → SoundKeys r.keys → SoundRules (with_rule r rd)
unfolding with_rule keys_of
rule_joins r rd h k n =
    split (eq_bytes n r.name) (λ (t : eq_bytes n r.name ≡ true). rw t k) (λ (t : eq_bytes n r.name ≡ false). rw t (h n))

-- ---- the forms

sound_rule : (start : ℕ) (n : List ℕ) (rd : Reading) → Good rd → Sound (start_rule start n rd)
unfolding start_rule
sound_rule start n rd h =
    either (declared n rd) (off (bad_rule start))
    (either (longer_than max_name n || leb max_rules (length rd.rules)) (off (over_limit start)) (on h (rule_open no_keys)))

sound_key : (start k : ℕ) (r : Rule) (n raw : List ℕ) (rd : Reading) → Good rd → SoundKeys r.keys → bad_dollar raw ≡ none
    → Sound (add_key start k r n raw rd)
unfolding add_key count_binding
sound_key start k r n raw rd h keys d =
    otherwise (not (rule_key n) || has_key n r.keys) (off (bad_rule start)) λ e.
    let key : SoundKey n raw = record { key = not-false (rule_key n) (or_left (not (rule_key n)) (has_key n r.keys) e); sound = d } in
    either (longer_than max_value raw || over_counts (count_binding (length raw) rd)) (off (over_limit start))
    (on h (rule_open (more_keys n raw r.keys key keys)))

more_named : (rd : Reading) (ps : List (List ℕ)) → Good rd → Good (mentioned ps rd)
unfolding mentioned
more_named rd ps h = (h.0, h.1, more_files (mention_longer rd.files ps) h.2)

not_made : (outs ps : List (List ℕ)) (rd : Reading) → bad_paths outs ps rd ≡ false → any (λ p. is_made p rd) outs ≡ false
unfolding bad_paths
not_made outs ps rd e = or_right (any is_empty (outs ++ ps)) (any (λ p. is_made p rd) outs) (or_left (any is_empty (outs ++ ps) || any (λ p. is_made p rd) outs) (twice outs) e)

sound_step : (start : ℕ) (b : BuildLine) (rd : Reading) → Good rd → is_empty b.outs ≡ false → Sound (add_step start b rd)
unfolding add_step mentioned
sound_step start b rd h n =
    either (not (declared b.rule rd)) (off (bad_rule start))
    (otherwise (bad_paths b.outs (inputs_of_line b) rd) (off (bad_path_law start)) λ w.
    otherwise
    (over_paths (b.outs ++ inputs_of_line b) || over_counts (mentioned (b.outs ++ inputs_of_line b) rd) || leb max_steps (length rd.steps))
    (off (over_limit start)) λ e.
    let few = leb-false max_steps (length rd.steps) (or_right (over_paths (b.outs ++ inputs_of_line b) || over_counts (mentioned (b.outs ++ inputs_of_line b) rd)) (leb max_steps (length rd.steps)) e) in
    on (more_named rd (b.outs ++ inputs_of_line b) h) (step_open few (new_outputs rd h.2 b.outs (inputs_of_line b) (not_made b.outs (inputs_of_line b) rd w) n)))

sound_bound : (start : ℕ) (s : Step) (n v : List ℕ) (rd : Reading) → Good rd → length rd.steps < max_steps → NewStep rd.steps (length rd.files) s.outs
    → Sound (add_to_block start s n v rd)
unfolding add_to_block count_binding
sound_bound start s n v rd h q k = either (over_binding n v (count_binding (length v) rd)) (off (over_limit start)) (on h (step_open q k))

sound_var : (start : ℕ) (n v : List ℕ) (rd : Reading) → Good rd → Sound (add_var start n v rd)
unfolding add_var set_var count_binding
sound_var start n v rd h =
    either (over_binding n v (count_binding (length v) rd)) (off (over_limit start))
    (either (wrong_version n v) (off (bad_version start)) (on h none_open))

sound_default : (start : ℕ) (ps : List (List ℕ)) (rd : Reading) → Good rd → Sound (add_defaults start ps rd)
unfolding add_defaults with_defaults mentioned
sound_default start ps rd h =
    either (any is_empty ps || any (λ p. not (is_made p rd)) ps) (off (bad_path_law start))
    (either (over_paths ps || over_counts (mentioned ps rd)) (off (over_limit start)) (on (more_named rd ps h) none_open))

sound_line : (start : ℕ) (b : Block) (n raw : List ℕ) (rd : Reading) → Good rd → SoundBlock rd.steps (length rd.files) b → bad_dollar raw ≡ none
    → Sound (block_line start b n raw rd)
unfolding block_line
sound_line start no_block n raw rd h k d = off (bad_line start)
sound_line start (rule_block head r) n raw rd h (rule_open k) d = sound_key start head r n raw rd h k d
sound_line start (build_block s) n raw rd h (step_open q k) d = sound_bound start s n (expand (file_var rd.vars) raw) rd h q k

-- ---- what a line is cut into: its value has no bad `$`, a build line "one output at least"

abbrev SoundForm : Form → Type 0
SoundForm (rule_form n) = Unit {0}
SoundForm (build_form b) = is_empty b.outs ≡ false
SoundForm (default_form ps) = Unit {0}
SoundForm (open_form sub raw) = Unit {0}
SoundForm (binding_form n raw) = bad_dollar raw ≡ none

data SoundCut : Cut Form → Type 0 where
  cut : {x : Form} → SoundForm x → SoundCut (fits x)
  uncut : {e : Fault} → SoundCut (fails e)

form_of : {x : Form} → SoundCut (fits x) → SoundForm x
form_of (cut d) = d

sound_checked : (o : Option ℕ) (s w raw : List ℕ) → (o ≡ none → bad_dollar raw ≡ none) → SoundCut (checked o s (λ _. fits (binding_form w raw)))
unfolding checked
sound_checked none s w raw f = cut {x = binding_form w raw} (f refl)
sound_checked (some k) s w raw f = uncut

sound_value : (w s : List ℕ) → SoundCut (cut_value w s)
unfolding cut_value
sound_value w [] = uncut
sound_value w (b ∷ s) =
    split (eqb b equals)
    (λ (e : eqb b equals ≡ true). rw e (sound_checked (bad_dollar (raw_value s)) (raw_value s) w (raw_value s) (λ d. d)))
    (λ (e : eqb b equals ≡ false). rw e uncut)

sound_after : (x : Cut (List ℕ)) (s : List ℕ) → SoundCut (then x (λ w. cut_value w s))
unfolding then
sound_after (fits w) s = sound_value w s
sound_after (fails e) s = uncut

sound_binding : (s : List ℕ) → SoundCut (cut_binding s)
unfolding cut_binding
sound_binding s = sound_after (key_word (name_of s)) (gap (after_name s))

sound_indent : (s : List ℕ) → SoundCut (cut_indented s)
unfolding cut_indented
sound_indent s = sound_binding (after_run is_space s)

sound_parts : {A : Type 0} (x : Cut A) (f : A → Cut Form) → ((a : A) → SoundCut (f a)) → SoundCut (then x f)
unfolding then
sound_parts (fits a) f g = g a
sound_parts (fails e) f g = uncut

either_cut : {x y : Cut Form} (o : Bool) → SoundCut x → SoundCut y → SoundCut (if_b o (λ _. x) (λ _. y))
either_cut true a b = a
either_cut false a b = b

sound_word : (s : List ℕ) → SoundCut (cut_rule s)
unfolding cut_rule
sound_word s = sound_parts (rule_word (name_of (gap s))) (λ w. if_b (is_empty (gap (after_name (gap s)))) (λ _. fits (rule_form w)) (λ _. fails no_form)) λ w. either_cut (is_empty (gap (after_name (gap s)))) (cut {x = rule_form w} tt) uncut

sound_inputs : (outs : List (List ℕ)) (t : List ℕ) → is_empty outs ≡ false → SoundCut (cut_inputs outs t)
unfolding cut_inputs
sound_inputs outs t n =
    sound_parts (rule_word (name_of t)) _ λ w.
    sound_parts (paths (after_name t)) _ λ i.
    sound_parts (paths_behind 1 i.rest) _ λ m.
    sound_parts (paths_behind 2 m.rest) _ λ o.
    either_cut (is_empty o.rest) (cut {x = build_form (record { outs = outs; rule = w; ins = i.raw; implicit = m.raw; order_only = o.raw })} n) uncut

sound_outputs : (outs : List (List ℕ)) (s : List ℕ) → SoundCut (after_outputs outs s)
unfolding after_outputs
sound_outputs outs [] = uncut
sound_outputs outs (b ∷ s) =
    split (eqb b colon && not (is_empty outs))
    (λ (e : eqb b colon && not (is_empty outs) ≡ true). rw e (sound_inputs outs (gap s) (not-true (is_empty outs) (and_right (eqb b colon) (not (is_empty outs)) e))))
    (λ (e : eqb b colon && not (is_empty outs) ≡ false). rw e uncut)

sound_build : (s : List ℕ) → SoundCut (cut_build s)
unfolding cut_build
sound_build s = sound_parts (paths s) (λ o. after_outputs o.raw o.rest) λ o. sound_outputs o.raw o.rest

sound_defaults_law : (s : List ℕ) → SoundCut (cut_default s)
unfolding cut_default
sound_defaults_law s = sound_parts (paths s) _ λ p. either_cut (is_empty p.raw || not (is_empty p.rest)) uncut (cut {x = default_form p.raw} tt)

sound_open : (sub : Bool) (s : List ℕ) → SoundCut (cut_open sub s)
unfolding cut_open checked
sound_open sub s = either_cut (path_begins (gap s)) (beginning (bad_in path_stop (gap s))) uncut
  where
    beginning : (o : Option ℕ) → SoundCut (checked o (gap s) (λ _. if_b (is_empty (gap (after_path (gap s)))) (λ _. fits (open_form sub (raw_path (gap s)))) (λ _. fails no_form)))
    beginning none = either_cut (is_empty (gap (after_path (gap s)))) (cut {x = open_form sub (raw_path (gap s))} tt) uncut
    beginning (some at) = uncut

sound_words : (s : List ℕ) → SoundCut (cut_statement s)
unfolding cut_statement
sound_words s =
    either_cut (eq_bytes (name_of s) (bytes "rule")) (sound_word (after_name s))
    (either_cut (eq_bytes (name_of s) (bytes "build")) (sound_build (after_name s))
    (either_cut (eq_bytes (name_of s) (bytes "default")) (sound_defaults_law (after_name s))
    (either_cut (eq_bytes (name_of s) (bytes "include")) (sound_open false (after_name s))
    (either_cut (eq_bytes (name_of s) (bytes "subninja")) (sound_open true (after_name s)) (sound_binding s)))))

sound_statement : (start : ℕ) (x : Form) (rd : Reading) → Good rd → SoundForm x → Sound (statement start x rd)
unfolding statement expanded_line expanded
sound_statement start (rule_form n) rd h d = sound_rule start n rd h
sound_statement start (build_form b) rd h d = sound_step start (expanded_line rd b) rd h (map_filled (expand (file_var rd.vars)) b.outs d)
sound_statement start (default_form ps) rd h d = sound_default start (expanded rd ps) rd h
sound_statement start (open_form sub raw) rd h d = door h
sound_statement start (binding_form n raw) rd h d = sound_var start n (expand (file_var rd.vars) raw) rd h

-- ---- lines

sound_fault : (l : Line) (e : Fault) → OfReading (fault_of l e)
unfolding fault_of number_of_refusal
sound_fault l no_form = lines (omega arith) (omega arith)
sound_fault l (left_at_dollar n) = lines (omega arith) (omega arith)
sound_fault l not_yet = lines (omega arith) (omega arith)

sound_cut : (l : Line) (c : Cut Form) (f : Form → Outcome) → ((x : Form) → c ≡ fits x → Sound (f x)) → Sound (if_cut l c f)
unfolding if_cut
sound_cut l (fails e) f g = off (sound_fault l e)
sound_cut l (fits x) f g = either l.ended (g x refl) (off (bad_line l.start))

sound_form : (l : Line) (rd : Reading) (b : Block) (x : Form) → Good rd → SoundBlock rd.steps (length rd.files) b → SoundCut (fits x) → Sound (indented l rd b x)
unfolding indented
sound_form l rd b (binding_form n raw) h k d = sound_line l.start b n raw rd h k (form_of d)
sound_form l rd b (rule_form n) h k d = off (bad_line l.start)
sound_form l rd b (build_form x) h k d = off (bad_line l.start)
sound_form l rd b (default_form ps) h k d = off (bad_line l.start)
sound_form l rd b (open_form sub raw) h k d = off (bad_line l.start)

sound_indented : (l : Line) (rd : Reading) (b : Block) → Good rd → SoundBlock rd.steps (length rd.files) b → Sound (read_indented l rd b)
unfolding read_indented
sound_indented l rd no_block h k = off (bad_line l.start)
sound_indented l rd (rule_block start r) h k =
    sound_cut l (cut_indented l.text) (indented l rd (rule_block start r)) λ x e.
    sound_form l rd (rule_block start r) x h k (subst (λ (c : Cut Form). SoundCut c) e (sound_indent l.text))
sound_indented l rd (build_block s) h k =
    sound_cut l (cut_indented l.text) (indented l rd (build_block s)) λ x e.
    sound_form l rd (build_block s) x h k (subst (λ (c : Cut Form). SoundCut c) e (sound_indent l.text))

sound_close : (rd : Reading) (b : Block) → Good rd → SoundBlock rd.steps (length rd.files) b → Sound (close rd b)
unfolding close with_step with_rule
sound_close rd no_block h k = on h none_open
sound_close rd (rule_block start r) h (rule_open k) =
    either (has_key (bytes "command") r.keys) (on (rule_joins r rd h.0 k, h.1, h.2) none_open) (off (bad_rule start))
sound_close rd (build_block s) h (step_open q k) =
    let e : length (rd.steps ++ (s ∷ [])) ≤ max_steps = rw (length-append rd.steps (s ∷ [])) (omega (arith, q)) in
    on (h.0, e, joins rd.steps s h.2 k) none_open

sound_then : (o : Outcome) (f : Reading → Block → Outcome) → Sound o → ((rd : Reading) (b : Block) → Good rd → SoundBlock rd.steps (length rd.files) b → Sound (f rd b))
    → Sound (and_then o f)
unfolding and_then
sound_then (goes_on rd b) f (on h k) g = g rd b h k
sound_then (opens start sub raw rd) f (door h) g = door h
sound_then (refused r) f (off a) g = off a

sound_read : (l : Line) (rd : Reading) (b : Block) → Good rd → SoundBlock rd.steps (length rd.files) b → Sound (read_line l rd b)
unfolding read_line read_statement
sound_read l rd b h k =
    either (is_comment l.text) (on h k)
    (either (is_blank l.text) (sound_close rd b h k)
    (either (is_indented l.text) (sound_indented l rd b h k)
    (sound_then (close rd b) (read_statement l) (sound_close rd b h k)
    (λ rd' b' h' k'.
    sound_cut l (cut_statement l.text) (λ x. statement l.start x rd') λ x e.
    sound_statement l.start x rd' h' (form_of (subst (λ (c : Cut Form). SoundCut c) e (sound_words l.text)))))))

-- what opens a file gives a sound outcome
abbrev SoundOpener : Opener → Type 0
SoundOpener via = (start : ℕ) (sub : Bool) (raw : List ℕ) (rd : Reading) → Good rd → Sound (via start sub raw rd)

sound_opening : (via : Opener) → SoundOpener via → (o : Outcome) → Sound o → Sound (opening via o)
unfolding opening
sound_opening via f (goes_on rd b) (on h k) = on h k
sound_opening via f (opens start sub raw rd) (door h) = f start sub raw rd h
sound_opening via f (refused r) (off a) = off a

sound_lines : (via : Opener) → SoundOpener via → (ls : List Line) (rd : Reading) (b : Block) → Good rd → SoundBlock rd.steps (length rd.files) b → Sound (read_lines via ls rd b)
unfolding read_lines
sound_lines via f [] rd b h k = sound_close rd b h k
sound_lines via f (l ∷ ls) rd b h k =
    sound_then (opening via (read_line l rd b)) (read_lines via ls) (sound_opening via f (read_line l rd b) (sound_read l rd b h k)) (sound_lines via f ls)

-- ---- files that are opened

sound_path : (names : List (List ℕ)) (reads : ℕ → Reading → Outcome) → ((k : ℕ) (rd : Reading) → Good rd → Sound (reads k rd))
    → (start : ℕ) (sub : Bool) (p : List ℕ) (rd : Reading) → Good rd → Sound (open_path names reads start sub p rd)
unfolding open_path with_opened
sound_path names reads f start sub p rd h =
    either (is_empty p) (off (bad_path_law start))
    (either (longer_than max_path p || over_counts (with_opened (length p) (entered sub rd.vars) rd)) (off (over_limit start))
    (either (not (among p names) || leb max_opened rd.opened) (off (bad_open start)) (f (number_of p names) (with_opened (length p) (entered sub rd.vars) rd) h)))

sound_back : (k : ℕ) (rd : Reading) (b : Block) → Good rd → SoundBlock rd.steps (length rd.files) b → Sound (back_in k rd b)
unfolding back_in
sound_back k rd b h o = on h none_open

sound_opener : (names texts : List (List ℕ)) (more : ℕ) → SoundOpener (opener names texts more)
unfolding opener
sound_opener names texts zero start sub raw rd h =
    sound_path names (λ k after. refused (BadOpen start)) (λ k after g. off (bad_open start)) start sub (expand (file_var rd.vars) raw) rd h
sound_opener names texts (suc more) start sub raw rd h =
    sound_path names (λ k after. and_then (read_lines (opener names texts more) (text_lines texts k) after no_block) (back_in rd.vars.current))
    (λ k after g.
    sound_then (read_lines (opener names texts more) (text_lines texts k) after no_block) (back_in rd.vars.current)
    (sound_lines (opener names texts more) (sound_opener names texts more) (text_lines texts k) after no_block g none_open)
    (sound_back rd.vars.current))
    start sub (expand (file_var rd.vars) raw) rd h

-- ---- the manifest

data SoundRead : Read → Type 0 where
  read_on : {rd : Reading} → Good rd → SoundRead (accepted rd)
  read_off : {r : Refusal} → OfReading r → SoundRead (refused_with r)

sound_of : {o : Outcome} → Sound o → SoundRead (read_of o)
unfolding read_of
sound_of (on h k) = read_on h
sound_of (door {start = start} h) = read_off (bad_open start)
sound_of (off a) = read_off a

sound_bytes : (o : Option ℕ) (k : Unit {0} → Read) → SoundRead (k tt) → SoundRead (or_else o (λ at. refused_with (BadByte at)) k)
unfolding number_of_refusal
sound_bytes none k a = a
sound_bytes (some at) k a = read_off {r = BadByte at} (lines (omega arith) (omega arith))

either_read : {x y : Read} (o : Bool) → SoundRead x → SoundRead y → SoundRead (if_b o (λ _. x) (λ _. y))
either_read true a b = a
either_read false a b = b

too_long : OfReading LongManifest
unfolding number_of_refusal
too_long = lines (omega arith) (omega arith)

nothing_sound : Good nothing_read
unfolding keys_of
nothing_sound = (λ n. no_keys, omega arith, no_steps 0)

bad_bundle : OfReading BadBundle
unfolding number_of_refusal
bad_bundle = files refl

sound_manifest : (s : List ℕ) → SoundRead (read_manifest s)
unfolding read_manifest
sound_manifest s =
    let texts = bundle_texts s in
    let via = opener (bundle_names s) texts (max_open - 1) in
    either_read (not (sound_bundle 1 max_bundle s)) (read_off bad_bundle)
    (either_read (ltb max_manifest (sum (map (λ (t : List ℕ). length t) texts))) (read_off too_long)
    (sound_bytes (bad_byte_in 0 texts) (λ _. read_of (read_lines via (text_lines texts 0) nothing_read no_block))
    (sound_of (sound_lines via (sound_opener (bundle_names s) texts (max_open - 1)) (text_lines texts 0) nothing_read no_block nothing_sound none_open))))

of_refused : {x : Read} {r : Refusal} → SoundRead x → x ≡ refused_with r → OfReading r
of_refused {r = r} (read_on h) e = absurd (let z : ◌≡◌ {A = ℕ} 0 1 = cc in omega arith)
of_refused {r = r} (read_off {r = q} a) e = let z : r ≡ q = cc in rw z a

of_accepted : {x : Read} {rd : Reading} → SoundRead x → x ≡ accepted rd → Good rd
of_accepted {rd = rd} (read_on {rd = other} h) e = let z : other ≡ rd = cc in subst (λ (y : Reading). Good y) z h
of_accepted {rd = rd} (read_off a) e = absurd (let z : ◌≡◌ {A = ℕ} 0 1 = cc in omega arith)

pub of_reading : (s : List ℕ) {r : Refusal} → read_manifest s ≡ refused_with r → OfReading r
of_reading s e = of_refused (sound_manifest s) e

pub accepted_sound : (s : List ℕ) (rd : Reading) → read_manifest s ≡ accepted rd → SoundRules rd
accepted_sound s rd e = (of_accepted (sound_manifest s) e).0

-- 19 at 0 comes before all else
pub accepted_bundle : (s : List ℕ) (rd : Reading) → read_manifest s ≡ accepted rd → sound_bundle 1 max_bundle s ≡ true
unfolding read_manifest
accepted_bundle s rd e =
    split (sound_bundle 1 max_bundle s) (λ (t : sound_bundle 1 max_bundle s ≡ true). t)
    (λ (t : sound_bundle 1 max_bundle s ≡ false). absurd (let q : refused_with BadBundle ≡ accepted rd = rw t at e in let z : ◌≡◌ {A = ℕ} 0 1 = cc in omega arith))

-- "512 steps"
pub accepted_few : (s : List ℕ) (rd : Reading) → read_manifest s ≡ accepted rd → length rd.steps ≤ max_steps
accepted_few s rd e = (of_accepted (sound_manifest s) e).1

-- 8 refuses an output made twice; "one output at least"
pub accepted_makers : (s : List ℕ) (rd : Reading) → read_manifest s ≡ accepted rd → OneMaker rd.steps (length rd.files)
accepted_makers s rd e = (of_accepted (sound_manifest s) e).2
