-- Files that open themselves or one another in a circle: such a reading ends with a refusal, since at most eight files are open.
use Prim.Native.Nat.{ℕ, zero, suc, ◌-◌}
use mathlib.Core.List.{List, [], ◌∷◌, ◌++◌, map}
use mathlib.Core.Bool.{Bool, true, false, not, ◌||◌}
use mathlib.Core.Option.{Option, none, some}
use mathlib.Core.Path.{◌≡◌, refl, sym, subst}
use lib.Dec.{leb, ltb}
use lib.ListN.{length}
use Rattle.lists.specs.Tests.{if_b}
use Rattle.lists.specs.Text.{bytes}
use Rattle.spec.specs.declared.Refusal.{Refusal}
use Rattle.spec.specs.declared.Refusal.TheVariants.{LongManifest, BadByte, BadRule, BadBundle, BadOpen}
use Rattle.spec.specs.Basics.{is_empty, or_else, among, sum}
use Rattle.spec.specs.Limits.{max_manifest, max_path, max_bundle, max_open, max_opened}
use Rattle.spec.specs.Lines.{Line, indent, lines_from, is_comment, is_blank, is_indented}
use Rattle.spec.specs.Dollars.{expand}
use Rattle.spec.specs.Forms.{fits, open_form, cut_statement}
use Rattle.spec.specs.Bundle.{sound_bundle, bundle_names, bundle_texts, bundled, alone}
use Rattle.spec.specs.Reading.{Variables, Reading, nothing_read, file_var, has_key, number_of}
use Rattle.spec.specs.Statements.{Block, no_block, rule_block, build_block, Outcome, goes_on, opens, refused, over_counts, longer_than, statement}
use Rattle.spec_files.specs.Opened.{opened_records, PassesBytes}
use Rattle.spec.specs.Manifest.{with_rule, with_step, close, and_then, if_cut, read_statement, read_line, opening, read_lines, text_lines, with_opened, entered, back_in, open_path, opener, bad_byte_in, Read, refused_with, read_of, read_manifest}

-- what does not go on
data Stops : Outcome → Type 0 where
  stops_opens : {start : ℕ} {sub : Bool} {raw : List ℕ} {rd : Reading} → Stops (opens start sub raw rd)
  stops_refused : {r : Refusal} → Stops (refused r)

either_stops : {x y : Outcome} (o : Bool) → Stops x → Stops y → Stops (if_b o (λ _. x) (λ _. y))
either_stops true a b = a
either_stops false a b = b

stops_then : {o : Outcome} (f : Reading → Block → Outcome) → Stops o → Stops (and_then o f)
unfolding and_then
stops_then f stops_opens = stops_opens
stops_then f stops_refused = stops_refused

then_stops : (o : Outcome) (f : Reading → Block → Outcome) → ((rd : Reading) (b : Block) → Stops (f rd b)) → Stops (and_then o f)
unfolding and_then
then_stops (goes_on rd b) f h = h rd b
then_stops (opens start sub raw rd) f h = stops_opens
then_stops (refused r) f h = stops_refused

-- "At most eight files are open": where no more may be open, a line that opens one is refused.
pub none_more_open : (names texts : List (List ℕ)) (start : ℕ) (sub : Bool) (raw : List ℕ) (rd : Reading)
    → (r : Refusal) × (opener names texts zero start sub raw rd ≡ refused r)
unfolding opener open_path
none_more_open names texts start sub raw rd =
    let p = expand (file_var rd.vars) raw in
    either_refused (is_empty p) _
    (either_refused (longer_than max_path p || over_counts (with_opened (length p) (entered sub rd.vars) rd)) _
    (either_refused (not (among p names) || leb max_opened rd.opened) _ (BadOpen start, refl)))
  where
    either_refused : {y : Outcome} (o : Bool) (x : Refusal) → (r : Refusal) × (y ≡ refused r) → (r : Refusal) × (if_b o (λ _. refused x) (λ _. y) ≡ refused r)
    either_refused true x h = (x, refl)
    either_refused false x h = h

-- ------------------------------------------------------------------ circles

-- a line that is refused or opens this record
pub data OpensRecord (names : List (List ℕ)) (k : ℕ) : Outcome → Type 0 where
  opens_it : {start : ℕ} {sub : Bool} {raw : List ℕ} {rd : Reading} → number_of (expand (file_var rd.vars) raw) names ≡ k → OpensRecord names k (opens start sub raw rd)
  is_refused : {r : Refusal} → OpensRecord names k (refused r)

-- The record has a line that opens one of these records, whatever has been read before it.
pub record OpensOneOf (names texts : List (List ℕ)) (In : ℕ → Type 0) (k : ℕ) : Type 0 where
  pub before : List Line
  pub line : Line
  pub behind : List Line
  pub lines_are : text_lines texts k ≡ before ++ line ∷ behind
  pub next : ℕ
  pub next_in_law : In next
  pub opens_next : (rd : Reading) (b : Block) → OpensRecord names next (read_line line rd b)

-- records each of which opens one of them: a file that opens itself is the least
abbrev pub OpenCircle : List (List ℕ) → List (List ℕ) → (ℕ → Type 0) → Type 0
OpenCircle names texts In = (k : ℕ) → In k → OpensOneOf names texts In k

module _ (names texts : List (List ℕ)) (In : ℕ → Type 0) (circle : (k : ℕ) → In k → OpensOneOf names texts In k) where
  -- an opening of one of them does not go on
  abbrev Shut : ℕ → Type 0
  Shut more =
      (start : ℕ) (sub : Bool) (raw : List ℕ) (rd : Reading) (k : ℕ) → In k → number_of (expand (file_var rd.vars) raw) names ≡ k
      → Stops (opener names texts more start sub raw rd)

  module _ (more : ℕ) (shut : Shut more) where
    line_stops : {o : Outcome} (k : ℕ) → In k → OpensRecord names k o → Stops (opening (opener names texts more) o)
    unfolding opening
    line_stops k i (opens_it {start} {sub} {raw} {rd} e) = shut start sub raw rd k i e
    line_stops k i is_refused = stops_refused

    lines_stop : (before : List Line) (l : Line) (behind : List Line) (k : ℕ) → In k → ((rd : Reading) (b : Block) → OpensRecord names k (read_line l rd b))
        → (rd : Reading) (b : Block) → Stops (read_lines (opener names texts more) (before ++ l ∷ behind) rd b)
    unfolding read_lines
    lines_stop [] l behind k i h rd b = stops_then (read_lines (opener names texts more) behind) (line_stops k i (h rd b))
    lines_stop (x ∷ before) l behind k i h rd b =
        then_stops (opening (opener names texts more) (read_line x rd b)) (read_lines (opener names texts more) (before ++ l ∷ behind)) (lines_stop before l behind k i h)

    text_stops : (k : ℕ) → In k → (rd : Reading) (b : Block) → Stops (read_lines (opener names texts more) (text_lines texts k) rd b)
    text_stops k i rd b =
        let c = circle k i in
        subst (λ (ls : List Line). Stops (read_lines (opener names texts more) ls rd b)) (sym c.lines_are)
        (lines_stop c.before c.line c.behind c.next c.next_in_law c.opens_next rd b)

  opener_stops : (more : ℕ) → Shut more
  unfolding opener open_path
  opener_stops zero start sub raw rd k i e =
      let p = expand (file_var rd.vars) raw in
      either_stops (is_empty p) stops_refused
      (either_stops (longer_than max_path p || over_counts (with_opened (length p) (entered sub rd.vars) rd)) stops_refused
      (either_stops (not (among p names) || leb max_opened rd.opened) stops_refused stops_refused))
  opener_stops (suc more) start sub raw rd k i e =
      let p = expand (file_var rd.vars) raw in
      let after = with_opened (length p) (entered sub rd.vars) rd in
      either_stops (is_empty p) stops_refused
      (either_stops (longer_than max_path p || over_counts after) stops_refused
      (either_stops (not (among p names) || leb max_opened rd.opened) stops_refused
      (stops_then (back_in rd.vars.current)
      (text_stops more (opener_stops more) (number_of p names) (subst In (sym e) i) after no_block))))

read_stops : {o : Outcome} → Stops o → (r : Refusal) × (read_of o ≡ refused_with r)
unfolding read_of
read_stops (stops_opens {start}) = (BadOpen start, refl)
read_stops (stops_refused {r}) = (r, refl)

-- A bundle whose top file is in a circle of files is refused.
pub circle_refused : (s : List ℕ) (In : ℕ → Type 0) → OpenCircle (bundle_names s) (bundle_texts s) In → In 0 → (r : Refusal) × (read_manifest s ≡ refused_with r)
unfolding read_manifest
circle_refused s In circle i =
    either_read (not (sound_bundle 1 max_bundle s)) BadBundle
    (either_read (ltb max_manifest (sum (map (λ (t : List ℕ). length t) (bundle_texts s)))) LongManifest
    (or_read (bad_byte_in 0 (bundle_texts s))
    (read_stops (text_stops (bundle_names s) (bundle_texts s) In circle (max_open - 1) (opener_stops (bundle_names s) (bundle_texts s) In circle (max_open - 1)) 0 i nothing_read no_block))))
  where
    either_read : {y : Read} (o : Bool) (x : Refusal) → (r : Refusal) × (y ≡ refused_with r) → (r : Refusal) × (if_b o (λ _. refused_with x) (λ _. y) ≡ refused_with r)
    either_read true x h = (x, refl)
    either_read false x h = h

    or_read : {y : Read} (o : Option ℕ) → (r : Refusal) × (y ≡ refused_with r) → (r : Refusal) × (or_else o (λ at. refused_with (BadByte at)) (λ _. y) ≡ refused_with r)
    or_read (some at) h = (BadByte at, refl)
    or_read none h = h

-- ------------------------------------------------------------------ which lines open a record

-- A whole line `include` or `subninja` whose path names the record, whatever the variables: such a path holds no name.
module _ (names : List (List ℕ)) (k : ℕ) (l : Line) (sub : Bool) (raw : List ℕ)
    (cut : cut_statement l.text ≡ fits (open_form sub raw)) (whole : l.ended ≡ true)
    (names_it : (vs : Variables) → number_of (expand (file_var vs) raw) names ≡ k) where
  statement_opens : (rd : Reading) (b : Block) → OpensRecord names k (read_statement l rd b)
  unfolding read_statement if_cut statement
  statement_opens rd b = rw (cut, whole) (opens_it (names_it rd.vars))

  closed_opens : (rd : Reading) (b : Block) → OpensRecord names k (and_then (close rd b) (read_statement l))
  unfolding close and_then
  closed_opens rd no_block = statement_opens rd no_block
  closed_opens rd (rule_block start r) = either_opens (has_key (bytes "command") r.keys)
    where
      either_opens : (o : Bool) → OpensRecord names k (and_then (if_b o (λ _. goes_on (with_rule r rd) no_block) (λ _. refused (BadRule start))) (read_statement l))
      either_opens true = statement_opens (with_rule r rd) no_block
      either_opens false = is_refused
  closed_opens rd (build_block s) = statement_opens (with_step s rd) no_block

  pub line_opens : is_comment l.text ≡ false → is_blank l.text ≡ false → is_indented l.text ≡ false
      → (rd : Reading) (b : Block) → OpensRecord names k (read_line l rd b)
  unfolding read_line
  line_opens c s i rd b = rw (c, s, i) (closed_opens rd b)

-- So a file that begins with `include` of itself is refused, whatever else it holds.
abbrev its_name : List ℕ
its_name = bytes "build.ninja"

abbrev its_line : Line
its_line = record { start = 0; text = bytes "include build.ninja"; ended = true }

its_form : cut_statement (bytes "include build.ninja") ≡ fits (open_form false its_name)
unfolding cut_statement
its_form = refl

its_path : (vs : Variables) → number_of (expand (file_var vs) its_name) (its_name ∷ []) ≡ 0
unfolding expand number_of
its_path vs = refl

its_comment : is_comment (bytes "include build.ninja") ≡ false
unfolding is_comment
its_comment = refl

its_blank : is_blank (bytes "include build.ninja") ≡ false
unfolding is_blank
its_blank = refl

its_indent : is_indented (bytes "include build.ninja") ≡ false
unfolding is_indented
its_indent = refl

opens_itself : (rest : List ℕ) → OpensOneOf (its_name ∷ []) ((bytes "include build.ninja\n" ++ rest) ∷ []) (λ k. k ≡ 0) 0
unfolding text_lines
opens_itself rest =
    record {
      before = [];
      line = its_line;
      behind = lines_from indent 20 rest;
      lines_are = refl;
      next = 0;
      next_in_law = refl;
      opens_next = line_opens (its_name ∷ []) 0 its_line false its_name its_form refl its_path its_comment its_blank its_indent;
    }

pub itself_refused : (s rest : List ℕ) → bundle_names s ≡ bytes "build.ninja" ∷ [] → bundle_texts s ≡ (bytes "include build.ninja\n" ++ rest) ∷ []
    → (r : Refusal) × (read_manifest s ≡ refused_with r)
itself_refused s rest n t = circle_refused s (λ k. k ≡ 0) (λ k i. rw (n, t, i) (opens_itself rest)) refl

-- ------------------------------------------------------------------ computed

-- a file that opens itself: 19 at its line, in the eighth file that is open
itself : read_manifest (alone (bytes "include build.ninja\n")) ≡ refused_with (BadOpen 0)
unfolding read_manifest alone
itself = refl

itself_in_scopes : read_manifest (alone (bytes "subninja build.ninja\n")) ≡ refused_with (BadOpen 0)
unfolding read_manifest alone
itself_in_scopes = refl

-- two files that open each other: the line that would open the ninth is one of the second
each_other : read_manifest (bundled (record { name = bytes "a"; bytes = bytes "include b\n" } ∷ record { name = bytes "b"; bytes = bytes "include a\n" } ∷ [])) ≡ refused_with (BadOpen 11)
unfolding read_manifest bundled
each_other = refl

-- the top file opens the second record twice; the third is opened by nobody
abbrev three : List ℕ
three =
    bundled (record { name = bytes "a"; bytes = bytes "include b\nsubninja b\n" } ∷ record { name = bytes "b"; bytes = bytes "x = 1\n" } ∷ record { name = bytes "c"; bytes = bytes "include a\n" } ∷ [])

opened_twice : opened_records three ≡ 0 ∷ 1 ∷ 1 ∷ []
unfolding opened_records bundled
opened_twice = refl

passes_bytes : PassesBytes three
unfolding sound_bundle bundle_texts sum bad_byte_in bundled
passes_bytes = record { sound = refl; short = refl; clean = refl }
