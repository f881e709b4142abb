-- What the rules answer to a line without indent, by its cut: one law for each answer.
use Rattle.std.specs.Prelude.{Result, Err}
use Prim.Native.Nat.{ℕ, ◌≤◌}
use mathlib.Core.Bool.{Bool, true, false}
use mathlib.Core.List.{List}
use mathlib.Core.Path.{◌≡◌, ◌∙◌, ap}
use native.Mathlib.Nat.{le_trans}
use native.Mathlib.Omega.{arith}
use lib.ListN.{length, drop}
use Rattle.lists.specs.Tests.{split}
use Rattle.lists.specs.Text.{bytes}
use Rattle.lists.specs.Parts.{part}
use Rattle.spec.specs.declared.Refusal.{Refusal}
use Rattle.spec.specs.Dollars.{expand}
use Rattle.spec.specs.Lines.{Line}
use Rattle.spec.specs.Forms.{BuildLine, raw_value, cut_statement, Form, fits}
use Rattle.spec.specs.Reading.{Reading, file_var, has_key}
use Rattle.spec.specs.Statements.{Block, no_block, rule_block, build_block, Outcome, goes_on, start_rule, add_step, expanded_line, add_defaults, expanded, add_var, statement}
use Rattle.spec.specs.Manifest.{close, and_then, if_cut, read_statement}
use Rattle.scan_raw.proofs.Faults.{raw_length}
use Rattle.hold_bindings.specs.Log.{Logged}
use Rattle.cut_refusals.specs.Cuts.{Wrong, SoundBinding}
use Rattle.cut_forms.specs.declared.BuildPlaces.{BuildPlaces}
use Rattle.cut_forms.specs.Paths.{PathsAt}
use Rattle.cut_forms.specs.Statements.{Stands, RuleAt, BuildAt, DefaultAt, OpenAt}
use Rattle.hold_reading.specs.declared.Counts.{Counts}
use Rattle.hold_reading.specs.declared.Open.{Open}
use Rattle.hold_reading.specs.declared.Open.TheVariants.{Nothing}
use Rattle.hold_reading.specs.declared.LineTurn.{LineTurn}
use Rattle.hold_reading.specs.declared.LineTurn.TheVariants.{Answered, Opens as TurnOpens}
use Rattle.hold_reading.specs.Held.{joined, OpensBlock, nothing, HoldsReading, refuses, turn_opens, turn_answers}
use Rattle.hold_reading.specs.Binds.{SoundBlock, Meets}
use Rattle.hold_reading.specs.Adds.{Whole, AddsFiles}
use Rattle.hold_reading.proofs.Lift.{met, sound, joined_none}
use Rattle.hold_reading.proofs.Agreement.{agreed_on, agreed_refused}
use Rattle.apply_variables.specs.Asks.{BindingAsks as ValueAsks}
use Rattle.apply_builds.specs.Asks.{BuildAsks}
use Rattle.apply_defaults.specs.Asks.{DefaultAsks}
use Rattle.apply_statements.specs.Asks.{BetweenLines, LineAsks, LineMeets, TurnMeets}
use Rattle.hold_reading.specs.Buffers.{Buffers, with_files, with_bindings}
use Rattle.hold_reading.specs.declared.State.{State}
use Rattle.hold_reading.specs.Went.{went}

-- ---- lines that bind, and lines that mention files

module _ {bs : Buffers} {c : Counts} where
  pub binding_met : {o : Open} {line : Reading → Block → Outcome} {texts' bind' : List ℕ} {r : Result State Refusal} → Meets bs.texts bs.bind c o line texts' bind' r
      → LineMeets bs c o line (with_bindings bs texts' bind') r
  binding_met m = record { agrees = λ log rd b h p. met rd h p m }

  pub adding_met : {line : Reading → Outcome} {names' index' graph' : List ℕ} {r : Result State Refusal} → AddsFiles bs c line names' index' graph' r
      → LineMeets bs c Nothing (λ rd b. line rd) (with_files bs names' index' graph') r
  adding_met m = record { agrees = λ log rd b h p. m.agrees log rd (rw (joined_none rd p) at h) }

  pub line_as : {o : Open} {line line' : Reading → Block → Outcome} {bs' : Buffers} {r : Result State Refusal} → ((rd : Reading) (b : Block) → line rd b ≡ line' rd b)
      → LineMeets bs c o line' bs' r → LineMeets bs c o line bs' r
  line_as e m = record { agrees = λ log rd b h p. rw (e rd b) (m.agrees log rd b h p) }

  pub turn_met : (l : Line) {o : Open} {line : Reading → Block → Outcome} {bs' : Buffers} {r : Result State Refusal} {x : LineTurn} → LineMeets bs c o line bs' r → x ≡ Answered r
      → TurnMeets l bs c o line bs' x
  turn_met l m e = rw e (record { agrees = λ log rd b h p. turn_answers (m.agrees log rd b h p) })

  pub turn_as : {l : Line} {o : Open} {line line' : Reading → Block → Outcome} {bs' : Buffers} {r : LineTurn} → ((rd : Reading) (b : Block) → line rd b ≡ line' rd b)
      → TurnMeets l bs c o line' bs' r → TurnMeets l bs c o line bs' r
  turn_as e m = record { agrees = λ log rd b h p. rw (e rd b) (m.agrees log rd b h p) }

  -- ---- what is held when no block is open

  pub between_sound : {o : Open} → BetweenLines bs c o → SoundBlock bs.texts bs.bind c o
  between_sound w = sound w.reading w.holds w.opens

  pub between_whole : BetweenLines bs c Nothing → Whole bs c
  between_whole w = record { log = w.log; reading = w.reading; holds = rw (joined_none w.reading w.opens) at w.holds }

-- ---- a form

cut_read : (l : Line) {x : Form} → cut_statement l.text ≡ fits x → l.ended ≡ true → (rd : Reading) (b : Block) → read_statement l rd b ≡ statement l.start x rd
unfolding read_statement if_cut
cut_read l e n rd b = rw (e, n)

module _ (l : Line) {bs : Buffers} {c : Counts} {r : Result State Refusal} where
  pub rule_read : {texts' bind' : List ℕ} {from to : ℕ} → (l.ended ≡ true) × RuleAt l.text (cut_statement l.text) from to
      → Meets bs.texts bs.bind c Nothing (λ rd b. start_rule l.start (part l.text from to) rd) texts' bind' r
      → LineMeets bs c Nothing (read_statement l) (with_bindings bs texts' bind') r
  unfolding statement
  rule_read a m = line_as (λ rd b. cut_read l a.1.cut a.0 rd b) (binding_met m)

  pub build_read : {names' index' graph' : List ℕ} {p : BuildPlaces} → (l.ended ≡ true) × BuildAt l.text (cut_statement l.text) p
      → ((x : BuildLine) → Stands l.text p x → AddsFiles bs c (λ rd. add_step l.start (expanded_line rd x) rd) names' index' graph' r)
      → LineMeets bs c Nothing (read_statement l) (with_files bs names' index' graph') r
  unfolding statement
  build_read a m = line_as (λ rd b. cut_read l a.1.cut a.0 rd b) (adding_met (m a.1.line a.1.stands))

  pub default_read : {names' index' graph' : List ℕ} {at : ℕ} → (l.ended ≡ true) × DefaultAt l.text (cut_statement l.text) at
      → ((ps : List (List ℕ)) → PathsAt l.text at ps → AddsFiles bs c (λ rd. add_defaults l.start (expanded rd ps) rd) names' index' graph' r)
      → LineMeets bs c Nothing (read_statement l) (with_files bs names' index' graph') r
  unfolding statement
  default_read a m = line_as (λ rd b. cut_read l a.1.cut a.0 rd b) (adding_met (m a.1.raw a.1.stands))

  pub var_read : {texts' bind' : List ℕ} {from to at : ℕ} {raw : List ℕ} → SoundBinding l (cut_statement l.text) from to at → raw ≡ raw_value (drop at l.text)
      → Meets bs.texts bs.bind c Nothing (λ rd b. add_var l.start (part l.text from to) (expand (file_var rd.vars) raw) rd) texts' bind' r
      → LineMeets bs c Nothing (read_statement l) (with_bindings bs texts' bind') r
  unfolding statement
  var_read a v m = line_as (λ rd b. cut_read l a.places.cut a.ended rd b ∙ rw v) (binding_met m)

pub open_read : (l : Line) {bs : Buffers} {c : Counts} {sub : Bool} {from to : ℕ} → (l.ended ≡ true) × OpenAt l.text (cut_statement l.text) sub from to
    → TurnMeets l bs c Nothing (read_statement l) bs (TurnOpens c sub from to)
unfolding statement
open_read l a =
    record {
      agrees = λ log rd b h p.
          rw (cut_read l a.1.cut a.0 rd b) (turn_opens (rw (joined_none rd p) at h) a.1.longer a.1.within a.1.sound);
    }

pub wrong_read : (l : Line) {bs : Buffers} {c : Counts} {r : Refusal} → Wrong l (cut_statement l.text) r
    → TurnMeets l bs c Nothing (read_statement l) bs (Answered (Err r))
unfolding read_statement
wrong_read l w = record { agrees = λ log rd b h p. rw (w _) (turn_answers refuses) }

-- ---- what the lines ask

module _ (l : Line) {t : List ℕ} {bs : Buffers} {word : List ℕ} {c : Counts} (a : LineAsks t l.start l.text bs word c Nothing) where
  short : length l.text ≤ 49152
  short = a.cut.short

  pub build_asks : {p : BuildPlaces} → (l.ended ≡ true) × BuildAt l.text (cut_statement l.text) p → BuildAsks t l.text bs word c p
  build_asks s =
      record {
        table = a.cut.table;
        short = short;
        line = s.1.line;
        stands = s.1.stands;
        room = a.room.word_room;
        scratch = a.room.scratch;
        names_room = a.room.names_room;
        whole = between_whole a.between;
      }

  pub default_asks : {at : ℕ} → (l.ended ≡ true) × DefaultAt l.text (cut_statement l.text) at → DefaultAsks t l.text bs word c at
  default_asks s =
      record {
        table = a.cut.table;
        short = short;
        raw = s.1.raw;
        stands = s.1.stands;
        room = a.room.word_room;
        whole = between_whole a.between;
      }

  pub value_asks : {from to at : ℕ} {raw : List ℕ} → SoundBinding l (cut_statement l.text) from to at → raw ≡ raw_value (drop at l.text) → ValueAsks t raw bs.texts bs.bind word c Nothing
  value_asks {at = at} s v =
      record {
        table = a.cut.table;
        short = rw v (le_trans (raw_length l.text at) short);
        dollars = rw v s.dollars;
        room = omega (arith, a.room.word_room);
        sound = between_sound a.between;
      }

-- ---- the block before

-- what a closed block leaves
record Closed (bs : Buffers) (c : Counts) (out : Outcome) : Type 0 where
  log : List Logged
  reading : Reading
  outcome : out ≡ goes_on reading no_block
  holds : HoldsReading log bs c (joined reading no_block)

pub close_none : (rd : Reading) (b : Block) {rd' : Reading} {b' : Block} → close rd b ≡ goes_on rd' b' → b' ≡ no_block
unfolding close
close_none rd no_block e = cc
close_none rd (rule_block k r) {rd'} {b'} e =
    split (has_key (bytes "command") r.keys)
    (λ (t : has_key (bytes "command") r.keys ≡ true). let f = rw t at e in cc)
    (λ (t : has_key (bytes "command") r.keys ≡ false). let f = rw t at e in cc)
close_none rd (build_block s) e = cc

module _ {bs : Buffers} {c d : Counts} {o o' : Open} (m : Meets bs.texts bs.bind c o close bs.texts bs.bind (went d o')) where
  closed : {log : List Logged} (rd : Reading) (b : Block) → HoldsReading log bs c (joined rd b) → OpensBlock log b o → Closed bs d (close rd b)
  closed rd b h p =
      let g = agreed_on (met rd h p m) in
      let n : g.block ≡ no_block = close_none rd b g.outcome in
      record {
        log = g.log;
        reading = g.reading;
        outcome = g.outcome ∙ ap (goes_on g.reading) n;
        holds = rw n at g.holds;
      }

  pub closed_asks : {t : List ℕ} {start : ℕ} {l word : List ℕ} → LineAsks t start l bs word c o → LineAsks t start l bs word d Nothing
  closed_asks a =
      let w = a.between in
      let z = closed w.reading w.block w.holds w.opens in
      record {
        cut = a.cut;
        room = a.room;
        between = record { log = z.log; reading = z.reading; block = no_block; holds = z.holds; opens = nothing };
      }

  pub closed_then : {l : Line} {line : Reading → Block → Outcome} {bs' : Buffers} {r : LineTurn}
      → TurnMeets l bs d Nothing line bs' r
      → TurnMeets l bs c o (λ rd b. and_then (close rd b) line) bs' r
  unfolding and_then
  closed_then k =
      record {
        agrees = λ log rd b h p.
            let z = closed rd b h p in
            rw z.outcome (k.agrees z.log z.reading no_block z.holds nothing);
      }

pub not_closed : {l : Line} {bs : Buffers} {c : Counts} {o : Open} {r : Refusal} (line : Reading → Block → Outcome) → Meets bs.texts bs.bind c o close bs.texts bs.bind (Err r)
    → TurnMeets l bs c o (λ rd b. and_then (close rd b) line) bs (Answered (Err r))
unfolding and_then
not_closed line m = record { agrees = λ log rd b h p. rw (agreed_refused (met rd h p m)) (turn_answers refuses) }
