-- The second columns hold a step more with its listed inputs.
use Prim.Native.Nat.{ℕ, suc, ◌+◌, ◌-◌, ◌≤◌, ◌<◌}
use mathlib.Core.Bool.{Bool}
use mathlib.Core.List.{List, [], ◌∷◌, ◌++◌, map, append_assoc}
use mathlib.Core.Logic.{◌⊎◌, inl, inr}
use mathlib.Core.Path.{◌≡◌, refl, sym, ◌∙◌, ap, subst}
use native.Mathlib.Omega.{arith}
use lib.ListN.{length, drop, length-append, length-map}
use lib.Seq.{drop-cons}
use Rattle.lists.specs.Parts.{part}
use Rattle.lists.specs.Members.{◌∈◌, place, in_left, in_right, in_append}
use Rattle.spec.specs.Basics.{concat}
use Rattle.spec.specs.Reading.{Step, Reading, numbers_of, mention}
use Rattle.spec.specs.Statements.{mentioned}
use Rattle.spec.specs.Manifest.{with_step}
use Rattle.spec.specs.Graph.{inputs, no_step, step_at}
use Rattle.spec.specs.Headers.{Listed, HeaderGraph, with_listed, head_step}
use Rattle.spec.proofs.Numbers.{mention_grows, mention_longer}
use Rattle.hold_bindings.specs.Log.{Logged}
use Rattle.hold_columns.specs.Columns.{mentions_of, made_by, outs_end, order_only_end, end_place, end_at, step_start, outs_in, inputs_in, step_ends_from}
use Rattle.hold_columns.proofs.Held.{in_part, held_outs, held_inputs}
use Rattle.hold_columns.proofs.Places.{length_ends}
use Rattle.hold_columns.proofs.Growing.{mentions_more, length_mentions, ends_more}
use Rattle.hold_reading.specs.declared.Counts.{Counts}
use Rattle.hold_reading.specs.Held.{HoldsBound, Graphed}
use Rattle.hold_reading.specs.Buffers.{Buffers, buffers, with_graph}
use Rattle.apply_files.specs.Lines.{LineHeld, Columns, Writing, with_paths}
use Rattle.apply_files.proofs.Columns.{graph_long}
use Rattle.hold_names.specs.Table.{HoldsNames}
use Rattle.apply_files.proofs.Closed.{paths_reading, paths_mentions, paths_log, paths_ends, paths_phony, paths_ruled, paths_made, among_all, numbers_low, length_numbers}
use Rattle.hold_headers.specs.Headed.{listed_number, reading_with, head_line, mentions_left, HoldsHeaders}
use Rattle.ask_header_list.specs.Copies.{counted_copies, CopyAsks, Copies, ends_of, moved_ends, Closes}
use Rattle.ask_header_list.specs.Places.{places_in}
use Rattle.ask_header_list.specs.Adds.{StepHeld}
use Rattle.ask_header_list.proofs.Placing.{StepStands, stands}

-- ---- counts

-- mentions that are copied leave the table of bindings as it is
pub bound_copied : {log : List Logged} {texts bind : List ℕ} {c : Counts} {rd : Reading} (n : ℕ) → HoldsBound log texts bind c rd → HoldsBound log texts bind (counted_copies n c) rd
bound_copied n b =
    record {
      held = b.held;
      vars = b.vars;
      rules = b.rules;
      blocks = b.blocks;
      scoped = b.scoped;
      owned = b.owned;
      steps_counted = b.steps_counted;
      rules_counted = b.rules_counted;
      bindings_counted = b.bindings_counted;
      written_counted = b.written_counted;
      opened_counted = b.opened_counted;
      few_scopes = b.few_scopes;
      entries_counted = b.entries_counted;
      few_rules = b.few_rules;
      few_bindings = b.few_bindings;
      few_steps = b.few_steps;
      few_written = b.few_written;
      few_opened = b.few_opened;
      shared = b.shared;
    }

-- numbers more at the end of the mentions
abbrev pub copied_line : List ℕ → LineHeld → LineHeld
copied_line fs h =
    record { log = h.log; reading = h.reading; mentions = h.mentions ++ fs; ends = h.ends; phony = h.phony; made = h.made; rule_of = h.rule_of }

pub line_copied : {bs : Buffers} {c d : Counts} {h : LineHeld} → Writing bs c h → {graph second : List ℕ} {from to : ℕ} → Copies graph from to bs.graph c second d → (fs : List ℕ)
    → part graph from to ≡ fs → to - from ≡ length fs → c.paths + length fs + c.defaults ≤ c.mentions → Writing (with_graph bs second) d (copied_line fs h)
line_copied {bs} {c} {d} {h} w {graph} {second} {from} {to} k fs q n room =
    let m = length-append h.mentions fs in
    let z : d ≡ counted_copies (length fs) c = k.counted ∙ ap (λ (i : ℕ). counted_copies i c) n in
    rw z
    record {
      named = w.named;
      bound = bound_copied (length fs) w.bound;
      columns =
          subst (λ (l : List ℕ). Columns second (h.mentions ++ l) h.ends h.phony h.made h.rule_of h.reading.defaults) q
          (k.copied h.mentions h.ends h.phony h.made h.rule_of h.reading.defaults w.columns w.paths_counted);
      filed = w.filed;
      paths_counted = omega (arith, w.paths_counted, m);
      defaults_counted = w.defaults_counted;
      mentions_counted = w.mentions_counted;
      few_mentions = omega (arith, room);
      mentions_low = w.mentions_low;
    }

-- ---- what is left

module _ {log : List Logged} {graph ns index texts bind second : List ℕ} {s : ℕ} {c : Counts} {rd : Reading} {h : HeaderGraph}
    (w : StepHeld log graph ns index texts bind second s c rd h) where
  abbrev pub x : Step
  x = step_at rd.steps s

  abbrev pub later : List ℕ
  later = concat (map mentions_of (drop (suc s) rd.steps))

  left_is : mentions_left rd h ≡ mentions_of x ++ later
  unfolding concat
  left_is =
      ap (λ (n : ℕ). concat (map mentions_of (drop n rd.steps))) w.done ∙ ap (λ (l : List Step). concat (map mentions_of l)) (drop-cons rd.steps s no_step w.next)

  pub left_room : c.paths + (length x.outs + length x.ins + length x.implicit + length x.order_only) + length later + c.defaults ≤ c.mentions
  left_room = omega (arith, w.holds.room, ap length left_is, length-append (mentions_of x) later, length_mentions x)

  pub stands_here : StepStands graph (places_in graph s) x
  stands_here = stands w.written s w.next (w.holds.outputs s w.next)

  pub front_asks : CopyAsks graph (places_in graph s).start (places_in graph s).implicit second c
  front_asks =
      let t = stands_here in
      record {
        ordered = omega (arith, t.sound.output, t.sound.outs, t.sound.ins);
        within = omega (arith, t.sound.implicit, t.sound.within);
        low = λ i f l. t.sound.low i f (omega (arith, t.sound.implicit));
        long = graph_long w.holds.writing.columns;
        room = omega (arith, left_room, t.implicit, w.holds.writing.mentions_low);
      }

-- ---- a step more

-- the files that a step mentions are those of the reading
pub written_low : {log : List Logged} {graph : List ℕ} {c : Counts} {rd : Reading} → Graphed log graph c rd → (s f : ℕ) → f ∈ mentions_of (step_at rd.steps s) → f < length rd.files
unfolding mentions_of outs_in inputs_in
written_low {rd = rd} g s f i =
    elim (in_append (step_at rd.steps s).outs i) [
      | inl a ↦ g.tables.low f (in_part g.mentions (step_start g.ends s) (end_at g.ends s outs_end) (subst (λ (l : List ℕ). f ∈ l) (sym (held_outs g.tables s)) a))
      | inr b ↦ g.tables.low f (in_part g.mentions (end_at g.ends s outs_end) (end_at g.ends s order_only_end) (subst (λ (l : List ℕ). f ∈ l) (sym (held_inputs g.tables s)) b))
    ]

regrouped : (m o i p n r : List ℕ) → ((m ++ (o ++ (i ++ p))) ++ n) ++ r ≡ m ++ (o ++ (i ++ ((p ++ n) ++ r)))
regrouped m o i p n r =
    rw (append_assoc (m ++ (o ++ (i ++ p))) n r, append_assoc m (o ++ (i ++ p)) (n ++ r), append_assoc o (i ++ p) (n ++ r), append_assoc i p (n ++ r), append_assoc p n r)

four_same : {a b c d a' b' c' d' : ℕ} → a ≡ a' → b ≡ b' → c ≡ c' → d ≡ d' → ◌≡◌ {A = List ℕ} (a ∷ b ∷ c ∷ d ∷ []) (a' ∷ b' ∷ c' ∷ d' ∷ [])
four_same p q r s = cc

map_last : {A : Type 0} (f : A → ℕ) (l : List A) (x : A) → map f (l ++ (x ∷ [])) ≡ map f l ++ (f x ∷ [])
map_last f [] x = refl
map_last f (y ∷ l) x = ap (λ (r : List ℕ). f y ∷ r) (map_last f l x)

-- a step's mentions with its listed files
listed_mentions : (x : Step) (fs : List ℕ) → mentions_of (with_listed fs x) ≡ x.outs ++ (x.ins ++ ((x.implicit ++ fs) ++ x.order_only))
unfolding mentions_of inputs with_listed
listed_mentions x fs = refl

-- what it mentions then was written or is listed
listed_among : (x : Step) (fs : List ℕ) {f : ℕ} → f ∈ mentions_of (with_listed fs x) → (f ∈ mentions_of x) ⊎ (f ∈ fs)
unfolding mentions_of inputs
listed_among x fs {f} i =
    elim (in_append x.outs (subst (λ (l : List ℕ). f ∈ l) (listed_mentions x fs) i)) [
      | inl a ↦ inl (in_left (x.ins ++ (x.implicit ++ x.order_only)) a)
      | inr b ↦ elim (in_append x.ins b) [
        | inl a ↦ inl (in_right x.outs (in_left (x.implicit ++ x.order_only) a))
        | inr d ↦ elim (in_append (x.implicit ++ fs) d) [
          | inl e ↦ elim (in_append x.implicit e) [ inl a ↦ inl (in_right x.outs (in_right x.ins (in_left x.order_only a))) | inr l ↦ inr l ]
          | inr o ↦ inl (in_right x.outs (in_right x.ins (in_right x.implicit o)))
        ]
      ]
    ]

listed_ends : (x : Step) (fs : List ℕ) (k a b c d : ℕ) → a ≡ k + length x.outs → b ≡ k + length x.outs + length x.ins
    → c ≡ k + length x.outs + length x.ins + length x.implicit + length fs → d ≡ c + length x.order_only → (a ∷ b ∷ c ∷ d ∷ []) ≡ step_ends_from k (with_listed fs x ∷ [])
unfolding step_ends_from with_listed
listed_ends x fs k a b c d p q r s =
    let n = length-append x.implicit fs in
    four_same p q (omega (arith, n)) (omega (arith, n))

module _ {log : List Logged} {graph ns index texts bind second : List ℕ} {s : ℕ} {c : Counts} {rd : Reading} {h : HeaderGraph}
    (w : StepHeld log graph ns index texts bind second s c rd h) (missing : Bool) (names : List (List ℕ)) where
  abbrev was : HoldsHeaders log (buffers ns index texts bind second) c rd h
  was = w.holds

  abbrev step : Step
  step = step_at rd.steps s

  abbrev listed : Listed
  listed = record { missing = missing; files = numbers_of (mention h.reading.files names) names }

  abbrev after : HeaderGraph
  after = head_step step listed (record { reading = mentioned names h.reading; lists = h.lists })

  abbrev front : LineHeld
  front = copied_line (step.outs ++ (step.ins ++ step.implicit)) (head_line log rd h was.made)

  module _ {ns' index' second₂ second₃ : List ℕ} {e r : Counts} {n : ℕ} (k : Writing (buffers ns' index' texts bind second₂) e (with_paths names front)) (z : n ≡ listed_number listed)
      (q : Closes graph (places_in graph s) second₂ s c.paths e n second₃ r) where
    abbrev line : LineHeld
    line = with_paths names front

    abbrev made : List ℕ
    made = line.made

    counted : r ≡ counted_copies (length step.order_only) e
    counted = q.counted ∙ ap (λ (i : ℕ). counted_copies i e) (stands_here w).order

    paths_are : e.paths ≡ c.paths + length step.outs + length step.ins + length step.implicit + length names
    paths_are =
        let a = length-append front.mentions (numbers_of (mention h.reading.files names) names) in
        let b = length-append (concat (map mentions_of h.reading.steps)) (step.outs ++ (step.ins ++ step.implicit)) in
        let d = length-append step.outs (step.ins ++ step.implicit) in
        let f = length-append step.ins step.implicit in
        omega (arith, k.paths_counted, ap length (paths_mentions names front), a, b, d, f, was.writing.paths_counted, length_numbers (mention h.reading.files names) names)

    mentions_are : line.mentions ++ step.order_only ≡ concat (map mentions_of (h.reading.steps ++ (with_listed listed.files step ∷ [])))
    mentions_are =
        ap (λ (l : List ℕ). l ++ step.order_only) (paths_mentions names front)
        ∙ regrouped (concat (map mentions_of h.reading.steps)) step.outs step.ins step.implicit listed.files step.order_only
        ∙ ap (λ (l : List ℕ). concat (map mentions_of h.reading.steps) ++ l) (sym (listed_mentions step listed.files))
        ∙ sym (mentions_more h.reading.steps (with_listed listed.files step))

    ends_are : line.ends ++ ends_of (moved_ends (places_in graph s) c.paths e.paths) ≡ step_ends_from 0 (h.reading.steps ++ (with_listed listed.files step ∷ []))
    ends_are =
        let t = stands_here w in
        let p = places_in graph s in
        let l = length_numbers (mention h.reading.files names) names in
        ap (λ (v : List ℕ). v ++ ends_of (moved_ends p c.paths e.paths)) (paths_ends names front)
        ∙ ap (λ (v : List ℕ). step_ends_from 0 h.reading.steps ++ v)
        (listed_ends step listed.files c.paths (c.paths + (p.outs - p.start)) (c.paths + (p.ins - p.start)) e.paths (e.paths + (p.order - p.implicit))
        (omega (arith, t.outs)) (omega (arith, t.ins)) (omega (arith, paths_are, l)) (omega (arith, t.order)))
        ∙ sym (ends_more 0 h.reading.steps (with_listed listed.files step) c.paths (omega (arith, was.writing.paths_counted)))

    reading_is : line.reading ≡ reading_with rd after.reading
    unfolding mentioned head_step with_step
    reading_is = paths_reading names front

    bound_after : HoldsBound log texts bind (counted_copies (length step.order_only) e) (reading_with rd after.reading)
    bound_after =
        bound_copied (length step.order_only)
        (subst (λ (l : List Logged). HoldsBound l texts bind e (reading_with rd after.reading)) (paths_log names front)
        (subst (λ (v : Reading). HoldsBound line.log texts bind e v) reading_is k.bound))

    named_after : HoldsNames ns' index' e.files after.reading.files
    named_after = subst (λ (v : Reading). HoldsNames ns' index' e.files v.files) reading_is k.named

    length_ruled : length line.rule_of ≡ s
    length_ruled = ap length (paths_ruled names front) ∙ length-map h.lists listed_number ∙ was.listed ∙ w.done

    length_ended : length line.ends ≡ end_place s outs_end
    length_ended = omega (arith, ap length (paths_ends names front), length_ends 0 h.reading.steps, w.done)

    columns_after : Columns second₃ (line.mentions ++ step.order_only) (line.ends ++ ends_of (moved_ends (places_in graph s) c.paths e.paths)) line.phony made (line.rule_of ++ (n ∷ [])) line.reading.defaults
    columns_after =
        subst (λ (l : List ℕ). Columns second₃ (line.mentions ++ l) (line.ends ++ ends_of (moved_ends (places_in graph s) c.paths e.paths)) line.phony made (line.rule_of ++ (n ∷ [])) line.reading.defaults)
        (stands_here w).back
        (q.closed line.mentions line.ends line.phony made line.rule_of line.reading.defaults k.columns k.paths_counted length_ended length_ruled)

    mentions_grown : e.mentions ≡ c.mentions + length names
    unfolding mentioned
    mentions_grown = omega (arith, k.mentions_counted, ap (λ (v : Reading). v.mentions) (paths_reading names front), was.writing.mentions_counted)

    defaults_same : e.defaults ≡ c.defaults
    unfolding mentioned
    defaults_same = k.defaults_counted ∙ ap (λ (v : Reading). length v.defaults) (paths_reading names front) ∙ sym was.writing.defaults_counted

    -- the line as the second columns hold it
    writing_after : Writing (buffers ns' index' texts bind second₃) (counted_copies (length step.order_only) e) (head_line log rd after made)
    unfolding head_step with_step mentioned
    writing_after =
        let t = left_room w in
        let m = mentions_grown in
        let d = defaults_same in
        record {
          named = named_after;
          bound = bound_after;
          columns =
              (let u : line.rule_of ++ (n ∷ []) ≡ map listed_number (h.lists ++ (listed ∷ [])) =
              ap (λ (l : List ℕ). l ++ (n ∷ [])) (paths_ruled names front) ∙ ap (λ (i : ℕ). map listed_number h.lists ++ (i ∷ [])) z ∙ sym (map_last listed_number h.lists listed) in
              let f : line.reading.defaults ≡ rd.defaults = ap (λ (v : Reading). v.defaults) (paths_reading names front) in
              rw (mentions_are, ends_are, paths_phony names front, u, f) at columns_after);
          filed = k.filed ∙ ap (λ (v : Reading). length v.files) reading_is;
          paths_counted = omega (arith, k.paths_counted, ap length mentions_are, length-append line.mentions step.order_only);
          defaults_counted = d ∙ was.writing.defaults_counted;
          mentions_counted = m ∙ ap (λ (i : ℕ). i + length names) was.writing.mentions_counted;
          few_mentions = omega (arith, paths_are, t, m, d);
          mentions_low = k.mentions_low;
        }

    -- ---- all that is held then

    left_after : length (mentions_left rd after) ≡ length (later w)
    unfolding head_step with_step mentioned
    left_after =
        let z : length (h.reading.steps ++ (with_listed listed.files step ∷ [])) ≡ suc s = omega (arith, length-append h.reading.steps (with_listed listed.files step ∷ []), w.done) in
        ap (λ (i : ℕ). length (concat (map mentions_of (drop i rd.steps)))) z

    low_listed : (f : ℕ) → f ∈ listed.files → f < length (mention h.reading.files names)
    low_listed f i =
        let (j, b, e) = place i in
        let l = numbers_low (mention h.reading.files names) names (among_all h.reading.files names) j (omega (arith, length_numbers (mention h.reading.files names) names)) in
        omega (arith, ap (λ (v : ℕ). v) e)

    low_written : (f : ℕ) → f ∈ mentions_of step → f < length (mention h.reading.files names)
    low_written f i =
        omega (arith, written_low w.written s f i, mention_longer h.reading.files names, ap length was.grown, length-append rd.files was.more)

    low_after : (f : ℕ) → f ∈ concat (map mentions_of (h.reading.steps ++ (with_listed listed.files step ∷ []))) → f < length (mention h.reading.files names)
    low_after f i =
        elim (in_append (concat (map mentions_of h.reading.steps)) (subst (λ (l : List ℕ). f ∈ l) (mentions_more h.reading.steps (with_listed listed.files step)) i)) [
          | inl a ↦ omega (arith, was.low f a, mention_longer h.reading.files names)
          | inr b ↦ elim (listed_among step listed.files b) [ inl y ↦ low_written f y | inr z ↦ low_listed f z ]
        ]

    grown_after : (more : List (List ℕ)) × (mention h.reading.files names ≡ rd.files ++ more)
    grown_after =
        let (more, e) = mention_grows h.reading.files names in
        (was.more ++ more, e ∙ ap (λ (l : List (List ℕ)). l ++ more) was.grown ∙ append_assoc rd.files was.more more)

    pub step_held : HoldsHeaders log (buffers ns' index' texts bind second₃) r rd after
    unfolding head_step with_step mentioned
    step_held =
        rw counted
        record {
          made = made;
          writing = writing_after;
          makes = λ f. was.makes f ∙ ap made_by (sym (paths_made names front f));
          low = low_after;
          more = grown_after.0;
          grown = grown_after.1;
          bindings = was.bindings;
          listed = omega (arith, length-append h.lists (listed ∷ []), length-append h.reading.steps (with_listed listed.files step ∷ []), was.listed);
          room = omega (arith, left_room w, left_after, paths_are, mentions_grown, defaults_same);
          outputs = was.outputs;
        }
