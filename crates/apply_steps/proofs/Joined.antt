-- The buffers hold the reading with a line's step.
use Prim.Native.Nat.{ℕ, ◌+◌, ◌≤◌, ◌<◌}
use mathlib.Core.Bool.{false}
use mathlib.Core.List.{List, [], ◌∷◌, ◌++◌, map}
use mathlib.Core.Path.{◌≡◌, refl, sym, ◌∙◌, ap}
use native.Mathlib.Decide.{dec_lt}
use native.Mathlib.Omega.{arith}
use lib.ListN.{length, get_or, length-append, get_or-append}
use lib.Seq.{get_or-append_seam}
use Rattle.lists.specs.Members.{◌∈◌, place}
use Rattle.lists.specs.Parts.{part}
use Rattle.spec.specs.Basics.{concat}
use Rattle.spec.specs.Limits.{max_steps, max_files}
use Rattle.spec.specs.Forms.{BuildLine}
use Rattle.spec.specs.Reading.{Variables, Step, Reading, is_phony, numbers_of}
use Rattle.spec.specs.Statements.{mentioned, inputs_of_line, bad_paths, over_paths}
use Rattle.spec.specs.Manifest.{with_step}
use Rattle.spec.specs.Graph.{no_step, step_at}
use Rattle.hold_bindings.specs.Log.{Logged, of_block, bound_by, scoping_of, variables_of}
use Rattle.hold_bindings.proofs.Lookups.{no_lines, owned_more}
use Rattle.hold_columns.specs.Columns as columns
use Rattle.hold_columns.specs.Columns.{bit, mentions_of, step_ends_from}
use Rattle.hold_reading.specs.declared.Counts.{Counts}
use Rattle.hold_reading.specs.Held.{HoldsBound, Ruled, scope_unit, rule_with_scope, RuledIn, Graphed, HoldsReading}
use Rattle.hold_reading.proofs.Short.{mention_short}
use Rattle.apply_files.specs.Lines.{Writing}
use Rattle.apply_files.proofs.Limits.{mention_more}
use Rattle.apply_files.proofs.Closed.{numbers_low, length_numbers}
use Rattle.apply_step_lists.specs.Lists.{lists_of}
use Rattle.apply_step_columns.specs.StepColumns.{set_all, Laid, newest_end, phony_bit, with_step_rule, counted_step}
use Rattle.apply_steps.proofs.Closed.{ends_after}
use Rattle.apply_step_columns.proofs.Making.{length_set_all}
use Rattle.apply_step_columns.proofs.Numbered.{ruled_bit}
use Rattle.hold_columns.proofs.Growing.{mentions_more, ends_more, map_more}
use Rattle.apply_steps.proofs.Growing.{makes_more}
use Rattle.apply_steps.proofs.Fresh.{line_fresh}
use Rattle.apply_steps.proofs.Stepped.{line_of, paths_of, files_with, step_for, line_after, step_mentions, step_ends, outs_among, steps_same, made_long, mentions_low, outs_part}
use Rattle.hold_reading.specs.Buffers.{Buffers, with_files}

-- ---- a step more, at each place

module _ {A : Type 0} (f : Step → A) (steps : List Step) (s : Step) where
  at_old : (i : ℕ) → i < length steps → f (step_at (steps ++ (s ∷ [])) i) ≡ f (step_at steps i)
  at_old i l = ap f (get_or-append steps (s ∷ []) no_step i l)

  at_new : f (step_at (steps ++ (s ∷ [])) (length steps)) ≡ f s
  at_new = ap f (get_or-append_seam steps s [] no_step)

-- ---- the table of bindings

module _ {log : List Logged} {texts bind : List ℕ} {d : Counts} {rd : Reading} (b : HoldsBound log texts bind d rd) (s : Step) where
  step_blocks : s.block ≡ [] → (i : ℕ) → i < length (rd.steps ++ (s ∷ [])) → (step_at (rd.steps ++ (s ∷ [])) i).block ≡ bound_by (of_block i) log
  step_blocks e i h =
      elim (dec_lt i (length rd.steps)) [
        | yes l ↦ at_old (λ (x : Step). x.block) rd.steps s i l ∙ b.blocks i l
        | no l ↦
            (let z : i ≡ length rd.steps = omega (arith, length-append rd.steps (s ∷ [])) in
            rw z (at_new (λ (x : Step). x.block) rd.steps s ∙ e ∙ sym (no_lines (length rd.steps) log (length rd.steps) b.owned (omega arith))))
      ]

  step_scopes : s.scope < length (scoping_of log).outers → (i : ℕ) → i < length (rd.steps ++ (s ∷ [])) → (step_at (rd.steps ++ (s ∷ [])) i).scope < length (scoping_of log).outers
  step_scopes e i h =
      elim (dec_lt i (length rd.steps)) [
        | yes l ↦ rw (at_old (λ (x : Step). x.scope) rd.steps s i l) (b.scoped i l)
        | no l ↦
            (let z : i ≡ length rd.steps = omega (arith, length-append rd.steps (s ∷ [])) in rw (z, at_new (λ (x : Step). x.scope) rd.steps s) e)
      ]

  bound_step : s.block ≡ [] → s.scope < length (scoping_of log).outers → d.steps < max_steps → HoldsBound log texts bind (counted_step d) (with_step s rd)
  unfolding with_step
  bound_step e o few =
      let n = length-append rd.steps (s ∷ []) in
      record {
        held = b.held;
        vars = b.vars;
        rules = b.rules;
        blocks = step_blocks e;
        scoped = step_scopes o;
        owned = owned_more (length rd.steps) (length (rd.steps ++ (s ∷ []))) log (omega (arith, n)) b.owned;
        steps_counted = omega (arith, b.steps_counted, n);
        rules_counted = b.rules_counted;
        bindings_counted = b.bindings_counted;
        written_counted = b.written_counted;
        opened_counted = b.opened_counted;
        few_scopes = b.few_scopes;
        entries_counted = b.entries_counted;
        few_rules = b.few_rules;
        few_bindings = b.few_bindings;
        few_steps = omega (arith, few);
        few_written = b.few_written;
        few_opened = b.few_opened;
        shared = b.shared;
      }

-- ---- the graph

module _ {log : List Logged} {bs : Buffers} {c : Counts} {rd : Reading} (w : HoldsReading log bs c rd) (b : BuildLine)
    (few : c.steps < max_steps) (clear : bad_paths b.outs (inputs_of_line b) rd ≡ false) {names' index' graph₁ : List ℕ} {d : Counts} {made : List ℕ}
    (x : Writing (with_files bs names' index' graph₁) d (line_after b (line_of w) made)) (same : (f : ℕ) → get_or made f 0 ≡ get_or w.graphed.made f 0)
    {n : ℕ} (r : Ruled log b.rule n) (low : n < scope_unit) where
  abbrev g : Graphed log bs.graph c rd
  g = w.graphed

  abbrev step : Step
  step = step_for b rd

  abbrev mentions : List ℕ
  mentions = g.mentions ++ numbers_of (files_with b rd) (paths_of b)

  abbrev ends : List ℕ
  ends = g.ends ++ ends_after (length g.mentions) (lists_of b)

  abbrev makers : List ℕ
  makers = set_all (d.steps + 1) (part mentions c.paths (newest_end d (line_after b (line_of w) made))) made

  makers_are : makers ≡ set_all (length rd.steps + 1) step.outs made
  makers_are = rw (outs_part w b few x, steps_same w b few x)

  step_mentioned : mentions ≡ concat (map mentions_of (rd.steps ++ (step ∷ [])))
  step_mentioned =
      ap (λ (l : List ℕ). l ++ numbers_of (files_with b rd) (paths_of b)) g.tables.mentioned
      ∙ ap (λ (l : List ℕ). concat (map mentions_of rd.steps) ++ l) (sym (step_mentions b rd))
      ∙ sym (mentions_more rd.steps step)

  step_ended : ends ≡ step_ends_from 0 (rd.steps ++ (step ∷ []))
  step_ended =
      let k = length g.mentions in
      ap (λ (l : List ℕ). l ++ ends_after k (lists_of b)) g.tables.ended
      ∙ ap (λ (l : List ℕ). step_ends_from 0 rd.steps ++ l) (sym (step_ends b rd k))
      ∙ sym (ends_more 0 rd.steps step k (omega (arith, ap length g.tables.mentioned)))

  step_phonies : g.phony ++ (phony_bit n ∷ []) ≡ map (λ (s : Step). bit (is_phony s.rule)) (rd.steps ++ (step ∷ []))
  step_phonies =
      rw (ruled_bit r, g.tables.phonies) (sym (map_more (λ (s : Step). bit (is_phony s.rule)) rd.steps step))

  mention_low : (f : ℕ) → f ∈ mentions → f < length (files_with b rd)
  mention_low f h =
      let (i, l, e) = place h in
      rw (← e, ← (made_long w b few x)) (mentions_low w b few x i l)

  outs_low : (i : ℕ) → i < length step.outs → get_or step.outs i 0 < length made
  outs_low i h =
      rw (made_long w b few x)
      (numbers_low (files_with b rd) b.outs (outs_among b rd) i (omega (arith, length_numbers (files_with b rd) b.outs)))

  files_few : length (files_with b rd) ≤ max_files
  unfolding mentioned
  files_few = omega (arith, x.named.counted, x.named.few)

  step_tables : columns.HoldsColumns (rd.steps ++ (step ∷ [])) (length (files_with b rd)) mentions ends (g.phony ++ (phony_bit n ∷ [])) makers
  step_tables =
      record {
        mentioned = step_mentioned;
        ended = step_ended;
        phonies = step_phonies;
        counted = length_set_all (d.steps + 1) _ made ∙ made_long w b few x;
        makes = λ f h.
            rw makers_are
            (makes_more g.tables step made same outs_low (line_fresh rd g.tables (paths_of b) b.outs (inputs_of_line b) clear) f);
        low = mention_low;
        few_steps = omega (arith, length-append rd.steps (step ∷ []), w.bound.steps_counted);
        few_files = files_few;
        few_mentions = omega (arith, x.paths_counted, x.few_mentions, x.mentions_low);
      }

  abbrev number : ℕ
  number = rule_with_scope n rd.vars.current

  step_ruled : (i : ℕ) → i < length (rd.steps ++ (step ∷ [])) → RuledIn log (step_at (rd.steps ++ (step ∷ [])) i) (get_or (g.rule_of ++ (number ∷ [])) i 0)
  step_ruled i h =
      elim (dec_lt i (length rd.steps)) [
        | yes l ↦
            rw (at_old (λ (s : Step). s) rd.steps step i l, get_or-append g.rule_of (number ∷ []) 0 i (omega (arith, g.ruled_all))) (g.ruled i l)
        | no l ↦
            (let z : i ≡ length rd.steps = omega (arith, length-append rd.steps (step ∷ [])) in
            rw (z, at_new (λ (s : Step). s) rd.steps step, ← g.ruled_all, get_or-append_seam g.rule_of number [] 0)
            (record { rule = n; low = low; ruled = r; is = refl }))
      ]

  module _ {graph' : List ℕ} (l : Laid graph' (with_step_rule c.paths n rd.vars.current d (line_after b (line_of w) made))) where
    step_graphed : Graphed log graph' (counted_step d) (with_step step (mentioned (paths_of b) rd))
    unfolding with_step mentioned with_step_rule
    step_graphed =
        record {
          mentions = mentions;
          ends = ends;
          phony = g.phony ++ (phony_bit n ∷ []);
          made = makers;
          rule_of = g.rule_of ++ (number ∷ []);
          lies = l.lies;
          tables = step_tables;
          ruled_all = omega (arith, length-append g.rule_of (number ∷ []), length-append rd.steps (step ∷ []), g.ruled_all);
          ruled = step_ruled;
          paths_counted = x.paths_counted;
          defaults_counted = x.defaults_counted;
          mentions_counted = x.mentions_counted;
          few_mentions = x.few_mentions;
          mentions_low = x.mentions_low;
          defaults_low = λ i h. omega (arith, g.defaults_low i h, mention_more rd.files (paths_of b));
        }

    current_low : rd.vars.current < length (scoping_of log).outers
    unfolding variables_of
    current_low = rw (ap (λ (v : Variables). v.current) w.bound.vars) w.bound.held.scopes.below

    -- all that is held of the reading with the step
    pub step_held : over_paths (paths_of b) ≡ false → HoldsReading log (with_files bs names' index' graph') (counted_step d) (with_step step (mentioned (paths_of b) rd))
    unfolding with_step mentioned
    step_held p =
        record {
          named = x.named;
          bound = bound_step x.bound step refl current_low (omega (arith, steps_same w b few x, w.bound.steps_counted));
          graphed = step_graphed;
          short = mention_short rd.files (paths_of b) w.short p;
        }
