-- What the rules answer to a line without 7 and 8: one law for each answer.
use Rattle.std.specs.Prelude.{Some, None, Err}
use Prim.Native.Nat.{ℕ, ◌≤◌, ◌<◌}
use mathlib.Core.Bool.{true, false, ◌||◌, or-true}
use mathlib.Core.List.{List, [], append-nil}
use mathlib.Core.Path.{◌≡◌, sym, ◌∙◌, ap, subst}
use native.Mathlib.Omega.{arith}
use borrow.Author.Tests.{le-ltb, le-leb, lt-leb}
use lib.ListN.{length}
use Rattle.lists.specs.Parts.{part}
use Rattle.spec.specs.declared.Refusal.TheVariants.{OverLimit}
use Rattle.spec.specs.Basics.{concat}
use Rattle.spec.specs.Limits.{max_steps, max_files, max_bindings, max_mentions, max_written}
use Rattle.spec.specs.Forms.{BuildLine}
use Rattle.spec.specs.Reading.{Variables, Reading}
use Rattle.spec.specs.Statements.{goes_on, refused, build_block, mentioned, over_paths, over_counts, expanded_line, add_step}
use Rattle.cut_forms.specs.declared.BuildPlaces.{BuildPlaces}
use Rattle.cut_forms.specs.Statements.{Stands}
use Rattle.hold_bindings.specs.Log.{Logged, Scoping, scoping_of, variables_of}
use Rattle.hold_bindings.specs.Held as bindings
use Rattle.hold_reading.specs.declared.Counts.{Counts}
use Rattle.hold_reading.specs.declared.Open.TheVariants.{Step as OpenStep}
use Rattle.hold_reading.specs.Held.{joined, a_step, Ruled, scope_unit, HoldsReading, goes, refuses}
use Rattle.apply_files.specs.Lines.{LineHeld, Writing, over_line}
use Rattle.apply_steps.specs.Asks.{StepAsks, ClearLine, WritesStep}
use Rattle.apply_step_lists.specs.Lists.{with_lists, lists_of, FourAsks, Four}
use Rattle.apply_step_columns.specs.StepColumns.{rule_number, PutStepAsks, PutsStep}
use Rattle.apply_step_lists.proofs.Listing.{listed_on, listed_short, listed_over}
use Rattle.apply_steps.proofs.Closed.{lists_made, concat_lists}
use Rattle.apply_step_columns.proofs.Numbered.{ruled, number_low}
use Rattle.hold_columns.specs.Columns.{outs_end, end_place}
use Rattle.hold_columns.proofs.Places.{length_ends}
use Rattle.apply_steps.proofs.Stepped.{line_of, paths_of, step_for, line_after, lists_line, step_ready}
use Rattle.apply_steps.proofs.Joined.{step_held}
use Rattle.hold_reading.specs.Buffers.{Buffers, with_files}
use Rattle.hold_reading.specs.Went.{went}

-- ---- the rules' answer

module _ (start : ℕ) (b : BuildLine) (rd : Reading) (k : ClearLine b rd) where
  step_over : over_line (paths_of b) rd ≡ true → add_step start b rd ≡ refused (OverLimit start)
  unfolding add_step over_line
  step_over h = rw (k.known, k.sound, h)

  step_many : max_steps ≤ length rd.steps → add_step start b rd ≡ refused (OverLimit start)
  unfolding add_step
  step_many h =
      rw (k.known, k.sound, le-leb max_steps (length rd.steps) h, or-true (over_paths (paths_of b) || over_counts (mentioned (paths_of b) rd)))

  step_goes : over_paths (paths_of b) ≡ false → over_counts (mentioned (paths_of b) rd) ≡ false → length rd.steps < max_steps
      → add_step start b rd ≡ goes_on (mentioned (paths_of b) rd) (build_block (step_for b rd))
  unfolding add_step
  step_goes p q h = rw (k.known, k.sound, p, q, lt-leb max_steps (length rd.steps) h)

-- What is held is within the limits.
not_over : {bs : Buffers} {c : Counts} {h : LineHeld} → Writing bs c h → over_counts h.reading ≡ false
unfolding over_counts
not_over {h = h} w =
    rw (
      le-ltb max_files (length h.reading.files) (omega (arith, w.named.counted, w.named.few)),
      le-ltb max_bindings h.reading.bindings (omega (arith, w.bound.bindings_counted, w.bound.few_bindings)),
      le-ltb max_mentions h.reading.mentions (omega (arith, w.mentions_counted, w.mentions_low)),
      le-ltb max_written h.reading.written (omega (arith, w.bound.written_counted, w.bound.few_written)),
    )

-- ---- the lists

module _ {log : List Logged} {bs : Buffers} {c : Counts} {rd : Reading} (w : HoldsReading log bs c rd) where
  begins : Writing bs c (line_of w)
  begins =
      let g = w.graphed in
      record {
        named = w.named;
        bound = w.bound;
        columns = record { lies = g.lies };
        filed = g.tables.counted;
        paths_counted = g.paths_counted;
        defaults_counted = g.defaults_counted;
        mentions_counted = g.mentions_counted;
        few_mentions = g.few_mentions;
        mentions_low = g.mentions_low;
      }

  ends_begun : length (line_of w).ends ≡ end_place c.steps outs_end
  ends_begun =
      omega (arith, ap length w.graphed.tables.ended, length_ends 0 rd.steps, w.bound.steps_counted)

  module _ {l : List ℕ} {p : BuildPlaces} {b : BuildLine} (s : Stands l p b) {names' index' graph' : List ℕ} where
    four_held : {d : Counts} → Four l bs c p names' index' graph' (Some d)
        → Writing (with_files bs names' index' graph') d (line_after (expanded_line rd b) (line_of w) (with_lists (lists_of (expanded_line rd b)) (line_of w)).made)
    unfolding expanded_line
    four_held {d} f =
        subst (λ (h : LineHeld). Writing (with_files bs names' index' graph') d h) (lists_line (expanded_line rd b) (line_of w)) (listed_on (f.listed b s (line_of w) begins ends_begun))

    four_short : {d : Counts} → Four l bs c p names' index' graph' (Some d) → over_paths (paths_of (expanded_line rd b)) ≡ false
    unfolding expanded_line
    four_short f = rw (← (concat_lists (expanded_line rd b))) (listed_short (f.listed b s (line_of w) begins ends_begun))

    four_past : Four l bs c p names' index' graph' None → over_line (paths_of (expanded_line rd b)) rd ≡ true
    unfolding expanded_line
    four_past f =
        let a = concat (lists_of (expanded_line rd b)) in
        rw (← (concat_lists (expanded_line rd b)), ← (append-nil a)) (listed_over (f.listed b s (line_of w) begins ends_begun) [])

-- ---- `write_step`

module _ (start : ℕ) {l : List ℕ} {bs : Buffers} {c : Counts} {p : BuildPlaces} {names' index' graph' : List ℕ} where
  pub write_many : max_steps ≤ c.steps → WritesStep l bs c start p names' index' graph' (Err (OverLimit start))
  write_many h =
      record {
        agrees = λ b s log rd w k. rw (step_many start (expanded_line rd b) rd k (omega (arith, w.bound.steps_counted))) refuses;
      }

  pub write_over : Four l bs c p names' index' graph' None → WritesStep l bs c start p names' index' graph' (Err (OverLimit start))
  write_over f =
      record { agrees = λ b s log rd w k. rw (step_over start (expanded_line rd b) rd k (four_past w s f)) refuses }

  pub write_goes : c.steps < max_steps → {graph₁ : List ℕ} {d : Counts} → Four l bs c p names' index' graph₁ (Some d) → {n : ℕ}
      → ((log : List Logged) → bindings.HoldsBindings log bs.texts bs.bind d.entries → n ≡ rule_number (part l p.rule p.ins) log) → {j : ℕ}
      → ((g : Scoping) → bindings.HoldsScopes g bs.bind → j ≡ g.current) → {e : Counts} → PutsStep graph₁ c.paths n j d graph' e
      → WritesStep l bs c start p names' index' graph' (went e OpenStep)
  unfolding joined expanded_line variables_of
  write_goes few {graph₁} {d} f {n} r {j = i} o {e} j =
      record {
        agrees = λ b s log rd w k.
            let b' = expanded_line rd b in
            let x = four_held w s f in
            let z : n ≡ rule_number b.rule log = r log x.bound.held ∙ ap (λ (m : List ℕ). rule_number m log) (sym s.rule) in
            let v : i ≡ rd.vars.current = o (scoping_of log) x.bound.held.scopes ∙ sym (ap (λ (m : Variables). m.current) w.bound.vars) in
            let y = (subst (λ (m : ℕ). PutsStep graph₁ c.paths n m d graph' e) v j).laid _ x.columns (step_ready w b' few x) in
            let u : n < scope_unit = omega (arith, z, number_low b.rule log, x.bound.held.rows.counted, x.bound.held.rows.few) in
            let q = subst (λ (m : ℕ). Ruled log b.rule m) (sym z) (ruled b.rule log rd w.bound.rules k.known) in
            rw (step_goes start b' rd k (four_short w s f) (not_over x) (omega (arith, w.bound.steps_counted)), j.counted)
            (goes (step_held w b' few k.sound x (lists_made (lists_of b') (line_of w)) q u y (four_short w s f)) a_step);
      }

-- ---- what the calls ask

module _ {t l : List ℕ} {bs : Buffers} {word : List ℕ} {c : Counts} {p : BuildPlaces} (a : StepAsks t l bs word c p) where
  pub write_four : c.steps < max_steps → FourAsks t l bs word c p
  write_four few =
      record {
        table = a.table;
        short = a.short;
        raw = a.line;
        stands = a.stands;
        room = a.room;
        line = line_of a.whole.holds;
        writing = begins a.whole.holds;
        ended = ends_begun a.whole.holds;
        few = few;
      }

  pub write_scopes : (bindings.max_rows ≤ length bs.bind) × bindings.SoundScopes bs.bind
  write_scopes =
      let h = a.whole.holds.bound.held in
      (h.rows.bind_long, record { scoping = scoping_of a.whole.log; held = h.scopes })

  module _ {names' index' graph' : List ℕ} {d : Counts} (f : Four l bs c p names' index' graph' (Some d)) where
    pub write_rule : bindings.SoundBindings bs.texts bs.bind d.entries
    write_rule = record { log = a.whole.log; held = (four_held a.whole.holds a.stands f).bound.held }

    pub write_columns : c.steps < max_steps → {n : ℕ} (name : List ℕ) → ((log : List Logged) → bindings.HoldsBindings log bs.texts bs.bind d.entries → n ≡ rule_number name log)
        → {j : ℕ} → ((g : Scoping) → bindings.HoldsScopes g bs.bind → j ≡ g.current) → PutStepAsks graph' c.paths n j d
    write_columns few name r o =
        let w = a.whole.holds in
        let x = four_held w a.stands f in
        let h = x.bound.held in
        record {
          line = line_after (expanded_line a.whole.reading a.line) (line_of w) _;
          laid = x.columns;
          ready = step_ready w (expanded_line a.whole.reading a.line) few x;
          small = omega (arith, r a.whole.log h, number_low name a.whole.log, h.rows.counted, h.rows.few);
          few = omega (arith, o (scoping_of a.whole.log) h.scopes, h.scopes.below, h.scopes.few);
        }
