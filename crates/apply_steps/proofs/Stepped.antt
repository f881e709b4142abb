-- A line that is written whole: the buffers hold the reading with its step.
use Prim.Native.Nat.{ℕ, ◌+◌, ◌-◌, ◌<◌}
use mathlib.Core.List.{List, [], ◌∷◌, ◌++◌}
use mathlib.Core.Path.{◌≡◌, sym, ◌∙◌, ap}
use native.Mathlib.Decide.{dec_lt}
use native.Mathlib.Omega.{arith}
use lib.ListN.{length, get_or, length-append, get_or-append}
use lib.Seq.{get_or-append_seam, get_or-append-add}
use Rattle.lists.specs.Members.{in_at}
use Rattle.lists.specs.Parts.{part}
use Rattle.spec.specs.Limits.{max_steps}
use Rattle.spec.specs.Forms.{BuildLine}
use Rattle.spec.specs.Reading.{Step, Reading, numbers_of, mention}
use Rattle.spec.specs.Statements.{mentioned, inputs_of_line}
use Rattle.spec.specs.Graph.{inputs}
use Rattle.hold_bindings.specs.Log.{Logged}
use Rattle.hold_columns.specs.Columns.{mentions_of, outs_end, end_place, step_ends_from}
use Rattle.hold_columns.proofs.Held.{held_steps}
use Rattle.hold_reading.specs.declared.Counts.{Counts}
use Rattle.hold_reading.specs.Held.{Graphed, HoldsReading}
use Rattle.apply_files.specs.Lines.{LineHeld, Writing}
use Rattle.apply_files.proofs.Limits.{mention_more}
use Rattle.apply_files.proofs.Closed.{Among, among_all, numbers_append, numbers_low, length_numbers}
use Rattle.apply_step_lists.specs.Lists.{with_lists, lists_of}
use Rattle.apply_step_columns.specs.StepColumns.{StepReady, newest_end}
use Rattle.apply_step_lists.proofs.Listing.{lists_reading}
use Rattle.apply_steps.proofs.Closed.{lists_log, lists_phony, lists_ruled, lists_mentions, lists_ends, ends_after, concat_lists}
use Rattle.hold_columns.proofs.Places.{part_mid, length_ends}
use Rattle.hold_reading.specs.Buffers.{Buffers, with_files}

-- ---- the line that is held, before its first path and after its last

abbrev pub line_of : {log : List Logged} {bs : Buffers} {c : Counts} {rd : Reading} → HoldsReading log bs c rd → LineHeld
line_of {log} {rd = rd} h =
    let g = h.graphed in
    record { log = log; reading = rd; mentions = g.mentions; ends = g.ends; phony = g.phony; made = g.made; rule_of = g.rule_of }

abbrev pub paths_of : BuildLine → List (List ℕ)
paths_of b = b.outs ++ inputs_of_line b

-- the files with those of the line
abbrev pub files_with : BuildLine → Reading → List (List ℕ)
files_with b rd = mention rd.files (paths_of b)

abbrev pub step_for : BuildLine → Reading → Step
step_for b rd =
    let f = files_with b rd in
    record {
      outs = numbers_of f b.outs;
      ins = numbers_of f b.ins;
      implicit = numbers_of f b.implicit;
      order_only = numbers_of f b.order_only;
      rule = b.rule;
      block = [];
      scope = rd.vars.current;
    }

abbrev pub line_after : BuildLine → LineHeld → List ℕ → LineHeld
line_after b h made =
    record {
      log = h.log;
      reading = mentioned (paths_of b) h.reading;
      mentions = h.mentions ++ numbers_of (files_with b h.reading) (paths_of b);
      ends = h.ends ++ ends_after (length h.mentions) (lists_of b);
      phony = h.phony;
      made = made;
      rule_of = h.rule_of;
    }

same_line : (h : LineHeld) {log : List Logged} {rd : Reading} {m e p r : List ℕ} → h.log ≡ log → h.reading ≡ rd → h.mentions ≡ m → h.ends ≡ e → h.phony ≡ p → h.rule_of ≡ r
    → h ≡ record { log = log; reading = rd; mentions = m; ends = e; phony = p; made = h.made; rule_of = r }
same_line h a b c d f g = rw (← a, ← b, ← c, ← d, ← f, ← g)

pub lists_line : (b : BuildLine) (h : LineHeld) → with_lists (lists_of b) h ≡ line_after b h (with_lists (lists_of b) h).made
lists_line b h =
    let l = lists_of b in
    let z = concat_lists b in
    same_line (with_lists l h) (lists_log l h)
    (rw z at (lists_reading l h))
    (rw z at (lists_mentions l h))
    (lists_ends l h)
    (lists_phony l h)
    (lists_ruled l h)

-- ---- its columns

module _ (b : BuildLine) (rd : Reading) where
  pub step_mentions : mentions_of (step_for b rd) ≡ numbers_of (files_with b rd) (paths_of b)
  unfolding mentions_of inputs inputs_of_line
  step_mentions =
      let f = files_with b rd in
      rw (numbers_append f b.outs (inputs_of_line b), numbers_append f b.ins (b.implicit ++ b.order_only), numbers_append f b.implicit b.order_only)

  pub step_ends : (k : ℕ) → step_ends_from k (step_for b rd ∷ []) ≡ ends_after k (lists_of b)
  unfolding step_ends_from
  step_ends k =
      let f = files_with b rd in
      rw (length_numbers f b.outs, length_numbers f b.ins, length_numbers f b.implicit, length_numbers f b.order_only)

  among_front : (f l r : List (List ℕ)) → Among (l ++ r) f → Among l f
  among_front f [] r a = tt
  among_front f (p ∷ l) r a = (a.0, among_front f l r a.1)

  pub outs_among : Among b.outs (files_with b rd)
  outs_among = among_front (files_with b rd) b.outs (inputs_of_line b) (among_all rd.files (paths_of b))

module _ {log : List Logged} {bs : Buffers} {c : Counts} {rd : Reading} (w : HoldsReading log bs c rd) (b : BuildLine)
    (few : c.steps < max_steps) {names' index' graph₁ : List ℕ} {d : Counts} {made : List ℕ} (x : Writing (with_files bs names' index' graph₁) d (line_after b (line_of w) made)) where
  abbrev g : Graphed log bs.graph c rd
  g = w.graphed

  abbrev numbers : List ℕ
  numbers = numbers_of (files_with b rd) (paths_of b)

  pub steps_same : d.steps ≡ length rd.steps
  unfolding mentioned
  steps_same = x.bound.steps_counted

  pub made_long : length made ≡ length (files_with b rd)
  unfolding mentioned
  made_long = x.filed

  ends_before : end_place d.steps outs_end ≡ length g.ends
  ends_before = omega (arith, steps_same, ap length g.tables.ended, length_ends 0 rd.steps)

  outs_end_law : newest_end d (line_after b (line_of w) made) ≡ length g.mentions + length b.outs
  outs_end_law = rw ends_before (get_or-append_seam g.ends _ _ 0)

  length_paths : length (paths_of b) ≡ length b.outs + length (inputs_of_line b)
  length_paths = length-append b.outs (inputs_of_line b)

  pub mentions_low : (i : ℕ) → i < length (g.mentions ++ numbers) → get_or (g.mentions ++ numbers) i 0 < length made
  mentions_low i h =
      elim (dec_lt i (length g.mentions)) [
        | yes l ↦
            rw (get_or-append g.mentions numbers 0 i l)
            (omega (arith, g.tables.low (get_or g.mentions i 0) (in_at g.mentions i l), mention_more rd.files (paths_of b), made_long))
        | no l ↦
            (let j = i - length g.mentions in
            let z : i ≡ length g.mentions + j = omega arith in
            let k : j < length (paths_of b) = omega (arith, length-append g.mentions numbers, length_numbers (files_with b rd) (paths_of b)) in
            rw (z, get_or-append-add g.mentions numbers j 0, made_long)
            (numbers_low (files_with b rd) (paths_of b) (among_all rd.files (paths_of b)) j k))
      ]

  -- what the step's columns ask
  pub step_ready : StepReady c.paths d (line_after b (line_of w) made)
  step_ready =
      record {
        ended = omega (arith, ends_before, length-append g.ends (ends_after (length g.mentions) (lists_of b)));
        outs =
            record {
              ordered = omega (arith, outs_end_law, g.paths_counted);
              within = omega (arith, outs_end_law, length-append g.mentions numbers, length_numbers (files_with b rd) (paths_of b), length_paths);
              low = mentions_low;
            };
        phony = held_steps g.tables ∙ sym steps_same;
        ruled = g.ruled_all ∙ sym steps_same;
        few = omega (arith, steps_same, w.bound.steps_counted);
      }

  pub outs_part : part (g.mentions ++ numbers) c.paths (newest_end d (line_after b (line_of w) made)) ≡ numbers_of (files_with b rd) b.outs
  outs_part =
      let f = files_with b rd in
      rw (numbers_append f b.outs (inputs_of_line b))
      (part_mid g.mentions (numbers_of f b.outs) (numbers_of f (inputs_of_line b)) _ _ g.paths_counted (omega (arith, outs_end_law, length_numbers f b.outs)))
