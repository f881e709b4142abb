-- What the parts are, where the columns hold a reading's steps.
use Prim.Native.Nat.{ℕ, ◌+◌, ◌*◌, ◌<◌}
use mathlib.Core.List.{List, [], ◌∷◌}
use mathlib.Core.Path.{◌≡◌, refl, sym, ◌∙◌, ap}
use native.Mathlib.Omega.{arith}
use lib.ListN.{length}
use Rattle.lists.specs.Parts.{part, part_from_start}
use Rattle.spec.specs.Reading.{Reading}
use Rattle.arena.specs.Columns.{Lies, start_of, column}
use Rattle.arena.proofs.Laws.{Column, lies_column, lies_part}
use Rattle.hold_columns.specs.Columns.{per_step, HoldsColumns}
use Rattle.hold_columns.proofs.Places.{length_ends}
use Rattle.hold_columns.proofs.Held.{held_steps}
use Rattle.hold_bindings.specs.Log.{Logged}
use Rattle.hold_reading.specs.declared.Counts.{Counts}
use Rattle.hold_reading.specs.Held.{capacities, ends_start, phony_start, made_start, defaults_start, HoldsReading}
use Rattle.hold_reading.specs.Buffers.{Buffers}
use Rattle.hold_parts.specs.Parts.{mentions_in, ends_in, phony_in, made_in, defaults_in, ColumnsCut, Tabled}

-- a reading that is held has its columns there
pub tabled : {log : List Logged} {bs : Buffers} {c : Counts} {rd : Reading} → HoldsReading log bs c rd → Tabled bs.graph c rd
tabled {log} h = record { log = log; graphed = h.graphed; files_counted = h.named.counted; steps_counted = h.bound.steps_counted }

module _ {graph : List ℕ} {c : Counts} {rd : Reading} (h : Tabled graph c rd) where
  cols : List (List ℕ)
  cols = h.graphed.mentions ∷ h.graphed.ends ∷ h.graphed.phony ∷ h.graphed.made ∷ h.graphed.rule_of ∷ rd.defaults ∷ []

  lies : Lies capacities graph cols
  unfolding cols
  lies = h.graphed.lies

  at : (k : ℕ) → k < 6 → Column capacities graph cols k
  unfolding cols
  at k b = lies_column capacities graph cols k lies b

  is : (k n s : ℕ) → k < 6 → start_of capacities k ≡ s → length (column cols k) ≡ n → part graph s (s + n) ≡ column cols k
  unfolding cols
  is k n s b p q = rw (sym p, sym q) (lies_part capacities graph cols k lies b)

  pub parted : ColumnsCut graph c
  unfolding cols
  parted =
      let g = h.graphed in
      record {
        long = (at 5 (omega arith)).within;
        few_paths = omega (arith, g.few_mentions, g.mentions_low);
        few_steps = omega (arith, h.steps_counted, g.tables.few_steps);
        few_files = omega (arith, h.files_counted, g.tables.few_files);
      }

  mentions_are : mentions_in graph c ≡ h.graphed.mentions
  unfolding cols
  mentions_are =
      let z : 0 + c.paths ≡ c.paths = omega arith in
      sym (part_from_start graph c.paths) ∙ (rw z at (is 0 c.paths 0 (omega arith) refl (sym h.graphed.paths_counted)))

  pub mentions_counted : length (mentions_in graph c) ≡ c.paths
  mentions_counted = ap length mentions_are ∙ sym h.graphed.paths_counted

  pub defaults_are : defaults_in graph c ≡ rd.defaults
  unfolding cols
  defaults_are = is 5 c.defaults defaults_start (omega arith) refl (sym h.graphed.defaults_counted)

  pub tables : HoldsColumns rd.steps (length rd.files) (mentions_in graph c) (ends_in graph c) (phony_in graph c) (made_in graph c)
  unfolding cols
  tables =
      let g = h.graphed in
      let t = g.tables in
      let e : length g.ends ≡ per_step * c.steps = ap length t.ended ∙ length_ends 0 rd.steps ∙ ap (λ (n : ℕ). per_step * n) (sym h.steps_counted) in
      let d : ends_in graph c ≡ g.ends = is 1 (per_step * c.steps) ends_start (omega arith) refl e in
      let p : phony_in graph c ≡ g.phony = is 2 c.steps phony_start (omega arith) refl (held_steps t ∙ sym h.steps_counted) in
      let w : made_in graph c ≡ g.made = is 3 c.files made_start (omega arith) refl (t.counted ∙ sym h.files_counted) in
      rw (mentions_are, d, p, w) t

  pub made_counted : length (made_in graph c) ≡ c.files
  made_counted = tables.counted ∙ sym h.files_counted

-- these columns are the parts
pub record Cut (graph : List ℕ) (c : Counts) (mentions ends phony made : List ℕ) : Type 0 where
  pub mentions_cut : mentions ≡ mentions_in graph c
  pub ends_cut : ends ≡ ends_in graph c
  pub phony_cut : phony ≡ phony_in graph c
  pub made_cut : made ≡ made_in graph c

module _ {graph : List ℕ} {c : Counts} {mentions ends phony made : List ℕ} (e : Cut graph c mentions ends phony made) {rd : Reading} (h : Tabled graph c rd) where
  pub cut_tables : HoldsColumns rd.steps (length rd.files) mentions ends phony made
  cut_tables = rw (e.mentions_cut, e.ends_cut, e.phony_cut, e.made_cut) (tables h)

  pub cut_counted : length made ≡ c.files
  cut_counted = rw e.made_cut (made_counted h)
