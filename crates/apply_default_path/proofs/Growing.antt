-- One default more is held.
use Prim.Native.Nat.{ℕ, ◌+◌, ◌<◌}
use mathlib.Core.List.{List, [], ◌∷◌, ◌++◌}
use mathlib.Core.Path.{◌≡◌, ap}
use native.Mathlib.Decide.{dec_lt}
use native.Mathlib.Omega.{arith}
use lib.ListN.{length, get_or, set, length-append, get_or-append}
use lib.Seq.{get_or-append_seam}
use Rattle.spec.specs.Limits.{max_mentions}
use Rattle.spec.specs.Reading.{Reading}
use Rattle.arena.proofs.Laws.{lies_column, lies_push}
use Rattle.hold_bindings.specs.Log.{Logged}
use Rattle.hold_reading.specs.declared.Counts.{Counts}
use Rattle.hold_reading.specs.Held.{capacities, HoldsBound, Graphed, HoldsReading}
use Rattle.apply_files.proofs.Limits.{Within}
use Rattle.apply_default_path.specs.Defaults.{defaulted, counted_default}
use Rattle.hold_reading.specs.Buffers.{Buffers, with_graph}

-- where the number goes
pub default_room : {log : List Logged} {graph : List ℕ} {c : Counts} {rd : Reading} → Graphed log graph c rd → c.mentions < max_mentions → 8192 + c.defaults < length graph
default_room {graph = graph} {rd = rd} g l =
    omega (arith, (lies_column capacities graph (g.mentions ∷ g.ends ∷ g.phony ∷ g.made ∷ g.rule_of ∷ rd.defaults ∷ []) 5 g.lies (omega arith)).within, g.few_mentions)

module _ {log : List Logged} {bs : Buffers} {c : Counts} {rd : Reading} (h : HoldsReading log bs c rd) (n k : ℕ) (w : Within n c) (b : k < length rd.files) where
  bound_more : HoldsBound log bs.texts bs.bind (counted_default n c) (defaulted k n rd)
  unfolding defaulted
  bound_more =
      let d = h.bound in
      record {
        held = d.held;
        vars = d.vars;
        rules = d.rules;
        blocks = d.blocks;
        scoped = d.scoped;
        owned = d.owned;
        steps_counted = d.steps_counted;
        rules_counted = d.rules_counted;
        bindings_counted = d.bindings_counted;
        written_counted = ap (λ (x : ℕ). x + n) d.written_counted;
        opened_counted = d.opened_counted;
        few_scopes = d.few_scopes;
        entries_counted = d.entries_counted;
        few_rules = d.few_rules;
        few_bindings = d.few_bindings;
        few_steps = d.few_steps;
        few_written = w.low;
        few_opened = d.few_opened;
        shared = omega (arith, d.shared);
      }

  low_more : (i : ℕ) → i < length (rd.defaults ++ (k ∷ [])) → get_or (rd.defaults ++ (k ∷ [])) i 0 < length rd.files
  low_more i l =
      let m : length (rd.defaults ++ (k ∷ [])) ≡ length rd.defaults + 1 = length-append rd.defaults (k ∷ []) in
      elim (dec_lt i (length rd.defaults)) [
        | yes s ↦ rw (get_or-append rd.defaults (k ∷ []) 0 i s) (h.graphed.defaults_low i s)
        | no s ↦ (let z : i ≡ length rd.defaults = omega arith in rw (z, get_or-append_seam rd.defaults k [] 0) b)
      ]

  graphed_more : Graphed log (set bs.graph (8192 + c.defaults) k) (counted_default n c) (defaulted k n rd)
  unfolding defaulted
  graphed_more =
      let g = h.graphed in
      record {
        mentions = g.mentions;
        ends = g.ends;
        phony = g.phony;
        made = g.made;
        rule_of = g.rule_of;
        lies =
            rw g.defaults_counted
            (lies_push k capacities bs.graph (g.mentions ∷ g.ends ∷ g.phony ∷ g.made ∷ g.rule_of ∷ rd.defaults ∷ []) 5 g.lies (omega arith)
            (omega (arith, w.few, g.few_mentions, g.defaults_counted)));
        tables = g.tables;
        ruled_all = g.ruled_all;
        ruled = g.ruled;
        paths_counted = g.paths_counted;
        defaults_counted = omega (arith, g.defaults_counted, length-append rd.defaults (k ∷ []));
        mentions_counted = ap (λ (x : ℕ). x + 1) g.mentions_counted;
        few_mentions = omega (arith, g.few_mentions);
        mentions_low = omega (arith, w.few);
        defaults_low = low_more;
      }

  pub default_held : HoldsReading log (with_graph bs (set bs.graph (8192 + c.defaults) k)) (counted_default n c) (defaulted k n rd)
  unfolding defaulted
  default_held = record { named = h.named; bound = bound_more; graphed = graphed_more; short = h.short }
