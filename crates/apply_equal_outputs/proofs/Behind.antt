-- What lies behind the columns changes nothing that is held.
use mathlib.Core.List.{List, [], ◌∷◌}
use Prim.Native.Nat.{ℕ}
use Rattle.spec.specs.Reading.{Reading}
use Rattle.arena.proofs.Laws.{lies_kept}
use Rattle.hold_bindings.specs.Log.{Logged}
use Rattle.hold_reading.specs.declared.Counts.{Counts}
use Rattle.hold_reading.specs.Held.{capacities, Graphed, HoldsReading}
use Rattle.hold_reading.specs.Adds.{Whole}
use Rattle.apply_equal_outputs.specs.Kept.{ColumnsKept}
use Rattle.hold_reading.specs.Buffers.{Buffers, with_graph}

graphed_kept : {log : List Logged} {graph graph' : List ℕ} {c : Counts} {rd : Reading} → ColumnsKept graph graph' → Graphed log graph c rd → Graphed log graph' c rd
graphed_kept {graph = graph} {graph' = graph'} {rd = rd} k g =
    record {
      mentions = g.mentions;
      ends = g.ends;
      phony = g.phony;
      made = g.made;
      rule_of = g.rule_of;
      lies = lies_kept capacities graph graph' (g.mentions ∷ g.ends ∷ g.phony ∷ g.made ∷ g.rule_of ∷ rd.defaults ∷ []) g.lies k.long k.columns;
      tables = g.tables;
      ruled_all = g.ruled_all;
      ruled = g.ruled;
      paths_counted = g.paths_counted;
      defaults_counted = g.defaults_counted;
      mentions_counted = g.mentions_counted;
      few_mentions = g.few_mentions;
      mentions_low = g.mentions_low;
      defaults_low = g.defaults_low;
    }

pub held_kept : {log : List Logged} {bs : Buffers} {graph' : List ℕ} {c : Counts} {rd : Reading} → ColumnsKept bs.graph graph' → HoldsReading log bs c rd
    → HoldsReading log (with_graph bs graph') c rd
held_kept k h = record { named = h.named; bound = h.bound; graphed = graphed_kept k h.graphed; short = h.short }

pub whole_kept : {bs : Buffers} {graph' : List ℕ} {c : Counts} → ColumnsKept bs.graph graph' → Whole bs c → Whole (with_graph bs graph') c
whole_kept k w = record { log = w.log; reading = w.reading; holds = held_kept k w.holds }
