-- The columns of the graph with an entry more, or an entry changed.
use Prim.Native.Nat.{ℕ, ◌+◌, ◌≤◌, ◌<◌}
use mathlib.Core.List.{List, [], ◌∷◌, ◌++◌}
use mathlib.Core.Path.{◌≡◌}
use native.Mathlib.Omega.{arith}
use lib.ListN.{length, set, get_or}
use Rattle.spec.specs.Limits.{max_steps, max_files, max_mentions}
use Rattle.arena.proofs.Laws.{lies_column, lies_push, lies_set, lies_read}
use Rattle.hold_reading.specs.Held.{max_ends, capacities, ends_start, phony_start, made_start, rule_start, columns_end}
use Rattle.apply_files.specs.Lines.{Columns}

module _ {graph m e p d r f : List ℕ} (l : Columns graph m e p d r f) where
  pub graph_long : columns_end ≤ length graph
  graph_long = omega (arith, (lies_column capacities graph (m ∷ e ∷ p ∷ d ∷ r ∷ f ∷ []) 5 l.lies (omega arith)).within)

  pub mentions_fit : length m ≤ max_mentions
  mentions_fit = (lies_column capacities graph (m ∷ e ∷ p ∷ d ∷ r ∷ f ∷ []) 0 l.lies (omega arith)).fits

  pub made_fit : length d ≤ max_files
  made_fit = (lies_column capacities graph (m ∷ e ∷ p ∷ d ∷ r ∷ f ∷ []) 3 l.lies (omega arith)).fits

  -- an entry more
  module _ (v at : ℕ) where
    pub push_mention : at ≡ length m → length m < max_mentions → Columns (set graph at v) (m ++ (v ∷ [])) e p d r f
    push_mention q b =
        let z : at ≡ 0 + length m = omega arith in
        rw z (record { lies = lies_push v capacities graph (m ∷ e ∷ p ∷ d ∷ r ∷ f ∷ []) 0 l.lies (omega arith) b })

    pub push_end : at ≡ ends_start + length e → length e < max_ends → Columns (set graph at v) m (e ++ (v ∷ [])) p d r f
    push_end q b = rw q (record { lies = lies_push v capacities graph (m ∷ e ∷ p ∷ d ∷ r ∷ f ∷ []) 1 l.lies (omega arith) b })

    pub push_phony : at ≡ phony_start + length p → length p < max_steps → Columns (set graph at v) m e (p ++ (v ∷ [])) d r f
    push_phony q b = rw q (record { lies = lies_push v capacities graph (m ∷ e ∷ p ∷ d ∷ r ∷ f ∷ []) 2 l.lies (omega arith) b })

    pub push_made : at ≡ made_start + length d → length d < max_files → Columns (set graph at v) m e p (d ++ (v ∷ [])) r f
    push_made q b = rw q (record { lies = lies_push v capacities graph (m ∷ e ∷ p ∷ d ∷ r ∷ f ∷ []) 3 l.lies (omega arith) b })

    pub push_rule : at ≡ rule_start + length r → length r < max_steps → Columns (set graph at v) m e p d (r ++ (v ∷ [])) f
    push_rule q b = rw q (record { lies = lies_push v capacities graph (m ∷ e ∷ p ∷ d ∷ r ∷ f ∷ []) 4 l.lies (omega arith) b })

  -- another maker
  pub set_made : (v i : ℕ) → i < length d → Columns (set graph (made_start + i) v) m e p (set d i v) r f
  set_made v i b = record { lies = lies_set v capacities graph (m ∷ e ∷ p ∷ d ∷ r ∷ f ∷ []) 3 i l.lies (omega arith) b }

  pub read_mention : (i : ℕ) → i < length m → get_or graph i 0 ≡ get_or m i 0
  read_mention i b =
      let z : 0 + i ≡ i = omega arith in
      rw z at (lies_read capacities graph (m ∷ e ∷ p ∷ d ∷ r ∷ f ∷ []) 0 l.lies (omega arith) i b)

  pub read_end : (i : ℕ) → i < length e → get_or graph (ends_start + i) 0 ≡ get_or e i 0
  read_end i b = lies_read capacities graph (m ∷ e ∷ p ∷ d ∷ r ∷ f ∷ []) 1 l.lies (omega arith) i b
