-- The makers of a step's outputs, one file after another, and the step's other columns.
use Prim.Native.Nat.{ℕ, zero, suc, ◌+◌, ◌*◌, ◌≤◌, ◌<◌}
use mathlib.Core.List.{List, [], ◌∷◌}
use mathlib.Core.Path.{◌≡◌, refl, ◌∙◌, ap}
use native.Mathlib.Omega.{arith}
use lib.ListN.{length, get_or, set, length-set}
use Rattle.lists.specs.Parts.{part, part_cons, part_none}
use Rattle.spec.specs.Limits.{max_files}
use Rattle.hold_columns.specs.Columns.{outs_end, end_place}
use Rattle.hold_reading.specs.Held.{end_in, phony_start, made_start, rule_start, scope_unit, rule_with_scope}
use Rattle.apply_files.specs.Lines.{LineHeld, Columns}
use Rattle.apply_files.proofs.Columns.{graph_long, mentions_fit, made_fit, set_made, read_mention, read_end, push_phony, push_rule}
use Rattle.hold_reading.specs.declared.Counts.{Counts}
use Rattle.apply_step_columns.specs.StepColumns.{set_all, Laid, StepPart, MakeAsks, MarksMade, StepReady, PutStepAsks, newest_end, phony_bit, with_step_rule, counted_step, PutsStep}

pub length_set_all : (v : ℕ) (fs made : List ℕ) → length (set_all v fs made) ≡ length made
unfolding set_all
length_set_all v [] made = refl
length_set_all v (f ∷ fs) made = length_set_all v fs (set made f v) ∙ length-set made f v

-- ---- the loop

-- of a line that was held: its makers now, and what is left
pub record Left (graph : List ℕ) (i to v : ℕ) (from : ℕ) (h : LineHeld) : Type 0 where
  pub made : List ℕ
  pub columns : Columns graph h.mentions h.ends h.phony made h.rule_of h.reading.defaults
  pub long : length made ≡ length h.made
  pub left : set_all v (part h.mentions from to) h.made ≡ set_all v (part h.mentions i to) made

pub record Making (graph₀ : List ℕ) (from to v : ℕ) (graph : List ℕ) (i : ℕ) : Type 0 where
  pub asks : MakeAsks graph₀ from to v
  pub long : length graph ≡ length graph₀
  pub begun : from ≤ i
  pub within : i ≤ to
  pub lines : (h : LineHeld) → Laid graph₀ h → StepPart from to h → Left graph i to v from h

pub make_begin : {graph : List ℕ} {from to v : ℕ} → MakeAsks graph from to v → Making graph from to v graph from
make_begin a =
    record {
      asks = a;
      long = refl;
      begun = omega arith;
      within = a.some.ordered;
      lines = λ h l p. record { made = h.made; columns = l; long = refl; left = refl };
    }

module _ {graph₀ : List ℕ} {from to v : ℕ} {graph : List ℕ} {i : ℕ} (x : Making graph₀ from to v graph i) where
  abbrev here : Left graph i to v from x.asks.line
  here = x.lines x.asks.line x.asks.laid x.asks.some

  pub make_in : i < to → i < length graph
  make_in b = omega (arith, x.asks.some.within, graph_long here.columns, mentions_fit here.columns)

  module _ (b : i < to) {f : ℕ} (e : f ≡ get_or graph i 0) where
    is_mention : (h : LineHeld) → Laid graph₀ h → StepPart from to h → f ≡ get_or h.mentions i 0
    is_mention h l p = e ∙ read_mention (x.lines h l p).columns i (omega (arith, p.within))

    file_low : (h : LineHeld) → Laid graph₀ h → StepPart from to h → f < length h.made
    file_low h l p = rw (is_mention h l p) (p.low i (omega (arith, p.within)))

    pub make_low : f < max_files
    make_low = omega (arith, file_low x.asks.line x.asks.laid x.asks.some, made_fit x.asks.laid)

    pub make_fits : made_start + f < length graph
    make_fits = omega (arith, make_low, graph_long here.columns)

    pub make_on : {graph' : List ℕ} → graph' ≡ set graph (made_start + f) v → Making graph₀ from to v graph' (i + 1)
    unfolding set_all
    make_on g =
        record {
          asks = x.asks;
          long = ap length g ∙ length-set graph (made_start + f) v ∙ x.long;
          begun = omega (arith, x.begun);
          within = omega arith;
          lines = λ h l p.
              let k = x.lines h l p in
              record {
                made = set k.made f v;
                columns = rw g (set_made k.columns v f (omega (arith, file_low h l p, k.long)));
                long = length-set k.made f v ∙ k.long;
                left = k.left ∙ rw (part_cons h.mentions i to b (omega (arith, p.within)), ← (is_mention h l p));
              };
        }

  pub make_end : to ≤ i → MarksMade graph₀ from to v graph
  unfolding set_all
  make_end b =
      record {
        laid = λ h l p.
            let k = x.lines h l p in
            rw (k.left, part_none h.mentions i to b) k.columns;
      }

-- ---- the step

phony_low : (n : ℕ) → phony_bit n ≤ 1
phony_low zero = omega arith
phony_low (suc n) = omega arith

module _ {graph : List ℕ} {from : ℕ} {c : Counts} {to : ℕ} (e : to ≡ end_in graph c.steps outs_end) where
  -- where the outputs end is the same for all lines held
  put_end : (h : LineHeld) → Laid graph h → StepReady from c h → to ≡ newest_end c h
  put_end h l r = e ∙ read_end l (end_place c.steps outs_end) r.ended

  pub put_make : {n k : ℕ} → PutStepAsks graph from n k c → MakeAsks graph from to (c.steps + 1)
  put_make a =
      record { line = a.line; laid = a.laid; some = rw (put_end a.line a.laid a.ready) a.ready.outs; small = omega (arith, a.ready.few) }

  module _ {n k : ℕ} {graph₁ : List ℕ} (m : MarksMade graph from to (c.steps + 1) graph₁) {b : ℕ} (q : b ≡ phony_bit n) where
    -- the places are low, for the stores
    pub put_first : PutStepAsks graph from n k c → (phony_start + c.steps < length graph₁) × (b < 4294967296)
    put_first a =
        let l = m.laid a.line a.laid (rw (put_end a.line a.laid a.ready) a.ready.outs) in
        (omega (arith, graph_long l, a.ready.few), omega (arith, q, phony_low n))

    module _ {graph₂ : List ℕ} (g : graph₂ ≡ set graph₁ (phony_start + c.steps) b) where
      pub put_second : PutStepAsks graph from n k c → (rule_start + c.steps < length graph₂) × (scope_unit * k + n < 4294967296)
      put_second a =
          let l = m.laid a.line a.laid (rw (put_end a.line a.laid a.ready) a.ready.outs) in
          (omega (arith, graph_long l, a.ready.few, ap length g ∙ length-set graph₁ (phony_start + c.steps) b), omega (arith, a.small, a.few))

      pub put_done : {graph' : List ℕ} → graph' ≡ set graph₂ (rule_start + c.steps) (scope_unit * k + n) → PutsStep graph from n k c graph' (counted_step c)
      unfolding with_step_rule rule_with_scope
      put_done f =
          record {
            laid = λ h l r.
                let z = put_end h l r in
                let y = m.laid h l (rw z r.outs) in
                let w = push_phony y b (phony_start + c.steps) (omega (arith, r.phony)) (omega (arith, r.phony, r.few)) in
                rw (f, g, ← z, ← q) (push_rule w (scope_unit * k + n) (rule_start + c.steps) (omega (arith, r.ruled)) (omega (arith, r.ruled, r.few)));
            counted = refl;
          }
