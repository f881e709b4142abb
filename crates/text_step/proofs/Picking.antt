-- A step by its number: its rule's declaration, and its files among the mentions.
use Rattle.std.specs.Prelude.{Option, Some, None}
use Rattle.std.specs.Option.{unwrap_or}
use Prim.Native.Nat.{ℕ, suc, ◌+◌, ◌-◌, ◌/◌, ◌%◌, ◌≤◌, ◌<◌}
use mathlib.Core.List.{List, [], ◌∷◌}
use mathlib.Core.Bool.{Bool, true, false, ◌||◌}
use mathlib.Core.Path.{◌≡◌, refl, sym, ◌∙◌, ap}
use native.Mathlib.Decide.{ℕ_discrete}
use native.Mathlib.Omega.{arith}
use borrow.Author.Tests.{eq-eqb, ne_eqb, le-leb}
use lib.Dec.{leb}
use lib.ListN.{length, take, get_or}
use lib.Seq.{get_or-take}
use Rattle.lists.specs.Tests.{split}
use Rattle.lists.specs.Bytes.{eq_eq_bytes}
use Rattle.lists.specs.Members.{in_at}
use Rattle.lists.specs.Parts.{part}
use Rattle.spec.specs.Reading.{Reading, is_phony, keys_of}
use Rattle.spec.specs.Graph.{step_at}
use Rattle.spec.specs.Text.{deep}
use Rattle.arena.proofs.Laws.{lies_column, lies_read}
use Rattle.hold_columns.specs.Columns.{outs_end, ins_end, implicit_end, last_end, end_place, end_at, step_start, outs_in, ins_in}
use Rattle.hold_columns.proofs.Places.{start_zero, start_suc, read_ins, read_ins_placed}
use Rattle.hold_columns.proofs.Held.{held_outs, held_sound}
use Rattle.hold_bindings.specs.Log.{Logged, of_rules, of_keys, entry_at, is_named, newest, keys_at, bound_by}
use Rattle.hold_bindings.specs.Held.{HoldsBindings, HasEntry, SoundBindings}
use Rattle.hold_bindings.proofs.Lookups.{newest_below, entry_kept, entry_newest, keys_newest}
use Rattle.hold_reading.specs.declared.Counts.{Counts}
use Rattle.hold_reading.specs.Held.{capacities, end_in, rule_start, defaults_start, Ruled, phony, declared, scope_unit, rule_with_scope, RuledIn, HoldsBound, Graphed}
use Rattle.text_lookup.specs.declared.Asked.{Asked}
use Rattle.text_memo.proofs.Spans.{part_front}
use Rattle.text_step.specs.Steps.{HasRule, Declares, InGraph, outputs_from, Picked, Picks, PickAsk, ReadingHeld, AsksStep}

-- ---- the rule

-- a name that an entry declares is found
newest_some : (o : ℕ) (n : List ℕ) (log : List Logged) (k : ℕ) → k < length log → (entry_at k log).owner ≡ o → (entry_at k log).name ≡ n → newest o n log ≡ None → ⊥
unfolding newest is_named
newest_some o n [] k b p q e = omega arith
newest_some o n (x ∷ l) k b p q e =
    split (is_named o n x)
    (λ (t : is_named o n x ≡ true). let d : Some (length l) ≡ None = rw t at e in let z : ◌≡◌ {A = ℕ} 0 1 = cc in omega arith)
    (λ (t : is_named o n x ≡ false).
    elim (ℕ_discrete k (length l)) [
      | yes z ↦
          (let w : entry_at k (x ∷ l) ≡ x = ap (λ (j : ℕ). entry_at j (x ∷ l)) z ∙ entry_newest x l in
          let y : is_named o n x ≡ true = rw (eq-eqb x.owner o (ap (λ (v : Logged). v.owner) (sym w) ∙ p), eq_eq_bytes (sym (ap (λ (v : Logged). v.name) (sym w) ∙ q))) in
          let d : true ≡ false = sym y ∙ t in
          let z : ◌≡◌ {A = ℕ} 0 1 = cc in
          omega arith)
      | no z ↦
          (let w : entry_at k (x ∷ l) ≡ entry_at k l = entry_kept x l k (omega arith) in
          newest_some o n l k (omega arith) (ap (λ (v : Logged). v.owner) (sym w) ∙ p) (ap (λ (v : Logged). v.name) (sym w) ∙ q) (rw t at e))
    ])

module _ {texts bind : List ℕ} {count k : ℕ} where
  pub rule_entry : HasRule texts bind count k → HasEntry texts bind k
  rule_entry w = record { log = w.log; count = count; held = w.held; below = w.below }

  pub rule_table : HasRule texts bind count k → SoundBindings texts bind count
  rule_table w = record { log = w.log; held = w.held }

  module _ (w : HasRule texts bind count k) {name : List ℕ} (v : (log : List Logged) (n : ℕ) → HoldsBindings log texts bind n → k < n → name ≡ (entry_at k log).name) {f : Option ℕ}
      (q : (log : List Logged) → HoldsBindings log texts bind count → f ≡ newest of_rules name log) where
    found : (log : List Logged) → HoldsBindings log texts bind count → newest of_rules (entry_at k log).name log ≡ f
    found log h = sym (q log h ∙ rw (v log count h w.below))

    declares_at : {j : ℕ} → f ≡ Some j → Declares texts bind count k j
    declares_at e = record { newest = λ log h o. found log h ∙ e }

    declares_missing : {r : ℕ} → f ≡ None → Declares texts bind count k r
    declares_missing e =
        record {
          newest = λ log h o.
              absurd (newest_some of_rules (entry_at k log).name log k (omega (arith, w.below, h.rows.counted)) o refl (found log h ∙ e));
        }

  pub declares_or : HasRule texts bind count k → {name : List ℕ} → ((log : List Logged) (n : ℕ) → HoldsBindings log texts bind n → k < n → name ≡ (entry_at k log).name)
      → (f : Option ℕ) → ((log : List Logged) → HoldsBindings log texts bind count → f ≡ newest of_rules name log) → Declares texts bind count k (unwrap_or f k)
  declares_or w v (Some j) q = declares_at w v q refl
  declares_or w v None q = declares_missing w v q refl

-- the rule of a step that is not phony
record Rules (log : List Logged) (rule : List ℕ) (k : ℕ) : Type 0 where
  below : k < length log
  owner : (entry_at k log).owner ≡ of_rules
  name : (entry_at k log).name ≡ rule
  command : is_phony rule ≡ false

ruled_by : {log : List Logged} {rule : List ℕ} {m : ℕ} → Ruled log rule m → (m ≡ 0 → ⊥) → Rules log rule (m - 1)
ruled_by (phony e) h = absurd (h refl)
ruled_by {log} {rule} (declared {k = k} b o n e) h =
    let z : suc k - 1 ≡ k = omega arith in
    record { below = rw z b; owner = rw z o; name = rw z n; command = e }

ruled_phony : {log : List Logged} {rule : List ℕ} {m : ℕ} → Ruled log rule m → m ≡ 0 → is_phony rule ≡ true
ruled_phony (phony e) z = e
ruled_phony (declared {k = k} b o n e) z = absurd (omega arith)

-- ---- the columns

module _ {log : List Logged} {texts bind graph : List ℕ} {c : Counts} {rd : Reading} (b : HoldsBound log texts bind c rd) (g : Graphed log graph c rd) where
  columns : List (List ℕ)
  columns = g.mentions ∷ g.ends ∷ g.phony ∷ g.made ∷ g.rule_of ∷ rd.defaults ∷ []

  pub graph_long : defaults_start ≤ length graph
  unfolding columns
  graph_long = let k = lies_column capacities graph columns 4 g.lies (omega arith) in omega (arith, k.within)

  pub in_graph : {s : ℕ} → s < c.steps → InGraph graph s
  in_graph h = record { low = omega (arith, b.few_steps); long = graph_long }

  module _ {s : ℕ} (h : s < c.steps) where
    there : s < length rd.steps
    there = omega (arith, b.steps_counted)

    rule_read : get_or graph (rule_start + s) 0 ≡ get_or g.rule_of s 0
    unfolding columns
    rule_read = let l = there in lies_read capacities graph columns 4 g.lies (omega arith) s (omega (arith, g.ruled_all))

    ruled_in : RuledIn log (step_at rd.steps s) (get_or graph (rule_start + s) 0)
    ruled_in = rw rule_read (g.ruled s there)

    ruled : Ruled log (step_at rd.steps s).rule (get_or graph (rule_start + s) 0 % scope_unit)
    unfolding rule_with_scope
    ruled =
        let r = ruled_in in
        let z : get_or graph (rule_start + s) 0 % scope_unit ≡ r.rule = omega (arith, r.is, r.low) in
        rw z r.ruled

    stands : get_or graph (rule_start + s) 0 / scope_unit ≡ (step_at rd.steps s).scope
    unfolding rule_with_scope
    stands = let r = ruled_in in omega (arith, r.is, r.low)

    pub is_phony_law : get_or graph (rule_start + s) 0 % scope_unit ≡ 0 → is_phony (step_at rd.steps s).rule ≡ true
    is_phony_law z = ruled_phony ruled z

    end_read : (j k : ℕ) → end_place j k ≤ end_place s last_end → end_in graph j k ≡ end_at g.ends j k
    unfolding columns
    end_read j k b =
        let l = ((held_sound g.tables).placed s there).within in
        lies_read capacities graph columns 1 g.lies (omega arith) (end_place j k) (omega arith)

    outs_start : outputs_from graph s ≡ step_start g.ends s
    unfolding outputs_from
    outs_start = elim (ℕ_discrete s 0) [
      | yes z ↦ rw (eq-eqb s 0 z) (start_zero g.ends s z)
      | no z ↦ rw (ne_eqb s 0 z) (end_read (s - 1) last_end (omega arith) ∙ start_suc g.ends s z)
    ]

    -- the explicit inputs in the tables
    ins_held : part g.mentions (end_at g.ends s outs_end) (end_at g.ends s ins_end) ≡ (step_at rd.steps s).ins
    unfolding ins_in
    ins_held = rw (g.tables.mentioned, g.tables.ended) (read_ins rd.steps s)

    ins_placed : (end_at g.ends s outs_end ≤ end_at g.ends s ins_end) × (end_at g.ends s ins_end ≤ end_at g.ends s implicit_end)
    ins_placed = rw g.tables.ended (read_ins_placed rd.steps s there)

    outs_held : part g.mentions (step_start g.ends s) (end_at g.ends s outs_end) ≡ (step_at rd.steps s).outs
    unfolding outs_in
    outs_held = held_outs g.tables s

  -- the mentions begin the graph
  mentions_first : take (length g.mentions) graph ≡ g.mentions
  unfolding columns
  mentions_first = (lies_column capacities graph columns 0 g.lies (omega arith)).is

  part_mentions : (f e : ℕ) → e ≤ length g.mentions → part graph f e ≡ part g.mentions f e
  part_mentions f e k = sym (part_front graph f e (length g.mentions) k) ∙ ap (λ (l : List ℕ). part l f e) mentions_first

  mention_low : (i : ℕ) → i < length g.mentions → get_or graph i 0 < length rd.files
  mention_low i k =
      let e : get_or graph i 0 ≡ get_or g.mentions i 0 = sym (get_or-take (length g.mentions) graph i 0 k) ∙ ap (λ (l : List ℕ). get_or l i 0) mentions_first in
      rw e (g.tables.low (get_or g.mentions i 0) (in_at g.mentions i k))

-- ---- the step

pub outputs_first : (graph : List ℕ) (s : ℕ) → s ≡ 0 → 0 ≡ outputs_from graph s
unfolding outputs_from
outputs_first graph s z = sym (rw (eq-eqb s 0 z))

pub outputs_later : (graph : List ℕ) (s : ℕ) → (s ≡ 0 → ⊥) → end_in graph (s - 1) last_end ≡ outputs_from graph s
unfolding outputs_from
outputs_later graph s z = sym (rw (ne_eqb s 0 z))

module _ {texts bind graph : List ℕ} {c : Counts} {step k scope : ℕ} (w : PickAsk texts bind graph c step k scope) where
  rules_of_law : {log : List Logged} {rd : Reading} → HoldsBound log texts bind c rd → Graphed log graph c rd → Rules log (step_at rd.steps step).rule k
  rules_of_law b g = rw w.entry (ruled_by (ruled b g w.there) w.ruled)

  pub pick_rule : HasRule texts bind c.entries k
  pick_rule =
      let r = rules_of_law w.bound w.graphed in
      record { log = w.log; held = w.bound.held; below = omega (arith, r.below, w.bound.held.rows.counted); owner = r.owner }

  pub pick_graph : InGraph graph step
  pick_graph = in_graph w.bound w.graphed w.there

  module _ {rule outs ins rest : ℕ} (d : Declares texts bind c.entries k rule) (o : outs ≡ outputs_from graph step) (i : ins ≡ end_in graph step outs_end)
      (e : rest ≡ end_in graph step ins_end) where
    module _ {log : List Logged} {rd : Reading} (b : HoldsBound log texts bind c rd) (g : Graphed log graph c rd) where
      rule_found : newest of_rules (step_at rd.steps step).rule log ≡ Some rule
      rule_found = let r = rules_of_law b g in rw (← r.name) (d.newest log b.held r.owner)

      keys_found : keys_of (step_at rd.steps step).rule rd.rules ≡ bound_by (of_keys rule) log
      unfolding keys_at
      keys_found = rw b.rules (keys_newest (step_at rd.steps step).rule log ∙ rw rule_found)

      one : Picked graph c step (record { step = step; rule = rule; scope = scope; entries = c.entries; files = c.files; outs = outs; ins = ins; rest = rest; depth = deep; plain = false }) log rd
      one =
          let h = w.there in
          let p = (held_sound g.tables).placed step (there b g h) in
          let q = ins_placed b g h in
          let x : outs ≡ step_start g.ends step = o ∙ outs_start b g h in
          let y : ins ≡ end_at g.ends step outs_end = i ∙ end_read b g h step outs_end (omega arith) in
          let z : rest ≡ end_at g.ends step ins_end = e ∙ end_read b g h step ins_end (omega arith) in
          let m : rest ≤ length g.mentions = omega (arith, p.inputs, p.mentioned, q.1) in
          record {
            there = there b g h;
            command = (rules_of_law b g).command;
            number = refl;
            entries = refl;
            files = refl;
            whole = refl;
            rule_low = omega (arith, newest_below of_rules (step_at rd.steps step).rule log rule rule_found, b.held.rows.counted, b.held.rows.few);
            scope = w.stands ∙ stands b g h;
            keys = keys_found;
            outs_ordered = omega (arith, p.outs);
            ins_ordered = omega (arith, q.0);
            within = omega (arith, g.tables.few_mentions, graph_long b g);
            outs = part_mentions b g outs ins (omega (arith, q.0)) ∙ rw (x, y) (outs_held b g h);
            ins = part_mentions b g ins rest m ∙ rw (y, z) (ins_held b g h);
            low = λ j l r. mention_low b g j (omega arith);
          }

    pub picks : Picks texts bind graph c step (record { step = step; rule = rule; scope = scope; entries = c.entries; files = c.files; outs = outs; ins = ins; rest = rest; depth = deep; plain = false })
    picks = record { picked = λ log rd b g. one b g }

-- ---- by the answer

or_right_true : (a : Bool) → a || true ≡ true
or_right_true true = refl
or_right_true false = refl

module _ (texts bind graph : List ℕ) (c : Counts) (step : ℕ) where
  pub step_missing : c.steps ≤ step → AsksStep texts bind graph c step None
  unfolding AsksStep
  step_missing h log rd b g = rw (le-leb (length rd.steps) step (omega (arith, b.steps_counted)))

  pub step_picked : {a : Asked} → Picks texts bind graph c step a → AsksStep texts bind graph c step (Some a)
  unfolding AsksStep
  step_picked p = p

  -- what the answer says
  pub asked_none : {r : Option Asked} → AsksStep texts bind graph c step r → r ≡ None
      → (log : List Logged) (rd : Reading) → HoldsBound log texts bind c rd → Graphed log graph c rd → leb (length rd.steps) step || is_phony (step_at rd.steps step).rule ≡ true
  unfolding AsksStep
  asked_none p e = rw e at p

  pub asked_step : {r : Option Asked} {a : Asked} → AsksStep texts bind graph c step r → r ≡ Some a → Picks texts bind graph c step a
  unfolding AsksStep
  asked_step p e = rw e at p

module _ {texts bind graph : List ℕ} {c : Counts} {step : ℕ} where
  module _ (w : ReadingHeld texts bind graph c) (h : step < c.steps) where
    pub rule_place : rule_start + step < length graph
    rule_place = let k = in_graph w.bound w.graphed h in omega (arith, k.low, k.long)

    pub step_phony : {m : ℕ} → m ≡ get_or graph (rule_start + step) 0 → m % scope_unit ≡ 0 → AsksStep texts bind graph c step None
    unfolding AsksStep
    step_phony e z log rd b g = rw (is_phony_law b g h (rw e at z)) (or_right_true (leb (length rd.steps) step))

    pub pick_asked : {m : ℕ} → m ≡ get_or graph (rule_start + step) 0 → (m % scope_unit ≡ 0 → ⊥) → PickAsk texts bind graph c step (m % scope_unit - 1) (m / scope_unit)
    pick_asked e z =
        record { log = w.log; reading = w.reading; bound = w.bound; graphed = w.graphed; there = h; ruled = λ y. z (rw e y); entry = rw e; stands = rw e }
