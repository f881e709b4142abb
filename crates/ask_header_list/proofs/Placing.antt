-- Where the parts of a step stand, for the columns that hold it.
use Prim.Native.Nat.{ℕ, zero, suc, ◌+◌, ◌-◌, ◌*◌, ◌≤◌, ◌<◌}
use mathlib.Core.Bool.{false}
use mathlib.Core.List.{List, [], ◌∷◌, ◌++◌, append_assoc}
use mathlib.Core.Path.{◌≡◌, refl, sym, ◌∙◌, ap, ap₂}
use native.Mathlib.Omega.{arith}
use lib.ListN.{length, take, drop, get_or, length-append}
use lib.Seq.{take-take, drop-append_seam}
use Rattle.lists.specs.Members.{in_at}
use Rattle.lists.specs.Parts.{part, part_append, length_part, get_d_part, drop_take}
use Rattle.spec.specs.Basics.{is_empty}
use Rattle.spec.specs.Reading.{Step, Reading}
use Rattle.spec.specs.Graph.{inputs, non_order_only, step_at}
use Rattle.arena.proofs.Laws.{lies_column}
use Rattle.hold_bindings.specs.Log.{Logged}
use Rattle.hold_columns.specs.Columns.{per_step, outs_end, ins_end, implicit_end, order_only_end, last_end, end_place, end_at, step_start, outs_in, ins_in, non_order_only_in, inputs_in, PartsPlaced}
use Rattle.hold_columns.proofs.Held.{held_sound, held_outs, held_non_order_only, held_inputs}
use Rattle.hold_columns.proofs.Places.{length_ends, read_ins, read_ins_placed}
use Rattle.hold_reading.specs.declared.Counts.{Counts}
use Rattle.hold_reading.specs.Held.{capacities, end_in, Graphed}
use Rattle.apply_files.specs.Lines.{Columns}
use Rattle.apply_files.proofs.Columns.{graph_long, read_end, read_mention}
use Rattle.ask_header_list.specs.declared.StepPlaces.{StepPlaces}
use Rattle.ask_header_list.specs.Places.{start_in, places_in, PlacesAsk, SoundPlaces}

-- ---- lists

part_take : (l : List ℕ) (n a b : ℕ) → b ≤ n → part (take n l) a b ≡ part l a b
part_take l n a b h = rw (drop_take a n l) (take-take (b - a) (n - a) (drop a l) (omega arith))

cancel : (a b c : List ℕ) → a ++ b ≡ a ++ c → b ≡ c
cancel a b c e = sym (drop-append_seam a b) ∙ ap (drop (length a)) e ∙ drop-append_seam a c

some_long : (l : List ℕ) → is_empty l ≡ false → 0 < length l
some_long [] e = absurd (let z : ◌≡◌ {A = ℕ} 0 1 = cc in omega arith)
some_long (x ∷ l) e = omega arith

first_of : (l r : List ℕ) → is_empty l ≡ false → get_or (l ++ r) 0 0 ≡ get_or l 0 0
first_of [] r e = absurd (let z : ◌≡◌ {A = ℕ} 0 1 = cc in omega arith)
first_of (x ∷ l) r e = refl

-- ---- places

pub start_zero : (graph : List ℕ) (s : ℕ) → s ≡ 0 → 0 ≡ start_in graph s
unfolding start_in
start_zero graph s e = rw e

pub start_suc : (graph : List ℕ) (s : ℕ) → (s ≡ 0 → ⊥) → end_in graph (s - 1) last_end ≡ start_in graph s
unfolding start_in
start_suc graph zero d = absurd (d refl)
start_suc graph (suc s) d = let e : suc s - 1 ≡ s = omega arith in rw e

pub places_from : (graph : List ℕ) (s : ℕ) {a b c d e : ℕ} → a ≡ start_in graph s → b ≡ end_in graph s outs_end → c ≡ end_in graph s ins_end → d ≡ end_in graph s implicit_end
    → e ≡ end_in graph s order_only_end → record { start = a; outs = b; ins = c; implicit = d; order = e } ≡ places_in graph s
unfolding places_in
places_from graph s p q r t u = rw (p, q, r, t, u)

-- ---- a step in the written columns

pub record StepStands (graph : List ℕ) (p : StepPlaces) (x : Step) : Type 0 where
  pub sound : SoundPlaces graph p
  pub front : part graph p.start p.implicit ≡ x.outs ++ (x.ins ++ x.implicit)
  pub back : part graph p.implicit p.order ≡ x.order_only
  pub outs : p.outs - p.start ≡ length x.outs
  pub ins : p.ins - p.start ≡ length x.outs + length x.ins
  pub implicit : p.implicit - p.start ≡ length x.outs + length x.ins + length x.implicit
  pub order : p.order - p.implicit ≡ length x.order_only
  pub output : get_or graph p.start 0 ≡ get_or x.outs 0 0

module _ {log : List Logged} {graph : List ℕ} {c : Counts} {rd : Reading} (g : Graphed log graph c rd) where
  abbrev columns : Columns graph g.mentions g.ends g.phony g.made g.rule_of rd.defaults
  columns = record { lies = g.lies }

  pub places_ask : {s : ℕ} → s < length rd.steps → PlacesAsk graph s
  places_ask h = record { long = graph_long columns; few = omega (arith, g.tables.few_steps) }

  ends_long : length g.ends ≡ per_step * length rd.steps
  ends_long = ap length g.tables.ended ∙ length_ends 0 rd.steps

  mentions_first : take (length g.mentions) graph ≡ g.mentions
  mentions_first = (lies_column capacities graph (g.mentions ∷ g.ends ∷ g.phony ∷ g.made ∷ g.rule_of ∷ rd.defaults ∷ []) 0 g.lies (omega arith)).is

  part_is : (f e : ℕ) → e ≤ length g.mentions → part graph f e ≡ part g.mentions f e
  part_is f e h = sym (part_take graph (length g.mentions) f e h) ∙ ap (λ (l : List ℕ). part l f e) mentions_first

  start_at_law : (s : ℕ) → s < length rd.steps → start_in graph s ≡ step_start g.ends s
  unfolding start_in step_start
  start_at_law zero h = refl
  start_at_law (suc s) h = read_end columns (end_place s last_end) (omega (arith, ends_long))

  -- by the ends of the step
  places_at : ℕ → StepPlaces
  places_at s =
      record {
        start = step_start g.ends s;
        outs = end_at g.ends s outs_end;
        ins = end_at g.ends s ins_end;
        implicit = end_at g.ends s implicit_end;
        order = end_at g.ends s order_only_end;
      }

  module _ (s : ℕ) (h : s < length rd.steps) where
    end_is : (k : ℕ) → k < per_step → end_in graph s k ≡ end_at g.ends s k
    end_is k b = read_end columns (end_place s k) (omega (arith, ends_long))

    places_are : places_in graph s ≡ places_at s
    unfolding places_in places_at
    places_are =
        let a = start_at_law s h in
        let b = end_is outs_end (omega arith) in
        let c = end_is ins_end (omega arith) in
        let d = end_is implicit_end (omega arith) in
        let e = end_is order_only_end (omega arith) in
        rw (a, b, c, d, e)

    placed : PartsPlaced g.mentions g.ends s
    placed = (held_sound g.tables).placed s h

    ins_placed : (end_at g.ends s outs_end ≤ end_at g.ends s ins_end) × (end_at g.ends s ins_end ≤ end_at g.ends s implicit_end)
    ins_placed = rw g.tables.ended (read_ins_placed rd.steps s h)

    abbrev x : Step
    x = step_at rd.steps s

    outs_are : part g.mentions (step_start g.ends s) (end_at g.ends s outs_end) ≡ x.outs
    unfolding outs_in
    outs_are = held_outs g.tables s

    ins_are : part g.mentions (end_at g.ends s outs_end) (end_at g.ends s ins_end) ≡ x.ins
    unfolding ins_in
    ins_are = rw (g.tables.mentioned, g.tables.ended) (read_ins rd.steps s)

    counted_are : part g.mentions (end_at g.ends s outs_end) (end_at g.ends s implicit_end) ≡ x.ins ++ x.implicit
    unfolding non_order_only_in non_order_only
    counted_are = held_non_order_only g.tables s

    inputs_are : part g.mentions (end_at g.ends s outs_end) (end_at g.ends s order_only_end) ≡ x.ins ++ (x.implicit ++ x.order_only)
    unfolding inputs_in inputs
    inputs_are = held_inputs g.tables s

    front_is : part g.mentions (step_start g.ends s) (end_at g.ends s implicit_end) ≡ x.outs ++ (x.ins ++ x.implicit)
    front_is =
        sym (part_append g.mentions (step_start g.ends s) (end_at g.ends s outs_end) (end_at g.ends s implicit_end) placed.outs placed.counted)
        ∙ ap₂ (λ (a b : List ℕ). a ++ b) outs_are counted_are

    back_is : part g.mentions (end_at g.ends s implicit_end) (end_at g.ends s order_only_end) ≡ x.order_only
    back_is =
        cancel (x.ins ++ x.implicit) (part g.mentions (end_at g.ends s implicit_end) (end_at g.ends s order_only_end)) x.order_only
        (ap (λ (a : List ℕ). a ++ part g.mentions (end_at g.ends s implicit_end) (end_at g.ends s order_only_end)) (sym counted_are)
        ∙ part_append g.mentions (end_at g.ends s outs_end) (end_at g.ends s implicit_end) (end_at g.ends s order_only_end) placed.counted placed.inputs
        ∙ inputs_are ∙ sym (append_assoc x.ins x.implicit x.order_only))

    -- the length of a part
    long : (f e : ℕ) {l : List ℕ} → part g.mentions f e ≡ l → e ≤ length g.mentions → e - f ≡ length l
    long f e q b = sym (length_part g.mentions f e b) ∙ ap length q

    module _ (some : is_empty x.outs ≡ false) where
      stands_at : StepStands graph (places_at s) x
      unfolding places_at
      stands_at =
          let b = placed in
          let i = ins_placed in
          let l1 = long (step_start g.ends s) (end_at g.ends s outs_end) outs_are (omega (arith, b.counted, b.inputs, b.mentioned)) in
          let l2 = long (end_at g.ends s outs_end) (end_at g.ends s ins_end) ins_are (omega (arith, i.1, b.inputs, b.mentioned)) in
          let l3 = long (end_at g.ends s outs_end) (end_at g.ends s implicit_end) counted_are (omega (arith, b.inputs, b.mentioned)) in
          let l4 = long (end_at g.ends s implicit_end) (end_at g.ends s order_only_end) back_is b.mentioned in
          let n = length-append x.ins x.implicit in
          let o = some_long x.outs some in
          let w : length g.mentions ≤ length graph = omega (arith, graph_long columns, g.tables.few_mentions) in
          record {
            sound = record {
              output = omega (arith, l1, o);
              outs = i.0;
              ins = i.1;
              implicit = b.inputs;
              within = omega (arith, b.mentioned, w);
              low = λ j f t.
                  let z : j < length g.mentions = omega (arith, b.mentioned) in
                  let r = g.tables.low (get_or g.mentions j 0) (in_at g.mentions j z) in
                  rw (read_mention columns j z) (omega (arith, r, g.tables.few_files));
            };
            front = part_is (step_start g.ends s) (end_at g.ends s implicit_end) (omega (arith, b.inputs, b.mentioned)) ∙ front_is;
            back = part_is (end_at g.ends s implicit_end) (end_at g.ends s order_only_end) b.mentioned ∙ back_is;
            outs = l1;
            ins = omega (arith, l1, l2, b.outs, i.0);
            implicit = omega (arith, l1, l3, n, b.outs, b.counted);
            order = l4;
            output =
                (let z : step_start g.ends s + 0 ≡ step_start g.ends s = omega arith in
                let q = get_d_part g.mentions (step_start g.ends s) (end_at g.ends s implicit_end) 0 (omega (arith, l1, o, b.counted)) in
                read_mention columns (step_start g.ends s) (omega (arith, l1, o, b.counted, b.inputs, b.mentioned))
                ∙ sym (rw z at q) ∙ ap (λ (l : List ℕ). get_or l 0 0) front_is ∙ first_of x.outs (x.ins ++ x.implicit) some);
          }

      pub stands : StepStands graph (places_in graph s) x
      stands = rw places_are stands_at
