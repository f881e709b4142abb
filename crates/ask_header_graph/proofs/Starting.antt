-- Before the first step, by what was read of a manifest; and after the last one, in the form that the plan wants.
use Rattle.std.specs.Prelude.{Result}
use Prim.Native.Nat.{ℕ, suc, ◌+◌, ◌-◌, ◌*◌, ◌≤◌, ◌<◌}
use mathlib.Core.Bool.{true, false}
use mathlib.Core.List.{List, [], ◌∷◌, ◌++◌, map, append-nil, append_assoc}
use mathlib.Core.Path.{◌≡◌, refl, sym, ◌∙◌, ap, subst}
use native.Mathlib.Omega.{arith}
use lib.ListN.{length, drop, get_or, length-append, length-map}
use lib.Seq.{drop-append_seam}
use Rattle.lists.specs.Tests.{split}
use Rattle.lists.specs.Members.{◌∈◌, has, not_in_nil}
use Rattle.lists.specs.Parts.{part, part_from_start, length_part, drop_part}
use Rattle.spec.specs.Basics.{concat}
use Rattle.spec.specs.Reading.{Step, Reading, is_phony}
use Rattle.spec.specs.Manifest.{read_manifest, accepted}
use Rattle.spec.specs.Graph.{step_at, non_order_only, makers, makers_from}
use Rattle.spec.specs.Headers.{Listed, listed_of, HeaderGraph, Heading, headed, stepless, with_headers}
use Rattle.spec.proofs.Manifests.{accepted_sound, accepted_makers}
use Rattle.spec.proofs.Headers.{Heads, no_heads, next_head, heads, steps_counted}
use Rattle.arena.specs.Columns.{start_of, column}
use Rattle.arena.proofs.Laws.{lies_part}
use Rattle.hold_bindings.specs.Log.{Logged}
use Rattle.hold_columns.specs.Columns.{bit, mentions_of, per_step, outs_end, implicit_end, end_at, step_ends_from, made_by, maker_in, non_order_only_in, HoldsColumns}
use Rattle.hold_columns.proofs.Places.{length_ends}
use Rattle.hold_columns.proofs.Held.{held_steps, held_makers, held_sound, held_non_order_only}
use Rattle.hold_reading.specs.declared.Counts.{Counts}
use Rattle.hold_reading.specs.Held.{capacities, ends_start, phony_start, made_start, rule_start, defaults_start, columns_end, HoldsBound, Graphed, HoldsReading}
use Rattle.hold_reading.specs.Buffers.{Buffers, with_files}
use Rattle.apply_files.specs.Lines.{Columns}
use Rattle.apply_files.proofs.Columns.{graph_long}
use Rattle.hold_headers.specs.Headed.{listed_number, phony_bits, HoldsHeaders, AgreesHeaders, heads as heads_told, refuses}
use Rattle.ask_header_graph.specs.Graph.{mentions_in, ends_in, phony_in, made_in, told_in, ListedLast, HeadedGraph, HeadStepsAsked, AgreesSteps, all_headed, one_refused, HeadsSteps}
use Rattle.ask_header_graph.specs.Begins.{BeginAsked, Begins}
use Rattle.ask_header_graph.specs.Turns.{no_paths, StartHeld, WalkAsked, HeadsAll}
use Rattle.ask_header_graph.proofs.Tails.{listed_last}
use Rattle.spec.specs.declared.Refusal.{Refusal}

-- ---- before the first step

bound_bare : {log : List Logged} {texts bind : List ℕ} {c : Counts} {rd : Reading} → HoldsBound log texts bind c rd → HoldsBound log texts bind (no_paths c) rd
bound_bare b =
    record {
      held = b.held;
      vars = b.vars;
      rules = b.rules;
      blocks = b.blocks;
      scoped = b.scoped;
      owned = b.owned;
      steps_counted = b.steps_counted;
      rules_counted = b.rules_counted;
      bindings_counted = b.bindings_counted;
      written_counted = b.written_counted;
      opened_counted = b.opened_counted;
      few_scopes = b.few_scopes;
      entries_counted = b.entries_counted;
      few_rules = b.few_rules;
      few_bindings = b.few_bindings;
      few_steps = b.few_steps;
      few_written = b.few_written;
      few_opened = b.few_opened;
      shared = b.shared;
    }

module _ {log : List Logged} {bs : Buffers} {c : Counts} {rd : Reading} (w : HoldsReading log bs c rd) where
  abbrev g : Graphed log bs.graph c rd
  g = w.graphed

  pub begin_asked : {second : List ℕ} → columns_end ≤ length second → BeginAsked bs.graph c second
  begin_asked l =
      record {
        graph_long = graph_long {m = g.mentions} {e = g.ends} {p = g.phony} {d = g.made} {r = g.rule_of} {f = rd.defaults} (record { lies = g.lies });
        second_long = l;
        few_steps = w.bound.few_steps;
        few_files = w.named.few;
        few_defaults = omega (arith, g.few_mentions, g.mentions_low);
      }

  cols : List (List ℕ)
  cols = g.mentions ∷ g.ends ∷ g.phony ∷ g.made ∷ g.rule_of ∷ rd.defaults ∷ []

  is : (k n s : ℕ) → k < 6 → start_of capacities k ≡ s → length (column cols k) ≡ n → part bs.graph s (s + n) ≡ column cols k
  unfolding cols
  is k n s b p q = rw (sym p, sym q) (lies_part capacities bs.graph cols k g.lies b)

  module _ {second : List ℕ} (b : Begins bs.graph c second) where
    columns_begun : Columns second [] [] (phony_bits rd.steps) g.made [] rd.defaults
    unfolding cols
    columns_begun =
        let p : part bs.graph phony_start (phony_start + c.steps) ≡ phony_bits rd.steps =
        is 2 c.steps phony_start (omega arith) refl (held_steps g.tables ∙ sym w.bound.steps_counted) ∙ g.tables.phonies in
        let m : part bs.graph made_start (made_start + c.files) ≡ g.made = is 3 c.files made_start (omega arith) refl (g.tables.counted ∙ sym w.named.counted) in
        let d : part bs.graph defaults_start (defaults_start + c.defaults) ≡ rd.defaults = is 5 c.defaults defaults_start (omega arith) refl (sym g.defaults_counted) in
        rw (p, m, d) at b.columns

    pub start_held : (manifest : List ℕ) → read_manifest manifest ≡ accepted rd → StartHeld log bs c second rd
    unfolding stepless concat step_ends_from maker_in
    start_held manifest e =
        let n = ap length g.tables.mentioned in
        record {
          bound = w.bound;
          graphed = g;
          done = refl;
          holds =
              record {
                made = g.made;
                writing =
                    record {
                      named = w.named;
                      bound = bound_bare w.bound;
                      columns = columns_begun;
                      filed = g.tables.counted;
                      paths_counted = refl;
                      defaults_counted = g.defaults_counted;
                      mentions_counted = g.mentions_counted;
                      few_mentions = omega (arith, g.few_mentions);
                      mentions_low = g.mentions_low;
                    };
                makes = λ f. sym (ap (λ (m : ℕ → List ℕ). m f) (held_makers g.tables));
                low = λ f i. absurd (not_in_nil i);
                more = [];
                grown = sym (append-nil rd.files);
                bindings = refl;
                listed = refl;
                room = omega (arith, g.few_mentions, g.paths_counted, n);
                outputs = λ s k. (accepted_makers manifest rd e).output s k;
              };
        }

pub walk_asked : {t headers : List ℕ} {count : ℕ} {order : List ℕ} {bs : Buffers} {c : Counts} {second name word : List ℕ} → HeadStepsAsked t headers count order bs c second name word
    → {second₁ : List ℕ} → Begins bs.graph c second₁ → WalkAsked t headers count order bs c second₁ name word
walk_asked a b =
    record {
      ready = record { table = a.table; indexed = a.indexed; names_long = a.names_long; name_long = a.name_long; word_long = a.word_long };
      log = a.log;
      reading = a.reading;
      sound = accepted_sound a.manifest a.reading a.is;
      held = start_held a.holds b a.manifest a.is;
    }

-- ---- after the last step

-- listed inputs change no step's outputs and no rule
same_makers : {ss afters : List Step} {ls : List Listed} → Heads ss afters ls → (n f : ℕ) → makers_from n afters f ≡ makers_from n ss f
unfolding makers_from
same_makers no_heads n f = refl
same_makers (next_head {s = s} x h) n f =
    rw x.outs
    (split (has f s.outs)
    (λ (e : has f s.outs ≡ true). rw e (ap (λ (r : List ℕ). n ∷ r) (same_makers h (suc n) f)))
    (λ (e : has f s.outs ≡ false). rw e (same_makers h (suc n) f)))

same_phony : {ss afters : List Step} {ls : List Listed} → Heads ss afters ls → phony_bits afters ≡ phony_bits ss
same_phony no_heads = refl
same_phony (next_head {s = s} x h) = rw x.rule (ap (λ (r : List ℕ). bit (is_phony s.rule) ∷ r) (same_phony h))

-- the end of a part
last_part : (l : List ℕ) (o e : ℕ) (a b : List ℕ) → o ≤ e → e ≤ length l → part l o e ≡ a ++ b → (length b ≤ e) × (part l (e - length b) e ≡ b)
last_part l o e a b p q z =
    let n : e - o ≡ length a + length b = sym (length_part l o e q) ∙ ap length z ∙ length-append a b in
    let k : e - length b ≡ o + length a = omega arith in
    (omega arith, ap (λ (i : ℕ). part l i e) k ∙ sym (drop_part l o e (length a)) ∙ ap (drop (length a)) z ∙ drop-append_seam a b)

module _ (headers : List ℕ) {log : List Logged} {bs : Buffers} {c : Counts} {rd : Reading} (r : HoldsReading log bs c rd) {ns index second : List ℕ} {d : Counts} {h : HeaderGraph}
    (e : with_headers headers rd ≡ headed h) (k : HoldsHeaders log (with_files bs ns index second) d rd h) where
  headed_cols : List (List ℕ)
  headed_cols = concat (map mentions_of h.reading.steps) ∷ step_ends_from 0 h.reading.steps ∷ phony_bits rd.steps ∷ k.made ∷ map listed_number h.lists ∷ rd.defaults ∷ []

  at : (i n s : ℕ) → i < 6 → start_of capacities i ≡ s → length (column headed_cols i) ≡ n → part second s (s + n) ≡ column headed_cols i
  unfolding headed_cols
  at i n s b p q = rw (sym p, sym q) (lies_part capacities second headed_cols i k.writing.columns.lies b)

  steps_same : d.steps ≡ length h.reading.steps
  steps_same = k.writing.bound.steps_counted ∙ sym (steps_counted headers rd h e)

  mentions_are : mentions_in second d ≡ concat (map mentions_of h.reading.steps)
  unfolding headed_cols
  mentions_are =
      let z : 0 + d.paths ≡ d.paths = omega arith in
      sym (part_from_start second d.paths) ∙ (rw z at (at 0 d.paths 0 (omega arith) refl (sym k.writing.paths_counted)))

  ends_are : ends_in second d ≡ step_ends_from 0 h.reading.steps
  unfolding headed_cols
  ends_are = at 1 (per_step * d.steps) ends_start (omega arith) refl (length_ends 0 h.reading.steps ∙ ap (λ (n : ℕ). per_step * n) (sym steps_same))

  phony_are : phony_in second d ≡ phony_bits h.reading.steps
  unfolding headed_cols
  phony_are =
      at 2 d.steps phony_start (omega arith) refl (length-map rd.steps (λ (s : Step). bit (is_phony s.rule)) ∙ sym k.writing.bound.steps_counted)
      ∙ sym (same_phony (heads headers rd h e))

  made_are : made_in second d ≡ k.made
  unfolding headed_cols
  made_are = at 3 d.files made_start (omega arith) refl (k.writing.filed ∙ sym k.writing.named.counted)

  told_all : length h.lists ≡ d.steps
  told_all = k.listed ∙ sym steps_same

  told_are : told_in second d ≡ map listed_number h.lists
  unfolding headed_cols
  told_are = at 4 d.steps rule_start (omega arith) refl (length-map h.lists listed_number ∙ told_all)

  tables_held : HoldsColumns h.reading.steps (length h.reading.files) (mentions_in second d) (ends_in second d) (phony_in second d) (made_in second d)
  unfolding makers
  tables_held =
      let w = k.writing in
      record {
        mentioned = mentions_are;
        ended = ends_are;
        phonies = phony_are;
        counted = ap length made_are ∙ w.filed;
        makes = λ f b. same_makers (heads headers rd h e) 0 f ∙ k.makes f ∙ ap (λ (l : List ℕ). made_by (get_or l f 0)) (sym made_are);
        low = λ f i. k.low f (subst (λ (l : List ℕ). f ∈ l) mentions_are i);
        few_steps = omega (arith, steps_same, w.bound.few_steps);
        few_files = omega (arith, w.named.counted, w.named.few);
        few_mentions = omega (arith, ap length mentions_are, w.paths_counted, w.few_mentions, w.mentions_low);
      }

  lists_held : (s : ℕ) → s < length h.lists → ListedLast (mentions_in second d) (ends_in second d) s (listed_of h.lists s).files
  unfolding non_order_only_in non_order_only
  lists_held s b =
      let x = step_at h.reading.steps s in
      let fs = (listed_of h.lists s).files in
      let (a, q) = listed_last headers rd h e s in
      let p = (held_sound tables_held).placed s (omega (arith, told_all, steps_same)) in
      let z : part (mentions_in second d) (end_at (ends_in second d) s outs_end) (end_at (ends_in second d) s implicit_end) ≡ (x.ins ++ a) ++ fs =
      held_non_order_only tables_held s ∙ ap (λ (l : List ℕ). x.ins ++ l) q ∙ sym (append_assoc x.ins a fs) in
      let (f, i) = last_part (mentions_in second d) (end_at (ends_in second d) s outs_end) (end_at (ends_in second d) s implicit_end) (x.ins ++ a) fs p.counted (omega (arith, p.inputs, p.mentioned)) z in
      record { few = f; is = i }

  headed_graph : HeadedGraph ns index second c d h
  headed_graph =
      let w = k.writing in
      record {
        long = graph_long w.columns;
        few_paths = omega (arith, w.few_mentions, w.mentions_low);
        few_steps = w.bound.few_steps;
        few_files = w.named.few;
        same_steps = w.bound.steps_counted ∙ sym r.bound.steps_counted;
        more_files = omega (arith, w.named.counted, r.named.counted, ap length k.grown, length-append rd.files k.more);
        steps_counted = steps_same;
        named = w.named;
        tables = tables_held;
        told = told_are;
        told_all = told_all;
        lists = lists_held;
      }

agrees_steps : (headers : List ℕ) {log : List Logged} {bs : Buffers} {c : Counts} {rd : Reading} → HoldsReading log bs c rd → {ns index second : List ℕ} (x : Heading) {r : Result Counts Refusal}
    → with_headers headers rd ≡ x → AgreesHeaders log (with_files bs ns index second) rd x r → AgreesSteps ns index second c x r
agrees_steps headers w x e (heads_told k) = all_headed (headed_graph headers w e k)
agrees_steps headers w x e refuses = one_refused

pub all_heads : {headers : List ℕ} {bs : Buffers} {c : Counts} {second₁ ns index second : List ℕ} {r : Result Counts Refusal} → Begins bs.graph c second₁ → HeadsAll headers bs c second₁ ns index second r
    → HeadsSteps headers bs c ns index second r
all_heads {headers} b x =
    record {
      agrees = λ manifest log rd e w. agrees_steps headers w (with_headers headers rd) refl (x.agrees log rd (start_held w b manifest e));
    }
