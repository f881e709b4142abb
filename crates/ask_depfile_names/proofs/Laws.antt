-- The depfile of a step by its name, over a table of names that grew since the reading.
use Rattle.std.specs.Prelude.{Option, Some, None, Result, Ok, Err}
use Prim.Native.Nat.{ℕ, ◌<◌}
use mathlib.Core.List.{List}
use mathlib.Core.Bool.{true, false, ◌||◌}
use mathlib.Core.Path.{◌≡◌, sym, subst}
use native.Mathlib.Omega.{arith}
use borrow.Author.Tests.{lt-leb}
use lib.Dec.{leb}
use lib.ListN.{length, length-append}
use Rattle.lists.specs.Members.{◌∈◌}
use Rattle.spec.specs.declared.Key.TheVariants.{Depfile}
use Rattle.spec.specs.Reading.{Reading, is_phony}
use Rattle.spec.specs.Sound.{SoundRules}
use Rattle.spec.specs.Graph.{step_at}
use Rattle.spec.specs.Text.{key_name}
use Rattle.spec.specs.TextAsk.{TextOutcome, name_outcome}
use Rattle.spec.specs.Headers.{depfile_named, depfile_at, depfile_of}
use Rattle.spec.proofs.Grown.{with_more, outcome_same}
use Rattle.hold_bindings.specs.Log.{Logged}
use Rattle.hold_columns.specs.Columns.{outs_end, ins_end, end_at, step_start, outs_in, ins_in}
use Rattle.hold_columns.proofs.Places.{read_ins}
use Rattle.hold_columns.proofs.Held.{in_part, held_outs}
use Rattle.hold_reading.specs.declared.Counts.{Counts}
use Rattle.hold_reading.specs.Buffers.{Buffers}
use Rattle.hold_reading.specs.Held.{HoldsBound, Graphed}
use Rattle.text_lookup.specs.declared.Asked.{Asked}
use Rattle.text_expansion.specs.Here.{Here}
use Rattle.text_step.specs.Steps.{Picks, ReadingHeld}
use Rattle.text_step.specs.Asks.{StepAsk, AnswersText, TextAt}
use Rattle.text_step.proofs.One.{sound_any}
use Rattle.ask_depfile_names.specs.Names.{NameIs, HoldsGrown, DepfileAsk, TellsDepfile, NamesDepfile}
use Rattle.spec.specs.declared.Refusal.{Refusal}

-- the same step, where there are so many files
abbrev grown : Asked → ℕ → Asked
grown a files =
    record { step = a.step; rule = a.rule; scope = a.scope; entries = a.entries; files = files; outs = a.outs; ins = a.ins; rest = a.rest; depth = a.depth; plain = a.plain }

-- ---- the files of a step are those of the reading

module _ {log : List Logged} {graph : List ℕ} {c : Counts} {rd : Reading} (g : Graphed log graph c rd) (s : ℕ) where
  outs_read : (f : ℕ) → f ∈ (step_at rd.steps s).outs → f < length rd.files
  unfolding outs_in
  outs_read f h =
      g.tables.low f (in_part g.mentions (step_start g.ends s) (end_at g.ends s outs_end) (subst (λ (l : List ℕ). f ∈ l) (sym (held_outs g.tables s)) h))

  ins_held : ins_in g.mentions g.ends s ≡ (step_at rd.steps s).ins
  ins_held = rw (g.tables.mentioned, g.tables.ended) (read_ins rd.steps s)

  ins_read : (f : ℕ) → f ∈ (step_at rd.steps s).ins → f < length rd.files
  unfolding ins_in
  ins_read f h =
      g.tables.low f (in_part g.mentions (end_at g.ends s outs_end) (end_at g.ends s ins_end) (subst (λ (l : List ℕ). f ∈ l) (sym ins_held) h))

-- ---- what is found of the depfile, by its name

tells_by : (rd : Reading) (step : ℕ) (word : List ℕ) (r : Result (Option ℕ) Refusal) → is_phony (step_at rd.steps step).rule ≡ false
    → NameIs (name_outcome step (key_name Depfile) rd) word r → TellsDepfile rd step word r
unfolding NameIs TellsDepfile depfile_of depfile_at depfile_named
tells_by rd step word (Ok None) y n = λ headers. rw (y, n)
tells_by rd step word (Ok (Some k)) y n = record { found = λ headers. rw (y, n.is); some = n.some; within = n.within }
tells_by rd step word (Err r) y n = λ headers. rw (y, n)

module _ {t : List ℕ} {bs : Buffers} {c : Counts} {files step : ℕ} {word : List ℕ} (w : DepfileAsk t bs c files step word) where
  pub reads : ReadingHeld bs.texts bs.bind bs.graph c
  reads = record { log = w.log; reading = w.reading; bound = w.holds.bound; graphed = w.holds.graphed }

  -- a phony step
  pub no_command : ((log : List Logged) (rd : Reading) → HoldsBound log bs.texts bs.bind c rd → Graphed log bs.graph c rd → leb (length rd.steps) step || is_phony (step_at rd.steps step).rule ≡ true)
      → NamesDepfile bs c files step word (Ok None)
  unfolding TellsDepfile depfile_of
  no_command p =
      record {
        tells = λ log rd more h headers.
            let f : leb (length rd.steps) step ≡ false = lt-leb (length rd.steps) step (omega (arith, w.there, h.bound.steps_counted)) in
            let y : is_phony (step_at rd.steps step).rule ≡ true = rw f at (p log rd h.bound h.graphed) in
            rw y;
      }

  -- another step
  module _ {a : Asked} (p : Picks bs.texts bs.bind bs.graph c step a) where
    grown_here : {log : List Logged} {rd : Reading} {more : List (List ℕ)} → HoldsGrown log bs c files rd more → SoundRules rd
        → Here bs (grown a files) log (with_more more rd) (step_at rd.steps step)
    grown_here {log} {rd} {more} h y =
        let x = p.picked log rd h.bound h.graphed in
        record {
          scope =
              record {
                bound = rw x.entries h.bound.held;
                vars = h.bound.vars;
                stands = sym x.scope;
                scope_low = rw x.scope (h.bound.scoped step x.there);
                block = rw x.number (h.bound.blocks step x.there);
                keys = x.keys;
                sound = y (step_at rd.steps step).rule;
                step_low = omega (arith, x.number, x.there, h.bound.steps_counted, h.bound.few_steps);
                rule_low = x.rule_low;
              };
          files =
              record {
                named = h.named;
                outs_ordered = x.outs_ordered;
                ins_ordered = x.ins_ordered;
                within = x.within;
                outs = x.outs;
                ins = x.ins;
                low = λ i l r. let k = x.low i l r in omega (arith, k, h.named.counted, length-append rd.files more);
              };
        }

    pub step_asked : StepAsk t bs (grown a files) word
    step_asked =
        record {
          table = w.table;
          room = w.room;
          log = w.log;
          reading = with_more w.more w.reading;
          step = step_at w.reading.steps step;
          here = grown_here w.holds w.sound;
          whole = (p.picked w.log w.reading w.holds.bound w.holds.graphed).whole;
        }

    module _ {exit : List ℕ} {answer : Result ℕ Refusal} (q : TextAt bs (grown a files) Depfile word exit answer) where
      -- 16, 17 or the name, of any reading that is held
      name_answered : {log : List Logged} {rd : Reading} {more : List (List ℕ)} → HoldsGrown log bs c files rd more → AnswersText (name_outcome step (key_name Depfile) rd) exit answer
      name_answered {log} {rd} {more} h =
          let x = p.picked log rd h.bound h.graphed in
          let m =
          subst (λ (j : ℕ). Here bs (grown a files) log (with_more more rd) (step_at rd.steps j) → AnswersText (name_outcome j (key_name Depfile) (with_more more rd)) exit answer) x.number (q.answers log (with_more more rd)) in
          subst (λ (o : TextOutcome). AnswersText o exit answer) (outcome_same rd more step (key_name Depfile) (ins_read h.graphed step) (outs_read h.graphed step))
          (m (grown_here h (sound_any w.holds.bound w.sound h.bound)))

      pub step_named : {r : Result (Option ℕ) Refusal} → ((o : TextOutcome) (u : List ℕ) → AnswersText o u answer → NameIs o u r) → NamesDepfile bs c files step exit r
      step_named {r} f =
          record {
            tells = λ log rd more h.
                tells_by rd step exit r (p.picked log rd h.bound h.graphed).command (f (name_outcome step (key_name Depfile) rd) exit (name_answered h));
          }
