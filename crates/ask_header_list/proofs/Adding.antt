-- The answer for a step: what is told of its depfile, and the second columns with the step.
use Rattle.std.specs.Prelude.{Some, None, Ok, Err}
use Prim.Native.Nat.{ℕ, ◌+◌, ◌*◌}
use mathlib.Core.Bool.{Bool, true, false, ◌||◌}
use mathlib.Core.List.{List, [], ◌++◌}
use mathlib.Core.Path.{◌≡◌, refl, sym, ◌∙◌, ap, subst}
use native.Mathlib.Omega.{arith}
use lib.ListN.{length}
use borrow.Author.Tests.{le-ltb}
use Rattle.spec.specs.declared.Refusal.TheVariants.{BadHeaders}
use Rattle.spec.specs.Limits.{max_files, max_bindings, max_mentions, max_written}
use Rattle.spec.specs.Reading.{Step, Reading, numbers_of, mention}
use Rattle.spec.specs.Statements.{mentioned, over_paths, over_counts}
use Rattle.spec.specs.Graph.{step_at}
use Rattle.spec.specs.Headers.{FoundDepfile, Listed, HeaderGraph, head_step, add_headers}
use Rattle.hold_bindings.specs.Log.{Logged}
use Rattle.hold_reading.specs.declared.Counts.{Counts}
use Rattle.hold_reading.specs.Buffers.{Buffers, buffers}
use Rattle.apply_files.specs.Lines.{LineHeld, Writing, with_paths, over_line}
use Rattle.apply_files.proofs.Columns.{made_fit}
use Rattle.apply_files.proofs.Closed.{paths_reading, length_numbers}
use Rattle.apply_files.proofs.Limits.{mentioned_none}
use Rattle.hold_headers.specs.Headed.{listed_number, reading_with, head_line, HoldsHeaders, AgreesHeaders, heads, refuses}
use Rattle.ask_header_list.specs.Places.{places_in}
use Rattle.ask_header_list.specs.Copies.{Closes}
use Rattle.ask_header_list.specs.Finds.{ToldFor, unnamed, absent, lists, passed, bad}
use Rattle.ask_header_list.specs.Adds.{StepHeld}
use Rattle.ask_header_list.proofs.Heading.{copied_line, step_held}

-- ---- limits

-- what is held is within them
not_over : {bs : Buffers} {c : Counts} {h : LineHeld} → Writing bs c h → over_counts h.reading ≡ false
unfolding over_counts
not_over {h = h} w =
    rw (
      le-ltb max_files (length h.reading.files) (omega (arith, w.filed, made_fit w.columns)),
      le-ltb max_bindings h.reading.bindings (omega (arith, w.bound.bindings_counted, w.bound.few_bindings)),
      le-ltb max_mentions h.reading.mentions (omega (arith, w.mentions_counted, w.mentions_low)),
      le-ltb max_written h.reading.written (omega (arith, w.bound.written_counted, w.bound.few_written)),
    )

-- they count the same in the manifest's reading and in that with the listed inputs
over_same : (rd now : Reading) (ns : List (List ℕ)) → now.bindings ≡ rd.bindings → over_counts (mentioned ns (reading_with rd now)) ≡ over_counts (mentioned ns now)
unfolding over_counts mentioned
over_same rd now ns e = rw e

-- ---- the answer

module _ {log : List Logged} {graph ns index texts bind second : List ℕ} {s : ℕ} {c : Counts} {rd : Reading} {h : HeaderGraph}
    (w : StepHeld log graph ns index texts bind second s c rd h) where
  abbrev pub step : Step
  step = step_at rd.steps s

  abbrev pub front : LineHeld
  front = copied_line (step.outs ++ (step.ins ++ step.implicit)) (head_line log rd h w.holds.made)

  none_more : (l : Listed) → head_step step l (record { reading = mentioned [] h.reading; lists = h.lists }) ≡ head_step step l h
  none_more l = ap (λ (v : Reading). head_step step l (record { reading = v; lists = h.lists })) (mentioned_none h.reading)

  module _ {ns' index' second₂ second₃ : List ℕ} {r : Counts} where
    none_told : {e : Counts} {n : ℕ} (missing : Bool) → n ≡ listed_number (record { missing = missing; files = [] }) → Writing (buffers ns' index' texts bind second₂) e front
        → Closes graph (places_in graph s) second₂ s c.paths e n second₃ r → HoldsHeaders log (buffers ns' index' texts bind second₃) r rd (head_step step (record { missing = missing; files = [] }) h)
    unfolding with_paths numbers_of
    none_told missing z k q =
        subst (λ (v : HeaderGraph). HoldsHeaders log (buffers ns' index' texts bind second₃) r rd v) (none_more (record { missing = missing; files = [] })) (step_held w missing [] k z q)

    pub told_agrees : {d : FoundDepfile} {e : Counts} {n : ℕ} → ToldFor s (buffers ns' index' texts bind second₂) front d (Some (e, n)) → Closes graph (places_in graph s) second₂ s c.paths e n second₃ r
        → AgreesHeaders log (buffers ns' index' texts bind second₃) rd (add_headers s step d h) (Ok r)
    unfolding add_headers listed_number
    told_agrees (unnamed k) q = heads (none_told false refl k q)
    told_agrees (absent k) q = heads (none_told true refl k q)
    told_agrees {n = n} (lists {ns = names} k o z) q =
        let y : over_counts (mentioned names h.reading) ≡ false =
        sym (over_same rd h.reading names w.holds.bindings) ∙ ap over_counts (sym (paths_reading names front)) ∙ not_over k in
        let m : n ≡ 2 * length (numbers_of (mention h.reading.files names) names) + 0 = omega (arith, z, length_numbers (mention h.reading.files names) names) in
        rw (o, y) (heads (step_held w false names k m q))

  pub refused_agrees : {ns' index' second₂ second₃ : List ℕ} {d : FoundDepfile} → ToldFor s (buffers ns' index' texts bind second₂) front d None
      → AgreesHeaders log (buffers ns' index' texts bind second₃) rd (add_headers s step d h) (Err (BadHeaders s))
  unfolding add_headers over_line
  refused_agrees (passed {ns = names} o) =
      let y : over_paths names || over_counts (mentioned names h.reading) ≡ true = sym (ap (λ (b : Bool). over_paths names || b) (over_same rd h.reading names w.holds.bindings)) ∙ o in
      rw y refuses
  refused_agrees bad = refuses
