-- A build line: its 7, its 8s, then what is left.
use Rattle.std.specs.Prelude.{Result, Err}
use Prim.Native.Nat.{ℕ}
use mathlib.Core.Bool.{Bool, true, false}
use mathlib.Core.List.{List}
use mathlib.Core.Path.{◌≡◌, sym, ◌∙◌}
use native.Mathlib.Omega.{arith}
use lib.ListN.{length}
use Rattle.lists.specs.Parts.{part}
use Rattle.spec.specs.declared.Refusal.TheVariants.{BadRule, BadPath}
use Rattle.spec.specs.Forms.{BuildLine}
use Rattle.spec.specs.Reading.{Reading, declared}
use Rattle.spec.specs.Statements.{add_step, expanded_line}
use Rattle.cut_forms.specs.declared.BuildPlaces.{BuildPlaces}
use Rattle.cut_forms.specs.Statements.{Stands}
use Rattle.hold_bindings.specs.Log.{Logged}
use Rattle.hold_reading.specs.declared.Counts.{Counts}
use Rattle.hold_reading.specs.Held.{HoldsBound, HoldsReading, refuses}
use Rattle.hold_reading.specs.Adds.{AddsFiles}
use Rattle.apply_equal_outputs.specs.Kept.{ColumnsKept}
use Rattle.apply_bad_paths.specs.Asks.{PathsChecked}
use Rattle.apply_equal_outputs.proofs.Behind.{held_kept, whole_kept}
use Rattle.apply_steps.specs.Asks.{StepAsks, WritesStep}
use Rattle.apply_builds.specs.Asks.{BuildAsks}
use Rattle.hold_reading.specs.Buffers.{Buffers, with_graph}
use Rattle.spec.specs.declared.Refusal.{Refusal}
use Rattle.hold_reading.specs.declared.State.{State}

module _ {l : List ℕ} {bs : Buffers} {c : Counts} {p : BuildPlaces} (start : ℕ) {r : Bool}
    (d : (log : List Logged) (rd : Reading) → HoldsBound log bs.texts bs.bind c rd → r ≡ declared (part l p.rule p.ins) rd) where
  rule_known : {b : BuildLine} → Stands l p b → {log : List Logged} {rd : Reading} → HoldsReading log bs c rd → declared (expanded_line rd b).rule rd ≡ r
  unfolding expanded_line
  rule_known {b} w {log} {rd} h = rw w.rule (sym (d log rd h.bound))

  pub line_unknown : r ≡ false → {b : BuildLine} → Stands l p b → {names' index' graph' : List ℕ}
      → AddsFiles bs c (λ rd. add_step start (expanded_line rd b) rd) names' index' graph' (Err (BadRule start))
  unfolding add_step
  line_unknown e w = record { agrees = λ log rd h. rw (rule_known w h ∙ e) refuses }

  module _ (e : r ≡ true) {graph₁ : List ℕ} {s : Bool} (k : PathsChecked l bs c p graph₁ s) where
    pub line_bad : s ≡ true → {b : BuildLine} → Stands l p b → {names' index' graph' : List ℕ}
        → AddsFiles bs c (λ rd. add_step start (expanded_line rd b) rd) names' index' graph' (Err (BadPath start))
    unfolding add_step
    line_bad f {b} w = record { agrees = λ log rd h. rw (rule_known w h ∙ e, sym (k.answer b w log rd h) ∙ f) refuses }

    pub line_written : s ≡ false → {names' index' graph' : List ℕ} {x : Result State Refusal} → WritesStep l (with_graph bs graph₁) c start p names' index' graph' x
        → {b : BuildLine} → Stands l p b → AddsFiles bs c (λ rd. add_step start (expanded_line rd b) rd) names' index' graph' x
    line_written f y {b} w =
        record {
          agrees = λ log rd h. y.agrees b w log rd (held_kept k.kept h) (record { known = rule_known w h ∙ e; sound = sym (k.answer b w log rd h) ∙ f });
        }

-- ---- what the parts ask

module _ {t l : List ℕ} {bs : Buffers} {word : List ℕ} {c : Counts} {p : BuildPlaces} (a : BuildAsks t l bs word c p) where
  pub step_asks : {graph₁ word' : List ℕ} → ColumnsKept bs.graph graph₁ → length word' ≡ length word → StepAsks t l (with_graph bs graph₁) word' c p
  step_asks k w =
      record {
        table = a.table;
        short = a.short;
        line = a.line;
        stands = a.stands;
        room = record { names_long = a.names_room; word_long = omega (arith, a.room) };
        whole = whole_kept k a.whole;
      }
