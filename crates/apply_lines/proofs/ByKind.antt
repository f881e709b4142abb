-- What the rules answer to a line, by its kind.
use Rattle.std.specs.Prelude.{Result}
use Prim.Native.Nat.{ℕ}
use mathlib.Core.List.{List}
use mathlib.Core.Path.{◌≡◌, sym, ◌∙◌}
use native.Mathlib.Omega.{arith}
use Rattle.spec.specs.Lines.{Line}
use Rattle.spec.specs.Manifest.{close, and_then, read_indented, read_statement, read_line}
use Rattle.scan_lines.specs.declared.LineKind.{LineKind}
use Rattle.scan_lines.specs.declared.LineKind.TheVariants.{Comment, Blank, Indented, Statement}
use Rattle.scan_lines.specs.Endings.{kind_of}
use Rattle.scan_lines.proofs.LineKinds.{is_comment_law, is_blank_law, is_indented_law, is_statement}
use Rattle.hold_reading.specs.declared.Counts.{Counts}
use Rattle.hold_reading.specs.declared.Open.{Open}
use Rattle.hold_reading.specs.declared.LineTurn.{LineTurn}
use Rattle.hold_reading.specs.declared.LineTurn.TheVariants.{Answered}
use Rattle.hold_reading.specs.Held.{goes, turn_answers}
use Rattle.hold_reading.specs.Binds.{Meets}
use Rattle.apply_indented.specs.Asks.{IndentedAsks}
use Rattle.apply_statements.specs.Asks.{LineAsks, LineMeets, TurnMeets}
use Rattle.apply_statements.proofs.Outcomes.{binding_met, line_as, turn_as, between_sound}
use Rattle.hold_reading.specs.Buffers.{Buffers, with_bindings}
use Rattle.spec.specs.declared.Refusal.{Refusal}
use Rattle.hold_reading.specs.declared.State.{State}
use Rattle.hold_reading.specs.Went.{went}

-- k is the kind that was found, and it is the one that is named.
module _ (l : Line) {k : LineKind} (a : k ≡ kind_of l.text) {bs : Buffers} {c : Counts} {o : Open} where
  pub comment_read : k ≡ Comment → TurnMeets l bs c o (read_line l) bs (Answered (went c o))
  unfolding read_line
  comment_read e = record { agrees = λ log rd b h p. rw (is_comment_law l.text (sym e ∙ a)) (turn_answers (goes h p)) }

  pub blank_read : {r : Result State Refusal} → k ≡ Blank → Meets bs.texts bs.bind c o close bs.texts bs.bind r → LineMeets bs c o (read_line l) bs r
  unfolding read_line
  blank_read e m = let w = is_blank_law l.text (sym e ∙ a) in line_as (λ rd b. rw (w.0, w.1)) (binding_met m)

  pub indented_read : {texts' bind' : List ℕ} {r : Result State Refusal} → k ≡ Indented → Meets bs.texts bs.bind c o (read_indented l) texts' bind' r
      → LineMeets bs c o (read_line l) (with_bindings bs texts' bind') r
  unfolding read_line
  indented_read e m = let w = is_indented_law l.text (sym e ∙ a) in line_as (λ rd b. rw (w.0, w.1, w.2)) (binding_met m)

  pub statement_read : {bs' : Buffers} {r : LineTurn} → k ≡ Statement
      → TurnMeets l bs c o (λ rd b. and_then (close rd b) (read_statement l)) bs' r
      → TurnMeets l bs c o (read_line l) bs' r
  unfolding read_line
  statement_read e m = let w = is_statement l.text (sym e ∙ a) in turn_as (λ rd b. rw (w.0, w.1, w.2)) m

pub indented_asks : {t : List ℕ} {start : ℕ} {l : List ℕ} {bs : Buffers} {word : List ℕ} {c : Counts} {o : Open}
    → LineAsks t start l bs word c o → IndentedAsks t start l bs.texts bs.bind word c o
indented_asks a = record { cut = a.cut; room = omega (arith, a.room.word_room); sound = between_sound a.between }
