-- Texts that are written as they are.
use Prim.Native.Nat.{ℕ, ◌+◌}
use mathlib.Core.List.{List, []}
use mathlib.Core.Path.{◌≡◌, sym, ◌∙◌, ap}
use native.Mathlib.Omega.{arith}
use Rattle.lists.specs.Parts.{part, length_part, get_d_part}
use Rattle.spec.specs.Bytes.{space, newline}
use Rattle.spec.specs.Reading.{Step, Reading}
use Rattle.spec.specs.Text.{joined_by, names_of, as_is, of_rule}
use Rattle.hold_names.specs.Table.{HoldsNames}
use Rattle.hold_bindings.specs.Log.{Logged, entry_at}
use Rattle.text_lookup.specs.declared.Asked.{Asked}
use Rattle.text_lookup.specs.declared.Source.{Source}
use Rattle.text_lookup.specs.declared.Source.TheVariants.{Inputs, InputLines, Outputs, Value, Text, Unset}
use Rattle.text_lookup.specs.Scope.{meaning}
use Rattle.text_lookup.proofs.Standing.{ValueOf}
use Rattle.text_buffer.specs.Puts.{names_in}
use Rattle.text_buffer.specs.Puts as output
use Rattle.text_memo.specs.declared.Draft.{Draft}
use Rattle.text_memo.specs.Draft.{WritesDraft}
use Rattle.text_memo.proofs.Spans.{drafted_none}
use Rattle.text_expansion.specs.Here.{StepFiles, Here}
use Rattle.text_expansion.specs.Asks.{spelling, StepFilesAsk, PlainAsk, WritesPlain}
use Rattle.hold_reading.specs.Buffers.{Buffers}

-- ---- files

pub part_ask : {names index graph buffer : List ℕ} {a : Asked} {from to : ℕ} {d : Draft} → StepFilesAsk names index graph a from to buffer d
    → output.FileNamesAsk names index a.files (part graph from to) buffer d.at
part_ask {graph = graph} {from = from} {to = to} w =
    let f = w.files in
    record {
      named = record { files = w.reading.files; holds = f.named };
      low = λ i b.
          let n = length_part graph from to (omega (arith, w.last, f.within)) in
          rw (get_d_part graph from to i (omega arith)) (f.low (from + i) (omega (arith, w.first)) (omega (arith, w.last)));
      free = w.free;
    }

-- ---- whatever a name stands for

as_is_one : {x v : List ℕ} → as_is x ≡ as_is v → x ≡ v
as_is_one e = cc

module _ {bs : Buffers} {before after : List ℕ} {a : Asked} {source : Source} {d r : Draft} where
  plainly : (x : Reading → Step → List Logged → List ℕ) → ((rd : Reading) (s : Step) (log : List Logged) → meaning (spelling a) rd s log source ≡ as_is (x rd s log))
      → ((log : List Logged) (rd : Reading) (s : Step) → Here bs a log rd s → WritesDraft before d (x rd s log) after r)
      → WritesPlain bs a source before d after r
  plainly x e p =
      record {
        writes = λ log rd s h v q text k.
            let z : x rd s log ≡ v = as_is_one (sym (e rd s log) ∙ q) in
            rw (← z) ((p log rd s h).drafts text k);
      }

  -- files of the step between two places
  plain_files : (c from to : ℕ) (l : Step → List ℕ) → ((rd : Reading) (s : Step) (log : List Logged) → meaning (spelling a) rd s log source ≡ as_is (joined_by c (names_of (spelling a) rd (l s))))
      → ((rd : Reading) (s : Step) → StepFiles bs.names bs.index bs.graph a rd s → part bs.graph from to ≡ l s)
      → ((files : List (List ℕ)) → HoldsNames bs.names bs.index a.files files → WritesDraft before d (joined_by c (names_in (spelling a) files (part bs.graph from to))) after r)
      → WritesPlain bs a source before d after r
  unfolding names_of
  plain_files c from to l e q w = plainly (λ rd s log. joined_by c (names_of (spelling a) rd (l s))) e (λ log rd s h. rw (← (q rd s h.files)) (w rd.files h.files.named))

  pub plain_inputs : source ≡ Inputs → ((files : List (List ℕ)) → HoldsNames bs.names bs.index a.files files → WritesDraft before d (joined_by space (names_in (spelling a) files (part bs.graph a.ins a.rest))) after r)
      → WritesPlain bs a source before d after r
  unfolding meaning
  plain_inputs e = plain_files space a.ins a.rest (λ s. s.ins) (λ rd s log. ap (meaning (spelling a) rd s log) e) (λ rd s f. f.ins)

  pub plain_lines : source ≡ InputLines → ((files : List (List ℕ)) → HoldsNames bs.names bs.index a.files files → WritesDraft before d (joined_by newline (names_in (spelling a) files (part bs.graph a.ins a.rest))) after r)
      → WritesPlain bs a source before d after r
  unfolding meaning
  plain_lines e = plain_files newline a.ins a.rest (λ s. s.ins) (λ rd s log. ap (meaning (spelling a) rd s log) e) (λ rd s f. f.ins)

  pub plain_outputs : source ≡ Outputs → ((files : List (List ℕ)) → HoldsNames bs.names bs.index a.files files → WritesDraft before d (joined_by space (names_in (spelling a) files (part bs.graph a.outs a.ins))) after r)
      → WritesPlain bs a source before d after r
  unfolding meaning
  plain_outputs e = plain_files space a.outs a.ins (λ s. s.outs) (λ rd s log. ap (meaning (spelling a) rd s log) e) (λ rd s f. f.outs)

  pub plain_value : {k : ℕ} {raw : List ℕ} → PlainAsk bs a source before d → source ≡ Value k → ValueOf bs.texts bs.bind k raw → WritesDraft before d raw after r
      → WritesPlain bs a source before d after r
  unfolding meaning
  plain_value {k} {raw} w e v p =
      plainly (λ rd s log. (entry_at k log).value) (λ rd s log. ap (meaning (spelling a) rd s log) e)
      (λ log rd s h. rw (← (v log a.entries h.scope.bound (w.value k e).low)) p)

module _ {bs : Buffers} {before : List ℕ} {a : Asked} {source : Source} {d : Draft} where
  pub plain_text : {k : ℕ} → source ≡ Text k → WritesPlain bs a source before d before d
  unfolding meaning
  plain_text {k} e =
      record {
        writes = λ log rd s h v q text w.
            let z : of_rule (entry_at k log).value ≡ as_is v = sym (ap (meaning (spelling a) rd s log) e) ∙ q in
            let y : ◌≡◌ {A = ℕ} 0 1 = cc in
            absurd (omega arith);
      }

  pub plain_unset : source ≡ Unset → WritesPlain bs a source before d before d
  unfolding meaning
  plain_unset e = plainly (λ rd s log. []) (λ rd s log. ap (meaning (spelling a) rd s log) e) (λ log rd s h. record { drafts = λ text k. drafted_none k })
