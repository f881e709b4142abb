-- The passes over a build line joined: whether its paths give an 8.
use Prim.Native.Nat.{ℕ, ◌≤◌}
use mathlib.Core.Bool.{Bool, true, false, ◌||◌}
use mathlib.Core.List.{List, ◌++◌}
use mathlib.Core.Path.{◌≡◌, refl, sym, ◌∙◌, ap}
use native.Mathlib.Omega.{arith}
use lib.ListN.{length}
use Rattle.lists.specs.Members.{any, any_append}
use Rattle.spec.specs.Basics.{is_empty}
use Rattle.spec.specs.Forms.{BuildLine}
use Rattle.spec.specs.Reading.{Reading, is_made}
use Rattle.spec.specs.Statements.{expanded, expanded_line, inputs_of_line, bad_paths, twice}
use Rattle.cut_forms.specs.declared.BuildPlaces.{BuildPlaces}
use Rattle.cut_forms.specs.Paths.{PathsAt}
use Rattle.cut_forms.specs.Statements.{Stands}
use Rattle.hold_bindings.specs.Log.{Logged}
use Rattle.hold_reading.specs.declared.Counts.{Counts}
use Rattle.hold_reading.specs.Held.{HoldsReading}
use Rattle.apply_path_checks.specs.declared.PathKind.TheVariants.{Input, Output}
use Rattle.apply_path_checks.specs.Checks.{wrong_path, PathAsks, AnyWrong}
use Rattle.apply_path_checks.proofs.Wrong.{any_input, any_output}
use Rattle.apply_equal_outputs.specs.Kept.{ColumnsKept}
use Rattle.apply_equal_outputs.specs.Sorted.{RoomAsks, Twice}
use Rattle.apply_bad_paths.specs.Asks.{BuildLineAsks, InputsChecked, PathsChecked}
use Rattle.hold_reading.specs.Buffers.{Buffers}

-- ---- the inputs

empty_inputs : (rd : Reading) (b : BuildLine)
    → any is_empty (inputs_of_line (expanded_line rd b)) ≡ any is_empty (expanded rd b.ins) || (any is_empty (expanded rd b.implicit) || any is_empty (expanded rd b.order_only))
unfolding inputs_of_line expanded_line
empty_inputs rd b =
    any_append is_empty (expanded rd b.ins) (expanded rd b.implicit ++ expanded rd b.order_only)
    ∙ ap (λ (x : Bool). any is_empty (expanded rd b.ins) || x) (any_append is_empty (expanded rd b.implicit) (expanded rd b.order_only))

module _ {l : List ℕ} {bs : Buffers} {c : Counts} where
  empties : {at : ℕ} {r : Bool} → AnyWrong Input l bs c at r → {ps : List (List ℕ)} → PathsAt l at ps → {log : List Logged} (rd : Reading)
      → HoldsReading log bs c rd → any is_empty (expanded rd ps) ≡ r
  empties a {ps} w {log} rd h = any_input rd (expanded rd ps) ∙ sym (a.answer ps w log rd h)

  module _ {p : BuildPlaces} {r : Bool} (a : AnyWrong Input l bs c p.ins r) where
    pub ins_wrong : r ≡ true → InputsChecked l bs c p true
    ins_wrong e = record { answer = λ b w log rd h. sym (empty_inputs rd b ∙ rw (empties a w.ins rd h ∙ e)) }

    module _ (e : r ≡ false) {s : Bool} (d : AnyWrong Input l bs c p.implicit s) where
      pub implicit_wrong : s ≡ true → InputsChecked l bs c p true
      implicit_wrong f =
          record { answer = λ b w log rd h. sym (empty_inputs rd b ∙ rw (empties a w.ins rd h ∙ e, empties d w.implicit rd h ∙ f)) }

      pub order_wrong : s ≡ false → {u : Bool} → AnyWrong Input l bs c p.order u → InputsChecked l bs c p u
      order_wrong f g =
          record {
            answer = λ b w log rd h.
                sym (empty_inputs rd b ∙ rw (empties a w.ins rd h ∙ e, empties d w.implicit rd h ∙ f) (empties g w.order_only rd h));
          }

-- ---- the whole line

-- an empty output or input, an output that is made or equal to another: whatever the order of the tests
or_moved : (a b m t : Bool) → (a || b) || m || t ≡ (a || m) || (b || t)
or_moved true b m t = refl
or_moved false true true t = refl
or_moved false true false t = refl
or_moved false false m t = refl

bad_parts : (outs ps : List (List ℕ)) (rd : Reading) → bad_paths outs ps rd ≡ any (wrong_path Output rd) outs || (any is_empty ps || twice outs)
unfolding bad_paths
bad_parts outs ps rd =
    ap (λ (x : Bool). x || any (λ p. is_made p rd) outs || twice outs) (any_append is_empty outs ps)
    ∙ or_moved (any is_empty outs) (any is_empty ps) (any (λ p. is_made p rd) outs) (twice outs)
    ∙ ap (λ (x : Bool). x || (any is_empty ps || twice outs)) (any_output rd outs)

pub kept_same : (graph : List ℕ) → ColumnsKept graph graph
kept_same graph = record { long = refl; columns = refl }

module _ {l : List ℕ} {bs : Buffers} {c : Counts} {p : BuildPlaces} {r : Bool} (a : AnyWrong Output l bs c p.outs r) where
  line_parts : (b : BuildLine) → Stands l p b → {log : List Logged} (rd : Reading) → HoldsReading log bs c rd
      → bad_paths (expanded_line rd b).outs (inputs_of_line (expanded_line rd b)) rd ≡ r || (any is_empty (inputs_of_line (expanded_line rd b)) || twice (expanded_line rd b).outs)
  unfolding expanded_line
  line_parts b w {log} rd h =
      bad_parts (expanded_line rd b).outs (inputs_of_line (expanded_line rd b)) rd
      ∙ ap (λ (x : Bool). x || (any is_empty (inputs_of_line (expanded_line rd b)) || twice (expanded_line rd b).outs)) (sym (a.answer b.outs w.outs log rd h))

  pub line_output : r ≡ true → PathsChecked l bs c p bs.graph true
  line_output e = record { kept = kept_same bs.graph; answer = λ b w log rd h. sym (line_parts b w rd h ∙ rw e) }

  module _ (e : r ≡ false) {s : Bool} (i : InputsChecked l bs c p s) where
    pub line_input : s ≡ true → PathsChecked l bs c p bs.graph true
    line_input f = record { kept = kept_same bs.graph; answer = λ b w log rd h. sym (line_parts b w rd h ∙ rw (e, sym (i.answer b w log rd h) ∙ f)) }

    twice_outs : {graph' : List ℕ} {u : Bool} → Twice l bs.texts bs.bind bs.graph c p.outs graph' u → (b : BuildLine) → Stands l p b → {log : List Logged} (rd : Reading) → HoldsReading log bs c rd
        → twice (expanded_line rd b).outs ≡ u
    unfolding expanded_line
    twice_outs x b w {log} rd h = sym (x.answer b.outs w.outs log rd h.bound)

    pub line_twice : s ≡ false → {graph' : List ℕ} {u : Bool} → Twice l bs.texts bs.bind bs.graph c p.outs graph' u → PathsChecked l bs c p graph' u
    line_twice f x =
        record {
          kept = x.kept;
          answer = λ b w log rd h. sym (line_parts b w rd h ∙ rw (e, sym (i.answer b w log rd h) ∙ f) (twice_outs x b w rd h));
        }

-- ---- what the calls ask

module _ {t l : List ℕ} {bs : Buffers} {word : List ℕ} {c : Counts} {p : BuildPlaces} (a : BuildLineAsks t l bs word c p) {word' : List ℕ} (e : length word' ≡ length word) where
  pub line_asks : BuildLineAsks t l bs word' c p
  line_asks = record { table = a.table; short = a.short; line = a.line; stands = a.stands; room = omega (arith, a.room); scratch = a.scratch; whole = a.whole }

  pub list_asks : {at : ℕ} → at ≤ length l → PathAsks t l bs word' c at
  list_asks h = record { table = a.table; short = a.short; within = h; room = omega (arith, a.room); whole = a.whole }

pub room_asks : {t l : List ℕ} {bs : Buffers} {word : List ℕ} {c : Counts} {p : BuildPlaces} → BuildLineAsks t l bs word c p → RoomAsks t l bs.texts bs.bind bs.graph c p.outs
room_asks a =
    record {
      list =
          record {
            table = a.table;
            short = a.short;
            raw = a.line.outs;
            stands = a.stands.outs;
            log = a.whole.log;
            reading = a.whole.reading;
            bound = a.whole.holds.bound;
          };
      scratch = a.scratch;
    }
