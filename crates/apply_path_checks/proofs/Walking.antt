-- A walk over a list of paths that looks for a wrong one.
use Prim.Native.Nat.{ℕ, ◌≤◌}
use mathlib.Core.Bool.{Bool, true, false, ◌||◌}
use mathlib.Core.List.{List, []}
use mathlib.Core.Path.{◌≡◌, refl, sym, ◌∙◌, ap}
use native.Mathlib.Omega.{arith}
use lib.ListN.{length, length-take, length-drop}
use Rattle.lists.specs.Members.{any, any_cons, any_none}
use Rattle.lists.specs.Parts.{part}
use Rattle.spec.specs.Limits.{max_manifest}
use Rattle.spec.specs.Reading.{Reading}
use Rattle.spec.specs.Statements.{expanded}
use Rattle.scan_classes.specs.Table.{classes}
use Rattle.hold_bindings.specs.Log.{Logged}
use Rattle.hold_bindings.specs.Held.{SoundBindings}
use Rattle.scan_raw.specs.Texts.{PathNext}
use Rattle.cut_forms.specs.Paths.{PathsAt}
use Rattle.cut_forms.proofs.Walks.{walk_on}
use Rattle.expand_parts.specs.Runs.{ExpandReady}
use Rattle.hold_reading.specs.declared.Counts.{Counts}
use Rattle.hold_reading.specs.Held.{HoldsReading}
use Rattle.hold_reading.specs.Adds.{Whole}
use Rattle.apply_path_checks.specs.declared.PathKind.{PathKind}
use Rattle.apply_path_checks.specs.Checks.{path_of, wrong_path, AnyWrong}
use Rattle.apply_path_checks.proofs.Wrong.{expanded_cons, expanded_none}
use Rattle.hold_reading.specs.Buffers.{Buffers}

-- A path of a line is ready to be expanded.
pub ready_path : {t l texts bind : List ℕ} {count i from to : ℕ} → t ≡ classes → length l ≤ max_manifest → SoundBindings texts bind count → PathNext l i from to
    → ExpandReady t (part l from to) texts bind count 0
ready_path {l = l} {from = from} {to = to} e s h p =
    record {
      table = e;
      short = simp (length-take, length-drop) (omega (arith, s));
      within = omega arith;
      sound = p.sound;
      held = h;
    }

pub table_held : {bs : Buffers} {c : Counts} → Whole bs c → SoundBindings bs.texts bs.bind c.entries
table_held w = record { log = w.log; held = w.holds.bound.held }

-- ---- the walk

-- The walk from place `at` on has come to place i, and no path so far is wrong.
pub record Looked (kind : PathKind) (l : List ℕ) (bs : Buffers) (c : Counts) (at i : ℕ) : Type 0 where
  pub within : i ≤ length l
  pub rest : (ps : List (List ℕ)) → PathsAt l at ps
      → (qs : List (List ℕ)) × PathsAt l i qs × ((log : List Logged) (rd : Reading) → HoldsReading log bs c rd → any (wrong_path kind rd) (expanded rd ps) ≡ any (wrong_path kind rd) (expanded rd qs))

pub look_begin : {kind : PathKind} {l : List ℕ} {bs : Buffers} {c : Counts} {at : ℕ} → at ≤ length l → Looked kind l bs c at at
look_begin h = record { within = h; rest = λ ps w. (ps, w, λ log rd k. refl) }

module _ {kind : PathKind} {l : List ℕ} {bs : Buffers} {c : Counts} {at i : ℕ} (x : Looked kind l bs c at i) where
  module _ {from to : ℕ} (n : PathNext l i from to) {r : Bool}
      (e : (log : List Logged) (rd : Reading) → HoldsReading log bs c rd → r ≡ wrong_path kind rd (path_of rd (part l from to))) where
    -- the path of this turn, and those behind it
    turn : (ps : List (List ℕ)) → PathsAt l at ps
        → (us : List (List ℕ)) × PathsAt l to us × ((log : List Logged) (rd : Reading) → HoldsReading log bs c rd → any (wrong_path kind rd) (expanded rd ps) ≡ r || any (wrong_path kind rd) (expanded rd us))
    turn ps w =
        let (qs, v, s) = x.rest ps w in
        let (us, q, u) = walk_on n v in (
          us,
          u,
          λ log rd k.
              s log rd k
              ∙ ap (λ (y : List (List ℕ)). any (wrong_path kind rd) (expanded rd y)) q
              ∙ ap (any (wrong_path kind rd)) (expanded_cons rd (part l from to) us)
              ∙ any_cons (wrong_path kind rd) (path_of rd (part l from to)) (expanded rd us)
              ∙ ap (λ (b : Bool). b || any (wrong_path kind rd) (expanded rd us)) (sym (e log rd k)),
        )

    pub look_more : r ≡ false → Looked kind l bs c at to
    look_more f =
        record {
          within = n.within;
          rest = λ ps w.
              let (us, u, s) = turn ps w in
              (us, u, λ log rd k. s log rd k ∙ ap (λ (b : Bool). b || any (wrong_path kind rd) (expanded rd us)) f);
        }

    pub look_found : r ≡ true → AnyWrong kind l bs c at true
    look_found f =
        record {
          answer = λ ps w log rd k.
              let (us, u, s) = turn ps w in
              sym (s log rd k ∙ ap (λ (b : Bool). b || any (wrong_path kind rd) (expanded rd us)) f);
        }

  pub look_end : ((ps : List (List ℕ)) → PathsAt l i ps → ps ≡ []) → AnyWrong kind l bs c at false
  look_end f =
      record {
        answer = λ ps w log rd k.
            let (qs, v, s) = x.rest ps w in
            sym (s log rd k ∙ ap (λ (y : List (List ℕ)). any (wrong_path kind rd) (expanded rd y)) (f qs v) ∙ ap (any (wrong_path kind rd)) (expanded_none rd) ∙ any_none (wrong_path kind rd));
      }
