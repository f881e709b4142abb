-- A default line: its 8s, then what is left.
use Rattle.std.specs.Prelude.{Result, Err}
use Prim.Native.Nat.{ℕ}
use mathlib.Core.Bool.{Bool, true, false, not, ◌||◌}
use mathlib.Core.List.{List}
use mathlib.Core.Path.{◌≡◌, sym, ◌∙◌}
use native.Mathlib.Omega.{arith}
use lib.ListN.{length}
use Rattle.lists.specs.Members.{any}
use Rattle.spec.specs.declared.Refusal.TheVariants.{BadPath}
use Rattle.spec.specs.Basics.{is_empty}
use Rattle.spec.specs.Reading.{Reading, is_made}
use Rattle.spec.specs.Statements.{expanded, add_defaults}
use Rattle.cut_forms.specs.Paths.{PathsAt}
use Rattle.hold_bindings.specs.Log.{Logged}
use Rattle.hold_reading.specs.declared.Counts.{Counts}
use Rattle.hold_reading.specs.Held.{HoldsReading, refuses}
use Rattle.hold_reading.specs.Adds.{AddsFiles}
use Rattle.apply_path_checks.specs.declared.PathKind.TheVariants.{Default}
use Rattle.apply_path_checks.specs.Checks.{AnyWrong}
use Rattle.apply_path_checks.proofs.Wrong.{any_default}
use Rattle.apply_defaults.specs.Asks.{DefaultAsks}
use Rattle.apply_defaults.specs.Sound.{sound_defaults, SoundAsks}
use Rattle.hold_reading.specs.Buffers.{Buffers}
use Rattle.spec.specs.declared.Refusal.{Refusal}
use Rattle.hold_reading.specs.declared.State.{State}

module _ {l : List ℕ} {bs : Buffers} {c : Counts} {at : ℕ} (start : ℕ) {r : Bool} (a : AnyWrong Default l bs c at r) where
  wrong : {ps : List (List ℕ)} → PathsAt l at ps → {log : List Logged} {rd : Reading} → HoldsReading log bs c rd
      → any is_empty (expanded rd ps) || any (λ p. not (is_made p rd)) (expanded rd ps) ≡ r
  wrong {ps} w {log} {rd} h = any_default rd (expanded rd ps) ∙ sym (a.answer ps w log rd h)

  pub line_wrong : r ≡ true → {ps : List (List ℕ)} → PathsAt l at ps → {names' index' graph' : List ℕ}
      → AddsFiles bs c (λ rd. add_defaults start (expanded rd ps) rd) names' index' graph' (Err (BadPath start))
  unfolding add_defaults
  line_wrong e w = record { agrees = λ log rd h. rw (wrong w h ∙ e) refuses }

  pub line_sound : r ≡ false → {ps : List (List ℕ)} → PathsAt l at ps → {names' index' graph' : List ℕ} {x : Result State Refusal}
      → AddsFiles bs c (λ rd. sound_defaults start (expanded rd ps) rd) names' index' graph' x
      → AddsFiles bs c (λ rd. add_defaults start (expanded rd ps) rd) names' index' graph' x
  unfolding add_defaults sound_defaults
  line_sound e w x = record { agrees = λ log rd h. rw (wrong w h ∙ e) (x.agrees log rd h) }

-- what the rest of the line asks
pub sound_asks : {t l : List ℕ} {bs : Buffers} {word word' : List ℕ} {c : Counts} {at : ℕ} {r : Bool} → DefaultAsks t l bs word c at → length word' ≡ length word
    → AnyWrong Default l bs c at r → r ≡ false → SoundAsks t l bs word' c at
sound_asks a w m e =
    record {
      asks = record { table = a.table; short = a.short; raw = a.raw; stands = a.stands; room = omega (arith, a.room); whole = a.whole };
      right = rw e at m;
    }
