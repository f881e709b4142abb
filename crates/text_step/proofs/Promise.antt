-- For the text ask: from the manifest to the promise, once the manifest was read.
use Rattle.std.specs.Prelude.{Result, Err}
use Prim.Native.Nat.{ℕ, ◌≤◌}
use mathlib.Core.List.{List, []}
use mathlib.Core.Bool.{false}
use mathlib.Core.Path.{◌≡◌, refl}
use native.Mathlib.Omega.{arith}
use borrow.Author.Tests.{le-ltb, ne_eqb}
use lib.Dec.{ltb}
use lib.ListN.{length}
use Rattle.spec.specs.declared.Refusal.{Refusal}
use Rattle.spec.specs.declared.Wanted.{Wanted}
use Rattle.spec.specs.Limits.{max_text}
use Rattle.spec.specs.Answers.{number_of_refusal, text_says}
use Rattle.spec.specs.Promises.{filled, left_by, TextMeets, TextPromise}
use Rattle.spec.specs.Manifest.{accepted, refused_with, read_manifest}
use Rattle.spec.specs.Reading.{Reading}
use Rattle.spec.specs.TextAsk.{text_read, text_ask}
use Rattle.spec.proofs.Manifests.{past_1, of_reading, accepted_sound}
use Rattle.scan_classes.specs.Table.{classes}
use Rattle.hold_bindings.specs.Log.{Logged}
use Rattle.hold_reading.specs.declared.Counts.{Counts}
use Rattle.hold_reading.specs.Held.{HoldsReading}
use Rattle.text_step.specs.Asks.{TextAsk, TextOf}
use Rattle.hold_reading.specs.Buffers.{Buffers}

module _ (manifest before : List ℕ) (h : max_text ≤ length before) where
  enough : ltb (length before) max_text ≡ false
  enough = le-ltb (length before) max_text h

  -- a manifest that was read
  module _ {log : List Logged} {bs : Buffers} {c : Counts} {rd : Reading} (e : read_manifest manifest ≡ accepted rd)
      (k : HoldsReading log bs c rd) where
    pub text_asked : {t : List ℕ} → t ≡ classes → TextAsk t bs c before
    text_asked q = record { table = q; room = h; log = log; reading = rd; holds = k; sound = accepted_sound manifest rd e }

    pub text_promised : {step : ℕ} {wanted : Wanted} {r : Result ℕ Refusal} {after : List ℕ} → TextOf bs c step wanted before after r
        → TextPromise manifest step wanted before r after
    unfolding text_ask text_read
    text_promised p = rw (enough, e) (p.meets log rd k)

  -- 19, 2 to 10, and a cleared buffer
  pub refusal_promised : (step : ℕ) (wanted : Wanted) {r : Refusal} {after : List ℕ} → read_manifest manifest ≡ refused_with r → after ≡ filled [] before
      → TextPromise manifest step wanted before (Err r) after
  unfolding text_ask text_read TextMeets text_says left_by
  refusal_promised step wanted {r} e z =
      let b = past_1 (of_reading manifest e) in
      let n = ne_eqb (number_of_refusal r) 1 (λ (q : number_of_refusal r ≡ 1). omega (arith, q, b)) in
      rw (enough, e, n) (record { says = refl; leaves = z })
