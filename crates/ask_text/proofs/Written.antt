-- What the text ask answers by what the reader answers.
use Rattle.std.specs.Prelude.{Result, Err}
use Prim.Native.Nat.{ℕ, ◌≤◌}
use mathlib.Core.List.{List}
use mathlib.Core.Path.{◌≡◌, ◌∙◌}
use lib.ListN.{length}
use Rattle.lists.specs.Fill.{zeroed}
use Rattle.spec.specs.declared.Refusal.{Refusal}
use Rattle.spec.specs.declared.Wanted.{Wanted}
use Rattle.spec.specs.Limits.{max_text}
use Rattle.spec.specs.Manifest.{refused_with, read_manifest}
use Rattle.spec.specs.Promises.{TextPromise}
use Rattle.spec.proofs.Promises.{cleared}
use Rattle.scan_classes.specs.Table.{classes}
use Rattle.hold_reading.specs.declared.Counts.{Counts}
use Rattle.apply_manifest.specs.Manifests.{Held}
use Rattle.text_step.specs.Asks.{TextAsk, TextOf}
use Rattle.text_step.proofs.Promise.{text_asked, text_promised, refusal_promised}
use Rattle.hold_reading.specs.Buffers.{Buffers}

module _ (manifest buffer : List ℕ) (room : max_text ≤ length buffer) where
  -- 2 to 10
  pub unread : (step : ℕ) (wanted : Wanted) {r : Refusal} {exit : List ℕ} → read_manifest manifest ≡ refused_with r → exit ≡ zeroed buffer 0 (length buffer)
      → TextPromise manifest step wanted buffer (Err r) exit
  unread step wanted e z = refusal_promised manifest buffer room step wanted e (z ∙ cleared buffer)

  module _ {bs : Buffers} {c : Counts} (h : Held manifest bs c) where
    pub askable : {t : List ℕ} → t ≡ classes → TextAsk t bs c buffer
    askable e = text_asked manifest buffer room h.is h.holds e

    -- 18, 16, 17, and the text
    pub written : {step : ℕ} {wanted : Wanted} {r : Result ℕ Refusal} {exit : List ℕ} → TextOf bs c step wanted buffer exit r
        → TextPromise manifest step wanted buffer r exit
    written p = text_promised manifest buffer room h.is h.holds p
