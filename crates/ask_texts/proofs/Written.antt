-- What the texts ask answers by what the reader answers.
use Rattle.std.specs.Prelude.{Result, Err}
use Prim.Native.Nat.{ℕ, ◌≤◌}
use native.Mathlib.Omega.{arith}
use mathlib.Core.Bool.{false}
use mathlib.Core.List.{List}
use mathlib.Core.Path.{◌≡◌, refl, ◌∙◌}
use borrow.Author.Tests.{le-ltb, ne_eqb}
use lib.Dec.{ltb}
use lib.ListN.{length}
use Rattle.lists.specs.Fill.{zeroed}
use Rattle.spec.specs.declared.Refusal.{Refusal}
use Rattle.spec.specs.declared.Wanted.{Wanted}
use Rattle.spec.specs.Limits.{max_text}
use Rattle.spec.specs.Answers.{number_of_refusal}
use Rattle.spec.specs.Manifest.{refused_with, read_manifest}
use Rattle.spec.specs.Promises.{left_by}
use Rattle.spec.proofs.Promises.{cleared}
use Rattle.spec.proofs.Manifests.{past_1, of_reading, accepted_sound}
use Rattle.scan_classes.specs.Table.{classes}
use Rattle.hold_reading.specs.declared.Counts.{Counts}
use Rattle.hold_reading.specs.Buffers.{Buffers}
use Rattle.apply_manifest.specs.Manifests.{Held}
use Rattle.text_batch.specs.TextsAsk.{texts_read, texts_ask}
use Rattle.text_batch.specs.TextsPromise.{texts_says, TextsMeets, TextsPromise}
use Rattle.text_batch.specs.Batch.{BatchAsk, TextsOf}

module _ (manifest bytes ends : List ℕ) (room : max_text ≤ length bytes) where
  enough : ltb (length bytes) max_text ≡ false
  enough = le-ltb (length bytes) max_text room

  -- 19 and 2 to 10
  pub unread : (steps : List ℕ) (wanted : Wanted) {r : Refusal} {bytes_exit ends_exit : List ℕ} → read_manifest manifest ≡ refused_with r
      → bytes_exit ≡ zeroed bytes 0 (length bytes) → ends_exit ≡ zeroed ends 0 (length ends) → TextsPromise manifest steps wanted bytes ends (Err r) bytes_exit ends_exit
  unfolding texts_ask texts_read TextsMeets texts_says left_by
  unread steps wanted {r} e x y =
      let b = past_1 (of_reading manifest e) in
      let n = ne_eqb (number_of_refusal r) 1 (λ (q : number_of_refusal r ≡ 1). omega (arith, q, b)) in
      rw (enough, e, n) (record { says = refl; leaves_bytes = x ∙ cleared bytes; leaves_ends = y ∙ cleared ends })

  module _ {bs : Buffers} {c : Counts} (h : Held manifest bs c) where
    -- step by step
    pub written : {steps : List ℕ} {wanted : Wanted} {r : Result ℕ Refusal} {bytes_exit ends_exit : List ℕ} → TextsOf bs c steps wanted bytes ends bytes_exit ends_exit r
        → TextsPromise manifest steps wanted bytes ends r bytes_exit ends_exit
    unfolding texts_ask texts_read
    written p = rw (enough, h.is) (p.meets h.log h.reading h.holds)

pub askable : {manifest t : List ℕ} {bs : Buffers} {c : Counts} → Held manifest bs c → t ≡ classes → BatchAsk t bs c
askable {manifest} h e = record { table = e; log = h.log; reading = h.reading; holds = h.holds; sound = accepted_sound manifest h.reading h.is }
