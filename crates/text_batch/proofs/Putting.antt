-- One text behind others.
use Rattle.std.specs.Prelude.{Some, None, Result, Ok, Err}
use Prim.Native.Nat.{ℕ, ◌+◌, ◌-◌, ◌≤◌, ◌<◌}
use native.Mathlib.Omega.{arith}
use mathlib.Core.Path.{◌≡◌, refl, ◌∙◌, ap}
use mathlib.Core.List.{List, ◌++◌}
use lib.ListN.{length, take}
use lib.Seq.{length-take-le, take_all, paste, take-paste}
use Rattle.spec.specs.declared.Refusal.{Refusal}
use Rattle.spec.specs.declared.Wanted.{Wanted}
use Rattle.spec.specs.Limits.{max_text}
use Rattle.spec.specs.TextAsk.{wanted_name, text_of_step}
use Rattle.hold_bindings.specs.Log.{Logged}
use Rattle.spec.specs.Reading.{Reading}
use Rattle.hold_reading.specs.declared.Counts.{Counts}
use Rattle.hold_reading.specs.Held.{HoldsReading}
use Rattle.hold_reading.specs.Buffers.{Buffers}
use Rattle.text_step.specs.Asks.{TextAsk, TextOf}
use Rattle.text_batch.specs.Batch.{PutIs, Puts}
use Rattle.text_batch.proofs.Known.{of_step_law, IsWritten, is_written, is_refused}

module _ {bs : Buffers} {c : Counts} {step : ℕ} {wanted : Wanted} {one exit : List ℕ} {a : Result ℕ Refusal} (p : TextOf bs c step wanted one exit a) where
  module _ {n : ℕ} (e : a ≡ Ok n) where
    text_is : (log : List Logged) (rd : Reading) → HoldsReading log bs c rd → IsWritten (text_of_step step (wanted_name wanted) rd) exit n
    text_is log rd h =
        is_written (text_of_step step (wanted_name wanted) rd) one (of_step_law step (wanted_name wanted) rd) (rw e at (p.meets log rd h))

    -- "expanded text over 8,192 bytes" is refused
    pub text_short : {t : List ℕ} → TextAsk t bs c one → n ≤ max_text
    text_short w = (text_is w.log w.reading w.holds).short

    -- so that the part of the buffer that it fills is there
    pub text_part : {t : List ℕ} → TextAsk t bs c one → max_text ≤ length exit → length (take n exit) ≡ n
    text_part w l = length-take-le n exit (omega (arith, text_short w, l))

    module _ {at room : ℕ} {before : List ℕ} where
      pub put_long : room - at < n → Puts bs c step wanted at room before before (Ok None)
      unfolding PutIs
      put_long l =
          record {
            meets = λ log rd h.
                let x = text_is log rd h in
                record { written = x.written; is = x.is; long = omega (arith, l, x.count); kept = refl };
          }

      pub put_ends : {after : List ℕ} → at ≤ room → room ≤ length before → n ≤ room - at → length (take n exit) ≡ n
          → after ≡ paste before at (take n exit) (length (take n exit)) → Puts bs c step wanted at room before after (Ok (Some (at + n)))
      unfolding PutIs
      put_ends {after} b w l k z =
          let y : after ≡ paste before at (take n exit) n = z ∙ ap (λ (j : ℕ). paste before at (take n exit) j) k in
          record {
            meets = λ log rd h.
                let x = text_is log rd h in
                record {
                  written = x.written;
                  is = x.is;
                  end = ap (λ (j : ℕ). at + j) x.count;
                  within = omega arith;
                  front =
                      ap (take (at + n)) y
                      ∙ take-paste before at (take n exit) n (omega arith) (omega (arith, k))
                      ∙ ap (λ (l : List ℕ). take at before ++ l) (take_all n (take n exit) (omega (arith, k)) ∙ x.front);
                };
          }

  pub put_refused : {at room : ℕ} {before : List ℕ} {r : Refusal} → a ≡ Err r → Puts bs c step wanted at room before before (Err r)
  unfolding PutIs
  put_refused e =
      record {
        meets = λ log rd h. is_refused (text_of_step step (wanted_name wanted) rd) one exit (of_step_law step (wanted_name wanted) rd) (rw e at (p.meets log rd h));
      }
