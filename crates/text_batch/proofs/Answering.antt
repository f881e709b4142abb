-- What the walk leaves, with zeros beyond.
use Rattle.std.specs.Prelude.{Ok, Err}
use Prim.Native.Nat.{ℕ, suc, ◌+◌, ◌-◌, ◌≤◌}
use native.Mathlib.Omega.{arith}
use mathlib.Core.Path.{◌≡◌, refl, sym, ◌∙◌, ap}
use mathlib.Core.Bool.{true, false}
use mathlib.Core.List.{List, [], ◌∷◌, ◌++◌, append-nil}
use lib.Dec.{eqb, leb}
use lib.ListN.{length, take}
use lib.Seq.{drop-length}
use borrow.Author.Tests.{ne_eqb, leb-true, leb-false}
use Rattle.lists.specs.Tests.{split}
use Rattle.lists.specs.Fill.{zeros, zeroed, zeroed_all}
use Rattle.spec.specs.declared.Refusal.{Refusal}
use Rattle.spec.specs.declared.Wanted.{Wanted}
use Rattle.spec.specs.Answers.{number_of_refusal}
use Rattle.spec.specs.Basics.{concat}
use Rattle.spec.specs.Promises.{filled, left_by}
use Rattle.hold_reading.specs.declared.Counts.{Counts}
use Rattle.hold_reading.specs.Buffers.{Buffers}
use Rattle.text_step.specs.Asks.{TextAsk}
use Rattle.text_batch.specs.TextsAsk.{TextsOutcome, max_end, endable, ends_from}
use Rattle.text_batch.specs.TextsPromise.{texts_says, TextsMeets}
use Rattle.text_batch.specs.Batch.{WalkAsk, AreWritten, AreRefused, WalkIs, Walks, TextsOf}

-- "what lies beyond it is zero"
zero_beyond : (before after exit s : List ℕ) (n : ℕ) → length after ≡ length before → n ≡ length s → take n after ≡ s → exit ≡ zeroed after n (length after) → exit ≡ filled s before
unfolding filled zeroed
zero_beyond before after exit s n k c t e =
    e ∙ rw (t, drop-length after, k, c) (append-nil (s ++ zeros (length before - length s)))

-- "A refusal leaves output buffers all zero"
all_zero : (r : Refusal) (before after exit : List ℕ) → 2 ≤ number_of_refusal r → length after ≡ length before → exit ≡ zeroed after 0 (length after) → exit ≡ left_by r before
unfolding left_by filled
all_zero r before after exit l k e =
    let n : eqb (number_of_refusal r) 1 ≡ false = ne_eqb (number_of_refusal r) 1 (λ (q : number_of_refusal r ≡ 1). omega (arith, q, l)) in
    let z : length before - 0 ≡ length before = omega arith in
    rw n (e ∙ zeroed_all after ∙ rw (k, z))

ends_long : (at : ℕ) (ts : List (List ℕ)) → length (ends_from at ts) ≡ length ts
unfolding ends_from
ends_long at [] = refl
ends_long at (t ∷ ts) = ap suc (ends_long (at + length t) ts)

module _ {o : TextsOutcome} (bytes ends bytes_now ends_now : List ℕ) {bytes_exit ends_exit : List ℕ} (kb : length bytes_now ≡ length bytes) (ke : length ends_now ≡ length ends) where
  meets_written : {n end : ℕ} → AreWritten o bytes_now ends_now n end → bytes_exit ≡ zeroed bytes_now end (length bytes_now) → ends_exit ≡ zeroed ends_now n (length ends_now)
      → TextsMeets o bytes ends (texts_says (Ok n)) bytes_exit ends_exit
  unfolding TextsMeets texts_says
  meets_written {n} {end} w x y =
      rw w.is
      (record {
        says = rw w.count;
        leaves_bytes = zero_beyond bytes bytes_now bytes_exit (concat w.written) end kb w.size w.front x;
        leaves_ends = zero_beyond ends ends_now ends_exit (ends_from 0 w.written) n ke (w.count ∙ sym (ends_long 0 w.written)) w.places y;
      })

  meets_refused : {r : Refusal} → AreRefused o r → bytes_exit ≡ zeroed bytes_now 0 (length bytes_now) → ends_exit ≡ zeroed ends_now 0 (length ends_now)
      → TextsMeets o bytes ends (texts_says (Err r)) bytes_exit ends_exit
  unfolding TextsMeets texts_says
  meets_refused w x y =
      rw w.is
      (record {
        says = w.says;
        leaves_bytes = all_zero w.refusal bytes bytes_now bytes_exit w.known kb x;
        leaves_ends = all_zero w.refusal ends ends_now ends_exit w.known ke y;
      })

module _ {bs : Buffers} {c : Counts} {steps : List ℕ} {wanted : Wanted} {room : ℕ} {bytes ends bytes_now ends_now bytes_exit ends_exit : List ℕ} where
  pub texts_written : {n end : ℕ} → Walks bs c steps wanted room (length ends) bytes_now ends_now (Ok (n, end))
      → room ≡ endable (length bytes) → length bytes_now ≡ length bytes → length ends_now ≡ length ends
      → bytes_exit ≡ zeroed bytes_now end (length bytes_now) → ends_exit ≡ zeroed ends_now n (length ends_now)
      → TextsOf bs c steps wanted bytes ends bytes_exit ends_exit (Ok n)
  unfolding WalkIs
  texts_written w q kb ke x y = record { meets = λ log rd h. rw (← q) (meets_written bytes ends bytes_now ends_now kb ke (w.meets log rd h) x y) }

  pub texts_refused : {r : Refusal} → Walks bs c steps wanted room (length ends) bytes_now ends_now (Err r)
      → room ≡ endable (length bytes) → length bytes_now ≡ length bytes → length ends_now ≡ length ends
      → bytes_exit ≡ zeroed bytes_now 0 (length bytes_now) → ends_exit ≡ zeroed ends_now 0 (length ends_now)
      → TextsOf bs c steps wanted bytes ends bytes_exit ends_exit (Err r)
  unfolding WalkIs
  texts_refused w q kb ke x y = record { meets = λ log rd h. rw (← q) (meets_refused bytes ends bytes_now ends_now kb ke (w.meets log rd h) x y) }

-- ---- what the walk asks

endable_low : (room : ℕ) → (endable room ≤ room) × (endable room ≤ max_end)
unfolding endable
endable_low room =
    split (leb room max_end)
    (λ (e : leb room max_end ≡ true). rw e (omega arith, leb-true room max_end e))
    (λ (e : leb room max_end ≡ false). rw e (omega (arith, leb-false room max_end e), omega arith))

pub walk_asked : {t : List ℕ} {bs : Buffers} {c : Counts} {one : List ℕ} (bytes : List ℕ) {room : ℕ} → TextAsk t bs c one → room ≡ endable (length bytes) → WalkAsk t bs c one bytes room
walk_asked bytes a e =
    let l = endable_low (length bytes) in
    record { asked = a; within = rw e l.0; low = rw e l.1 }
