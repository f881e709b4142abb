-- 1: a lent buffer is too short, and stays as it is.
use Rattle.std.specs.Prelude.{Err}
use Prim.Native.Nat.{ℕ, ◌<◌}
use mathlib.Core.List.{List}
use mathlib.Core.Path.{refl}
use borrow.Author.Tests.{lt-ltb}
use lib.ListN.{length}
use Rattle.spec.specs.declared.Refusal.TheVariants.{ShortBuffer}
use Rattle.spec.specs.declared.Wanted.{Wanted}
use Rattle.spec.specs.Limits.{least_list, max_text}
use Rattle.spec.specs.Answers.{number_of_refusal, plan_says, text_says}
use Rattle.spec.specs.PlanAsk.{Inputs, plan_ask}
use Rattle.spec.specs.TextAsk.{text_ask}
use Rattle.text_batch.specs.TextsAsk.{texts_ask}
use Rattle.text_batch.specs.TextsPromise.{texts_says, TextsMeets, TextsPromise}
use Rattle.spec.specs.Promises.{left_by, PlanMeets, PlanPromise, TextMeets, TextPromise}

pub short_list : (i : Inputs) (list : List ℕ) → length list < least_list → PlanPromise i list (Err ShortBuffer) list
unfolding plan_ask PlanMeets plan_says left_by number_of_refusal
short_list i list h = rw (lt-ltb (length list) least_list h) (record { says = refl; leaves = refl })

pub short_text : (manifest : List ℕ) (step : ℕ) (wanted : Wanted) (buffer : List ℕ) → length buffer < max_text → TextPromise manifest step wanted buffer (Err ShortBuffer) buffer
unfolding text_ask TextMeets text_says left_by number_of_refusal
short_text manifest step wanted buffer h = rw (lt-ltb (length buffer) max_text h) (record { says = refl; leaves = refl })

pub short_texts : (manifest steps : List ℕ) (wanted : Wanted) (bytes ends : List ℕ) → length bytes < max_text
    → TextsPromise manifest steps wanted bytes ends (Err ShortBuffer) bytes ends
unfolding texts_ask TextsMeets texts_says left_by number_of_refusal
short_texts manifest steps wanted bytes ends h = rw (lt-ltb (length bytes) max_text h) (record { says = refl; leaves_bytes = refl; leaves_ends = refl })
