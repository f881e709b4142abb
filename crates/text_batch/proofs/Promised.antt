-- The promise of the texts ask can be kept on every input, and it fixes the answer and both buffers.
use Rattle.std.specs.Prelude.{Result, Ok, Err}
use Prim.Native.Nat.{ℕ}
use mathlib.Core.List.{List}
use mathlib.Core.Path.{refl, sym, ◌∙◌}
use lib.ListN.{length}
use Rattle.spec.specs.declared.Wanted.{Wanted}
use Rattle.spec.specs.Basics.{concat}
use Rattle.spec.specs.Answers.{Said}
use Rattle.spec.specs.Promises.{filled, left_by}
use Rattle.text_batch.specs.TextsAsk.{TextsOutcome, texts, no_texts, texts_ask, ends_from}
use Rattle.text_batch.specs.TextsPromise.{texts_says, Are, TextsMeets, TextsPromise}
use Rattle.spec.specs.declared.Refusal.{Refusal}

texts_kept : (o : TextsOutcome) (bytes ends : List ℕ) → (answer : Result ℕ Refusal) × (bytes_exit : List ℕ) × (ends_exit : List ℕ) × TextsMeets o bytes ends (texts_says answer) bytes_exit ends_exit
unfolding TextsMeets texts_says
texts_kept (texts ts) bytes ends = (Ok (length ts), filled (concat ts) bytes, filled (ends_from 0 ts) ends, record { says = refl; leaves_bytes = refl; leaves_ends = refl })
texts_kept (no_texts r) bytes ends = (Err r, left_by r bytes, left_by r ends, record { says = refl; leaves_bytes = refl; leaves_ends = refl })

-- on every input some answer meets the promise
pub texts_possible : (manifest steps : List ℕ) (wanted : Wanted) (bytes ends : List ℕ)
    → (answer : Result ℕ Refusal) × (bytes_exit : List ℕ) × (ends_exit : List ℕ) × TextsPromise manifest steps wanted bytes ends answer bytes_exit ends_exit
texts_possible manifest steps wanted bytes ends = texts_kept (texts_ask manifest steps wanted (length bytes) (length ends)) bytes ends

are_same : {a b r : Said} {x y l u v m : List ℕ} → Are a x u r l m → Are b y v r l m → Are a x u b y v
are_same p q =
    record {
      says = p.says ∙ sym q.says;
      leaves_bytes = p.leaves_bytes ∙ sym q.leaves_bytes;
      leaves_ends = p.leaves_ends ∙ sym q.leaves_ends;
    }

texts_fixed : (o : TextsOutcome) (bytes ends : List ℕ) (a b : Said) (x y u v : List ℕ) → TextsMeets o bytes ends a x u → TextsMeets o bytes ends b y v → Are a x u b y v
unfolding TextsMeets
texts_fixed (texts ts) bytes ends a b x y u v p q = are_same p q
texts_fixed (no_texts r) bytes ends a b x y u v p q = are_same p q

-- any two that meet it say the same and leave the same
pub texts_unique : (manifest steps : List ℕ) (wanted : Wanted) (bytes ends : List ℕ) (a b : Result ℕ Refusal) (x y u v : List ℕ)
    → TextsPromise manifest steps wanted bytes ends a x u → TextsPromise manifest steps wanted bytes ends b y v → Are (texts_says a) x u (texts_says b) y v
texts_unique manifest steps wanted bytes ends a b x y u v p q =
    texts_fixed (texts_ask manifest steps wanted (length bytes) (length ends)) bytes ends (texts_says a) (texts_says b) x y u v p q
