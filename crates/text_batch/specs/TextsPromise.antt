-- What the texts ask promises, for every input: the answer, and every byte and number of the lent buffers.
use Rattle.std.specs.Prelude.{ℕ, List, false, ◌≡◌, length, Result, Ok, Err}
use Rattle.spec.specs.declared.Wanted.{Wanted}
use Rattle.spec.specs.Basics.{concat}
use Rattle.spec.specs.Answers.{Said, refusal_says, says}
use Rattle.spec.specs.Promises.{filled, left_by}
use Rattle.text_batch.specs.TextsAsk.{TextsOutcome, texts_ask, texts, no_texts, ends_from}
use Rattle.spec.specs.declared.Refusal.{Refusal}

unfoldable pub texts_says : Result ℕ Refusal → Said
unfolding refusal_says
texts_says (Ok n) = record { number = 0; text = false; value = n }
texts_says (Err r) = refusal_says r

-- the answer says this, and the lent buffers of bytes and of numbers hold that at exit
pub record Are (said : Said) (bytes ends : List ℕ) (right : Said) (bytes_left ends_left : List ℕ) : Type 0 where
  pub says : said ≡ right
  pub leaves_bytes : bytes ≡ bytes_left
  pub leaves_ends : ends ≡ ends_left

-- the texts end to end, where each ends, and zeros beyond; "A refusal leaves output buffers all zero, with these exceptions: 1 touches nothing"
unfoldable pub TextsMeets : TextsOutcome → List ℕ → List ℕ → Said → List ℕ → List ℕ → Type 0
unfolding ends_from
TextsMeets (texts ts) bytes ends said bytes_exit ends_exit =
    Are said bytes_exit ends_exit (says 0 (length ts)) (filled (concat ts) bytes) (filled (ends_from 0 ts) ends)
TextsMeets (no_texts r) bytes ends said bytes_exit ends_exit = Are said bytes_exit ends_exit (refusal_says r) (left_by r bytes) (left_by r ends)

-- the texts ask: manifest, steps, what is wanted, buffers of bytes and of ends at entry, answer, both buffers at exit
abbrev pub TextsPromise : List ℕ → List ℕ → Wanted → List ℕ → List ℕ → Result ℕ Refusal → List ℕ → List ℕ → Type 0
TextsPromise manifest steps wanted bytes ends answer bytes_exit ends_exit =
    TextsMeets (texts_ask manifest steps wanted (length bytes) (length ends)) bytes ends (texts_says answer) bytes_exit ends_exit
