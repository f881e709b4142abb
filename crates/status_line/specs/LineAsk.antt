-- What is answered for a status, a format and a lent buffer: "1 and 17 hold as for a text, at 0, 17 last".
use Rattle.std.specs.Prelude.{ℕ, false, List, [], ltb, length, Option, Some, None, Result, Ok, Err}
use Rattle.lists.specs.Tests.{if_b}
use Rattle.spec.specs.Limits.{max_text}
use Rattle.spec.specs.Answers.{Said, says}
use Rattle.spec.specs.Promises.{AnswerIs, filled}
use Rattle.status_record.specs.declared.Status.{Status}
use Rattle.status_line.specs.declared.LineRefusal.{LineRefusal}
use Rattle.status_line.specs.declared.LineRefusal.TheVariants.{ShortBuffer, BadPlaceholder, LongLine}
use Rattle.status_line.specs.Line.{wrong_from, line_from}

-- each refusal's number and place
unfoldable pub line_refusal_says : LineRefusal → Said
line_refusal_says ShortBuffer = says 1 0
line_refusal_says (BadPlaceholder p) = says 21 p
line_refusal_says LongLine = says 17 0

unfoldable pub line_says : Result ℕ LineRefusal → Said
unfolding line_refusal_says
line_says (Ok n) = says 0 n
line_says (Err r) = line_refusal_says r

-- the line, or why there is none
pub data LineOutcome : Type 0 where
  printed : List ℕ → LineOutcome
  no_line : LineRefusal → LineOutcome

-- "17 last": a line "over 8,192 bytes"
unfoldable pub fitting_line : List ℕ → LineOutcome
fitting_line l = if_b (ltb max_text (length l)) (λ _. no_line LongLine) (λ _. printed l)

unfoldable pub sound_format : Option ℕ → List ℕ → LineOutcome
unfolding fitting_line
sound_format (Some p) l = no_line (BadPlaceholder p)
sound_format None l = fitting_line l

-- the status, the format, and the lent buffer's length
unfoldable pub line_outcome : Status → List ℕ → ℕ → LineOutcome
unfolding sound_format wrong_from line_from
line_outcome s f n = if_b (ltb n max_text) (λ _. no_line ShortBuffer) (λ _. sound_format (wrong_from 0 false f) (line_from s false f))

-- "buffers as under a text": zero beyond the line, all zero after a refusal, and 1 touches nothing
unfoldable pub left_by_line : LineRefusal → List ℕ → List ℕ
unfolding filled
left_by_line ShortBuffer lent = lent
left_by_line (BadPlaceholder p) lent = filled [] lent
left_by_line LongLine lent = filled [] lent

-- what an answer must say and the buffer at exit must hold, by the outcome and the buffer at entry
unfoldable pub StatusLineMeets : LineOutcome → List ℕ → Said → List ℕ → Type 0
StatusLineMeets (printed l) lent said exit = AnswerIs said exit (says 0 (length l)) (filled l lent)
StatusLineMeets (no_line r) lent said exit = AnswerIs said exit (line_refusal_says r) (left_by_line r lent)
