-- `text_buffer::put_name` meets its contract.
use mathlib.Core.Path.{sym}
use Rattle.text_buffer.proofs.put_name.Goals as goal

pub returns-then-plain : goal.returns-then-plain
returns-then-plain c = λ files h. rw (c.if-plain.true, sym (c.file_name-name.ensures.answer files h)) c.put_bytes.ensures

pub returns : goal.returns
returns c = λ files h. rw (c.if-plain.false, sym (c.file_name-name.ensures.answer files h)) c.put_quoted.ensures
