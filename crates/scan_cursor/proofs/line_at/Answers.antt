-- `scan_cursor::line_at` meets its contract.
use mathlib.Core.Bool.{true, false}
use Rattle.scan_lines.proofs.Answers.{line_ended, line_comment, line_open}
use Rattle.scan_cursor.proofs.Spanning.{here_end, here_ended, here_open}
use borrow.Author.Rules.{rules}
use Rattle.scan_cursor.proofs.line_at.Goals as goal

pub returns-then-m-place : goal.returns-then-m-place
returns-then-m-place c = here_end _ c.requires.1 c.if-m-place.true

pub overflow_add-result : goal.overflow_add-result
overflow_add-result c = let e = (line_ended _ _ _ c.line_end.ensures c.in-Ended.is).line in search rules

pub overflow_add-result-in-Comment : goal.overflow_add-result-in-Comment
overflow_add-result-in-Comment c = let e = (line_comment _ _ _ c.line_end.ensures c.in-Comment.is).line in search rules

pub returns-in-Ended : goal.returns-in-Ended
returns-in-Ended c = here_ended _ c.if-m-place.false false (line_ended _ _ _ c.line_end.ensures c.in-Ended.is)

pub returns-in-Comment : goal.returns-in-Comment
returns-in-Comment c = here_ended _ c.if-m-place.false true (line_comment _ _ _ c.line_end.ensures c.in-Comment.is)

pub returns-in-Open : goal.returns-in-Open
returns-in-Open c = here_open _ c.if-m-place.false (line_open _ _ _ c.line_end.ensures c.in-Open.is)
