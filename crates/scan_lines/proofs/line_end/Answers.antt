-- `scan_lines::line_end` meets its contract.
use Rattle.scan_classes.proofs.Sorted.{sorted, in_class, not_in_class}
use Rattle.scan_lines.specs.Endings.{LineAt}
use Rattle.scan_lines.proofs.Ends.{line_of_spaces, line_of_comment, line_of_body}
use Rattle.scan_lines.proofs.line_end.Goals as goal

pub returns-then-m-i : goal.returns-then-m-i
unfolding LineAt
returns-then-m-i c = line_of_spaces c.spaces-i.ensures c.if-m-i.true

pub returns-then-class_in-eq-HASH : goal.returns-then-class_in-eq-HASH
returns-then-class_in-eq-HASH c = line_of_comment c.spaces-i.ensures c.if-m-i.false (in_class (sorted _).hash c.class_in.ensures c.if-class_in-eq-HASH.true) _ c.comment_end.ensures

pub returns : goal.returns
returns c = line_of_body c.spaces-i.ensures c.if-m-i.false (not_in_class (sorted _).hash c.class_in.ensures c.if-class_in-eq-HASH.false) _ c.body_end.ensures
