-- `scan_lines::line_kind` meets its contract.
use Rattle.scan_classes.proofs.Sorted.{sorted, in_class, not_in_class}
use Rattle.scan_lines.proofs.LineKinds.{kind_blank, kind_comment, kind_indented, kind_statement}
use Rattle.scan_lines.proofs.line_kind.Goals as goal

pub returns-then-s-i : goal.returns-then-s-i
returns-then-s-i c = kind_blank c.spaces-i.ensures c.if-s-i.true

pub returns-then-class_in-eq-HASH : goal.returns-then-class_in-eq-HASH
returns-then-class_in-eq-HASH c = kind_comment c.spaces-i.ensures c.if-s-i.false (in_class (sorted _).hash c.class_in.ensures c.if-class_in-eq-HASH.true)

pub returns-then-s-eq32 : goal.returns-then-s-eq32
returns-then-s-eq32 c = kind_indented c.spaces-i.ensures c.if-s-i.false (not_in_class (sorted _).hash c.class_in.ensures c.if-class_in-eq-HASH.false) c.if-s-eq32.true

pub returns : goal.returns
returns c = kind_statement c.spaces-i.ensures c.if-s-i.false (not_in_class (sorted _).hash c.class_in.ensures c.if-class_in-eq-HASH.false) c.if-s-eq32.false
