-- `test_scan::scanners::kestrenyo_line_kind` meets its contract.
use Rattle.test_scan.proofs.Numbers.{number_of_kind, kind}
use Rattle.test_scan.proofs.scanners.kestrenyo_line_kind.Goals as goal

pub returns-in-Comment : goal.returns-in-Comment
unfolding number_of_kind
returns-in-Comment c = kind _ c.line_kind.ensures c.in-Comment.is

pub returns-in-Blank : goal.returns-in-Blank
unfolding number_of_kind
returns-in-Blank c = kind _ c.line_kind.ensures c.in-Blank.is

pub returns-in-Indented : goal.returns-in-Indented
unfolding number_of_kind
returns-in-Indented c = kind _ c.line_kind.ensures c.in-Indented.is

pub returns-in-Statement : goal.returns-in-Statement
unfolding number_of_kind
returns-in-Statement c = kind _ c.line_kind.ensures c.in-Statement.is
