use Rattle.apply_lines.proofs.ByKind.{comment_read, blank_read, indented_read, statement_read, indented_asks}
use Rattle.apply_statements.proofs.Outcomes.{between_sound, turn_met}
use Rattle.scan_cursor.specs.Spans.{line_of}
use borrow.Author.Rules.{rules}
use Rattle.apply_lines.proofs.read_line.Goals as goal

pub line_kind-requires : goal.line_kind-requires
line_kind-requires c = c.requires.cut.table

pub close-requires : goal.close-requires
close-requires c = between_sound c.requires.between

pub read_indented-requires : goal.read_indented-requires
read_indented-requires c = indented_asks c.requires

pub read_file_line-requires : goal.read_file_line-requires
read_file_line-requires c = c.requires

pub returns-in-Comment : goal.returns-in-Comment
returns-in-Comment c = record { space = search rules; promise = comment_read (line_of _ _ _) c.line_kind.ensures c.in-Comment.is }

pub returns-in-Blank : goal.returns-in-Blank
returns-in-Blank c = record { space = search rules; promise = turn_met _ (blank_read (line_of _ _ _) c.line_kind.ensures c.in-Blank.is c.close.ensures) c.turned.ensures }

pub returns-in-Indented : goal.returns-in-Indented
returns-in-Indented c = record { space = search rules; promise = turn_met _ (indented_read (line_of _ _ _) c.line_kind.ensures c.in-Indented.is c.read_indented.ensures.promise) c.turned-in-Indented.ensures }

pub returns-in-Statement : goal.returns-in-Statement
returns-in-Statement c = record { space = search rules; promise = statement_read (line_of _ _ _) c.line_kind.ensures c.in-Statement.is c.read_file_line.ensures.promise }
