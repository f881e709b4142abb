-- `apply_statements::read_file_line` meets its contract.
use Rattle.scan_cursor.specs.Spans.{line_of}
use Rattle.spec.specs.Manifest.{read_statement}
use Rattle.apply_statements.proofs.Outcomes.{between_sound, closed_asks, closed_then, not_closed}
use borrow.Author.Rules.{rules}
use Rattle.apply_statements.proofs.read_file_line.Goals as goal

pub close-requires : goal.close-requires
close-requires c = between_sound c.requires.between

pub read_statement-requires : goal.read_statement-requires
read_statement-requires c = closed_asks (rw c.in-Ok.is at c.close.ensures) c.requires

pub returns-in-Ok : goal.returns-in-Ok
returns-in-Ok c = record { space = search rules; promise = closed_then (rw c.in-Ok.is at c.close.ensures) c.read_statement.ensures.promise }

pub returns-in-Err : goal.returns-in-Err
returns-in-Err c = record { space = search rules; promise = not_closed (read_statement (line_of _ _ _)) (rw c.in-Err.is at c.close.ensures) }
