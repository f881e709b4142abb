-- `scan_classes::class_in` meets its contract.
use borrow.Author.Rules.{rules}
use Rattle.scan_classes.proofs.Entries.{table_right}
use Rattle.scan_classes.proofs.class_in.Goals as goal

pub returns : goal.returns
returns c = rw (c.wide.ensures, c.requires) (table_right _ (search rules))
