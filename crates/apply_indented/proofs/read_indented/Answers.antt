-- `apply_indented::read_indented` meets its contract.
use borrow.Author.Rules.{rules}
use Rattle.scan_cursor.specs.Spans.{line_of}
use Rattle.apply_indented.proofs.Outcomes.{no_block_law, key_asks}
use Rattle.apply_indented.proofs.read_indented.Goals as goal

pub read_key-requires : goal.read_key-requires
read_key-requires c = key_asks c.in-Rule.is c.requires

pub read_setting-requires : goal.read_setting-requires
read_setting-requires c = rw c.in-Step.is at c.requires

pub returns-in-Nothing : goal.returns-in-Nothing
returns-in-Nothing c = record { space = search rules; promise = rw c.in-Nothing.is (no_block_law (line_of _ _ _)) }

pub returns-in-Rule : goal.returns-in-Rule
returns-in-Rule c = record { space = search rules; promise = rw c.in-Rule.is c.read_key.ensures.promise }

pub returns-in-Step : goal.returns-in-Step
returns-in-Step c = record { space = search rules; promise = rw c.in-Step.is c.read_setting.ensures.promise }
