-- `scan_tokens::short_name` meets its contract.
use Rattle.scan_tokens.proofs.Names.{short_run}
use Rattle.scan_tokens.proofs.short_name.Goals as goal

pub returns : goal.returns
returns c = short_run c.class_run.ensures
