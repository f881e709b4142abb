-- `scan_tokens::name_end` meets its contract.
use Rattle.scan_tokens.proofs.Names.{name_run}
use Rattle.scan_tokens.proofs.name_end.Goals as goal

pub returns : goal.returns
returns c = name_run c.class_run.ensures
