-- `hold_names::match_name` meets its contract.
use Rattle.hold_names.proofs.Seeking.{matches_name}
use Rattle.hold_names.proofs.match_name.Goals as goal

pub returns : goal.returns
returns c = matches_name c.file_name.ensures c.equal.ensures
