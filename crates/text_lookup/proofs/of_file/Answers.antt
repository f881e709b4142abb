-- `text_lookup::of_file` meets its contract.
use Rattle.text_lookup.proofs.Newest.{file_found, file_unset}
use Rattle.text_lookup.proofs.of_file.Goals as goal

pub newest_from-requires : goal.newest_from-requires
newest_from-requires c = let a = c.requires in record { log = a.log; held = a.scope.bound; below = a.scope.scope_low }

pub returns-in-Some : goal.returns-in-Some
returns-in-Some c = file_found c.args.name.now c.newest_from.ensures c.requires c.in-Some.is

pub returns-in-None : goal.returns-in-None
returns-in-None c = file_unset c.args.name.now c.newest_from.ensures c.in-None.is
