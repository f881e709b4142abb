-- `ask_header_list::list_start` meets its contract.
use Rattle.scan_depfile.proofs.Laws.{list_from, list_refused}
use Rattle.ask_header_list.proofs.Finding.{starts_at, starts_not}
use Rattle.ask_header_list.proofs.list_start.Goals as goal

pub returns-in-Some : goal.returns-in-Some
returns-in-Some c = starts_at _ _ _ (list_from _ _ _ c.depfile_start.ensures c.in-Some.is)

pub returns-in-None : goal.returns-in-None
returns-in-None c = starts_not _ _ _ (list_refused _ _ _ c.depfile_start.ensures c.in-None.is)
