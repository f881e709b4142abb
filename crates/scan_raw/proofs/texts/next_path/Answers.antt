-- `scan_raw::texts::next_path` meets its contract.
use Rattle.scan_raw.specs.Texts.{NextPathAt}
use Rattle.scan_raw.proofs.Answers.{path_to, path_wrong}
use Rattle.scan_raw.proofs.PathLists.{stops, next, wrong_next, begins_not_end, begins_not, begins}
use Rattle.scan_raw.proofs.texts.next_path.Goals as goal
use Rattle.scan_raw.proofs.texts.next_path.Goals.{then-s-i-via-then-s-i, then-s-i-via-else-s-i+then-s-i-eq58, then-s-i-via-else-s-i+else-s-i-eq58+then-s-i-eq124}

pub returns-then-s-i : goal.returns-then-s-i
unfolding NextPathAt
returns-then-s-i c = stops c.gap-i.ensures (elim c.then-s-i.branch [
  | then-s-i-via-then-s-i w ↦ begins_not_end c.gap-i.ensures w.if-s-i.true
  | then-s-i-via-else-s-i+then-s-i-eq58 w ↦ begins_not c.gap-i.ensures w.if-s-i.false (rw w.if-s-i-eq58.true)
  | then-s-i-via-else-s-i+else-s-i-eq58+then-s-i-eq124 w ↦ begins_not c.gap-i.ensures w.if-s-i.false (rw w.if-s-i-eq124.true)
])

pub returns-in-Ok : goal.returns-in-Ok
unfolding NextPathAt
returns-in-Ok c = next c.gap-i.ensures (begins c.gap-i.ensures c.if-s-i.false c.if-s-i-eq58.false c.if-s-i-eq124.false) (path_to _ _ _ c.path.ensures c.in-Ok.is)

pub returns-in-Err : goal.returns-in-Err
unfolding NextPathAt
returns-in-Err c = wrong_next c.gap-i.ensures (begins c.gap-i.ensures c.if-s-i.false c.if-s-i-eq58.false c.if-s-i-eq124.false) (path_wrong _ _ _ c.path.ensures c.in-Err.is)
