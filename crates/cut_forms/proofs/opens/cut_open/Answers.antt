-- `cut_forms::opens::cut_open` meets its contract.
use Rattle.scan_raw.specs.Texts.{PathNext}
use Rattle.scan_raw.proofs.Answers.{next_stop, next_path, next_bad}
use Rattle.cut_forms.specs.Statements.{StatementAt}
use Rattle.cut_forms.proofs.Faults.{no_form_law}
use Rattle.cut_forms.proofs.Words.{open_none, open_wrong, open_more, open_ends}
use Rattle.cut_forms.proofs.opens.cut_open.Goals as goal

pub gap-end-requires : goal.gap-end-requires
gap-end-requires c =
    let p : PathNext _ _ _ _ = next_path _ _ _ c.next_path.ensures c.in-Path.is in
    p.within

pub returns-then-end-l : goal.returns-then-end-l
unfolding StatementAt
returns-then-end-l c = no_form_law (open_more _ (next_path _ _ _ c.next_path.ensures c.in-Path.is) c.gap-end.ensures c.if-end-l.true)

pub returns-else-end-l : goal.returns-else-end-l
unfolding StatementAt
returns-else-end-l c = open_ends _ (next_path _ _ _ c.next_path.ensures c.in-Path.is) c.gap-end.ensures c.if-end-l.false

pub returns-in-Stop : goal.returns-in-Stop
unfolding StatementAt
returns-in-Stop c = no_form_law (open_none _ (next_stop _ _ _ c.next_path.ensures c.in-Stop.is))

pub returns-in-BadDollar : goal.returns-in-BadDollar
unfolding StatementAt
returns-in-BadDollar c = open_wrong _ (next_bad _ _ _ c.next_path.ensures c.in-BadDollar.is)
