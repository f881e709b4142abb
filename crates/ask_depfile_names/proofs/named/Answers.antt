-- `ask_depfile_names::named` meets its contract.
use Rattle.std.proofs.lemmas.Result.{err_from_is_err_and}
use Rattle.ask_depfile_names.proofs.Naming.{name_none, name_written, name_refused}
use Rattle.ask_depfile_names.proofs.named.Goals as goal

pub returns-in_err-n : goal.returns-in_err-n
returns-in_err-n c = λ o word p. let q = err_from_is_err_and c.from_residual.result c.from_residual.ensures.1 in rw (q.1, q.2) (name_refused c.in_err-n.was o word p)

pub returns-then-n-eq0 : goal.returns-then-n-eq0
returns-then-n-eq0 c = λ o word p. name_none c.in_ok-n.was o word p c.if-n-eq0.true

pub returns : goal.returns
returns c = λ o word p. name_written c.in_ok-n.was o word p c.if-n-eq0.false
