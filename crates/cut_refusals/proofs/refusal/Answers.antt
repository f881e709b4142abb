-- `cut_refusals::refusal` meets its contract.
use mathlib.Core.Path.{subst}
use Rattle.cut_refusals.specs.Cuts.{Near, refusal_of}
use borrow.Author.Rules.{rules}
use Rattle.cut_refusals.proofs.refusal.Goals as goal

pub overflow_add-result : goal.overflow_add-result
unfolding Near
overflow_add-result c = let h = subst (Near _) c.in-BadDollar.is c.requires in search rules

pub returns-in-NoForm : goal.returns-in-NoForm
unfolding refusal_of
returns-in-NoForm c = rw c.in-NoForm.is

pub returns-in-BadDollar : goal.returns-in-BadDollar
unfolding refusal_of
returns-in-BadDollar c = rw c.in-BadDollar.is

pub returns-in-NotYet : goal.returns-in-NotYet
unfolding refusal_of
returns-in-NotYet c = rw c.in-NotYet.is
