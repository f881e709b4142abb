-- `hold_bindings::is_named` meets its contract.
use mathlib.Core.Path.{◌∙◌}
use borrow.Author.Tests.{ne_eqb}
use Rattle.hold_bindings.proofs.Entries.{row_at}
use Rattle.hold_bindings.proofs.Seeking.{not_owned, owned}
use Rattle.hold_bindings.proofs.is_named.Goals as goal

pub returns-else-at-owner : goal.returns-else-at-owner
returns-else-at-owner c = λ log count h b. ne_eqb _ _ c.if-at-owner.false ∙ not_owned (row_at log c.args.k h b) c.args.owner c.args.wanted.now c.at.ensures c.if-at-owner.false

pub returns-then-at-owner : goal.returns-then-at-owner
returns-then-at-owner c = λ log count h b. c.equal.ensures ∙ owned (row_at log c.args.k h b) c.args.owner c.args.wanted.now c.at.ensures c.if-at-owner.true (c.entry_name.ensures log count h b)
