-- `hold_bindings::is_before` meets its contract.
-- `hold_bindings::is_before` meets its contract.
use mathlib.Core.Path.{◌∙◌}
use Rattle.hold_bindings.proofs.Entries.{row_at}
use Rattle.hold_bindings.proofs.Seeking.{owner_before, owner_after, owner_same}
use Rattle.hold_bindings.proofs.is_before.Goals as goal

pub returns-then-owner-o : goal.returns-then-owner-o
returns-then-owner-o c = λ log count h b. owner_before (row_at log c.args.k h b) c.args.owner c.args.wanted.now c.at-o.ensures c.if-owner-o.true

pub returns-then-o-owner : goal.returns-then-o-owner
returns-then-o-owner c = λ log count h b. owner_after (row_at log c.args.k h b) c.args.owner c.args.wanted.now c.at-o.ensures c.if-o-owner.true

pub returns : goal.returns
returns c = λ log count h b. c.less.ensures ∙ owner_same (row_at log c.args.k h b) c.args.owner c.args.wanted.now c.at-o.ensures c.if-owner-o.false c.if-o-owner.false (c.entry_name.ensures log count h b)
