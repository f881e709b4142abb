use borrow.Author.Rules.{rules}
use Rattle.apply_open.proofs.Entering.{leave_room, not_left, is_left}
use Rattle.apply_open.proofs.leave.Goals as goal

pub back_to-requires : goal.back_to-requires
back_to-requires c = leave_room c.requires c.if-sub.true

pub returns-then-sub : goal.returns-then-sub
returns-then-sub c = record { space = search rules; promise = is_left c.if-sub.true c.back_to.ensures }

pub returns : goal.returns
returns c = record { space = search rules; promise = not_left c.if-sub.false }
