-- `apply_bad_paths::has_wrong_input` meets its contract.
use mathlib.Core.Path.{refl}
use borrow.Author.Rules.{rules}
use Rattle.apply_bad_paths.proofs.Joining.{ins_wrong, implicit_wrong, order_wrong, list_asks}
use Rattle.apply_bad_paths.proofs.has_wrong_input.Goals as goal

pub has_wrong-requires : goal.has_wrong-requires
has_wrong-requires c = list_asks c.requires refl c.requires.stands.ins.within

pub returns-then-has_wrong : goal.returns-then-has_wrong
returns-then-has_wrong c = record { space = search rules; promise = ins_wrong c.has_wrong.ensures.promise c.if-has_wrong.true }

pub has_wrong-requires-2 : goal.has_wrong-requires-2
has_wrong-requires-2 c = list_asks c.requires (search rules) c.requires.stands.implicit.within

pub returns-then-has_wrong-2 : goal.returns-then-has_wrong-2
returns-then-has_wrong-2 c = record { space = search rules; promise = implicit_wrong c.has_wrong.ensures.promise c.if-has_wrong.false c.has_wrong-2.ensures.promise c.if-has_wrong-2.true }

pub has_wrong-requires-3 : goal.has_wrong-requires-3
has_wrong-requires-3 c = list_asks c.requires (search rules) c.requires.stands.order_only.within

pub returns : goal.returns
returns c = record { space = search rules; promise = order_wrong c.has_wrong.ensures.promise c.if-has_wrong.false c.has_wrong-2.ensures.promise c.if-has_wrong-2.false c.has_wrong-3.ensures.promise }
