-- `apply_bad_paths::bad_paths` meets its contract.
use mathlib.Core.Path.{refl}
use borrow.Author.Rules.{rules}
use Rattle.apply_bad_paths.proofs.Joining.{list_asks, line_asks, room_asks, line_output, line_input, line_twice}
use Rattle.apply_bad_paths.proofs.bad_paths.Goals as goal

pub has_wrong-requires : goal.has_wrong-requires
has_wrong-requires c = list_asks c.requires refl c.requires.stands.outs.within

pub returns-then-has_wrong : goal.returns-then-has_wrong
returns-then-has_wrong c = record { space = search rules; promise = line_output c.has_wrong.ensures.promise c.if-has_wrong.true }

pub has_wrong_input-requires : goal.has_wrong_input-requires
has_wrong_input-requires c = line_asks c.requires (search rules)

pub returns-then-has_wrong_input : goal.returns-then-has_wrong_input
returns-then-has_wrong_input c = record { space = search rules; promise = line_input c.has_wrong.ensures.promise c.if-has_wrong.false c.has_wrong_input.ensures.promise c.if-has_wrong_input.true }

pub has_equal_outputs-requires : goal.has_equal_outputs-requires
has_equal_outputs-requires c = room_asks c.requires

pub returns : goal.returns
returns c = record { space = search rules; promise = line_twice c.has_wrong.ensures.promise c.if-has_wrong.false c.has_wrong_input.ensures.promise c.if-has_wrong_input.false c.has_equal_outputs.ensures }
