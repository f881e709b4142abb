-- `hold_names::enter` meets its contract: a law for each room that a name may find.
use Rattle.hold_names.proofs.Entering.{spare_asked, spare_shape, enter_first, enter_second, enter_spare}
use Rattle.hold_names.proofs.enter.Goals as goal

pub returns-then-pair-eq0 : goal.returns-then-pair-eq0
returns-then-pair-eq0 c = enter_first c.args.index.now c.args.count c.args.b c.args.to c.args.block c.args.place c.requires.max_numbers_in_bounds.1 c.put.ensures c.at-pair.ensures c.if-pair-eq0.true c.put-then-pair-eq0.ensures

pub returns-then-pair-lt-PAIR : goal.returns-then-pair-lt-PAIR
returns-then-pair-lt-PAIR c = enter_second c.args.index.now c.args.count c.args.b c.args.to c.args.block c.args.place c.requires.max_numbers_in_bounds.1 c.put.ensures c.at-pair.ensures c.if-pair-eq0.false c.if-pair-lt-PAIR.true c.put-then-pair-lt-PAIR.ensures

pub spare-requires : goal.spare-requires
spare-requires c = record { max_numbers_in_bounds = spare_asked c.args.index.now c.args.to c.requires.max_numbers_in_bounds.1 c.put.ensures c.requires.max_numbers_in_bounds.0 c.requires.max_numbers_in_bounds.4 c.requires.max_numbers_in_bounds.5; shape = spare_shape c.args.index.now c.args.to c.requires.max_numbers_in_bounds.1 c.put.ensures c.requires.shape }

pub returns : goal.returns
returns c = enter_spare c.args.index.now c.args.count c.args.b c.args.to c.args.block c.args.place c.requires.max_numbers_in_bounds.1 c.put.ensures c.at-pair.ensures c.if-pair-lt-PAIR.false c.spare.ensures
