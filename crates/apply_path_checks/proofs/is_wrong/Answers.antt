-- `apply_path_checks::is_wrong` meets its contract.
use borrow.Author.Rules.{rules}
use Rattle.apply_path_checks.proofs.Makers.{made_asks, empty_wrong, input_right, output_wrong, default_wrong}
use Rattle.apply_path_checks.proofs.is_wrong.Goals as goal

pub returns-then-n-eq0 : goal.returns-then-n-eq0
returns-then-n-eq0 c = record { space = search rules; promise = empty_wrong c.args.raw.now c.expand-n.ensures c.args.kind c.if-n-eq0.true }

pub is_made-requires : goal.is_made-requires
is_made-requires c = made_asks c.args.raw.now c.expand-n.ensures c.requires

pub is_made-requires-in-Default : goal.is_made-requires-in-Default
is_made-requires-in-Default c = made_asks c.args.raw.now c.expand-n.ensures c.requires

pub returns-in-Input : goal.returns-in-Input
returns-in-Input c = record { space = search rules; promise = input_right c.args.raw.now c.expand-n.ensures c.args.kind c.if-n-eq0.false c.in-Input.is }

pub returns-in-Output : goal.returns-in-Output
returns-in-Output c = record { space = search rules; promise = output_wrong c.args.raw.now c.expand-n.ensures c.args.kind c.if-n-eq0.false c.is_made.ensures c.in-Output.is }

pub returns-in-Default : goal.returns-in-Default
returns-in-Default c = record { space = search rules; promise = default_wrong c.args.raw.now c.expand-n.ensures c.args.kind c.if-n-eq0.false c.is_made-in-Default.ensures c.in-Default.is }
