-- `test_manifest::in_numbers` meets its contract.
use Rattle.test_manifest.specs.Numbers.{in_numbers}
use Rattle.test_manifest.proofs.Judging.{counted, refused_so}
use Rattle.test_manifest.proofs.in_numbers.Goals as goal

pub of_refusal-requires : goal.of_refusal-requires
of_refusal-requires c = tt

pub locate-requires : goal.locate-requires
locate-requires c = tt

pub uncounted-requires : goal.uncounted-requires
uncounted-requires c = tt

pub returns-in-Ok : goal.returns-in-Ok
unfolding in_numbers
returns-in-Ok c = counted c.args.bundle.now c.in-Ok.is

pub returns-in-Err : goal.returns-in-Err
returns-in-Err c =
    refused_so c.args.bundle.now _ _ c.in-Err.is
    c.of_refusal.ensures c.locate.ensures c.uncounted.ensures
