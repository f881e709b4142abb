-- `Version::above` meets its contract.
use Rattle.std.proofs.Common.{arith}
use Rattle.std.proofs.lemmas.Grind.{common_steps}
use Rattle.std.proofs.lemmas.Bool.Decides.{nat_tests}
use Rattle.version.specs.Version.{above}
use Rattle.version.proofs.Version.above.Goals as goal

pub returns : goal.returns
unfolding above
returns c = grind (arith, common_steps, nat_tests, c.gt.ensures)
