-- `apply_path_checks::is_output` meets its contract.
use native.Mathlib.Omega.{arith}
use Rattle.apply_path_checks.proofs.Makers.{entry_low, entry_within, found_made, missing_unmade}
use Rattle.apply_path_checks.proofs.is_output.Goals as goal

pub overflow_add-k : goal.overflow_add-k
overflow_add-k c = let p = c.requires in record { fits = omega (arith, entry_low p.filed c.find_name.ensures c.in-Some.is) }

pub at-requires : goal.at-requires
at-requires c = let p = c.requires in entry_within p.filed c.find_name.ensures c.in-Some.is

pub returns-in-Some : goal.returns-in-Some
returns-in-Some c = λ log rd h. found_made h c.find_name.ensures c.in-Some.is c.at.ensures

pub returns-in-None : goal.returns-in-None
returns-in-None c = λ log rd h. missing_unmade h c.find_name.ensures c.in-None.is
