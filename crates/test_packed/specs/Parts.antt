-- The parts of a case in the packed file.
use Rattle.std.specs.Prelude.{ℕ, ◌≤◌}
use Rattle.test_packed.specs.declared.CaseHead.{CaseHead as Ends}

-- the parts lie one behind another, in the first n bytes
pub record PartsBehind (h : Ends) (n : ℕ) : Type 0 where
  pub bundle_behind : h.name ≤ h.bundle
  pub headers_behind : h.bundle ≤ h.headers
  pub card_behind : h.headers ≤ h.card
  pub targets_behind : h.card ≤ h.targets
  pub within : h.targets ≤ n
