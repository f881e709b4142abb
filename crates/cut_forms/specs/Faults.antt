-- What a fault found in a line says of the rules' cut.
use Rattle.std.specs.Prelude.{ℕ, ◌-◌, ◌<◌, List, ◌≡◌, length}
use Rattle.spec.specs.Forms.{Fault as Rules-as-Fault, no_form, left_at_dollar, not_yet, Cut, fails}
use Rattle.cut_forms.specs.declared.Fault.{Fault}
use Rattle.cut_forms.specs.declared.Fault.TheVariants.{NoForm, BadDollar, NotYet}

-- the fault of a line in the rules' words, where a `$` is told by how many bytes are left
unfoldable pub fault_in : List ℕ → Fault → Rules-as-Fault
fault_in l NoForm = no_form
fault_in l (BadDollar p) = left_at_dollar (length l - p)
fault_in l NotYet = not_yet

unfoldable pub FaultWithin : List ℕ → Fault → Type 0
FaultWithin l NoForm = Unit {0}
FaultWithin l (BadDollar p) = p < length l
FaultWithin l NotYet = Unit {0}

-- The cut x of some bytes of the line l fails.
pub record Fails {A : Type 0} (l : List ℕ) (x : Cut A) (f : Fault) : Type 0 where
  pub within : FaultWithin l f
  pub cut : x ≡ fails (fault_in l f)
