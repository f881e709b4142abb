-- How a fault is told, and that it stays a fault in what is cut next.
use Prim.Native.Nat.{ℕ, ◌-◌, ◌<◌}
use mathlib.Core.List.{List}
use mathlib.Core.Path.{◌≡◌}
use lib.ListN.{length}
use Rattle.spec.specs.Forms.{no_form, left_at_dollar, not_yet, Cut, fails, then}
use Rattle.cut_forms.specs.declared.Fault.{Fault}
use Rattle.cut_forms.specs.declared.Fault.TheVariants.{NoForm, BadDollar, NotYet}
use Rattle.cut_forms.specs.Faults.{fault_in, FaultWithin, Fails}

module _ {A : Type 0} {l : List ℕ} {x : Cut A} where
  pub no_form_law : x ≡ fails no_form → Fails l x NoForm
  unfolding FaultWithin fault_in
  no_form_law e = record { within = tt; cut = e }

  pub not_yet_law : x ≡ fails not_yet → Fails l x NotYet
  unfolding FaultWithin fault_in
  not_yet_law e = record { within = tt; cut = e }

  pub bad_dollar_law : {p : ℕ} → p < length l → x ≡ fails (left_at_dollar (length l - p)) → Fails l x (BadDollar p)
  unfolding FaultWithin fault_in
  bad_dollar_law h e = record { within = h; cut = e }

  pub fails_then : {B : Type 0} {f : Fault} (k : A → Cut B) → Fails l x f → Fails l (then x k) f
  unfolding then
  fails_then k e = record { within = e.within; cut = rw e.cut }
