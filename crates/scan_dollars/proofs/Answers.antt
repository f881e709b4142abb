-- What an answer says, once its case is known.
use Rattle.std.specs.Prelude.{Option, Some, None}
use Prim.Native.Nat.{ℕ}
use mathlib.Core.List.{List}
use mathlib.Core.Option.{none}
use mathlib.Core.Path.{◌≡◌}
use lib.ListN.{drop}
use Rattle.scan_dollars.specs.declared.Escape.{Escape}
use Rattle.scan_dollars.specs.declared.Escape.TheVariants.{Byte, Join, Name, Bad}
use Rattle.spec.specs.Dollars.{Element, literal, joins, wrong, element}
use Rattle.scan_dollars.specs.Element.{rest_of, FoundElement, DollarName, TellsElement, DollarPassed, PastAt}

-- ---- `dollar`

module _ (s : List ℕ) (at : ℕ) (x : Element) (r : Escape) (t : TellsElement s at x r) where
  pub tells_byte : {b n : ℕ} → r ≡ Byte b n → FoundElement s at n x (literal b (drop n s))
  unfolding TellsElement
  tells_byte e = rw e at t

  pub tells_join : {n : ℕ} → r ≡ Join n → FoundElement s at n x (joins (drop n s))
  unfolding TellsElement
  tells_join e = rw e at t

  pub tells_name : {a b n : ℕ} → r ≡ Name a b n → DollarName s at a b n x
  unfolding TellsElement
  tells_name e = rw e at t

  pub tells_bad : r ≡ Bad → x ≡ wrong
  unfolding TellsElement
  tells_bad e = rw e at t

-- ---- `past`

module _ (s : List ℕ) (at : ℕ) (r : Option ℕ) (p : PastAt s at r) where
  pub past_to : {n : ℕ} → r ≡ Some n → DollarPassed s at n
  unfolding PastAt
  past_to e = rw e at p

  pub past_bad : r ≡ None → rest_of (element (drop at s)) ≡ none
  unfolding PastAt
  past_bad e = rw e at p
