-- How deep a name's text goes into a rule's texts. The law in proofs/Circles.antt ties it to 16: a text leads back
-- exactly where it goes `deep` rule texts deep.
use Rattle.std.specs.Prelude.{ℕ, zero, suc, List, Bool, true, false, ◌≡◌, get_or}
use Rattle.lists.specs.Members.{any}
use Rattle.spec.specs.Dollars.{refs}
use Rattle.spec.specs.Reading.{Step, Reading}
use Rattle.spec.specs.Text.{key_number, on_found, lookup_by, lookup}
use Rattle.scan_classes.specs.Table.{classes}
use Rattle.hold_bindings.specs.Log.{Logged}
use Rattle.text_lookup.specs.declared.Asked.{Asked}
use Rattle.text_lookup.specs.Scope.{StepScope, InScope}

-- the name stands for a rule's text, and that text refers to a name of p
unfoldable pub leads_to : Reading → Step → (List ℕ → Bool) → List ℕ → Bool
unfolding lookup_by any refs
leads_to rd s p n = on_found (lookup rd s n) (λ v. false) (λ raw. any p (refs raw))

-- the text of a name goes k rule texts deep, by references from one to the next
unfoldable pub goes_deep : Reading → Step → ℕ → List ℕ → Bool
unfolding leads_to
goes_deep rd s zero n = true
goes_deep rd s (suc k) n = leads_to rd s (goes_deep rd s k) n

-- the mark of a name: a rule's key has its own, by number, and all other names the one behind them
unfoldable pub marks : List Bool → List ℕ → Bool
unfolding key_number
marks d n = get_or d (key_number n) false

pub record RecursionAsks (t texts bind : List ℕ) (a : Asked) : Type 0 where
  pub table : t ≡ classes
  pub within : InScope texts bind a

-- Marks of the names that lead to names marked by d.
pub record Deeper (texts bind : List ℕ) (a : Asked) (d r : List Bool) : Type 0 where
  pub marked : (log : List Logged) (rd : Reading) (s : Step) → StepScope texts bind a log rd s → (n : List ℕ) → leads_to rd s (marks d) n ≡ marks r n
