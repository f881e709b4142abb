-- `hold_rules::has_line` meets its contract.
use Rattle.std.specs.Prelude.{ℕ, Option, Some, None, is_some}
use mathlib.Core.Path.{◌≡◌, refl, ◌∙◌, ap}
use Rattle.hold_bindings.specs.Log.{is_at}
use Rattle.hold_rules.proofs.has_line.Goals as goal

found : (o : Option ℕ) → is_some o ≡ is_at o
unfolding is_at
found (Some k) = refl
found None = refl

pub returns : goal.returns
returns c = λ log h. c.is_some.ensures ∙ found _ ∙ ap is_at (c.newest.ensures log h)
