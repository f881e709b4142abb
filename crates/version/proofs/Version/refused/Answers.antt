-- `Version::refused` meets its contract.
use mathlib.Core.Path.{sym, ◌∙◌, ap}
use Rattle.version.specs.Version.{refused_version, too_new}
use Rattle.version.proofs.Version.refused.Goals as goal

pub returns-in-Some : goal.returns-in-Some
unfolding refused_version too_new
returns-in-Some c = c.above.ensures ∙ sym (ap too_new (sym c.read.ensures ∙ c.in-Some.is))

pub returns-in-None : goal.returns-in-None
unfolding refused_version too_new
returns-in-None c = sym (ap too_new (sym c.read.ensures ∙ c.in-None.is))
