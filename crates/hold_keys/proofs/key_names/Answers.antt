-- `hold_keys::key_names` meets its contract.
use mathlib.Core.Path.{refl}
use Rattle.spec.specs.Basics.{concat}
use Rattle.spec.specs.Text.{key_name, key_names}
use Rattle.hold_keys.specs.Names.{names_joined}
use Rattle.hold_keys.proofs.key_names.Goals as goal

pub returns : goal.returns
unfolding names_joined concat key_names key_name
returns c = refl
