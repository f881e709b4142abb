-- `hold_keys::key_name` meets its contract.
use mathlib.Core.Path.{◌≡◌}
use native.Mathlib.Omega.{arith}
use Rattle.spec.specs.Basics.{concat}
use Rattle.spec.specs.Text.{key_name, key_names}
use Rattle.hold_keys.specs.Names.{names_joined}
use Rattle.hold_keys.proofs.key_name.Goals as goal

pub returns-in-0 : goal.returns-in-0
unfolding names_joined concat key_names key_name
returns-in-0 c = rw (c.requires.0, c.in-0.is)

pub returns-in-1 : goal.returns-in-1
unfolding names_joined concat key_names key_name
returns-in-1 c = rw (c.requires.0, c.in-1.is)

pub returns-in-2 : goal.returns-in-2
unfolding names_joined concat key_names key_name
returns-in-2 c = rw (c.requires.0, c.in-2.is)

pub returns-in-3 : goal.returns-in-3
unfolding names_joined concat key_names key_name
returns-in-3 c = rw (c.requires.0, c.in-3.is)

pub returns-in_default : goal.returns-in_default
unfolding names_joined concat key_names key_name
returns-in_default c = let z : c.args.k ≡ 4 = omega (arith, c.requires.1) in rw (c.requires.0, z)
