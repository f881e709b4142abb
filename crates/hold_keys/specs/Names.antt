-- The names of a rule's keys, one behind another.
use Rattle.std.specs.Prelude.{ℕ, List}
use Rattle.spec.specs.Basics.{concat}
use Rattle.spec.specs.Text.{key_names}

unfoldable pub names_joined : List ℕ
unfolding concat key_names
names_joined = concat key_names
