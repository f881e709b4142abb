-- Is anything called `depfile`: then steps may have header lists (document 02, [4]), and otherwise none has.
use Rattle.std.specs.Prelude.{Bool, List}
use Rattle.lists.specs.Bytes.{eq_bytes}
use Rattle.lists.specs.Members.{any}
use Rattle.spec.specs.declared.Key.TheVariants.{Depfile as depfile_key}
use Rattle.spec.specs.Text.{key_name}
use Rattle.hold_bindings.specs.Log.{Logged}

unfoldable pub is_depfile : Logged → Bool
unfolding eq_bytes key_name
is_depfile e = eq_bytes (key_name depfile_key) e.name

-- among all entries, whosever they are
unfoldable pub depfile_bound : List Logged → Bool
unfolding any is_depfile
depfile_bound log = any is_depfile log
