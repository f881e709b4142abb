-- An expansion in the reading's own words; how long a run is.
use Prim.Native.Nat.{ℕ, ◌-◌}
use mathlib.Core.Bool.{true, false}
use mathlib.Core.List.{List, []}
use mathlib.Core.Path.{◌≡◌, refl}
use lib.ListN.{length}
use Rattle.lists.specs.Tests.{split}
use Rattle.lists.specs.Parts.{length_part}
use Rattle.spec.specs.Dollars.{expand}
use Rattle.spec.specs.Reading.{Variables, file_var}
use Rattle.hold_bindings.specs.Log.{Logged, variables_of}
use Rattle.expand_parts.specs.declared.Run.{Run}
use Rattle.expand_parts.specs.Runs.{expanded_by, bytes_of, RunPlaced}

pub expanded_vars : (log : List Logged) (vars : Variables) (raw : List ℕ) → vars ≡ variables_of log → expand (file_var vars) raw ≡ expanded_by log raw
unfolding expanded_by
expanded_vars log vars raw e = rw e

pub length_bytes : {raw texts : List ℕ} {r : Run} → RunPlaced raw texts r → length (bytes_of raw texts r) ≡ r.to - r.from
unfolding bytes_of
length_bytes {raw} {texts} {r} p =
    split r.bound
    (λ (e : r.bound ≡ true). rw e (length_part texts r.from r.to (p.in_texts e)))
    (λ (e : r.bound ≡ false). rw e (length_part raw r.from r.to (p.in_raw e)))

pub expanded_none : (log : List Logged) → expanded_by log [] ≡ []
unfolding expanded_by
expanded_none log = refl
