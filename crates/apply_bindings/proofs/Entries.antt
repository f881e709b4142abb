-- The limits of a line that binds are those of the rules where a reading is held, and a line within them has room for its entry.
use Prim.Native.Nat.{ℕ, ◌+◌, ◌≤◌}
use mathlib.Core.Bool.{false, ◌||◌, or-false}
use mathlib.Core.List.{List}
use mathlib.Core.Path.{◌≡◌}
use native.Mathlib.Omega.{arith}
use borrow.Author.Tests.{le-ltb, ltb-false}
use lib.Dec.{ltb}
use lib.ListN.{length}
use Rattle.lists.specs.Tests.{or_left, or_right}
use Rattle.spec.specs.Limits.{max_files, max_name, max_bindings, max_mentions, max_value, max_written}
use Rattle.spec.specs.Reading.{Reading}
use Rattle.spec.specs.Statements.{count_binding, longer_than, over_counts, over_binding}
use Rattle.hold_bindings.specs.Log.{Logged, of_marks}
use Rattle.hold_bindings.specs.Held.{max_owner, EntryRoom, HasRoom}
use Rattle.hold_reading.specs.declared.Counts.{Counts}
use Rattle.hold_reading.specs.Held.{HoldsBound}
use Rattle.hold_reading.proofs.Grow.{bound_room}
use Rattle.apply_bindings.specs.Limits.{binding_over, EntryFits, EntryReady}

pub fits_room : {log : List Logged} {texts bind : List ℕ} {c : Counts} {rd : Reading} {e : Logged} → HoldsBound log texts bind c rd → EntryFits c e → EntryRoom log texts bind c.entries e
fits_room {e = e} b f = bound_room b e (omega (arith, b.entries_counted, b.few_rules, b.few_opened, f.few)) f.low f.owner f.binds f.name

pub ready_room : {texts bind : List ℕ} {c : Counts} {e : Logged} → EntryReady texts bind c e → HasRoom texts bind c.entries e
ready_room r = record { log = r.log; room = fits_room r.bound r.fits }

-- The test by the counts is the rules' test.
pub over_counted : {log : List Logged} {texts bind : List ℕ} {c : Counts} {rd : Reading} → HoldsBound log texts bind c rd → length rd.files ≤ max_files → rd.mentions ≤ max_mentions
    → (n v : List ℕ) → over_binding n v (count_binding (length v) rd) ≡ binding_over (length n) (length v) c
unfolding over_binding longer_than over_counts count_binding binding_over
over_counted {rd = rd} b f m n v =
    rw (le-ltb max_files (length rd.files) f, le-ltb max_mentions rd.mentions m, b.bindings_counted, b.written_counted, or-false (ltb max_bindings (rd.bindings + 1)))

-- A line that is within them has room.
pub within : (n v : List ℕ) (o : ℕ) {c : Counts} → binding_over (length n) (length v) c ≡ false → o ≤ max_owner → (o ≡ of_marks → ⊥) → EntryFits c (record { owner = o; name = n; value = v })
unfolding binding_over
within n v o {c} h p m =
    let a = ltb max_name (length n) in
    let b = ltb max_value (length v) in
    let d = ltb max_bindings (c.bindings + 1) in
    let e = ltb max_written (c.written + length v) in
    let l : a || b ≡ false = or_left (a || b) (d || e) h in
    let r : d || e ≡ false = or_right (a || b) (d || e) h in
    record {
      name = ltb-false max_name (length n) (or_left a b l);
      few = omega (arith, ltb-false max_bindings (c.bindings + 1) (or_left d e r));
      low = ltb-false max_written (c.written + length v) (or_right d e r);
      owner = p;
      binds = m;
    }

pub value_short : (n v : ℕ) (c : Counts) → binding_over n v c ≡ false → v ≤ max_value
unfolding binding_over
value_short n v c h =
    let a = ltb max_name n in
    let b = ltb max_value v in
    let r = ltb max_bindings (c.bindings + 1) || ltb max_written (c.written + v) in
    ltb-false max_value v (or_right a b (or_left (a || b) r h))
