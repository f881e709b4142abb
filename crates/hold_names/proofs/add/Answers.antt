-- `hold_names::add` meets its contract: a law for each way out.
use mathlib.Core.Path.{refl}
use native.Mathlib.Omega.{arith}
use Rattle.hold_names.proofs.Buckets.{bucket_small}
use Rattle.hold_names.proofs.Lies.{used_held}
use Rattle.hold_names.proofs.Steps.{sought_at, sought_none, add_old, full_files, full_bytes, add_new}
use Rattle.hold_names.proofs.add.Goals as goal

pub seek-s-requires : goal.seek-s-requires
seek-s-requires c = c.requires

pub returns-then-s-count : goal.returns-then-s-count
returns-then-s-count c = add_old (sought_at c.seek-s.ensures c.if-s-count.true) refl

pub returns-then-count-ge-FILES : goal.returns-then-count-ge-FILES
returns-then-count-ge-FILES c = full_files (sought_none c.seek-s.ensures c.if-s-count.false) refl c.if-count-ge-FILES.true

pub overflow_sub-names : goal.overflow_sub-names
overflow_sub-names c = omega (arith, used_held c.requires.holds, c.requires.holds.within, c.start-from.ensures)

pub returns-then-names-from : goal.returns-then-names-from
returns-then-names-from c = full_bytes (sought_none c.seek-s.ensures c.if-s-count.false) refl (omega (arith, c.if-count-ge-FILES.false)) c.start-from.ensures c.if-names-from.true

pub copy_at-requires : goal.copy_at-requires
copy_at-requires c = omega (arith, used_held c.requires.holds, c.requires.holds.within, c.start-from.ensures, c.if-names-from.false)

pub enter-requires : goal.enter-requires
enter-requires c = record { max_numbers_in_bounds = (c.requires.holds.room, omega (arith, c.if-count-ge-FILES.false), omega (arith, c.seek-s.ensures.home, bucket_small c.args.path.now), omega (arith, used_held c.requires.holds, c.requires.holds.within, c.requires.holds.small, c.start-from.ensures, c.if-names-from.false), c.seek-s.ensures.block, c.seek-s.ensures.within); shape = c.requires.holds.search.shape }

pub returns : goal.returns
returns c = rw c.copy_at.ensures (add_new c.seek-s.ensures (sought_none c.seek-s.ensures c.if-s-count.false) (omega (arith, c.if-count-ge-FILES.false)) c.start-from.ensures c.if-names-from.false c.enter.ensures c.enter.auto.index)
