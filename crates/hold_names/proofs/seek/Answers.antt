-- `hold_names::seek` meets its contract: a law for each way out.
use native.Mathlib.Omega.{arith}
use Rattle.hold_names.proofs.Buckets.{bucket_small}
use Rattle.hold_names.proofs.Seeking.{passed, first_low, second_low, seek_none, seek_same, seek_on}
use Rattle.hold_names.proofs.seek.Goals as goal

pub overflow_add-b : goal.overflow_add-b
overflow_add-b c = omega (arith, c.bucket-b.ensures, bucket_small c.args.path.now)

pub at-pair-requires : goal.at-pair-requires
at-pair-requires c = omega (arith, c.bucket-b.ensures, bucket_small c.args.path.now, c.requires.holds.room)

pub returns-then-first-eq0 : goal.returns-then-first-eq0
returns-then-first-eq0 c = seek_none _ c.requires c.bucket-b.ensures c.at-pair.ensures c.if-first-eq0.true

pub match_entry-m-requires : goal.match_entry-m-requires
match_entry-m-requires c = record { sound_names = c.requires; nonzero = (omega (arith, c.if-first-eq0.false), first_low _ c.requires c.bucket-b.ensures c.at-pair.ensures, omega arith) }

pub returns-then-m : goal.returns-then-m
returns-then-m c = seek_same _ c.requires c.bucket-b.ensures c.at-pair.ensures (omega (arith, c.if-first-eq0.false)) c.match_entry-m.ensures c.if-m.true

pub seek_second-s-requires : goal.seek_second-s-requires
seek_second-s-requires c = record { sound_names = c.requires; second_le_count = (second_low _ c.requires c.bucket-b.ensures c.at-pair.ensures, omega (arith, c.match_entry-m.ensures.made)) }

pub returns : goal.returns
returns c = seek_on _ c.requires c.bucket-b.ensures c.at-pair.ensures (omega (arith, c.if-first-eq0.false)) (passed c.match_entry-m.ensures c.if-m.false) c.seek_second-s.ensures
