-- `hold_names::seek_second` meets its contract: a law for each way out.
use native.Mathlib.Omega.{arith}
use Rattle.hold_names.proofs.Seeking.{passed, second_none, second_same, second_on}
use Rattle.hold_names.proofs.seek_second.Goals as goal

pub returns-then-second-eq0 : goal.returns-then-second-eq0
returns-then-second-eq0 c = second_none c.if-second-eq0.true

pub match_entry-m-requires : goal.match_entry-m-requires
match_entry-m-requires c = record { sound_names = c.requires.sound_names; nonzero = (omega (arith, c.if-second-eq0.false), c.requires.second_le_count.0, omega (arith, c.requires.second_le_count.1)) }

pub returns-then-m : goal.returns-then-m
returns-then-m c = second_same (omega (arith, c.if-second-eq0.false)) c.requires.second_le_count.0 c.match_entry-m.ensures c.if-m.true

pub seek_sorted-requires : goal.seek_sorted-requires
seek_sorted-requires c = record { sound_names = c.requires.sound_names; n_bound = omega (arith, c.requires.second_le_count.1, c.match_entry-m.ensures.made) }

pub returns : goal.returns
returns c = second_on (omega (arith, c.if-second-eq0.false)) c.requires.second_le_count.0 (passed c.match_entry-m.ensures c.if-m.false) c.seek_sorted.ensures
