-- `hold_names::seek_sorted` meets its contract: a law for each way out.
use native.Mathlib.Omega.{arith}
use Rattle.hold_names.proofs.Seeking.{leads_picks, block_picks, block_inside, sorted_lead, sorted_on}
use borrow.Author.Rules.{rules}
use Rattle.hold_names.proofs.seek_sorted.Goals as goal

pub at-last-requires : goal.at-last-requires
at-last-requires c = omega (arith, c.requires.sound_names.holds.room)

pub halve-b-requires : goal.halve-b-requires
halve-b-requires c = record { sound_names = c.requires.sound_names; picks_names = leads_picks c.requires.sound_names c.at-last.ensures; n_bound = omega (arith, c.requires.n_bound) }

pub returns-then-b-count : goal.returns-then-b-count
returns-then-b-count c = sorted_lead c.at-last.ensures c.halve-b.ensures c.if-b-count.true

pub overflow_mul-from : goal.overflow_mul-from
overflow_mul-from c = search (rules, block_inside c.requires.sound_names c.at-last.ensures c.halve-b.ensures)

pub overflow_add-from : goal.overflow_add-from
overflow_add-from c = search (rules, block_inside c.requires.sound_names c.at-last.ensures c.halve-b.ensures)

pub overflow_add-from-2 : goal.overflow_add-from-2
overflow_add-from-2 c = search (rules, block_inside c.requires.sound_names c.at-last.ensures c.halve-b.ensures)

pub at-requires : goal.at-requires
at-requires c = omega (arith, block_inside c.requires.sound_names c.at-last.ensures c.halve-b.ensures)

pub halve-h-requires : goal.halve-h-requires
halve-h-requires c = record { sound_names = c.requires.sound_names; picks_names = block_picks c.requires.sound_names (block_inside c.requires.sound_names c.at-last.ensures c.halve-b.ensures).0 c.at.ensures; n_bound = omega (arith, c.halve-b.ensures.few, c.requires.n_bound) }

pub returns : goal.returns
returns c = sorted_on c.at-last.ensures c.halve-b.ensures c.if-b-count.false c.at.ensures c.halve-h.ensures c.requires.sound_names
