-- `hold_names::file_name` meets its contract.
use native.Mathlib.Omega.{arith}
use Rattle.hold_names.proofs.Lies.{name_within, names_answer}
use Rattle.hold_names.proofs.file_name.Goals as goal

pub slice_bounds-result-count : goal.slice_bounds-result-count
slice_bounds-result-count c = omega (arith, name_within c.requires.sound_names.holds c.args.k c.requires.k_lt_count)

pub slice_bounds-result-start : goal.slice_bounds-result-start
slice_bounds-result-start c = omega (arith, name_within c.requires.sound_names.holds c.args.k c.requires.k_lt_count)

pub slice_bounds-result-end : goal.slice_bounds-result-end
slice_bounds-result-end c = omega (arith, name_within c.requires.sound_names.holds c.args.k c.requires.k_lt_count)

pub returns : goal.returns
returns c = rw (c.start-from.ensures, c.at-to.ensures) (names_answer c.requires.k_lt_count)
