-- `test_scan::bundles::kestrenyo_bundle_count` meets its contract.
use native.Mathlib.Omega.{arith}
use Rattle.test_scan.proofs.Bundling.{count_over, sound_small, count_sound, count_malformed}
use Rattle.test_scan.proofs.bundles.kestrenyo_bundle_count.Goals as goal

pub returns-then-most-gt512 : goal.returns-then-most-gt512
returns-then-most-gt512 c = count_over _ _ _ c.if-most-gt512.true

pub overflow_add-result : goal.overflow_add-result
overflow_add-result c = omega (arith, sound_small c.index.ensures c.if-most-gt512.false c.in-Some.is)

pub returns-in-None : goal.returns-in-None
returns-in-None c = count_malformed c.index.ensures c.if-most-gt512.false c.in-None.is

pub returns-in-Some : goal.returns-in-Some
returns-in-Some c = count_sound c.index.ensures c.if-most-gt512.false c.in-Some.is
