-- `graph_stale::judge_all` meets its contract.
use mathlib.Core.Path.{refl}
use Prim.Native.Nat.{◌≤◌, ◌<◌}
use native.Mathlib.Omega.{arith}
use lib.ListN.{length, get_or}
use Rattle.spec.specs.Limits.{max_steps}
use Rattle.graph_stale.proofs.Along.{tell_begin, tell_more, tell_end, ask_judge}
use Rattle.graph_stale.proofs.judge_all.Goals as goal

pub loop-step-init : goal.loop-step-init
loop-step-init c = tell_begin c.requires

pub judge-v-requires : goal.judge-v-requires
judge-v-requires c = (ask_judge c.requires c.loop-step.invariant, c.requires.steps c.loop-step.step-index c.loop-step-test.true)

pub offset_bounds-stale-s : goal.offset_bounds-stale-s
offset_bounds-stale-s c = let step : (get_or c.args.order.now c.loop-step.step-index 0 < length c.args.g.now.phony.now) × (length c.args.g.now.phony.now ≤ max_steps) = (c.requires.steps c.loop-step.step-index c.loop-step-test.true, c.requires.asked.sound.few_steps) in
    omega (arith, step)

pub bounds-stale-s : goal.bounds-stale-s
bounds-stale-s c = let step : (get_or c.args.order.now c.loop-step.step-index 0 < length c.args.g.now.phony.now) × (length c.args.g.now.phony.now ≤ max_steps) = (c.requires.steps c.loop-step.step-index c.loop-step-test.true, c.requires.asked.sound.few_steps) in
    omega (arith, step)

pub offset_bounds-late-s : goal.offset_bounds-late-s
offset_bounds-late-s c = let step : (get_or c.args.order.now c.loop-step.step-index 0 < length c.args.g.now.phony.now) × (length c.args.g.now.phony.now ≤ max_steps) = (c.requires.steps c.loop-step.step-index c.loop-step-test.true, c.requires.asked.sound.few_steps) in
    omega (arith, step)

pub bounds-late-s : goal.bounds-late-s
bounds-late-s c = let step : (get_or c.args.order.now c.loop-step.step-index 0 < length c.args.g.now.phony.now) × (length c.args.g.now.phony.now ≤ max_steps) = (c.requires.steps c.loop-step.step-index c.loop-step-test.true, c.requires.asked.sound.few_steps) in
    omega (arith, step)

pub loop-step-preserved : goal.loop-step-preserved
loop-step-preserved c = let step : (get_or c.args.order.now c.loop-step.step-index 0 < length c.args.g.now.phony.now) × (length c.args.g.now.phony.now ≤ max_steps) = (c.requires.steps c.loop-step.step-index c.loop-step-test.true, c.requires.asked.sound.few_steps) in
    tell_more c.loop-step.invariant c.loop-step-test.true refl (step).0 c.judge-v.ensures

pub shape_of-stale : goal.shape_of-stale
shape_of-stale c = omega (arith, c.loop-step.invariant.stale_long, c.requires.asked.stale_long)

pub shape_of-late : goal.shape_of-late
shape_of-late c = omega (arith, c.loop-step.invariant.late_long, c.requires.asked.late_long)

pub returns : goal.returns
returns c = tell_end c.loop-step.invariant c.loop-step-test.false
