-- `graph_stale::judge` meets its contract.
use native.Mathlib.Omega.{arith}
use Rattle.std.proofs.lemmas.Grind.{common_steps}
use Rattle.hold_columns.proofs.Held.{non_order_only_low, outs_low}
use Rattle.graph_stale.proofs.Judging.{judge_maker, judge_phony, judge_command}
use Rattle.graph_stale.proofs.judge.Goals as goal

pub non_order_only-fs-requires : goal.non_order_only-fs-requires
non_order_only-fs-requires c = c.requires.0.sound.placed c.args.s c.requires.1

pub newest-t-requires : goal.newest-t-requires
newest-t-requires c = record {
  files = record { low = non_order_only_low c.requires.0.sound.low _ _ c.non_order_only-fs.ensures; makers = c.requires.0.sound.makers };
  timed = c.requires.0.timed;
  late_long = c.requires.0.late_long;
}

pub stale_maker-requires : goal.stale_maker-requires
stale_maker-requires c = rw c.requires.0.stale_long (record { low = non_order_only_low c.requires.0.sound.low _ _ c.non_order_only-fs.ensures; makers = c.requires.0.sound.makers })

pub returns-then-stale_maker : goal.returns-then-stale_maker
returns-then-stale_maker c = λ steps files h. judge_maker h _ _ _ _ c.non_order_only-fs.ensures c.newest-t.ensures c.stale_maker.ensures c.if-stale_maker.true

pub bare_missing-requires : goal.bare_missing-requires
bare_missing-requires c = (c.requires.0.sound.placed c.args.s c.requires.1, λ f h. rw c.requires.0.timed (c.requires.0.sound.low f h))

pub returns-then-at-eq1 : goal.returns-then-at-eq1
returns-then-at-eq1 c = λ steps files h. judge_phony h _ _ _ _ c.non_order_only-fs.ensures c.newest-t.ensures c.stale_maker.ensures c.if-stale_maker.false c.at.ensures c.if-at-eq1.true c.bare_missing.ensures (grind (arith, common_steps))

pub outs-requires : goal.outs-requires
outs-requires c = c.requires.0.sound.placed c.args.s c.requires.1

pub is_outdated-requires : goal.is_outdated-requires
is_outdated-requires c = outs_low (λ f h. rw c.requires.0.timed (c.requires.0.sound.low f h)) _ _ c.outs.ensures

pub returns : goal.returns
returns c = λ steps files h. judge_command h _ _ _ _ c.non_order_only-fs.ensures c.newest-t.ensures c.stale_maker.ensures c.if-stale_maker.false c.at.ensures c.if-at-eq1.false c.outs.ensures c.is_outdated.ensures (grind (arith, common_steps))
