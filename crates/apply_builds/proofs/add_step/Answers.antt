-- `apply_builds::add_step` meets its contract.
use borrow.Author.Rules.{rules}
use Rattle.apply_builds.proofs.Lines.{line_unknown, line_bad, line_written, step_asks}
use Rattle.apply_builds.proofs.add_step.Goals as goal

pub returns-then-not-is_declared : goal.returns-then-not-is_declared
returns-then-not-is_declared c = record { space = search rules; promise = λ b w. line_unknown c.args.s.start c.is_declared.ensures (c.if-not-is_declared.true) w }

pub returns-then-bad_paths : goal.returns-then-bad_paths
returns-then-bad_paths c = record { space = search rules; promise = λ b w. line_bad c.args.s.start c.is_declared.ensures (c.if-not-is_declared.false) c.bad_paths.ensures.promise c.if-bad_paths.true w }

pub write_step-requires : goal.write_step-requires
write_step-requires c = step_asks c.requires c.bad_paths.ensures.promise.kept (search rules)

pub returns : goal.returns
returns c = record { space = search rules; promise = λ b w. line_written c.args.s.start c.is_declared.ensures (c.if-not-is_declared.false) c.bad_paths.ensures.promise c.if-bad_paths.false c.write_step.ensures.promise w }
