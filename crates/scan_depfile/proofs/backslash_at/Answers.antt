-- `scan_depfile::backslash_at` meets its contract.
use Rattle.scan_depfile.specs.Answers.{MarkAt}
use Rattle.scan_depfile.proofs.Places.{last_backslash, joined_here, escaped_space, escaped_hash, backslash_here}
use Rattle.scan_depfile.proofs.backslash_at.Goals.{then-c-eq32-via-then-c-eq32, then-c-eq32-via-else-c-eq32+then-c-eq35}
use Rattle.scan_depfile.proofs.backslash_at.Goals as goal

pub returns-then-s-next : goal.returns-then-s-next
unfolding MarkAt
returns-then-s-next c = last_backslash c.args.s.now c.args.i c.requires.0 c.if-s-next.true c.requires.1

pub returns-then-c-eq10 : goal.returns-then-c-eq10
unfolding MarkAt
returns-then-c-eq10 c = joined_here c.args.s.now c.args.i c.requires.0 c.if-s-next.false c.requires.1 c.if-c-eq10.true

pub returns-then-c-eq32 : goal.returns-then-c-eq32
unfolding MarkAt
returns-then-c-eq32 c =
    elim c.then-c-eq32.branch [
      | then-c-eq32-via-then-c-eq32 w ↦ escaped_space c.args.s.now c.args.i c.requires.0 c.if-s-next.false c.requires.1 w.if-c-eq32.true
      | then-c-eq32-via-else-c-eq32+then-c-eq35 w ↦ escaped_hash c.args.s.now c.args.i c.requires.0 c.if-s-next.false c.requires.1 w.if-c-eq35.true
    ]

pub returns : goal.returns
unfolding MarkAt
returns c = backslash_here c.args.s.now c.args.i c.requires.0 c.if-s-next.false c.requires.1 c.if-c-eq10.false c.if-c-eq32.false c.if-c-eq35.false
