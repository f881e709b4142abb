-- `scan_depfile::mark_at` meets its contract.
use native.Mathlib.Omega.{arith}
use Rattle.scan_depfile.specs.Answers.{MarkAt}
use Rattle.scan_depfile.proofs.Places.{space_here, newline_here, byte_here}
use Rattle.scan_depfile.proofs.mark_at.Goals as goal

pub returns-then-b-gt92 : goal.returns-then-b-gt92
unfolding MarkAt
returns-then-b-gt92 c = byte_here c.args.s.now c.args.i c.requires (λ e. omega (arith, c.if-b-gt92.true)) (λ e. omega (arith, c.if-b-gt92.true)) (λ e. omega (arith, c.if-b-gt92.true)) (λ e. omega (arith, c.if-b-gt92.true))

pub returns-then-b-eq32 : goal.returns-then-b-eq32
unfolding MarkAt
returns-then-b-eq32 c = space_here c.args.s.now c.args.i c.requires c.if-b-eq32.true

pub returns-then-b-eq10 : goal.returns-then-b-eq10
unfolding MarkAt
returns-then-b-eq10 c = newline_here c.args.s.now c.args.i c.requires c.if-b-eq10.true

pub returns : goal.returns
unfolding MarkAt
returns c = byte_here c.args.s.now c.args.i c.requires c.if-b-eq92.false c.if-b-eq36.false c.if-b-eq32.false c.if-b-eq10.false
