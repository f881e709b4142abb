use Rattle.apply_open.proofs.Finding.{head_room, name_below, names_end, none_begin, none_end, none_here, none_on}
use native.Mathlib.Omega.{arith}
use mathlib.Core.Path.{sym, ◌∙◌}
use Rattle.apply_open.proofs.find_named.Goals as goal

pub word-n-requires : goal.word-n-requires
word-n-requires c = head_room _ c.requires

pub loop-k-init : goal.loop-k-init
loop-k-init c = none_begin _ _

pub record_name-requires : goal.record_name-requires
record_name-requires c = record { laid_bundle = c.requires; k_bound = omega (arith, c.word-n.ensures.is, c.loop-k-test.true) }

pub returns-then-equal : goal.returns-then-equal
returns-then-equal c = none_here c.loop-k.invariant (name_below _ c.word-n.ensures.is c.loop-k-test.true) c.record_name.ensures (sym c.equal.ensures ∙ c.if-equal.true)

pub loop-k-preserved : goal.loop-k-preserved
loop-k-preserved c = none_on c.loop-k.invariant (name_below _ c.word-n.ensures.is c.loop-k-test.true) c.record_name.ensures (sym c.equal.ensures ∙ c.if-equal.false)

pub returns : goal.returns
returns c = none_end c.loop-k.invariant (names_end _ c.word-n.ensures.is c.loop-k-test.false)
