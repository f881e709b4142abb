-- `graph_list::look` meets its contract.
use native.Mathlib.Omega.{arith}
use mathlib.Core.Path.{ap, ◌∙◌}
use Rattle.hold_columns.proofs.Held.{inputs_low}
use Rattle.graph_list.specs.Listing.{all_clear}
use Rattle.graph_list.proofs.Looks.{look_clear, look_blocked, look_free, look_lower, look_higher}
use Rattle.graph_list.proofs.look.Goals as goal

pub returns-then-at-eq1 : goal.returns-then-at-eq1
returns-then-at-eq1 c = look_clear c.at.ensures c.if-at-eq1.true

pub inputs-requires : goal.inputs-requires
inputs-requires c = c.requires.sound.placed c.args.s c.requires.low

pub all_clear-requires : goal.all_clear-requires
all_clear-requires c = rw c.requires.long (record { low = inputs_low c.requires.sound.low _ _ c.inputs.ensures; makers = c.requires.sound.makers })

pub returns-then-not-all_clear : goal.returns-then-not-all_clear
returns-then-not-all_clear c = look_blocked (c.all_clear.ensures ∙ ap (all_clear _ _) c.inputs.ensures) (c.if-not-all_clear.true)

pub returns-then-at-ne1 : goal.returns-then-at-ne1
returns-then-at-ne1 c = look_free (c.all_clear.ensures ∙ ap (all_clear _ _) c.inputs.ensures) (c.if-not-all_clear.false) c.at-2.ensures c.if-at-ne1.true (omega (arith, c.requires.low, c.requires.long))

pub returns-then-s-best : goal.returns-then-s-best
returns-then-s-best c = look_lower (c.all_clear.ensures ∙ ap (all_clear _ _) c.inputs.ensures) (c.if-not-all_clear.false) c.at-2.ensures c.if-at-ne1.false c.if-s-best.true

pub returns : goal.returns
returns c = look_higher (c.all_clear.ensures ∙ ap (all_clear _ _) c.inputs.ensures) (c.if-not-all_clear.false) c.at-2.ensures c.if-at-ne1.false c.if-s-best.false
