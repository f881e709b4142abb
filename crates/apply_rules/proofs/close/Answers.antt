-- `apply_rules::close` meets its contract.
use mathlib.Core.Logic.{inl, inr}
use mathlib.Core.Path.{subst}
use Rattle.hold_reading.specs.Binds.{SoundBlock}
use Rattle.hold_reading.specs.declared.Open.{Open}
use Rattle.apply_rules.proofs.Outcomes.{of_rule_law, closed_none, closed_step, closed_rule, closed_bare}
use Rattle.apply_rules.proofs.close.Goals as goal

pub has_command-requires : goal.has_command-requires
has_command-requires c =
    let a = c.args in
    of_rule_law (subst (λ (o : Open). SoundBlock a.texts.now a.bind.now a.c o) c.in-Rule.is c.requires)

pub returns-in-Nothing : goal.returns-in-Nothing
returns-in-Nothing c = elim c.in-Nothing.is [ inl e ↦ rw e closed_none | inr e ↦ rw e closed_step ]

pub returns-then-has_command : goal.returns-then-has_command
returns-then-has_command c = rw c.in-Rule.is (closed_rule c.in-Rule.head c.in-Rule.entry c.has_command.ensures c.if-has_command.true)

pub returns-else-has_command : goal.returns-else-has_command
returns-else-has_command c = rw c.in-Rule.is (closed_bare c.in-Rule.head c.in-Rule.entry c.has_command.ensures c.if-has_command.false)
