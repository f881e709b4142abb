-- `answers::of_reply` meets its contract.
use Rattle.spec.specs.Answers.{plan_says, text_says}
use mathlib.Core.Path.{sym, ap, ◌∙◌}
use Rattle.answers.proofs.of_reply.Goals as goal

pub returns-in-Ok : goal.returns-in-Ok
unfolding plan_says text_says
returns-in-Ok c =
    let e = sym c.in-Ok.is in
    record { plan = c.told.ensures ∙ ap plan_says e; text = c.told.ensures ∙ ap text_says e }

pub returns-in-Err : goal.returns-in-Err
unfolding plan_says text_says
returns-in-Err c =
    let e = sym c.in-Err.is in
    record { plan = c.of_refusal.ensures ∙ ap plan_says e; text = c.of_refusal.ensures ∙ ap text_says e }
