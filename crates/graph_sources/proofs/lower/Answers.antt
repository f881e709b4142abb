-- `graph_sources::lower` meets its contract.
use mathlib.Core.Path.{sym, ◌∙◌}
use Rattle.graph_sources.proofs.Absent.{lower_kept, lower_found}
use Rattle.graph_sources.proofs.lower.Goals as goal

pub returns-then-low-f : goal.returns-then-low-f
returns-then-low-f c = lower_kept (λ a. c.if-low-f.true)

pub returns-then-at-ne0 : goal.returns-then-at-ne0
returns-then-at-ne0 c = lower_kept (λ a. absurd (c.if-at-ne0.true (c.at.ensures ∙ a.1)))

pub returns-then-time-ne0 : goal.returns-then-time-ne0
returns-then-time-ne0 c = lower_kept (λ a. absurd (c.if-time-ne0.true (c.time.ensures ∙ a.0)))

pub returns : goal.returns
returns c = lower_found c.if-low-f.false (sym c.time.ensures ∙ c.if-time-ne0.false, sym c.at.ensures ∙ c.if-at-ne0.false)
