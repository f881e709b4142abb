-- `scan_depfile::next_prerequisite` meets its contract.
use mathlib.Core.Path.{sym, ◌∙◌}
use Rattle.scan_depfile.specs.Answers.{NextPrerequisite}
use Rattle.scan_depfile.proofs.Listing.{next_name, next_end, next_malformed}
use Rattle.scan_depfile.proofs.next_prerequisite.Goals as goal

pub returns-then-name-ne0 : goal.returns-then-name-ne0
unfolding NextPrerequisite
returns-then-name-ne0 c = next_name c.skip_gaps.ensures c.pass_name-name.ensures c.if-name-ne0.true

pub returns-then-rule_ends : goal.returns-then-rule_ends
unfolding NextPrerequisite
returns-then-rule_ends c = next_end c.skip_gaps.ensures c.pass_name-name.ensures c.if-name-ne0.false (sym c.rule_ends.ensures ∙ c.if-rule_ends.true)

pub returns : goal.returns
unfolding NextPrerequisite
returns c = next_malformed c.skip_gaps.ensures c.pass_name-name.ensures c.if-name-ne0.false (sym c.rule_ends.ensures ∙ c.if-rule_ends.false)
