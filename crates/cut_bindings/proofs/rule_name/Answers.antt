-- `cut_bindings::rule_name` meets its contract.
use mathlib.Core.Path.{◌∙◌, ap}
use Rattle.spec.specs.Forms.{rule_word}
use Rattle.scan_keywords.proofs.Answers.{word_name, word_no_form, word_not_yet}
use Rattle.scan_tokens.proofs.Names.{part_name}
use Rattle.cut_forms.specs.Statements.{NamedAt}
use Rattle.cut_forms.proofs.Faults.{no_form_law, not_yet_law}
use Rattle.cut_bindings.proofs.rule_name.Goals as goal

pub returns-in-Name : goal.returns-in-Name
unfolding NamedAt
returns-in-Name c =
    record {
      reads = c.name_end-to.ensures;
      cut = word_name _ _ (c.rule_word.ensures ∙ ap rule_word (part_name c.name_end-to.ensures)) c.in-Name.is;
    }

pub returns-in-NoForm : goal.returns-in-NoForm
unfolding NamedAt
returns-in-NoForm c = no_form_law (word_no_form _ _ (c.rule_word.ensures ∙ ap rule_word (part_name c.name_end-to.ensures)) c.in-NoForm.is)

pub returns-in-NotYet : goal.returns-in-NotYet
unfolding NamedAt
returns-in-NotYet c = not_yet_law (word_not_yet _ _ (c.rule_word.ensures ∙ ap rule_word (part_name c.name_end-to.ensures)) c.in-NotYet.is)
