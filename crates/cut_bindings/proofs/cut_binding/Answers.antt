-- `cut_bindings::cut_binding` meets its contract.
use mathlib.Core.Path.{◌∙◌, ap}
use Rattle.spec.specs.Forms.{key_word}
use Rattle.scan_keywords.proofs.Answers.{word_name, word_no_form, word_not_yet}
use Rattle.scan_tokens.proofs.Names.{part_name}
use Rattle.cut_forms.specs.Statements.{AssignmentAt}
use Rattle.cut_forms.proofs.Faults.{no_form_law, not_yet_law}
use Rattle.cut_forms.proofs.Words.{binding_key, binding_wrong}
use Rattle.cut_bindings.proofs.cut_binding.Goals as goal

pub returns-in-Name : goal.returns-in-Name
returns-in-Name c =
    rw (binding_key c.requires.1 (word_name _ _ (c.key_word.ensures ∙ ap key_word (part_name c.requires.1)) c.in-Name.is))
    c.cut_value.ensures

pub returns-in-NoForm : goal.returns-in-NoForm
unfolding AssignmentAt
returns-in-NoForm c = no_form_law (binding_wrong _ (word_no_form _ _ (c.key_word.ensures ∙ ap key_word (part_name c.requires.1)) c.in-NoForm.is))

pub returns-in-NotYet : goal.returns-in-NotYet
unfolding AssignmentAt
returns-in-NotYet c = not_yet_law (binding_wrong _ (word_not_yet _ _ (c.key_word.ensures ∙ ap key_word (part_name c.requires.1)) c.in-NotYet.is))
