-- `test_scan::scanners::kestrenyo_rule_word` meets its contract.
use Rattle.scan_keywords.proofs.Answers.{word_name, word_no_form, word_not_yet}
use Rattle.test_scan.specs.Scanners.{word_number}
use Rattle.test_scan.proofs.scanners.kestrenyo_rule_word.Goals as goal

pub returns-in-Name : goal.returns-in-Name
unfolding word_number
returns-in-Name c = rw (word_name _ _ c.rule_word.ensures c.in-Name.is)

pub returns-in-NoForm : goal.returns-in-NoForm
unfolding word_number
returns-in-NoForm c = rw (word_no_form _ _ c.rule_word.ensures c.in-NoForm.is)

pub returns-in-NotYet : goal.returns-in-NotYet
unfolding word_number
returns-in-NotYet c = rw (word_not_yet _ _ c.rule_word.ensures c.in-NotYet.is)
