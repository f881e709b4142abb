-- `scan_keywords::rule_word` meets its contract.
use mathlib.Core.Path.{sym, ◌∙◌}
use Rattle.spec.specs.Forms.{rule_word}
use Rattle.scan_keywords.specs.Words.{word_cut}
use Rattle.scan_tokens.proofs.Places.{emptiness}
use Rattle.scan_keywords.proofs.rule_word.Goals as goal
use Rattle.scan_keywords.proofs.rule_word.Goals.{then-is_empty-via-then-is_empty, then-is_empty-via-else-is_empty+then-keyword}

pub returns-then-is_empty : goal.returns-then-is_empty
unfolding word_cut rule_word
returns-then-is_empty c = elim c.then-is_empty.branch [
  | then-is_empty-via-then-is_empty w ↦ rw (emptiness c.args.w.now c.is_empty.ensures ∙ w.if-is_empty.true)
  | then-is_empty-via-else-is_empty+then-keyword w ↦ rw (emptiness c.args.w.now c.is_empty.ensures ∙ w.if-is_empty.false, sym w.keyword.ensures ∙ w.if-keyword.true)
]

pub returns-then-later_keyword : goal.returns-then-later_keyword
unfolding word_cut rule_word
returns-then-later_keyword c = rw (emptiness c.args.w.now c.is_empty.ensures ∙ c.if-is_empty.false, sym c.keyword.ensures ∙ c.if-keyword.false, sym c.later_keyword.ensures ∙ c.if-later_keyword.true)

pub returns : goal.returns
unfolding word_cut rule_word
returns c = rw (emptiness c.args.w.now c.is_empty.ensures ∙ c.if-is_empty.false, sym c.keyword.ensures ∙ c.if-keyword.false, sym c.later_keyword.ensures ∙ c.if-later_keyword.false)
