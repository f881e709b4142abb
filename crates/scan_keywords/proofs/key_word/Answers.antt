-- `scan_keywords::key_word` meets its contract.
use mathlib.Core.Path.{sym, ◌∙◌}
use Rattle.spec.specs.Forms.{key_word}
use Rattle.scan_keywords.specs.Words.{word_cut}
use Rattle.scan_tokens.proofs.Places.{emptiness}
use Rattle.scan_keywords.proofs.key_word.Goals as goal
use Rattle.scan_keywords.proofs.key_word.Goals.{then-is_empty-via-then-is_empty, then-is_empty-via-else-is_empty+then-keyword}
use Rattle.scan_keywords.proofs.key_word.Goals.{then-later_keyword-via-then-later_keyword, then-later_keyword-via-else-later_keyword+then-later_key}

pub returns-then-is_empty : goal.returns-then-is_empty
unfolding word_cut key_word
returns-then-is_empty c = elim c.then-is_empty.branch [
  | then-is_empty-via-then-is_empty w ↦ rw (emptiness c.args.w.now c.is_empty.ensures ∙ w.if-is_empty.true)
  | then-is_empty-via-else-is_empty+then-keyword w ↦ rw (emptiness c.args.w.now c.is_empty.ensures ∙ w.if-is_empty.false, sym w.keyword.ensures ∙ w.if-keyword.true)
]

pub returns-then-later_keyword : goal.returns-then-later_keyword
unfolding word_cut key_word
returns-then-later_keyword c = rw (emptiness c.args.w.now c.is_empty.ensures ∙ c.if-is_empty.false, sym c.keyword.ensures ∙ c.if-keyword.false) (elim c.then-later_keyword.branch [
  | then-later_keyword-via-then-later_keyword w ↦ rw (sym c.later_keyword.ensures ∙ w.if-later_keyword.true)
  | then-later_keyword-via-else-later_keyword+then-later_key w ↦ rw (sym w.later_key.ensures ∙ w.if-later_key.true, sym c.later_keyword.ensures ∙ w.if-later_keyword.false)
])

pub returns : goal.returns
unfolding word_cut key_word
returns c = rw (emptiness c.args.w.now c.is_empty.ensures ∙ c.if-is_empty.false, sym c.keyword.ensures ∙ c.if-keyword.false, sym c.later_key.ensures ∙ c.if-later_key.false, sym c.later_keyword.ensures ∙ c.if-later_keyword.false)
