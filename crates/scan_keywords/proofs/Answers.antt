-- What an answer says, once its case is known.
use Prim.Native.Nat.{ℕ}
use mathlib.Core.List.{List}
use mathlib.Core.Path.{◌≡◌, sym, ◌∙◌, ap}
use Rattle.spec.specs.Forms.{Cut, fits, fails, no_form, not_yet}
use Rattle.scan_keywords.specs.declared.Word.{Word}
use Rattle.scan_keywords.specs.declared.Word.TheVariants.{NoForm, NotYet}
use Rattle.scan_keywords.specs.declared.Word.TheVariants as word
use Rattle.scan_keywords.specs.Words.{word_cut}

-- ---- `rule_word` and `key_word`

module _ (w : List ℕ) (r : Word) {x : Cut (List ℕ)} (p : word_cut w r ≡ x) where
  pub word_name : r ≡ word.Name → x ≡ fits w
  unfolding word_cut
  word_name e = sym p ∙ ap (word_cut w) e

  pub word_no_form : r ≡ NoForm → x ≡ fails no_form
  unfolding word_cut
  word_no_form e = sym p ∙ ap (word_cut w) e

  pub word_not_yet : r ≡ NotYet → x ≡ fails not_yet
  unfolding word_cut
  word_not_yet e = sym p ∙ ap (word_cut w) e
