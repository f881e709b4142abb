-- What a word of a line is, as the cut of that word.
use Rattle.std.specs.Prelude.{ℕ, List}
use Rattle.spec.specs.Forms.{Cut, fits, fails, no_form, not_yet}
use Rattle.scan_keywords.specs.declared.Word.{Word}
use Rattle.scan_keywords.specs.declared.Word.TheVariants.{Name, NoForm, NotYet}

unfoldable pub word_cut : List ℕ → Word → Cut (List ℕ)
word_cut w Name = fits w
word_cut w NoForm = fails no_form
word_cut w NotYet = fails not_yet
