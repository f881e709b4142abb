-- How a shell reads one word of a command: POSIX.1-2017, Shell Command Language, 2.2 "Quoting" and 2.3 "Token Recognition", as far as plain bytes, single
-- quotes and a backslash outside quotes go. Any other byte that means something to a shell has no reading here, so that whatever has one is literal.
use Rattle.std.specs.Prelude.{ℕ, List, [], ◌∷◌, Bool, ◌||◌, ◌&&◌, not, ◌≡◌, eqb}
use Rattle.std.proofs.Math.Option.{Option, none, some}
use Rattle.lists.specs.Members.{has}
use Rattle.lists.specs.Tests.{if_b}
use Rattle.lists.specs.Text.{bytes}
use Rattle.spec.specs.Bytes.{space, newline, between}
use Rattle.spec.specs.Text.{quote}

abbrev pub backslash : ℕ
backslash = 92

-- 2.3: an unquoted <newline> or <blank> ends a word
unfoldable pub shell_blank : ℕ → Bool
shell_blank b = eqb b space || eqb b 9 || eqb b newline

-- 2.2: `| & ; < > ( ) $`, backquote and double quote always, and `* ? [ # ~ = %` in some places, mean more than themselves; `{ } ! ^ , ]` do to some shells.
-- Bytes that are no printing ASCII ones are left to the locale.
unfoldable pub plain_byte : ℕ → Bool
unfolding between has
plain_byte b = between 33 126 b && not (has b (bytes "|&;<>()$`\"*?[#~=%{}!^,]"))

-- what is read: the word, and the text behind it
pub record ShellWord : Type 0 where
  pub word : List ℕ
  pub behind : List ℕ

-- one byte more in front of the word
unfoldable pub started_by : ℕ → Option ShellWord → Option ShellWord
started_by b none = none
started_by b (some w) = some (record { word = b ∷ w.word; behind = w.behind })

-- outside of quotes, within single quotes, behind a backslash
pub data Quoting : Type 0 where
  outside : Quoting
  within : Quoting
  escaped : Quoting

-- 2.2.2: "Enclosing characters in single-quotes ( '' ) shall preserve the literal value of each character within the single-quotes. A single-quote cannot
-- occur within single-quotes." 2.2.1: "A <backslash> that is not quoted shall preserve the literal value of the following character, with the exception of a
-- <newline>", which continues the line. No argument of a command holds a byte 0.
unfoldable pub word_from : Quoting → List ℕ → Option ShellWord
unfolding shell_blank plain_byte started_by
word_from outside [] = some (record { word = []; behind = [] })
word_from within [] = none
word_from escaped [] = none
word_from outside (b ∷ s) =
    if_b (eqb b quote) (λ _. word_from within s) λ _.
    if_b (eqb b backslash) (λ _. word_from escaped s) λ _.
    if_b (shell_blank b) (λ _. some (record { word = []; behind = b ∷ s })) λ _.
    if_b (plain_byte b) (λ _. started_by b (word_from outside s)) λ _. none
word_from within (b ∷ s) =
    if_b (eqb b quote) (λ _. word_from outside s) λ _.
    if_b (eqb b 0) (λ _. none) λ _. started_by b (word_from within s)
word_from escaped (b ∷ s) =
    if_b (eqb b newline) (λ _. word_from outside s) λ _.
    if_b (eqb b 0) (λ _. none) λ _. started_by b (word_from outside s)

-- the word that a text starts with; an empty text and one that starts with a blank start with none
unfoldable pub first_word : List ℕ → Option ShellWord
unfolding word_from
first_word [] = none
first_word (b ∷ s) = if_b (shell_blank b) (λ _. none) λ _. word_from outside (b ∷ s)

-- the text is these words, with one byte c between
abbrev pub ReadsAs : ℕ → List (List ℕ) → List ℕ → Type 0
ReadsAs c [] t = t ≡ []
ReadsAs c (n ∷ []) t = first_word t ≡ some (record { word = n; behind = [] })
ReadsAs c (n ∷ m ∷ l) t = (s : List ℕ) × (first_word t ≡ some (record { word = n; behind = c ∷ s })) × ReadsAs c (m ∷ l) s
