-- A shell reads a quoted name as exactly the name, and `$in` as exactly the names of the inputs.
use Prim.Native.Nat.{ℕ, ◌≤◌, ◌<◌}
use mathlib.Core.List.{List, [], ◌∷◌, ◌++◌, append-nil, append_assoc, map}
use mathlib.Core.Bool.{Bool, true, false, ◌||◌, ◌&&◌, not}
use mathlib.Core.Option.{Option, none, some}
use mathlib.Core.Path.{◌≡◌, refl, sym, ◌∙◌, ap}
use native.Mathlib.Omega.{arith}
use lib.Dec.{eqb, ltb, lit<}
use borrow.Author.Tests.{ltb-true, ltb-false, le-leb, lt-leb, eqb-true, eq-eqb, ne_eqb, not-true}
use Rattle.lists.specs.Members.{has, all, all_true, up_from, up_to, up_to_in}
use Rattle.lists.specs.Tests.{if_b, split, differ, and_left, and_right, or_left, or_right}
use Rattle.lists.specs.Text.{bytes}
use Rattle.spec.specs.Bytes.{between, letter, digit}
use Rattle.spec.specs.Text.{quote, safe_byte, inside_quotes, quoted, joined_by}
use Rattle.spec.specs.Shell.{backslash, shell_blank, plain_byte, ShellWord, started_by, outside, within, word_from, first_word, ReadsAs}

-- ---- bytes

-- outside of quotes the byte stands for itself
unfoldable literal : ℕ → Bool
unfolding shell_blank plain_byte
literal b = not (eqb b quote) && (not (eqb b backslash) && (not (shell_blank b) && plain_byte b))

-- no byte past the letters is safe
high_safe : (b : ℕ) → 123 ≤ b → safe_byte b ≡ false
unfolding safe_byte letter digit between has
high_safe b h =
    let apart : (k : ℕ) → k < 123 → eqb b k ≡ false = λ k l. ne_eqb b k (λ e. omega arith) in
    rw (lt-leb b 90 (omega arith), lt-leb b 122 (omega arith), lt-leb b 57 (omega arith), le-leb 65 b (omega arith), le-leb 97 b (omega arith), le-leb 48 b (omega arith), apart 95 (lit< tt), apart 43 (lit< tt), apart 45 (lit< tt), apart 46 (lit< tt), apart 47 (lit< tt))

follows : (a b : Bool) → not a || b ≡ true → a ≡ true → b ≡ true
follows true b e p = e
follows false b e p = differ p refl

safe_literal : (b : ℕ) → safe_byte b ≡ true → literal b ≡ true
unfolding all up_to up_from safe_byte literal
safe_literal b s =
    let low : b < 123 = split (ltb b 123) (λ (e : ltb b 123 ≡ true). ltb-true b 123 e) (λ (e : ltb b 123 ≡ false). differ s (high_safe b (ltb-false b 123 e))) in
    follows (safe_byte b) (literal b) (all_true (λ (x : ℕ). not (safe_byte x) || literal x) (up_to 123) refl (up_to_in 123 low)) s

literal_read : (b : ℕ) (s : List ℕ) → literal b ≡ true → word_from outside (b ∷ s) ≡ started_by b (word_from outside s)
unfolding literal word_from
literal_read b s h =
    let r = and_right (not (eqb b quote)) (not (eqb b backslash) && (not (shell_blank b) && plain_byte b)) h in
    let t = and_right (not (eqb b backslash)) (not (shell_blank b) && plain_byte b) r in
    rw (not-true (eqb b quote) (and_left (not (eqb b quote)) (not (eqb b backslash) && (not (shell_blank b) && plain_byte b)) h), not-true (eqb b backslash) (and_left (not (eqb b backslash)) (not (shell_blank b) && plain_byte b) r), not-true (shell_blank b) (and_left (not (shell_blank b)) (plain_byte b) t), and_right (not (shell_blank b)) (plain_byte b) t)

literal_not_blank : (b : ℕ) → literal b ≡ true → shell_blank b ≡ false
unfolding literal
literal_not_blank b h =
    let r = and_right (not (eqb b quote)) (not (eqb b backslash) && (not (shell_blank b) && plain_byte b)) h in
    not-true (shell_blank b) (and_left (not (shell_blank b)) (plain_byte b) (and_right (not (eqb b backslash)) (not (shell_blank b) && plain_byte b) r))

-- ---- the end of a word

-- the text is at its end or goes on with a blank
unfoldable pub ends : List ℕ → Bool
unfolding shell_blank
ends [] = true
ends (b ∷ s) = shell_blank b

-- the word ends here
ended : (s : List ℕ) → ends s ≡ true → word_from outside s ≡ some (record { word = []; behind = s })
unfolding ends word_from
ended [] h = refl
ended (b ∷ s) h =
    let apart : (k : ℕ) → shell_blank k ≡ false → eqb b k ≡ false = λ k z. ne_eqb b k (λ e. differ h (ap shell_blank e ∙ z)) in
    rw (apart quote refl, apart backslash refl, h)

-- ---- names

safe_read : (n s : List ℕ) → all safe_byte n ≡ true → ends s ≡ true → word_from outside (n ++ s) ≡ some (record { word = n; behind = s })
unfolding all started_by
safe_read [] s h e = ended s e
safe_read (b ∷ n) s h e =
    literal_read b (n ++ s) (safe_literal b (and_left (safe_byte b) (all safe_byte n) h))
    ∙ ap (started_by b) (safe_read n s (and_right (safe_byte b) (all safe_byte n) h) e)

started : (b : ℕ) {n s : List ℕ} {w : Option ShellWord} → w ≡ some (record { word = n; behind = s }) → started_by b w ≡ some (record { word = b ∷ n; behind = s })
unfolding started_by
started b e = ap (started_by b) e

-- the quotes open and close
open_read : (s : List ℕ) → word_from outside (quote ∷ s) ≡ word_from within s
unfolding word_from
open_read s = refl

close_read : (s : List ℕ) → word_from within (quote ∷ s) ≡ word_from outside s
unfolding word_from
close_read s = refl

-- within quotes: a byte that stands for itself, and a quote as it is written
within_read : (b : ℕ) (s : List ℕ) → eqb b quote ≡ false → eqb b 0 ≡ false → word_from within (b ∷ s) ≡ started_by b (word_from within s)
unfolding word_from
within_read b s q z = rw (q, z)

quote_read : (s : List ℕ) → word_from within (bytes "'\\''" ++ s) ≡ started_by quote (word_from within s)
unfolding word_from
quote_read s = refl

inside_read : (n s : List ℕ) → has 0 n ≡ false → ends s ≡ true → word_from within (inside_quotes n ++ (quote ∷ s)) ≡ some (record { word = n; behind = s })
unfolding has inside_quotes
inside_read [] s h e = close_read s ∙ ended s e
inside_read (b ∷ n) s h e =
    let rest = inside_read n s (or_right (eqb 0 b) (has 0 n) h) e in
    let z : eqb b 0 ≡ false = ne_eqb b 0 (λ q. differ (eq-eqb 0 b (sym q)) (or_left (eqb 0 b) (has 0 n) h)) in
    split (eqb b quote)
    (λ (q : eqb b quote ≡ true). rw q (quote_read (inside_quotes n ++ (quote ∷ s)) ∙ rw (eqb-true b quote q) (started quote rest)))
    (λ (q : eqb b quote ≡ false). rw q (within_read b (inside_quotes n ++ (quote ∷ s)) q z ∙ started b rest))

starts : (b : ℕ) (s : List ℕ) → shell_blank b ≡ false → first_word (b ∷ s) ≡ word_from outside (b ∷ s)
unfolding first_word
starts b s z = ap (λ (t : Bool). if_b t (λ _. none) (λ _. word_from outside (b ∷ s))) z

-- "Names hold their quotes": for any bytes but 0 the shell reads the quoted name as the name, and goes on behind it
pub quoted_read : (n s : List ℕ) → (n ≡ [] → ⊥) → has 0 n ≡ false → ends s ≡ true → first_word (quoted n ++ s) ≡ some (record { word = n; behind = s })
unfolding quoted all shell_blank
quoted_read [] s f h e = absurd (f refl)
quoted_read (b ∷ n) s f h e =
    split (all safe_byte (b ∷ n))
    (λ (q : all safe_byte (b ∷ n) ≡ true).
    rw q (starts b (n ++ s) (literal_not_blank b (safe_literal b (and_left (safe_byte b) (all safe_byte n) q))) ∙ safe_read (b ∷ n) s q e))
    (λ (q : all safe_byte (b ∷ n) ≡ false).
    rw (q, append_assoc (inside_quotes (b ∷ n)) (quote ∷ []) s)
    (starts quote (inside_quotes (b ∷ n) ++ (quote ∷ s)) refl ∙ open_read (inside_quotes (b ∷ n) ++ (quote ∷ s)) ∙ inside_read (b ∷ n) s h e))

-- the name of a file: not empty (8), and without a byte 0 (3)
pub record FileName (n : List ℕ) : Type 0 where
  pub some_byte : n ≡ [] → ⊥
  pub no_zero : has 0 n ≡ false

abbrev pub FileNames : List (List ℕ) → Type 0
FileNames [] = Unit {0}
FileNames (n ∷ l) = FileName n × FileNames l

-- `$in`, `$out` and `$in_newline` are read as the names that they join
pub joined_read : (c : ℕ) → shell_blank c ≡ true → (names : List (List ℕ)) → FileNames names → ReadsAs c names (joined_by c (map quoted names))
unfolding joined_by ends
joined_read c z [] h = refl
joined_read c z (n ∷ []) h = ap first_word (sym (append-nil (quoted n))) ∙ quoted_read n [] h.0.some_byte h.0.no_zero refl
joined_read c z (n ∷ m ∷ l) h =
    (joined_by c (map quoted (m ∷ l)), quoted_read n (c ∷ joined_by c (map quoted (m ∷ l))) h.0.some_byte h.0.no_zero z, joined_read c z (m ∷ l) h.1)
