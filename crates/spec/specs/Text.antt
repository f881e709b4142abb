-- The text of a step: the lookup of a name, 16, what the name's text is, and 17.
use Rattle.std.specs.Prelude.{ℕ, zero, suc, List, [], ◌∷◌, ◌++◌, map, Bool, true, false, ◌||◌, eqb, ltb, length, get_or}
use Rattle.std.proofs.Math.Option.{Option, none, some}
use Rattle.lists.specs.Members.{has, all, any}
use Rattle.lists.specs.Tests.{if_b}
use Rattle.lists.specs.Text.{bytes}
use Rattle.lists.specs.Bytes.{eq_bytes}
use Rattle.spec.specs.declared.Key.{Key}
use Rattle.spec.specs.declared.Key.TheVariants.{Command, Description, Generator, Depfile, Pool}
use Rattle.spec.specs.declared.Refusal.{Refusal}
use Rattle.spec.specs.declared.Refusal.TheVariants.{EndlessText, LongText}
use Rattle.spec.specs.Basics.{or_else, among}
use Rattle.spec.specs.Bytes.{space, newline, letter, digit}
use Rattle.spec.specs.Dollars.{expand, refs}
use Rattle.spec.specs.Graph.{step_at}
use Rattle.spec.specs.Limits.{max_text}
use Rattle.spec.specs.Reading.{Step, Reading, bound_to, var_from, keys_of, number_of}

-- ------------------------------------------------------------------ a rule's keys

-- [4] a rule's key by its bytes
unfoldable pub key_name : Key → List ℕ
key_name Command = bytes "command"
key_name Description = bytes "description"
key_name Generator = bytes "generator"
key_name Depfile = bytes "depfile"
key_name Pool = bytes "pool"

-- the keys that a rule has in this edition (`rule_key`) or a later one, by number
unfoldable pub key_names : List (List ℕ)
unfolding key_name
key_names = key_name Command ∷ key_name Description ∷ key_name Generator ∷ key_name Depfile ∷ key_name Pool ∷ []

-- their count
abbrev pub rule_keys : ℕ
rule_keys = 5

-- the number of a key, and `rule_keys` for every other name
unfoldable pub key_number : List ℕ → ℕ
unfolding number_of key_names
key_number n = number_of n key_names

-- ------------------------------------------------------------------ names in a text (document 02, [2])

-- [2] the single quote
abbrev pub quote : ℕ
quote = 39

-- [2] "letters, digits and `_ + - . /`"
unfoldable pub safe_byte : ℕ → Bool
unfolding letter digit has
safe_byte b = letter b || digit b || has b (bytes "_+-./")

-- [2] "each single quote inside written as quote, backslash, quote, quote"
unfoldable pub inside_quotes : List ℕ → List ℕ
inside_quotes [] = []
inside_quotes (b ∷ n) = if_b (eqb b quote) (λ _. bytes "'\\''" ++ inside_quotes n) (λ _. b ∷ inside_quotes n)

-- [2] "a name of only letters, digits and `_ + - . /` stays; any other stands in single quotes"
unfoldable pub quoted : List ℕ → List ℕ
unfolding all safe_byte inside_quotes
quoted n = if_b (all safe_byte n) (λ _. n) (λ _. quote ∷ (inside_quotes n ++ (quote ∷ [])))

-- ------------------------------------------------------------------ the lookup

-- "joined by one space (`$in_newline` by a newline)"
unfoldable pub joined_by : ℕ → List (List ℕ) → List ℕ
joined_by c [] = []
joined_by c (n ∷ []) = n
joined_by c (n ∷ m ∷ l) = n ++ (c ∷ joined_by c (m ∷ l))

-- How a text spells the name of a file: `quoted`, or another way for a text that no shell reads.
abbrev pub Spelling : Type 0
Spelling = List ℕ → List ℕ

-- files by their names
unfoldable pub names_of : Spelling → Reading → List ℕ → List (List ℕ)
names_of spell rd fs = map (λ (f : ℕ). spell (get_or rd.files f [])) fs

-- "`$in` is the explicit inputs, `$out` the outputs"; "in `$in_newline` too" are the names spelt
unfoldable pub of_step : Spelling → Reading → Step → List ℕ → Option (List ℕ)
unfolding eq_bytes joined_by names_of
of_step spell rd s n =
    if_b (eq_bytes n (bytes "in")) (λ _. some (joined_by space (names_of spell rd s.ins))) λ _.
    if_b (eq_bytes n (bytes "in_newline")) (λ _. some (joined_by newline (names_of spell rd s.ins))) λ _.
    if_b (eq_bytes n (bytes "out")) (λ _. some (joined_by space (names_of spell rd s.outs))) λ _. none

-- what a name is looked up as: a text as it is, or a rule's text, still to be expanded
pub data Found : Type 0 where
  as_is : List ℕ → Found
  of_rule : List ℕ → Found

-- "looked up as: `in`, `in_newline`, `out`; the block; the rule ..; the file, as its variables stand at the end of the manifest"
unfoldable pub lookup_by : Spelling → Reading → Step → List ℕ → Found
unfolding of_step bound_to keys_of var_from
lookup_by spell rd s n =
    or_else (of_step spell rd s n) as_is λ _.
    or_else (bound_to n s.block) as_is λ _.
    or_else (bound_to n (keys_of s.rule rd.rules)) of_rule λ _. as_is (var_from rd.vars.scopes s.scope n)

-- names hold their quotes in every text that is looked up for a step but a depfile's name (reading 02.10)
abbrev pub lookup : Reading → Step → List ℕ → Found
lookup = lookup_by quoted

abbrev pub on_found : {A : Type 0} → Found → (List ℕ → A) → (List ℕ → A) → A
on_found (as_is v) f g = f v
on_found (of_rule raw) f g = g raw

-- ------------------------------------------------------------------ 16, the text, 17

-- a rule has at most five keys, so that a text that goes six rule texts deep has come back to one
abbrev pub deep : ℕ
deep = 6

-- "a rule's text leads back, by the lookup, to a rule key already under expansion" (16): the same however names are spelt
unfoldable pub leads_back : Reading → Step → ℕ → List (List ℕ) → List ℕ → Bool
unfolding lookup_by among any refs
leads_back rd s zero under n = true
leads_back rd s (suc k) under n =
    on_found (lookup rd s n) (λ v. false) λ raw.
    if_b (among n under) (λ _. true) (λ _. any (leads_back rd s k (n ∷ under)) (refs raw))

-- "the rule, whose text is expanded by this same order"
unfoldable pub text_by : Spelling → Reading → Step → ℕ → List ℕ → List ℕ
unfolding lookup_by expand
text_by spell rd s zero n = []
text_by spell rd s (suc k) n = on_found (lookup_by spell rd s n) (λ v. v) (λ raw. expand (text_by spell rd s k) raw)

-- [4] plain or quoted
abbrev pub spelled_by : Bool → Spelling
spelled_by true n = n
spelled_by false n = quoted n

-- [4] "its depfile name (unquoted ..)": a path, that no shell reads
unfoldable pub spelling_for : List ℕ → Spelling
unfolding eq_bytes key_name quoted
spelling_for n = spelled_by (eq_bytes n (key_name Depfile))

-- the text of a name, for a step by its number
abbrev pub name_text : Reading → ℕ → List ℕ → List ℕ
name_text rd s n = text_by (spelling_for n) rd (step_at rd.steps s) deep n

-- "16, 17 for a text": what the text of a name is refused with
unfoldable pub name_refusal : Reading → ℕ → List ℕ → Option Refusal
unfolding leads_back text_by spelling_for
name_refusal rd s n =
    if_b (leads_back rd (step_at rd.steps s) deep [] n) (λ _. some (EndlessText s)) λ _.
    if_b (ltb max_text (length (name_text rd s n))) (λ _. some (LongText s)) λ _. none
