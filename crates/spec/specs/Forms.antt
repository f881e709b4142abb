-- A line cut into its form by its bytes alone: "the first byte that doesn't fit decides between 4 and 5; 6 comes as soon as its word is read".
use Rattle.std.specs.Prelude.{ℕ, zero, suc, ◌-◌, List, [], ◌∷◌, Bool, true, false, not, ◌&&◌, ◌||◌, eqb, length, take, drop}
use Rattle.std.proofs.Math.Option.{Option}
use Rattle.lists.specs.Tests.{if_b}
use Rattle.lists.specs.Text.{bytes}
use Rattle.lists.specs.Bytes.{eq_bytes}
use Rattle.lists.specs.Runs.{run, after_run}
use Rattle.spec.specs.Basics.{is_empty, or_else, among}
use Rattle.spec.specs.Bytes.{newline, space, dollar, colon, bar, equals, name_byte}
use Rattle.spec.specs.Dollars.{read_raw, bad_in, bad_dollar}
use Rattle.spec.specs.Lines.{is_space, starts_with}

-- What is wrong with a line's bytes: it fits no form (4), a `$` is bad (5), given by the number of the line's bytes from that `$` on, or a
-- keyword or key is not yet in this edition (6).
pub data Fault : Type 0 where
  no_form : Fault
  left_at_dollar : ℕ → Fault
  not_yet : Fault

-- what bytes are cut into, or their first fault
pub data Cut (A : Type 0) : Type 0 where
  fits : A → Cut A
  fails : Fault → Cut A

unfoldable pub then : {A B : Type 0} → Cut A → (A → Cut B) → Cut B
then (fits a) f = f a
then (fails e) f = fails e

-- ------------------------------------------------------------------ tokens

-- "A join stands between tokens ..": spaces and joins before the next token
unfoldable pub gap : List ℕ → List ℕ
gap [] = []
gap (b ∷ []) = if_b (eqb b space) (λ _. []) (λ _. b ∷ [])
gap (b ∷ c ∷ s) =
    if_b (eqb b space) (λ _. gap (c ∷ s)) λ _.
    if_b (eqb b dollar && eqb c newline) (λ _. gap s) λ _. b ∷ c ∷ s

-- a name ends at the first byte that is no name byte (reading 1)
unfoldable pub name_of : List ℕ → List ℕ
unfolding run name_byte
name_of s = run name_byte s

unfoldable pub after_name : List ℕ → List ℕ
unfolding after_run name_byte
after_name s = after_run name_byte s

-- "The keywords `rule build default pool include subninja` are a 4 where a rule or key is named"; "The three keywords' 6 shrinks to `pool`."
unfoldable pub keyword : List ℕ → Bool
unfolding among
keyword w = among w (bytes "rule" ∷ bytes "build" ∷ bytes "default" ∷ bytes "include" ∷ bytes "subninja" ∷ [])

unfoldable pub later_keyword : List ℕ → Bool
unfolding eq_bytes
later_keyword w = eq_bytes w (bytes "pool")

-- "the names `depfile deps dyndep msvc_deps_prefix pool restat rspfile rspfile_content` on the left of any `=`", where document 02 says "Accept
-- `depfile`"
unfoldable pub later_key : List ℕ → Bool
unfolding among
later_key w =
    among w
    (bytes "deps" ∷ bytes "dyndep" ∷ bytes "msvc_deps_prefix" ∷ bytes "pool" ∷ bytes "restat" ∷ bytes "rspfile" ∷ bytes "rspfile_content" ∷ [])

-- a word where a rule is named; it is not empty and no keyword
unfoldable pub rule_word : List ℕ → Cut (List ℕ)
unfolding keyword later_keyword
rule_word w =
    if_b (is_empty w || keyword w) (λ _. fails no_form) λ _.
    if_b (later_keyword w) (λ _. fails not_yet) λ _. fits w

-- a word where a key is named
unfoldable pub key_word : List ℕ → Cut (List ℕ)
unfolding keyword later_keyword later_key
key_word w =
    if_b (is_empty w || keyword w) (λ _. fails no_form) λ _.
    if_b (later_keyword w || later_key w) (λ _. fails not_yet) λ _. fits w

-- ------------------------------------------------------------------ paths

-- "In a path, an unescaped space, `:`, `|` or newline ends it."; a line's bytes hold no newline but in joins
unfoldable pub path_stop : ℕ → Bool
path_stop b = eqb b space || eqb b colon || eqb b bar

-- what follows the raw path at the front, and that path
abbrev pub after_path : List ℕ → List ℕ
after_path s = (read_raw path_stop s).rest

unfoldable pub raw_path : List ℕ → List ℕ
unfolding read_raw path_stop
raw_path s = take (length s - length (after_path s)) s

-- raw paths, as they are cut and before they are expanded, and what follows them
pub record Paths : Type 0 where
  pub raw : List (List ℕ)
  pub rest : List ℕ

unfoldable pub with_path : List ℕ → Paths → Cut Paths
with_path p ps = fits (record { raw = p ∷ ps.raw; rest = ps.rest })

-- k, unless the raw text at the start of `s`, a line's bytes from some place on, has its first bad `$` at offset o
unfoldable pub checked : {A : Type 0} → Option ℕ → List ℕ → (Unit {0} → Cut A) → Cut A
checked o s k = or_else o (λ at. fails (left_at_dollar (length s - at))) k

-- a path begins at a byte that is neither space nor join (reading 2), nor one that ends it
unfoldable pub path_begins : List ℕ → Bool
path_begins [] = false
path_begins (b ∷ s) = not (eqb b colon || eqb b bar)

-- the paths up to a `:`, a `|` or the line's end; each takes a byte at least, so `k`, which is the number of bytes, is never used up
unfoldable pub paths_up : ℕ → List ℕ → Cut Paths
unfolding path_begins gap checked bad_in path_stop raw_path then with_path
paths_up zero s = fits (record { raw = []; rest = gap s })
paths_up (suc k) s =
    let t = gap s in
    if_b (path_begins t)
    (λ _. checked (bad_in path_stop t) t (λ _. then (paths_up k (after_path t)) (with_path (raw_path t))))
    (λ _. fits (record { raw = []; rest = t }))

unfoldable pub paths : List ℕ → Cut Paths
unfolding paths_up
paths s = paths_up (length s) s

-- ------------------------------------------------------------------ forms

-- `build OUTS: RULE INS | IMPLICIT || ORDERONLY`, its paths raw
pub record BuildLine : Type 0 where
  pub outs : List (List ℕ)
  pub rule : List ℕ
  pub ins : List (List ℕ)
  pub implicit : List (List ℕ)
  pub order_only : List (List ℕ)

pub data Form : Type 0 where
  rule_form : List ℕ → Form
  build_form : BuildLine → Form
  default_form : List (List ℕ) → Form
  -- `subninja PATH` or else `include PATH`, the path raw
  -- [1] in a new scope or not, and the raw path
  open_form : Bool → List ℕ → Form
  -- `NAME = value` at file level or in a block, the value raw
  binding_form : List ℕ → List ℕ → Form

-- "`rule NAME`"
unfoldable pub cut_rule : List ℕ → Cut Form
unfolding then rule_word name_of after_name gap
cut_rule s =
    let t = gap s in
    then (rule_word (name_of t)) λ w. if_b (is_empty (gap (after_name t))) (λ _. fits (rule_form w)) (λ _. fails no_form)

-- the number of bars here, two at most: `||` is read before `|`
unfoldable pub count_bars : List ℕ → ℕ
unfolding starts_with
count_bars [] = 0
count_bars (b ∷ s) = if_b (eqb b bar) (λ _. if_b (starts_with bar s) (λ _. 2) (λ _. 1)) (λ _. 0)

-- the paths behind so many bars, if so many stand here, and else none
unfoldable pub paths_behind : ℕ → List ℕ → Cut Paths
unfolding count_bars paths
paths_behind n s = if_b (eqb (count_bars s) n) (λ _. paths (drop n s)) (λ _. fits (record { raw = []; rest = s }))

-- from the rule's name on
unfoldable pub cut_inputs : List (List ℕ) → List ℕ → Cut Form
unfolding then rule_word name_of after_name paths paths_behind
cut_inputs outs t =
    then (rule_word (name_of t)) λ w.
    then (paths (after_name t)) λ i.
    then (paths_behind 1 i.rest) λ m.
    then (paths_behind 2 m.rest) λ o.
    if_b (is_empty o.rest) (λ _. fits (build_form (record { outs = outs; rule = w; ins = i.raw; implicit = m.raw; order_only = o.raw }))) (λ _. fails no_form)

-- from the `:` on; "one output at least"
unfoldable pub after_outputs : List (List ℕ) → List ℕ → Cut Form
unfolding cut_inputs gap
after_outputs outs [] = fails no_form
after_outputs outs (b ∷ s) = if_b (eqb b colon && not (is_empty outs)) (λ _. cut_inputs outs (gap s)) (λ _. fails no_form)

-- "`build OUTS: RULE INS | IMPLICIT || ORDERONLY`: one output at least, the rest may be empty"
unfoldable pub cut_build : List ℕ → Cut Form
unfolding then paths after_outputs
cut_build s = then (paths s) λ o. after_outputs o.raw o.rest

-- "`default PATHS`, one at least"
unfoldable pub cut_default : List ℕ → Cut Form
unfolding then paths
cut_default s =
    then (paths s) λ p. if_b (is_empty p.raw || not (is_empty p.rest)) (λ _. fails no_form) (λ _. fits (default_form p.raw))

-- [1] "`include PATH` and `subninja PATH`": one path and nothing behind it (reading 02.3)
unfoldable pub cut_open : Bool → List ℕ → Cut Form
unfolding gap path_begins checked bad_in path_stop raw_path
cut_open sub s =
    let t = gap s in
    if_b (path_begins t)
    (λ _. checked (bad_in path_stop t) t (λ _. if_b (is_empty (gap (after_path t))) (λ _. fits (open_form sub (raw_path t))) (λ _. fails no_form)))
    (λ _. fails no_form)

-- "A raw value is handed back as the caller's own bytes without their leading spaces. Trailing spaces stay."
unfoldable pub raw_value : List ℕ → List ℕ
unfolding after_run
raw_value s = after_run is_space s

-- from behind the name on
unfoldable pub cut_value : List ℕ → List ℕ → Cut Form
unfolding raw_value checked bad_dollar
cut_value w [] = fails no_form
cut_value w (b ∷ s) =
    if_b (eqb b equals) (λ _. checked (bad_dollar (raw_value s)) (raw_value s) (λ _. fits (binding_form w (raw_value s)))) (λ _. fails no_form)

-- "`NAME = value`"
unfoldable pub cut_binding : List ℕ → Cut Form
unfolding then key_word name_of after_name gap cut_value
cut_binding s = then (key_word (name_of s)) λ w. cut_value w (gap (after_name s))

-- a line without indent; a keyword at its start always begins its statement (reading 6)
unfoldable pub cut_statement : List ℕ → Cut Form
unfolding cut_rule cut_build cut_default cut_open cut_binding name_of after_name eq_bytes
cut_statement s =
    let w = name_of s in
    if_b (eq_bytes w (bytes "rule")) (λ _. cut_rule (after_name s)) λ _.
    if_b (eq_bytes w (bytes "build")) (λ _. cut_build (after_name s)) λ _.
    if_b (eq_bytes w (bytes "default")) (λ _. cut_default (after_name s)) λ _.
    if_b (eq_bytes w (bytes "include")) (λ _. cut_open false (after_name s)) λ _.
    if_b (eq_bytes w (bytes "subninja")) (λ _. cut_open true (after_name s)) λ _. cut_binding s

-- an indented line; in a block the first word is always a key (reading 6)
unfoldable pub cut_indented : List ℕ → Cut Form
unfolding cut_binding after_run
cut_indented s = cut_binding (after_run is_space s)
