-- What has been read of a manifest, and what is looked up in it.
use Rattle.std.specs.Prelude.{ℕ, zero, suc, List, [], ◌∷◌, ◌++◌, map, Bool, ◌||◌, get_or}
use Rattle.std.proofs.Math.Option.{Option, none, some}
use Rattle.lists.specs.Tests.{if_b}
use Rattle.lists.specs.Text.{bytes}
use Rattle.lists.specs.Bytes.{eq_bytes}
use Rattle.lists.specs.Members.{has, any}
use Rattle.spec.specs.Basics.{or_else, among}

-- a name and its value
pub record Bound : Type 0 where
  pub name : List ℕ
  pub value : List ℕ

-- `rule NAME` with its keys, their values raw: "kept unexpanded"
pub record Rule : Type 0 where
  pub name : List ℕ
  pub keys : List Bound

-- [1] A scope: the scopes around it, the nearest first, and its own variables, newest first. The top file has one; each
-- `subninja` enters "a new one that sees the parent's variables and changes none".
pub record Scope : Type 0 where
  pub outer : List ℕ
  pub own : List Bound

-- [1] file variables: the scopes by number, as they were entered, and the one that is read in
pub record Variables : Type 0 where
  pub scopes : List Scope
  pub current : ℕ

-- [1] for a number that none has
abbrev pub no_scope : Scope
no_scope = record { outer = []; own = [] }

-- [1] by its number
abbrev pub scope_at : List Scope → ℕ → Scope
scope_at scopes k = get_or scopes k no_scope

-- a build step: its files by number, its rule's name, its block's bindings, newest first, and the scope that its line stands in
pub record Step : Type 0 where
  pub outs : List ℕ
  pub ins : List ℕ
  pub implicit : List ℕ
  pub order_only : List ℕ
  pub rule : List ℕ
  pub block : List Bound
  -- [1] where its line stands
  pub scope : ℕ

-- what a manifest has said so far: rules newest first, file variables; "Steps are numbered from 0 as written, files from 0 by first
-- mention"; the files named by `default`; and the counts of bindings, mentions and bytes that the limits speak of,
-- and of files opened
pub record Reading : Type 0 where
  pub rules : List Rule
  pub vars : Variables
  pub files : List (List ℕ)
  pub steps : List Step
  pub defaults : List ℕ
  pub bindings : ℕ
  pub mentions : ℕ
  pub written : ℕ
  -- [1] files that were opened
  pub opened : ℕ

abbrev pub nothing_read : Reading
nothing_read = record { rules = []; vars = record { scopes = no_scope ∷ []; current = 0 }; files = []; steps = []; defaults = []; bindings = 0; mentions = 0; written = 0; opened = 1 }

-- what the newest binding of a name binds it to: "a later line replaces it", "last one wins"
unfoldable pub bound_to : List ℕ → List Bound → Option (List ℕ)
unfolding eq_bytes
bound_to n [] = none
bound_to n (b ∷ l) = if_b (eq_bytes n b.name) (λ _. some b.value) (λ _. bound_to n l)

-- [1] the variables of these scopes, one scope after another
unfoldable pub own_vars : List Scope → List ℕ → List Bound
own_vars scopes [] = []
own_vars scopes (k ∷ ks) = (scope_at scopes k).own ++ own_vars scopes ks

-- [1] what is seen from a scope: its own variables, then those of the scopes around it
unfoldable pub seen_from : List Scope → ℕ → List Bound
unfolding own_vars
seen_from scopes k = own_vars scopes (k ∷ (scope_at scopes k).outer)

-- "An unset name expands to nothing."
unfoldable pub var_from : List Scope → ℕ → List ℕ → List ℕ
unfolding bound_to seen_from
var_from scopes k n = or_else (bound_to n (seen_from scopes k)) (λ v. v) λ _. []

-- a file variable, as it then stands
abbrev pub file_var : Variables → List ℕ → List ℕ
file_var vars = var_from vars.scopes vars.current

-- [1] one binding more in a scope
unfoldable pub bind_in : ℕ → Bound → List Scope → List Scope
bind_in k b [] = []
bind_in zero b (s ∷ l) = record { outer = s.outer; own = b ∷ s.own } ∷ l
bind_in (suc k) b (s ∷ l) = s ∷ bind_in k b l

-- is this name bound here
unfoldable pub has_key : List ℕ → List Bound → Bool
unfolding among
has_key n l = among n (map (λ (b : Bound). b.name) l)

-- the keys of the rule of this name
unfoldable pub keys_of : List ℕ → List Rule → List Bound
unfolding eq_bytes
keys_of n [] = []
keys_of n (r ∷ l) = if_b (eq_bytes n r.name) (λ _. r.keys) (λ _. keys_of n l)

-- "`phony` is declared from the start."
unfoldable pub is_phony : List ℕ → Bool
unfolding eq_bytes
is_phony n = eq_bytes n (bytes "phony")

-- is this rule declared
unfoldable pub declared : List ℕ → Reading → Bool
unfolding is_phony among
declared n rd = is_phony n || among n (map (λ (r : Rule). r.name) rd.rules)

-- a file's number: where it was first mentioned, and the number of files for one that is not mentioned
unfoldable pub number_of : List ℕ → List (List ℕ) → ℕ
unfolding eq_bytes
number_of p [] = 0
number_of p (f ∷ l) = if_b (eq_bytes p f) (λ _. 0) (λ _. suc (number_of p l))

-- the files after these mentions too: "files from 0 by first mention"
unfoldable pub mention : List (List ℕ) → List (List ℕ) → List (List ℕ)
unfolding among
mention files [] = files
mention files (p ∷ ps) = if_b (among p files) (λ _. mention files ps) (λ _. mention (files ++ (p ∷ [])) ps)

unfoldable pub numbers_of : List (List ℕ) → List (List ℕ) → List ℕ
unfolding number_of
numbers_of files ps = map (λ (p : List ℕ). number_of p files) ps

-- is this file the output of a step
unfoldable pub is_output : ℕ → List Step → Bool
unfolding any has
is_output f steps = any (λ (s : Step). has f s.outs) steps

-- is this path the output of an earlier step
unfoldable pub is_made : List ℕ → Reading → Bool
unfolding is_output number_of
is_made p rd = is_output (number_of p rd.files) rd.steps
