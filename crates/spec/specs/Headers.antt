-- [4] Header lists from the compiler: what is found of each step's depfile, the reading with the listed inputs added, and the steps that
-- a missing depfile or a missing listed file makes stale. What stands in quotes is document 02's.
use Rattle.std.specs.Prelude.{ℕ, suc, List, [], ◌∷◌, ◌++◌, Bool, true, false, not, ◌&&◌, ◌||◌, eqb, get_or}
use Rattle.lists.specs.Tests.{if_b}
use Rattle.lists.specs.Members.{any}
use Rattle.spec.specs.declared.Key.TheVariants.{Depfile as depfile_key}
use Rattle.spec.specs.declared.Refusal.{Refusal}
use Rattle.spec.specs.declared.Refusal.TheVariants.{BadHeaders}
use Rattle.spec.specs.Basics.{is_empty, or_else, among}
use Rattle.spec.specs.Limits.{max_headers}
use Rattle.spec.specs.Bundle.{sound_bundle, bundle_names, bundle_texts}
use Rattle.spec.specs.Reading.{Step, Reading, is_phony, number_of, numbers_of}
use Rattle.spec.specs.Statements.{over_counts, over_paths, mentioned}
use Rattle.spec.specs.Manifest.{with_step}
use Rattle.spec.specs.Graph.{step_at, makers}
use Rattle.spec.specs.Text.{key_name}
use Rattle.spec.specs.TextAsk.{TextOutcome, text, no_text, name_outcome}
use Rattle.depfile.specs.Depfile.{depfile_rule, listed_for}

-- "lent in such a bundle, 0 to 512 by path"
unfoldable pub sound_headers : List ℕ → Bool
unfolding sound_bundle
sound_headers s = sound_bundle 0 max_headers s

-- ------------------------------------------------------------------ the depfile of a step

-- what is found of a step's depfile
pub data FoundDepfile : Type 0 where
  -- none is named
  no_depfile : FoundDepfile
  -- no record of the bundle has its name
  missing_depfile : FoundDepfile
  -- the names after the colon
  depfile_lists : List (List ℕ) → FoundDepfile
  bad_depfile : Refusal → FoundDepfile

unfoldable pub first_output : Reading → ℕ → List ℕ
first_output rd s = get_or rd.files (get_or (step_at rd.steps s).outs 0 0) []

-- By the depfile's name, "empty means none": "A malformed text, one whose first target isn't the step's first output, .. is refusal 20".
unfoldable pub depfile_named : List ℕ → Reading → ℕ → List ℕ → FoundDepfile
unfolding among bundle_names bundle_texts number_of listed_for first_output depfile_rule
depfile_named headers rd s n =
    if_b (is_empty n) (λ _. no_depfile) λ _.
    if_b (not (among n (bundle_names headers))) (λ _. missing_depfile) λ _.
    or_else (listed_for (first_output rd s) (depfile_rule (get_or (bundle_texts headers) (number_of n (bundle_names headers)) []))) depfile_lists (λ _. bad_depfile (BadHeaders s))

-- "16 and 17 in its depfile name .. come just before"
unfoldable pub depfile_at : List ℕ → Reading → ℕ → TextOutcome → FoundDepfile
unfolding depfile_named
depfile_at headers rd s (no_text r) = bad_depfile r
depfile_at headers rd s (text n) = depfile_named headers rd s n

-- "Every non-phony step is checked"
unfoldable pub depfile_of : List ℕ → Reading → ℕ → FoundDepfile
unfolding is_phony depfile_at name_outcome key_name
depfile_of headers rd s =
    if_b (is_phony (step_at rd.steps s).rule) (λ _. no_depfile) λ _. depfile_at headers rd s (name_outcome s (key_name depfile_key) rd)

-- ------------------------------------------------------------------ the listed inputs added

-- what the depfile of a step tells: is it missing, and the files that it lists, by number
pub record Listed : Type 0 where
  pub missing : Bool
  pub files : List ℕ

abbrev pub nothing_listed : Listed
nothing_listed = record { missing = false; files = [] }

-- what is read with the listed inputs added, and what the depfile of each step tells
pub record HeaderGraph : Type 0 where
  pub reading : Reading
  pub lists : List Listed

pub data Heading : Type 0 where
  headed : HeaderGraph → Heading
  headless : Refusal → Heading

-- "Names after the colon count as implicit inputs after the written ones."
unfoldable pub with_listed : List ℕ → Step → Step
with_listed fs s =
    record { outs = s.outs; ins = s.ins; implicit = s.implicit ++ fs; order_only = s.order_only; rule = s.rule; block = s.block; scope = s.scope }

unfoldable pub head_step : Step → Listed → HeaderGraph → HeaderGraph
unfolding with_step with_listed
head_step s l h = record { reading = with_step (with_listed l.files s) h.reading; lists = h.lists ++ (l ∷ []) }

-- The next step, of number k. "One whose inputs pass a limit on paths, their bytes together, files or mentions, is refusal 20": as in a line of paths,
-- counted on from what is read; "New files are numbered after the manifest's."
unfoldable pub add_headers : ℕ → Step → FoundDepfile → HeaderGraph → Heading
unfolding head_step over_paths over_counts mentioned numbers_of
add_headers k s no_depfile h = headed (head_step s nothing_listed h)
add_headers k s missing_depfile h = headed (head_step s (record { missing = true; files = [] }) h)
add_headers k s (depfile_lists ns) h =
    let after = mentioned ns h.reading in
    if_b (over_paths ns || over_counts after) (λ _. headless (BadHeaders k)) λ _.
    headed (head_step s (record { missing = false; files = numbers_of after.files ns }) (record { reading = after; lists = h.lists }))
add_headers k s (bad_depfile r) h = headless r

unfoldable pub on_headed : {A : Type 0} → Heading → (Refusal → A) → (HeaderGraph → A) → A
on_headed (headed h) f g = g h
on_headed (headless r) f g = f r

-- "Every non-phony step is checked, lowest first": the steps from number k on, after those of `h`
unfoldable pub headers_from : List ℕ → Reading → ℕ → List Step → HeaderGraph → Heading
unfolding on_headed add_headers depfile_of
headers_from headers rd k [] h = headed h
headers_from headers rd k (s ∷ l) h = on_headed (add_headers k s (depfile_of headers rd k) h) headless (headers_from headers rd (suc k) l)

-- what is read, without its steps
unfoldable pub stepless : Reading → Reading
stepless rd =
    record { rules = rd.rules; vars = rd.vars; files = rd.files; steps = []; defaults = rd.defaults; bindings = rd.bindings; mentions = rd.mentions; written = rd.written; opened = rd.opened }

unfoldable pub with_headers : List ℕ → Reading → Heading
unfolding headers_from stepless
with_headers headers rd = headers_from headers rd 0 rd.steps (record { reading = stepless rd; lists = [] })

-- ------------------------------------------------------------------ stale by a depfile

abbrev pub listed_of : List Listed → ℕ → Listed
listed_of ls s = get_or ls s nothing_listed

-- "A missing depfile makes its step stale; so does a missing listed file without a maker"
unfoldable pub forced : List Step → (ℕ → ℕ) → List Listed → ℕ → Bool
unfolding any makers
forced steps card ls s = (listed_of ls s).missing || any (λ f. is_empty (makers steps f) && eqb (card f) 0) (listed_of ls s).files

-- The times by which steps are judged: such a step counts as one whose outputs are missing. It is stale then, and what its outputs' times would decide is
-- stale by its maker.
unfoldable pub judged : List Step → (ℕ → ℕ) → List Listed → ℕ → ℕ
unfolding any makers forced
judged steps card ls f = if_b (any (forced steps card ls) (makers steps f)) (λ _. 0) (λ _. card f)
