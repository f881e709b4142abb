-- Where nothing is called `depfile`, the header lists change nothing: the plan is the one without them.
use Prim.Native.Nat.{ℕ, zero, suc}
use mathlib.Core.Path.{◌≡◌, refl, sym, ◌∙◌, ap, fun_ext}
use mathlib.Core.Bool.{Bool, true, false, not, ◌&&◌, ◌||◌}
use mathlib.Core.Option.{Option, none, some}
use mathlib.Core.List.{List, [], ◌∷◌, ◌++◌, append-nil, append_assoc}
use lib.Dec.{eqb, ltb}
use lib.ListN.{length}
use Rattle.lists.specs.Tests.{if_b, split}
use Rattle.lists.specs.Bytes.{eq_bytes}
use Rattle.lists.specs.Members.{has, any, find, up_to}
use Rattle.spec.specs.declared.Key.TheVariants.{Depfile as depfile_key}
use Rattle.spec.specs.declared.Refusal.TheVariants.{ShortBuffer, BadCard, BadTarget, NoRoot, MissingSource, EndlessText, LongText}
use Rattle.spec.specs.Basics.{is_empty, or_else}
use Rattle.spec.specs.Limits.{least_list, max_text}
use Rattle.spec.specs.Bundle.{no_lists, bundled}
use Rattle.spec.specs.Reading.{Bound, Step, Reading, scope_at, bound_to, own_vars, seen_from, var_from, keys_of, is_phony}
use Rattle.spec.specs.Manifest.{Read, accepted, refused_with, read_manifest, with_step}
use Rattle.spec.specs.Card.{sound_card}
use Rattle.spec.specs.Targets.{bad_target}
use Rattle.spec.specs.Graph.{step_at, inputs, makers, no_root, needed, has_order, is_needed_source}
use Rattle.spec.specs.Stale.{list_of}
use Rattle.spec.specs.Text.{Spelling, as_is, key_name, of_step, lookup_by, quoted, leads_back, text_by, spelling_for, deep, name_text, name_refusal}
use Rattle.spec.specs.TextAsk.{text, no_text, name_outcome}
use Rattle.spec.specs.Headers.{no_depfile, depfile_named, depfile_at, depfile_of, Listed, nothing_listed, headed, sound_headers, with_listed, head_step, add_headers, on_headed, headers_from, stepless, with_headers, listed_of, forced, judged}
use Rattle.spec.specs.PlanAsk.{Inputs, PlanOutcome, listed, circular, no_plan, target_files, roots_of, card_time, missing_source, plan_listed, plan_sources, plan_ordered, plan_headers, plan_rooted, plan_targets, plan_read, plan_manifest, plan_ask}
use Rattle.spec.proofs.Demands.{no_bad_headers}

-- ------------------------------------------------------------------ the plan ask without header lists

unfoldable old_source : List Step → List ℕ → ℕ → Bool
unfolding makers has any needed inputs
old_source steps rs f = is_empty (makers steps f) && (has f rs || any (λ s. has f (inputs (step_at steps s))) (needed steps rs))

unfoldable old_missing : List ℕ → Reading → List ℕ → Option ℕ
unfolding find up_to old_source card_time
old_missing card rd rs = find (λ f. eqb (card_time card rd f) 0 && old_source rd.steps rs f) (up_to (length rd.files))

unfoldable old_sources : Inputs → Reading → PlanOutcome
unfolding old_missing
old_sources i rd =
    or_else (old_missing i.card rd (roots_of i rd)) (λ f. no_plan (MissingSource f)) λ _. listed (list_of rd.steps (card_time i.card rd) (roots_of i rd))

unfoldable old_ordered : Inputs → Reading → PlanOutcome
unfolding old_sources
old_ordered i rd = if_b (has_order rd.steps (roots_of i rd)) (λ _. old_sources i rd) (λ _. circular rd.steps (roots_of i rd))

unfoldable old_read : Inputs → Reading → PlanOutcome
unfolding old_ordered
old_read i rd =
    if_b (not (sound_card i.card)) (λ _. no_plan BadCard) λ _.
    or_else (bad_target rd.files i.targets) (λ place. no_plan (BadTarget place)) λ _.
    if_b (no_root rd (target_files i.targets rd)) (λ _. no_plan NoRoot) λ _. old_ordered i rd

unfoldable old_manifest : Inputs → Read → PlanOutcome
unfolding old_read
old_manifest i (refused_with r) = no_plan r
old_manifest i (accepted rd) = old_read i rd

-- the stages 11, 12, 13, 14, 15 and the list behind the reading
unfoldable pub old_ask : Inputs → ℕ → PlanOutcome
unfolding old_manifest
old_ask i room = if_b (ltb room least_list) (λ _. no_plan ShortBuffer) λ _. old_manifest i (read_manifest i.manifest)

-- ------------------------------------------------------------------ no `depfile`

abbrev named : List ℕ
named = key_name depfile_key

-- no rule has the key, no block and no scope the variable
pub record NoDepfile (rd : Reading) : Type 0 where
  pub rules : (r : List ℕ) → bound_to named (keys_of r rd.rules) ≡ none
  pub blocks : (s : ℕ) → bound_to named (step_at rd.steps s).block ≡ none
  pub scopes : (k : ℕ) → bound_to named (scope_at rd.vars.scopes k).own ≡ none

bound_none : (n : List ℕ) (l r : List Bound) → bound_to n l ≡ none → bound_to n r ≡ none → bound_to n (l ++ r) ≡ none
unfolding bound_to
bound_none n [] r a b = b
bound_none n (x ∷ l) r a b =
    split (eq_bytes n x.name) (λ (e : eq_bytes n x.name ≡ true). rw e (rw e at a))
    (λ (e : eq_bytes n x.name ≡ false). rw e (bound_none n l r (rw e at a) b))

module _ (rd : Reading) (w : NoDepfile rd) where
  own_none : (ks : List ℕ) → bound_to named (own_vars rd.vars.scopes ks) ≡ none
  unfolding own_vars bound_to
  own_none [] = refl
  own_none (k ∷ ks) = bound_none named (scope_at rd.vars.scopes k).own (own_vars rd.vars.scopes ks) (w.scopes k) (own_none ks)

  var_none : (k : ℕ) → var_from rd.vars.scopes k named ≡ []
  unfolding var_from seen_from
  var_none k = rw (own_none (k ∷ (scope_at rd.vars.scopes k).outer))

  not_of_step : (spell : Spelling) (s : Step) → of_step spell rd s named ≡ none
  unfolding of_step eq_bytes key_name
  not_of_step spell s = refl

  found_none : (spell : Spelling) (s : ℕ) → lookup_by spell rd (step_at rd.steps s) named ≡ as_is []
  unfolding lookup_by
  found_none spell s =
      rw (not_of_step spell (step_at rd.steps s), w.blocks s, w.rules (step_at rd.steps s).rule, var_none (step_at rd.steps s).scope)

  ended : (s : ℕ) → leads_back rd (step_at rd.steps s) deep [] named ≡ false
  unfolding leads_back
  ended s = rw (found_none quoted s)

  empty : (spell : Spelling) (s : ℕ) → text_by spell rd (step_at rd.steps s) deep named ≡ []
  unfolding text_by
  empty spell s = rw (found_none spell s)

  no_text_law : (s : ℕ) → name_outcome s named rd ≡ text []
  unfolding name_outcome name_refusal
  no_text_law s = outcome s (leads_back rd (step_at rd.steps s) deep [] named) (name_text rd s named) (ended s) (empty (spelling_for named) s)
    where
      outcome : (s : ℕ) (b : Bool) (t : List ℕ) → b ≡ false → t ≡ []
          → or_else (if_b b (λ _. some (EndlessText s)) (λ _. if_b (ltb max_text (length t)) (λ _. some (LongText s)) (λ _. none))) no_text (λ _. text t) ≡ text []
      outcome s b t p q = rw (p, q) refl

  no_depfile_law : (headers : List ℕ) (s : ℕ) → depfile_of headers rd s ≡ no_depfile
  unfolding depfile_of depfile_at depfile_named
  no_depfile_law headers s =
      split (is_phony (step_at rd.steps s).rule) (λ (e : is_phony (step_at rd.steps s).rule ≡ true). rw e)
      (λ (e : is_phony (step_at rd.steps s).rule ≡ false). rw (e, no_text_law s))

-- ------------------------------------------------------------------ nothing is added

nothing_more : (s : Step) → with_listed [] s ≡ s
unfolding with_listed
nothing_more s =
    ap (λ (l : List ℕ). record { outs = s.outs; ins = s.ins; implicit = l; order_only = s.order_only; rule = s.rule; block = s.block; scope = s.scope }) (append-nil s.implicit)

-- the reading with these steps
abbrev with_steps : Reading → List Step → Reading
with_steps rd l =
    record { rules = rd.rules; vars = rd.vars; files = rd.files; steps = l; defaults = rd.defaults; bindings = rd.bindings; mentions = rd.mentions; written = rd.written; opened = rd.opened }

-- a list that tells nothing of any step
abbrev pub Nothing : List Listed → Type 0
Nothing ls = (s : ℕ) → listed_of ls s ≡ nothing_listed

nothing_last : (ls : List Listed) → Nothing ls → Nothing (ls ++ (nothing_listed ∷ []))
nothing_last [] w zero = refl
nothing_last [] w (suc s) = refl
nothing_last (l ∷ ls) w zero = w zero
nothing_last (l ∷ ls) w (suc s) = nothing_last ls (λ k. w (suc k)) s

module _ (headers : List ℕ) (rd : Reading) (w : (k : ℕ) → depfile_of headers rd k ≡ no_depfile) where
  unlisted : (k : ℕ) (ss l : List Step) (ls : List Listed) → Nothing ls
      → (rs : List Listed) × Nothing rs × (headers_from headers rd k l (record { reading = with_steps rd ss; lists = ls }) ≡ headed (record { reading = with_steps rd (ss ++ l); lists = rs }))
  unfolding headers_from add_headers on_headed head_step with_step
  unlisted k ss [] ls n = (ls, n, ap (λ (l : List Step). headed (record { reading = with_steps rd l; lists = ls })) (sym (append-nil ss)))
  unlisted k ss (s ∷ l) ls n =
      let (rs, m, e) = unlisted (suc k) (ss ++ (s ∷ [])) l (ls ++ (nothing_listed ∷ [])) (nothing_last ls n) in
      (rs, m, rw (w k, nothing_more s) (e ∙ ap (λ (x : List Step). headed (record { reading = with_steps rd x; lists = rs })) (append_assoc ss (s ∷ []) l)))

  nothing_added : (rs : List Listed) × Nothing rs × (with_headers headers rd ≡ headed (record { reading = rd; lists = rs }))
  unfolding with_headers stepless
  nothing_added = unlisted 0 [] rd.steps [] (λ s. refl)

-- what is read stays as it is
pub unlisted_reading : (headers : List ℕ) (rd : Reading) → NoDepfile rd → (rs : List Listed) × Nothing rs × (with_headers headers rd ≡ headed (record { reading = rd; lists = rs }))
unlisted_reading headers rd w = nothing_added headers rd (no_depfile_law rd w headers)

-- ------------------------------------------------------------------ the plan

module _ (rd : Reading) (ls : List Listed) (n : Nothing ls) where
  not_forced : (card : ℕ → ℕ) (s : ℕ) → forced rd.steps card ls s ≡ false
  unfolding forced any
  not_forced card s = rw (n s)

  none_forced : (card : ℕ → ℕ) (l : List ℕ) → any (forced rd.steps card ls) l ≡ false
  unfolding any
  none_forced card [] = refl
  none_forced card (s ∷ l) = rw (not_forced card s) (none_forced card l)

  -- and the card's times are those that steps are judged by
  pub by_card : (card : ℕ → ℕ) → judged rd.steps card ls ≡ card
  unfolding judged
  by_card card = fun_ext (λ f. rw (none_forced card (makers rd.steps f)))

  same_ordered : (i : Inputs) → plan_ordered i rd (record { reading = rd; lists = ls }) ≡ old_ordered i rd
  unfolding plan_ordered plan_sources plan_listed missing_source is_needed_source old_ordered
  same_ordered i = rw (by_card (card_time i.card rd))

same_read : (i : Inputs) (rd : Reading) → NoDepfile rd → plan_read i rd ≡ old_read i rd
unfolding plan_read plan_targets plan_rooted plan_headers on_headed old_read
same_read i rd w =
    let (ls, n, e) = unlisted_reading i.headers rd w in
    rw (e, same_ordered rd ls n i)

-- whatever header lists are lent
pub without_depfiles : (i : Inputs) (room : ℕ) → sound_headers i.headers ≡ true → ((rd : Reading) → read_manifest i.manifest ≡ accepted rd → NoDepfile rd)
    → plan_ask i room ≡ old_ask i room
unfolding plan_ask old_ask
without_depfiles i room s w = rw (no_bad_headers i s, same_manifest (read_manifest i.manifest) refl)
  where
    same_manifest : (x : Read) → read_manifest i.manifest ≡ x → plan_manifest i x ≡ old_manifest i x
    same_manifest (refused_with r) e = refl
    same_manifest (accepted rd) e = same_read i rd (w rd e)

-- and so with the bundle of none
pub without_lists : (i : Inputs) (room : ℕ) → i.headers ≡ no_lists → ((rd : Reading) → read_manifest i.manifest ≡ accepted rd → NoDepfile rd)
    → plan_ask i room ≡ old_ask i room
unfolding sound_headers bundled
without_lists i room e w = without_depfiles i room (rw e refl) w
