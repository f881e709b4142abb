-- The plan ask whole.
use Rattle.std.specs.Prelude.{ℕ, List, [], map, Bool, not, ◌&&◌, eqb, ltb, length, get_or}
use Rattle.std.proofs.Math.Option.{Option}
use Rattle.spec.specs.declared.Refusal.{Refusal}
use Rattle.spec.specs.declared.Refusal.TheVariants.{ShortBuffer, BadCard, BadTarget, NoRoot, MissingSource, BadHeaders}
use Rattle.lists.specs.Tests.{if_b}
use Rattle.lists.specs.Members.{find, up_to}
use Rattle.spec.specs.Basics.{or_else}
use Rattle.spec.specs.Limits.{least_list, max_bundle}
use Rattle.spec.specs.Reading.{Step, Reading, number_of}
use Rattle.spec.specs.Manifest.{Read, accepted, refused_with, read_manifest}
use Rattle.spec.specs.Bundle.{sound_bundle}
use Rattle.spec.specs.Card.{sound_card, card_entries, time_in}
use Rattle.spec.specs.Targets.{Target, targets_of, bad_target}
use Rattle.spec.specs.Graph.{roots, no_root, is_needed_source, has_order}
use Rattle.spec.specs.Stale.{list_of}
use Rattle.spec.specs.Headers.{HeaderGraph, sound_headers, on_headed, with_headers, judged}

-- what is lent to the plan ask: the manifest, the card of file times, the target list and the header lists
pub record Inputs : Type 0 where
  pub manifest : List ℕ
  pub card : List ℕ
  pub targets : List ℕ
  -- [4]
  pub headers : List ℕ

abbrev pub inputs_of : List ℕ → List ℕ → List ℕ → List ℕ → Inputs
inputs_of manifest card targets headers = record { manifest = manifest; card = card; targets = targets; headers = headers }

pub data PlanOutcome : Type 0 where
  -- the listed steps
  listed : List ℕ → PlanOutcome
  -- 14, for these steps and these roots: which circle is shown is left open
  circular : List Step → List ℕ → PlanOutcome
  no_plan : Refusal → PlanOutcome

-- the card's time of a file by number
unfoldable pub card_time : List ℕ → Reading → ℕ → ℕ
unfolding time_in card_entries
card_time card rd f = time_in (card_entries card) (get_or rd.files f [])

-- the targets by file number
unfoldable pub target_files : List ℕ → Reading → List ℕ
unfolding targets_of number_of
target_files targets rd = map (λ (t : Target). number_of t.name rd.files) (targets_of targets)

-- "a needed source is missing": "lowest file number" (15); `written` are the steps of the manifest, `rd` has the listed inputs too
unfoldable pub missing_source : List ℕ → List Step → Reading → List ℕ → Option ℕ
unfolding find up_to is_needed_source card_time
missing_source card written rd rs =
    find (λ f. eqb (card_time card rd f) 0 && is_needed_source written rd.steps rs f) (up_to (length rd.files))

-- the targets, or what stands for them: "default roots and 13 go by written inputs"
abbrev pub roots_of : Inputs → Reading → List ℕ
roots_of i rd = roots rd (target_files i.targets rd)

-- [4] the times of files by which the steps are judged
abbrev pub judged_time : Inputs → HeaderGraph → ℕ → ℕ
judged_time i h = judged h.reading.steps (card_time i.card h.reading) h.lists

-- ------------------------------------------------------------------ the checks from 11 on, each with what comes after it

-- the list: "From here demands 2 and 3 read the graph with these inputs added", where `rd` is what the manifest was read into and `h` has the inputs
unfoldable pub plan_listed : Inputs → Reading → HeaderGraph → PlanOutcome
unfolding list_of judged card_time roots target_files
plan_listed i rd h = listed (list_of h.reading.steps (judged_time i h) (roots_of i rd))

-- 15, then the list
unfoldable pub plan_sources : Inputs → Reading → HeaderGraph → PlanOutcome
unfolding missing_source roots target_files plan_listed
plan_sources i rd h = or_else (missing_source i.card rd.steps h.reading (roots_of i rd)) (λ f. no_plan (MissingSource f)) λ _. plan_listed i rd h

-- 14, then 15
unfoldable pub plan_ordered : Inputs → Reading → HeaderGraph → PlanOutcome
unfolding has_order roots target_files plan_sources
plan_ordered i rd h =
    if_b (has_order h.reading.steps (roots_of i rd)) (λ _. plan_sources i rd h) (λ _. circular h.reading.steps (roots_of i rd))

-- [4] the header lists: 16, 17 and 20 "after 13 and before 14"
unfoldable pub plan_headers : Inputs → Reading → PlanOutcome
unfolding on_headed with_headers plan_ordered
plan_headers i rd = on_headed (with_headers i.headers rd) no_plan (plan_ordered i rd)

-- 13, then the header lists
unfoldable pub plan_rooted : Inputs → Reading → PlanOutcome
unfolding no_root target_files plan_headers
plan_rooted i rd = if_b (no_root rd (target_files i.targets rd)) (λ _. no_plan NoRoot) λ _. plan_headers i rd

-- 12, then 13
unfoldable pub plan_targets : Inputs → Reading → PlanOutcome
unfolding bad_target plan_rooted
plan_targets i rd = or_else (bad_target rd.files i.targets) (λ place. no_plan (BadTarget place)) λ _. plan_rooted i rd

-- 11, then 12: "then 11 to 15 for a plan"
unfoldable pub plan_read : Inputs → Reading → PlanOutcome
unfolding sound_card plan_targets
plan_read i rd = if_b (not (sound_card i.card)) (λ _. no_plan BadCard) λ _. plan_targets i rd

-- ------------------------------------------------------------------ the ask

unfoldable pub plan_manifest : Inputs → Read → PlanOutcome
unfolding plan_read
plan_manifest i (refused_with r) = no_plan r
plan_manifest i (accepted rd) = plan_read i rd

-- [4] "a malformed bundle is 20 at 0, after such a 19 and before 2": where the manifest's bundle is malformed, its reading says 19
unfoldable pub bad_headers : Inputs → Bool
unfolding sound_bundle sound_headers
bad_headers i = sound_bundle 1 max_bundle i.manifest && not (sound_headers i.headers)

-- the outcome for these inputs and this length of the lent list buffer
unfoldable pub plan_ask : Inputs → ℕ → PlanOutcome
unfolding bad_headers plan_manifest read_manifest
plan_ask i room =
    if_b (ltb room least_list) (λ _. no_plan ShortBuffer) λ _.
    if_b (bad_headers i) (λ _. no_plan (BadHeaders 0)) λ _. plan_manifest i (read_manifest i.manifest)
