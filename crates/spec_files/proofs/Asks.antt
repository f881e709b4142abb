-- Bundles that are read alike get the same answers, whatever is asked.
use Prim.Native.Nat.{ℕ, ◌+◌, ◌*◌, ◌<◌}
use mathlib.Core.List.{List, [], ◌∷◌, ◌++◌}
use mathlib.Core.Bool.{Bool, true, false, not, ◌||◌}
use mathlib.Core.Option.{Option, none, some}
use mathlib.Core.Path.{◌≡◌, refl, sym, ◌∙◌, ap}
use lib.Dec.{leb, ltb}
use lib.ListN.{length, set}
use Rattle.lists.specs.Tests.{if_b}
use Rattle.lists.specs.Members.{◌∉◌}
use Rattle.spec.specs.declared.Refusal.{Refusal}
use Rattle.spec.specs.declared.Refusal.TheVariants.{ShortBuffer, BadCard, BadTarget, NoRoot, MissingSource, EndlessText, LongText, NoCommand, BadHeaders}
use Rattle.spec.specs.Basics.{or_else}
use Rattle.spec.specs.Limits.{least_list, max_text, max_bundle}
use Rattle.spec.specs.Answers.{refusal_says, placed}
use Rattle.spec.specs.Bundle.{sound_bundle, bundle_names, bundle_texts, BundleRecord, record_names, record_texts, body_of, bundled}
use Rattle.spec.specs.Card.{sound_card}
use Rattle.spec.specs.Targets.{bad_target}
use Rattle.spec.specs.Graph.{no_root, has_order, step_at}
use Rattle.spec.specs.Reading.{Reading, is_phony}
use Rattle.spec.specs.Manifest.{Read}
use Rattle.spec.specs.Text.{leads_back, deep, name_text, name_refusal}
use Rattle.spec.specs.Headers.{HeaderGraph, Heading, headed, headless, on_headed, with_headers, sound_headers}
use Rattle.spec.specs.PlanAsk.{inputs_of, PlanOutcome, no_plan, target_files, missing_source, roots_of, plan_listed, plan_sources, plan_ordered, plan_headers, plan_rooted, plan_targets, plan_read, plan_manifest, bad_headers, plan_ask}
use Rattle.spec.specs.TextAsk.{TextOutcome, text, no_text, wanted_name, name_outcome, text_of_step, text_read, text_ask}
use Rattle.spec.proofs.Bundle.{names_back, texts_back}
use Rattle.spec.proofs.Headers.{OfHeaders, of_bad, headers_off}
use Rattle.answer_places.proofs.Siting.{headers_outside}
use Rattle.spec_files.specs.Opened.{opened_records, PassesBytes, SameRefusal, SameRead, both_accepted, both_refused, ReadAlike, SamePlan, both_listed, both_circular, no_plan_law, SameText, both_texts, both_no_text, AnsweredAlike}
use Rattle.spec_files.proofs.Unopened.{unopened_changes_nothing}

module _ (texts texts' : List (List ℕ)) where
  plan_either : {x x' y y' : PlanOutcome} (o : Bool) → SamePlan texts texts' x x' → SamePlan texts texts' y y'
      → SamePlan texts texts' (if_b o (λ _. x) (λ _. y)) (if_b o (λ _. x') (λ _. y'))
  plan_either true a b = a
  plan_either false a b = b

  plan_or : {y y' : PlanOutcome} (o : Option ℕ) (f : ℕ → Refusal) → ((n : ℕ) → SameRefusal texts texts' (f n) (f n)) → SamePlan texts texts' y y'
      → SamePlan texts texts' (or_else o (λ n. no_plan (f n)) (λ _. y)) (or_else o (λ n. no_plan (f n)) (λ _. y'))
  plan_or (some n) f h b = no_plan_law (h n)
  plan_or none f h b = b

  -- a refusal whose place stands in no text
  plain_short : SameRefusal texts texts' ShortBuffer ShortBuffer
  unfolding placed refusal_says
  plain_short = record { number = refl; place = refl }

  plain_card : SameRefusal texts texts' BadCard BadCard
  unfolding placed refusal_says
  plain_card = record { number = refl; place = refl }

  plain_target : (p : ℕ) → SameRefusal texts texts' (BadTarget p) (BadTarget p)
  unfolding placed refusal_says
  plain_target p = record { number = refl; place = refl }

  plain_root : SameRefusal texts texts' NoRoot NoRoot
  unfolding placed refusal_says
  plain_root = record { number = refl; place = refl }

  plain_source : (f : ℕ) → SameRefusal texts texts' (MissingSource f) (MissingSource f)
  unfolding placed refusal_says
  plain_source f = record { number = refl; place = refl }

  plain_endless : (s : ℕ) → SameRefusal texts texts' (EndlessText s) (EndlessText s)
  unfolding placed refusal_says
  plain_endless s = record { number = refl; place = refl }

  plain_long : (s : ℕ) → SameRefusal texts texts' (LongText s) (LongText s)
  unfolding placed refusal_says
  plain_long s = record { number = refl; place = refl }

  plain_command : (s : ℕ) → SameRefusal texts texts' (NoCommand s) (NoCommand s)
  unfolding placed refusal_says
  plain_command s = record { number = refl; place = refl }

  plain_headers : (r : Refusal) → OfHeaders r → SameRefusal texts texts' r r
  unfolding placed
  plain_headers r o = record { number = refl; place = rw (headers_outside r o) refl }

  module _ (s s' card targets headers : List ℕ) where
    ordered_behind : (rd : Reading) (g : HeaderGraph)
        → SamePlan texts texts' (plan_ordered (inputs_of s card targets headers) rd g) (plan_ordered (inputs_of s' card targets headers) rd g)
    unfolding plan_ordered plan_sources plan_listed
    ordered_behind rd g =
        let rs = roots_of (inputs_of s card targets headers) rd in
        plan_either (has_order g.reading.steps rs) (plan_or (missing_source card rd.steps g.reading rs) MissingSource plain_source both_listed) both_circular

    headed_behind : (rd : Reading) (x : Heading) → with_headers headers rd ≡ x
        → SamePlan texts texts' (on_headed x no_plan (plan_ordered (inputs_of s card targets headers) rd)) (on_headed x no_plan (plan_ordered (inputs_of s' card targets headers) rd))
    unfolding on_headed
    headed_behind rd (headed g) e = ordered_behind rd g
    headed_behind rd (headless r) e = no_plan_law (plain_headers r (headers_off headers rd r e))

    -- behind the reading, a plan is made of the card, the targets and the header lists alone
    plan_behind : (rd : Reading) → SamePlan texts texts' (plan_read (inputs_of s card targets headers) rd) (plan_read (inputs_of s' card targets headers) rd)
    unfolding plan_read plan_targets plan_rooted plan_headers
    plan_behind rd =
        plan_either (not (sound_card card)) (no_plan_law plain_card)
        (plan_or (bad_target rd.files targets) BadTarget plain_target
        (plan_either (no_root rd (target_files targets rd)) (no_plan_law plain_root) (headed_behind rd (with_headers headers rd) refl)))

    plan_alike : {x x' : Read} → SameRead texts texts' x x'
        → SamePlan texts texts' (plan_manifest (inputs_of s card targets headers) x) (plan_manifest (inputs_of s' card targets headers) x')
    unfolding plan_manifest
    plan_alike (both_accepted {rd}) = plan_behind rd
    plan_alike (both_refused h) = no_plan_law h

    -- sound bundles both: 20 at 0 is of the header lists alone
    headers_alike : sound_bundle 1 max_bundle s ≡ true → sound_bundle 1 max_bundle s' ≡ true → {y y' : PlanOutcome} → SamePlan texts texts' y y'
        → SamePlan texts texts' (if_b (bad_headers (inputs_of s card targets headers)) (λ _. no_plan (BadHeaders 0)) (λ _. y))
        (if_b (bad_headers (inputs_of s' card targets headers)) (λ _. no_plan (BadHeaders 0)) (λ _. y'))
    unfolding bad_headers
    headers_alike e e' h = rw (e, e') (plan_either (not (sound_headers headers)) (no_plan_law (plain_headers (BadHeaders 0) (of_bad 0))) h)

  text_either : {x x' y y' : TextOutcome} (o : Bool) → SameText texts texts' x x' → SameText texts texts' y y'
      → SameText texts texts' (if_b o (λ _. x) (λ _. y)) (if_b o (λ _. x') (λ _. y'))
  text_either true a b = a
  text_either false a b = b

  name_either : (a b : Bool) (x y : Refusal) (t : List ℕ) → SameRefusal texts texts' x x → SameRefusal texts texts' y y
      → (let o = or_else (if_b a (λ _. some x) (λ _. if_b b (λ _. some y) (λ _. none))) no_text (λ _. text t) in SameText texts texts' o o)
  name_either true b x y t g h = both_no_text g
  name_either false true x y t g h = both_no_text h
  name_either false false x y t g h = both_texts

  text_alike : (step : ℕ) (name : List ℕ) {x x' : Read} → SameRead texts texts' x x' → SameText texts texts' (text_read step name x) (text_read step name x')
  unfolding text_read text_of_step name_outcome name_refusal
  text_alike step name (both_accepted {rd}) =
      text_either (leb (length rd.steps) step || is_phony (step_at rd.steps step).rule) (both_no_text (plain_command step))
      (name_either (leads_back rd (step_at rd.steps step) deep [] name) (ltb max_text (length (name_text rd step name))) (EndlessText step) (LongText step)
      (name_text rd step name) (plain_endless step) (plain_long step))
  text_alike step name (both_refused h) = both_no_text h

pub answered_alike : (s s' : List ℕ) → PassesBytes s → PassesBytes s' → ReadAlike s s' → AnsweredAlike s s'
unfolding plan_ask text_ask
answered_alike s s' p p' h =
    let ts = bundle_texts s in
    let ts' = bundle_texts s' in
    record {
      plans = λ card targets headers room.
          plan_either ts ts' (ltb room least_list) (no_plan_law (plain_short ts ts'))
          (headers_alike ts ts' s s' card targets headers p.sound p'.sound (plan_alike ts ts' s s' card targets headers h));
      texts = λ step wanted room. text_either ts ts' (ltb room max_text) (both_no_text (plain_short ts ts')) (text_alike ts ts' step (wanted_name wanted) h);
    }

-- A record that is opened by nobody changes no answer, where 2 and 3 let the bundle pass.
pub unopened_changes_no_answer : (s s' : List ℕ) (j : ℕ) (other : List ℕ) → PassesBytes s → PassesBytes s' → bundle_names s' ≡ bundle_names s
    → bundle_texts s' ≡ set (bundle_texts s) j other → j ∉ opened_records s → AnsweredAlike s s'
unopened_changes_no_answer s s' j other p p' n t h = answered_alike s s' p p' (unopened_changes_nothing s s' j other p p' n t h)

-- ---- a bundle that is written

abbrev pub with_record : List BundleRecord → List BundleRecord → List ℕ → List ℕ → List BundleRecord
with_record before behind name bytes = before ++ record { name = name; bytes = bytes } ∷ behind

module _ (behind : List BundleRecord) (name old new : List ℕ) where
  names_stay : (before : List BundleRecord) → record_names (with_record before behind name new) ≡ record_names (with_record before behind name old)
  unfolding record_names
  names_stay [] = refl
  names_stay (r ∷ before) = ap (λ (l : List (List ℕ)). r.name ∷ l) (names_stay before)

  text_set : (before : List BundleRecord)
      → record_texts (with_record before behind name new) ≡ set (record_texts (with_record before behind name old)) (length before) new
  unfolding record_texts
  text_set [] = refl
  text_set (r ∷ before) = ap (λ (l : List (List ℕ)). r.bytes ∷ l) (text_set before)

abbrev Short : List BundleRecord → Type 0
Short rs = 16 + 16 * length rs + length (body_of rs) < 4294967296

-- The same of two bundles that are written with one name, once with this text and once with that.
pub unopened_record : (before behind : List BundleRecord) (name old new : List ℕ)
    → (let s = bundled (with_record before behind name old) in
    let s' = bundled (with_record before behind name new) in
    Short (with_record before behind name old) → Short (with_record before behind name new) → PassesBytes s → PassesBytes s'
    → length before ∉ opened_records s → AnsweredAlike s s')
unopened_record before behind name old new h h' p p' n =
    let rs = with_record before behind name old in
    let rs' = with_record before behind name new in
    unopened_changes_no_answer (bundled rs) (bundled rs') (length before) new p p'
    (names_back rs' h' ∙ names_stay behind name old new before ∙ sym (names_back rs h))
    (texts_back rs' h' ∙ text_set behind name old new before ∙ sym (ap (λ (l : List (List ℕ)). set l (length before) new) (texts_back rs h))) n
