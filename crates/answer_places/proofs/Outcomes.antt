-- What holds of each refusal that an ask gives by its definition: one walk over the checks of the plan ask, and one over those of the text ask.
use Prim.Native.Nat.{ℕ}
use mathlib.Core.Bool.{Bool, true, false, not, ◌||◌}
use mathlib.Core.List.{List, []}
use mathlib.Core.Option.{Option, none, some}
use mathlib.Core.Path.{◌≡◌, refl, subst}
use lib.Dec.{leb, ltb}
use lib.ListN.{length}
use Rattle.lists.specs.Tests.{if_b}
use Rattle.spec.specs.declared.Refusal.{Refusal}
use Rattle.spec.specs.declared.Refusal.TheVariants.{ShortBuffer, BadCard, BadTarget, NoRoot, MissingSource, EndlessText, LongText, NoCommand, BadHeaders}
use Rattle.spec.specs.declared.Wanted.{Wanted}
use Rattle.spec.specs.Basics.{or_else}
use Rattle.spec.specs.Limits.{least_list, max_text}
use Rattle.spec.specs.Reading.{Reading, is_phony}
use Rattle.spec.specs.Manifest.{Read, accepted, refused_with, read_manifest}
use Rattle.spec.specs.Card.{sound_card}
use Rattle.spec.specs.Targets.{bad_target}
use Rattle.spec.specs.Graph.{has_order, no_root, step_at}
use Rattle.spec.specs.Headers.{HeaderGraph, Heading, headed, headless, on_headed, with_headers}
use Rattle.spec.specs.PlanAsk.{Inputs, PlanOutcome, listed, circular, no_plan, target_files, roots_of, missing_source, plan_listed, plan_sources, plan_ordered, plan_headers, plan_rooted, plan_targets, plan_read, plan_manifest, bad_headers, plan_ask}
use Rattle.spec.specs.Text.{leads_back, deep, name_text, name_refusal}
use Rattle.spec.specs.TextAsk.{TextOutcome, text, no_text, wanted_name, name_outcome, text_of_step, text_read, text_ask}
use Rattle.spec.proofs.Headers.{OfHeaders, of_bad, headers_off}

-- ---- the plan ask

-- what its checks ahead of the reading and behind it refuse with
pub record PlanRefusals (P : Refusal → Type 0) : Type 0 where
  pub short : P ShortBuffer
  pub card : P BadCard
  pub target : (p : ℕ) → P (BadTarget p)
  pub root : P NoRoot
  -- 16, 17 and 20
  pub headers : (r : Refusal) → OfHeaders r → P r
  pub source : (f : ℕ) → P (MissingSource f)

module _ (P : Refusal → Type 0) where
  abbrev RefusesPlan : PlanOutcome → Type 0
  RefusesPlan (listed l) = Unit {0}
  RefusesPlan (circular steps roots) = Unit {0}
  RefusesPlan (no_plan r) = P r

  either_plan : (b : Bool) (o t : PlanOutcome) → RefusesPlan o → RefusesPlan t → RefusesPlan (if_b b (λ _. o) (λ _. t))
  either_plan true o t p q = p
  either_plan false o t p q = q

  -- a check that may refuse, ahead of the rest
  if_plan : (b : Bool) (r : Refusal) (f : Unit {0} → PlanOutcome) → P r → RefusesPlan (f tt) → RefusesPlan (if_b b (λ _. no_plan r) f)
  if_plan true r f p q = p
  if_plan false r f p q = q

  at_plan : (o : Option ℕ) (r : ℕ → Refusal) (f : Unit {0} → PlanOutcome) → ((n : ℕ) → P (r n)) → RefusesPlan (f tt) → RefusesPlan (or_else o (λ p. no_plan (r p)) f)
  at_plan none r f p q = q
  at_plan (some n) r f p q = p n

  module _ (i : Inputs) (h : PlanRefusals P) where
    ordered_plan : (rd : Reading) (g : HeaderGraph) → RefusesPlan (plan_ordered i rd g)
    unfolding plan_ordered plan_sources plan_listed
    ordered_plan rd g =
        either_plan (has_order g.reading.steps (roots_of i rd)) (plan_sources i rd g) (circular g.reading.steps (roots_of i rd))
        (at_plan (missing_source i.card rd.steps g.reading (roots_of i rd)) MissingSource (λ _. plan_listed i rd g) h.source tt) tt

    headed_plan : (rd : Reading) (x : Heading) → with_headers i.headers rd ≡ x → RefusesPlan (on_headed x no_plan (plan_ordered i rd))
    unfolding on_headed
    headed_plan rd (headed g) e = ordered_plan rd g
    headed_plan rd (headless r) e = h.headers r (headers_off i.headers rd r e)

    headers_plan : (rd : Reading) → RefusesPlan (plan_headers i rd)
    unfolding plan_headers
    headers_plan rd = headed_plan rd (with_headers i.headers rd) refl

    read_plan : (rd : Reading) → RefusesPlan (plan_read i rd)
    unfolding plan_read plan_targets plan_rooted
    read_plan rd =
        if_plan (not (sound_card i.card)) BadCard (λ _. plan_targets i rd) h.card
        (at_plan (bad_target rd.files i.targets) BadTarget (λ _. plan_rooted i rd) h.target
        (if_plan (no_root rd (target_files i.targets rd)) NoRoot (λ _. plan_headers i rd) h.root (headers_plan rd)))

    manifest_plan : (x : Read) → ((r : Refusal) → x ≡ refused_with r → P r) → RefusesPlan (plan_manifest i x)
    unfolding plan_manifest
    manifest_plan (refused_with r) m = m r refl
    manifest_plan (accepted rd) m = read_plan rd

    ask_plan : (room : ℕ) → ((r : Refusal) → read_manifest i.manifest ≡ refused_with r → P r) → RefusesPlan (plan_ask i room)
    unfolding plan_ask
    ask_plan room m =
        if_plan (ltb room least_list) ShortBuffer (λ _. if_b (bad_headers i) (λ _. no_plan (BadHeaders 0)) (λ _. plan_manifest i (read_manifest i.manifest))) h.short
        (if_plan (bad_headers i) (BadHeaders 0) (λ _. plan_manifest i (read_manifest i.manifest)) (h.headers (BadHeaders 0) (of_bad 0))
        (manifest_plan (read_manifest i.manifest) m))

    pub plan_refuses : (room : ℕ) {r : Refusal} → ((q : Refusal) → read_manifest i.manifest ≡ refused_with q → P q) → plan_ask i room ≡ no_plan r → P r
    plan_refuses room {r} m e = subst RefusesPlan e (ask_plan room m)

-- ---- the text ask

pub record TextRefusals (P : Refusal → Type 0) : Type 0 where
  pub short : P ShortBuffer
  pub endless : (s : ℕ) → P (EndlessText s)
  pub long : (s : ℕ) → P (LongText s)
  pub no_command : (s : ℕ) → P (NoCommand s)

module _ (P : Refusal → Type 0) (h : TextRefusals P) where
  abbrev RefusesText : TextOutcome → Type 0
  RefusesText (text t) = Unit {0}
  RefusesText (no_text r) = P r

  either_text : (b : Bool) (x y : TextOutcome) → RefusesText x → RefusesText y → RefusesText (if_b b (λ _. x) (λ _. y))
  either_text true x y p q = p
  either_text false x y p q = q

  or_text : (b : Bool) (r : Refusal) (o : Option Refusal) (t : Unit {0} → List ℕ) → P r → RefusesText (or_else o no_text (λ _. text (t tt)))
      → RefusesText (or_else (if_b b (λ _. some r) (λ _. o)) no_text (λ _. text (t tt)))
  or_text true r o t n p = n
  or_text false r o t n p = p

  step_text : (s : ℕ) (n : List ℕ) (rd : Reading) → RefusesText (text_of_step s n rd)
  unfolding text_of_step name_outcome name_refusal
  step_text s n rd =
      either_text (leb (length rd.steps) s || is_phony (step_at rd.steps s).rule) (no_text (NoCommand s)) (name_outcome s n rd) (h.no_command s)
      (or_text (leads_back rd (step_at rd.steps s) deep [] n) (EndlessText s)
      (if_b (ltb max_text (length (name_text rd s n))) (λ _. some (LongText s)) (λ _. none)) (λ _. name_text rd s n) (h.endless s)
      (or_text (ltb max_text (length (name_text rd s n))) (LongText s) none (λ _. name_text rd s n) (h.long s) tt))

  pub step_refuses : (s : ℕ) (n : List ℕ) (rd : Reading) {r : Refusal} → text_of_step s n rd ≡ no_text r → P r
  step_refuses s n rd e = subst RefusesText e (step_text s n rd)

  read_text : (s : ℕ) (n : List ℕ) (x : Read) → ((r : Refusal) → x ≡ refused_with r → P r) → RefusesText (text_read s n x)
  unfolding text_read
  read_text s n (refused_with r) m = m r refl
  read_text s n (accepted rd) m = step_text s n rd

  ask_text : (manifest : List ℕ) (s : ℕ) (wanted : Wanted) (room : ℕ) → ((r : Refusal) → read_manifest manifest ≡ refused_with r → P r) → RefusesText (text_ask manifest s wanted room)
  unfolding text_ask
  ask_text manifest s wanted room m =
      either_text (ltb room max_text) (no_text ShortBuffer) (text_read s (wanted_name wanted) (read_manifest manifest)) h.short
      (read_text s (wanted_name wanted) (read_manifest manifest) m)

  pub text_refuses : (manifest : List ℕ) (s : ℕ) (wanted : Wanted) (room : ℕ) {r : Refusal} → ((q : Refusal) → read_manifest manifest ≡ refused_with q → P q)
      → text_ask manifest s wanted room ≡ no_text r → P r
  text_refuses manifest s wanted room m e = subst RefusesText e (ask_text manifest s wanted room m)
