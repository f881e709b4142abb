-- The promises can be kept on every input, and they fix every outcome but the circle.
use Rattle.std.specs.Prelude.{Result, Ok, Err}
use Prim.Native.Nat.{ℕ, ◌-◌}
use native.Mathlib.Omega.{arith}
use mathlib.Core.Path.{◌≡◌, refl, sym, ◌∙◌}
use mathlib.Core.Bool.{Bool, true, false, not}
use mathlib.Core.Option.{Option, none, some}
use mathlib.Core.List.{List, []}
use lib.Dec.{ltb}
use lib.ListN.{length}
use Rattle.lists.specs.Tests.{if_b, split}
use Rattle.spec.specs.Basics.{or_else}
use Rattle.lists.specs.Fill.{zeroed, zeroed_all}
use Rattle.orders.specs.Circle.{circle_of}
use Rattle.spec.specs.declared.Refusal.{Refusal}
use Rattle.spec.specs.declared.Refusal.TheVariants.{BadCard, BadTarget, NoRoot, Circle, MissingSource, BadHeaders}
use Rattle.spec.specs.declared.Wanted.{Wanted}
use Rattle.spec.specs.Limits.{least_list}
use Rattle.spec.specs.Reading.{Step, Reading}
use Rattle.spec.specs.Manifest.{Read, accepted, refused_with, read_manifest}
use Rattle.spec.specs.Card.{sound_card}
use Rattle.spec.specs.Targets.{bad_target}
use Rattle.spec.specs.Graph.{before, needed, has_order, no_root}
use Rattle.spec.specs.PlanAsk.{Inputs, PlanOutcome, listed, circular, no_plan, roots_of, target_files, missing_source, plan_listed, plan_sources, plan_ordered, plan_headers, plan_rooted, plan_targets, plan_read, plan_manifest, bad_headers, plan_ask}
use Rattle.spec.specs.Headers.{HeaderGraph, Heading, headed, headless, on_headed, with_headers}
use Rattle.spec.specs.TextAsk.{TextOutcome, text, no_text, text_ask}
use Rattle.spec.specs.Answers.{Said, plan_says, text_says}
use Rattle.spec.specs.Promises.{filled, left_by, AnswerIs, PlanMeets, PlanPromise, TextMeets, TextPromise}
use Rattle.spec.proofs.GraphWords.{some_circle}

-- a buffer that is cleared
pub cleared : (lent : List ℕ) → zeroed lent 0 (length lent) ≡ filled [] lent
unfolding filled
cleared lent = let z : length lent - 0 ≡ length lent = omega arith in zeroed_all lent ∙ rw z

-- an outcome that is a circle has no order
abbrev Sound : PlanOutcome → Type 0
Sound (listed l) = Unit {0}
Sound (circular steps roots) = has_order steps roots ≡ false
Sound (no_plan r) = Unit {0}

-- a check before it does not matter
after_test : (b : Bool) (r : Refusal) (f : Unit {0} → PlanOutcome) → Sound (f tt) → Sound (if_b b (λ _. no_plan r) f)
after_test true r f s = tt
after_test false r f s = s

after_place : (o : Option ℕ) (r : ℕ → Refusal) (f : Unit {0} → PlanOutcome) → Sound (f tt) → Sound (or_else o (λ p. no_plan (r p)) f)
after_place none r f s = s
after_place (some p) r f s = tt

module _ (i : Inputs) (rd : Reading) where
  sources_sound : (h : HeaderGraph) → Sound (plan_sources i rd h)
  unfolding plan_sources plan_listed
  sources_sound h = after_place (missing_source i.card rd.steps h.reading (roots_of i rd)) MissingSource (λ _. plan_listed i rd h) tt

  ordered_sound : (h : HeaderGraph) → Sound (plan_ordered i rd h)
  unfolding plan_ordered
  ordered_sound h =
      let o = has_order h.reading.steps (roots_of i rd) in
      split o (λ (e : o ≡ true). rw e (sources_sound h)) (λ (e : o ≡ false). rw e e)

  headed_sound : (x : Heading) → Sound (on_headed x no_plan (plan_ordered i rd))
  unfolding on_headed
  headed_sound (headed h) = ordered_sound h
  headed_sound (headless r) = tt

  read_sound : Sound (plan_read i rd)
  unfolding plan_read plan_targets plan_rooted plan_headers
  read_sound =
      after_test (not (sound_card i.card)) BadCard (λ _. plan_targets i rd)
      (after_place (bad_target rd.files i.targets) BadTarget (λ _. plan_rooted i rd)
      (after_test (no_root rd (target_files i.targets rd)) NoRoot (λ _. plan_headers i rd) (headed_sound (with_headers i.headers rd))))

manifest_sound : (i : Inputs) (r : Read) → Sound (plan_manifest i r)
unfolding plan_manifest
manifest_sound i (refused_with r) = tt
manifest_sound i (accepted rd) = read_sound i rd

ask_sound : (i : Inputs) (room : ℕ) → Sound (plan_ask i room)
unfolding plan_ask
ask_sound i room =
    split (ltb room least_list) (λ (e : ltb room least_list ≡ true). rw e tt)
    (λ (e : ltb room least_list ≡ false). rw e (after_test (bad_headers i) (BadHeaders 0) (λ _. plan_manifest i (read_manifest i.manifest)) (manifest_sound i (read_manifest i.manifest))))

plan_kept : (o : PlanOutcome) (lent : List ℕ) → Sound o → (answer : Result ℕ Refusal) × (exit : List ℕ) × PlanMeets o lent (plan_says answer) exit
unfolding PlanMeets plan_says
plan_kept (listed l) lent s = (Ok (length l), filled l lent, record { says = refl; leaves = refl })
plan_kept (circular steps roots) lent s =
    let c = circle_of (needed steps roots) (before steps) in
    (Err (Circle (length c)), filled c lent, record { circle = c; real = some_circle steps roots s; shown = record { says = refl; leaves = refl } })
plan_kept (no_plan r) lent s = (Err r, left_by r lent, record { says = refl; leaves = refl })

text_kept : (o : TextOutcome) (lent : List ℕ) → (answer : Result ℕ Refusal) × (exit : List ℕ) × TextMeets o lent (text_says answer) exit
unfolding TextMeets text_says
text_kept (text t) lent = (Ok (length t), filled t lent, record { says = refl; leaves = refl })
text_kept (no_text r) lent = (Err r, left_by r lent, record { says = refl; leaves = refl })

-- on every input some answer meets the promise
pub plan_possible : (i : Inputs) (lent : List ℕ) → (answer : Result ℕ Refusal) × (exit : List ℕ) × PlanPromise i lent answer exit
plan_possible i lent = plan_kept (plan_ask i (length lent)) lent (ask_sound i (length lent))

pub text_possible : (manifest : List ℕ) (step : ℕ) (wanted : Wanted) (lent : List ℕ) → (answer : Result ℕ Refusal) × (exit : List ℕ) × TextPromise manifest step wanted lent answer exit
text_possible manifest step wanted lent = text_kept (text_ask manifest step wanted (length lent)) lent

-- what is said is the same, and the buffer is
pub record Same (a b : Said) (x y : List ℕ) : Type 0 where
  pub said : a ≡ b
  pub buffer : x ≡ y

is_same : {a b r : Said} {x y l : List ℕ} → AnswerIs a x r l → AnswerIs b y r l → Same a b x y
is_same p q = record { said = p.says ∙ sym q.says; buffer = p.leaves ∙ sym q.leaves }

-- a plan that is no circle is fixed, and so is its buffer
plan_fixed : (o : PlanOutcome) (lent : List ℕ) (a b : Said) (x y : List ℕ) → ((steps : List Step) (roots : List ℕ) → ¬ (o ≡ circular steps roots))
    → PlanMeets o lent a x → PlanMeets o lent b y → Same a b x y
unfolding PlanMeets
plan_fixed (listed l) lent a b x y n p q = is_same p q
plan_fixed (circular steps roots) lent a b x y n p q = absurd (n steps roots refl)
plan_fixed (no_plan r) lent a b x y n p q = is_same p q

pub plan_unique : (i : Inputs) (lent : List ℕ) (a b : Result ℕ Refusal) (x y : List ℕ)
    → ((steps : List Step) (roots : List ℕ) → ¬ (plan_ask i (length lent) ≡ circular steps roots))
    → PlanPromise i lent a x → PlanPromise i lent b y → Same (plan_says a) (plan_says b) x y
plan_unique i lent a b x y n p q = plan_fixed (plan_ask i (length lent)) lent (plan_says a) (plan_says b) x y n p q

-- every text is fixed
text_fixed : (o : TextOutcome) (lent : List ℕ) (a b : Said) (x y : List ℕ) → TextMeets o lent a x → TextMeets o lent b y → Same a b x y
unfolding TextMeets
text_fixed (text t) lent a b x y p q = is_same p q
text_fixed (no_text r) lent a b x y p q = is_same p q

pub text_unique : (manifest : List ℕ) (step : ℕ) (wanted : Wanted) (lent : List ℕ) (a b : Result ℕ Refusal) (x y : List ℕ)
    → TextPromise manifest step wanted lent a x → TextPromise manifest step wanted lent b y → Same (text_says a) (text_says b) x y
text_unique manifest step wanted lent a b x y p q = text_fixed (text_ask manifest step wanted (length lent)) lent (text_says a) (text_says b) x y p q
