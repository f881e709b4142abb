-- A place in a text is one of a sound bundle: a malformed bundle is refused with 1 or 19 at 0, and what comes behind the reading has no place in a text.
use Prim.Native.Nat.{ℕ, ◌<◌}
use mathlib.Core.Bool.{true, false}
use mathlib.Core.List.{List, [], ◌∷◌}
use mathlib.Core.Path.{◌≡◌, refl, ap}
use native.Mathlib.Omega.{arith}
use Rattle.lists.specs.Tests.{split, differ}
use Rattle.lists.specs.Members.{◌∈◌, here, there, not_in_nil}
use Rattle.spec.specs.declared.Refusal.{Refusal}
use Rattle.spec.specs.declared.Refusal.TheVariants.{ShortBuffer, LongManifest, BadByte, BadLine, BadDollar, NotYet, BadRule, BadPath, OverLimit, BadVersion, BadCard, BadTarget, NoRoot, Circle, MissingSource, EndlessText, LongText, NoCommand, BadBundle, BadOpen, BadHeaders}
use Rattle.spec.specs.declared.Wanted.{Wanted}
use Rattle.spec.specs.Limits.{max_bundle}
use Rattle.spec.specs.Answers.{Said, refusal_says, number_of_refusal}
use Rattle.spec.specs.Bundle.{sound_bundle}
use Rattle.spec.specs.Manifest.{refused_with, read_manifest}
use Rattle.spec.specs.PlanAsk.{Inputs, PlanOutcome, listed, circular, no_plan, plan_ask}
use Rattle.spec.specs.TextAsk.{TextOutcome, text, no_text, text_ask}
use Rattle.spec.specs.Promises.{PlanMeets, TextMeets}
use Rattle.spec.proofs.Headers.{OfHeaders}
use Rattle.spec.proofs.Demands.{header_number}
use Rattle.answer_places.specs.Places.{Sited}
use Rattle.answer_places.proofs.Outcomes.{PlanRefusals, plan_refuses, TextRefusals, text_refuses}

-- a refusal that has no place in a text, or refuses a sound bundle
abbrev pub SitedRefusal : List ℕ → Refusal → Type 0
SitedRefusal b r = Sited b (refusal_says r)

same_refusal : {x y : Refusal} → refused_with x ≡ refused_with y → x ≡ y
same_refusal e = cc

pub read_sited : (b : List ℕ) (r : Refusal) → read_manifest b ≡ refused_with r → SitedRefusal b r
unfolding read_manifest refusal_says
read_sited b r e t =
    split (sound_bundle 1 max_bundle b) (λ (h : sound_bundle 1 max_bundle b ≡ true). h)
    (λ (h : sound_bundle 1 max_bundle b ≡ false).
    let a : refused_with BadBundle ≡ refused_with r = rw h at e in
    let q : BadBundle ≡ r = same_refusal a in
    differ (rw (← q) at t) refl)

-- said of no text
pub sited_outside : (b : List ℕ) (s : Said) → s.text ≡ false → Sited b s
sited_outside b s e t = differ t e

-- ---- the refusals of header lists

not_19 : {n : ℕ} → n ∈ 16 ∷ 17 ∷ 20 ∷ [] → n ≡ 19 → ⊥
not_19 (here e) z = omega (arith, e, z)
not_19 (there (here e)) z = omega (arith, e, z)
not_19 (there (there (here e))) z = omega (arith, e, z)
not_19 (there (there (there h))) z = not_in_nil h

-- past 10 a place in a text is that of a 19
outside_texts : (r : Refusal) → 15 < number_of_refusal r → (number_of_refusal r ≡ 19 → ⊥) → (refusal_says r).text ≡ false
unfolding number_of_refusal refusal_says
outside_texts ShortBuffer l n = refl
outside_texts LongManifest l n = refl
outside_texts (BadByte p) l n = absurd (omega (arith, l))
outside_texts (BadLine p) l n = absurd (omega (arith, l))
outside_texts (BadDollar p) l n = absurd (omega (arith, l))
outside_texts (NotYet p) l n = absurd (omega (arith, l))
outside_texts (BadRule p) l n = absurd (omega (arith, l))
outside_texts (BadPath p) l n = absurd (omega (arith, l))
outside_texts (OverLimit p) l n = absurd (omega (arith, l))
outside_texts (BadVersion p) l n = absurd (omega (arith, l))
outside_texts BadCard l n = refl
outside_texts (BadTarget p) l n = refl
outside_texts NoRoot l n = refl
outside_texts (Circle p) l n = refl
outside_texts (MissingSource f) l n = refl
outside_texts (EndlessText s) l n = refl
outside_texts (LongText s) l n = refl
outside_texts (NoCommand s) l n = refl
outside_texts BadBundle l n = refl
outside_texts (BadOpen p) l n = absurd (n refl)
outside_texts (BadHeaders s) l n = refl

pub headers_outside : (r : Refusal) → OfHeaders r → (refusal_says r).text ≡ false
headers_outside r o = outside_texts r (header_number o) (not_19 o)

sited_headers : (b : List ℕ) (r : Refusal) → OfHeaders r → SitedRefusal b r
sited_headers b r o = sited_outside b (refusal_says r) (headers_outside r o)

module _ (b : List ℕ) where
  pub sited_plan_checks : PlanRefusals (SitedRefusal b)
  unfolding refusal_says
  sited_plan_checks =
      record {
        short = λ t. differ t refl;
        card = λ t. differ t refl;
        target = λ p t. differ t refl;
        root = λ t. differ t refl;
        headers = sited_headers b;
        source = λ f t. differ t refl;
      }

  pub sited_text_checks : TextRefusals (SitedRefusal b)
  unfolding refusal_says
  sited_text_checks =
      record {
        short = λ t. differ t refl;
        endless = λ s t. differ t refl;
        long = λ s t. differ t refl;
        no_command = λ s t. differ t refl;
      }

pub sited_same : (b : List ℕ) {s x : Said} → s ≡ x → Sited b x → Sited b s
sited_same b e h = rw e h

pub sited_text : (b : List ℕ) (s : ℕ) (wanted : Wanted) (room : ℕ) {r : Refusal} → text_ask b s wanted room ≡ no_text r → SitedRefusal b r
sited_text b s wanted room e = text_refuses (SitedRefusal b) (sited_text_checks b) b s wanted room (read_sited b) e

pub sited_plan : (i : Inputs) (room : ℕ) {r : Refusal} → plan_ask i room ≡ no_plan r → SitedRefusal i.manifest r
sited_plan i room e = plan_refuses (SitedRefusal i.manifest) i (sited_plan_checks i.manifest) room (read_sited i.manifest) e

-- ---- what the asks say

text_of : {s x : Said} → s ≡ x → s.text ≡ x.text
text_of e = ap (λ (y : Said). y.text) e

module _ (i : Inputs) (room : ℕ) (lent : List ℕ) (s : Said) (exit : List ℕ) where
  by_plan : (o : PlanOutcome) → plan_ask i room ≡ o → PlanMeets o lent s exit → Sited i.manifest s
  unfolding PlanMeets
  by_plan (listed l) e m = sited_outside i.manifest s (text_of m.says)
  by_plan (circular steps roots) e m = sited_outside i.manifest s (text_of m.shown.says)
  by_plan (no_plan r) e m = sited_same i.manifest m.says (sited_plan i room e)

  pub plan_sited : PlanMeets (plan_ask i room) lent s exit → Sited i.manifest s
  plan_sited m = by_plan (plan_ask i room) refl m

module _ (b : List ℕ) (step : ℕ) (wanted : Wanted) (room : ℕ) (lent : List ℕ) (s : Said) (exit : List ℕ) where
  by_text : (o : TextOutcome) → text_ask b step wanted room ≡ o → TextMeets o lent s exit → Sited b s
  unfolding TextMeets
  by_text (text t) e m = sited_outside b s (text_of m.says)
  by_text (no_text r) e m = sited_same b m.says (sited_text b step wanted room e)

  pub text_sited : TextMeets (text_ask b step wanted room) lent s exit → Sited b s
  text_sited m = by_text (text_ask b step wanted room) refl m
