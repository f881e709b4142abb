-- What three numbers tell: an ask's answer with its place among the lent texts, or a status line's.
use Rattle.std.specs.Prelude.{Result, Ok, Err}
use Prim.Native.Nat.{ℕ}
use mathlib.Core.Bool.{true, false}
use mathlib.Core.List.{List, []}
use mathlib.Core.Path.{◌≡◌, refl, subst}
use lib.ListN.{length}
use Rattle.lists.specs.Tests.{split}
use Rattle.spec.specs.declared.Refusal.{Refusal}
use Rattle.spec.specs.declared.Wanted.{Wanted}
use Rattle.spec.specs.Answers.{Said, plain, spot, placed, text_says}
use Rattle.spec.specs.Bundle.{bundle_texts}
use Rattle.spec.specs.PlanAsk.{Inputs}
use Rattle.spec.specs.Demands.{PlanDemands, TextDemands}
use Rattle.answers.specs.declared.Numbers.{Numbers}
use Rattle.answers.specs.declared.Placed.{Placed}
use Rattle.answers.specs.Numbers.{said}
use Rattle.text_batch.specs.TextsAsk.{texts_ask}
use Rattle.text_batch.specs.TextsPromise.{texts_says, TextsMeets}
use Rattle.answer_places.specs.Places.{HasPlace, PlacedIn, Sited}
use Rattle.answer_places.proofs.Placing.{placed_sited}
use Rattle.answer_places.proofs.Siting.{plan_sited, text_sited}
use Rattle.kestrenyo.specs.Tells.{Tells}
use Rattle.kestrenyo.proofs.Batches.{texts_sited}

tells_sited : (b : List ℕ) {Right : Said → Type 0} (n : Numbers) {s : Said} {r : Placed} → said n ≡ s → PlacedIn b (said n) r → Sited b s → Right s → Tells (bundle_texts b) Right r
tells_sited b n {s} {r} e p h w =
    let q : PlacedIn b s r = subst (λ (x : Said). PlacedIn b x r) e p in
    record { says = s; right = w; told = rw (placed_sited b s h) at q }

pub tells_plan : {i : Inputs} {lent exit : List ℕ} (n : Numbers) {s : Said} {r : Placed} → said n ≡ s → PlacedIn i.manifest (said n) r → PlanDemands i lent s exit
    → Tells (bundle_texts i.manifest) (λ x. PlanDemands i lent x exit) r
tells_plan {i} {lent} {exit} n {s} e p d = tells_sited i.manifest n e p (plan_sited i (length lent) lent s exit d.promise) d

pub tells_text : {b : List ℕ} {step : ℕ} {wanted : Wanted} {lent exit : List ℕ} (n : Numbers) {s : Said} {r : Placed} → said n ≡ s → PlacedIn b (said n) r
    → TextDemands b step wanted lent s exit → Tells (bundle_texts b) (λ x. TextDemands b step wanted lent x exit) r
tells_text {b} {step} {wanted} {lent} {exit} n {s} e p d = tells_sited b n e p (text_sited b step wanted (length lent) lent s exit d.promise) d

-- many texts are answered as one is
pub says_texts : (a : Result ℕ Refusal) → text_says a ≡ texts_says a
unfolding text_says texts_says
says_texts (Ok n) = refl
says_texts (Err r) = refl

pub tells_texts : (b steps : List ℕ) (wanted : Wanted) (room places : ℕ) (bytes ends bytes_exit ends_exit : List ℕ) (n : Numbers) (s : Said) {r : Placed} → said n ≡ s
    → PlacedIn b (said n) r → TextsMeets (texts_ask b steps wanted room places) bytes ends s bytes_exit ends_exit
    → Tells (bundle_texts b) (λ x. TextsMeets (texts_ask b steps wanted room places) bytes ends x bytes_exit ends_exit) r
tells_texts b steps wanted room places bytes ends bytes_exit ends_exit n s e p m =
    tells_sited b n e p (texts_sited b steps wanted room places bytes ends s bytes_exit ends_exit m) m

-- ---- a status line

no_texts_law : (s : Said) → plain s.value ≡ placed [] s
unfolding placed spot
no_texts_law s = split s.text (λ (e : s.text ≡ true). rw e refl) (λ (e : s.text ≡ false). rw e refl)

pub tells_outside : {Right : Said → Type 0} (n : Numbers) {r : Placed} → HasPlace (said n).number (plain (said n).value) r → Right (said n) → Tells [] Right r
tells_outside n p w = record { says = said n; right = w; told = rw (no_texts_law (said n)) at p }
