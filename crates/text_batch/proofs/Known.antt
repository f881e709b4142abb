-- What the text ask gives for one step: 8,192 bytes at most, or a refusal that is not 1; and what its answer tells of it.
use Rattle.std.specs.Prelude.{Ok, Err}
use Prim.Native.Nat.{ℕ, ◌-◌, ◌≤◌}
use native.Mathlib.Omega.{arith}
use mathlib.Core.Path.{◌≡◌, refl, sym, ap}
use mathlib.Core.Bool.{Bool, true, false, ◌||◌}
use mathlib.Core.Option.{Option, none, some}
use mathlib.Core.List.{List, []}
use lib.Dec.{leb, ltb}
use lib.ListN.{length, take}
use lib.Seq.{take_at}
use borrow.Author.Tests.{ltb-false}
use Rattle.lists.specs.Tests.{if_b}
use Rattle.lists.specs.Fill.{zeros}
use Rattle.spec.specs.declared.Refusal.{Refusal}
use Rattle.spec.specs.declared.Refusal.TheVariants.{EndlessText, LongText, NoCommand}
use Rattle.spec.specs.Basics.{or_else}
use Rattle.spec.specs.Limits.{max_text}
use Rattle.spec.specs.Answers.{Said, number_of_refusal, refusal_says, text_says}
use Rattle.spec.specs.Promises.{filled, TextMeets}
use Rattle.spec.specs.Reading.{Reading, is_phony}
use Rattle.spec.specs.Graph.{step_at}
use Rattle.spec.specs.Text.{leads_back, deep, name_text, name_refusal}
use Rattle.spec.specs.TextAsk.{TextOutcome, text, no_text, name_outcome, text_of_step}
use Rattle.spec.proofs.Answers.{refusal_not_0}
use Rattle.text_batch.specs.Batch.{IsRefused}

abbrev pub OfStep : TextOutcome → Type 0
OfStep (text t) = length t ≤ max_text
OfStep (no_text r) = 2 ≤ number_of_refusal r

either_text : (b : Bool) (x y : TextOutcome) → OfStep x → OfStep y → OfStep (if_b b (λ _. x) (λ _. y))
either_text true x y p q = p
either_text false x y p q = q

or_text : (b : Bool) (r : Refusal) (o : Option Refusal) (t : Unit {0} → List ℕ) → 2 ≤ number_of_refusal r → (b ≡ false → OfStep (or_else o no_text (λ _. text (t tt))))
    → OfStep (or_else (if_b b (λ _. some r) (λ _. o)) no_text (λ _. text (t tt)))
or_text true r o t n p = n
or_text false r o t n p = p refl

endless : (s : ℕ) → 2 ≤ number_of_refusal (EndlessText s)
unfolding number_of_refusal
endless s = omega arith

long : (s : ℕ) → 2 ≤ number_of_refusal (LongText s)
unfolding number_of_refusal
long s = omega arith

no_command : (s : ℕ) → 2 ≤ number_of_refusal (NoCommand s)
unfolding number_of_refusal
no_command s = omega arith

module _ (s : ℕ) (n : List ℕ) (rd : Reading) where
  from_16 : OfStep (name_outcome s n rd)
  unfolding name_outcome name_refusal
  from_16 =
      or_text (leads_back rd (step_at rd.steps s) deep [] n) (EndlessText s)
      (if_b (ltb max_text (length (name_text rd s n))) (λ _. some (LongText s)) (λ _. none)) (λ _. name_text rd s n) (endless s)
      λ _. or_text (ltb max_text (length (name_text rd s n))) (LongText s) none (λ _. name_text rd s n) (long s)
      (λ (e : ltb max_text (length (name_text rd s n)) ≡ false). ltb-false max_text (length (name_text rd s n)) e)

  pub of_step_law : OfStep (text_of_step s n rd)
  unfolding text_of_step
  of_step_law =
      either_text (leb (length rd.steps) s || is_phony (step_at rd.steps s).rule) (no_text (NoCommand s)) (name_outcome s n rd) (no_command s) from_16

-- ---- by the answer

-- the n bytes at the front of the buffer are the text
pub record IsWritten (o : TextOutcome) (exit : List ℕ) (n : ℕ) : Type 0 where
  pub written : List ℕ
  pub is : o ≡ text written
  pub count : n ≡ length written
  pub short : n ≤ max_text
  pub front : take n exit ≡ written

pub is_written : (o : TextOutcome) (lent : List ℕ) {exit : List ℕ} {n : ℕ} → OfStep o → TextMeets o lent (text_says (Ok n)) exit → IsWritten o exit n
unfolding TextMeets text_says refusal_says filled number_of_refusal
is_written (text t) lent {exit} {n} k p =
    let c : n ≡ length t = ap (λ (s : Said). s.value) p.says in
    record {
      written = t;
      is = refl;
      count = c;
      short = omega (arith, k, c);
      front = rw p.leaves (take_at t (zeros (length lent - length t)) n (sym c));
    }
is_written (no_text r) lent k p = absurd (refusal_not_0 r (sym (ap (λ (s : Said). s.number) p.says)))

pub is_refused : (o : TextOutcome) (lent exit : List ℕ) {r : Refusal} → OfStep o → TextMeets o lent (text_says (Err r)) exit → IsRefused o r
unfolding TextMeets text_says refusal_says number_of_refusal
is_refused (text t) lent exit {r = r} k p = absurd (refusal_not_0 r (ap (λ (s : Said). s.number) p.says))
is_refused (no_text q) lent exit k p = record { refusal = q; is = refl; says = p.says; known = k }
