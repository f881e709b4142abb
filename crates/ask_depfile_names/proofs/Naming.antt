-- The name of a depfile by the answer of the text ask: "empty means none".
use Rattle.std.specs.Prelude.{Some, None, Result, Ok, Err}
use Prim.Native.Nat.{ℕ, zero, suc, ◌≤◌}
use mathlib.Core.List.{List, [], ◌∷◌}
use mathlib.Core.Bool.{false}
use mathlib.Core.Path.{◌≡◌, refl, ◌∙◌, ap, subst}
use native.Mathlib.Omega.{arith}
use lib.ListN.{length, take}
use Rattle.spec.specs.declared.Refusal.{Refusal}
use Rattle.spec.specs.Basics.{is_empty}
use Rattle.spec.specs.TextAsk.{TextOutcome, text}
use Rattle.text_step.specs.Asks.{TextStands, AnswersText}
use Rattle.ask_depfile_names.specs.Names.{NameIs}

-- bytes that are taken are there
some_taken : (n : ℕ) (l : List ℕ) → (n ≡ 0 → ⊥) → n ≤ length l → is_empty (take n l) ≡ false
some_taken zero l z h = absurd (z refl)
some_taken (suc n) [] z h = absurd (omega arith)
some_taken (suc n) (b ∷ l) z h = refl

module _ {answer : Result ℕ Refusal} {n : ℕ} (e : answer ≡ Ok n) (o : TextOutcome) (word : List ℕ) (p : AnswersText o word answer) where
  text_stands : TextStands o n word
  unfolding AnswersText
  text_stands = subst (λ (a : Result ℕ Refusal). AnswersText o word a) e p

  pub name_none : n ≡ 0 → NameIs o word (Ok None)
  unfolding NameIs
  name_none z = text_stands.is ∙ ap (λ (k : ℕ). text (take k word)) z

  pub name_written : (n ≡ 0 → ⊥) → NameIs o word (Ok (Some n))
  unfolding NameIs
  name_written z = let q = text_stands in record { is = q.is; some = some_taken n word z q.within; within = q.within }

pub name_refused : {answer : Result ℕ Refusal} {r : Refusal} → answer ≡ Err r → (o : TextOutcome) (word : List ℕ) → AnswersText o word answer → NameIs o word (Err r)
unfolding AnswersText NameIs
name_refused e o word p = subst (λ (a : Result ℕ Refusal). AnswersText o word a) e p
