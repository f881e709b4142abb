-- What the text ask comes out with: a text has room in the lent buffer, and no refusal is a 14.
use Prim.Native.Nat.{ℕ, ◌≤◌}
use native.Mathlib.Omega.{arith}
use mathlib.Core.Path.{◌≡◌, refl}
use mathlib.Core.Bool.{Bool, true, false, ◌||◌}
use mathlib.Core.Option.{Option, none, some}
use mathlib.Core.List.{List, []}
use lib.Dec.{leb, ltb}
use lib.ListN.{length}
use borrow.Author.Tests.{ltb-false}
use Rattle.lists.specs.Tests.{if_b, split}
use Rattle.spec.specs.Basics.{or_else}
use Rattle.spec.specs.declared.Refusal.{Refusal}
use Rattle.spec.specs.declared.Refusal.TheVariants.{ShortBuffer, EndlessText, LongText, NoCommand}
use Rattle.spec.specs.declared.Wanted.{Wanted}
use Rattle.spec.specs.Limits.{max_text}
use Rattle.spec.specs.Answers.{number_of_refusal}
use Rattle.spec.specs.Reading.{Reading, is_phony}
use Rattle.spec.specs.Manifest.{Read, accepted, refused_with, read_manifest}
use Rattle.spec.specs.Graph.{step_at}
use Rattle.spec.specs.Text.{leads_back, deep, name_text, name_refusal}
use Rattle.spec.specs.TextAsk.{TextOutcome, text, no_text, wanted_name, name_outcome, text_of_step, text_read, text_ask}
use Rattle.spec.proofs.Manifests.{OfReading, lines, files, of_reading}

-- a refusal other than 14
abbrev pub Not14 : Refusal → Type 0
Not14 r = ¬ (number_of_refusal r ≡ 14)

pub of_read : {r : Refusal} → OfReading r → Not14 r
of_read (lines a b) e = omega (arith, b, e)
of_read (files a) e = omega (arith, a, e)

not_short : Not14 ShortBuffer
unfolding number_of_refusal
not_short e = omega arith

not_endless : (s : ℕ) → Not14 (EndlessText s)
unfolding number_of_refusal
not_endless s e = omega arith

not_long : (s : ℕ) → Not14 (LongText s)
unfolding number_of_refusal
not_long s e = omega arith

not_command : (s : ℕ) → Not14 (NoCommand s)
unfolding number_of_refusal
not_command s e = omega arith

abbrev pub TextWithin : ℕ → TextOutcome → Type 0
TextWithin room (text t) = length t ≤ room
TextWithin room (no_text r) = Not14 r

module _ (room : ℕ) where
  either_text : (b : Bool) (x y : TextOutcome) → TextWithin room x → TextWithin room y → TextWithin room (if_b b (λ _. x) (λ _. y))
  either_text true x y p q = p
  either_text false x y p q = q

  or_text : (b : Bool) (r : Refusal) (o : Option Refusal) (t : Unit {0} → List ℕ) → Not14 r → (b ≡ false → TextWithin room (or_else o no_text (λ _. text (t tt))))
      → TextWithin room (or_else (if_b b (λ _. some r) (λ _. o)) no_text (λ _. text (t tt)))
  or_text true r o t n p = n
  or_text false r o t n p = p refl

  module _ (long : max_text ≤ room) (s : ℕ) (n : List ℕ) where
    from_16 : (rd : Reading) → TextWithin room (name_outcome s n rd)
    unfolding name_outcome name_refusal
    from_16 rd =
        or_text (leads_back rd (step_at rd.steps s) deep [] n) (EndlessText s)
        (if_b (ltb max_text (length (name_text rd s n))) (λ _. some (LongText s)) (λ _. none)) (λ _. name_text rd s n) (not_endless s)
        λ _. or_text (ltb max_text (length (name_text rd s n))) (LongText s) none (λ _. name_text rd s n) (not_long s)
        (λ (e : ltb max_text (length (name_text rd s n)) ≡ false). omega (arith, long, ltb-false max_text (length (name_text rd s n)) e))

    from_18 : (rd : Reading) → TextWithin room (text_of_step s n rd)
    unfolding text_of_step
    from_18 rd =
        either_text (leb (length rd.steps) s || is_phony (step_at rd.steps s).rule) (no_text (NoCommand s)) (name_outcome s n rd) (not_command s)
        (from_16 rd)

    of_manifest : (manifest : List ℕ) (x : Read) → read_manifest manifest ≡ x → TextWithin room (text_read s n x)
    unfolding text_read
    of_manifest manifest (refused_with r) e = of_read (of_reading manifest e)
    of_manifest manifest (accepted rd) e = from_18 rd

  pub text_within : (manifest : List ℕ) (s : ℕ) (wanted : Wanted) → TextWithin room (text_ask manifest s wanted room)
  unfolding text_ask
  text_within manifest s wanted =
      split (ltb room max_text) (λ (e : ltb room max_text ≡ true). rw e not_short)
      (λ (e : ltb room max_text ≡ false). rw e (of_manifest (ltb-false room max_text e) s (wanted_name wanted) manifest (read_manifest manifest) refl))
