-- What the texts ask says has a place in a text only of a sound bundle, as what the text ask says of each step.
use Prim.Native.Nat.{ℕ, ◌-◌}
use mathlib.Core.Bool.{Bool, true, false}
use mathlib.Core.List.{List, [], ◌∷◌}
use mathlib.Core.Path.{◌≡◌, refl, subst, ap}
use lib.Dec.{ltb}
use lib.ListN.{length}
use Rattle.lists.specs.Tests.{if_b}
use Rattle.spec.specs.declared.Refusal.{Refusal}
use Rattle.spec.specs.declared.Refusal.TheVariants.{ShortBuffer}
use Rattle.spec.specs.declared.Wanted.{Wanted}
use Rattle.spec.specs.Limits.{max_text}
use Rattle.spec.specs.Answers.{Said}
use Rattle.spec.specs.Manifest.{Read, accepted, refused_with, read_manifest}
use Rattle.spec.specs.TextAsk.{TextOutcome, text, no_text, wanted_name, text_of_step}
use Rattle.text_batch.specs.TextsAsk.{TextsOutcome, texts, no_texts, in_front, on_text, has_room, texts_from, endable, texts_read, texts_ask}
use Rattle.text_batch.specs.TextsPromise.{TextsMeets}
use Rattle.answer_places.specs.Places.{Sited}
use Rattle.answer_places.proofs.Outcomes.{TextRefusals, step_refuses}
use Rattle.answer_places.proofs.Siting.{SitedRefusal, read_sited, sited_outside, sited_same, sited_text_checks}

module _ (P : Refusal → Type 0) where
  abbrev RefusesTexts : TextsOutcome → Type 0
  RefusesTexts (texts ts) = Unit {0}
  RefusesTexts (no_texts r) = P r

  either_texts : (b : Bool) (x y : TextsOutcome) → RefusesTexts x → RefusesTexts y → RefusesTexts (if_b b (λ _. x) (λ _. y))
  either_texts true x y p q = p
  either_texts false x y p q = q

  front_texts : (t : List ℕ) (o : TextsOutcome) → RefusesTexts o → RefusesTexts (in_front t o)
  unfolding in_front
  front_texts t (texts ts) p = tt
  front_texts t (no_texts r) p = p

  on_text_law : (o : TextOutcome) (f : List ℕ → TextsOutcome) → ((r : Refusal) → o ≡ no_text r → P r) → ((t : List ℕ) → RefusesTexts (f t)) → RefusesTexts (on_text o f)
  on_text_law (text t) f m q = q t
  on_text_law (no_text r) f m q = m r refl

  from_steps : (ask : ℕ → TextOutcome) → ((s : ℕ) (r : Refusal) → ask s ≡ no_text r → P r) → (ss : List ℕ) (room places : ℕ) → RefusesTexts (texts_from ask ss room places)
  unfolding texts_from
  from_steps ask m [] room places = tt
  from_steps ask m (s ∷ ss) room places =
      on_text_law (ask s) (λ t. if_b (has_room room places t) (λ _. in_front t (texts_from ask ss (room - length t) (places - 1))) (λ _. texts [])) (m s)
      (λ (t : List ℕ). either_texts (has_room room places t) (in_front t (texts_from ask ss (room - length t) (places - 1))) (texts [])
      (front_texts t (texts_from ask ss (room - length t) (places - 1)) (from_steps ask m ss (room - length t) (places - 1))) tt)

  module _ (h : TextRefusals P) where
    read_texts : (steps n : List ℕ) (room places : ℕ) (x : Read) → ((r : Refusal) → x ≡ refused_with r → P r) → RefusesTexts (texts_read steps n room places x)
    unfolding texts_read
    read_texts steps n room places (refused_with r) m = m r refl
    read_texts steps n room places (accepted rd) m = from_steps (λ s. text_of_step s n rd) (λ s r e. step_refuses P h s n rd e) steps room places

    ask_texts : (b steps : List ℕ) (wanted : Wanted) (room places : ℕ) → ((r : Refusal) → read_manifest b ≡ refused_with r → P r)
        → RefusesTexts (texts_ask b steps wanted room places)
    unfolding texts_ask
    ask_texts b steps wanted room places m =
        either_texts (ltb room max_text) (no_texts ShortBuffer) (texts_read steps (wanted_name wanted) (endable room) places (read_manifest b)) h.short
        (read_texts steps (wanted_name wanted) (endable room) places (read_manifest b) m)

module _ (b steps : List ℕ) (wanted : Wanted) (room places : ℕ) (bytes ends : List ℕ) (s : Said) (bytes_exit ends_exit : List ℕ) where
  by_texts : (o : TextsOutcome) → texts_ask b steps wanted room places ≡ o → TextsMeets o bytes ends s bytes_exit ends_exit → Sited b s
  unfolding TextsMeets
  by_texts (texts ts) e m = sited_outside b s (ap (λ (x : Said). x.text) m.says)
  by_texts (no_texts r) e m =
      sited_same b m.says
      (subst (RefusesTexts (SitedRefusal b)) e (ask_texts (SitedRefusal b) (sited_text_checks b) b steps wanted room places (read_sited b)))

  pub texts_sited : TextsMeets (texts_ask b steps wanted room places) bytes ends s bytes_exit ends_exit → Sited b s
  texts_sited m = by_texts (texts_ask b steps wanted room places) refl m
