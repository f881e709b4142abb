-- The texts ask and the text ask: each text is what the text ask gives, and the leading steps are written as far as there is room, one at least.
use Prim.Native.Nat.{ℕ, zero, suc, ◌-◌, ◌≤◌, ◌<◌}
use native.Mathlib.Omega.{arith}
use mathlib.Core.Path.{◌≡◌, refl, sym, ◌∙◌, ap, subst}
use mathlib.Core.Bool.{true, false}
use mathlib.Core.List.{List, [], ◌∷◌, ◌++◌}
use lib.Dec.{leb, ltb}
use lib.ListN.{length, get_or, length-append}
use borrow.Author.Tests.{le-ltb, leb-true, ltb-true, le-leb, lt-ltb}
use Rattle.lists.specs.Tests.{if_b, split, differ, and_left, and_right}
use Rattle.spec.specs.declared.Refusal.{Refusal}
use Rattle.spec.specs.declared.Wanted.{Wanted}
use Rattle.spec.specs.Basics.{concat}
use Rattle.spec.specs.Limits.{max_text}
use Rattle.spec.specs.Manifest.{Read, accepted, refused_with, read_manifest}
use Rattle.spec.specs.TextAsk.{TextOutcome, text, no_text, wanted_name, text_read, text_ask}
use Rattle.spec.proofs.Outcomes.{TextWithin, text_within}
use Rattle.text_batch.specs.TextsAsk.{TextsOutcome, texts, no_texts, in_front, on_text, has_room, texts_from, max_end, endable, texts_read, texts_ask}

-- ------------------------------------------------------------------ by the text ask

-- "2 to 10" come first, also where no step is asked for
abbrev pub on_read : Read → (Unit {0} → TextsOutcome) → TextsOutcome
on_read (refused_with r) f = no_texts r
on_read (accepted rd) f = f tt

read_asked : (x : Read) (steps n : List ℕ) (room places : ℕ) → texts_read steps n room places x ≡ on_read x (λ _. texts_from (λ s. text_read s n x) steps room places)
unfolding texts_read text_read
read_asked (refused_with r) steps n room places = refl
read_asked (accepted rd) steps n room places = refl

one_read : (manifest : List ℕ) (s : ℕ) (wanted : Wanted) → text_read s (wanted_name wanted) (read_manifest manifest) ≡ text_ask manifest s wanted max_text
unfolding text_ask
one_read manifest s wanted = refl

-- Past 1 and the reading, the texts ask goes through the steps with the text ask itself, as it is with a buffer of 8,192 bytes.
pub each_asked : (manifest steps : List ℕ) (wanted : Wanted) (room places : ℕ) → max_text ≤ room
    → texts_ask manifest steps wanted room places ≡ on_read (read_manifest manifest) (λ _. texts_from (λ s. text_ask manifest s wanted max_text) steps (endable room) places)
unfolding texts_ask
each_asked manifest steps wanted room places h =
    rw (le-ltb room max_text h)
    (read_asked (read_manifest manifest) steps (wanted_name wanted) (endable room) places
    ∙ ap (λ (f : ℕ → TextOutcome). on_read (read_manifest manifest) (λ _. texts_from f steps (endable room) places)) (λ i. λ s. one_read manifest s wanted i))

-- ------------------------------------------------------------------ the leading steps

-- the texts of the first steps, as many as there are texts, with room for them all; and where steps are left, the text of the next has none
pub record Leading (ask : ℕ → TextOutcome) (steps : List ℕ) (room places : ℕ) (ts : List (List ℕ)) : Type 0 where
  pub few : length ts ≤ length steps
  pub each : (i : ℕ) → i < length ts → ask (get_or steps i 0) ≡ text (get_or ts i [])
  pub bytes : length (concat ts) ≤ room
  pub ends : length ts ≤ places
  pub most : length ts < length steps → (t : List ℕ) × (ask (get_or steps (length ts) 0) ≡ text t) × (has_room (room - length (concat ts)) (places - length ts) t ≡ false)

no_texts_law : {A : Type 0} {ts : List (List ℕ)} {r : Refusal} → no_texts r ≡ texts ts → A
no_texts_law e = absurd (let z : ◌≡◌ {A = ℕ} 0 1 = cc in omega arith)

same_texts : {ts us : List (List ℕ)} → texts ts ≡ texts us → ts ≡ us
same_texts e = cc

front_texts : (t : List ℕ) (o : TextsOutcome) {ts : List (List ℕ)} → in_front t o ≡ texts ts → (us : List (List ℕ)) × (o ≡ texts us) × (t ∷ us ≡ ts)
unfolding in_front
front_texts t (texts us) e = (us, refl, same_texts e)
front_texts t (no_texts r) e = no_texts_law e

module _ (ask : ℕ → TextOutcome) where
  leading_none : (steps : List ℕ) (room places : ℕ) → (0 < length steps → (t : List ℕ) × (ask (get_or steps 0 0) ≡ text t) × (has_room room places t ≡ false))
      → Leading ask steps room places []
  unfolding concat
  leading_none steps room places h =
      let x : room - 0 ≡ room = omega arith in
      let y : places - 0 ≡ places = omega arith in
      record { few = omega arith; each = λ i l. absurd (omega arith); bytes = omega arith; ends = omega arith; most = λ l. rw (x, y) (h l) }

  module _ (s : ℕ) (ss : List ℕ) (room places : ℕ) (t : List ℕ) (e : ask s ≡ text t) (f : has_room room places t ≡ true) where
    fits : (length t ≤ room) × (0 < places)
    unfolding has_room
    fits = (leb-true (length t) room (and_left (leb (length t) room) (ltb 0 places) f), ltb-true 0 places (and_right (leb (length t) room) (ltb 0 places) f))

    each_more : (us : List (List ℕ)) → Leading ask ss (room - length t) (places - 1) us → (i : ℕ) → i < suc (length us) → ask (get_or (s ∷ ss) i 0) ≡ text (get_or (t ∷ us) i [])
    each_more us l zero k = e
    each_more us l (suc i) k = l.each i (omega arith)

    leading_more : (us : List (List ℕ)) → Leading ask ss (room - length t) (places - 1) us → Leading ask (s ∷ ss) room places (t ∷ us)
    unfolding concat
    leading_more us l =
        let a : room - length t - length (concat us) ≡ room - length (t ++ concat us) = omega (arith, length-append t (concat us)) in
        let b : places - 1 - length us ≡ places - suc (length us) = omega arith in
        record {
          few = omega (arith, l.few);
          each = each_more us l;
          bytes = omega (arith, l.bytes, fits, length-append t (concat us));
          ends = omega (arith, l.ends, fits);
          most = λ k. rw (← a, ← b) (l.most (omega arith));
        }

  -- the first step's text in front of what the later steps give, or none
  leading_on : (s : ℕ) (ss : List ℕ) (room places : ℕ) (ts : List (List ℕ)) (o : TextOutcome) → ask s ≡ o
      → ((room places : ℕ) (us : List (List ℕ)) → texts_from ask ss room places ≡ texts us → Leading ask ss room places us)
      → on_text o (λ t. if_b (has_room room places t) (λ _. in_front t (texts_from ask ss (room - length t) (places - 1))) (λ _. texts [])) ≡ texts ts
      → Leading ask (s ∷ ss) room places ts
  leading_on s ss room places ts (no_text r) e rest q = no_texts_law q
  leading_on s ss room places ts (text t) e rest q =
      split (has_room room places t)
      (λ (f : has_room room places t ≡ true).
      let (us, o, z) = front_texts t (texts_from ask ss (room - length t) (places - 1)) (rw f at q) in
      subst (λ (l : List (List ℕ)). Leading ask (s ∷ ss) room places l) z (leading_more s ss room places t e f us (rest (room - length t) (places - 1) us o)))
      (λ (f : has_room room places t ≡ false).
      subst (λ (l : List (List ℕ)). Leading ask (s ∷ ss) room places l) (same_texts (rw f at q)) (leading_none (s ∷ ss) room places (λ _. (t, e, f))))

  pub from_leading : (steps : List ℕ) (room places : ℕ) (ts : List (List ℕ)) → texts_from ask steps room places ≡ texts ts → Leading ask steps room places ts
  unfolding texts_from
  from_leading [] room places ts q =
      subst (λ (l : List (List ℕ)). Leading ask [] room places l) (same_texts q) (leading_none [] room places (λ l. absurd (omega (arith, l))))
  from_leading (s ∷ ss) room places ts q =
      leading_on s ss room places ts (ask s) refl (λ room places us e. from_leading ss room places us e) q

-- ------------------------------------------------------------------ progress

endable_most : (room : ℕ) → max_text ≤ room → max_text ≤ endable room
unfolding endable
endable_most room h =
    split (leb room max_end) (λ (e : leb room max_end ≡ true). rw e h) (λ (e : leb room max_end ≡ false). rw e (omega arith))

-- A text has 8,192 bytes at most, so that the first one has room: whoever goes on from the step behind the last text gets one more or a refusal.
module _ (manifest : List ℕ) (wanted : Wanted) (room : ℕ) (h : max_text ≤ room) where
  one_fits : (s places : ℕ) {t : List ℕ} → 0 < places → text_ask manifest s wanted max_text ≡ text t → has_room (endable room) places t ≡ true
  unfolding has_room
  one_fits s places {t} p e =
      let w : TextWithin max_text (text t) = subst (TextWithin max_text) e (text_within max_text manifest s wanted) in
      rw (le-leb (length t) (endable room) (omega (arith, w, endable_most room h)), lt-ltb 0 places p)

  read_leading : (x : Read) (steps : List ℕ) (places : ℕ) (ts : List (List ℕ)) (f : Unit {0} → TextsOutcome) → on_read x f ≡ texts ts → f tt ≡ texts ts
  read_leading (refused_with r) steps places ts f e = no_texts_law e
  read_leading (accepted rd) steps places ts f e = e

  progress : {steps : List ℕ} {places : ℕ} (ts : List (List ℕ)) → Leading (λ s. text_ask manifest s wanted max_text) steps (endable room) places ts
      → 0 < length steps → 0 < places → 0 < length ts
  unfolding concat
  progress {steps} {places} [] l k p =
      let (t, e, f) = l.most k in
      let x : endable room - 0 ≡ endable room = omega arith in
      let y : places - 0 ≡ places = omega arith in
      differ (one_fits (get_or steps 0 0) places p e) (rw (x, y) at f)
  progress (t ∷ ts) l k p = omega arith

  module _ (steps : List ℕ) (places : ℕ) (ts : List (List ℕ)) (e : texts_ask manifest steps wanted room places ≡ texts ts) where
    -- the texts are those of the text ask, for the leading steps
    pub texts_leading : Leading (λ s. text_ask manifest s wanted max_text) steps (endable room) places ts
    texts_leading =
        from_leading (λ s. text_ask manifest s wanted max_text) steps (endable room) places ts
        (read_leading (read_manifest manifest) steps places ts (λ _. texts_from (λ s. text_ask manifest s wanted max_text) steps (endable room) places)
        (sym (each_asked manifest steps wanted room places h) ∙ e))

    pub texts_progress : 0 < length steps → 0 < places → 0 < length ts
    texts_progress k p = progress ts texts_leading k p
