-- The texts ask whole: the texts of many steps from one reading. No text is defined here: each is what the text ask gives (`each_asked` of proofs/Asked).
use Rattle.std.specs.Prelude.{ℕ, ◌+◌, ◌-◌, List, [], ◌∷◌, Bool, ◌&&◌, leb, ltb, length}
use Rattle.lists.specs.Tests.{if_b}
use Rattle.spec.specs.declared.Refusal.{Refusal}
use Rattle.spec.specs.declared.Refusal.TheVariants.{ShortBuffer}
use Rattle.spec.specs.declared.Wanted.{Wanted}
use Rattle.spec.specs.Limits.{max_text}
use Rattle.spec.specs.Manifest.{Read, accepted, refused_with, read_manifest}
use Rattle.spec.specs.TextAsk.{TextOutcome, text, no_text, wanted_name, text_of_step}

pub data TextsOutcome : Type 0 where
  texts : List (List ℕ) → TextsOutcome
  no_texts : Refusal → TextsOutcome

-- a text in front of those of the later steps
unfoldable pub in_front : List ℕ → TextsOutcome → TextsOutcome
in_front t (texts ts) = texts (t ∷ ts)
in_front t (no_texts r) = no_texts r

abbrev pub on_text : TextOutcome → (List ℕ → TextsOutcome) → TextsOutcome
on_text (text t) f = f t
on_text (no_text r) f = no_texts r

-- the text has room in what is left of the bytes, and its end in what is left of the numbers
unfoldable pub has_room : ℕ → ℕ → List ℕ → Bool
has_room room places t = leb (length t) room && ltb 0 places

-- The steps in their order, by what the text ask gives for each. The first that has a refusal refuses them all. At the first whose text has no room the walk stops, and
-- later steps are not looked at.
unfoldable pub texts_from : (ℕ → TextOutcome) → List ℕ → ℕ → ℕ → TextsOutcome
unfolding in_front has_room
texts_from ask [] room places = texts []
texts_from ask (s ∷ ss) room places =
    on_text (ask s) λ t.
    if_b (has_room room places t) (λ _. in_front t (texts_from ask ss (room - length t) (places - 1))) (λ _. texts [])

-- An end is a number of 32 bits, so that bytes of a longer buffer stay zero.
abbrev pub max_end : ℕ
max_end = 0xffff_ffff

unfoldable pub endable : ℕ → ℕ
endable room = if_b (leb room max_end) (λ _. room) (λ _. max_end)

unfoldable pub texts_read : List ℕ → List ℕ → ℕ → ℕ → Read → TextsOutcome
unfolding texts_from text_of_step
texts_read steps n room places (refused_with r) = no_texts r
texts_read steps n room places (accepted rd) = texts_from (λ s. text_of_step s n rd) steps room places

-- the outcome for this manifest, list of step numbers, name wanted, and lengths of the lent buffers of bytes and of numbers
unfoldable pub texts_ask : List ℕ → List ℕ → Wanted → ℕ → ℕ → TextsOutcome
unfolding texts_read wanted_name read_manifest endable
texts_ask manifest steps wanted room places =
    if_b (ltb room max_text) (λ _. no_texts ShortBuffer) λ _.
    texts_read steps (wanted_name wanted) (endable room) places (read_manifest manifest)

-- where each text ends, the first beginning at a place
unfoldable pub ends_from : ℕ → List (List ℕ) → List ℕ
ends_from at [] = []
ends_from at (t ∷ ts) = (at + length t) ∷ ends_from (at + length t) ts
