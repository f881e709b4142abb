-- The pieces of a raw text, turn by turn; and that what is left of a sound text is sound.
use Prim.Native.Nat.{ℕ}
use mathlib.Core.Bool.{Bool, false}
use mathlib.Core.List.{List, [], ◌∷◌}
use mathlib.Core.Option.{none, some}
use mathlib.Core.Path.{◌≡◌, refl, sym, ◌∙◌, ap}
use borrow.Author.Tests.{ne_eqb}
use Rattle.lists.specs.Tests.{differ}
use Rattle.spec.specs.Bytes.{dollar}
use Rattle.spec.specs.Dollars.{literal, joins, names, element, byte, ref, Raw, with_piece, go_on, read_raw, bad_dollar, pieces}
use Rattle.scan_dollars.specs.Element.{rest_of}
use Rattle.scan_raw.proofs.Look.{raw_end, raw_byte, raw_dollar, look, look_byte, look_past, look_wrong, sound_none, none_sound}

pub pieces_end : pieces [] ≡ []
unfolding pieces
pieces_end = ap (λ (r : Raw). r.pieces) (raw_end (λ b. false))

pub pieces_byte : (b : ℕ) (s : List ℕ) → (b ≡ dollar → ⊥) → pieces (b ∷ s) ≡ byte b ∷ pieces s
unfolding pieces with_piece
pieces_byte b s h = ap (λ (r : Raw). r.pieces) (raw_byte (λ x. false) b s refl (ne_eqb b dollar h))

module _ (s : List ℕ) where
  after_dollar : read_raw (λ b. false) (dollar ∷ s) ≡ go_on (dollar ∷ s) (element s) (read_raw (λ b. false))
  after_dollar = raw_dollar (λ b. false) dollar s refl refl

  pub pieces_literal : {b : ℕ} {r : List ℕ} → element s ≡ literal b r → pieces (dollar ∷ s) ≡ byte b ∷ pieces r
  unfolding pieces go_on with_piece
  pieces_literal e = ap (λ (r : Raw). r.pieces) after_dollar ∙ rw e

  pub pieces_join : {r : List ℕ} → element s ≡ joins r → pieces (dollar ∷ s) ≡ pieces r
  unfolding pieces go_on
  pieces_join e = ap (λ (r : Raw). r.pieces) after_dollar ∙ rw e

  pub pieces_name : {n r : List ℕ} → element s ≡ names n r → pieces (dollar ∷ s) ≡ ref n ∷ pieces r
  unfolding pieces go_on with_piece
  pieces_name e = ap (λ (r : Raw). r.pieces) after_dollar ∙ rw e

-- ---- what is left of a sound text is sound

same_sound : (s r : List ℕ) → look (λ b. false) s ≡ look (λ b. false) r → bad_dollar s ≡ none → bad_dollar r ≡ none
unfolding bad_dollar
same_sound s r e h = sound_none (λ b. false) r (sym (ap (λ (x : List ℕ × Bool). x.1) e) ∙ none_sound (λ b. false) s h)

pub sound_byte : (b : ℕ) (s : List ℕ) → (b ≡ dollar → ⊥) → bad_dollar (b ∷ s) ≡ none → bad_dollar s ≡ none
sound_byte b s n h = same_sound (b ∷ s) s (look_byte (λ x. false) b s refl (ne_eqb b dollar n)) h

module _ (s : List ℕ) (h : bad_dollar (dollar ∷ s) ≡ none) where
  pub sound_rest : (r : List ℕ) → rest_of (element s) ≡ some r → bad_dollar r ≡ none
  sound_rest r e = same_sound (dollar ∷ s) r (look_past (λ x. false) dollar s refl refl e) h

  pub sound_not_bad : rest_of (element s) ≡ none → ⊥
  unfolding bad_dollar
  sound_not_bad e =
      differ (none_sound (λ b. false) (dollar ∷ s) h) (ap (λ (x : List ℕ × Bool). x.1) (look_wrong (λ x. false) dollar s refl refl e))
