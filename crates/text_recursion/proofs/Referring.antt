-- The loop over the references of a raw text, and what a name leads to by what it stands for.
use Prim.Native.Nat.{ℕ, ◌≤◌}
use mathlib.Core.List.{List, [], ◌∷◌}
use mathlib.Core.Bool.{Bool, true, false}
use mathlib.Core.Path.{◌≡◌, refl, sym, ◌∙◌, ap}
use lib.ListN.{length, drop, drop_of_length-le}
use Rattle.lists.specs.Members.{any}
use Rattle.lists.specs.Parts.{part}
use Rattle.spec.specs.Dollars.{ref, refs, refs_of}
use Rattle.spec.specs.Reading.{Step, Reading}
use Rattle.spec.specs.Text.{quoted, as_is, lookup_by, lookup}
use Rattle.scan_raw.proofs.Pieces.{pieces_end}
use Rattle.hold_bindings.specs.Log.{Logged}
use Rattle.text_references.specs.Begins.{ReferencesReady, plainly, PiecesStand}
use Rattle.text_references.proofs.Turns.{refs_bytes, refs_name, ready_on}
use Rattle.text_lookup.specs.declared.Asked.{Asked}
use Rattle.text_lookup.specs.declared.Source.{Source}
use Rattle.text_lookup.specs.declared.Source.TheVariants.{Inputs, InputLines, Outputs, Value, Text, Unset}
use Rattle.text_lookup.specs.Scope.{StepScope, meaning, LooksUp}
use Rattle.text_lookup.proofs.Standing.{ValueOf, stands_text}
use Rattle.text_recursion.specs.Depth.{leads_to}

-- ---- the loop

pub record Referring (t raw : List ℕ) (p : List ℕ → Bool) (i : ℕ) : Type 0 where
  pub ready : ReferencesReady t raw i
  pub rest : any p (refs raw) ≡ any p (refs (drop i raw))

pub refer_begin : {t raw : List ℕ} (p : List ℕ → Bool) → ReferencesReady t raw 0 → Referring t raw p 0
refer_begin p r = record { ready = r; rest = refl }

refs_none : refs [] ≡ []
unfolding refs refs_of
refs_none = ap refs_of pieces_end

module _ {t raw : List ℕ} {p : List ℕ → Bool} {i : ℕ} (x : Referring t raw p i) where
  module _ {from to next : ℕ} where
    pub refer_bytes : PiecesStand raw i from to next (plainly (part raw from to)) → Referring t raw p next
    refer_bytes b = record { ready = ready_on x.ready b; rest = x.rest ∙ ap (any p) (refs_bytes b) }

    module _ (b : PiecesStand raw i from to next (ref (part raw from to) ∷ [])) where
      pub refer_name : p (part raw from to) ≡ false → Referring t raw p next
      unfolding any
      refer_name e = record { ready = ready_on x.ready b; rest = x.rest ∙ ap (any p) (refs_name b) ∙ rw e }

      pub refer_found : p (part raw from to) ≡ true → true ≡ any p (refs raw)
      unfolding any
      refer_found e = sym (x.rest ∙ ap (any p) (refs_name b) ∙ rw e)

  pub refer_end : length raw ≤ i → false ≡ any p (refs raw)
  unfolding any
  refer_end h = sym (x.rest ∙ rw (drop_of_length-le raw {i = i} h, refs_none))

-- ---- what a name leads to

module _ {texts bind : List ℕ} {a : Asked} (n : List ℕ) {r : Source} (l : LooksUp texts bind a (λ spell rd s. lookup_by spell rd s n) r) (p : List ℕ → Bool) where
  nowhere : (rd : Reading) (s : Step) {v : List ℕ} → lookup rd s n ≡ as_is v → false ≡ leads_to rd s p n
  unfolding leads_to
  nowhere rd s e = sym (rw e)

  pub leads_text : {k : ℕ} {raw : List ℕ} {x : Bool} → r ≡ Text k → ValueOf texts bind k raw → x ≡ any p (refs raw)
      → (log : List Logged) (rd : Reading) (s : Step) → StepScope texts bind a log rd s → x ≡ leads_to rd s p n
  unfolding leads_to
  leads_text e v q log rd s c = q ∙ sym (rw (stands_text n l v c e))

  no_text : {log : List Logged} {rd : Reading} {s : Step} → StepScope texts bind a log rd s → (x : Source) → r ≡ x → ((k : ℕ) → r ≡ Text k → ⊥) → false ≡ leads_to rd s p n
  unfolding meaning
  no_text {log} {rd} {s} c Inputs e g = nowhere rd s (l.means quoted log rd s c ∙ ap (meaning quoted rd s log) e)
  no_text {log} {rd} {s} c InputLines e g = nowhere rd s (l.means quoted log rd s c ∙ ap (meaning quoted rd s log) e)
  no_text {log} {rd} {s} c Outputs e g = nowhere rd s (l.means quoted log rd s c ∙ ap (meaning quoted rd s log) e)
  no_text {log} {rd} {s} c (Value k) e g = nowhere rd s (l.means quoted log rd s c ∙ ap (meaning quoted rd s log) e)
  no_text {log} {rd} {s} c (Text k) e g = absurd (g k e)
  no_text {log} {rd} {s} c Unset e g = nowhere rd s (l.means quoted log rd s c ∙ ap (meaning quoted rd s log) e)

  -- a name that stands for no rule's text leads nowhere
  pub leads_not : {x : Source} → r ≡ x → ((k : ℕ) → x ≡ Text k → ⊥) → (log : List Logged) (rd : Reading) (s : Step) → StepScope texts bind a log rd s → false ≡ leads_to rd s p n
  leads_not e f log rd s c = no_text c r refl (λ k d. f k (sym e ∙ d))
