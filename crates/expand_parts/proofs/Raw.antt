-- A place of a raw text: where its bytes up to the next `$` end, and that what follows is sound.
use Prim.Native.Nat.{ℕ, suc, ◌+◌, ◌-◌, ◌<◌}
use mathlib.Core.Bool.{true, false, not, ◌&&◌}
use mathlib.Core.List.{List, [], ◌∷◌}
use mathlib.Core.Option.{none, some}
use mathlib.Core.Path.{◌≡◌, sym, ◌∙◌, ap}
use native.Mathlib.Omega.{arith}
use borrow.Author.Tests.{ne_eqb, eqb-false}
use lib.Dec.{eqb}
use lib.ListN.{length, drop, get_or}
use Rattle.lists.specs.Tests.{split}
use Rattle.lists.specs.Parts.{part, length_part}
use Rattle.lists.specs.Runs.{is_not, run, after_run, Reads, part_run}
use Rattle.spec.specs.Basics.{is_empty}
use Rattle.spec.specs.Bytes.{newline, dollar, open_brace, close_brace, short_byte}
use Rattle.spec.specs.Dollars.{Element, literal, names, wrong, braced, element, escaped, bad_dollar}
use Rattle.spec.specs.Forms.{name_of, after_name}
use Rattle.scan_dollars.specs.Element.{rest_of}
use Rattle.scan_tokens.proofs.Places.{at_cons}
use Rattle.scan_raw.proofs.Pieces.{sound_byte, sound_rest}

pub sound_run : (s : List ℕ) → bad_dollar s ≡ none → bad_dollar (after_run (is_not dollar) s) ≡ none
unfolding after_run
sound_run [] h = h
sound_run (b ∷ s) h =
    split (eqb b dollar)
    (λ (e : eqb b dollar ≡ true). rw e h)
    (λ (e : eqb b dollar ≡ false). rw e (sound_run s (sound_byte b s (eqb-false b dollar e) h)))

-- ---- the byte of `$$`, `$ ` or `$:` is the one behind the `$`

braced_other : (n s : List ℕ) (b : ℕ) (r : List ℕ) → braced n s ≡ literal b r → ⊥
unfolding braced
braced_other n [] b r e = let z : ◌≡◌ {A = ℕ} 0 1 = cc in omega arith
braced_other n (x ∷ s) b r e =
    split (eqb x close_brace && not (is_empty n))
    (λ (t : eqb x close_brace && not (is_empty n) ≡ true). let q : names n s ≡ literal b r = rw t at e in let z : ◌≡◌ {A = ℕ} 0 1 = cc in omega arith)
    (λ (t : eqb x close_brace && not (is_empty n) ≡ false). let q : wrong ≡ literal b r = rw t at e in let z : ◌≡◌ {A = ℕ} 0 1 = cc in omega arith)

pub literal_here : (s : List ℕ) {b : ℕ} {r : List ℕ} → element s ≡ literal b r → s ≡ b ∷ r
unfolding element name_of after_name
literal_here [] e = cc
literal_here (x ∷ s) {b} {r} e =
    split (escaped x) (λ (t : escaped x ≡ true). let q : literal x s ≡ literal b r = rw t at e in cc)
    (λ (t : escaped x ≡ false).
    split (eqb x newline) (λ (u : eqb x newline ≡ true). let q = rw (t, u) at e in cc)
    (λ (u : eqb x newline ≡ false).
    split (eqb x open_brace)
    (λ (v : eqb x open_brace ≡ true). absurd (braced_other (name_of s) (after_name s) b r (rw (t, u, v) at e)))
    (λ (v : eqb x open_brace ≡ false).
    split (short_byte x) (λ (w : short_byte x ≡ true). let q = rw (t, u, v, w) at e in cc)
    (λ (w : short_byte x ≡ false). let q = rw (t, u, v, w) at e in cc))))

-- ---- at a place

module _ (raw : List ℕ) (i : ℕ) (h : i < length raw) (s : bad_dollar (drop i raw) ≡ none) where
  pub plain_forward : (e : ℕ) → (get_or raw i 0 ≡ dollar → ⊥) → Reads (after_run (is_not dollar)) raw i e → i < e
  unfolding run
  plain_forward e d r =
      let p : part raw i e ≡ run (is_not dollar) (drop i raw) = part_run (is_not dollar) r in
      let q : run (is_not dollar) (drop i raw) ≡ get_or raw i 0 ∷ run (is_not dollar) (drop (i + 1) raw) =
      rw (at_cons raw i h, ne_eqb (get_or raw i 0) dollar d) in
      let n : e - i ≡ suc (length (run (is_not dollar) (drop (i + 1) raw))) = sym (length_part raw i e r.within) ∙ ap length (p ∙ q) in
      omega arith

  -- ---- a `$`

  module _ (d : get_or raw i 0 ≡ dollar) where
    pub dollar_here : drop i raw ≡ dollar ∷ drop (i + 1) raw
    dollar_here = at_cons raw i h ∙ rw d

    pub sound_here : bad_dollar (dollar ∷ drop (i + 1) raw) ≡ none
    sound_here = rw dollar_here at s

    pub sound_next : (n : ℕ) {x : Element} → element (drop (i + 1) raw) ≡ x → rest_of x ≡ some (drop n raw) → bad_dollar (drop n raw) ≡ none
    sound_next n e p = sound_rest (drop (i + 1) raw) sound_here (drop n raw) (ap rest_of e ∙ p)
