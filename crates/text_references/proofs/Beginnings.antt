-- The piece that a raw text begins with, for each thing that can stand at a place.
use Prim.Native.Nat.{ℕ, suc, ◌+◌, ◌-◌, ◌≤◌, ◌<◌}
use mathlib.Core.Bool.{true, false}
use mathlib.Core.List.{List, [], ◌∷◌, ◌++◌}
use mathlib.Core.Option.{none}
use mathlib.Core.Path.{◌≡◌, refl, sym, ◌∙◌, ap}
use native.Mathlib.Nat.{le_refl}
use native.Mathlib.Omega.{arith}
use borrow.Author.Tests.{eqb-false}
use lib.Dec.{eqb}
use lib.ListN.{length, drop, get_or, length-drop}
use Rattle.lists.specs.Tests.{split}
use Rattle.lists.specs.Parts.{part, part_none}
use Rattle.lists.specs.Runs.{is_not, run, after_run, Reads, part_run}
use Rattle.spec.specs.Bytes.{dollar}
use Rattle.spec.specs.Dollars.{literal, joins, wrong, element, bad_dollar, pieces, byte}
use Rattle.spec.specs.Dollars as rules
use Rattle.scan_dollars.specs.Element.{rest_of, FoundElement, DollarName}
use Rattle.scan_raw.proofs.Pieces.{pieces_byte, pieces_literal, pieces_join, pieces_name, sound_not_bad}
use Rattle.expand_parts.proofs.Raw.{sound_run, literal_here, plain_forward, dollar_here, sound_here, sound_next}
use Rattle.text_references.specs.declared.Piece.{Piece}
use Rattle.text_references.specs.declared.Piece.TheVariants.{Bytes, Name}
use Rattle.text_references.specs.Begins.{plainly, BeginsPiece}

-- the bytes up to the first `$`
pieces_run : (s : List ℕ) → pieces s ≡ plainly (run (is_not dollar) s) ++ pieces (after_run (is_not dollar) s)
unfolding run after_run plainly
pieces_run [] = refl
pieces_run (b ∷ s) =
    split (eqb b dollar)
    (λ (e : eqb b dollar ≡ true). rw e)
    (λ (e : eqb b dollar ≡ false). rw e (pieces_byte b s (eqb-false b dollar e) ∙ ap (λ (l : List rules.Piece). byte b ∷ l) (pieces_run s)))

module _ (raw : List ℕ) (i : ℕ) (h : i < length raw) (s : bad_dollar (drop i raw) ≡ none) where
  pub plain_begins : {e : ℕ} → (get_or raw i 0 ≡ dollar → ⊥) → Reads (after_run (is_not dollar)) raw i e → BeginsPiece raw i (Bytes i e e)
  unfolding BeginsPiece
  plain_begins {e} d r =
      let f = plain_forward raw i h s e d r in
      record {
        ordered = r.forward;
        inside = r.within;
        forward = f;
        within = r.within;
        sound = rw r.rest (sound_run (drop i raw) s);
        gives = pieces_run (drop i raw) ∙ rw (part_run (is_not dollar) r, r.rest);
      }

  -- ---- what a `$` begins

  module _ (d : get_or raw i 0 ≡ dollar) where
    pub literal_begins : {b n : ℕ} → FoundElement raw (i + 1) n (element (drop (i + 1) raw)) (literal b (drop n raw)) → BeginsPiece raw i (Bytes (i + 1) (i + 2) n)
    unfolding BeginsPiece plainly rest_of
    literal_begins {b} {n} f =
        let l : drop (i + 1) raw ≡ b ∷ drop n raw = literal_here (drop (i + 1) raw) f.is in
        let m : length raw - (i + 1) ≡ suc (length (drop n raw)) = sym (length-drop (i + 1) raw) ∙ ap length l in
        let k : i + 2 ≤ length raw = omega arith in
        let z : i + 2 - (i + 1) ≡ 1 = omega arith in
        let p : part raw (i + 1) (i + 2) ≡ b ∷ [] = rw (z, l) in
        record {
          ordered = omega arith;
          inside = k;
          forward = omega (arith, f.forward);
          within = f.within;
          sound = sound_next raw i h s d n f.is refl;
          gives = ap pieces (dollar_here raw i h s d) ∙ pieces_literal (drop (i + 1) raw) f.is ∙ sym (rw p);
        }

    pub join_begins : {n : ℕ} → FoundElement raw (i + 1) n (element (drop (i + 1) raw)) (joins (drop n raw)) → BeginsPiece raw i (Bytes n n n)
    unfolding BeginsPiece plainly rest_of
    join_begins {n} f =
        record {
          ordered = le_refl n;
          inside = f.within;
          forward = omega (arith, f.forward);
          within = f.within;
          sound = sound_next raw i h s d n f.is refl;
          gives = ap pieces (dollar_here raw i h s d) ∙ pieces_join (drop (i + 1) raw) f.is ∙ sym (rw (part_none raw n n (le_refl n)));
        }

    pub name_begins : {a e n : ℕ} → DollarName raw (i + 1) a e n (element (drop (i + 1) raw)) → BeginsPiece raw i (Name a e n)
    unfolding BeginsPiece rest_of
    name_begins {a} {e} {n} f =
        record {
          ordered = f.ordered;
          inside = omega (arith, f.before, f.found.within);
          forward = omega (arith, f.found.forward);
          within = f.found.within;
          sound = sound_next raw i h s d n f.found.is refl;
          gives = ap pieces (dollar_here raw i h s d) ∙ pieces_name (drop (i + 1) raw) f.found.is;
        }

    pub none_begins : (p : Piece) → element (drop (i + 1) raw) ≡ wrong → BeginsPiece raw i p
    unfolding rest_of
    none_begins p e = absurd (sound_not_bad (drop (i + 1) raw) (sound_here raw i h s d) (ap rest_of e))
