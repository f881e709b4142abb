-- The column of times, filled from the front.
use Prim.Native.Nat.{ℕ, suc, ◌+◌, ◌≤◌, ◌<◌}
use mathlib.Core.Bool.{true}
use mathlib.Core.List.{List, [], ◌∷◌, ◌++◌}
use mathlib.Core.Path.{◌≡◌, refl, sym, ◌∙◌, ap}
use native.Mathlib.Numerals.{add-one}
use native.Mathlib.Omega.{arith}
use lib.ListN.{length, take, drop, get_or, set, length-set, length-take}
use lib.Seq.{take_all, take-suc, drop-cons, set-append_seam, append_snoc}
use Rattle.spec.specs.Card.{sound_card, card_entries, time_in}
use Rattle.hold_names.specs.Table.{HoldsNames, SoundNames, NamesFile}
use Rattle.ask_file_times.specs.Times.{TimesAsked, times_of, Timed}

module _ (card : List ℕ) where
  times_append : (a b : List (List ℕ)) → times_of card (a ++ b) ≡ times_of card a ++ times_of card b
  unfolding times_of
  times_append [] b = refl
  times_append (x ∷ a) b = ap (λ (l : List ℕ). time_in (card_entries card) x ∷ l) (times_append a b)

  length_times : (a : List (List ℕ)) → length (times_of card a) ≡ length a
  unfolding times_of
  length_times [] = refl
  length_times (x ∷ a) = ap suc (length_times a)

-- the times of the files below f are there
pub record Filling (card names index : List ℕ) (count : ℕ) (start : List ℕ) (f : ℕ) (times : List ℕ) : Type 0 where
  pub sound : sound_card card ≡ true
  pub named : SoundNames names index count
  pub room : count ≤ length times
  pub same : length times ≡ length start
  pub low : f ≤ count
  pub begun : (files : List (List ℕ)) → HoldsNames names index count files → times ≡ times_of card (take f files) ++ drop f start

module _ {card names index : List ℕ} {count : ℕ} {start : List ℕ} where
  pub fill_begin : TimesAsked card names index count start → Filling card names index count start 0 start
  unfolding times_of
  fill_begin a =
      record { sound = a.sound; named = a.named; room = a.room; same = refl; low = omega arith; begun = λ files h. refl }

  pub fill_more : {f : ℕ} {times n : List ℕ} → Filling card names index count start f times → f < count → NamesFile names index count f n
      → {t : ℕ} → t ≡ time_in (card_entries card) n → Filling card names index count start (f + 1) (set times f t)
  unfolding times_of
  fill_more {f} {times} {n} w l a {t} e =
      record {
        sound = w.sound;
        named = w.named;
        room = simp length-set w.room;
        same = simp length-set w.same;
        low = omega arith;
        begun = λ files h.
            let k : f < length files = omega (arith, h.counted) in
            let i : length (times_of card (take f files)) ≡ f = length_times card (take f files) ∙ simp length-take (omega arith) in
            let j : f < length start = omega (arith, w.same, w.room) in
            let s : drop f start ≡ get_or start f 0 ∷ drop (suc f) start = drop-cons start f 0 j in
            let x : times ≡ times_of card (take f files) ++ get_or start f 0 ∷ drop (suc f) start = w.begun files h ∙ ap (λ (r : List ℕ). times_of card (take f files) ++ r) s in
            let y : set times f t ≡ set (times_of card (take f files) ++ get_or start f 0 ∷ drop (suc f) start) (length (times_of card (take f files))) t = rw (i, x) in
            let z : set times f t ≡ times_of card (take f files) ++ t ∷ drop (suc f) start = y ∙ set-append_seam (times_of card (take f files)) (get_or start f 0) (drop (suc f) start) t in
            let v : t ≡ time_in (card_entries card) (get_or files f []) = e ∙ ap (time_in (card_entries card)) (a.answer files h) in
            z ∙ rw (add-one f, take-suc files f [] k, times_append card (take f files) (get_or files f [] ∷ []), v) (sym (append_snoc (times_of card (take f files)) (time_in (card_entries card) (get_or files f [])) (drop (suc f) start)));
      }

  pub fill_end : {f : ℕ} {times : List ℕ} → Filling card names index count start f times → count ≤ f → Timed card names index count start times
  fill_end {f} w l =
      record {
        filled = λ files h.
            let z : f ≡ count = omega (arith, w.low) in
            w.begun files h ∙ rw (z, take_all count files (omega (arith, h.counted)));
      }
