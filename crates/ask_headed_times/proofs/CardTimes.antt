-- The times of the files by number are the card's, of files without a number too.
use Prim.Native.Nat.{ℕ, ◌+◌, ◌≤◌, ◌<◌}
use native.Mathlib.Decide.{dec_lt}
use native.Mathlib.Nat.{not-suc-le-zero}
use native.Mathlib.Omega.{arith}
use mathlib.Core.Path.{◌≡◌, refl, sym, ap, ◌∙◌}
use mathlib.Core.Bool.{true, false}
use mathlib.Core.List.{List, [], ◌∷◌}
use lib.Seq.{drop-drop}
use lib.ListN.{length, get_or, take, drop, length-take, length-drop, get_or-eq_default}
use Rattle.lists.specs.Tests.{split, differ, and_left, and_right}
use Rattle.lists.specs.Bytes.{eq_bytes}
use Rattle.spec.specs.Reading.{Reading}
use Rattle.spec.specs.Card.{CardRecord, sound_record, sound_records, sound_header, sound_names, sound_card, entries_of, card_records, card_names, card_entries, rising, time_in}
use Rattle.spec.specs.PlanAsk.{card_time}
use Rattle.scan_card.proofs.Rules.{Fair, fair}
use Rattle.scan_card.proofs.Places.{names_within}
use Rattle.graph_stale.specs.Judge.{time_at}

-- the card's time of each file, by number
pub record CardTimes (card : List ℕ) (names : List (List ℕ)) (times : List ℕ) : Type 0 where
  pub long : length times ≡ length names
  pub timed : (f : ℕ) → f < length names → get_or times f 0 ≡ time_in (card_entries card) (get_or names f [])

-- ---- a sound card has no empty name

not_empty : (n : List ℕ) → 1 ≤ length n → eq_bytes [] n ≡ false
unfolding eq_bytes
not_empty [] b = absurd (not-suc-le-zero b)
not_empty (x ∷ n) b = refl

nameless : (at : ℕ) (names : List ℕ) (rs : List CardRecord) → sound_records at (length names) rs ≡ true → time_in (entries_of rs (drop at names)) [] ≡ 0
unfolding sound_records entries_of time_in
nameless at names [] h = refl
nameless at names (r ∷ rs) h =
    let g = and_right (sound_record at r) (sound_records (at + r.size) (length names) rs) h in
    let a : Fair at r = fair (and_left (sound_record at r) (sound_records (at + r.size) (length names) rs) h) in
    let b : at + r.size ≤ length names = names_within (at + r.size) (length names) rs g in
    let n : 1 ≤ length (take r.size (drop at names)) = simp (length-take, length-drop) (omega (arith, a.some)) in
    rw (not_empty (take r.size (drop at names)) n, drop-drop r.size at names) (nameless (at + r.size) names rs g)

module _ (card : List ℕ) (sound : sound_card card ≡ true) where
  names_sound : sound_names card ≡ true
  unfolding sound_card
  names_sound =
      split (sound_header card) (λ (e : sound_header card ≡ true). rw e at sound) (λ (e : sound_header card ≡ false). differ (rw e at sound) refl)

  no_name : time_in (card_entries card) [] ≡ 0
  unfolding card_entries sound_names
  no_name = nameless 0 (card_names card) (card_records card) (and_left (sound_records 0 (length (card_names card)) (card_records card)) (rising (card_entries card)) names_sound)

  pub card_time_law : (rd : Reading) (times : List ℕ) → CardTimes card rd.files times → (f : ℕ) → time_at times f ≡ card_time card rd f
  unfolding card_time
  card_time_law rd times t f = elim (dec_lt f (length rd.files)) [
    | yes b ↦ t.timed f b
    | no b ↦
        get_or-eq_default times 0 {n = f} (omega (arith, t.long)) ∙ sym (ap (time_in (card_entries card)) (get_or-eq_default rd.files [] {n = f} (omega arith)) ∙ no_name)
  ]
