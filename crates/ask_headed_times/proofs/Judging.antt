-- The card's times, and then those by which steps are judged.
use Prim.Native.Nat.{ℕ, zero, suc, ◌≤◌, ◌<◌}
use native.Mathlib.Nat.{not-suc-le-zero, le_of_suc-le-suc, le_of_eq}
use mathlib.Core.Bool.{true}
use mathlib.Core.List.{List, [], ◌∷◌, ◌++◌, map, append-nil}
use mathlib.Core.Path.{◌≡◌, refl, ap, ◌∙◌, fun_ext}
use lib.ListN.{length, get_or, length-map, drop_of_length-le}
use Rattle.spec.specs.Card.{sound_card, card_entries, time_in}
use Rattle.spec.specs.Reading.{Reading}
use Rattle.spec.specs.Headers.{judged}
use Rattle.spec.specs.PlanAsk.{card_time}
use Rattle.hold_names.specs.Table.{HoldsNames}
use Rattle.graph_stale.specs.Judge.{time_at}
use Rattle.ask_file_times.specs.Times.{times_of, Timed}
use Rattle.ask_judged_times.specs.Lists.{TimesJudged}
use Rattle.ask_headed_times.specs.Times.{HeadedAsked, HeadedTimes}
use Rattle.ask_headed_times.proofs.CardTimes.{card_time_law}

time_at_law : (g : List ℕ → ℕ) (files : List (List ℕ)) (f : ℕ) → f < length files → get_or (map g files) f 0 ≡ g (get_or files f [])
time_at_law g [] f b = absurd (not-suc-le-zero b)
time_at_law g (x ∷ l) zero b = refl
time_at_law g (x ∷ l) (suc f) b = time_at_law g l f (le_of_suc-le-suc b)

-- a column that is filled to its end has the card's time of each file
pub filled_times : {card names index : List ℕ} {count : ℕ} {before times : List ℕ} → sound_card card ≡ true → Timed card names index count before times → length before ≤ count
    → (rd : Reading) → HoldsNames names index count rd.files → (f : ℕ) → time_at times f ≡ card_time card rd f
unfolding times_of
filled_times {card} {count = count} {before} {times} s t b rd h =
    let e : times ≡ times_of card rd.files = t.filled rd.files h ∙ ap (λ (l : List ℕ). times_of card rd.files ++ l) (drop_of_length-le before {i = count} b) ∙ append-nil (times_of card rd.files) in
    card_time_law card s rd times (rw e (record { long = length-map rd.files (time_in (card_entries card)); timed = time_at_law (time_in (card_entries card)) rd.files }))

module _ {card names index mentions ends made missing listed lent : List ℕ} (a : HeadedAsked card names index mentions ends made missing listed lent) where
  pub headed : {times exit : List ℕ} → Timed card names index (length made) lent times → TimesJudged mentions ends made missing listed times exit
      → HeadedTimes card names index mentions ends made missing listed exit
  headed {times} t j =
      record {
        timed = λ i h phony q w f.
            let c : time_at times ≡ card_time i.card h.reading = rw q (fun_ext (filled_times a.sound t (le_of_eq a.asked.timed) h.reading w.named)) in
            j.judges h.reading.steps (length h.reading.files) phony h.lists w.held w.lists f
            ∙ ap (λ (g : ℕ → ℕ). judged h.reading.steps g h.lists f) c;
      }
