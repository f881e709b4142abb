-- What each answer leaves in the buffer.
use Rattle.std.specs.Prelude.{Result, Ok, Err}
use Prim.Native.Nat.{ℕ, ◌-◌, ◌≤◌, ◌<◌}
use mathlib.Core.List.{List, [], ◌++◌, append-nil}
use mathlib.Core.Bool.{Bool, true, false, ◌||◌}
use mathlib.Core.Path.{◌≡◌, refl, sym, ◌∙◌, ap, subst}
use native.Mathlib.Omega.{arith}
use borrow.Author.Tests.{lt-ltb, le-ltb, lt-leb}
use lib.Dec.{ltb, leb}
use lib.ListN.{length, take, length-append}
use lib.Seq.{drop-length, take-append_seam}
use Rattle.lists.specs.Fill.{zeros, zeroed, zeroed_all}
use Rattle.spec.specs.declared.Refusal.TheVariants.{EndlessText, LongText, NoCommand}
use Rattle.spec.specs.declared.Wanted.{Wanted}
use Rattle.spec.specs.declared.Wanted.TheVariants.{Command, Description}
use Rattle.spec.specs.declared.Key.{Key}
use Rattle.spec.specs.Limits.{max_text}
use Rattle.spec.specs.Answers.{number_of_refusal, place_of_refusal, refusal_says, text_says}
use Rattle.spec.specs.Promises.{filled, left_by, TextMeets}
use Rattle.spec.specs.Reading.{Step, Reading, is_phony}
use Rattle.spec.specs.Graph.{step_at}
use Rattle.spec.specs.Text.{key_name, leads_back, spelling_for, deep, name_text, name_refusal}
use Rattle.spec.specs.TextAsk.{text, no_text, wanted_key, wanted_name, name_outcome, text_of_step}
use Rattle.spec.specs.Sound.{SoundRules}
use Rattle.hold_bindings.specs.Log.{Logged}
use Rattle.hold_reading.specs.declared.Counts.{Counts}
use Rattle.hold_reading.specs.Held.{HoldsBound, Graphed, HoldsReading}
use Rattle.text_lookup.specs.declared.Asked.{Asked}
use Rattle.text_lookup.specs.Scope.{StepScope}
use Rattle.text_buffer.specs.Puts.{PutsText}
use Rattle.text_expansion.specs.Here.{Here}
use Rattle.text_step.specs.Steps.{Picks, ReadingHeld}
use Rattle.text_step.proofs.One.{sound_any}
use Rattle.text_step.specs.Asks.{StepAsk, WholeAsk, WritesWhole, TextStands, AnswersText, TextAt, TextAsk, TextOf}
use Rattle.hold_reading.specs.Buffers.{Buffers}
use Rattle.spec.specs.declared.Refusal.{Refusal}

-- ---- the buffer

-- "A refusal leaves output buffers all zero"
all_zero : (before after exit : List ℕ) → length after ≡ length before → exit ≡ zeroed after 0 (length after) → exit ≡ filled [] before
unfolding filled
all_zero before after exit k e =
    let z : length before - 0 ≡ length before = omega arith in
    e ∙ zeroed_all after ∙ rw (k, z)

-- "After an answer .. what lies beyond it is zero."
zero_beyond : (before after exit s : List ℕ) (n : ℕ) → length after ≡ length before → n ≡ length s → take n after ≡ s → exit ≡ zeroed after n (length after) → exit ≡ filled s before
unfolding filled zeroed
zero_beyond before after exit s n k c t e =
    e ∙ rw (t, drop-length after, k, c) (append-nil (s ++ zeros (length before - length s)))

module _ (k : ℕ) (before after : List ℕ) {exit : List ℕ} (l : length after ≡ length before) (e : exit ≡ zeroed after 0 (length after)) where
  meets_endless : TextMeets (no_text (EndlessText k)) before (text_says (Err (EndlessText k))) exit
  unfolding TextMeets text_says refusal_says left_by number_of_refusal place_of_refusal
  meets_endless = record { says = refl; leaves = all_zero before after exit l e }

  meets_long : TextMeets (no_text (LongText k)) before (text_says (Err (LongText k))) exit
  unfolding TextMeets text_says refusal_says left_by number_of_refusal place_of_refusal
  meets_long = record { says = refl; leaves = all_zero before after exit l e }

  meets_none : TextMeets (no_text (NoCommand k)) before (text_says (Err (NoCommand k))) exit
  unfolding TextMeets text_says refusal_says left_by number_of_refusal place_of_refusal
  meets_none = record { says = refl; leaves = all_zero before after exit l e }

meets_text : {before after exit s : List ℕ} {n : ℕ} → PutsText before 0 s after n → n ≤ max_text → exit ≡ zeroed after n (length after) → TextMeets (text s) before (text_says (Ok n)) exit
unfolding TextMeets text_says
meets_text {before} {after} {exit} {s} {n} p h e =
    let f = p.fits h in
    let c : n ≡ length s = f.count ∙ omega arith in
    record { says = rw c; leaves = zero_beyond before after exit s n p.long c f.bytes e }

-- the text is what lies before the zeros
stands : {before after exit s : List ℕ} {n : ℕ} → PutsText before 0 s after n → n ≤ max_text → exit ≡ zeroed after n (length after) → TextStands (text s) n exit
unfolding filled
stands {before} {after} {exit} {s} {n} p h e =
    let f = p.fits h in
    let c : n ≡ length s = f.count ∙ omega arith in
    let z = zero_beyond before after exit s n p.long c f.bytes e in
    record {
      is = ap text (sym (ap (take n) z ∙ ap (λ (k : ℕ). take k (s ++ zeros (length before - length s))) c ∙ take-append_seam s (zeros (length before - length s))));
      within = rw z (let l = length-append s (zeros (length before - length s)) in omega (arith, l, c));
    }

-- ---- one step

module _ {t : List ℕ} {bs : Buffers} {before : List ℕ} {a : Asked} (key : Key) (w : StepAsk t bs a before) {b : Bool}
    (q : (log : List Logged) (rd : Reading) (s : Step) → StepScope bs.texts bs.bind a log rd s → b ≡ leads_back rd s deep [] (key_name key)) where
  pub in_endless : {exit : List ℕ} → b ≡ true → exit ≡ zeroed before 0 (length before) → TextAt bs a key before exit (Err (EndlessText a.step))
  unfolding name_outcome name_refusal AnswersText
  in_endless {exit} e z =
      record {
        meets = λ log rd h. rw (sym (q log rd (step_at rd.steps a.step) h.scope) ∙ e) (meets_endless a.step before before refl z);
        answers = λ log rd h. rw (sym (q log rd (step_at rd.steps a.step) h.scope) ∙ e);
      }

  module _ (e : b ≡ false) where
    pub wants : WholeAsk t bs a (key_name key) before
    wants = record { asked = w; ended = sym (q w.log w.reading w.step w.here.scope) ∙ e }

    ends : {log : List Logged} {rd : Reading} → Here bs a log rd (step_at rd.steps a.step) → leads_back rd (step_at rd.steps a.step) deep [] (key_name key) ≡ false
    ends {log} {rd} y = sym (q log rd (step_at rd.steps a.step) y.scope) ∙ e

    module _ {after : List ℕ} {n : ℕ} (p : WritesWhole bs a (spelling_for (key_name key)) (key_name key) before after n) where
      -- what is written of a reading's text
      writes_key : {log : List Logged} {rd : Reading} → Here bs a log rd (step_at rd.steps a.step) → PutsText before 0 (name_text rd a.step (key_name key)) after n
      writes_key {log} {rd} y = p.writes log rd (step_at rd.steps a.step) y (ends y)

      is_long : {log : List Logged} {rd : Reading} → max_text < n → Here bs a log rd (step_at rd.steps a.step) → ltb max_text (length (name_text rd a.step (key_name key))) ≡ true
      is_long {rd = rd} h y = let x = writes_key y in lt-ltb max_text (length (name_text rd a.step (key_name key))) (omega (arith, x.over h))

      is_short : {log : List Logged} {rd : Reading} → n ≤ max_text → Here bs a log rd (step_at rd.steps a.step) → ltb max_text (length (name_text rd a.step (key_name key))) ≡ false
      is_short {rd = rd} h y = let c = ((writes_key y).fits h).count in le-ltb max_text (length (name_text rd a.step (key_name key))) (omega arith)

      pub in_long : {exit : List ℕ} → max_text < n → exit ≡ zeroed after 0 (length after) → TextAt bs a key before exit (Err (LongText a.step))
      unfolding name_outcome name_refusal AnswersText
      in_long h z =
          record {
            meets = λ log rd y. rw (ends y, is_long h y) (meets_long a.step before after (writes_key y).long z);
            answers = λ log rd y. rw (ends y, is_long h y);
          }

      pub in_text_law : {exit : List ℕ} → n ≤ max_text → exit ≡ zeroed after n (length after) → TextAt bs a key before exit (Ok n)
      unfolding name_outcome name_refusal AnswersText
      in_text_law h z =
          record {
            meets = λ log rd y. rw (ends y, is_short h y) (meets_text (writes_key y) h z);
            answers = λ log rd y. rw (ends y, is_short h y) (stands (writes_key y) h z);
          }

-- ---- the ask

module _ {t : List ℕ} {bs : Buffers} {before : List ℕ} {c : Counts} (w : TextAsk t bs c before) where
  pub reads : ReadingHeld bs.texts bs.bind bs.graph c
  reads = record { log = w.log; reading = w.reading; bound = w.holds.bound; graphed = w.holds.graphed }

  pub no_command : {step : ℕ} (wanted : Wanted) {exit : List ℕ}
      → ((log : List Logged) (rd : Reading) → HoldsBound log bs.texts bs.bind c rd → Graphed log bs.graph c rd → leb (length rd.steps) step || is_phony (step_at rd.steps step).rule ≡ true)
      → exit ≡ zeroed before 0 (length before) → TextOf bs c step wanted before exit (Err (NoCommand step))
  unfolding text_of_step
  no_command {step} wanted q z =
      record { meets = λ log rd h. rw (q log rd h.bound h.graphed) (meets_none step before before refl z) }

-- what is wanted, by its key
name_of_key : (wanted : Wanted) → wanted_name wanted ≡ key_name (wanted_key wanted)
unfolding wanted_name wanted_key key_name
name_of_key Command = refl
name_of_key Description = refl

-- the step that was picked, in any reading
module _ {bs : Buffers} {c : Counts} {step : ℕ} {a : Asked} (p : Picks bs.texts bs.bind bs.graph c step a) where
  pub picked_here : {log : List Logged} {rd : Reading} → HoldsReading log bs c rd → SoundRules rd → Here bs a log rd (step_at rd.steps step)
  picked_here {log} {rd} h y =
      let x = p.picked log rd h.bound h.graphed in
      record {
        scope =
            record {
              bound = rw x.entries h.bound.held;
              vars = h.bound.vars;
              stands = sym x.scope;
              scope_low = rw x.scope (h.bound.scoped step x.there);
              block = rw x.number (h.bound.blocks step x.there);
              keys = x.keys;
              sound = y (step_at rd.steps step).rule;
              step_low = omega (arith, x.number, x.there, h.bound.steps_counted, h.bound.few_steps);
              rule_low = x.rule_low;
            };
        files =
            record {
              named = rw x.files h.named;
              outs_ordered = x.outs_ordered;
              ins_ordered = x.ins_ordered;
              within = x.within;
              outs = x.outs;
              ins = x.ins;
              low = λ i l r. let k = x.low i l r in omega (arith, x.files, h.named.counted);
            };
      }

  pub step_asked : {t before : List ℕ} → TextAsk t bs c before → StepAsk t bs a before
  step_asked w =
      record {
        table = w.table;
        room = w.room;
        log = w.log;
        reading = w.reading;
        step = step_at w.reading.steps step;
        here = picked_here w.holds w.sound;
        whole = (p.picked w.log w.reading w.holds.bound w.holds.graphed).whole;
      }

  pub step_text : {t before exit : List ℕ} {wanted : Wanted} {key : Key} {r : Result ℕ Refusal} → TextAsk t bs c before → key ≡ wanted_key wanted
      → TextAt bs a key before exit r → TextOf bs c step wanted before exit r
  unfolding text_of_step
  step_text {before = before} {exit = exit} {wanted = wanted} {key = key} {r = r} w z q =
      record {
        meets = λ log rd h.
            let x = p.picked log rd h.bound h.graphed in
            let f : leb (length rd.steps) step ≡ false = lt-leb (length rd.steps) step x.there in
            let m = subst (λ (k : ℕ). Here bs a log rd (step_at rd.steps k) → TextMeets (name_outcome k (key_name key) rd) before (text_says r) exit) x.number (q.meets log rd) in
            rw (f, x.command, name_of_key wanted, ← z) (m (picked_here h (sound_any w.holds.bound w.sound h.bound)));
      }
