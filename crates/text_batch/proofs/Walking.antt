-- The walk over the steps: the texts so far, and that what is left of the steps ends as all of them do.
use Rattle.std.specs.Prelude.{Some, None, Ok, Err}
use Prim.Native.Nat.{ℕ, suc, ◌+◌, ◌-◌, ◌≤◌, ◌<◌}
use native.Mathlib.Numerals.{add-one}
use native.Mathlib.Omega.{arith}
use mathlib.Core.Path.{◌≡◌, refl, sym, ◌∙◌, ap}
use mathlib.Core.Bool.{Bool, true, false, ◌&&◌}
use mathlib.Core.List.{List, [], ◌∷◌, ◌++◌, append-nil, append_assoc}
use lib.Dec.{leb}
use lib.ListN.{length, take, drop, get_or, set, length-set, length-append, drop_of_length-le}
use lib.Seq.{drop-cons, take-suc-set, take-take, take_at}
use borrow.Author.Tests.{le-leb, lt-leb, lt-ltb}
use Rattle.spec.specs.declared.Refusal.{Refusal}
use Rattle.spec.specs.declared.Wanted.{Wanted}
use Rattle.spec.specs.Basics.{concat}
use Rattle.spec.specs.Reading.{Reading}
use Rattle.spec.specs.TextAsk.{TextOutcome, text, no_text}
use Rattle.hold_bindings.specs.Log.{Logged}
use Rattle.hold_reading.specs.declared.Counts.{Counts}
use Rattle.hold_reading.specs.Held.{HoldsReading}
use Rattle.hold_reading.specs.Buffers.{Buffers}
use Rattle.text_batch.specs.TextsAsk.{TextsOutcome, texts, no_texts, in_front, has_room, texts_from, ends_from}
use Rattle.text_batch.specs.Batch.{PutAsk, IsPut, IsLong, IsRefused, PutIs, Puts, WalkAsk, AreWritten, AreRefused, WalkIs, Walks, ask_of}

-- ---- one step of the definition

and_no : (a : Bool) → a && false ≡ false
and_no true = refl
and_no false = refl

module _ (ask : ℕ → TextOutcome) (s : ℕ) (ss : List ℕ) (room places : ℕ) where
  module _ {t : List ℕ} (e : ask s ≡ text t) where
    pub from_room : length t ≤ room → 0 < places → texts_from ask (s ∷ ss) room places ≡ in_front t (texts_from ask ss (room - length t) (places - 1))
    unfolding texts_from has_room
    from_room l p = rw (e, le-leb (length t) room l, lt-ltb 0 places p)

    pub from_long : room < length t → texts_from ask (s ∷ ss) room places ≡ texts []
    unfolding texts_from has_room
    from_long l = rw (e, lt-leb (length t) room l)

    pub from_full : places ≡ 0 → texts_from ask (s ∷ ss) room places ≡ texts []
    unfolding texts_from has_room
    from_full p = rw (e, p, and_no (leb (length t) room))

  pub from_refused : {r : Refusal} → ask s ≡ no_text r → texts_from ask (s ∷ ss) room places ≡ no_texts r
  unfolding texts_from
  from_refused e = rw e

pub from_none : (ask : ℕ → TextOutcome) (room places : ℕ) → texts_from ask [] room places ≡ texts []
unfolding texts_from
from_none ask room places = refl

-- ---- texts in front of an outcome

abbrev behind : List (List ℕ) → TextsOutcome → TextsOutcome
behind [] o = o
behind (t ∷ ts) o = in_front t (behind ts o)

behind_texts : (ts : List (List ℕ)) → behind ts (texts []) ≡ texts ts
unfolding in_front
behind_texts [] = refl
behind_texts (t ∷ ts) = ap (in_front t) (behind_texts ts)

behind_refused : (ts : List (List ℕ)) (r : Refusal) → behind ts (no_texts r) ≡ no_texts r
unfolding in_front
behind_refused [] r = refl
behind_refused (t ∷ ts) r = ap (in_front t) (behind_refused ts r)

behind_more : (ts : List (List ℕ)) (t : List ℕ) (o : TextsOutcome) → behind ts (in_front t o) ≡ behind (ts ++ (t ∷ [])) o
behind_more [] t o = refl
behind_more (u ∷ ts) t o = ap (in_front u) (behind_more ts t o)

concat_more : (ts : List (List ℕ)) (t : List ℕ) → concat (ts ++ (t ∷ [])) ≡ concat ts ++ t
unfolding concat
concat_more [] t = append-nil t
concat_more (u ∷ ts) t = ap (λ (l : List ℕ). u ++ l) (concat_more ts t) ∙ sym (append_assoc u (concat ts) t)

ends_more : (at : ℕ) (ts : List (List ℕ)) (t : List ℕ) → ends_from at (ts ++ (t ∷ [])) ≡ ends_from at ts ++ ((at + length (concat ts) + length t) ∷ [])
unfolding ends_from concat
ends_more at [] t = let z : at + 0 + length t ≡ at + length t = omega arith in rw z
ends_more at (u ∷ ts) t =
    let z : at + length u + length (concat ts) + length t ≡ at + length (u ++ concat ts) + length t = omega (arith, length-append u (concat ts)) in
    ap (λ (l : List ℕ). (at + length u) ∷ l) (ends_more (at + length u) ts t ∙ rw z)

-- ---- the state

pub record Done (ask : ℕ → TextOutcome) (steps : List ℕ) (room places : ℕ) (bytes ends : List ℕ) (i end : ℕ) : Type 0 where
  pub written : List (List ℕ)
  pub count : i ≡ length written
  pub size : end ≡ length (concat written)
  pub front : take end bytes ≡ concat written
  pub ended : take i ends ≡ ends_from 0 written
  pub rest : texts_from ask steps room places ≡ behind written (texts_from ask (drop i steps) (room - end) (places - i))

module _ {ask : ℕ → TextOutcome} {steps : List ℕ} {room places : ℕ} {bytes ends : List ℕ} {i end : ℕ} (d : Done ask steps room places bytes ends i end) where
  -- the walk stops here, whatever lies beyond the texts
  stopped : {after : List ℕ} → take end after ≡ take end bytes → texts_from ask steps room places ≡ behind d.written (texts [])
      → AreWritten (texts_from ask steps room places) after ends i end
  stopped k e =
      record {
        written = d.written;
        is = e ∙ behind_texts d.written;
        count = d.count;
        size = d.size;
        front = k ∙ d.front;
        places = d.ended;
      }

  done_end : length steps ≤ i → AreWritten (texts_from ask steps room places) bytes ends i end
  done_end b =
      stopped refl
      (d.rest
      ∙ ap (λ (l : List ℕ). behind d.written (texts_from ask l (room - end) (places - i))) (drop_of_length-le steps {i = i} b)
      ∙ ap (behind d.written) (from_none ask (room - end) (places - i)))

  module _ (b : i < length steps) where
    left : drop i steps ≡ get_or steps i 0 ∷ drop (suc i) steps
    left = drop-cons steps i 0 b

    rest_at : {o : TextsOutcome} → texts_from ask (get_or steps i 0 ∷ drop (suc i) steps) (room - end) (places - i) ≡ o → texts_from ask steps room places ≡ behind d.written o
    rest_at e = d.rest ∙ ap (λ (l : List ℕ). behind d.written (texts_from ask l (room - end) (places - i))) left ∙ ap (behind d.written) e

    done_more : {after : List ℕ} {e : ℕ} → IsPut (ask (get_or steps i 0)) end room bytes after e → i < places → i < length ends
        → Done ask steps room places after (set ends i e) (i + 1) e
    done_more {after} {e} p l k =
        let t = p.written in
        let ts = d.written in
        let s : e ≡ length (concat ts) + length t = p.end ∙ ap (λ (j : ℕ). j + length t) d.size in
        let z : e ≡ 0 + length (concat ts) + length t = omega (arith, s) in
        let x : room - end - length t ≡ room - e = omega (arith, p.end) in
        let y : places - i - 1 ≡ places - (i + 1) = omega arith in
        record {
          written = ts ++ (t ∷ []);
          count = omega (arith, d.count, length-append ts (t ∷ []));
          size = s ∙ sym (length-append (concat ts) t) ∙ ap (λ (l : List ℕ). length l) (sym (concat_more ts t));
          front = p.front ∙ ap (λ (l : List ℕ). l ++ t) d.front ∙ sym (concat_more ts t);
          ended =
              rw (add-one i) (take-suc-set ends i e k)
              ∙ ap (λ (l : List ℕ). l ++ (e ∷ [])) d.ended
              ∙ ap (λ (j : ℕ). ends_from 0 ts ++ (j ∷ [])) z
              ∙ sym (ends_more 0 ts t);
          rest =
              rest_at (from_room ask (get_or steps i 0) (drop (suc i) steps) (room - end) (places - i) p.is (omega (arith, p.end, p.within)) (omega arith))
              ∙ behind_more ts t (texts_from ask (drop (suc i) steps) (room - end - length t) (places - i - 1))
              ∙ rw (x, y, add-one i);
        }

    done_long : {after : List ℕ} → IsLong (ask (get_or steps i 0)) (room - end) bytes after → AreWritten (texts_from ask steps room places) after ends i end
    done_long p =
        stopped (ap (take end) p.kept) (rest_at (from_long ask (get_or steps i 0) (drop (suc i) steps) (room - end) (places - i) p.is p.long))

    -- the text stands there, and its end has no place
    done_full : {after : List ℕ} {e : ℕ} → IsPut (ask (get_or steps i 0)) end room bytes after e → places ≤ i → AreWritten (texts_from ask steps room places) after ends i end
    done_full {after} {e} p l =
        let n : length (take end bytes) ≡ end = ap (λ (l : List ℕ). length l) d.front ∙ sym d.size in
        stopped (sym (take-take end e after (omega (arith, p.end))) ∙ ap (take end) p.front ∙ take_at (take end bytes) p.written end n)
        (rest_at (from_full ask (get_or steps i 0) (drop (suc i) steps) (room - end) (places - i) p.is (omega arith)))

    done_refused : {r : Refusal} → IsRefused (ask (get_or steps i 0)) r → AreRefused (texts_from ask steps room places) r
    done_refused p =
        record {
          refusal = p.refusal;
          is = rest_at (from_refused ask (get_or steps i 0) (drop (suc i) steps) (room - end) (places - i) p.is) ∙ behind_refused d.written p.refusal;
          says = p.says;
          known = p.known;
        }

-- ---- the loop

pub record Walking (bs : Buffers) (c : Counts) (steps : List ℕ) (wanted : Wanted) (room places : ℕ) (bytes ends : List ℕ) (i end : ℕ) : Type 0 where
  pub within : i ≤ length steps
  pub long : length ends ≡ places
  pub before : end ≤ room
  pub done : (log : List Logged) (rd : Reading) → HoldsReading log bs c rd → Done (ask_of wanted rd) steps room places bytes ends i end

pub walk_begin : {bs : Buffers} {c : Counts} {steps : List ℕ} {wanted : Wanted} {room : ℕ} {bytes ends : List ℕ}
    → Walking bs c steps wanted room (length ends) bytes ends 0 0
unfolding concat ends_from
walk_begin {room = room} {ends = ends} =
    let x : room - 0 ≡ room = omega arith in
    let y : length ends - 0 ≡ length ends = omega arith in
    record {
      within = omega arith;
      long = refl;
      before = omega arith;
      done = λ log rd h. record { written = []; count = refl; size = refl; front = refl; ended = refl; rest = rw (x, y) };
    }

module _ {bs : Buffers} {c : Counts} {steps : List ℕ} {wanted : Wanted} {room places : ℕ} {bytes ends : List ℕ} {i end : ℕ}
    (w : Walking bs c steps wanted room places bytes ends i end) where
  pub walk_end : length steps ≤ i → i ≤ length steps → Walks bs c steps wanted room places bytes ends (Ok (length steps, end))
  unfolding WalkIs
  walk_end b l =
      let q : length steps ≡ i = omega arith in
      rw q (record { meets = λ log rd h. done_end (w.done log rd h) b })

  module _ (b : i < length steps) {s : ℕ} (q : s ≡ get_or steps i 0) {after : List ℕ} where
    pub walk_on : {e : ℕ} → Puts bs c s wanted end room bytes after (Ok (Some e)) → e ≤ room → i < length ends
        → Walking bs c steps wanted room places after (set ends i e) (i + 1) e
    unfolding PutIs
    walk_on p u k =
        record {
          within = omega arith;
          long = simp length-set w.long;
          before = u;
          done = λ log rd h. done_more (w.done log rd h) b (rw q at (p.meets log rd h)) (omega (arith, k, w.long)) k;
        }

    pub walk_full : {e : ℕ} → Puts bs c s wanted end room bytes after (Ok (Some e)) → length ends ≤ i → Walks bs c steps wanted room places after ends (Ok (i, end))
    unfolding PutIs WalkIs
    walk_full p k = record { meets = λ log rd h. done_full (w.done log rd h) b (rw q at (p.meets log rd h)) (omega (arith, k, w.long)) }

    pub walk_long : Puts bs c s wanted end room bytes after (Ok None) → Walks bs c steps wanted room places after ends (Ok (i, end))
    unfolding PutIs WalkIs
    walk_long p = record { meets = λ log rd h. done_long (w.done log rd h) b (rw q at (p.meets log rd h)) }

    pub walk_refused : {r : Refusal} → Puts bs c s wanted end room bytes after (Err r) → Walks bs c steps wanted room places after ends (Err r)
    unfolding PutIs WalkIs
    walk_refused p = record { meets = λ log rd h. done_refused (w.done log rd h) b (rw q at (p.meets log rd h)) }

-- ---- what a turn asks

module _ {t : List ℕ} {bs : Buffers} {c : Counts} {one₀ bytes₀ : List ℕ} {room : ℕ} (a : WalkAsk t bs c one₀ bytes₀ room) where
  pub walk_asks : {steps : List ℕ} {wanted : Wanted} {places : ℕ} {one bytes ends : List ℕ} {i end : ℕ} → Walking bs c steps wanted room places bytes ends i end
      → length one ≡ length one₀ → length bytes ≡ length bytes₀ → PutAsk t bs c one bytes end room
  walk_asks w o l =
      let q = a.asked in
      record {
        asked = record { table = q.table; room = omega (arith, q.room, o); log = q.log; reading = q.reading; holds = q.holds; sound = q.sound };
        before = w.before;
        within = omega (arith, a.within, l);
      }

  -- an end fits a number of 32 bits
  pub end_within : {step : ℕ} {wanted : Wanted} {at : ℕ} {before after : List ℕ} {e : ℕ} → Puts bs c step wanted at room before after (Ok (Some e)) → e ≤ room
  unfolding PutIs
  end_within p = (p.meets a.asked.log a.asked.reading a.asked.holds).within
