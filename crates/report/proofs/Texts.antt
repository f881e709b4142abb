-- Texts in the buffers: what a reading for them gives, and the check of all texts.
use Rattle.std.specs.Prelude.{Result, Ok, Err, MatchResult, IsErrAnd}
use Prim.Native.Nat.{ℕ, zero, suc, ◌+◌, ◌-◌, ◌≤◌, ◌<◌}
use native.Mathlib.Omega.{arith}
use mathlib.Core.Bool.{true, false}
use mathlib.Core.List.{List, [], ◌∷◌, ◌++◌, append_assoc}
use mathlib.Core.Path.{◌≡◌, refl, sym, ◌∙◌, ap}
use lib.ListN.{length, take, drop, get_or, replicate, length-append, length-replicate}
use lib.Seq.{take-append_seam, drop-append_seam}
use Rattle.lists.specs.Parts.{part}
use Rattle.lists.specs.Tests.{if_b, split}
use Rattle.spec.specs.declared.Refusal.{Refusal}
use Rattle.spec.specs.declared.Wanted.TheVariants.{Command}
use Rattle.spec.specs.Basics.{concat}
use Rattle.spec.specs.Limits.{max_text}
use Rattle.spec.specs.Answers.{Said, refusal_says, number_of_refusal, says}
use Rattle.spec.specs.Manifest.{Read, accepted, refused_with, read_manifest}
use Rattle.spec.specs.TextAsk.{TextOutcome, text, no_text, text_read, text_ask}
use Rattle.spec.specs.Promises.{filled}
use Rattle.answers.specs.declared.Numbers.{Numbers as Two}
use Rattle.answers.specs.Numbers.{said}
use Rattle.text_batch.specs.TextsAsk.{TextsOutcome, texts, no_texts, in_front, on_text, has_room, texts_from, endable, texts_ask, ends_from}
use Rattle.text_batch.specs.TextsPromise.{texts_says, Are, TextsMeets}
use Rattle.text_batch.proofs.Asked.{on_read, each_asked, texts_leading, texts_progress}
use Rattle.report_lines.specs.Cut.{TextsInOrder, cut_texts, lines_of_texts}
use Rattle.report_output.specs.Output.{command_text, stopped, after_text, check_texts, step_line, step_lines}
use Rattle.report.specs.Held.{AreCommands, TextsWanted, HoldsSome, AskedIs}
use Rattle.spec.proofs.Answers.{refusal_not_0}

-- What is filled begins with what it is filled with, which fits.
pub front_filled : (l lent : List ℕ) → take (length l) (filled l lent) ≡ l
unfolding filled
front_filled l lent = take-append_seam l (replicate (length lent - length l) 0)

pub fits_filled : (l lent exit : List ℕ) → exit ≡ filled l lent → length exit ≡ length lent → length l ≤ length lent
unfolding filled
fits_filled l lent exit e h =
    let a : length exit ≡ length l + length (replicate {0} {A = ℕ} (length lent - length l) 0) = ap length e ∙ length-append l (replicate (length lent - length l) 0) in
    omega (arith, length-replicate {A = ℕ} (length lent - length l) 0)

-- ---- texts end to end, cut where they end

regroup : (p t c r : List ℕ) → p ++ (t ++ c ++ r) ≡ p ++ t ++ (c ++ r)
regroup p t c r = simp append_assoc

cut_one : (p t r : List ℕ) → part (p ++ (t ++ r)) (length p) (length p + length t) ≡ t
cut_one p t r =
    let z : length p + length t - length p ≡ length t = omega arith in
    rw (z, drop-append_seam p (t ++ r)) (take-append_seam t r)

cut_ends : (p : List ℕ) (ts : List (List ℕ)) (r : List ℕ) → cut_texts (p ++ (concat ts ++ r)) (length p) (ends_from (length p) ts) ≡ ts
unfolding cut_texts ends_from concat
cut_ends p [] r = refl
cut_ends p (t ∷ ts) r =
    let k : length (p ++ t) ≡ length p + length t = length-append p t in
    let a : p ++ (t ++ concat ts ++ r) ≡ p ++ (t ++ (concat ts ++ r)) = ap (λ (l : List ℕ). p ++ l) (append_assoc t (concat ts) r) in
    let one : part (p ++ (t ++ concat ts ++ r)) (length p) (length p + length t) ≡ t = rw a (cut_one p t (concat ts ++ r)) in
    let more : cut_texts (p ++ (t ++ concat ts ++ r)) (length p + length t) (ends_from (length p + length t) ts) ≡ ts =
    rw (regroup p t (concat ts) r, ← k) (cut_ends (p ++ t) ts r) in
    rw (one, more)

order_ends : (p : List ℕ) (ts : List (List ℕ)) (r : List ℕ) → TextsInOrder (p ++ (concat ts ++ r)) (length p) (ends_from (length p) ts)
unfolding TextsInOrder ends_from concat
order_ends p [] r = tt
order_ends p (t ∷ ts) r =
    let k : length (p ++ t) ≡ length p + length t = length-append p t in
    let n : length (p ++ t ++ (concat ts ++ r)) ≡ length p + length t + length (concat ts ++ r) = length-append (p ++ t) (concat ts ++ r) ∙ ap (λ (x : ℕ). x + length (concat ts ++ r)) k in
    let more : TextsInOrder (p ++ (t ++ concat ts ++ r)) (length p + length t) (ends_from (length p + length t) ts) = rw (regroup p t (concat ts) r, ← k) (order_ends (p ++ t) ts r) in
    (omega arith, rw (regroup p t (concat ts) r) (omega arith), more)

many_ends : (at : ℕ) (ts : List (List ℕ)) → length (ends_from at ts) ≡ length ts
unfolding ends_from
many_ends at [] = refl
many_ends at (t ∷ ts) = ap suc (many_ends (at + length t) ts)

-- ---- the commands of leading steps

module _ (bundle : List ℕ) where
  leading_commands : (steps : List ℕ) (ts : List (List ℕ)) → length ts ≤ length steps
      → ((i : ℕ) → i < length ts → command_text bundle (get_or steps i 0) ≡ text (get_or ts i [])) → AreCommands bundle (take (length ts) steps) ts
  unfolding AreCommands
  leading_commands steps [] h e = tt
  leading_commands [] (t ∷ ts) h e = absurd (omega arith)
  leading_commands (s ∷ ss) (t ∷ ts) h e = (e 0 (omega arith), leading_commands ss ts (omega arith) (λ i k. e (suc i) (omega arith)))

  -- The check goes on behind them.
  pub commands_pass : (n : ℕ) (l : List ℕ) (ts : List (List ℕ)) → AreCommands bundle (take n l) ts → check_texts bundle l ≡ check_texts bundle (drop n l)
  unfolding AreCommands check_texts after_text
  commands_pass zero l ts c = refl
  commands_pass (suc n) [] ts c = refl
  commands_pass (suc n) (s ∷ l) [] c = absurd c
  commands_pass (suc n) (s ∷ l) (t ∷ ts) c = rw c.0 (commands_pass n l ts c.1)

  -- Their lines are the lines of the texts.
  pub commands_lines : (n k : ℕ) (ss : List ℕ) (ts : List (List ℕ)) → AreCommands bundle ss ts → lines_of_texts n k ts ≡ step_lines bundle n k ss
  unfolding AreCommands lines_of_texts step_lines step_line
  commands_lines n k [] [] c = refl
  commands_lines n k [] (t ∷ ts) c = absurd c
  commands_lines n k (s ∷ ss) [] c = absurd c
  commands_lines n k (s ∷ ss) (t ∷ ts) c = rw (c.0, commands_lines n (suc k) ss ts c.1)

  -- Lines of a list are those of its front, then those of what lies behind it.
  pub lines_apart : (n m k : ℕ) (l : List ℕ) → step_lines bundle n k l ≡ step_lines bundle n k (take m l) ++ step_lines bundle n (k + m) (drop m l)
  unfolding step_lines
  lines_apart n zero k l =
      let z : k ≡ k + 0 = omega arith in
      ap (λ (i : ℕ). step_lines bundle n i l) z
  lines_apart n (suc m) k [] = refl
  lines_apart n (suc m) k (s ∷ l) =
      let z : suc k + m ≡ k + suc m = omega arith in
      let one = step_line (suc k) n (command_text bundle s) in
      let front = step_lines bundle n (suc k) (take m l) in
      ap (λ (x : List ℕ). one ++ x) (lines_apart n m (suc k) l)
      ∙ sym (append_assoc one front (step_lines bundle n (suc k + m) (drop m l)))
      ∙ ap (λ (i : ℕ). one ++ front ++ step_lines bundle n i (drop m l)) z

-- ---- a refusal

no_texts_law : {A : Type 0} {ts : List (List ℕ)} {r : Refusal} → texts ts ≡ no_texts r → A
no_texts_law e = absurd (let z : ◌≡◌ {A = ℕ} 0 1 = cc in omega arith)

same_refusal : {x y : Refusal} → no_texts x ≡ no_texts y → x ≡ y
same_refusal e = cc

front_refused : (t : List ℕ) (o : TextsOutcome) {r : Refusal} → in_front t o ≡ no_texts r → o ≡ no_texts r
unfolding in_front
front_refused t (texts ts) e = no_texts_law e
front_refused t (no_texts x) e = e

module _ (bundle : List ℕ) where
  refused_on : (s : ℕ) (ss : List ℕ) (room places : ℕ) (r : Refusal) (o : TextOutcome) → command_text bundle s ≡ o
      → ((room places : ℕ) → texts_from (command_text bundle) ss room places ≡ no_texts r → stopped (refusal_says r) ≡ check_texts bundle ss)
      → on_text o (λ t. if_b (has_room room places t) (λ _. in_front t (texts_from (command_text bundle) ss (room - length t) (places - 1))) (λ _. texts [])) ≡ no_texts r
      → stopped (refusal_says r) ≡ after_text o (check_texts bundle ss)
  unfolding after_text
  refused_on s ss room places r (no_text x) e rest q = ap (λ (y : Refusal). stopped (refusal_says y)) (sym (same_refusal q))
  refused_on s ss room places r (text t) e rest q =
      split (has_room room places t)
      (λ (f : has_room room places t ≡ true).
      rest (room - length t) (places - 1) (front_refused t (texts_from (command_text bundle) ss (room - length t) (places - 1)) (rw f at q)))
      (λ (f : has_room room places t ≡ false). no_texts_law (rw f at q))

  from_refused : (steps : List ℕ) (room places : ℕ) (r : Refusal) → texts_from (command_text bundle) steps room places ≡ no_texts r → stopped (refusal_says r) ≡ check_texts bundle steps
  unfolding texts_from check_texts
  from_refused [] room places r q = no_texts_law q
  from_refused (s ∷ ss) room places r q =
      refused_on s ss room places r (command_text bundle s) refl (λ room places e. from_refused ss room places r e) q

  -- Where the bundle is refused, so is each text.
  unread : (s : ℕ) (x : Refusal) → read_manifest bundle ≡ refused_with x → command_text bundle s ≡ no_text x
  unfolding command_text text_ask text_read
  unread s x e = rw e

  read_refused : (steps : List ℕ) (room places : ℕ) (r : Refusal) (x : Read) → read_manifest bundle ≡ x → 0 < length steps
      → on_read x (λ _. texts_from (command_text bundle) steps room places) ≡ no_texts r → stopped (refusal_says r) ≡ check_texts bundle steps
  unfolding check_texts after_text
  read_refused [] room places r x e k q = absurd (omega arith)
  read_refused (s ∷ ss) room places r (refused_with x) e k q = rw (unread s x e) (ap (λ (y : Refusal). stopped (refusal_says y)) (sym (same_refusal q)))
  read_refused (s ∷ ss) room places r (accepted rd) e k q = from_refused (s ∷ ss) room places r q

  texts_refused : (steps : List ℕ) (room places : ℕ) (r : Refusal) → max_text ≤ room → 0 < length steps → texts_ask bundle steps Command room places ≡ no_texts r
      → stopped (refusal_says r) ≡ check_texts bundle steps
  unfolding command_text
  texts_refused steps room places r h k q =
      read_refused steps (endable room) places r (read_manifest bundle) refl k (sym (each_asked bundle steps Command room places h) ∙ q)

-- ---- what a reading gives

module _ (bundle steps bytes ends bytes_exit ends_exit : List ℕ) (w : TextsWanted steps bytes ends) where
  held_of : (ts : List (List ℕ)) (n : ℕ) → texts_ask bundle steps Command (length bytes) (length ends) ≡ texts ts → length ends_exit ≡ length ends
      → Are (texts_says (Ok n)) bytes_exit ends_exit (says 0 (length ts)) (filled (concat ts) bytes) (filled (ends_from 0 ts) ends)
      → HoldsSome bundle steps bytes_exit ends_exit n
  unfolding texts_says command_text filled
  held_of ts n q k a =
      let l = texts_leading bundle Command (length bytes) w.rooms.bytes_room steps (length ends) ts q in
      let c : n ≡ length ts = ap (λ (x : Said). x.value) a.says in
      let p : length ts ≡ length (ends_from 0 ts) = sym (many_ends 0 ts) in
      let e : take (length ts) ends_exit ≡ ends_from 0 ts = rw (a.leaves_ends, p) (front_filled (ends_from 0 ts) ends) in
      let b : cut_texts bytes_exit 0 (ends_from 0 ts) ≡ ts = rw a.leaves_bytes (cut_ends [] ts (replicate (length bytes - length (concat ts)) 0)) in
      record {
        some = omega (arith, c, texts_progress bundle Command (length bytes) w.rooms.bytes_room steps (length ends) ts q w.some w.rooms.ends_room);
        held = record {
          few = omega (arith, c, l.few);
          placed = omega (arith, c, l.ends);
          order = rw (c, e, a.leaves_bytes) (order_ends [] ts (replicate (length bytes - length (concat ts)) 0));
          commands = rw (c, e, b) (leading_commands bundle steps ts l.few l.each);
        };
      }

  held_by : (o : TextsOutcome) (n : ℕ) → texts_ask bundle steps Command (length bytes) (length ends) ≡ o → length ends_exit ≡ length ends
      → TextsMeets o bytes ends (texts_says (Ok n)) bytes_exit ends_exit → HoldsSome bundle steps bytes_exit ends_exit n
  unfolding TextsMeets texts_says number_of_refusal
  held_by (texts ts) n q k m = held_of ts n q k m
  held_by (no_texts r) n q k m = absurd (refusal_not_0 r (sym (ap (λ (x : Said). x.number) m.says)))

  refused_by : (o : TextsOutcome) (r : Refusal) → texts_ask bundle steps Command (length bytes) (length ends) ≡ o
      → TextsMeets o bytes ends (texts_says (Err r)) bytes_exit ends_exit → stopped (refusal_says r) ≡ check_texts bundle steps
  unfolding TextsMeets texts_says number_of_refusal
  refused_by (texts ts) r q m = absurd (refusal_not_0 r (ap (λ (x : Said). x.number) m.says))
  refused_by (no_texts x) r q m = ap stopped m.says ∙ texts_refused bundle steps (length bytes) (length ends) x w.rooms.bytes_room w.some q

  asked_held : (n : ℕ) → length ends_exit ≡ length ends
      → TextsMeets (texts_ask bundle steps Command (length bytes) (length ends)) bytes ends (texts_says (Ok n)) bytes_exit ends_exit
      → AskedIs bundle steps bytes_exit ends_exit (Ok n)
  unfolding AskedIs
  asked_held n k m = held_by (texts_ask bundle steps Command (length bytes) (length ends)) n refl k m

  asked_refused : (r : Refusal) (x : Two) → said x ≡ refusal_says r
      → TextsMeets (texts_ask bundle steps Command (length bytes) (length ends)) bytes ends (texts_says (Err r)) bytes_exit ends_exit
      → AskedIs bundle steps bytes_exit ends_exit (Err x)
  unfolding AskedIs
  asked_refused r x e m = ap stopped e ∙ refused_by (texts_ask bundle steps Command (length bytes) (length ends)) r refl m

  pub asked : (a : Result ℕ Refusal) (r : Result ℕ Two) → MatchResult a (λ n. r ≡ Ok n) (λ e. IsErrAnd r (λ x. said x ≡ refusal_says e)) → length ends_exit ≡ length ends
      → TextsMeets (texts_ask bundle steps Command (length bytes) (length ends)) bytes ends (texts_says a) bytes_exit ends_exit
      → AskedIs bundle steps bytes_exit ends_exit r
  asked (Ok n) r q k m = rw q (asked_held n k m)
  asked (Err e) (Ok n) q k m = elim q [ ]
  asked (Err e) (Err x) q k m = asked_refused e x q m
