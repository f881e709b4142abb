-- The text of a key, from an empty draft on.
use Prim.Native.Nat.{ℕ, ◌<◌}
use mathlib.Core.List.{List, []}
use mathlib.Core.Bool.{Bool, false}
use mathlib.Core.Path.{◌≡◌, sym, ◌∙◌, ap}
use native.Mathlib.Omega.{arith}
use lib.ListN.{get_or}
use Rattle.spec.specs.declared.Key.{Key}
use Rattle.spec.specs.Reading.{Step, Reading}
use Rattle.spec.specs.Text.{key_name, key_names, rule_keys, key_number, leads_back, spelled_by, spelling_for, deep}
use Rattle.hold_keys.proofs.Numbers.{key_low, key_at_law}
use Rattle.text_lookup.specs.declared.Asked.{Asked}
use Rattle.text_recursion.specs.Depth.{goes_deep}
use Rattle.text_recursion.specs.Depth as depth
use Rattle.text_recursion.proofs.Circles.{leads_back_deep}
use Rattle.text_memo.specs.declared.Draft.{Draft}
use Rattle.text_memo.specs.Draft.{nothing}
use Rattle.text_memo.proofs.Spans.{nothing_remembers}
use Rattle.text_expansion.specs.Here.{asked_as}
use Rattle.text_expansion.specs.Asks.{spelling, text_in, NameTextAsk, WritesName}
use Rattle.text_expansion.proofs.Keys.{here_as}
use Rattle.text_step.specs.Asks.{StepAsk, WholeAsk, WritesWhole}
use Rattle.hold_reading.specs.Buffers.{Buffers}

shallow : (rd : Reading) (s : Step) (n : List ℕ) → leads_back rd s deep [] n ≡ false → goes_deep rd s deep n ≡ false
shallow rd s n e = sym (leads_back_deep rd s n) ∙ e

module _ {t : List ℕ} {bs : Buffers} {name buffer : List ℕ} {a : Asked} (w : WholeAsk t bs a name buffer) where
  module _ {d : Draft} (z : d ≡ nothing) where
    pub whole_asked : NameTextAsk t bs a name buffer d
    whole_asked =
        let q = w.asked in
        record {
          table = q.table;
          low = omega (arith, q.whole);
          asking = record { log = q.log; reading = q.reading; step = q.step; here = q.here; remembers = rw z (nothing_remembers (text_in a q.reading q.step) buffer q.room) };
          shallow = rw q.whole (shallow q.reading q.step name w.ended);
        }

    pub whole_written : {after : List ℕ} {r : Draft} → WritesName bs a name buffer d after r → WritesWhole bs a (spelling a) name buffer after r.at
    whole_written p =
        record {
          writes = λ log rd s h q.
              let o = p.writes log rd s h (rw w.asked.whole (shallow rd s name q)) (rw z (nothing_remembers (text_in a rd s) buffer w.asked.room)) in
              rw z at o.puts;
        }

-- the name at a key's number is the key's
module _ (key : Key) {k : ℕ} (e : k ≡ key_number (key_name key)) where
  pub number_low : k < rule_keys
  number_low = rw e (key_low key)

  module _ {n : List ℕ} (q : n ≡ get_or key_names k []) where
    is_name : n ≡ key_name key
    is_name = q ∙ ap (λ (j : ℕ). get_or key_names j []) e ∙ key_at_law (key_name key) (key_low key)

    -- a step that is asked for with names spelt another way
    pub key_asked : (plain : Bool) {t : List ℕ} {bs : Buffers} {buffer : List ℕ} {a : Asked} → WholeAsk t bs a (key_name key) buffer → WholeAsk t bs (asked_as a plain a.depth) n buffer
    key_asked plain {a = a} w =
        let q = w.asked in
        rw is_name
        (record {
          asked =
              record {
                table = q.table;
                room = q.room;
                log = q.log;
                reading = q.reading;
                step = q.step;
                here = here_as plain a.depth q.here;
                whole = q.whole;
              };
          ended = w.ended;
        })

    pub key_written : {plain : Bool} {bs : Buffers} {before after : List ℕ} {a : Asked} {r : ℕ} → spelled_by plain ≡ spelling_for (key_name key)
        → WritesWhole bs (asked_as a plain a.depth) (spelled_by plain) n before after r → WritesWhole bs a (spelling_for (key_name key)) (key_name key) before after r
    key_written {plain} {bs} {before} {after} {a} {r} z p =
        record {
          writes = λ log rd s h q.
              let o = p.writes log rd s (here_as plain a.depth h) (rw is_name q) in
              rw (← z, ← is_name) o;
        }

-- ---- what the functions ask

module _ {t : List ℕ} {bs : Buffers} {buffer : List ℕ} {a : Asked} (w : StepAsk t bs a buffer) where
  pub leads_asked : depth.RecursionAsks t bs.texts bs.bind a
  leads_asked = record { table = w.table; within = record { log = w.log; reading = w.reading; step = w.step; scope = w.here.scope } }
