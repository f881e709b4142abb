-- The loop that writes a rule's text piece by piece.
use Prim.Native.Nat.{ℕ, ◌≤◌, ◌<◌}
use mathlib.Core.List.{List, [], ◌∷◌, ◌++◌, append-nil, append_assoc}
use mathlib.Core.Bool.{false}
use mathlib.Core.Path.{◌≡◌, refl, sym, ◌∙◌, ap}
use lib.ListN.{length, drop, drop_of_length-le}
use Rattle.lists.specs.Members.{any}
use Rattle.lists.specs.Parts.{part}
use Rattle.spec.specs.Limits.{max_text}
use Rattle.spec.specs.Dollars.{ref, fill, expand, refs}
use Rattle.spec.specs.Reading.{Step, Reading}
use Rattle.scan_raw.proofs.Pieces.{pieces_end}
use Rattle.hold_bindings.specs.Log.{Logged}
use Rattle.text_references.specs.Begins.{ReferencesReady, plainly, PiecesStand}
use Rattle.text_references.proofs.Turns.{expand_bytes, expand_name, refs_bytes, refs_name, ready_on}
use Rattle.text_lookup.specs.declared.Asked.{Asked}
use Rattle.text_recursion.specs.Depth.{goes_deep}
use Rattle.text_recursion.proofs.Depths.{none_first, none_later}
use Rattle.text_buffer.specs.Puts.{OpenText}
use Rattle.text_buffer.proofs.Parts.{open_on}
use Rattle.text_memo.specs.declared.Draft.{Draft}
use Rattle.text_memo.specs.Draft.{Remembers, Drafted, WritesDraft}
use Rattle.text_memo.proofs.Spans.{drafted_none, drafted_then, drafted_over}
use Rattle.text_expansion.specs.Here.{Here}
use Rattle.text_expansion.specs.Asks.{text_in, RawTextAsk, WritesText, NameTextAsk, WritesName}
use Rattle.hold_reading.specs.Buffers.{Buffers}

expand_none : (look : List ℕ → List ℕ) → expand look [] ≡ []
unfolding expand fill
expand_none look = ap (fill look) pieces_end

-- A part is written, and what is left ends in the whole.
pub record Progress (rd : Reading) (s : Step) (raw : List ℕ) (a : Asked) (before : List ℕ) (d : Draft) (now : List ℕ) (x : Draft) (i : ℕ) : Type 0 where
  pub part : List ℕ
  pub adds : part ++ expand (text_in a rd s) (drop i raw) ≡ expand (text_in a rd s) raw
  pub drafted : Drafted (text_in a rd s) before d part now x
  pub shallow : any (goes_deep rd s a.depth) (refs (drop i raw)) ≡ false

pub record Writing (t : List ℕ) (bs : Buffers) (a : Asked) (raw before : List ℕ) (d : Draft) (now : List ℕ) (x : Draft) (i : ℕ) : Type 0 where
  pub ask : RawTextAsk t bs a raw before d
  pub ready : ReferencesReady t raw i
  pub free : OpenText now x.at
  pub long : length now ≡ length before
  pub done : (log : List Logged) (rd : Reading) (s : Step) → Here bs a log rd s → any (goes_deep rd s a.depth) (refs raw) ≡ false
      → Remembers (text_in a rd s) before d → Progress rd s raw a before d now x i

pub write_begin : {t : List ℕ} {bs : Buffers} {raw before : List ℕ} {a : Asked} {d : Draft} → RawTextAsk t bs a raw before d
    → Writing t bs a raw before d before d 0
write_begin w =
    record {
      ask = w;
      ready = w.ready;
      free = w.asking.remembers.free;
      long = refl;
      done = λ log rd s h b k. record { part = []; adds = refl; drafted = drafted_none k; shallow = b };
    }

module _ {t : List ℕ} {bs : Buffers} {raw before now : List ℕ} {a : Asked} {i : ℕ} {d x : Draft} (w : Writing t bs a raw before d now x i) where
  -- the reading that the ask speaks of
  asked : Progress w.ask.asking.reading w.ask.asking.step raw a before d now x i
  asked = let q = w.ask.asking in w.done q.log q.reading q.step q.here w.ask.shallow q.remembers

  module _ {next : ℕ} {after : List ℕ} {r : Draft} (ready : ReferencesReady t raw next) (u : Reading → Step → List ℕ)
      (e : (rd : Reading) (s : Step) → expand (text_in a rd s) (drop i raw) ≡ u rd s ++ expand (text_in a rd s) (drop next raw))
      (f : (log : List Logged) (rd : Reading) (s : Step) → Here bs a log rd s → any (goes_deep rd s a.depth) (refs (drop i raw)) ≡ false
      → Remembers (text_in a rd s) now x → Drafted (text_in a rd s) now x (u rd s) after r)
      (g : (rd : Reading) (s : Step) → any (goes_deep rd s a.depth) (refs (drop i raw)) ≡ false → any (goes_deep rd s a.depth) (refs (drop next raw)) ≡ false) where
    turn : (log : List Logged) (rd : Reading) (s : Step) → Here bs a log rd s → Progress rd s raw a before d now x i → Remembers (text_in a rd s) before d
        → Drafted (text_in a rd s) now x (u rd s) after r
    turn log rd s h p k = f log rd s h p.shallow (p.drafted.remembers w.free.low)

    turn_on : r.at ≤ max_text → Writing t bs a raw before d after r next
    turn_on b =
        let q = w.ask.asking in
        let o = turn q.log q.reading q.step q.here asked q.remembers in
        record {
          ask = w.ask;
          ready = ready;
          free = open_on o.puts b w.free;
          long = o.puts.long ∙ w.long;
          done = λ log rd s h c k.
              let p = w.done log rd s h c k in
              record {
                part = p.part ++ u rd s;
                adds = append_assoc p.part (u rd s) (expand (text_in a rd s) (drop next raw)) ∙ rw (← (e rd s)) p.adds;
                drafted = drafted_then k p.drafted w.free.low (turn log rd s h p k);
                shallow = g rd s p.shallow;
              };
        }

    turn_over : max_text < r.at → WritesText bs a raw before d after r
    turn_over b =
        record {
          writes = λ log rd s h c k.
              let p = w.done log rd s h c k in
              let z : (p.part ++ u rd s) ++ expand (text_in a rd s) (drop next raw) ≡ expand (text_in a rd s) raw =
              append_assoc p.part (u rd s) (expand (text_in a rd s) (drop next raw)) ∙ rw (← (e rd s)) p.adds in
              rw (← z) (drafted_over k (drafted_then k p.drafted w.free.low (turn log rd s h p k)) b (expand (text_in a rd s) (drop next raw)));
        }

  module _ {from to next : ℕ} where
    -- ---- bytes of the text

    module _ (b : PiecesStand raw i from to next (plainly (part raw from to))) {after : List ℕ} {r : Draft} (p : WritesDraft now x (part raw from to) after r) where
      pub bytes_on : r.at ≤ max_text → Writing t bs a raw before d after r next
      bytes_on =
          turn_on (ready_on w.ready b) (λ rd s. part raw from to) (λ rd s. expand_bytes b (text_in a rd s)) (λ log rd s h c k. p.drafts (text_in a rd s) k)
          (λ rd s c. rw (refs_bytes b) at c)

      pub bytes_over : max_text < r.at → WritesText bs a raw before d after r
      bytes_over =
          turn_over (ready_on w.ready b) (λ rd s. part raw from to) (λ rd s. expand_bytes b (text_in a rd s)) (λ log rd s h c k. p.drafts (text_in a rd s) k)
          (λ rd s c. rw (refs_bytes b) at c)

    -- ---- a name

    module _ (b : PiecesStand raw i from to next (ref (part raw from to) ∷ [])) where
      first : (rd : Reading) (s : Step) → any (goes_deep rd s a.depth) (refs (drop i raw)) ≡ false → goes_deep rd s a.depth (part raw from to) ≡ false
      first rd s c = none_first (goes_deep rd s a.depth) (part raw from to) (refs (drop next raw)) (rw (refs_name b) at c)

      later : (rd : Reading) (s : Step) → any (goes_deep rd s a.depth) (refs (drop i raw)) ≡ false → any (goes_deep rd s a.depth) (refs (drop next raw)) ≡ false
      later rd s c = none_later (goes_deep rd s a.depth) (part raw from to) (refs (drop next raw)) (rw (refs_name b) at c)

      pub name_asked : NameTextAsk t bs a (part raw from to) now x
      name_asked =
          let q = w.ask.asking in
          record {
            table = w.ready.table;
            low = w.ask.low;
            asking = record { log = q.log; reading = q.reading; step = q.step; here = q.here; remembers = asked.drafted.remembers w.free.low };
            shallow = first q.reading q.step asked.shallow;
          }

      module _ {after : List ℕ} {r : Draft} (p : WritesName bs a (part raw from to) now x after r) where
        pub name_on : r.at ≤ max_text → Writing t bs a raw before d after r next
        name_on =
            turn_on (ready_on w.ready b) (λ rd s. text_in a rd s (part raw from to)) (λ rd s. expand_name b (text_in a rd s)) (λ log rd s h c k. p.writes log rd s h (first rd s c) k) later

        pub name_over : max_text < r.at → WritesText bs a raw before d after r
        name_over =
            turn_over (ready_on w.ready b) (λ rd s. text_in a rd s (part raw from to)) (λ rd s. expand_name b (text_in a rd s)) (λ log rd s h c k. p.writes log rd s h (first rd s c) k) later

  pub write_end : length raw ≤ i → WritesText bs a raw before d now x
  write_end b =
      record {
        writes = λ log rd s h c k.
            let p = w.done log rd s h c k in
            let z : p.part ≡ expand (text_in a rd s) raw =
            sym (append-nil p.part) ∙ rw (drop_of_length-le raw {i = i} b, expand_none (text_in a rd s)) at p.adds in
            rw (← z) p.drafted;
      }
