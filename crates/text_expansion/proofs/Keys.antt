-- The text of a name: as it is, once more where it stands already, or a rule's text expanded.
use Rattle.std.specs.Prelude.{Some}
use Prim.Native.Nat.{ℕ, ◌-◌, ◌≤◌}
use mathlib.Core.Bool.{Bool}
use mathlib.Core.List.{List}
use mathlib.Core.Path.{◌≡◌, refl, sym, ◌∙◌, ap}
use native.Mathlib.Omega.{arith}
use Rattle.lists.specs.Parts.{part}
use Rattle.spec.specs.Dollars.{expand}
use Rattle.spec.specs.Reading.{Step, Reading}
use Rattle.spec.specs.Text.{Spelling, quoted, as_is, of_rule, lookup_by}
use Rattle.hold_bindings.specs.Log.{Logged, entry_at}
use Rattle.text_lookup.specs.declared.Asked.{Asked}
use Rattle.text_lookup.specs.declared.Source.{Source}
use Rattle.text_lookup.specs.declared.Source.TheVariants.{Inputs, InputLines, Outputs, Value, Text, Unset}
use Rattle.text_lookup.specs.Scope.{InScope, meaning, There, LooksUp}
use Rattle.text_lookup.proofs.Standing.{found_key, ValueOf}
use Rattle.text_recursion.proofs.Depths.{not_zero, text_shallow, text_whole, text_as_is}
use Rattle.text_memo.specs.declared.Span.{Span}
use Rattle.text_memo.specs.declared.Draft.{Draft}
use Rattle.text_memo.specs.Draft.{span_for, Remembered, WrittenPart, Remembers, Drafted, WritesDraft}
use Rattle.text_memo.proofs.Spans.{drafted_name}
use Rattle.text_expansion.specs.Here.{asked_as, Here}
use Rattle.text_expansion.specs.Asks.{spelling, text_in, PlainAsk, WritesPlain, RawTextAsk, WritesText, NameTextAsk, WritesName}
use Rattle.hold_reading.specs.Buffers.{Buffers}

-- a rule's key, by its entry
pub record KeyAsk (t : List ℕ) (bs : Buffers) (a : Asked) (name : List ℕ) (k : ℕ) (buffer : List ℕ) (d : Draft) : Type 0 where
  pub ask : NameTextAsk t bs a name buffer d
  pub there : There bs.texts bs.bind a k
  pub found : (spell : Spelling) (log : List Logged) (rd : Reading) (s : Step) → Here bs a log rd s → lookup_by spell rd s name ≡ of_rule (entry_at k log).value

-- the same step, one rule text deeper
abbrev pub deeper : Asked → Asked
deeper a = asked_as a a.plain (a.depth - 1)

-- the buffers hold the same
pub here_as : {bs : Buffers} {a : Asked} {log : List Logged} {rd : Reading} {s : Step} (plain : Bool) (depth : ℕ) → Here bs a log rd s → Here bs (asked_as a plain depth) log rd s
here_as plain depth h =
    let c = h.scope in
    let f = h.files in
    record {
      scope =
          record {
            bound = c.bound;
            vars = c.vars;
            stands = c.stands;
            block = c.block;
            keys = c.keys;
            sound = c.sound;
            scope_low = c.scope_low;
            step_low = c.step_low;
            rule_low = c.rule_low;
          };
      files =
          record {
            named = f.named;
            outs_ordered = f.outs_ordered;
            ins_ordered = f.ins_ordered;
            within = f.within;
            outs = f.outs;
            ins = f.ins;
            low = f.low;
          };
    }

-- ---- a name

module _ {t : List ℕ} {bs : Buffers} {name before : List ℕ} {a : Asked} {d : Draft} (w : NameTextAsk t bs a name before d) where
  pub in_scope : InScope bs.texts bs.bind a
  in_scope = let q = w.asking in record { log = q.log; reading = q.reading; step = q.step; scope = q.here.scope }

  module _ {source : Source} (l : LooksUp bs.texts bs.bind a (λ spell rd s. lookup_by spell rd s name) source) where
    pub key_asked : {k : ℕ} → source ≡ Text k → KeyAsk t bs a name k before d
    unfolding meaning
    key_asked {k} e =
        record {
          ask = w;
          there = l.text k e;
          found = λ spell log rd s h. l.means spell log rd s h.scope ∙ ap (meaning spell rd s log) e;
        }

    pub plain_asked : PlainAsk bs a source before d
    plain_asked =
        let q = w.asking in
        record { reading = q.reading; step = q.step; files = q.here.files; free = q.remembers.free; value = l.value }

    module _ {after : List ℕ} {r : Draft} (p : WritesPlain bs a source before d after r) where
      as_it_is : {log : List Logged} {rd : Reading} {s : Step} (v : List ℕ) → Here bs a log rd s → meaning (spelling a) rd s log source ≡ as_is v → Remembers (text_in a rd s) before d
          → Drafted (text_in a rd s) before d (text_in a rd s name) after r
      as_it_is {log} {rd} {s} v h e k =
          rw (text_as_is rd s (spelling a) name v (l.means (spelling a) log rd s h.scope ∙ e)) (p.writes log rd s h v e (text_in a rd s) k)

      by_source : {log : List Logged} {rd : Reading} {s : Step} (y : Source) → source ≡ y → ((k : ℕ) → source ≡ Text k → ⊥) → Here bs a log rd s
          → Remembers (text_in a rd s) before d → Drafted (text_in a rd s) before d (text_in a rd s name) after r
      unfolding meaning
      by_source {log} {rd} {s} Inputs e n h k = as_it_is _ h (ap (meaning (spelling a) rd s log) e) k
      by_source {log} {rd} {s} InputLines e n h k = as_it_is _ h (ap (meaning (spelling a) rd s log) e) k
      by_source {log} {rd} {s} Outputs e n h k = as_it_is _ h (ap (meaning (spelling a) rd s log) e) k
      by_source {log} {rd} {s} (Value j) e n h k = as_it_is _ h (ap (meaning (spelling a) rd s log) e) k
      by_source {log} {rd} {s} (Text j) e n h k = absurd (n j e)
      by_source {log} {rd} {s} Unset e n h k = as_it_is _ h (ap (meaning (spelling a) rd s log) e) k

      pub plain_written : ((k : ℕ) → source ≡ Text k → ⊥) → WritesName bs a name before d after r
      plain_written n = record { writes = λ log rd s h c k. by_source source refl n h k }

-- ---- a rule's key

module _ {t : List ℕ} {bs : Buffers} {name before : List ℕ} {a : Asked} {k : ℕ} {d : Draft} (w : KeyAsk t bs a name k before d) where
  -- where it stands already

  module _ {x : Span} (e : span_for d name ≡ Some x) where
    pub again_behind : WrittenPart before x.from x.to d.at
    again_behind =
        let q = w.ask.asking.remembers in
        let o = q.kept name x e in
        record { ordered = o.ordered; written = o.written; free = q.free }

    pub again_written : {after : List ℕ} {r : Draft} → WritesDraft before d (part before x.from x.to) after r → WritesName bs a name before d after r
    again_written {after} {r} p =
        record {
          writes = λ log rd s h c q.
              let z : part before x.from x.to ≡ text_in a rd s name = (q.kept name x e).is in
              rw (← z) (p.drafts (text_in a rd s) q);
        }

  -- its text expanded

  pub depth_left : 1 ≤ a.depth
  depth_left =
      let q = w.ask.asking in
      let n : a.depth ≡ 0 → ⊥ = not_zero q.reading q.step a.depth name w.ask.shallow in
      omega arith

  module _ {raw : List ℕ} (v : ValueOf bs.texts bs.bind k raw) where
    raw_found : (spell : Spelling) {log : List Logged} {rd : Reading} {s : Step} → Here bs a log rd s → lookup_by spell rd s name ≡ of_rule raw
    raw_found spell {log} {rd} {s} h = w.found spell log rd s h ∙ ap of_rule (sym (v log a.entries h.scope.bound w.there.low))

    pub text_asked : RawTextAsk t bs (deeper a) raw before d
    text_asked =
        let q = w.ask.asking in
        record {
          ready =
              record {
                table = w.ask.table;
                within = omega arith;
                sound = (q.here.scope.sound name raw (found_key q.reading q.step name raw (raw_found quoted q.here))).sound;
              };
          low = omega (arith, w.ask.low);
          asking = record { log = q.log; reading = q.reading; step = q.step; here = here_as a.plain (a.depth - 1) q.here; remembers = q.remembers };
          shallow = text_shallow q.reading q.step a.depth name raw w.ask.shallow (raw_found quoted q.here);
        }

    pub key_written : {after : List ℕ} {m r : Draft} → WritesText bs (deeper a) raw before d after m → Remembered m name d.at r
        → WritesName bs a name before d after r
    key_written {after} {m} {r} p e =
        record {
          writes = λ log rd s h c q.
              let z : text_in a rd s name ≡ expand (text_in a rd s) raw = text_whole rd s (spelling a) a.depth name raw c w.ask.low (raw_found (spelling a) h) in
              let o : Drafted (text_in a rd s) before d (text_in a rd s name) after m = rw z (p.writes log rd s (here_as a.plain (a.depth - 1) h) (text_shallow rd s a.depth name raw c (raw_found quoted h)) q) in
              drafted_name q name o e;
        }
