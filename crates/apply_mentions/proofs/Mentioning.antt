-- A raw path: what the word buffer holds of it, and what its answer says.
use Rattle.std.specs.Prelude.{Option, None}
use Prim.Native.Nat.{ℕ, ◌≤◌}
use mathlib.Core.Bool.{true, false}
use mathlib.Core.List.{List}
use mathlib.Core.Path.{◌≡◌, sym, ◌∙◌, ap}
use native.Mathlib.Omega.{arith}
use lib.ListN.{length, take}
use Rattle.spec.specs.Dollars.{expand}
use Rattle.spec.specs.Reading.{file_var}
use Rattle.spec.specs.Statements.{expanded}
use Rattle.hold_bindings.specs.Log.{Logged}
use Rattle.hold_bindings.specs.Held.{HoldsBindings}
use Rattle.expand_parts.specs.Runs as runs
use Rattle.expand_dollars.specs.Written.{Written}
use Rattle.expand_parts.proofs.Expansions.{expanded_vars}
use Rattle.expand_dollars.proofs.Callers.{written_whole}
use Rattle.hold_reading.specs.declared.Counts.{Counts}
use Rattle.apply_files.specs.Lines.{over}
use Rattle.apply_files.specs.Path.{path_over, PathFits, AddsPath}
use Rattle.apply_mentions.specs.Asks.{MentionAsks, Mentions}
use Rattle.apply_files.proofs.Limits.{path_over_law, path_within}
use Rattle.hold_reading.specs.Buffers.{Buffers}

module _ {t raw : List ℕ} {bs : Buffers} {word : List ℕ} {c : Counts} (a : MentionAsks t raw bs word c) {word' : List ℕ} {k : ℕ}
    (x : (log : List Logged) → HoldsBindings log bs.texts bs.bind c.entries → Written word (runs.expanded_by log raw) word' k) where
  pub mention_over : {names' index' graph' : List ℕ} → path_over k c ≡ true → Mentions raw bs c names' index' graph' None
  unfolding expanded
  mention_over h =
      record {
        marks = λ l w.
            let e : expand (file_var l.reading.vars) raw ≡ runs.expanded_by l.log raw = expanded_vars l.log l.reading.vars raw w.bound.vars in
            rw e (over (path_over_law w (runs.expanded_by l.log raw) (rw (← (x l.log w.bound.held).count) h)));
      }

  module _ (h : path_over k c ≡ false) where
    pub path_fits : k ≤ length word
    path_fits = omega (arith, (path_within k c h).short, a.room.word_long)

    pub path_counted : length (take k word') ≡ k
    path_counted =
        let w = x a.line.log a.writing.bound.held in
        ap length (written_whole w path_fits) ∙ sym w.count

    pub mention_fits : PathFits (take k word') bs.names bs.index bs.graph c
    mention_fits =
        record {
          texts = bs.texts;
          bind = bs.bind;
          names_long = a.room.names_long;
          within = rw path_counted h;
          line = a.line;
          writing = a.writing;
        }

    pub mention_marked : {names' index' graph' : List ℕ} {r : Option Counts} → AddsPath (take k word') bs.names bs.index bs.graph c names' index' graph' r
        → Mentions raw bs c names' index' graph' r
    unfolding expanded
    mention_marked m =
        record {
          marks = λ l w.
              let e : expand (file_var l.reading.vars) raw ≡ runs.expanded_by l.log raw = expanded_vars l.log l.reading.vars raw w.bound.vars in
              rw (e ∙ sym (written_whole (x l.log w.bound.held) path_fits)) (m.adds bs.texts bs.bind l w);
        }
