-- What the functions on one path of a default line answer.
use Rattle.std.specs.Prelude.{Option, Some, None}
use Prim.Native.Nat.{ℕ, ◌+◌, ◌≤◌}
use mathlib.Core.Bool.{true, false}
use mathlib.Core.List.{List}
use mathlib.Core.Path.{◌≡◌, sym, ◌∙◌, ap}
use native.Mathlib.Omega.{arith}
use lib.ListN.{length, take, set}
use Rattle.lists.specs.Tests.{differ}
use Rattle.hold_names.specs.Table.{FindsName}
use Rattle.hold_names.proofs.Laws.{find_at, find_missing}
use Rattle.hold_bindings.specs.Log.{Logged}
use Rattle.hold_bindings.specs.Held.{HoldsBindings}
use Rattle.expand_parts.specs.Runs.{expanded_by}
use Rattle.expand_dollars.specs.Written.{Written}
use Rattle.expand_dollars.proofs.Callers.{written_long, written_whole}
use Rattle.hold_reading.specs.declared.Counts.{Counts}
use Rattle.apply_path_checks.specs.Checks.{path_of}
use Rattle.apply_path_checks.proofs.Wrong.{path_held}
use Rattle.apply_path_checks.proofs.Makers.{made_among}
use Rattle.apply_files.specs.Path.{path_over}
use Rattle.apply_files.proofs.Limits.{path_within}
use Rattle.apply_default_path.specs.Defaults.{counted_default, PutsDefault, Named·is, NamesDefault}
use Rattle.apply_default_path.proofs.Growing.{default_held}
use Rattle.hold_reading.specs.Buffers.{Buffers}

-- ---- `put_default`

module _ {names index graph : List ℕ} {c : Counts} {path : List ℕ} {r : Option ℕ} (f : FindsName names index c.files path r) where
  pub put_found : {k : ℕ} → r ≡ Some k → path_over (length path) c ≡ false → PutsDefault names index graph c path (set graph (8192 + c.defaults) k) (counted_default (length path) c)
  put_found {k} e o =
      record {
        held = λ texts bind log rd h m.
            let (a, q, b) = find_at f h.named e in
            rw (← q) (default_held h (length path) k (path_within (length path) c o) (omega (arith, h.named.counted)));
      }

  -- An output has a name.
  pub put_missing : r ≡ None → {graph' : List ℕ} {d : Counts} → PutsDefault names index graph c path graph' d
  put_missing e = record { held = λ texts bind log rd h m. differ (made_among h path m) (find_missing f h.named e) }

-- ---- `add_default`

module _ (raw : List ℕ) {bs : Buffers} {word word' : List ℕ} {c : Counts} {n : ℕ}
    (x : (log : List Logged) → HoldsBindings log bs.texts bs.bind c.entries → Written word (expanded_by log raw) word' n) where
  pub default_over : path_over n c ≡ true → NamesDefault bs c raw bs.graph None
  unfolding Named·is
  default_over o =
      record {
        answer = λ log rd h m.
            rw (path_held h.bound raw, ← (x log h.bound.held).count) o;
      }

  pub default_added : n ≤ length word' → path_over n c ≡ false → {graph' : List ℕ} {d : Counts} → PutsDefault bs.names bs.index bs.graph c (take n word') graph' d
      → NamesDefault bs c raw graph' (Some d)
  unfolding Named·is
  default_added l o p =
      record {
        answer = λ log rd h m.
            let w = x log h.bound.held in
            let q : take n word' ≡ path_of rd raw = written_whole w (rw (written_long w) at l) ∙ sym (path_held h.bound raw) in
            let s : length (path_of rd raw) ≡ n = ap length (path_held h.bound raw) ∙ sym w.count in
            (rw s o, rw (← q) (p.held bs.texts bs.bind log rd h (rw q m)));
      }
