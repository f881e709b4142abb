-- Buffers of an ask's own have room for any manifest.
use Prim.Native.Nat.{ℕ, ◌+◌}
use mathlib.Core.List.{List}
use mathlib.Core.Path.{◌≡◌}
use native.Mathlib.Omega.{arith}
use lib.ListN.{length}
use Rattle.spec.specs.Limits.{max_written, max_value, max_manifest}
use Rattle.hold_names.specs.Table.{max_numbers}
use Rattle.scan_classes.specs.Table.{classes}
use Rattle.hold_bindings.specs.Held.{max_texts, max_rows}
use Rattle.hold_reading.specs.Held.{columns_end}
use Rattle.apply_manifest.specs.Manifests.{Roomy}
use Rattle.hold_reading.specs.Buffers.{Buffers}

module _ {t : List ℕ} {bs : Buffers} {word : List ℕ} (e : t ≡ classes) (n : length bs.names ≡ max_written) (f : length bs.index ≡ max_numbers)
    (x : length bs.texts ≡ max_texts) (b : length bs.bind ≡ max_rows) (g : length bs.graph ≡ columns_end + max_manifest) (w : length word ≡ max_value) where
  pub roomy : Roomy t bs word
  roomy =
      record {
        table = e;
        room = record { names_room = omega (arith, n); scratch = omega (arith, g); word_room = omega (arith, w) };
        names_small = omega (arith, n);
        numbers_room = omega (arith, f);
        texts_room = omega (arith, x);
        bind_room = omega (arith, b);
      }
