-- The loop that checks a manifest's bytes.
use Prim.Native.Nat.{ℕ, ◌+◌, ◌≤◌, ◌<◌}
use mathlib.Core.List.{List}
use mathlib.Core.Option.{Option, none, some}
use mathlib.Core.Path.{◌≡◌, refl, sym, ap, ◌∙◌}
use native.Mathlib.Nat.{le_antisymm}
use native.Mathlib.Numerals.{add-one}
use native.Mathlib.Omega.{arith}
use borrow.Author.Tests.{ne_eqb}
use lib.Dec.{eqb}
use lib.ListN.{length, drop, get_or}
use Rattle.spec.specs.Bytes.{newline, forbidden, class_of}
use Rattle.spec.specs.Manifest.{bad_byte}
use Rattle.scan_classes.proofs.Sorted.{sorted}
use Rattle.scan_tokens.proofs.Places.{at_cons, at_end}

-- i bytes are sound, and the last of them, or the newline before the first, is `last`.
pub record Checking (m : List ℕ) (last i : ℕ) : Type 0 where
  pub within : i ≤ length m
  pub same : bad_byte newline 0 m ≡ bad_byte last i (drop i m)

pub check_begin : {m : List ℕ} → Checking m newline 0
check_begin = record { within = omega arith; same = refl }

module _ {m : List ℕ} {last i : ℕ} (a : Checking m last i) where
  module _ (h : i < length m) {c : ℕ} (k : c ≡ class_of (get_or m i 0)) where
    by_class_law : forbidden (get_or m i 0) ≡ eqb c 12
    by_class_law = rw k (sorted (get_or m i 0)).forbidden

    pub check_bad : c ≡ 12 → some i ≡ bad_byte newline 0 m
    unfolding bad_byte
    check_bad e = sym (a.same ∙ rw (at_cons m i h, by_class_law, e))

    pub check_more : (c ≡ 12 → ⊥) → Checking m (get_or m i 0) (i + 1)
    unfolding bad_byte
    check_more e = record { within = omega arith; same = a.same ∙ rw (at_cons m i h, by_class_law, ne_eqb c 12 e, add-one) }

  pub check_ended : length m ≤ i → last ≡ newline → none ≡ bad_byte newline 0 m
  unfolding bad_byte
  check_ended h e = sym (a.same ∙ rw (at_end m i h, e))

  pub check_open : length m ≤ i → (last ≡ newline → ⊥) → some (length m) ≡ bad_byte newline 0 m
  unfolding bad_byte
  check_open h e = sym (a.same ∙ rw (at_end m i h, ne_eqb _ _ e) (ap {B = Option ℕ} some (le_antisymm a.within h)))
