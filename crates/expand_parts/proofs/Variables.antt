-- The value of a variable, as a run of the bound texts or an empty one.
use Rattle.std.specs.Prelude.{Option, Some, None}
use Prim.Native.Nat.{ℕ, ◌<◌}
use mathlib.Core.Bool.{true, false}
use mathlib.Core.List.{List}
use mathlib.Core.Path.{◌≡◌, refl, sym, ◌∙◌}
use native.Mathlib.Omega.{arith}
use native.Mathlib.Nat.{le_refl}
use lib.ListN.{length}
use Rattle.lists.specs.Tests.{differ}
use Rattle.lists.specs.Parts.{part_none}
use Rattle.hold_bindings.specs.declared.ValuePlace.{ValuePlace}
use Rattle.hold_bindings.specs.Log.{Logged, scoping_of, newest_from, value_of}
use Rattle.hold_bindings.specs.Held.{HoldsBindings, SoundBindings, HasEntry, ValueAt}
use Rattle.hold_bindings.proofs.Scopes.{newest_from_below, var_current}
use Rattle.expand_parts.specs.Runs.{bytes_of, Variable}

-- f is the newest entry of the name that is seen.
module _ (name : List ℕ) {texts bind : List ℕ} {count : ℕ} {f : Option ℕ} (q : (log : List Logged) → HoldsBindings log texts bind count → f ≡ newest_from (scoping_of log).current name log) where
  pub found_entry : {k : ℕ} → SoundBindings texts bind count → f ≡ Some k → HasEntry texts bind k
  found_entry {k} s e =
      let b : k < length s.log = newest_from_below (scoping_of s.log).current name s.log k (sym (q s.log s.held) ∙ e) in
      record { log = s.log; count = count; held = s.held; below = omega (arith, s.held.rows.counted) }

  pub found_value : {k : ℕ} {p : ValuePlace} (raw : List ℕ) (next : ℕ) → f ≡ Some k → ValueAt texts bind k p
      → Variable name raw texts bind count next (record { bound = true; from = p.from; to = p.to; next = next })
  unfolding bytes_of value_of
  found_value {k} raw next e v =
      record {
        next = refl;
        ordered = v.ordered;
        in_raw = λ b. differ refl b;
        in_texts = λ b. omega (arith, v.ends, v.texts_long);
        bounded = omega (arith, v.ends);
        value = λ log h.
            let n : newest_from (scoping_of log).current name log ≡ Some k = sym (q log h) ∙ e in
            let b : k < count = omega (arith, h.rows.counted, newest_from_below (scoping_of log).current name log k n) in
            v.value log count h b ∙ sym (var_current log h.scopes name ∙ rw n);
      }

  pub unset_value : (raw : List ℕ) (next : ℕ) → f ≡ None → Variable name raw texts bind count next (record { bound = false; from = next; to = next; next = next })
  unfolding bytes_of value_of
  unset_value raw next e =
      record {
        next = refl;
        ordered = le_refl next;
        in_raw = λ b. le_refl next;
        in_texts = λ b. differ b refl;
        bounded = omega arith;
        value = λ log h. part_none raw next next (le_refl next) ∙ sym (var_current log h.scopes name ∙ rw (sym (q log h) ∙ e));
      }
