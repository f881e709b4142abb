-- The buffers hold one log only, so that what is known of the rules of one reading holds of every reading held.
use Prim.Native.Nat.{ℕ, suc, ◌-◌, ◌<◌}
use mathlib.Core.List.{List}
use mathlib.Core.Path.{◌≡◌, sym, ◌∙◌, ap}
use native.Mathlib.Omega.{arith}
use lib.ListN.{length, get_or}
use lib.Seq.{ext_get_or}
use Rattle.spec.specs.Reading.{Reading}
use Rattle.spec.specs.Sound.{SoundRules}
use Rattle.hold_bindings.specs.Log.{Logged, no_entry, entry_at, rules_of}
use Rattle.hold_bindings.specs.Held.{HoldsBindings}
use Rattle.hold_bindings.proofs.Entries.{row_at}
use Rattle.hold_reading.specs.declared.Counts.{Counts}
use Rattle.hold_reading.specs.Held.{HoldsBound}

same_logged : (a b : Logged) → a.owner ≡ b.owner → a.name ≡ b.name → a.value ≡ b.value → a ≡ b
same_logged a b p q r = λ i. record { owner = p i; name = q i; value = r i }

module _ {texts bind : List ℕ} {count : ℕ} {l m : List Logged} (a : HoldsBindings l texts bind count) (b : HoldsBindings m texts bind count) where
  same_entry : (k : ℕ) → k < count → entry_at k l ≡ entry_at k m
  same_entry k h =
      let x = row_at l k a h in
      let y = row_at m k b h in
      same_logged (entry_at k l) (entry_at k m) (sym x.owner ∙ y.owner) (sym x.name ∙ y.name) (sym x.value ∙ y.value)

  one_log : l ≡ m
  unfolding entry_at
  one_log =
      let n : length l ≡ length m = sym a.rows.counted ∙ b.rows.counted in
      ext_get_or no_entry l m n
      (λ i h.
      let e : entry_at (length l - suc i) l ≡ entry_at (length l - suc i) m = same_entry (length l - suc i) (omega (arith, a.rows.counted)) in
      let p : length l - suc (length l - suc i) ≡ i = omega arith in
      let q : length m - suc (length l - suc i) ≡ i = omega arith in
      ap (λ (j : ℕ). get_or l j no_entry) (sym p) ∙ e ∙ ap (λ (j : ℕ). get_or m j no_entry) q)

pub sound_any : {texts bind : List ℕ} {c : Counts} {l m : List Logged} {rd other : Reading} → HoldsBound l texts bind c rd → SoundRules rd → HoldsBound m texts bind c other → SoundRules other
sound_any {rd = rd} {other = other} a s b n =
    let e : other.rules ≡ rd.rules = b.rules ∙ ap rules_of (one_log b.held a.held) ∙ sym a.rules in
    rw e (s n)
