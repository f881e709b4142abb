-- The word buffer holds the value that the rules expand.
use Prim.Native.Nat.{ℕ, ◌≤◌}
use mathlib.Core.Bool.{false}
use mathlib.Core.List.{List}
use mathlib.Core.Path.{◌≡◌, refl, sym, ◌∙◌, ap}
use native.Mathlib.Omega.{arith}
use lib.ListN.{length, take, drop}
use lib.Seq.{take_all, take-append_seam}
use Rattle.spec.specs.Dollars.{expand}
use Rattle.spec.specs.Reading.{Variables, Reading, file_var}
use Rattle.spec.specs.Statements.{Block, no_block, rule_block, build_block}
use Rattle.spec.specs.Manifest.{with_rule, with_step}
use Rattle.hold_bindings.specs.Log.{Logged}
use Rattle.hold_bindings.specs.Held.{HoldsBindings}
use Rattle.expand_parts.specs.Runs.{expanded_by}
use Rattle.expand_dollars.specs.Written.{laid_over, Written}
use Rattle.hold_reading.specs.declared.Counts.{Counts}
use Rattle.hold_reading.specs.declared.Open.{Open}
use Rattle.hold_reading.specs.Held.{joined, HoldsBound}
use Rattle.apply_bindings.specs.Limits.{binding_over}
use Rattle.apply_bindings.proofs.Entries.{value_short}
use Rattle.apply_variables.specs.Asks.{BindingAsks}

-- A block has no part in it: "A block value sees no earlier line of its block."
joined_vars : (rd : Reading) (b : Block) → (joined rd b).vars ≡ rd.vars
unfolding joined with_rule with_step
joined_vars rd no_block = refl
joined_vars rd (rule_block start r) = refl
joined_vars rd (build_block s) = refl

pub value_held : {log : List Logged} {texts bind : List ℕ} {c : Counts} (rd : Reading) (b : Block) → HoldsBound log texts bind c (joined rd b) → (raw : List ℕ)
    → expand (file_var rd.vars) raw ≡ expanded_by log raw
unfolding expanded_by
value_held rd b d raw = ap (λ (v : Variables). expand (file_var v) raw) (sym (joined_vars rd b) ∙ d.vars)

pub written_word : {before s after : List ℕ} {n : ℕ} → Written before s after n → n ≤ length before → take n after ≡ s
unfolding laid_over
written_word {before} {s} {after} {n} w h =
    ap (take n) w.bytes
    ∙ rw (w.count, take_all (length before) s (omega (arith, w.count))) (take-append_seam s (drop (length s) before))

-- A value within the limits is in the buffer, whole.
module _ {t raw texts bind word : List ℕ} {c : Counts} {o : Open} (a : BindingAsks t raw texts bind word c o) (n k : ℕ) (h : binding_over n k c ≡ false) where
  pub value_fits : k ≤ length word
  value_fits = omega (arith, value_short n k c h, a.room)

  pub value_counted : {word' : List ℕ} → ((log : List Logged) → HoldsBindings log texts bind c.entries → Written word (expanded_by log raw) word' k) → length (take k word') ≡ k
  value_counted x =
      let w = x a.sound.log a.sound.known.bound.held in
      ap length (written_word w value_fits) ∙ sym w.count
