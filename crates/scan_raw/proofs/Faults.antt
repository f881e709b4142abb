-- The place of a bad `$`, which the rules tell by the number of bytes that are left from it on.
use Prim.Native.Nat.{ℕ, ◌+◌, ◌-◌, ◌≤◌}
use mathlib.Core.List.{List}
use mathlib.Core.Path.{◌≡◌, ap}
use native.Mathlib.Omega.{arith}
use lib.ListN.{length, drop, length-drop, length-append}
use Rattle.lists.specs.Runs.{run_append}
use Rattle.spec.specs.declared.Refusal.TheVariants.{BadDollar}
use Rattle.spec.specs.Lines.{Line, is_space}
use Rattle.spec.specs.Forms.{left_at_dollar, raw_value}
use Rattle.spec.specs.Manifest.{fault_of}

pub fault_place : (l : Line) (p : ℕ) → p ≤ length l.text → fault_of l (left_at_dollar (length l.text - p)) ≡ BadDollar (l.start + p)
unfolding fault_of
fault_place l p h = let z : length l.text - (length l.text - p) ≡ p = omega arith in rw z

-- a raw value is no longer than its line
pub raw_length : (s : List ℕ) (from : ℕ) → length (raw_value (drop from s)) ≤ length s
unfolding raw_value
raw_length s from =
    omega (arith, length-drop from s, simp length-append at (ap length (run_append is_space (drop from s))))
