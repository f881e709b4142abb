-- For callers: what the buffer holds of an expansion.
use Prim.Native.Nat.{ℕ, ◌≤◌}
use mathlib.Core.List.{List}
use mathlib.Core.Path.{◌≡◌, ◌∙◌, ap}
use native.Mathlib.Omega.{arith}
use lib.ListN.{length, take, drop}
use lib.Seq.{take_all, take-append_seam}
use Rattle.expand_dollars.specs.Written.{laid_over, Written}
use Rattle.expand_dollars.proofs.Laid.{length_laid}

module _ {before s after : List ℕ} {n : ℕ} (w : Written before s after n) where
  pub written_long : length after ≡ length before
  written_long = ap length w.bytes ∙ length_laid before s

  -- an expansion that fits
  pub written_whole : n ≤ length before → take n after ≡ s
  unfolding laid_over
  written_whole h =
      rw (w.bytes, w.count, take_all (length before) s (omega (arith, w.count))) (take-append_seam s (drop (length s) before))
