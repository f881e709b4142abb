-- `test_scan::scanners::kestrenyo_line_end` meets its contract.
use Prim.Native.Nat.{ℕ}
use mathlib.Core.List.{List}
use mathlib.Core.Logic.{◌⊎◌, inl, inr}
use mathlib.Core.Path.{◌≡◌}
use native.Mathlib.Omega.{arith}
use Rattle.scan_lines.specs.declared.LineEnd.{LineEnd}
use Rattle.scan_lines.specs.declared.LineEnd.TheVariants.{Ended, Comment}
use Rattle.scan_lines.specs.Endings.{LineEnded, LineAt}
use Rattle.scan_lines.proofs.Answers.{line_ended, line_comment, line_open}
use Rattle.test_scan.proofs.Numbers.{line_ends, line_stays_open}
use Rattle.test_scan.proofs.scanners.kestrenyo_line_end.Goals as goal

either : (m : List ℕ) (i : ℕ) {e : ℕ} (r : LineEnd) → LineAt m i r → (r ≡ Ended e) ⊎ (r ≡ Comment e) → LineEnded m i e
either m i r a (inl q) = (line_ended m i r a q).line
either m i r a (inr q) = (line_comment m i r a q).line

pub overflow_add-result : goal.overflow_add-result
overflow_add-result c = omega (arith, (either _ _ _ c.line_end.ensures c.in-Ended.is).within)

pub returns-in-Ended : goal.returns-in-Ended
returns-in-Ended c = line_ends _ _ c.start_in-i.ensures (either _ _ _ c.line_end.ensures c.in-Ended.is)

pub returns-in-Open : goal.returns-in-Open
returns-in-Open c = line_stays_open _ _ c.start_in-i.ensures (line_open _ _ _ c.line_end.ensures c.in-Open.is)
