-- `finish_noted` meets its contract.
use Rattle.status_record.proofs.Steps.{noted_law}
use Prim.Native.Nat.{ℕ, ◌≤◌}
use mathlib.Core.Path.{sym, subst}
use Rattle.status_record.proofs.Steps.{held_few}
use Rattle.status_record.proofs.finish_noted.Goals as goal

pub current_rate-current-requires : goal.current_rate-current-requires
current_rate-current-requires c = subst (λ (n : ℕ). n ≤ 16) (sym c.held_times.ensures) (held_few c.args.s.jobs c.args.s.finished)

pub returns : goal.returns
returns c = noted_law c.args.s c.as_float.ensures c.slid-window.ensures c.held_times.ensures c.current_rate-current.ensures
