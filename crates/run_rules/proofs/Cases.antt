-- Small tables, computed: what a wrong runner would start.
use Rattle.std.specs.Prelude.{Option, Some, None}
use mathlib.Core.Bool.{true, false, not, cond}
use mathlib.Core.List.{[], ◌∷◌}
use mathlib.Core.Option.{none, some}
use mathlib.Core.Path.{◌≡◌, refl}
use lib.Dec.{eqb}
use lib.IntN.{pos}
use lib.Ieee.{Float, nan, inf, fin, le}
use Rattle.run_rules.specs.declared.Job.{Job}
use Rattle.run_rules.specs.Runner.{Given, turned, next_start, after_start, after_finish, waiting_job}

-- four jobs at most, pool 1 with a depth of 1, and step 3 upstream of step 5
abbrev given : Option Float → Given
given gate = record { upstream = λ s. cond (eqb s 5) (3 ∷ []) []; depth = λ p. 1; limit = 4; gate = gate }

abbrev running : Job → Job
running = turned 1

abbrev four : Float
four = fin false 1 (pos 2)

abbrev five : Float
five = fin false 5 (pos 0)

-- "Lowest is by step number, not by place in the list."
pub lowest_by_number : (load : Float) → next_start (given None) load (waiting_job 7 0 ∷ waiting_job 2 0 ∷ []) ≡ some 2
unfolding next_start
lowest_by_number load = refl

-- "every listed step upstream is done": one that runs is not, one that is not listed does not count
pub upstream_runs : (load : Float) → next_start (given None) load (running (waiting_job 3 0) ∷ waiting_job 5 0 ∷ []) ≡ none
unfolding next_start
upstream_runs load = refl

pub upstream_unlisted : (load : Float) → next_start (given None) load (running (waiting_job 4 0) ∷ waiting_job 5 0 ∷ []) ≡ some 5
unfolding next_start
upstream_unlisted load = refl

pub upstream_ended : (load : Float) → next_start (given None) load (after_finish (running (waiting_job 3 0) ∷ waiting_job 5 0 ∷ []) 3 true) ≡ some 5
unfolding next_start after_finish
upstream_ended load = refl

-- "its pool has room": a full pool holds the lower step back, and not one of the empty pool
pub pool_full : (load : Float) → next_start (given None) load (running (waiting_job 0 1) ∷ waiting_job 1 1 ∷ waiting_job 2 0 ∷ []) ≡ some 2
unfolding next_start
pool_full load = refl

-- "while a reading is above it or no number, a step starts only when none runs"
pub load_above : next_start (given (Some four)) five (running (waiting_job 0 0) ∷ waiting_job 1 0 ∷ []) ≡ none
unfolding next_start
load_above = refl

pub load_equal : next_start (given (Some four)) four (running (waiting_job 0 0) ∷ waiting_job 1 0 ∷ []) ≡ some 1
unfolding next_start
load_equal = refl

pub load_nan : next_start (given (Some four)) nan (running (waiting_job 0 0) ∷ waiting_job 1 0 ∷ []) ≡ none
unfolding next_start
load_nan = refl

pub load_nan_none_runs : next_start (given (Some four)) nan (waiting_job 0 0 ∷ waiting_job 1 0 ∷ []) ≡ some 0
unfolding next_start
load_nan_none_runs = refl

-- a highest load that is no number: with "not below or equal" it would hold back every reading
pub gate_no_number : next_start (given (Some nan)) (inf false) (running (waiting_job 0 0) ∷ waiting_job 1 0 ∷ []) ≡ some 1
unfolding next_start
gate_no_number = refl

pub wrong_gate : not (le (inf false) nan) ≡ true
unfolding le
wrong_gate = refl

-- "After a failed step nothing starts"
pub after_failure : (load : Float) → next_start (given None) load (after_finish (running (waiting_job 0 0) ∷ waiting_job 1 0 ∷ []) 0 false) ≡ none
unfolding next_start after_finish
after_failure load = refl

-- a start, then a finish: each step of the table by its number
pub started_by_number : after_start (waiting_job 7 0 ∷ waiting_job 2 1 ∷ []) 2 ≡ waiting_job 7 0 ∷ running (waiting_job 2 1) ∷ []
unfolding after_start
started_by_number = refl
