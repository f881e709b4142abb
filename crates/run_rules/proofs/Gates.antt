-- The load gate, the job limit and the depth of a pool at their edges.
use Rattle.std.specs.Prelude.{Some, None}
use Prim.Native.Nat.{◌*◌, ◌<◌}
use mathlib.Core.Bool.{true, false}
use mathlib.Core.List.{List}
use mathlib.Core.Logic.{inl, inr}
use mathlib.Core.Option.{none}
use mathlib.Core.Path.{◌≡◌, refl}
use native.Mathlib.Omega.{arith}
use borrow.Author.Tests.{le-ltb}
use lib.Ieee.{Float, nan, inf, fin, is_nan, lt, up, down}
use Rattle.run_rules.specs.declared.Job.{Job}
use Rattle.run_rules.specs.Runner.{Given, running_jobs, heavy_load, next_start}
use Rattle.run_rules.specs.Claims.{Heavy, MayStart}
use Rattle.run_rules.proofs.Starts.{no_start}

-- "while a reading is above it or no number, a step starts only when none runs"
pub heavy_stops : (g : Given) (load : Float) (t : List Job) → Heavy g.gate load → 0 < running_jobs t → next_start g load t ≡ none
heavy_stops g load t h r = no_start g load t (λ j m s. let e = s.calm h in omega arith)

-- a reading that is no number lets no second step start
pub nan_stops : (g : Given) (t : List Job) {highest : Float} → g.gate ≡ Some highest → 0 < running_jobs t → next_start g nan t ≡ none
nan_stops g t e r = heavy_stops g nan t (rw e (inl refl)) r

-- "with the gate off readings do nothing"
pub gate_off : (load : Float) → heavy_load None load ≡ false
unfolding heavy_load
gate_off load = refl

-- "A highest load that is no number holds back only a reading that is no number"
pub gate_nan : (load : Float) → heavy_load (Some nan) load ≡ is_nan load
unfolding heavy_load is_nan lt
gate_nan nan = refl
gate_nan (inf s) = refl
gate_nan (fin s m e) = refl

-- "equal is not above"
pub gate_equal : (x : Float) → is_nan x ≡ false → heavy_load (Some x) x ≡ false
unfolding heavy_load is_nan lt
gate_equal nan h = h
gate_equal (inf true) h = refl
gate_equal (inf false) h = refl
gate_equal (fin true m e) h = le-ltb (m * up e * down e) (m * up e * down e) (omega arith)
gate_equal (fin false m e) h = le-ltb (m * up e * down e) (m * up e * down e) (omega arith)

-- "A job limit of 0 starts nothing."
pub limit_nought : (g : Given) (load : Float) (t : List Job) → g.limit ≡ 0 → next_start g load t ≡ none
limit_nought g load t e = no_start g load t (λ j m s. let l = s.jobs in omega arith)

-- in a pool of depth 0 no step could start
pub depth_nought : (g : Given) (load : Float) (t : List Job) (j : Job) → 0 < j.pool → g.depth j.pool ≡ 0 → MayStart g load t j → ⊥
depth_nought g load t j p e s = elim s.room [ inl z ↦ omega arith | inr l ↦ omega arith ]
