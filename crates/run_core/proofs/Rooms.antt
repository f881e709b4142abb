-- What is left of a pool's depth is the depth less the steps that run in it.
use Prim.Native.Nat.{ℕ, ◌-◌}
use mathlib.Core.Bool.{true, false, ◌&&◌}
use mathlib.Core.List.{List, [], ◌∷◌}
use mathlib.Core.Path.{◌≡◌, refl, sym, ap, ◌∙◌}
use native.Mathlib.Decide.{dec_lt}
use native.Mathlib.Omega.{arith}
use borrow.Author.Tests.{eqb-true, eqb-false, lt-ltb, le-ltb, ltb-true, ltb-false}
use lib.Dec.{eqb, ltb}
use lib.ListN.{length, get_or, set, length-set, get_or-eq_default}
use lib.Seq.{get_or-set_same, get_or-set_other}
use Rattle.lists.specs.Tests.{split}
use Rattle.run_rules.specs.declared.Job.{Job}
use Rattle.run_rules.specs.Runner.{job_runs, running_in}
use Rattle.run_rules.proofs.Tables.{one, count_cons, count_nil}
use Rattle.run_core.specs.Passes.{taken_room, room_left}

pub room_cons : (j : Job) (t : List Job) (room : List ℕ) → room_left (j ∷ t) room ≡ room_left t (taken_room j room)
unfolding room_left
room_cons j t room = refl

pub room_nil : (room : List ℕ) → room_left [] room ≡ room
unfolding room_left
room_nil room = refl

pub room_idle : (j : Job) (room : List ℕ) → job_runs j ≡ false → taken_room j room ≡ room
unfolding taken_room
room_idle j room e = rw e

pub room_taken : (j : Job) (room : List ℕ) → job_runs j ≡ true → taken_room j room ≡ set room j.pool (get_or room j.pool 0 - 1)
unfolding taken_room
room_taken j room e = rw e

pub length_room : (j : Job) (room : List ℕ) → length (taken_room j room) ≡ length room
length_room j room =
    split (job_runs j) (λ (e : job_runs j ≡ true). ap length (room_taken j room e) ∙ length-set room j.pool (get_or room j.pool 0 - 1)) (λ (e : job_runs j ≡ false). ap length (room_idle j room e))

pub length_left : (t : List Job) (room : List ℕ) → length (room_left t room) ≡ length room
length_left [] room = ap length (room_nil room)
length_left (j ∷ t) room = ap length (room_cons j t room) ∙ length_left t (taken_room j room) ∙ length_room j room

-- a place of the pool is taken, if there is one
taken_own : (room : List ℕ) (p : ℕ) → get_or (set room p (get_or room p 0 - 1)) p 0 ≡ get_or room p 0 - 1
taken_own room p = elim (dec_lt p (length room)) [
  | yes h ↦ get_or-set_same room p (get_or room p 0 - 1) 0 h
  | no h ↦ (
      let a : get_or (set room p (get_or room p 0 - 1)) p 0 ≡ 0
      = get_or-eq_default (set room p (get_or room p 0 - 1)) 0 {n = p} (omega (arith, length-set room p (get_or room p 0 - 1))) in
      let b : get_or room p 0 ≡ 0 = get_or-eq_default room 0 {n = p} (omega arith) in
      omega arith
      )
]

taken_room_law : (j : Job) (room : List ℕ) (p : ℕ) → get_or (taken_room j room) p 0 ≡ get_or room p 0 - one (job_runs j && eqb j.pool p)
taken_room_law j room p =
    split (job_runs j)
    (λ (e : job_runs j ≡ true).
    ap (λ (l : List ℕ). get_or l p 0) (room_taken j room e)
    ∙ split (eqb j.pool p)
    (λ (q : eqb j.pool p ≡ true).
    let y : j.pool ≡ p = eqb-true j.pool p q in
    rw (e, q, y) (taken_own room p))
    (λ (q : eqb j.pool p ≡ false).
    let z = get_or-set_other room j.pool p (get_or room j.pool 0 - 1) 0 (λ y. eqb-false j.pool p q (sym y)) in
    rw (e, q) (omega (arith, z))))
    (λ (e : job_runs j ≡ false). let z = ap (λ (l : List ℕ). get_or l p 0) (room_idle j room e) in rw e (omega (arith, z)))

pub room_left_law : (t : List Job) (room : List ℕ) (p : ℕ) → get_or (room_left t room) p 0 ≡ get_or room p 0 - running_in p t
unfolding running_in
room_left_law [] room p = let a = ap (λ (l : List ℕ). get_or l p 0) (room_nil room) in let c = count_nil (λ j. job_runs j && eqb j.pool p) in omega (arith, a)
room_left_law (j ∷ t) room p =
    let a = ap (λ (l : List ℕ). get_or l p 0) (room_cons j t room) ∙ room_left_law t (taken_room j room) p in
    let b = taken_room_law j room p in
    let c = count_cons (λ j. job_runs j && eqb j.pool p) j t in
    omega (arith, a)

-- "its pool has room"
pub room_test : (t : List Job) (room : List ℕ) (p : ℕ) → ltb 0 (get_or (room_left t room) p 0) ≡ ltb (running_in p t) (get_or room p 0)
room_test t room p =
    let a = room_left_law t room p in
    split (ltb (running_in p t) (get_or room p 0))
    (λ (e : ltb (running_in p t) (get_or room p 0) ≡ true). let l = ltb-true (running_in p t) (get_or room p 0) e in lt-ltb 0 (get_or (room_left t room) p 0) (omega arith) ∙ sym e)
    (λ (e : ltb (running_in p t) (get_or room p 0) ≡ false). let l = ltb-false (running_in p t) (get_or room p 0) e in le-ltb 0 (get_or (room_left t room) p 0) (omega arith) ∙ sym e)
