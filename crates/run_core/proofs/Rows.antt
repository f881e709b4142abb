-- The marks after all rows tell of each step whether it is pending, and whether one upstream is.
use Prim.Native.Nat.{ℕ, ◌+◌, ◌*◌, ◌/◌, ◌%◌, ◌≤◌, ◌<◌}
use mathlib.Core.Bool.{Bool, true, false, not, cond, ◌&&◌, ◌||◌}
use mathlib.Core.List.{List, [], ◌∷◌, ◌++◌}
use mathlib.Core.Path.{◌≡◌, refl, sym, ap, ◌∙◌}
use native.Mathlib.Decide.{dec_lt}
use native.Mathlib.Omega.{arith}
use borrow.Author.Tests.{eqb-true, eqb-false, eq-eqb, ne_eqb, lt-ltb, le-ltb, ltb-true, ltb-false}
use lib.Dec.{eqb, ltb}
use lib.ListN.{length, get_or, set, length-set, get_or-eq_default}
use lib.Seq.{get_or-set_same, get_or-set_other}
use Rattle.lists.specs.Fill.{zeros, length_zeros, get_or_zeros}
use Rattle.lists.specs.Members.{any, any_append, any_cons, any_none}
use Rattle.lists.specs.Tests.{if_b, split}
use Rattle.run_rules.specs.declared.Job.{Job}
use Rattle.run_rules.specs.Runner.{job_done}
use Rattle.run_rules.proofs.Tables.{one}
use Rattle.run_core.specs.Numbers.{rows_upstream, upstream_in}
use Rattle.run_core.specs.Passes.{marked_job, pending_marks, turn_flag, turn_marks, rows_marks}

-- a step is pending: it is listed and not done
unfoldable pub pending_in : List Job → ℕ → Bool
unfolding any
pending_in t x = any (λ u. not (job_done u) && eqb u.step x) t

-- a mark: pending itself, and one upstream pending
abbrev pub mark : Bool → Bool → ℕ
mark p q = one p + one q * 2

-- ---- the first pass
pending_cons : (j : Job) (t : List Job) (x : ℕ) → pending_in (j ∷ t) x ≡ (not (job_done j) && eqb j.step x) || pending_in t x
unfolding pending_in
pending_cons j t x = any_cons (λ u. not (job_done u) && eqb u.step x) j t

pub marks_cons : (j : Job) (t : List Job) (marks : List ℕ) → pending_marks (j ∷ t) marks ≡ pending_marks t (marked_job j marks)
unfolding pending_marks
marks_cons j t marks = refl

pub marks_nil : (marks : List ℕ) → pending_marks [] marks ≡ marks
unfolding pending_marks
marks_nil marks = refl

pub marked_done : (j : Job) (marks : List ℕ) → job_done j ≡ true → marked_job j marks ≡ marks
unfolding marked_job
marked_done j marks e = rw e

pub marked_undone : (j : Job) (marks : List ℕ) → job_done j ≡ false → marked_job j marks ≡ set marks j.step 1
unfolding marked_job
marked_undone j marks e = rw e

pub length_marked : (j : Job) (marks : List ℕ) → length (marked_job j marks) ≡ length marks
length_marked j marks =
    split (job_done j) (λ (e : job_done j ≡ true). ap length (marked_done j marks e)) (λ (e : job_done j ≡ false). ap length (marked_undone j marks e) ∙ length-set marks j.step 1)

pub length_pending : (t : List Job) (marks : List ℕ) → length (pending_marks t marks) ≡ length marks
length_pending [] marks = ap length (marks_nil marks)
length_pending (j ∷ t) marks = ap length (marks_cons j t marks) ∙ length_pending t (marked_job j marks) ∙ length_marked j marks

either : (b : Bool) → ◌≡◌ {A = ℕ} (cond b 1 1) 1
either true = refl
either false = refl

none_pending : (x : ℕ) → pending_in [] x ≡ false
unfolding pending_in
none_pending x = any_none (λ u. not (job_done u) && eqb u.step x)

pending_marks_law : (t : List Job) (marks : List ℕ) (x : ℕ) → x < length marks → get_or (pending_marks t marks) x 0 ≡ cond (pending_in t x) 1 (get_or marks x 0)
pending_marks_law [] marks x h =
    ap (λ (l : List ℕ). get_or l x 0) (marks_nil marks)
    ∙ ap (λ (b : Bool). cond b 1 (get_or marks x 0)) (sym (none_pending x))
pending_marks_law (j ∷ t) marks x h =
    let k : get_or (pending_marks (j ∷ t) marks) x 0 ≡ cond (pending_in t x) 1 (get_or (marked_job j marks) x 0)
    = ap (λ (l : List ℕ). get_or l x 0) (marks_cons j t marks) ∙ pending_marks_law t (marked_job j marks) x (omega (arith, length_marked j marks)) in
    let w = pending_cons j t x in
    let done : job_done j ≡ true → pending_in (j ∷ t) x ≡ pending_in t x = λ d. w ∙ rw d in
    let here : job_done j ≡ false → eqb j.step x ≡ true → pending_in (j ∷ t) x ≡ true = λ d e. w ∙ rw (d, e) in
    let other : job_done j ≡ false → eqb j.step x ≡ false → pending_in (j ∷ t) x ≡ pending_in t x = λ d e. w ∙ rw (d, e) in
    k ∙ split (job_done j)
    (λ (d : job_done j ≡ true).
    ap (λ (l : List ℕ). cond (pending_in t x) 1 (get_or l x 0)) (marked_done j marks d)
    ∙ ap (λ (b : Bool). cond b 1 (get_or marks x 0)) (sym (done d)))
    (λ (d : job_done j ≡ false).
    ap (λ (l : List ℕ). cond (pending_in t x) 1 (get_or l x 0)) (marked_undone j marks d)
    ∙ split (eqb j.step x)
    (λ (e : eqb j.step x ≡ true).
    let q : j.step ≡ x = eqb-true j.step x e in
    let y : get_or (set marks j.step 1) x 0 ≡ 1 = rw q (get_or-set_same marks x 1 0 h) in
    ap (λ (v : ℕ). cond (pending_in t x) 1 v) y ∙ either (pending_in t x) ∙ ap (λ (b : Bool). cond b 1 (get_or marks x 0)) (sym (here d e)))
    (λ (e : eqb j.step x ≡ false).
    ap (λ (v : ℕ). cond (pending_in t x) 1 v) (get_or-set_other marks j.step x 1 0 (λ q. eqb-false j.step x e (sym q)))
    ∙ ap (λ (b : Bool). cond b 1 (get_or marks x 0)) (sym (other d e))))

-- ---- the rows
pub length_turned : (v flag : ℕ) (marks : List ℕ) → length (turn_marks v flag marks) ≡ length marks
unfolding turn_marks
length_turned v flag marks =
    split (eqb (v % 2) 0) (λ (e : eqb (v % 2) 0 ≡ true). rw e) (λ (e : eqb (v % 2) 0 ≡ false). rw e (length-set marks (v / 2) (get_or marks (v / 2) 0 % 2 + flag * 2)))

pub rows_cons : (v : ℕ) (g : List ℕ) (flag : ℕ) (marks : List ℕ) → rows_marks (v ∷ g) flag marks ≡ rows_marks g (turn_flag v flag marks) (turn_marks v flag marks)
unfolding rows_marks
rows_cons v g flag marks = refl

pub rows_nil : (flag : ℕ) (marks : List ℕ) → rows_marks [] flag marks ≡ marks
unfolding rows_marks
rows_nil flag marks = refl

pub flag_small : (v flag : ℕ) (marks : List ℕ) → flag < 2 → turn_flag v flag marks < 2
unfolding turn_flag
flag_small v flag marks h =
    split (eqb (v % 2) 1) (λ (e : eqb (v % 2) 1 ≡ true). rw e (omega arith))
    (λ (e : eqb (v % 2) 1 ≡ false).
    split (eqb (get_or marks (v / 2) 0) 0)
    (λ (z : eqb (get_or marks (v / 2) 0) 0 ≡ true). rw (e, z) h)
    (λ (z : eqb (get_or marks (v / 2) 0) 0 ≡ false). rw (e, z) (omega arith)))

pick : (p q r : Bool) (k flag : ℕ) → k ≡ mark p q → flag ≡ one r → if_b (eqb k 0) (λ _. flag) (λ _. 1) ≡ one (p || (q || r))
pick true true r k flag e f = rw e
pick true false r k flag e f = rw e
pick false true r k flag e f = rw e
pick false false r k flag e f = rw e f

digits : (p q r : Bool) (k flag : ℕ) → k ≡ mark p q → flag ≡ one r → k % 2 + flag * 2 ≡ mark p r
digits true true r k flag e f = rw (e, f)
digits true false r k flag e f = rw (e, f)
digits false true r k flag e f = rw (e, f)
digits false false r k flag e f = rw (e, f)

-- what a number of a row adds to what is upstream
module _ (n : ℕ) where
  abbrev pub closed_row : ℕ → List ℕ → (ℕ → List ℕ) → ℕ → List ℕ
  closed_row s row up y = if_b (eqb y s) (λ _. if_b (ltb y n) (λ _. row) (λ _. [])) (λ _. up y)

  module _ (v : ℕ) (g row : List ℕ) (up : ℕ → List ℕ) (x : ℕ) where
    pub up_even_in : v % 2 ≡ 0 → v / 2 < n → rows_upstream n (v ∷ g) row up x ≡ rows_upstream n g (v / 2 ∷ up (v / 2) ++ row) up x
    unfolding rows_upstream
    up_even_in e b = rw (eq-eqb (v % 2) 0 e, lt-ltb (v / 2) n b)

    up_even_out : v % 2 ≡ 0 → n ≤ v / 2 → rows_upstream n (v ∷ g) row up x ≡ rows_upstream n g row up x
    unfolding rows_upstream
    up_even_out e b = rw (eq-eqb (v % 2) 0 e, le-ltb (v / 2) n b)

    pub up_odd : v % 2 ≡ 1 → rows_upstream n (v ∷ g) row up x ≡ rows_upstream n g [] (closed_row (v / 2) row up) x
    unfolding rows_upstream
    up_odd e = rw (ne_eqb (v % 2) 0 (λ z. omega arith))

  pub up_nil : (row : List ℕ) (up : ℕ → List ℕ) (x : ℕ) → rows_upstream n [] row up x ≡ up x
  unfolding rows_upstream
  up_nil row up x = refl

  -- steps from n on have nothing upstream
  up_past : (g row : List ℕ) (up : ℕ → List ℕ) (x : ℕ) → n ≤ x → up x ≡ [] → rows_upstream n g row up x ≡ []
  up_past [] row up x h e = up_nil row up x ∙ e
  up_past (v ∷ g) row up x h e =
      split (eqb (v % 2) 0)
      (λ (z : eqb (v % 2) 0 ≡ true).
      split (ltb (v / 2) n)
      (λ (b : ltb (v / 2) n ≡ true). up_even_in v g row up x (eqb-true (v % 2) 0 z) (ltb-true (v / 2) n b) ∙ up_past g (v / 2 ∷ up (v / 2) ++ row) up x h e)
      (λ (b : ltb (v / 2) n ≡ false). up_even_out v g row up x (eqb-true (v % 2) 0 z) (ltb-false (v / 2) n b) ∙ up_past g row up x h e))
      (λ (z : eqb (v % 2) 0 ≡ false).
      up_odd v g row up x (let w = eqb-false (v % 2) 0 z in omega arith)
      ∙ up_past g [] (closed_row (v / 2) row up) x h (split (eqb x (v / 2)) (λ (q : eqb x (v / 2) ≡ true). rw (q, le-ltb x n h)) (λ (q : eqb x (v / 2) ≡ false). rw q e)))

module _ (pending : ℕ → Bool) (n : ℕ) where
  pub record Marking (row : List ℕ) (up : ℕ → List ℕ) (flag : ℕ) (marks : List ℕ) : Type 0 where
    pub long : length marks ≡ n
    pub flagged : flag ≡ one (any pending row)
    pub each : (x : ℕ) → x < n → get_or marks x 0 ≡ mark (pending x) (any pending (up x))

  module _ (v : ℕ) (g : List ℕ) {row : List ℕ} {up : ℕ → List ℕ} {flag : ℕ} {marks : List ℕ} (k : Marking row up flag marks) where
    same_marks : v % 2 ≡ 0 → turn_marks v flag marks ≡ marks
    unfolding turn_marks
    same_marks e = rw (eq-eqb (v % 2) 0 e)

    even_flag : v % 2 ≡ 0 → turn_flag v flag marks ≡ if_b (eqb (get_or marks (v / 2) 0) 0) (λ _. flag) (λ _. 1)
    unfolding turn_flag
    even_flag e = rw (ne_eqb (v % 2) 1 (λ z. omega arith))

    even_in : v % 2 ≡ 0 → v / 2 < n → Marking (v / 2 ∷ up (v / 2) ++ row) up (turn_flag v flag marks) (turn_marks v flag marks)
    even_in e b = record {
      long = length_turned v flag marks ∙ k.long;
      flagged =
          even_flag e
          ∙ pick (pending (v / 2)) (any pending (up (v / 2))) (any pending row) (get_or marks (v / 2) 0) flag (k.each (v / 2) b) k.flagged
          ∙ ap one (sym (any_cons pending (v / 2) (up (v / 2) ++ row) ∙ ap (λ (q : Bool). pending (v / 2) || q) (any_append pending (up (v / 2)) row)));
      each = λ x h. ap (λ (l : List ℕ). get_or l x 0) (same_marks e) ∙ k.each x h;
    }

    even_out : v % 2 ≡ 0 → n ≤ v / 2 → Marking row up (turn_flag v flag marks) (turn_marks v flag marks)
    even_out e b = record {
      long = length_turned v flag marks ∙ k.long;
      flagged = even_flag e ∙ rw (get_or-eq_default marks 0 {n = v / 2} (omega (arith, k.long))) k.flagged;
      each = λ x h. ap (λ (l : List ℕ). get_or l x 0) (same_marks e) ∙ k.each x h;
    }

    odd_marks : v % 2 ≡ 1 → turn_marks v flag marks ≡ set marks (v / 2) (get_or marks (v / 2) 0 % 2 + flag * 2)
    unfolding turn_marks
    odd_marks e = rw (ne_eqb (v % 2) 0 (λ z. omega arith))

    odd_flag : v % 2 ≡ 1 → turn_flag v flag marks ≡ 0
    unfolding turn_flag
    odd_flag e = rw (eq-eqb (v % 2) 1 e)

    odd_end : v % 2 ≡ 1 → Marking [] (closed_row n (v / 2) row up) (turn_flag v flag marks) (turn_marks v flag marks)
    odd_end e = record {
      long = length_turned v flag marks ∙ k.long;
      flagged = odd_flag e ∙ ap one (sym (any_none pending));
      each = λ x h. ap (λ (l : List ℕ). get_or l x 0) (odd_marks e) ∙ split (eqb x (v / 2))
          (λ (q : eqb x (v / 2) ≡ true).
          let y : x ≡ v / 2 = eqb-true x (v / 2) q in
          rw (q, lt-ltb x n h, ← y)
          (get_or-set_same marks x (get_or marks x 0 % 2 + flag * 2) 0 (omega (arith, k.long))
          ∙ digits (pending x) (any pending (up x)) (any pending row) (get_or marks x 0) flag (k.each x h) k.flagged))
          (λ (q : eqb x (v / 2) ≡ false).
          rw q (get_or-set_other marks (v / 2) x (get_or marks (v / 2) 0 % 2 + flag * 2) 0 (eqb-false x (v / 2) q) ∙ k.each x h));
    }

  pub rows_marks_law : (g : List ℕ) {row : List ℕ} {up : ℕ → List ℕ} {flag : ℕ} {marks : List ℕ} → Marking row up flag marks
      → (x : ℕ) → x < n → get_or (rows_marks g flag marks) x 0 ≡ mark (pending x) (any pending (rows_upstream n g row up x))
  rows_marks_law [] {row} {up} {flag} {marks} k x h =
      ap (λ (l : List ℕ). get_or l x 0) (rows_nil flag marks) ∙ k.each x h ∙ ap (λ (l : List ℕ). mark (pending x) (any pending l)) (sym (up_nil n row up x))
  rows_marks_law (v ∷ g) {row} {up} {flag} {marks} k x h =
      let c = ap (λ (l : List ℕ). get_or l x 0) (rows_cons v g flag marks) in
      split (eqb (v % 2) 0)
      (λ (e : eqb (v % 2) 0 ≡ true).
      split (ltb (v / 2) n)
      (λ (b : ltb (v / 2) n ≡ true).
      c ∙ rows_marks_law g (even_in v g k (eqb-true (v % 2) 0 e) (ltb-true (v / 2) n b)) x h
      ∙ ap (λ (l : List ℕ). mark (pending x) (any pending l)) (sym (up_even_in n v g row up x (eqb-true (v % 2) 0 e) (ltb-true (v / 2) n b))))
      (λ (b : ltb (v / 2) n ≡ false).
      c ∙ rows_marks_law g (even_out v g k (eqb-true (v % 2) 0 e) (ltb-false (v / 2) n b)) x h
      ∙ ap (λ (l : List ℕ). mark (pending x) (any pending l)) (sym (up_even_out n v g row up x (eqb-true (v % 2) 0 e) (ltb-false (v / 2) n b)))))
      (λ (e : eqb (v % 2) 0 ≡ false).
      let z : v % 2 ≡ 1 = (let w = eqb-false (v % 2) 0 e in omega arith) in
      c ∙ rows_marks_law g (odd_end v g k z) x h ∙ ap (λ (l : List ℕ). mark (pending x) (any pending l)) (sym (up_odd n v g row up x z)))

-- ---- both passes from no marks
single : (p : Bool) → cond p 1 0 ≡ mark p false
single true = refl
single false = refl

first_marks : (n : ℕ) (t : List Job) → Marking (pending_in t) n [] (λ y. []) 0 (pending_marks t (zeros n))
first_marks n t = record {
  long = length_pending t (zeros n) ∙ length_zeros n;
  flagged = ap one (sym (any_none (pending_in t)));
  each = λ x h.
      pending_marks_law t (zeros n) x (omega (arith, length_zeros n))
      ∙ ap (λ (k : ℕ). cond (pending_in t x) 1 k) (get_or_zeros n x)
      ∙ single (pending_in t x)
      ∙ ap (mark (pending_in t x)) (sym (any_none (pending_in t)));
}

two_digits : (p q : Bool) → ltb (mark p q) 2 ≡ not q
two_digits true true = refl
two_digits true false = refl
two_digits false true = refl
two_digits false false = refl

pub length_rows : (g : List ℕ) (flag : ℕ) (marks : List ℕ) → length (rows_marks g flag marks) ≡ length marks
length_rows [] flag marks = ap length (rows_nil flag marks)
length_rows (v ∷ g) flag marks = ap length (rows_cons v g flag marks) ∙ length_rows g (turn_flag v flag marks) (turn_marks v flag marks) ∙ length_turned v flag marks

-- A step's mark is below 2 where nothing upstream is pending.
pub marks_test : (n : ℕ) (g : List ℕ) (t : List Job) (s : ℕ) → ltb (get_or (rows_marks g 0 (pending_marks t (zeros n))) s 0) 2 ≡ not (any (pending_in t) (upstream_in n g s))
unfolding upstream_in
marks_test n g t s = elim (dec_lt s n) [
  | yes h ↦ ap (λ (k : ℕ). ltb k 2) (rows_marks_law (pending_in t) n g (first_marks n t) s h) ∙ two_digits (pending_in t s) (any (pending_in t) (upstream_in n g s))
  | no h ↦
      ap (λ (k : ℕ). ltb k 2) (get_or-eq_default (rows_marks g 0 (pending_marks t (zeros n))) 0 {n = s} (omega (arith, length_rows g 0 (pending_marks t (zeros n)), (first_marks n t).long)))
      ∙ ap not (sym (any_none (pending_in t)) ∙ ap (any (pending_in t)) (sym (up_past n g [] (λ y. []) s (omega arith) refl)))
]
