-- Records of a table, its tests and its counts.
use Prim.Native.Nat.{ℕ, ◌+◌}
use mathlib.Core.Bool.{Bool, true, false, cond, false≢true}
use mathlib.Core.List.{List, [], ◌∷◌, ◌++◌}
use mathlib.Core.Logic.{◌⊎◌, inl, inr}
use mathlib.Core.Path.{◌≡◌, refl, sym, ap, ◌∙◌}
use native.Mathlib.Omega.{arith}
use Rattle.lists.specs.Members.{◌∈◌, here, there, Once, all, any, not_in_nil, once_head, once_tail}
use Rattle.lists.specs.Tests.{split, differ, and_true, and_left, and_right, or_left, or_right, or_true}
use Rattle.run_rules.specs.declared.Job.{Job}
use Rattle.run_rules.specs.Runner.{count_jobs}
use Rattle.run_rules.specs.Claims.{◌among◌, first, later, steps_of}

pub not_among_nil : {j : Job} → j among [] → ⊥
not_among_nil h = elim h [ ]

pub among_left : {j : Job} {l : List Job} (r : List Job) → j among l → j among (l ++ r)
among_left r (first e) = first e
among_left r (later h) = later (among_left r h)

pub among_right : {j : Job} (l : List Job) {r : List Job} → j among r → j among (l ++ r)
among_right [] h = h
among_right (k ∷ l) h = later (among_right l h)

pub among_append : {j : Job} (l : List Job) {r : List Job} → j among (l ++ r) → (j among l) ⊎ (j among r)
among_append [] h = inr h
among_append (k ∷ l) (first e) = inl (first e)
among_append (k ∷ l) (later h) = elim (among_append l h) [ inl a ↦ inl (later a) | inr b ↦ inr b ]

pub among_step : {j : Job} {t : List Job} → j among t → j.step ∈ steps_of t
among_step (first e) = here (ap (λ (j : Job). j.step) e)
among_step (later h) = there (among_step h)

pub step_among : (t : List Job) {s : ℕ} → s ∈ steps_of t → (j : Job) × (j among t) × (j.step ≡ s)
step_among [] h = absurd (not_in_nil h)
step_among (k ∷ t) (here e) = (k, first refl, sym e)
step_among (k ∷ t) (there h) = let (j, a, e) = step_among t h in (j, later a, e)

-- In a table with each step once a step has one record.
pub one_record_law : (t : List Job) → Once (steps_of t) → {j k : Job} → j among t → k among t → j.step ≡ k.step → j ≡ k
one_record_law (m ∷ t) o (first d) (first e) q = d ∙ sym e
one_record_law (m ∷ t) o {j} {k} (first d) (later h) q = absurd (once_head m.step (steps_of t) o (rw (← d, q) (among_step h)))
one_record_law (m ∷ t) o {j} {k} (later h) (first e) q = absurd (once_head m.step (steps_of t) o (rw (← e, ← q) (among_step h)))
one_record_law (m ∷ t) o (later g) (later h) q = one_record_law t (once_tail m.step (steps_of t) o) g h q
one_record_law [] o {j = j} {k = k} x4 _ q = elim x4 [ ]

-- ---- tests of all and of any
pub all_jobs : (p : Job → Bool) (t : List Job) → all p t ≡ true → {j : Job} → j among t → p j ≡ true
unfolding all
all_jobs p (k ∷ t) e (first q) = rw q (and_left (p k) (all p t) e)
all_jobs p (k ∷ t) e (later h) = all_jobs p t (and_right (p k) (all p t) e) h
all_jobs p [] e {j = j} x'' = elim x'' [ ]

pub jobs_all : (p : Job → Bool) (t : List Job) → ((j : Job) → j among t → p j ≡ true) → all p t ≡ true
unfolding all
jobs_all p [] f = refl
jobs_all p (k ∷ t) f = and_true (p k) (all p t) (f k (first refl)) (jobs_all p t (λ j h. f j (later h)))

pub any_jobs : (p : Job → Bool) (t : List Job) → any p t ≡ true → (j : Job) × (j among t) × (p j ≡ true)
unfolding any
any_jobs p [] e = absurd (false≢true e)
any_jobs p (k ∷ t) e = elim (or_true (p k) (any p t) e) [ inl a ↦ (k, first refl, a) | inr b ↦ (let (j, h, f) = any_jobs p t b in (j, later h, f)) ]

pub no_jobs : (p : Job → Bool) (t : List Job) → any p t ≡ false → {j : Job} → j among t → p j ≡ false
unfolding any
no_jobs p (k ∷ t) e (first q) = rw q (or_left (p k) (any p t) e)
no_jobs p (k ∷ t) e (later h) = no_jobs p t (or_right (p k) (any p t) e) h
no_jobs p [] e {j = j} x'' = elim x'' [ ]

pub jobs_any : (p : Job → Bool) (t : List Job) {j : Job} → j among t → p j ≡ true → any p t ≡ true
jobs_any p t h e = split (any p t) (λ (a : any p t ≡ true). a) (λ (b : any p t ≡ false). differ e (no_jobs p t b h))

pub jobs_none : (p : Job → Bool) (t : List Job) → ((j : Job) → j among t → p j ≡ false) → any p t ≡ false
jobs_none p t f = split (any p t) (λ (a : any p t ≡ true). let (j, h, e) = any_jobs p t a in differ e (f j h)) (λ (b : any p t ≡ false). b)

-- ---- counts
abbrev pub one : Bool → ℕ
one b = cond b 1 0

pub count_nil : (p : Job → Bool) → count_jobs p [] ≡ 0
unfolding count_jobs
count_nil p = refl

pub count_cons : (p : Job → Bool) (k : Job) (t : List Job) → count_jobs p (k ∷ t) ≡ one (p k) + count_jobs p t
unfolding count_jobs
count_cons p k t =
    split (p k) (λ (e : p k ≡ true). rw (e, count_jobs) (omega arith)) (λ (e : p k ≡ false). rw (e, count_jobs) (omega arith))

pub count_at : (p : Job → Bool) (l r : List Job) (k : Job) → count_jobs p (l ++ k ∷ r) ≡ one (p k) + count_jobs p (l ++ r)
count_at p [] r k = count_cons p k r
count_at p (m ∷ l) r k =
    let a = count_cons p m (l ++ k ∷ r) in
    let b = count_cons p m (l ++ r) in
    let c = count_at p l r k in
    omega arith

pub none_count : (p : Job → Bool) (t : List Job) → ((j : Job) → j among t → p j ≡ false) → count_jobs p t ≡ 0
none_count p [] f = count_nil p
none_count p (k ∷ t) f =
    let c = count_cons p k t in
    let h = none_count p t (λ j h. f j (later h)) in
    omega (arith, rw (f k (first refl)) at c)
