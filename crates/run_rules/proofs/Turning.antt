-- What stays and what changes where one record is turned.
use Prim.Native.Nat.{ℕ, ◌+◌}
use mathlib.Core.Bool.{Bool}
use mathlib.Core.List.{List, [], ◌∷◌, ◌++◌}
use mathlib.Core.Logic.{◌⊎◌, inl, inr, ◌↔◌}
use mathlib.Core.Path.{◌≡◌, refl, sym, ap, ◌∙◌, subst}
use native.Mathlib.Omega.{arith}
use Rattle.lists.specs.Members.{◌∈◌, here, there, Once, in_cons, once_head, once_tail}
use Rattle.run_rules.specs.declared.Job.{Job}
use Rattle.run_rules.specs.Runner.{Given, turned, count_jobs}
use Rattle.run_rules.specs.Claims.{◌among◌, first, later, steps_of, UpstreamDone}
use Rattle.run_rules.proofs.Tables.{among_left, among_right, among_append, among_step, one, count_at}
use Rattle.run_rules.proofs.Moved.{Turns}

-- no other record has the step of the one in the middle
apart : (l r : List Job) (k : Job) → Once (steps_of (l ++ k ∷ r)) → {x : Job} → x among (l ++ r) → x.step ≡ k.step → ⊥
apart [] r k o h e = once_head k.step (steps_of r) o (rw e at (among_step h))
apart (m ∷ l) r k o (first d) e =
    once_head m.step (steps_of (l ++ k ∷ r)) o (rw (sym (ap (λ (j : Job). j.step) d) ∙ e) (among_step (among_right l (first refl))))
apart (m ∷ l) r k o (later h) e = apart l r k (once_tail m.step (steps_of (l ++ k ∷ r)) o) h e

middle : {x k : Job} (l r : List Job) → x among (l ++ k ∷ r) → (x ≡ k) ⊎ (x among (l ++ r))
middle l r h = elim (among_append l h) [
  | inl a ↦ inr (among_left r a)
  | inr (first e) ↦ inl e
  | inr (later b) ↦ inr (among_right l b)
]

around : {x : Job} (l r : List Job) (k : Job) → x among (l ++ r) → x among (l ++ k ∷ r)
around l r k h = elim (among_append l h) [ inl a ↦ among_left (k ∷ r) a | inr b ↦ among_right l (later b) ]

module _ {s a b : ℕ} {t u : List Job} (h : Turns s a b t u) where
  abbrev others : List Job
  others = h.front ++ h.back

  pub job_among : h.job among t
  job_among = rw h.was (among_right h.front (first refl))

  pub among_turned : {x : Job} → x among u → (x ≡ turned b h.job) ⊎ (x among others)
  among_turned m = middle h.front h.back (rw h.is at m)

  pub other_among : {x : Job} → x among others → x among t
  other_among m = rw h.was (around h.front h.back h.job m)

  pub other_step : Once (steps_of t) → {x : Job} → x among others → x.step ≡ s → ⊥
  other_step o m e = apart h.front h.back h.job (rw h.was at o) m (e ∙ sym h.step)

  -- a record in another state stays
  pub stays_turned : {x : Job} → x among t → (x.state ≡ a → ⊥) → x among u
  stays_turned {x} m n = elim (middle h.front h.back (rw h.was at m)) [
    | inl e ↦ absurd (n (ap (λ (j : Job). j.state) e ∙ h.state))
    | inr o ↦ rw h.is (around h.front h.back (turned b h.job) o)
  ]

  -- counts
  pub count_turned : (p : Job → Bool) → count_jobs p u + one (p h.job) ≡ count_jobs p t + one (p (turned b h.job))
  count_turned p =
      let x = ap (count_jobs p) h.is ∙ count_at p h.front h.back (turned b h.job) in
      let y = ap (count_jobs p) h.was ∙ count_at p h.front h.back h.job in
      omega (arith, x, y)

  -- What was done is done: the record that turned was not.
  pub done_turned : (a ≡ 2 → ⊥) → (g : Given) (k : ℕ) → UpstreamDone g t k → UpstreamDone g u k
  done_turned n g k f x m w = elim (among_turned m) [
    | inl e ↦ absurd (n (sym h.state ∙ f h.job job_among (rw (ap (λ (j : Job). j.step) e) at w)))
    | inr o ↦ f x (other_among o) w
  ]

  pub states_turned : (P : ℕ → Type 0) → ((j : Job) → j among t → P j.state) → P b → (j : Job) → j among u → P j.state
  states_turned P f p j m = elim (among_turned m) [
    | inl e ↦ subst P (sym (ap (λ (j : Job). j.state) e)) p
    | inr o ↦ f j (other_among o)
  ]

  -- A list of the steps whose state is of a kind, where the turned one is of it now; and where it is of it as before.
  module _ (P : ℕ → Type 0) {l : List ℕ} (told : (j : Job) → j among t → (j.step ∈ l) ↔ P j.state) where
    pub told_more : Once (steps_of t) → P b → (j : Job) → j among u → (j.step ∈ s ∷ l) ↔ P j.state
    told_more o p j m = elim (among_turned m) [
      | inl e ↦ (λ _. subst P (sym (ap (λ (j : Job). j.state) e)) p, λ _. here (ap (λ (j : Job). j.step) e ∙ h.step))
      | inr c ↦ (λ w. elim (in_cons w) [ inl q ↦ absurd (other_step o c q) | inr v ↦ (told j (other_among c)).0 v ], λ q. there ((told j (other_among c)).1 q))
    ]

    pub told_same : (P a → P b) → (P b → P a) → (j : Job) → j among u → (j.step ∈ l) ↔ P j.state
    told_same f g j m = elim (among_turned m) [
      | inl e ↦ (
        λ w. subst P (sym (ap (λ (j : Job). j.state) e)) (f (subst P h.state ((told h.job job_among).0 (rw (ap (λ (j : Job). j.step) e) at w)))),
        λ q. rw (ap (λ (j : Job). j.step) e) ((told h.job job_among).1 (subst P (sym h.state) (g (subst P (ap (λ (j : Job). j.state) e) q)))),
      )
      | inr c ↦ told j (other_among c)
    ]
