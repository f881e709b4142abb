-- What demand 3 fixes and refuses by itself, without the rest of what the plan ask promises.
use Prim.Native.Nat.{ℕ, ◌≤◌, ◌<◌}
use native.Mathlib.Omega.{arith}
use mathlib.Core.Logic.{inl, inr, ◌↔◌}
use mathlib.Core.List.{List}
use mathlib.Core.Path.{◌≡◌, sym, ◌∙◌, ap}
use lib.ListN.{length}
use Rattle.lists.specs.Members.{◌∈◌}
use Rattle.orders.specs.Order.{least_unique}
use Rattle.orders.specs.Same.{least_as}
use Rattle.spec.specs.Answers.{Said}
use Rattle.spec.specs.Reading.{Reading}
use Rattle.spec.specs.Graph.{step_at, inputs}
use Rattle.spec.specs.Stale.{Verdict}
use Rattle.spec.specs.Words.{Needed, Stale}
use Rattle.spec.specs.Headers.{HeaderGraph}
use Rattle.spec.specs.PlanAsk.{Inputs, roots_of}
use Rattle.spec.proofs.Demands.{header_number}
use Rattle.spec.specs.Demands.{PastChecks, refused_ahead, refused_opening, refused_headers, passed, headed_steps, Listing, Ordered, MissingIn, Demand3}

module _ {i : Inputs} {rd : Reading} {x : HeaderGraph} {l r : List ℕ} (g : Listing i rd x l) (h : Listing i rd x r) where
  same_verdict : (s : ℕ) → Needed (headed_steps x) (roots_of i rd) s → (h.verdicts s).stale ≡ (g.verdicts s).stale
  same_verdict s n = ap (λ (v : Verdict). v.stale) (g.fixed h.verdicts h.sentences s n)

  same_stale : (s : ℕ) → Stale (headed_steps x) (roots_of i rd) h.verdicts s ↔ Stale (headed_steps x) (roots_of i rd) g.verdicts s
  same_stale s = (
    λ w. record { needed = w.needed; command = w.command; stale = sym (same_verdict s w.needed) ∙ w.stale },
    λ w. record { needed = w.needed; command = w.command; stale = same_verdict s w.needed ∙ w.stale },
  )

  -- two lists that are as demand 3 says are one
  pub list_fixed : l ≡ r
  list_fixed = least_unique g.least (least_as same_stale (λ s w m. (λ u. u, λ u. u)) h.least)

module _ {i : Inputs} {lent : List ℕ} {said : Said} {exit : List ℕ} (d : Demand3 i lent said exit) where
  -- a list, a 14 or a 15 before the checks ahead of circles are passed
  pub no_early_14 : ((rd : Reading) (x : HeaderGraph) → ¬ PastChecks i (length lent) rd x) → 14 ≤ said.number → said.number ≤ 15 → ⊥
  no_early_14 n h m = elim d.ahead [
    | refused_ahead l k ↦ omega (arith, h, k)
    | refused_opening e ↦ omega (arith, m, e)
    | refused_headers k ↦ omega (arith, m, header_number k)
    | passed rd x p ↦ n rd x p
  ]

  pub no_early_list : ((rd : Reading) (x : HeaderGraph) → ¬ PastChecks i (length lent) rd x) → said.number ≡ 0 → ⊥
  no_early_list n e = elim d.ahead [
    | refused_ahead l k ↦ omega (arith, e, l)
    | refused_opening k ↦ omega (arith, e, k)
    | refused_headers k ↦ omega (arith, e, header_number k)
    | passed rd x p ↦ n rd x p
  ]

  module _ {rd : Reading} {x : HeaderGraph} (p : PastChecks i (length lent) rd x) where
    -- 15 at a missing source that is not the lowest
    pub no_higher_source : {f : ℕ} → MissingIn i rd x f → f < said.value → said.number ≡ 15 → ⊥
    no_higher_source {f} w h e = omega (arith, h, ((d.past rd x p).lowest e).1 f w)

    -- a list where there is a circle, and where a needed source is missing
    pub no_list_over_circle : (¬ Ordered i rd x) → said.number ≡ 0 → ⊥
    no_list_over_circle n e = n ((d.past rd x p).list.0 e).0

    pub no_list_over_missing : {f : ℕ} → MissingIn i rd x f → said.number ≡ 0 → ⊥
    no_list_over_missing {f} w e = ((d.past rd x p).list.0 e).1 f w

    -- 15 at a file that is neither a target nor an input that the manifest has: "which by itself is no needed source"
    pub no_listed_source : (¬ (said.value ∈ roots_of i rd)) → ((s : ℕ) → Needed (headed_steps x) (roots_of i rd) s → ¬ (said.value ∈ inputs (step_at rd.steps s)))
        → said.number ≡ 15 → ⊥
    no_listed_source n m e = elim ((d.past rd x p).lowest e).0.source.needed [
      | inl t ↦ n t
      | inr s ↦ m s.0 s.1 s.2
    ]
