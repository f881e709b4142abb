-- Stale and fresh, the times of files, and the list.
use Rattle.std.specs.Prelude.{ℕ, max, List, [], ◌∷◌, map, Bool, false, not, ◌&&◌, ◌||◌, eqb, ltb, length}
use Rattle.lists.specs.Tests.{if_b}
use Rattle.lists.specs.Members.{keep, any}
use Rattle.orders.specs.Greedy.{greedy}
use Rattle.orders.specs.Reach.{upstream}
use Rattle.orders.specs.Along.{values}
use Rattle.spec.specs.Basics.{is_empty}
use Rattle.spec.specs.Reading.{Step, is_phony}
use Rattle.spec.specs.Graph.{step_at, inputs, non_order_only, makers, makers_of, before, needed, needed_order}

-- what is told of a needed step: whether it is stale, and the time that its missing outputs have if it is phony
pub record Verdict : Type 0 where
  pub stale : Bool
  pub time : ℕ

abbrev pub unknown : Verdict
unknown = record { stale = false; time = 0 }

unfoldable pub phony_step : List Step → ℕ → Bool
unfolding is_phony
phony_step steps s = is_phony (step_at steps s).rule

-- the time given by the maker of a file that is not on the card
unfoldable pub made_time : List Step → (ℕ → Verdict) → List ℕ → ℕ
unfolding phony_step
made_time steps known [] = 0
made_time steps known (m ∷ ms) = if_b (phony_step steps m) (λ _. (known m).time) (λ _. 0)

-- "A phony output that is missing has the greatest time of the step's non-order-only inputs, 0 if none. Every other file has the card's time."
unfoldable pub time_of : List Step → (ℕ → ℕ) → (ℕ → Verdict) → ℕ → ℕ
unfolding makers made_time
time_of steps card known f = if_b (eqb (card f) 0) (λ _. made_time steps known (makers steps f)) (λ _. card f)

unfoldable pub greatest : List ℕ → ℕ
greatest [] = 0
greatest (t ∷ ts) = max t (greatest ts)

-- "the greatest time of the step's non-order-only inputs, 0 if none"
unfoldable pub newest_input : List Step → (ℕ → ℕ) → (ℕ → Verdict) → ℕ → ℕ
unfolding greatest time_of non_order_only
newest_input steps card known s = greatest (map (time_of steps card known) (non_order_only (step_at steps s)))

-- "a non-order-only input's maker is stale"
unfoldable pub maker_stale : List Step → (ℕ → Verdict) → ℕ → Bool
unfolding any makers_of non_order_only
maker_stale steps known s = any (λ m. (known m).stale) (makers_of steps (non_order_only (step_at steps s)))

-- "an output is missing"
unfoldable pub output_missing : List Step → (ℕ → ℕ) → ℕ → Bool
unfolding any
output_missing steps card s = any (λ f. eqb (card f) 0) (step_at steps s).outs

-- "A command step is stale if a non-order-only input's maker is stale, an output is missing, or an output's time is below the time of some
-- non-order-only input. Equal times are fresh."
unfoldable pub stale_command : List Step → (ℕ → ℕ) → (ℕ → Verdict) → ℕ → Bool
unfolding maker_stale output_missing any newest_input
stale_command steps card known s =
    maker_stale steps known s || output_missing steps card s || any (λ f. ltb (card f) (newest_input steps card known s)) (step_at steps s).outs

-- "A phony step is stale if such a maker is stale, or if it has no inputs at all and an output is missing."
unfoldable pub stale_phony : List Step → (ℕ → ℕ) → (ℕ → Verdict) → ℕ → Bool
unfolding maker_stale inputs output_missing
stale_phony steps card known s =
    maker_stale steps known s || (is_empty (inputs (step_at steps s)) && output_missing steps card s)

-- the verdict on a step, from those on the makers of its inputs
unfoldable pub verdict : List Step → (ℕ → ℕ) → (ℕ → Verdict) → ℕ → Verdict
unfolding phony_step stale_phony stale_command newest_input
verdict steps card known s = record {
  stale = if_b (phony_step steps s) (λ _. stale_phony steps card known s) (λ _. stale_command steps card known s);
  time = newest_input steps card known s;
}

-- the verdicts along an order of the needed steps, each from those before it
unfoldable pub verdicts_along : List Step → (ℕ → ℕ) → List ℕ → ℕ → Verdict
unfolding values verdict
verdicts_along steps card order s = values unknown (verdict steps card) order s

-- the verdict on each needed step, where these have an order
abbrev pub verdicts_of : List Step → (ℕ → ℕ) → List ℕ → ℕ → Verdict
verdicts_of steps card rs = verdicts_along steps card (needed_order steps rs)

-- "A command step is one whose rule isn't `phony`."
unfoldable pub is_stale : List Step → (ℕ → ℕ) → List ℕ → ℕ → Bool
unfolding verdicts_along needed_order phony_step
is_stale steps card rs s = not (phony_step steps s) && (verdicts_of steps card rs s).stale

-- "the stale, needed command steps"
unfoldable pub stale_needed : List Step → (ℕ → ℕ) → List ℕ → List ℕ
unfolding keep is_stale needed
stale_needed steps card rs = keep (is_stale steps card rs) (needed steps rs)

-- "The list holds the stale, needed command steps, each once .. At each place stands the lowest-numbered of them not yet listed whose stale
-- command steps upstream are all listed."
unfoldable pub list_of : List Step → (ℕ → ℕ) → List ℕ → List ℕ
unfolding greedy stale_needed upstream before
list_of steps card rs = greedy (stale_needed steps card rs) (upstream (before steps) (length steps))
