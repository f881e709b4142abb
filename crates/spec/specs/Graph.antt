-- The graph of steps and files: makers, roots, needed steps, needed sources, and the order of the needed steps.
use Rattle.std.specs.Prelude.{ℕ, suc, List, [], ◌∷◌, ◌++◌, map, Bool, not, ◌&&◌, ◌||◌, length, get_or}
use Rattle.lists.specs.Tests.{if_b}
use Rattle.lists.specs.Members.{has, keep, any}
use Rattle.orders.specs.Greedy.{greedy, whole}
use Rattle.orders.specs.Reach.{reach}
use Rattle.spec.specs.Basics.{is_empty, concat}
use Rattle.spec.specs.Reading.{Step, Reading}

-- an input of any kind
unfoldable pub inputs : Step → List ℕ
inputs s = s.ins ++ (s.implicit ++ s.order_only)

-- the "non-order-only" inputs
unfoldable pub non_order_only : Step → List ℕ
non_order_only s = s.ins ++ s.implicit

abbrev pub no_step : Step
no_step = record { outs = []; ins = []; implicit = []; order_only = []; rule = []; block = []; scope = 0 }

abbrev pub step_at : List Step → ℕ → Step
step_at steps s = get_or steps s no_step

-- the steps, from number k on, that have this file among their outputs
unfoldable pub makers_from : ℕ → List Step → ℕ → List ℕ
unfolding has
makers_from k [] f = []
makers_from k (s ∷ l) f = if_b (has f s.outs) (λ _. k ∷ makers_from (suc k) l f) (λ _. makers_from (suc k) l f)

-- the maker of a file, as a list: of none or, since 8 refuses an output made twice, of one step
unfoldable pub makers : List Step → ℕ → List ℕ
unfolding makers_from
makers steps f = makers_from 0 steps f

unfoldable pub makers_of : List Step → List ℕ → List ℕ
unfolding makers concat
makers_of steps fs = concat (map (makers steps) fs)

-- the makers of a step's inputs, of any kind
unfoldable pub before : List Step → ℕ → List ℕ
unfolding makers_of inputs
before steps s = makers_of steps (inputs (step_at steps s))

-- ------------------------------------------------------------------ roots

-- is this file some step's input, of any kind (reading 25)
unfoldable pub is_input : List Step → ℕ → Bool
unfolding any has inputs
is_input steps f = any (λ (s : Step). has f (inputs s)) steps

-- "every output that is no step's input"
unfoldable pub tops : List Step → List ℕ
unfolding keep is_input concat
tops steps = keep (λ f. not (is_input steps f)) (concat (map (λ (s : Step). s.outs) steps))

-- "Empty list: the defaults; without defaults, every output that is no step's input."
unfoldable pub roots : Reading → List ℕ → List ℕ
unfolding tops
roots rd targets =
    if_b (not (is_empty targets)) (λ _. targets) λ _.
    if_b (not (is_empty rd.defaults)) (λ _. rd.defaults) λ _. tops rd.steps

-- "steps exist, no target, no default, every output is some input" (13)
unfoldable pub no_root : Reading → List ℕ → Bool
unfolding roots
no_root rd targets = not (is_empty rd.steps) && is_empty (roots rd targets)

-- ------------------------------------------------------------------ needed

-- "Needed is the maker of each target and of every input, of any kind, of a needed step."
unfoldable pub needed : List Step → List ℕ → List ℕ
unfolding reach before makers_of
needed steps rs = reach (before steps) (length steps) (makers_of steps rs)

-- "A needed source is a file without a maker that is a target or an input of a needed step." The inputs are those of the steps as written: "a missing
-- listed file .. by itself is no needed source" (document 02).
unfoldable pub is_needed_source : List Step → List Step → List ℕ → ℕ → Bool
unfolding makers has any needed inputs
is_needed_source written steps rs f =
    is_empty (makers steps f) && (has f rs || any (λ s. has f (inputs (step_at written s))) (needed steps rs))

-- an order of the needed steps with each one after the makers of all its inputs, where there is one
unfoldable pub needed_order : List Step → List ℕ → List ℕ
unfolding greedy needed before
needed_order steps rs = greedy (needed steps rs) (before steps)

-- "no order of the needed steps has each one after the makers of all its inputs" (14)
unfoldable pub has_order : List Step → List ℕ → Bool
unfolding whole needed before
has_order steps rs = whole (needed steps rs) (before steps)
