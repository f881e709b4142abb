-- The columns of a read graph: every mention of a file in one column, where each step's parts of it end, which steps are phony, each file's maker.
use Rattle.std.specs.Prelude.{ℕ, zero, suc, ◌+◌, ◌*◌, ◌≤◌, ◌<◌, ◌≡◌, Bool, true, false, List, [], ◌∷◌, ◌++◌, map, length, get_or}
use Rattle.lists.specs.Members.{◌∈◌, Each, Once, has}
use Rattle.lists.specs.Parts.{part}
use Rattle.orders.specs.Reach.{reach}
use Rattle.spec.specs.Basics.{concat}
use Rattle.spec.specs.Limits.{max_steps, max_files, max_mentions}
use Rattle.spec.specs.Promises.{filled}
use Rattle.spec.specs.Reading.{Step, is_phony}
use Rattle.spec.specs.Graph.{inputs, makers}

-- ------------------------------------------------------------------ what the columns hold

-- a test as the number 1 or 0
abbrev pub bit : Bool → ℕ
bit true = 1
bit false = 0

-- a step's files as its line has them: outputs, then inputs, implicit and order-only ones
unfoldable pub mentions_of : Step → List ℕ
unfolding inputs
mentions_of s = s.outs ++ inputs s

-- a step has so many ends, in this order: those of its outputs, its inputs, its implicit and its order-only inputs
abbrev pub per_step : ℕ
per_step = 4

abbrev pub outs_end : ℕ
outs_end = 0

abbrev pub ins_end : ℕ
ins_end = 1

abbrev pub implicit_end : ℕ
implicit_end = 2

abbrev pub order_only_end : ℕ
order_only_end = 3

-- where all that the step mentions ends, and the next step's outputs start
abbrev pub last_end : ℕ
last_end = order_only_end

-- the place of end k of step s among all ends
abbrev pub end_place : ℕ → ℕ → ℕ
end_place s k = per_step * s + k

abbrev pub end_at : List ℕ → ℕ → ℕ → ℕ
end_at ends s k = get_or ends (end_place s k) 0

-- the ends of all steps, counted from k
unfoldable pub step_ends_from : ℕ → List Step → List ℕ
step_ends_from k [] = []
step_ends_from k (s ∷ l) =
    let a = k + length s.outs in
    let b = a + length s.ins in
    let c = b + length s.implicit in
    let d = c + length s.order_only in
    a ∷ b ∷ c ∷ d ∷ step_ends_from d l

-- what an entry of the makers' column says: 0 no maker, else the step after
unfoldable pub made_by : ℕ → List ℕ
made_by zero = []
made_by (suc m) = m ∷ []

-- the columns hold these steps, over so many files
pub record HoldsColumns (steps : List Step) (files : ℕ) (mentions ends phony made : List ℕ) : Type 0 where
  pub mentioned : mentions ≡ concat (map mentions_of steps)
  pub ended : ends ≡ step_ends_from 0 steps
  pub phonies : phony ≡ map (λ (s : Step). bit (is_phony s.rule)) steps
  pub counted : length made ≡ files
  pub makes : (f : ℕ) → f < files → makers steps f ≡ made_by (get_or made f 0)
  pub low : (f : ℕ) → f ∈ mentions → f < files
  pub few_steps : length steps ≤ max_steps
  pub few_files : files ≤ max_files
  pub few_mentions : length mentions ≤ max_mentions

-- ------------------------------------------------------------------ what is read from them

-- where a step's outputs start
unfoldable pub step_start : List ℕ → ℕ → ℕ
step_start ends zero = 0
step_start ends (suc s) = end_at ends s last_end

unfoldable pub outs_in : List ℕ → List ℕ → ℕ → List ℕ
unfolding step_start
outs_in mentions ends s = part mentions (step_start ends s) (end_at ends s outs_end)

-- the inputs that are neither implicit nor order-only
unfoldable pub ins_in : List ℕ → List ℕ → ℕ → List ℕ
ins_in mentions ends s = part mentions (end_at ends s outs_end) (end_at ends s ins_end)

-- the inputs that are not order-only
unfoldable pub non_order_only_in : List ℕ → List ℕ → ℕ → List ℕ
non_order_only_in mentions ends s = part mentions (end_at ends s outs_end) (end_at ends s implicit_end)

-- the inputs of any kind
unfoldable pub inputs_in : List ℕ → List ℕ → ℕ → List ℕ
inputs_in mentions ends s = part mentions (end_at ends s outs_end) (end_at ends s order_only_end)

unfoldable pub maker_in : List ℕ → ℕ → List ℕ
unfolding made_by
maker_in made f = made_by (get_or made f 0)

unfoldable pub makers_in : List ℕ → List ℕ → List ℕ
unfolding maker_in concat
makers_in made fs = concat (map (maker_in made) fs)

-- the entry for the file at place i
abbrev pub maker_at : List ℕ → List ℕ → ℕ → ℕ
maker_at made fs i = get_or made (get_or fs i 0) 0

-- the makers of a step's inputs
unfoldable pub before_in : List ℕ → List ℕ → List ℕ → ℕ → List ℕ
unfolding makers_in inputs_in
before_in mentions ends made s = makers_in made (inputs_in mentions ends s)

-- the needed steps of n
unfoldable pub needed_in : List ℕ → List ℕ → List ℕ → ℕ → List ℕ → List ℕ
unfolding reach before_in makers_in
needed_in mentions ends made n roots = reach (before_in mentions ends made) n (makers_in made roots)

-- ------------------------------------------------------------------ what reading them asks

-- a step's parts lie in the mentions, one after another
pub record PartsPlaced (mentions ends : List ℕ) (s : ℕ) : Type 0 where
  pub within : end_place s last_end < length ends
  pub outs : step_start ends s ≤ end_at ends s outs_end
  pub counted : end_at ends s outs_end ≤ end_at ends s implicit_end
  pub inputs : end_at ends s implicit_end ≤ end_at ends s order_only_end
  pub mentioned : end_at ends s last_end ≤ length mentions

-- all numbers of n steps' columns are in range
pub record SoundColumns (n : ℕ) (mentions ends made : List ℕ) : Type 0 where
  pub placed : (s : ℕ) → s < n → PartsPlaced mentions ends s
  pub low : (f : ℕ) → f ∈ mentions → f < length made
  pub makers : (f : ℕ) → f < length made → get_or made f 0 ≤ n
  pub few_steps : n ≤ max_steps
  pub few_files : length made ≤ max_files
  pub few_mentions : length mentions ≤ max_mentions

-- files that the makers' column has, and entries of it for n steps
pub record FilesMade (n : ℕ) (fs made : List ℕ) : Type 0 where
  pub low : (i : ℕ) → i < length fs → get_or fs i 0 < length made
  pub makers : (f : ℕ) → f < length made → get_or made f 0 ≤ n

-- of n steps, those in a list are marked with 1 and the others with 0
pub record Marks (n : ℕ) (l marks : List ℕ) : Type 0 where
  pub long : length marks ≡ n
  pub marked : (s : ℕ) → s < n → get_or marks s 0 ≡ bit (has s l)

-- a list of steps, none twice, in which each comes after those before it
pub record SortedSteps (before : ℕ → List ℕ) (l : List ℕ) : Type 0 where
  pub once : Once l
  pub after : Each (λ earlier s. (m : ℕ) → m ∈ before s → m ∈ earlier) l

-- the list begins with l, whose length is k, and is zero after it
pub record Shown (l list : List ℕ) (k : ℕ) (exit : List ℕ) : Type 0 where
  pub counted : k ≡ length l
  pub shown : exit ≡ filled l list
