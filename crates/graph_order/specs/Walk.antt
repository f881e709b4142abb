-- A walk through the steps before a step, and before those: the path that it stands on, and the steps that it is done with.
use Rattle.std.specs.Prelude.{ℕ, suc, ◌-◌, ◌≤◌, ◌<◌, ◌≡◌, List, [], ◌∷◌, length, get_or, take, drop, Result, Ok, Err}
use Rattle.lists.specs.Tests.{if_b}
use Rattle.lists.specs.Fill.{zeros}
use Rattle.lists.specs.Members.{◌∈◌, ◌∉◌, ◌⊆◌, Each, Once, has}
use Rattle.orders.specs.Order.{IsOrder, IsCircle}
use Rattle.orders.specs.Greedy.{In, By}
use Rattle.orders.specs.Reach.{Reached}
use Rattle.orders.specs.Circle.{Linked}
use Rattle.hold_columns.specs.Columns.{maker_at, makers_in, inputs_in, before_in, needed_in, SoundColumns, FilesMade}

-- what is marked of a step: 0 not seen, 1 on the path, 2 done
unfoldable pub mark : List ℕ → List ℕ → ℕ → ℕ
unfolding has
mark path done s = if_b (has s done) (λ _. 2) (λ _. if_b (has s path) (λ _. 1) (λ _. 0))

-- Each step on the path has the next before it; each that is done comes after what is before it.
pub record Walk (before : ℕ → List ℕ) (n : ℕ) (Want : ℕ → Type 0) (seen path done : List ℕ) : Type 0 where
  pub long : length seen ≡ n
  pub marks : (s : ℕ) → s < n → get_or seen s 0 ≡ mark path done s
  pub path_low : (s : ℕ) → s ∈ path → s < n
  pub path_once : Once path
  pub path_wanted : (s : ℕ) → s ∈ path → Want s
  pub linked : Linked (By before) path
  pub done_low : (s : ℕ) → s ∈ done → s < n
  pub done_once : Once done
  pub done_wanted : (s : ℕ) → s ∈ done → Want s
  pub ordered : Each (λ earlier s. (m : ℕ) → m ∈ before s → m ∈ earlier) done
  pub apart : (s : ℕ) → s ∈ path → s ∉ done

-- of a step's inputs the makers of the first few are done: as many as `next` says
pub record InputsPassed (mentions ends made next done : List ℕ) (s : ℕ) : Type 0 where
  pub within : get_or next s 0 ≤ length (inputs_in mentions ends s)
  pub passed : (j : ℕ) → j < get_or next s 0 → (m : ℕ) → maker_at made (inputs_in mentions ends s) j ≡ suc m → m ∈ done

-- of the files from one place up to another the makers are done
abbrev pub Over : List ℕ → List ℕ → List ℕ → ℕ → ℕ → Type 0
Over fs made seen from r = (j : ℕ) → from ≤ j → j < r → (m : ℕ) → maker_at made fs j ≡ suc m → get_or seen m 0 ≡ 2

-- What the search for a file whose maker is not done finds: its place, or the number of files.
pub record OpenInput (fs made seen : List ℕ) (from r : ℕ) : Type 0 where
  pub forward : from ≤ r
  pub within : r ≤ length fs
  pub over : Over fs made seen from r
  pub made_there : r < length fs → 0 < maker_at made fs r
  pub not_done : r < length fs → get_or seen (maker_at made fs r - 1) 0 ≡ 2 → ⊥

-- Between two walks there is no path, and the first `done` numbers of `order` are done.
pub record Visited (mentions ends made : List ℕ) (n : ℕ) (Want : ℕ → Type 0) (seen next order : List ℕ) (done : ℕ) : Type 0 where
  pub done_in : done ≤ n
  pub next_long : length next ≡ n
  pub order_long : length order ≡ n
  pub walk : Walk (before_in mentions ends made) n Want seen [] (take done order)
  pub passed : (s : ℕ) → s < n → InputsPassed mentions ends made next (take done order) s

-- What a walk from `root` finds, with the steps of `old` done before it: all that it reaches in order after them, or a circle.
pub record Settled (mentions ends made : List ℕ) (n : ℕ) (old : List ℕ) (root : ℕ) (seen next order : List ℕ) (done : ℕ) : Type 0 where
  pub visited : Visited mentions ends made n (Reached (before_in mentions ends made) (root ∷ old)) seen next order done
  pub kept : old ⊆ take done order
  pub root_done : root ∈ take done order

pub record Circled (before : ℕ → List ℕ) (Want : ℕ → Type 0) (path : List ℕ) (from to : ℕ) : Type 0 where
  pub within : to ≤ length path
  pub circle : IsCircle Want (By before) (drop from (take to path))

unfoldable pub Explored : List ℕ → List ℕ → List ℕ → ℕ → List ℕ → ℕ → List ℕ → List ℕ → List ℕ → List ℕ → Result ℕ (ℕ × ℕ) → Type 0
Explored mentions ends made n old root seen next path order (Ok k) = Settled mentions ends made n old root seen next order k
Explored mentions ends made n old root seen next path order (Err (from, to)) =
    Circled (before_in mentions ends made) (Reached (before_in mentions ends made) (root ∷ old)) path from to

-- What a walk starts from: sound tables, a step not seen yet, and what was done before.
pub record Starts (mentions ends made seen next path order : List ℕ) (root done : ℕ) : Type 0 where
  pub sound : SoundColumns (length order) mentions ends made
  pub visited : Visited mentions ends made (length order) (In (take done order)) seen next order done
  pub path_long : length path ≡ length order
  pub root_low : root < length order
  pub unseen : get_or seen root 0 ≡ 0

-- the first place of x in a list, or the list's length
pub record Finds (l : List ℕ) (x j : ℕ) : Type 0 where
  pub within : j ≤ length l
  pub first : (i : ℕ) → i < j → get_or l i 0 ≡ x → ⊥
  pub found : j < length l → get_or l j 0 ≡ x

-- The walks from the makers of the first i roots are made.
pub record Rooted (mentions ends made roots : List ℕ) (n : ℕ) (seen next order : List ℕ) (done i : ℕ) : Type 0 where
  pub visited : Visited mentions ends made n (Reached (before_in mentions ends made) (makers_in made roots)) seen next order done
  pub rooted : (j : ℕ) → j < i → (m : ℕ) → maker_at made roots j ≡ suc m → m ∈ take done order

-- What the walks find: those from one more root, or a circle.
unfoldable pub RootSeen : List ℕ → List ℕ → List ℕ → List ℕ → ℕ → ℕ → List ℕ → List ℕ → List ℕ → List ℕ → Result ℕ (ℕ × ℕ) → Type 0
RootSeen mentions ends made roots n i seen next path order (Ok k) = Rooted mentions ends made roots n seen next order k i
RootSeen mentions ends made roots n i seen next path order (Err (from, to)) =
    Circled (before_in mentions ends made) (Reached (before_in mentions ends made) (makers_in made roots)) path from to

-- what the walk from root i asks
pub record RootAsked (mentions ends made roots : List ℕ) (i : ℕ) (seen next path order : List ℕ) (done : ℕ) : Type 0 where
  pub sound : SoundColumns (length order) mentions ends made
  pub files : FilesMade (length order) roots made
  pub state : Rooted mentions ends made roots (length order) seen next order done i
  pub path_long : length path ≡ length order
  pub one_more : i < length roots

-- What all the walks ask: sound tables, roots that are files, nothing seen.
pub record SortAsked (mentions ends made roots seen next path order : List ℕ) : Type 0 where
  pub sound : SoundColumns (length order) mentions ends made
  pub files : FilesMade (length order) roots made
  pub unseen : seen ≡ zeros (length order)
  pub unpassed : next ≡ zeros (length order)
  pub path_long : length path ≡ length order

-- the first k numbers of `order` are the needed steps in an order, with each one after the makers of its inputs
pub record OrderFound (mentions ends made roots : List ℕ) (n : ℕ) (order : List ℕ) (k : ℕ) : Type 0 where
  pub within : k ≤ n
  pub in_order : IsOrder (In (needed_in mentions ends made n roots)) (By (before_in mentions ends made)) (take k order)

-- What they find: an order of the needed steps, or a circle of needed ones.
unfoldable pub FindsOrder : List ℕ → List ℕ → List ℕ → List ℕ → ℕ → List ℕ → List ℕ → Result ℕ (ℕ × ℕ) → Type 0
FindsOrder mentions ends made roots n path order (Ok k) = OrderFound mentions ends made roots n order k
FindsOrder mentions ends made roots n path order (Err (from, to)) = Circled (before_in mentions ends made) (In (needed_in mentions ends made n roots)) path from to
