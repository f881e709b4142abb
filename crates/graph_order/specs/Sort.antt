-- What the sorting of the needed steps leaves in the lent buffers: an order of them, or a circle shown in the list.
use Rattle.std.specs.Prelude.{ℕ, ◌≤◌, ◌≡◌, List, length, Result, Ok, Err}
use Rattle.orders.specs.Order.{IsCircle}
use Rattle.orders.specs.Greedy.{In, By}
use Rattle.hold_columns.specs.Columns.{before_in, needed_in, SoundColumns, FilesMade, Shown}
use Rattle.graph_order.specs.Walk.{SortAsked, OrderFound}

pub record NeededAsked (mentions ends made roots order list : List ℕ) : Type 0 where
  pub sound : SoundColumns (length order) mentions ends made
  pub files : FilesMade (length order) roots made
  pub room : length order ≤ length list

-- the same, with the buffers that the walks work in
pub record SortShows (mentions ends made roots seen next path order list : List ℕ) : Type 0 where
  pub asked : SortAsked mentions ends made roots seen next path order
  pub room : length order ≤ length list

pub record InOrder (mentions ends made roots : List ℕ) (n : ℕ) (order : List ℕ) (k : ℕ) (list exit : List ℕ) : Type 0 where
  pub sorted : OrderFound mentions ends made roots n order k
  pub kept : exit ≡ list

pub record Showable (path : List ℕ) (from to : ℕ) (list : List ℕ) : Type 0 where
  pub forward : from ≤ to
  pub within : to ≤ length path
  pub room : length path ≤ length list

pub record InCircle (mentions ends made roots : List ℕ) (n k : ℕ) (list exit : List ℕ) : Type 0 where
  pub circle : List ℕ
  pub real : IsCircle (In (needed_in mentions ends made n roots)) (By (before_in mentions ends made)) circle
  pub shown : Shown circle list k exit

unfoldable pub NeededSorted : List ℕ → List ℕ → List ℕ → List ℕ → ℕ → List ℕ → List ℕ → List ℕ → Result ℕ ℕ → Type 0
NeededSorted mentions ends made roots n order list exit (Ok k) = InOrder mentions ends made roots n order k list exit
NeededSorted mentions ends made roots n order list exit (Err k) = InCircle mentions ends made roots n k list exit
