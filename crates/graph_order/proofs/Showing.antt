-- A circle on the path, shown in the list.
use Rattle.std.specs.Prelude.{Result, Ok, Err}
use Prim.Native.Nat.{ℕ, ◌≤◌}
use native.Mathlib.Omega.{arith}
use mathlib.Core.Path.{◌≡◌, refl}
use mathlib.Core.List.{List}
use lib.ListN.{length, length-take, length-drop}
use Rattle.lists.specs.Parts.{part, drop_take}
use Rattle.orders.specs.Greedy.{In}
use Rattle.hold_columns.specs.Columns.{before_in, needed_in, Shown}
use Rattle.graph_order.specs.Walk.{Circled, FindsOrder}
use Rattle.graph_order.specs.Sort.{Showable, InOrder, InCircle}

module _ (mentions ends made roots : List ℕ) (n : ℕ) (path order : List ℕ) {o : Result ℕ (ℕ × ℕ)} (s : FindsOrder mentions ends made roots n path order o) where
  pub shows_order : {k : ℕ} → o ≡ Ok k → (list : List ℕ) → InOrder mentions ends made roots n order k list list
  unfolding FindsOrder
  shows_order e list = record { sorted = rw e at s; kept = refl }

  module _ {from to : ℕ} (e : o ≡ Err (from, to)) where
    circled : Circled (before_in mentions ends made) (In (needed_in mentions ends made n roots)) path from to
    unfolding FindsOrder
    circled = rw e at s

    pub showable : {list : List ℕ} → length path ≤ length list → Showable path from to list
    showable b =
        let c = circled.circle.one_or_more in
        record { forward = omega (arith, simp (length-drop, length-take) at c); within = circled.within; room = b }

    pub shows_circle : {list exit : List ℕ} {k : ℕ} → Shown (part path from to) list k exit → InCircle mentions ends made roots n k list exit
    shows_circle t = record { circle = part path from to; real = rw (drop_take from to path) at circled.circle; shown = t }
