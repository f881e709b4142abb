-- `text_batch::usable` meets its contract.
use Prim.Native.Nat.{ℕ, min}
use mathlib.Core.Bool.{true, false}
use mathlib.Core.Path.{◌≡◌, ◌∙◌}
use native.Mathlib.Omega.{arith}
use borrow.Author.Tests.{leb-true, leb-false}
use lib.Dec.{leb}
use Rattle.lists.specs.Tests.{split}
use Rattle.text_batch.specs.TextsAsk.{max_end, endable}
use Rattle.text_batch.proofs.usable.Goals as goal

least : (room : ℕ) → min room max_end ≡ endable room
unfolding endable
least room =
    split (leb room max_end)
    (λ (e : leb room max_end ≡ true). let h = leb-true room max_end e in rw e (omega arith))
    (λ (e : leb room max_end ≡ false). let h = leb-false room max_end e in rw e (omega arith))

pub returns : goal.returns
returns c = c.min.ensures ∙ least c.args.room
