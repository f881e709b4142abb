-- The columns' lengths, and the room for a table.
use Prim.Native.Nat.{ℕ, zero, suc, ◌+◌, ◌*◌, ◌/◌, ◌≤◌, ◌<◌}
use mathlib.Core.Bool.{true, false}
use mathlib.Core.List.{List}
use mathlib.Core.Path.{◌≡◌, refl, ◌∙◌}
use native.Mathlib.Nat.{le-div_iff_mul-le}
use native.Mathlib.Omega.{arith}
use borrow.Author.Tests.{leb-true}
use lib.Dec.{lit<}
use lib.ListN.{length, get_or, length-set}
use Rattle.lists.specs.Tests.{split}
use Rattle.run_rules.specs.declared.Job.{Job}
use Rattle.run_core.specs.Numbers.{no_job}
use Rattle.run_columns.specs.Columns.{enough, stored_at, note_at, noted_to}

pub enough_room : (n : ℕ) (cs : List ℕ) → enough n cs ≡ true → n * 3 ≤ length cs
unfolding enough
enough_room n cs e = (le-div_iff_mul-le (lit< tt)).0 (leb-true n (length cs / 3) e)

pub row_room : (n i : ℕ) (cs : List ℕ) → enough n cs ≡ true → i < n → i * 3 + 2 < length cs
row_room n i cs e l = let r = enough_room n cs e in omega arith

pub enough_same : (n : ℕ) (cs ds : List ℕ) → length cs ≡ length ds → enough n cs ≡ enough n ds
unfolding enough
enough_same n cs ds e = rw e

pub stored_length : (cs : List ℕ) (i : ℕ) (j : Job) → length (stored_at cs i j) ≡ length cs
unfolding stored_at
stored_length cs i j = simp length-set

pub note_length : (n : ℕ) (cs : List ℕ) (i : ℕ) (j : Job) → length (note_at n cs i j) ≡ length cs
unfolding note_at
note_length n cs i j =
    split (enough n cs)
    (λ (e : enough n cs ≡ true). rw e (stored_length cs i j))
    (λ (e : enough n cs ≡ false). rw e)

pub noted_length : (t : List Job) (i : ℕ) (cs : List ℕ) → length (noted_to t i cs) ≡ length cs
unfolding noted_to
noted_length t zero cs = refl
noted_length t (suc i) cs = note_length (length t) (noted_to t i cs) i (get_or t i no_job) ∙ noted_length t i cs
