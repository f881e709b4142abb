-- For callers: what an answer says, once its case is known.
use Rattle.std.specs.Prelude.{Option, Some, None}
use Prim.Native.Nat.{ℕ}
use mathlib.Core.List.{List, []}
use mathlib.Core.Option.{none, some}
use mathlib.Core.Path.{◌≡◌}
use Rattle.depfile.specs.Depfile.{depfile_rule, listed_for}
use Rattle.scan_depfile.specs.Answers.{ListedFrom, StartsList, NameListed, ListOver, NextPrerequisite}
use Rattle.scan_depfile.specs.declared.DepfileName.{DepfileName}
use Rattle.scan_depfile.specs.declared.DepfileName.TheVariants.{Name, End, Malformed}

module _ (s out : List ℕ) (r : Option ℕ) (m : StartsList s out r) where
  pub list_from : {n : ℕ} → r ≡ Some n → ListedFrom s out n
  unfolding StartsList
  list_from e = rw e at m

  pub list_refused : r ≡ None → listed_for out (depfile_rule s) ≡ none
  unfolding StartsList
  list_refused e = rw e at m

module _ (s : List ℕ) (i : ℕ) (before after : List ℕ) (r : DepfileName) (m : NextPrerequisite s i before after r) where
  pub name_listed : {n count : ℕ} → r ≡ Name n count → NameListed s i n count before after
  unfolding NextPrerequisite
  name_listed e = rw e at m

  pub list_over : r ≡ End → ListOver s i (some []) before after
  unfolding NextPrerequisite
  list_over e = rw e at m

  pub list_malformed : r ≡ Malformed → ListOver s i none before after
  unfolding NextPrerequisite
  list_malformed e = rw e at m
