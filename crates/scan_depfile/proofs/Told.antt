-- What an answer says, once its case is known.
use Rattle.std.specs.Prelude.{Option, Some, None}
use Prim.Native.Nat.{ℕ, suc}
use mathlib.Core.Bool.{Bool, true}
use mathlib.Core.List.{List, []}
use mathlib.Core.Path.{◌≡◌}
use lib.ListN.{drop}
use Rattle.depfile.specs.Depfile.{byte, gap, line, lone, marks_of}
use Rattle.scan_depfile.specs.Walk.{name_here}
use Rattle.scan_depfile.specs.Answers.{NextMark, MarkAt, InName, NameByteAt, TargetHere, TargetIs}
use Rattle.scan_depfile.specs.declared.FoundMark.{FoundMark}
use Rattle.scan_depfile.specs.declared.FoundMark.TheVariants.{Byte, Gap, Line, Lone}

module _ {s : List ℕ} {i : ℕ} (r : FoundMark) (m : MarkAt s i r) where
  pub mark_byte : {b n : ℕ} → r ≡ Byte b n → NextMark s i (byte b) n
  unfolding MarkAt
  mark_byte e = rw e at m

  pub mark_gap : {n : ℕ} → r ≡ Gap n → NextMark s i gap n
  unfolding MarkAt
  mark_gap e = rw e at m

  pub mark_line : {n : ℕ} → r ≡ Line n → NextMark s i line n
  unfolding MarkAt
  mark_line e = rw e at m

  pub mark_lone : r ≡ Lone → NextMark s i lone (suc i)
  unfolding MarkAt
  mark_lone e = rw e at m

module _ (t : Bool) (s : List ℕ) (i : ℕ) (r : Option (ℕ × ℕ)) (m : NameByteAt t s i r) where
  pub name_in : {b n : ℕ} → r ≡ Some (b, n) → InName t s i b n
  unfolding NameByteAt
  name_in e = rw e at m

  pub name_over : r ≡ None → name_here t (marks_of (drop i s)) ≡ []
  unfolding NameByteAt
  name_over e = rw e at m

module _ (s : List ℕ) (i : ℕ) (out : List ℕ) (r : Option ℕ) (m : TargetIs s i out r) where
  pub target_here : {n : ℕ} → r ≡ Some n → TargetHere s i out n
  unfolding TargetIs
  target_here e = rw e at m

  pub target_other : r ≡ None → name_here true (marks_of (drop i s)) ≡ out → ⊥
  unfolding TargetIs
  target_other e = rw e at m
