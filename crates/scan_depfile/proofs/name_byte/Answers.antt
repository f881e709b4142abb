-- `scan_depfile::name_byte` meets its contract.
use Prim.Native.Nat.{ℕ}
use mathlib.Core.Bool.{Bool}
use mathlib.Core.List.{List, []}
use mathlib.Core.Path.{◌≡◌, refl}
use lib.ListN.{drop}
use Rattle.depfile.specs.Depfile.{marks_of}
use Rattle.scan_depfile.specs.Walk.{name_here}
use Rattle.scan_depfile.specs.Answers.{MarkAt, NameByteAt}
use Rattle.scan_depfile.specs.declared.FoundMark.{FoundMark}
use Rattle.scan_depfile.specs.declared.FoundMark.TheVariants.{Byte, Gap, Line, Lone}
use Rattle.scan_depfile.proofs.Told.{mark_byte, mark_gap, mark_line, mark_lone}
use Rattle.scan_depfile.proofs.Naming.{any_in, other_in, over_colon, over_gap, over_line_law, over_lone, over_end}
use Rattle.scan_depfile.proofs.name_byte.Goals.{else-target-via-then-target+else-b-eq58, else-target-via-else-target}
use Rattle.scan_depfile.proofs.name_byte.Goals as goal

over_other : (t : Bool) (s : List ℕ) (i : ℕ) (r : FoundMark) → MarkAt s i r → ((b n : ℕ) → r ≡ Byte b n → ⊥) → name_here t (marks_of (drop i s)) ≡ []
over_other t s i (Byte b n) m h = absurd (h b n refl)
over_other t s i (Gap n) m h = over_gap t (mark_gap _ m refl)
over_other t s i (Line n) m h = over_line_law t (mark_line _ m refl)
over_other t s i Lone m h = over_lone t (mark_lone _ m refl)

pub returns-then-s-i : goal.returns-then-s-i
unfolding NameByteAt
returns-then-s-i c = over_end c.args.target c.args.s.now c.args.i c.if-s-i.true

pub returns : goal.returns
unfolding NameByteAt
returns c = elim c.else-target.branch [ else-target-via-then-target+else-b-eq58 w ↦ record { mark = mark_byte _ c.mark_at.ensures c.in-Byte.is; is_in = other_in _ _ w.if-b-eq58.false } | else-target-via-else-target w ↦ record { mark = mark_byte _ c.mark_at.ensures c.in-Byte.is; is_in = any_in _ _ w.if-target.false } ]

pub returns-in_default : goal.returns-in_default
unfolding NameByteAt
returns-in_default c = over_other c.args.target _ _ _ c.mark_at.ensures c.in_default.not-Byte

pub returns-then-b-eq58 : goal.returns-then-b-eq58
unfolding NameByteAt
returns-then-b-eq58 c = over_colon c.args.target (mark_byte _ c.mark_at.ensures c.in-Byte.is) c.if-target.true c.if-b-eq58.true
