-- `scan_depfile::rule_ends` meets its contract.
use mathlib.Core.Path.{◌≡◌, refl, sym, ◌∙◌}
use Rattle.depfile.specs.Depfile.{byte, gap, lone, marks_of}
use Rattle.scan_depfile.specs.Walk.{rule_ends}
use Rattle.scan_depfile.proofs.Told.{mark_byte, mark_gap, mark_line, mark_lone}
use Rattle.scan_depfile.proofs.Listing.{ends_text, ends_line_law, ends_not}
use Prim.Native.Nat.{ℕ}
use mathlib.Core.List.{List}
use lib.ListN.{drop}
use Rattle.scan_depfile.specs.declared.FoundMark.{FoundMark}
use Rattle.scan_depfile.specs.declared.FoundMark.TheVariants.{Byte, Gap, Line, Lone}
use Rattle.scan_depfile.specs.Answers.{MarkAt, NextMark}
use mathlib.Core.Bool.{false}
use Rattle.scan_depfile.proofs.rule_ends.Goals as goal

goes_on : (s : List ℕ) (i : ℕ) (r : FoundMark) → MarkAt s i r → ((n : ℕ) → r ≡ Line n → ⊥) → false ≡ rule_ends (marks_of (drop i s))
unfolding rule_ends
goes_on s i (Byte b n) m h = sym (ends_not (byte _) (λ t. refl) (mark_byte _ m refl))
goes_on s i (Gap n) m h = sym (ends_not gap (λ t. refl) (mark_gap _ m refl))
goes_on s i (Line n) m h = absurd (h n refl)
goes_on s i Lone m h = sym (ends_not lone (λ t. refl) (mark_lone _ m refl))

pub returns-then-s-i : goal.returns-then-s-i
returns-then-s-i c = sym (ends_text c.args.s.now c.args.i c.if-s-i.true)

pub only_blank-requires : goal.only_blank-requires
only_blank-requires c =
    let m : NextMark _ _ _ _ = mark_line _ c.mark_at.ensures c.in-Line.is in
    m.within

pub returns-in-Line : goal.returns-in-Line
returns-in-Line c = c.only_blank.ensures ∙ sym (ends_line_law (mark_line _ c.mark_at.ensures c.in-Line.is))

pub returns-in_default : goal.returns-in_default
returns-in_default c = goes_on _ _ _ c.mark_at.ensures c.in_default.not-Line
