-- The least list of the marked steps is document 01's list.
use Prim.Native.Nat.{ℕ, ◌<◌}
use mathlib.Core.Path.{◌≡◌, sym, ap, ◌∙◌}
use mathlib.Core.Bool.{true, false}
use mathlib.Core.List.{List}
use lib.ListN.{length}
use native.Mathlib.Omega.{arith}
use Rattle.lists.specs.Tests.{split}
use Rattle.lists.specs.Members.{◌∈◌, Rising, has, has_true, in_has, rising_ext, rising_keep, in_keep}
use Rattle.orders.specs.Reach.{rising_reach, reach_low}
use Rattle.spec.specs.Reading.{Step}
use Rattle.spec.specs.Graph.{before, makers_of, needed}
use Rattle.spec.specs.Stale.{is_stale, stale_needed, list_of}
use Rattle.hold_columns.specs.Columns.{bit, HoldsColumns, Marks, Shown}
use Rattle.hold_columns.proofs.Held.{held_before, held_steps}
use Rattle.graph_stale.specs.Judge.{time_at, StaleMarked}
use Rattle.graph_list.specs.Listing.{marked, least_in, ListAsked, ListSpaceAsked, StaleListed}
use Rattle.graph_list.proofs.Listing.{in_marked, marked_in, rising_marked}

-- marks that stand at the members of a rising list of steps give that list
marks_list : {n : ℕ} {l marks : List ℕ} → Marks n l marks → Rising l → ((s : ℕ) → s ∈ l → s < n) → marked n marks ≡ l
marks_list {n} {l} {marks} m u low = rising_ext (marked n marks) l (rising_marked n marks) u
    (λ s h. let (b, e) = in_marked n marks h in split (has s l)
    (λ (p : has s l ≡ true). has_true s l p)
    (λ (p : has s l ≡ false). absurd (omega (arith, sym e ∙ m.marked s b ∙ ap bit p))))
    (λ s h. marked_in n marks (low s h) (m.marked s (low s h) ∙ ap bit (in_has h)))

needed_rising : (steps : List Step) (roots : List ℕ) → Rising (needed steps roots)
unfolding needed
needed_rising steps roots = rising_reach (before steps) (length steps) (makers_of steps roots)

needed_below : (steps : List Step) (roots : List ℕ) {s : ℕ} → s ∈ needed steps roots → s < length steps
unfolding needed
needed_below steps roots h = reach_low (before steps) (length steps) (makers_of steps roots) h

module _ (times : List ℕ) {mentions ends phony made marks : List ℕ} {steps : List Step} {files : ℕ} (h : HoldsColumns steps files mentions ends phony made) (roots : List ℕ)
    (m : Marks (length phony) (stale_needed steps (time_at times) roots) marks) where
  stale_rising : Rising (stale_needed steps (time_at times) roots)
  unfolding stale_needed
  stale_rising = rising_keep (is_stale steps (time_at times) roots) (needed steps roots) (needed_rising steps roots)

  stale_low : (s : ℕ) → s ∈ stale_needed steps (time_at times) roots → s < length phony
  unfolding stale_needed
  stale_low s i = rw (held_steps h) (needed_below steps roots (in_keep (is_stale steps (time_at times) roots) (needed steps roots) i).0)

  least_list_law : least_in mentions ends made marks ≡ list_of steps (time_at times) roots
  unfolding least_in list_of
  least_list_law = rw (m.long, marks_list m stale_rising stale_low, held_before h, held_steps h)

pub stale_listed : {mentions ends phony made times order marks list exit : List ℕ} {k : ℕ} → StaleMarked mentions ends phony made times order marks
    → Shown (least_in mentions ends made marks) list k exit → StaleListed mentions ends phony made times order list k exit
stale_listed {times} r s steps files roots h o = rw (least_list_law times h roots (r.marked steps files roots h o)) at s

pub ask_list : {mentions ends phony made times order blank marks clear list : List ℕ} → ListSpaceAsked mentions ends phony made times order blank clear list
    → StaleMarked mentions ends phony made times order marks → ListAsked mentions ends made order marks clear list
ask_list q r = record {
  sound = rw r.long q.asked.sound;
  sorted = q.asked.sorted;
  steps = rw r.long q.asked.steps;
  inside = r.inside;
  unclear = rw r.long q.unclear;
  room = rw r.long q.asked.room;
}
