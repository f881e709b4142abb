-- Which steps a depfile makes stale, by the columns: each case of the code by the definition.
use Prim.Native.Nat.{ℕ, suc, ◌+◌, ◌-◌, ◌≤◌, ◌<◌}
use native.Mathlib.Decide.{ℕ_discrete}
use native.Mathlib.Omega.{arith}
use mathlib.Core.Path.{◌≡◌, refl, ◌∙◌}
use mathlib.Core.Bool.{Bool, true, false}
use mathlib.Core.List.{List, [], ◌∷◌}
use lib.ListN.{length, get_or, set, length-set}
use lib.Seq.{get_or-set_same, get_or-set_other}
use borrow.Author.Tests.{eq-eqb, ne_eqb}
use Rattle.lists.specs.Members.{any}
use Rattle.hold_columns.specs.Columns.{bit, implicit_end, end_at, made_by, maker_in}
use Rattle.hold_columns.proofs.Held.{part_low}
use Rattle.graph_stale.specs.Judge.{time_at}
use Rattle.ask_judged_times.specs.Lists.{listed_part, some_absent, forced_in, AbsentAsked, ListedAsked, JudgedAsked, MarksAsked, ForcedMarked}

-- ---- the files of a list

module _ (made times : List ℕ) (l : List ℕ) (f : ℕ) {m : ℕ} (e : m ≡ get_or made f 0) where
  pub with_maker : (m ≡ 0 → ⊥) → some_absent made times (f ∷ l) ≡ some_absent made times l
  unfolding some_absent maker_in made_by any
  with_maker d = let w : get_or made f 0 ≡ suc (m - 1) = omega arith in rw w

  module _ (z : m ≡ 0) {t : ℕ} (q : t ≡ time_at times f) where
    pub absent_there : t ≡ 0 → some_absent made times (f ∷ l) ≡ true
    unfolding some_absent maker_in made_by any
    absent_there y = rw (← e, z, ← q, eq-eqb t 0 y)

    pub present_there : (t ≡ 0 → ⊥) → some_absent made times (f ∷ l) ≡ some_absent made times l
    unfolding some_absent maker_in made_by any
    present_there y = rw (← e, z, ← q, ne_eqb t 0 y)

pub none_absent : (made times : List ℕ) → some_absent made times [] ≡ false
unfolding some_absent any
none_absent made times = refl

-- ---- a step

module _ (mentions ends made missing listed times : List ℕ) (s : ℕ) {v : ℕ} (e : v ≡ get_or missing s 0) where
  pub by_missing : v ≡ 1 → true ≡ forced_in mentions ends made missing listed times s
  unfolding forced_in
  by_missing z = rw (← e, eq-eqb v 1 z)

  pub by_listed : (v ≡ 1 → ⊥) → {fs : List ℕ} → fs ≡ listed_part mentions ends listed s → {r : Bool} → r ≡ some_absent made times fs → r ≡ forced_in mentions ends made missing listed times s
  unfolding forced_in
  by_listed d q p = p ∙ rw (← e, ne_eqb v 1 d, q)

module _ {mentions ends made missing listed times : List ℕ} (a : JudgedAsked mentions ends made missing listed times) {s : ℕ} (b : s < length missing) where
  pub ask_listed : ListedAsked mentions ends listed s
  ask_listed = record { placed = a.sound.placed s b; step = omega (arith, a.listed_long, b); few = a.few s b }

  pub ask_absent : {fs : List ℕ} → fs ≡ listed_part mentions ends listed s → AbsentAsked fs made times
  unfolding listed_part
  ask_absent q = record { low = rw q (part_low a.sound.low (end_at ends s implicit_end - get_or listed s 0) (end_at ends s implicit_end)); timed = a.timed }

-- ---- all steps: those below s are marked

pub record Forcing (mentions ends made missing listed times marks : List ℕ) (s : ℕ) : Type 0 where
  pub within : s ≤ length missing
  pub long : length marks ≡ length missing
  pub marked : (u : ℕ) → u < s → get_or marks u 0 ≡ bit (forced_in mentions ends made missing listed times u)

module _ {mentions ends made missing listed times : List ℕ} where
  pub force_begin : {marks : List ℕ} → MarksAsked mentions ends made missing listed marks times → Forcing mentions ends made missing listed times marks 0
  force_begin a = record { within = omega arith; long = a.marks_long; marked = λ u b. absurd (omega arith) }

  pub force_more : {marks : List ℕ} {s v : ℕ} → Forcing mentions ends made missing listed times marks s → s < length missing
      → v ≡ bit (forced_in mentions ends made missing listed times s) → Forcing mentions ends made missing listed times (set marks s v) (s + 1)
  force_more {marks} {s} {v} r b e = record {
    within = omega arith;
    long = simp length-set r.long;
    marked = λ u c. elim (ℕ_discrete u s) [
      | yes q ↦ rw q (get_or-set_same marks s v 0 (omega (arith, r.long)) ∙ e)
      | no d ↦ get_or-set_other marks s u v 0 d ∙ r.marked u (omega arith)
    ];
  }

  pub force_end : {marks : List ℕ} {s : ℕ} → Forcing mentions ends made missing listed times marks s → length missing ≤ s → ForcedMarked mentions ends made missing listed times marks
  force_end r b = record { long = r.long; marked = λ u c. r.marked u (omega arith) }
