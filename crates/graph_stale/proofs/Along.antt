-- The verdicts along an order: each step's is put into the columns, and leaves those told before as they are.
use Prim.Native.Nat.{ℕ, ◌+◌, ◌≤◌, ◌<◌}
use native.Mathlib.Numerals.{add-one}
use native.Mathlib.Omega.{arith}
use mathlib.Core.Path.{◌≡◌, refl, ap₂, ◌∙◌}
use mathlib.Core.Logic.{inl, inr}
use mathlib.Core.List.{List, [], ◌∷◌, ◌++◌}
use lib.ListN.{length, get_or, take, set, length-set}
use lib.Seq.{take-suc, take_all, get_or-set_same, get_or-set_other}
use Rattle.lists.specs.Members.{◌∈◌, ◌∉◌, in_snoc, in_left, in_right, here, in_take_more, place_before, not_in_nil}
use Rattle.spec.specs.Reading.{Step}
use Rattle.spec.specs.Graph.{before}
use Rattle.spec.specs.Stale.{verdict}
use Rattle.spec.proofs.Stale.{verdict_local}
use Rattle.hold_columns.specs.Columns.{HoldsColumns, SortedSteps}
use Rattle.graph_stale.specs.declared.Judged.{Judged}
use Rattle.graph_stale.specs.Judge.{known, time_at, VerdictTold, Judges, JudgeAsked, AllTold, AllAsked}

-- the first i steps of the order are told of
pub record Telling (mentions ends phony made times order before_stale stale late : List ℕ) (i : ℕ) : Type 0 where
  pub within : i ≤ length order
  pub stale_long : length stale ≡ length phony
  pub late_long : length late ≡ length phony
  pub others : (s : ℕ) → s ∉ take i order → get_or stale s 0 ≡ get_or before_stale s 0
  pub told : (steps : List Step) (files : ℕ) → HoldsColumns steps files mentions ends phony made → SortedSteps (before steps) order
      → (s : ℕ) → s ∈ take i order → VerdictTold steps times stale late s (record { stale = get_or stale s 0; time = get_or late s 0 })

pub tell_begin : {mentions ends phony made times order stale late : List ℕ} → AllAsked mentions ends phony made times order stale late
    → Telling mentions ends phony made times order stale stale late 0
tell_begin r = record {
  within = omega arith;
  stale_long = r.asked.stale_long;
  late_long = r.asked.late_long;
  others = λ s d. refl;
  told = λ steps files h o s i. absurd (not_in_nil i);
}

-- a verdict on a step that does not rest on s stays as it is when s is told of
module _ (steps : List Step) (times stale late : List ℕ) (s a b t : ℕ) (apart : (m : ℕ) → m ∈ before steps t → m ≡ s → ⊥) where
  kept : verdict steps (time_at times) (known (set stale s a) (set late s b)) t ≡ verdict steps (time_at times) (known stale late) t
  kept = verdict_local steps (time_at times) (known (set stale s a) (set late s b)) (known stale late) t
      (λ m h. ap₂ (λ (x y : ℕ). known (x ∷ []) (y ∷ []) 0) (get_or-set_other stale s m a 0 (apart m h)) (get_or-set_other late s m b 0 (apart m h)))

  told_kept : {v : Judged} → VerdictTold steps times stale late t v → VerdictTold steps times (set stale s a) (set late s b) t v
  told_kept r = record { told_stale = rw kept r.told_stale; told_time = rw kept r.told_time }

module _ {mentions ends phony made times order before_stale stale late : List ℕ} {i : ℕ} (r : Telling mentions ends phony made times order before_stale stale late i) where
  module _ (b : i < length order) {s : ℕ} (e : s ≡ get_or order i 0) (low : s < length phony) {a t : ℕ} (j : Judges mentions ends phony made times stale late s (record { stale = a; time = t })) where
    one_more : take (i + 1) order ≡ take i order ++ (s ∷ [])
    one_more = rw (add-one i, e) (take-suc order i 0 b)

    module _ {prior : ℕ → List ℕ} (o : SortedSteps prior order) where
      new : s ∉ take i order
      new = rw e (o.once i b)

      -- what is before a step told of is told of
      earlier : {u : ℕ} → u ∈ take i order → (m : ℕ) → m ∈ prior u → m ∈ take i order
      earlier {u} h m k =
          let (j, p, q, d) = place_before i order h in
          in_take_more order j i (omega arith) (o.after j q m (rw d k))

    pub tell_more : Telling mentions ends phony made times order before_stale (set stale s a) (set late s t) (i + 1)
    tell_more = record {
      within = omega arith;
      stale_long = simp length-set r.stale_long;
      late_long = simp length-set r.late_long;
      others = λ u d. get_or-set_other stale s u a 0 (λ q. d (rw (one_more, q) (in_right (take i order) (here refl)))) ∙ r.others u (λ h. d (rw one_more (in_left (s ∷ []) h)));
      told = λ steps files h o u k. elim (in_snoc (take i order) (rw one_more at k)) [
        | inl p ↦ (
            let d : u ≡ s → ⊥ = λ q. new o (rw q at p) in
            rw (get_or-set_other stale s u a 0 d, get_or-set_other late s u t 0 d)
            (told_kept steps times stale late s a t u (λ m g q. new o (rw q at (earlier o p m g))) (r.told steps files h o u p))
            )
        | inr q ↦
            rw (q, get_or-set_same stale s a 0 (omega (arith, r.stale_long)), get_or-set_same late s t 0 (omega (arith, r.late_long)))
            (told_kept steps times stale late s a t s (λ m g z. new o (rw z at (o.after i b m (rw (← e) g)))) (j steps files h))
      ];
    }

  pub tell_end : length order ≤ i → AllTold mentions ends phony made times order before_stale stale late
  tell_end b =
      let e : take i order ≡ order = take_all i order b in
      record {
        stale_long = r.stale_long;
        late_long = r.late_long;
        others = λ s d. r.others s (λ h. d (rw e at h));
        told = λ steps files h o s k. r.told steps files h o s (rw e k);
      }

pub ask_judge : {mentions ends phony made times order before_stale before_late stale late : List ℕ} {i : ℕ} → AllAsked mentions ends phony made times order before_stale before_late
    → Telling mentions ends phony made times order before_stale stale late i → JudgeAsked mentions ends phony made times stale late
ask_judge q r = record { sound = q.asked.sound; timed = q.asked.timed; stale_long = r.stale_long; late_long = r.late_long }
