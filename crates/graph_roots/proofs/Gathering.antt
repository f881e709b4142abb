-- The unmarked outputs of one step after another are the outputs that are no step's input.
use Prim.Native.Nat.{ℕ, zero, suc, ◌+◌, ◌-◌, ◌≤◌, ◌<◌}
use native.Mathlib.Nat.{not-suc-le-zero, le_of_suc-le-suc}
use native.Mathlib.Numerals.{add-one}
use native.Mathlib.Omega.{arith}
use mathlib.Core.Path.{◌≡◌, refl, sym, ap, ap₂, ◌∙◌}
use mathlib.Core.Bool.{Bool, true, false, not}
use mathlib.Core.Logic.{inl, inr}
use mathlib.Core.List.{List, [], ◌∷◌, ◌++◌, map, append-nil, append_assoc}
use lib.Dec.{eqb}
use lib.ListN.{length, get_or, take}
use lib.Seq.{take-suc, take-length}
use borrow.Author.Tests.{eq-eqb, ne_eqb}
use Rattle.lists.specs.Tests.{split, differ, or_true}
use Rattle.lists.specs.Parts.{length_part}
use Rattle.lists.specs.Members.{◌∈◌, keep, any, has, has_true, in_has, in_append, in_keep, not_in_nil}
use Rattle.spec.specs.Basics.{concat}
use Rattle.spec.specs.Reading.{Step}
use Rattle.spec.specs.Graph.{inputs, no_step, step_at, is_input, tops}
use Rattle.hold_columns.specs.Columns.{outs_end, end_at, step_start, outs_in, HoldsColumns, SoundColumns}
use Rattle.hold_columns.proofs.Held.{in_part, outs_low, held_inputs, held_outs, held_steps}
use Rattle.graph_roots.specs.Tops.{InputsMarked, unmarked, Appended, AppendAsked, outs_before, TopsAsked, TopsFound}

-- ---- files kept

keep_append : (p : ℕ → Bool) (l r : List ℕ) → keep p (l ++ r) ≡ keep p l ++ keep p r
unfolding keep
keep_append p [] r = refl
keep_append p (x ∷ l) r = split (p x)
    (λ (e : p x ≡ true). rw (e, keep) (ap (λ (z : List ℕ). x ∷ z) (keep_append p l r)))
    (λ (e : p x ≡ false). rw (e, keep) (keep_append p l r))

keep_same : (p q : ℕ → Bool) → ((x : ℕ) → p x ≡ q x) → (l : List ℕ) → keep p l ≡ keep q l
unfolding keep
keep_same p q f [] = refl
keep_same p q f (x ∷ l) = rw (f x, keep_same p q f l)

-- ---- some step has the file as an input

some_step : (p : Step → Bool) (l : List Step) → any p l ≡ true → (s : ℕ) × (s < length l) × (p (get_or l s no_step) ≡ true)
unfolding any
some_step p [] e = differ e refl
some_step p (x ∷ l) e = elim (or_true (p x) (any p l) e) [
  | inl a ↦ (0, omega arith, a)
  | inr b ↦ (let (s, c, d) = some_step p l b in (suc s, omega arith, d))
]

step_some : (p : Step → Bool) (l : List Step) (s : ℕ) → s < length l → p (get_or l s no_step) ≡ true → any p l ≡ true
unfolding any
step_some p [] s b e = absurd (not-suc-le-zero b)
step_some p (x ∷ l) zero b e = rw e
step_some p (x ∷ l) (suc s) b e = split (p x) (λ (d : p x ≡ true). rw d) (λ (d : p x ≡ false). rw d (step_some p l s (le_of_suc-le-suc b) e))

-- ---- the outputs of the steps before s

outs_concat : (steps : List Step) (x : Step) → concat (map (λ (s : Step). s.outs) (steps ++ (x ∷ []))) ≡ concat (map (λ (s : Step). s.outs) steps) ++ x.outs
unfolding concat
outs_concat [] x = append-nil x.outs
outs_concat (y ∷ l) x = ap (λ (z : List ℕ). y.outs ++ z) (outs_concat l x) ∙ sym (append_assoc y.outs (concat (map (λ (s : Step). s.outs) l)) x.outs)

module _ {steps : List Step} {files : ℕ} {mentions ends phony made : List ℕ} (h : HoldsColumns steps files mentions ends phony made) where
  outs_before_law : (s : ℕ) → s ≤ length steps → outs_before mentions ends s ≡ concat (map (λ (x : Step). x.outs) (take s steps))
  unfolding outs_before concat
  outs_before_law zero b = refl
  outs_before_law (suc s) b =
      ap₂ (λ (x y : List ℕ). x ++ y) (outs_before_law s (omega arith)) (held_outs h s)
      ∙ sym (ap (λ (l : List Step). concat (map (λ (x : Step). x.outs) l)) (take-suc steps s no_step b) ∙ outs_concat (take s steps) (step_at steps s))

  module _ {marks : List ℕ} (m : InputsMarked mentions ends (length phony) (length made) marks) where
    mark_input : (f : ℕ) → eqb (get_or marks f 0) 1 ≡ is_input steps f
    unfolding is_input
    mark_input f = split (is_input steps f)
        (λ (e : is_input steps f ≡ true).
        let (s, b, d) = some_step (λ (s : Step). has f (inputs s)) steps e in
        rw e (eq-eqb (get_or marks f 0) 1 (m.marked s f (rw (held_steps h) b) (rw (held_inputs h s) (has_true f (inputs (step_at steps s)) d)))))
        (λ (e : is_input steps f ≡ false).
        rw e (ne_eqb (get_or marks f 0) 1 (λ w.
        let (s, b, i) = m.only f w in
        differ (step_some (λ (s : Step). has f (inputs s)) steps s (rw (held_steps h) at b) (in_has (rw (held_inputs h s) at i))) e)))

    tops_are : unmarked marks (outs_before mentions ends (length phony)) ≡ tops steps
    unfolding unmarked tops
    tops_are =
        ap (keep (λ f. not (eqb (get_or marks f 0) 1))) (ap (outs_before mentions ends) (held_steps h) ∙ outs_before_law (length steps) (omega arith) ∙ ap (λ (l : List Step). concat (map (λ (x : Step). x.outs) l)) (take-length steps))
        ∙ keep_same (λ f. not (eqb (get_or marks f 0) 1)) (λ f. not (is_input steps f)) (λ f. ap not (mark_input f)) (concat (map (λ (x : Step). x.outs) steps))

-- ---- the loop

in_outs_before : (mentions ends : List ℕ) (s : ℕ) {f : ℕ} → f ∈ outs_before mentions ends s → f ∈ mentions
unfolding outs_before outs_in
in_outs_before mentions ends zero h = absurd (not_in_nil h)
in_outs_before mentions ends (suc s) h = elim (in_append (outs_before mentions ends s) h) [
  | inl a ↦ in_outs_before mentions ends s a
  | inr b ↦ in_part mentions (step_start ends s) (end_at ends s outs_end) b
]

unmarked_in : (marks l : List ℕ) {f : ℕ} → f ∈ unmarked marks l → f ∈ l
unfolding unmarked
unmarked_in marks l h = (in_keep (λ f. not (eqb (get_or marks f 0) 1)) l h).0

start_low : {n : ℕ} {mentions ends made : List ℕ} → SoundColumns n mentions ends made → (s : ℕ) → s ≤ n → step_start ends s ≤ length mentions
unfolding step_start
start_low r zero b = omega arith
start_low r (suc s) b = (r.placed s b).mentioned

-- the outputs of the first s steps are seen to
pub record Gathering (mentions ends phony marks out now : List ℕ) (k s : ℕ) : Type 0 where
  pub within : s ≤ length phony
  pub long : length now ≡ length out
  pub few : k ≤ step_start ends s
  pub front : take k now ≡ unmarked marks (outs_before mentions ends s)

pub gather_begin : {mentions ends phony marks out : List ℕ} → Gathering mentions ends phony marks out out 0 0
unfolding unmarked outs_before keep
gather_begin = record { within = omega arith; long = refl; few = omega arith; front = refl }

module _ {mentions ends phony made blank marks out now : List ℕ} {k s : ℕ} (q : TopsAsked mentions ends phony made blank out) (m : InputsMarked mentions ends (length phony) (length made) marks)
    (r : Gathering mentions ends phony marks out now k s) where
  module _ (b : s < length phony) {fs : List ℕ} (e : fs ≡ outs_in mentions ends s) where
    outs_long : length fs ≡ end_at ends s outs_end - step_start ends s
    unfolding outs_in
    outs_long =
        let p = q.sound.placed s b in
        ap length e ∙ length_part mentions (step_start ends s) (end_at ends s outs_end) (omega (arith, p.counted, p.inputs, p.mentioned))

    pub gather_ask : AppendAsked fs marks now k
    gather_ask =
        let p = q.sound.placed s b in
        record {
          low = rw m.long (outs_low q.sound.low ends s e);
          few = rw m.long q.sound.few_files;
          room = omega (arith, outs_long, r.few, r.long, q.room, p.outs, p.counted, p.inputs, p.mentioned);
        }

    pub gather_more : {exit : List ℕ} {n : ℕ} → Appended fs marks now k exit n → Gathering mentions ends phony marks out exit n (s + 1)
    unfolding step_start outs_before unmarked
    gather_more a =
        let p = q.sound.placed s b in
        record {
          within = omega arith;
          long = a.long ∙ r.long;
          few = rw (add-one s) (omega (arith, outs_long, a.within, r.few, p.outs, p.counted, p.inputs));
          front = rw (add-one s)
              (a.front ∙ ap₂ (λ (x y : List ℕ). x ++ y) r.front (ap (unmarked marks) e)
              ∙ sym (keep_append (λ f. not (eqb (get_or marks f 0) 1)) (outs_before mentions ends s) (outs_in mentions ends s)));
        }

  pub gather_end : length phony ≤ s → TopsFound mentions ends phony made now k
  gather_end b =
      let z : s ≡ length phony = omega (arith, r.within) in
      record {
        within = omega (arith, r.few, r.long, q.room, start_low q.sound s r.within);
        low = λ f h. q.sound.low f (in_outs_before mentions ends s (unmarked_in marks (outs_before mentions ends s) (rw r.front at h)));
        found = λ steps files h. r.front ∙ ap (λ (n : ℕ). unmarked marks (outs_before mentions ends n)) z ∙ tops_are h m;
      }
