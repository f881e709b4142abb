-- What is read from the tables is what the rules say of the steps that they hold.
use Prim.Native.Nat.{ℕ, ◌<◌, ◌≤◌}
use native.Mathlib.Omega.{arith}
use mathlib.Core.Path.{◌≡◌, refl, sym, ap, ◌∙◌, fun_ext}
use mathlib.Core.Bool.{Bool, true, false, ◌||◌}
use mathlib.Core.List.{List, [], ◌∷◌, map}
use lib.Dec.{eqb, ltb}
use lib.ListN.{length, get_or}
use borrow.Author.Tests.{eq-eqb, ne_eqb, le-ltb}
use Rattle.lists.specs.Tests.{if_b, split}
use Rattle.lists.specs.Members.{any}
use Rattle.spec.specs.Basics.{is_empty}
use Rattle.spec.specs.Reading.{Step}
use Rattle.spec.specs.Graph.{non_order_only, step_at}
use Rattle.spec.specs.Stale.{phony_step, made_time, time_of, greatest, newest_input, maker_stale, output_missing, stale_command, stale_phony, verdict}
use Rattle.hold_columns.specs.Columns.{bit, maker_in, non_order_only_in, inputs_in, outs_in, HoldsColumns}
use Rattle.hold_columns.proofs.Held.{held_phony, held_makers, held_makers_of, held_non_order_only, held_inputs, held_outs}
use Rattle.graph_stale.specs.Judge.{known, time_at, late_time, file_time, newest_of, stale_maker, outdated, bare_missing, VerdictTold}

pub bit_test : (b : Bool) → eqb (bit b) 1 ≡ b
bit_test true = refl
bit_test false = refl

or_swap : (a b c d : Bool) → ((a || b) || (c || d)) ≡ ((a || c) || (b || d))
or_swap true b c d = refl
or_swap false true true d = refl
or_swap false true false d = refl
or_swap false false c d = refl

or_none_law : (a : Bool) → (a || false) ≡ a
or_none_law true = refl
or_none_law false = refl

any_or : (p q : ℕ → Bool) (l : List ℕ) → any (λ f. p f || q f) l ≡ (any p l || any q l)
unfolding any
any_or p q [] = refl
any_or p q (x ∷ l) = ap (λ (b : Bool). (p x || q x) || b) (any_or p q l) ∙ or_swap (p x) (q x) (any p l) (any q l)

any_never : (p : ℕ → Bool) (l : List ℕ) → ((x : ℕ) → p x ≡ false) → any p l ≡ false
unfolding any
any_never p [] f = refl
any_never p (x ∷ l) f = rw (f x) (any_never p l f)

module _ {steps : List Step} {files : ℕ} {mentions ends phony made : List ℕ} (h : HoldsColumns steps files mentions ends phony made) (times stale late : List ℕ) where
  phony_test : (m : ℕ) → eqb (get_or phony m 0) 1 ≡ phony_step steps m
  phony_test m = rw (held_phony h m) (bit_test (phony_step steps m))

  late_made : (ms : List ℕ) → late_time phony late ms ≡ made_time steps (known stale late) ms
  unfolding late_time made_time
  late_made [] = refl
  late_made (m ∷ ms) = rw (phony_test m)

  file_time_law : (f : ℕ) → file_time made phony times late f ≡ time_of steps (time_at times) (known stale late) f
  unfolding file_time time_of
  file_time_law f = ap (λ (t : ℕ). if_b (eqb (time_at times f) 0) (λ _. t) (λ _. time_at times f))
      (late_made (maker_in made f) ∙ ap (λ (g : ℕ → List ℕ). made_time steps (known stale late) (g f)) (held_makers h))

  pub newest_told : (s : ℕ) → newest_of made phony times late (non_order_only_in mentions ends s) ≡ newest_input steps (time_at times) (known stale late) s
  unfolding newest_of newest_input
  newest_told s = rw (held_non_order_only h s) (ap (λ (g : ℕ → ℕ). greatest (map g (non_order_only (step_at steps s)))) (fun_ext file_time_law))

  maker_told : (s : ℕ) → stale_maker made stale (non_order_only_in mentions ends s) ≡ maker_stale steps (known stale late) s
  unfolding stale_maker maker_stale
  maker_told s = rw (held_non_order_only h s, held_makers_of h (non_order_only (step_at steps s)))

  older_told : (s t : ℕ) → outdated times t (outs_in mentions ends s) ≡ (output_missing steps (time_at times) s || any (λ f. ltb (time_at times f) t) (step_at steps s).outs)
  unfolding outdated output_missing
  older_told s t = rw (held_outs h s) (any_or (λ f. eqb (time_at times f) 0) (λ f. ltb (time_at times f) t) (step_at steps s).outs)

  missing_told : (s : ℕ) → outdated times 0 (outs_in mentions ends s) ≡ output_missing steps (time_at times) s
  missing_told s = older_told s 0 ∙ rw (any_never (λ f. ltb (time_at times f) 0) (step_at steps s).outs (λ f. le-ltb (time_at times f) 0 (omega arith))) (or_none_law (output_missing steps (time_at times) s))

  -- the verdict, case by case, from what is read of the step's inputs that count
  module _ (s : ℕ) {fs : List ℕ} (q : fs ≡ non_order_only_in mentions ends s) {t : ℕ} (p : t ≡ newest_of made phony times late fs) {m : Bool} (e : m ≡ stale_maker made stale fs) where
    newest : t ≡ newest_input steps (time_at times) (known stale late) s
    newest = p ∙ ap (newest_of made phony times late) q ∙ newest_told s

    maker : maker_stale steps (known stale late) s ≡ m
    maker = sym (e ∙ ap (stale_maker made stale) q ∙ maker_told s)

    told_by : {k : ℕ} → k ≡ bit (verdict steps (time_at times) (known stale late) s).stale → VerdictTold steps times stale late s (record { stale = k; time = t })
    unfolding verdict
    told_by w = record { told_stale = w; told_time = newest }

    pub judge_maker : m ≡ true → VerdictTold steps times stale late s (record { stale = 1; time = t })
    unfolding verdict stale_phony stale_command
    judge_maker w = told_by (split (phony_step steps s)
        (λ (z : phony_step steps s ≡ true). rw (z, maker, w))
        (λ (z : phony_step steps s ≡ false). rw (z, maker, w)))

    module _ (w : m ≡ false) {v : ℕ} (g : v ≡ get_or phony s 0) where
      is_phony_law : v ≡ 1 → phony_step steps s ≡ true
      is_phony_law z = sym (phony_test s) ∙ eq-eqb (get_or phony s 0) 1 (sym g ∙ z)

      is_command : (v ≡ 1 → ⊥) → phony_step steps s ≡ false
      is_command z = sym (phony_test s) ∙ ne_eqb (get_or phony s 0) 1 (λ y. z (g ∙ y))

      pub judge_phony : v ≡ 1 → {b : Bool} → b ≡ bare_missing mentions ends times s → {k : ℕ} → k ≡ bit b → VerdictTold steps times stale late s (record { stale = k; time = t })
      unfolding verdict stale_phony bare_missing
      judge_phony z {b} x y =
          let r : b ≡ (verdict steps (time_at times) (known stale late) s).stale = x ∙ rw (is_phony_law z, maker, w, held_inputs h s, missing_told s) in
          told_by (y ∙ ap bit r)

      pub judge_command : (v ≡ 1 → ⊥) → {o : List ℕ} → o ≡ outs_in mentions ends s → {b : Bool} → b ≡ outdated times t o → {k : ℕ} → k ≡ bit b → VerdictTold steps times stale late s (record { stale = k; time = t })
      unfolding verdict stale_command
      judge_command z u {b} x y =
          let r : b ≡ (verdict steps (time_at times) (known stale late) s).stale = x ∙ ap (outdated times t) u ∙ older_told s t ∙ rw (is_command z, maker, w, newest) in
          told_by (y ∙ ap bit r)

not_empty : (l : List ℕ) → 0 < length l → is_empty l ≡ false
not_empty [] b = absurd (omega arith)
not_empty (x ∷ l) b = refl

empty : (l : List ℕ) → length l ≤ 0 → is_empty l ≡ true
empty [] b = refl
empty (x ∷ l) b = absurd (omega arith)

module _ (mentions ends times : List ℕ) (s : ℕ) {fs : List ℕ} (q : fs ≡ inputs_in mentions ends s) where
  pub bare_not : 0 < length fs → false ≡ bare_missing mentions ends times s
  unfolding bare_missing
  bare_not b = rw (← q, not_empty fs b)

  pub bare_is : length fs ≤ 0 → {o : List ℕ} → o ≡ outs_in mentions ends s → {v : Bool} → v ≡ outdated times 0 o → v ≡ bare_missing mentions ends times s
  unfolding bare_missing
  bare_is b e p = p ∙ rw (e, ← q, empty fs b)
