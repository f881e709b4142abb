-- What the columns give for the steps that they hold.
use Prim.Native.Nat.{ℕ, zero, suc, ◌-◌, ◌≤◌, ◌<◌}
use native.Mathlib.Decide.{dec_lt}
use native.Mathlib.Omega.{arith}
use mathlib.Core.Path.{◌≡◌, refl, sym, ap, ◌∙◌, fun_ext}
use mathlib.Core.List.{List, [], ◌∷◌, map}
use lib.ListN.{length, get_or, drop, length-take, length-drop, length-map, get_or-map, get_or-eq_default}
use Rattle.lists.specs.Members.{◌∈◌, here, in_at, in_take, in_drop, in_left, in_right, not_in_nil}
use Rattle.lists.specs.Parts.{part}
use Rattle.orders.specs.Reach.{Closed}
use Rattle.spec.specs.Basics.{concat}
use Rattle.spec.specs.Limits.{max_mentions}
use Rattle.spec.specs.Reading.{Step, is_phony}
use Rattle.spec.specs.Graph.{inputs, non_order_only, no_step, step_at, makers, makers_of, before, needed}
use Rattle.spec.specs.Stale.{phony_step}
use Rattle.spec.proofs.Graph.{in_makers}
use Rattle.hold_columns.specs.Columns.{bit, mentions_of, outs_end, implicit_end, order_only_end, end_at, made_by, HoldsColumns, step_start, outs_in, non_order_only_in, inputs_in, maker_in, makers_in, before_in, needed_in, SoundColumns, FilesMade}
use Rattle.hold_columns.proofs.Makers.{makers_small}
use Rattle.hold_columns.proofs.Places.{read_inputs, read_non_order_only, read_outs, read_placed}

pub in_part : (l : List ℕ) (f e : ℕ) {x : ℕ} → x ∈ part l f e → x ∈ l
in_part l f e h = in_drop f l (in_take (e - f) (drop f l) h)

-- a part of the mentions holds files
pub part_low : {mentions : List ℕ} {n : ℕ} → ((f : ℕ) → f ∈ mentions → f < n) → (f e i : ℕ) → i < length (part mentions f e) → get_or (part mentions f e) i 0 < n
part_low {mentions} low f e i b = low (get_or (part mentions f e) i 0) (in_part mentions f e (in_at (part mentions f e) i b))

pub inputs_low : {mentions : List ℕ} {n : ℕ} → ((f : ℕ) → f ∈ mentions → f < n) → (ends : List ℕ) (s : ℕ) {fs : List ℕ} → fs ≡ inputs_in mentions ends s
    → (i : ℕ) → i < length fs → get_or fs i 0 < n
unfolding inputs_in
inputs_low low ends s q i b = rw q (part_low low (end_at ends s outs_end) (end_at ends s order_only_end) i (rw q at b))

pub non_order_only_low : {mentions : List ℕ} {n : ℕ} → ((f : ℕ) → f ∈ mentions → f < n) → (ends : List ℕ) (s : ℕ) {fs : List ℕ} → fs ≡ non_order_only_in mentions ends s
    → (i : ℕ) → i < length fs → get_or fs i 0 < n
unfolding non_order_only_in
non_order_only_low low ends s q i b = rw q (part_low low (end_at ends s outs_end) (end_at ends s implicit_end) i (rw q at b))

pub outs_low : {mentions : List ℕ} {n : ℕ} → ((f : ℕ) → f ∈ mentions → f < n) → (ends : List ℕ) (s : ℕ) {fs : List ℕ} → fs ≡ outs_in mentions ends s
    → (i : ℕ) → i < length fs → get_or fs i 0 < n
unfolding outs_in
outs_low low ends s q i b = rw q (part_low low (step_start ends s) (end_at ends s outs_end) i (rw q at b))

-- and their makers are steps
pub part_files : {n : ℕ} {mentions ends made : List ℕ} → SoundColumns n mentions ends made → (f e : ℕ) → FilesMade n (part mentions f e) made
part_files r f e = record { low = part_low r.low f e; makers = r.makers }

pub before_small : {n : ℕ} {mentions ends made : List ℕ} → SoundColumns n mentions ends made → Closed (before_in mentions ends made) (λ s. s < n)
unfolding before_in inputs_in
before_small {ends} r s b m h = makers_small (part_files r (end_at ends s outs_end) (end_at ends s order_only_end)) m h

pub part_few : {n : ℕ} {mentions ends made : List ℕ} → SoundColumns n mentions ends made → (f e : ℕ) → length (part mentions f e) ≤ max_mentions
part_few {mentions} r f e = simp (length-take, length-drop) (omega (arith, r.few_mentions))

-- an output of a step is among the mentions
mentioned_out : (steps : List Step) (m f : ℕ) → m < length steps → f ∈ (step_at steps m).outs → f ∈ concat (map mentions_of steps)
unfolding concat mentions_of
mentioned_out [] m f b h = absurd (not_in_nil h)
mentioned_out (x ∷ l) zero f b h = in_left (concat (map mentions_of l)) (in_left (inputs x) h)
mentioned_out (x ∷ l) (suc m) f b h = in_right (mentions_of x) (mentioned_out l m f (omega arith) h)

-- a list that holds nothing
none_in : (l : List ℕ) → ((x : ℕ) → x ∈ l → ⊥) → l ≡ []
none_in [] f = refl
none_in (y ∷ l) f = absurd (f y (here refl))

-- an entry of the makers' column names a step
entry_low : (n k : ℕ) → ((m : ℕ) → m ∈ made_by k → m < n) → k ≤ n
unfolding made_by
entry_low n zero g = omega arith
entry_low n (suc m) g = g m (here refl)

module _ {steps : List Step} {files : ℕ} {mentions ends phony made : List ℕ} (h : HoldsColumns steps files mentions ends phony made) where
  pub held_inputs : (s : ℕ) → inputs_in mentions ends s ≡ inputs (step_at steps s)
  held_inputs s = rw (h.mentioned, h.ended) (read_inputs steps s)

  pub held_non_order_only : (s : ℕ) → non_order_only_in mentions ends s ≡ non_order_only (step_at steps s)
  held_non_order_only s = rw (h.mentioned, h.ended) (read_non_order_only steps s)

  pub held_outs : (s : ℕ) → outs_in mentions ends s ≡ (step_at steps s).outs
  held_outs s = rw (h.mentioned, h.ended) (read_outs steps s)

  pub held_steps : length phony ≡ length steps
  held_steps = rw h.phonies (length-map steps (λ (s : Step). bit (is_phony s.rule)))

  pub held_phony : (s : ℕ) → get_or phony s 0 ≡ bit (phony_step steps s)
  unfolding phony_step is_phony
  held_phony s = rw h.phonies (get_or-map (λ (s : Step). bit (is_phony s.rule)) steps s no_step)

  held_maker : (f : ℕ) → maker_in made f ≡ makers steps f
  unfolding maker_in made_by
  held_maker f = elim (dec_lt f files) [
    | yes b ↦ sym (h.makes f b)
    | no b ↦
        rw (get_or-eq_default made 0 {n = f} (omega (arith, h.counted)))
        (sym (none_in (makers steps f) (λ m k. let w = (in_makers steps f).0 k in b (h.low f (rw h.mentioned (mentioned_out steps m f w.step w.output))))))
  ]

  pub held_makers : maker_in made ≡ makers steps
  held_makers = fun_ext held_maker

  pub held_makers_of : (fs : List ℕ) → makers_in made fs ≡ makers_of steps fs
  unfolding makers_in makers_of
  held_makers_of fs = ap (λ (g : ℕ → List ℕ). concat (map g fs)) held_makers

  pub held_before : before_in mentions ends made ≡ before steps
  unfolding before_in before
  held_before = fun_ext (λ s. ap (makers_in made) (held_inputs s) ∙ held_makers_of (inputs (step_at steps s)))

  pub held_needed : (roots : List ℕ) → needed_in mentions ends made (length steps) roots ≡ needed steps roots
  unfolding needed_in needed
  held_needed roots = rw (held_before, held_makers_of roots)

  pub held_sound : SoundColumns (length steps) mentions ends made
  held_sound = record {
    placed = λ s b. rw (h.mentioned, h.ended) (read_placed steps s b);
    low = λ f k. rw h.counted (h.low f k);
    makers = λ f b. maker_low f (rw h.counted at b);
    few_steps = h.few_steps;
    few_files = rw h.counted h.few_files;
    few_mentions = h.few_mentions;
  }
    where
      maker_low : (f : ℕ) → f < files → get_or made f 0 ≤ length steps
      maker_low f b = entry_low (length steps) (get_or made f 0) (λ m k. ((in_makers steps f).0 (rw (h.makes f b) k)).step)
