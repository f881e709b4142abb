-- Where each step's parts lie among the mentions.
use Prim.Native.Nat.{ℕ, zero, suc, ◌+◌, ◌*◌, ◌-◌, ◌≤◌, ◌<◌}
use native.Mathlib.Nat.{not-suc-le-zero, le_of_suc-le-suc}
use native.Mathlib.Omega.{arith}
use mathlib.Core.Path.{◌≡◌, refl, sym}
use mathlib.Core.List.{List, [], ◌∷◌, ◌++◌, map, append_assoc}
use lib.ListN.{length, get_or, length-append}
use lib.Seq.{take-append_seam, drop-append_seam}
use Rattle.lists.specs.Parts.{part}
use Rattle.spec.specs.Basics.{concat}
use Rattle.spec.specs.Reading.{Step}
use Rattle.spec.specs.Graph.{inputs, non_order_only, step_at}
use Rattle.hold_columns.specs.Columns.{mentions_of, per_step, outs_end, ins_end, implicit_end, order_only_end, last_end, end_place, end_at, step_ends_from, step_start, outs_in, ins_in, non_order_only_in, inputs_in, PartsPlaced}

pub start_zero : (ends : List ℕ) (s : ℕ) → s ≡ 0 → 0 ≡ step_start ends s
unfolding step_start
start_zero ends s e = rw e

pub start_suc : (ends : List ℕ) (s : ℕ) → (s ≡ 0 → ⊥) → end_at ends (s - 1) last_end ≡ step_start ends s
unfolding step_start
start_suc ends zero d = absurd (d refl)
start_suc ends (suc s) d = let e : suc s - 1 ≡ s = omega arith in rw e

-- a part between two others
pub part_mid : (a b c : List ℕ) (f e : ℕ) → f ≡ length a → e ≡ length a + length b → part (a ++ (b ++ c)) f e ≡ b
part_mid a b c f e p q =
    let d : length a + length b - length a ≡ length b = omega arith in
    rw (p, q, d, drop-append_seam a (b ++ c)) (take-append_seam b c)

-- the ends of one step further on
skip_step : (a b c d : ℕ) (r : List ℕ) (i j : ℕ) → i ≡ per_step + j → get_or (a ∷ b ∷ c ∷ d ∷ r) i 0 ≡ get_or r j 0
skip_step a b c d r i j e = let q : i ≡ suc (suc (suc (suc j))) = omega arith in rw q

-- where the files of step x end, that start at k
after : ℕ → Step → ℕ
after k x = k + length x.outs + length x.ins + length x.implicit + length x.order_only

pub length_ends : (k : ℕ) (steps : List Step) → length (step_ends_from k steps) ≡ per_step * length steps
unfolding step_ends_from after
length_ends k [] = refl
length_ends k (x ∷ l) = omega (arith, length_ends (after k x) l)

-- the end of number j of step s
abbrev end_of : ℕ → List Step → ℕ → ℕ → ℕ
end_of k steps s j = end_at (step_ends_from k steps) s j

end_next : (k : ℕ) (x : Step) (l : List Step) (s j : ℕ) → end_of k (x ∷ l) (suc s) j ≡ end_of (after k x) l s j
unfolding step_ends_from after
end_next k x l s j =
    skip_step (k + length x.outs) (k + length x.outs + length x.ins) (k + length x.outs + length x.ins + length x.implicit)
    (after k x) (step_ends_from (after k x) l) (end_place (suc s) j) (end_place s j) (omega arith)

length_after : (pre : List ℕ) (x : Step) → length (pre ++ mentions_of x) ≡ after (length pre) x
unfolding mentions_of after
length_after pre x =
    simp length-append (omega arith)

module _ (pre : List ℕ) (x : Step) (rest : List ℕ) where
  first_outs : part (pre ++ (mentions_of x ++ rest)) (length pre) (length pre + length x.outs) ≡ x.outs
  unfolding mentions_of
  first_outs = rw (append_assoc x.outs (inputs x) rest)
      (part_mid pre x.outs (inputs x ++ rest) (length pre) (length pre + length x.outs) refl refl)

  first_inputs : part (pre ++ (mentions_of x ++ rest)) (length pre + length x.outs) (after (length pre) x) ≡ inputs x
  unfolding mentions_of inputs after
  first_inputs = rw (append_assoc x.outs (inputs x) rest, ← append_assoc pre x.outs (inputs x ++ rest))
      (part_mid (pre ++ x.outs) (inputs x) rest (length pre + length x.outs) (after (length pre) x)
      (sym (length-append pre x.outs)) (simp length-append (omega arith)))

  first_non_order_only : part (pre ++ (mentions_of x ++ rest)) (length pre + length x.outs) (length pre + length x.outs + length x.ins + length x.implicit) ≡ non_order_only x
  unfolding mentions_of inputs non_order_only
  first_non_order_only =
      rw (append_assoc x.outs (inputs x) rest, ← append_assoc pre x.outs (inputs x ++ rest), ← append_assoc x.ins x.implicit x.order_only, append_assoc (x.ins ++ x.implicit) x.order_only rest)
      (part_mid (pre ++ x.outs) (x.ins ++ x.implicit) (x.order_only ++ rest) (length pre + length x.outs) (length pre + length x.outs + length x.ins + length x.implicit)
      (sym (length-append pre x.outs)) (simp length-append (omega arith)))

-- the mentions of step x, moved to what lies before the others'
moved : (pre : List ℕ) (x : Step) (l : List Step) → (pre ++ mentions_of x) ++ concat (map mentions_of l) ≡ pre ++ concat (map mentions_of (x ∷ l))
unfolding concat
moved pre x l = append_assoc pre (mentions_of x) (concat (map mentions_of l))

-- each part, with what lies before the first step's mentions

inputs_at : (pre : List ℕ) (steps : List Step) (s : ℕ)
    → part (pre ++ concat (map mentions_of steps)) (end_of (length pre) steps s outs_end) (end_of (length pre) steps s order_only_end) ≡ inputs (step_at steps s)
unfolding step_ends_from concat inputs after
inputs_at pre [] s = refl
inputs_at pre (x ∷ l) zero = first_inputs pre x (concat (map mentions_of l))
inputs_at pre (x ∷ l) (suc s) =
    rw (end_next (length pre) x l s outs_end, end_next (length pre) x l s order_only_end, ← moved pre x l, ← length_after pre x) (inputs_at (pre ++ mentions_of x) l s)

non_order_only_at : (pre : List ℕ) (steps : List Step) (s : ℕ)
    → part (pre ++ concat (map mentions_of steps)) (end_of (length pre) steps s outs_end) (end_of (length pre) steps s implicit_end) ≡ non_order_only (step_at steps s)
unfolding step_ends_from concat non_order_only
non_order_only_at pre [] s = refl
non_order_only_at pre (x ∷ l) zero = first_non_order_only pre x (concat (map mentions_of l))
non_order_only_at pre (x ∷ l) (suc s) =
    rw (end_next (length pre) x l s outs_end, end_next (length pre) x l s implicit_end, ← moved pre x l, ← length_after pre x) (non_order_only_at (pre ++ mentions_of x) l s)

-- where step s starts, the first at k
start_from : ℕ → List Step → ℕ → ℕ
start_from k steps zero = k
start_from k steps (suc s) = end_of k steps s last_end

start_next : (k : ℕ) (x : Step) (l : List Step) (s : ℕ) → start_from k (x ∷ l) (suc s) ≡ start_from (after k x) l s
unfolding start_from step_ends_from after
start_next k x l zero = refl
start_next k x l (suc s) = end_next k x l s last_end

outs_at : (pre : List ℕ) (steps : List Step) (s : ℕ)
    → part (pre ++ concat (map mentions_of steps)) (start_from (length pre) steps s) (end_of (length pre) steps s outs_end) ≡ (step_at steps s).outs
unfolding step_ends_from concat start_from
outs_at pre [] s = let e : 0 - start_from (length pre) [] s ≡ 0 = omega arith in rw e
outs_at pre (x ∷ l) zero = first_outs pre x (concat (map mentions_of l))
outs_at pre (x ∷ l) (suc s) =
    rw (start_next (length pre) x l s, end_next (length pre) x l s outs_end, ← moved pre x l, ← length_after pre x) (outs_at (pre ++ mentions_of x) l s)

-- the parts of a step follow one another
record Ordered (k : ℕ) (steps : List Step) (s : ℕ) : Type 0 where
  within : end_place s last_end < length (step_ends_from k steps)
  outs : start_from k steps s ≤ end_of k steps s outs_end
  counted : end_of k steps s outs_end ≤ end_of k steps s implicit_end
  inputs : end_of k steps s implicit_end ≤ end_of k steps s order_only_end
  mentioned : end_of k steps s last_end ≤ k + length (concat (map mentions_of steps))

ordered : (k : ℕ) (steps : List Step) (s : ℕ) → s < length steps → Ordered k steps s
unfolding step_ends_from concat mentions_of start_from after
ordered k [] s b = absurd (not-suc-le-zero b)
ordered k (x ∷ l) zero b = record {
  within = omega arith;
  outs = omega arith;
  counted = omega arith;
  inputs = omega arith;
  mentioned = simp length-append (omega arith);
}
ordered k (x ∷ l) (suc s) b =
    let r = ordered (after k x) l s (le_of_suc-le-suc b) in
    record {
      within = omega (arith, r.within);
      outs = rw (start_next k x l s, end_next k x l s outs_end) r.outs;
      counted = rw (end_next k x l s outs_end, end_next k x l s implicit_end) r.counted;
      inputs = rw (end_next k x l s implicit_end, end_next k x l s order_only_end) r.inputs;
      mentioned = rw (end_next k x l s last_end) (simp length-append (omega (arith, r.mentioned)));
    }

-- the parts as they are read from the columns

module _ (steps : List Step) where
  pub read_inputs : (s : ℕ) → inputs_in (concat (map mentions_of steps)) (step_ends_from 0 steps) s ≡ inputs (step_at steps s)
  unfolding inputs_in
  read_inputs s = inputs_at [] steps s

  pub read_non_order_only : (s : ℕ) → non_order_only_in (concat (map mentions_of steps)) (step_ends_from 0 steps) s ≡ non_order_only (step_at steps s)
  unfolding non_order_only_in
  read_non_order_only s = non_order_only_at [] steps s

  start_same : (s : ℕ) → start_from 0 steps s ≡ step_start (step_ends_from 0 steps) s
  unfolding start_from step_start
  start_same zero = refl
  start_same (suc s) = refl

  pub read_outs : (s : ℕ) → outs_in (concat (map mentions_of steps)) (step_ends_from 0 steps) s ≡ (step_at steps s).outs
  unfolding outs_in
  read_outs s = rw (← start_same s) (outs_at [] steps s)

  pub read_placed : (s : ℕ) → s < length steps → PartsPlaced (concat (map mentions_of steps)) (step_ends_from 0 steps) s
  read_placed s b =
      let r = ordered 0 steps s b in
      record {
        within = r.within;
        outs = rw (← start_same s) r.outs;
        counted = r.counted;
        inputs = r.inputs;
        mentioned = omega (arith, r.mentioned);
      }

-- ---- the explicit inputs alone

first_ins : (pre : List ℕ) (x : Step) (rest : List ℕ) → part (pre ++ (mentions_of x ++ rest)) (length pre + length x.outs) (length pre + length x.outs + length x.ins) ≡ x.ins
unfolding mentions_of inputs
first_ins pre x rest =
    rw (append_assoc x.outs (inputs x) rest, ← append_assoc pre x.outs (inputs x ++ rest), append_assoc x.ins (x.implicit ++ x.order_only) rest)
    (part_mid (pre ++ x.outs) x.ins ((x.implicit ++ x.order_only) ++ rest) (length pre + length x.outs) (length pre + length x.outs + length x.ins)
    (sym (length-append pre x.outs)) (simp length-append (omega arith)))

ins_at : (pre : List ℕ) (steps : List Step) (s : ℕ) → part (pre ++ concat (map mentions_of steps)) (end_of (length pre) steps s outs_end) (end_of (length pre) steps s ins_end) ≡ (step_at steps s).ins
unfolding step_ends_from concat
ins_at pre [] s = refl
ins_at pre (x ∷ l) zero = first_ins pre x (concat (map mentions_of l))
ins_at pre (x ∷ l) (suc s) =
    rw (end_next (length pre) x l s outs_end, end_next (length pre) x l s ins_end, ← moved pre x l, ← length_after pre x) (ins_at (pre ++ mentions_of x) l s)

ins_ordered : (k : ℕ) (steps : List Step) (s : ℕ) → s < length steps → (end_of k steps s outs_end ≤ end_of k steps s ins_end) × (end_of k steps s ins_end ≤ end_of k steps s implicit_end)
unfolding step_ends_from after
ins_ordered k [] s b = absurd (not-suc-le-zero b)
ins_ordered k (x ∷ l) zero b = (omega arith, omega arith)
ins_ordered k (x ∷ l) (suc s) b = rw (end_next k x l s outs_end, end_next k x l s ins_end, end_next k x l s implicit_end) (ins_ordered (after k x) l s (le_of_suc-le-suc b))

module _ (steps : List Step) where
  pub read_ins : (s : ℕ) → ins_in (concat (map mentions_of steps)) (step_ends_from 0 steps) s ≡ (step_at steps s).ins
  unfolding ins_in
  read_ins s = ins_at [] steps s

  pub read_ins_placed : (s : ℕ) → s < length steps
      → (end_at (step_ends_from 0 steps) s outs_end ≤ end_at (step_ends_from 0 steps) s ins_end) × (end_at (step_ends_from 0 steps) s ins_end ≤ end_at (step_ends_from 0 steps) s implicit_end)
  read_ins_placed s b = ins_ordered 0 steps s b
