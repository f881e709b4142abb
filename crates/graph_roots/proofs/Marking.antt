-- Files marked one after another, and the inputs of one step after another.
use Prim.Native.Nat.{ℕ, ◌+◌, ◌≤◌, ◌<◌}
use native.Mathlib.Numerals.{add-one}
use native.Mathlib.Decide.{dec_lt, ℕ_discrete}
use native.Mathlib.Omega.{arith}
use mathlib.Core.Path.{◌≡◌, refl, sym, ap, ◌∙◌}
use mathlib.Core.Logic.{inl, inr}
use mathlib.Core.List.{List, [], ◌∷◌}
use lib.ListN.{length, get_or, take, set, length-set}
use lib.Seq.{take-suc, take_all, get_or-set_same, get_or-set_other}
use Rattle.lists.specs.Fill.{length_zeros, get_or_zeros}
use Rattle.lists.specs.Members.{here, in_snoc, in_left, in_right, not_in_nil}
use Rattle.hold_columns.specs.Columns.{inputs_in}
use Rattle.graph_roots.specs.Tops.{MarkedToo, MarkAsked, InputsMarked}

-- the first i files are marked
pub record Marking (fs marks now : List ℕ) (i : ℕ) : Type 0 where
  pub within : i ≤ length fs
  pub state : MarkedToo (take i fs) marks now

pub mark_begin : {fs marks : List ℕ} → Marking fs marks marks 0
mark_begin = record {
  within = omega arith;
  state = record { long = refl; marks_all = λ f h. absurd (not_in_nil h); keeps = λ f h. h; only = λ f h. inl h };
}

-- the mark of f put in
set_mark : (now : List ℕ) (f g : ℕ) → f < length now → get_or now g 0 ≡ 1 → get_or (set now f 1) g 0 ≡ 1
set_mark now f g b h = elim (ℕ_discrete g f) [ yes e ↦ rw e (get_or-set_same now f 1 0 b) | no d ↦ get_or-set_other now f g 1 0 d ∙ h ]

module _ {fs marks now : List ℕ} {i : ℕ} (r : Marking fs marks now i) where
  pub mark_more : i < length fs → {f : ℕ} → f ≡ get_or fs i 0 → f < length marks → Marking fs marks (set now f 1) (i + 1)
  mark_more b {f} e low = record {
    within = omega arith;
    state = rw (add-one i, take-suc fs i 0 b, ← e) (record {
      long = simp length-set r.state.long;
      marks_all = λ g h. elim (in_snoc (take i fs) h) [
        | inl a ↦ set_mark now f g here_low (r.state.marks_all g a)
        | inr a ↦ rw a (get_or-set_same now f 1 0 here_low)
      ];
      keeps = λ g h. set_mark now f g here_low (r.state.keeps g h);
      only = λ g h. elim (ℕ_discrete g f) [
        | yes d ↦ inr (rw d (in_right (take i fs) (here refl)))
        | no d ↦ elim (r.state.only g (sym (get_or-set_other now f g 1 0 d) ∙ h)) [ inl a ↦ inl a | inr a ↦ inr (in_left (f ∷ []) a) ]
      ];
    });
  }
    where
      here_low : f < length now
      here_low = rw r.state.long low

  pub mark_end : length fs ≤ i → MarkedToo fs marks now
  mark_end b = rw (take_all i fs b) at r.state

-- the inputs of the first s steps are marked
pub record Inputs (mentions ends : List ℕ) (n files : ℕ) (now : List ℕ) (s : ℕ) : Type 0 where
  pub within : s ≤ n
  pub state : InputsMarked mentions ends s files now

pub inputs_begin : {mentions ends phony made marks : List ℕ} → MarkAsked mentions ends phony made marks → Inputs mentions ends (length phony) (length made) marks 0
inputs_begin {made} q = record {
  within = omega arith;
  state = record {
    long = ap length q.blank ∙ length_zeros (length made);
    marked = λ s f b. absurd (omega arith);
    only = λ f h. absurd (omega (arith, sym h ∙ ap (λ (l : List ℕ). get_or l f 0) q.blank ∙ get_or_zeros (length made) f));
  };
}

module _ {mentions ends : List ℕ} {n files : ℕ} {now : List ℕ} {s : ℕ} (r : Inputs mentions ends n files now s) where
  pub inputs_more : s < n → {fs exit : List ℕ} → fs ≡ inputs_in mentions ends s → MarkedToo fs now exit → Inputs mentions ends n files exit (s + 1)
  inputs_more b e m = record {
    within = omega arith;
    state = record {
      long = m.long ∙ r.state.long;
      marked = λ u f c h. elim (dec_lt u s) [
        | yes d ↦ m.keeps f (r.state.marked u f d h)
        | no d ↦ (let z : u ≡ s = omega arith in m.marks_all f (rw (e, ← z) h))
      ];
      only = λ f h. elim (m.only f h) [
        | inl a ↦ (let (u, c, k) = r.state.only f a in (u, omega arith, k))
        | inr a ↦ (s, omega arith, rw e at a)
      ];
    };
  }

  pub inputs_end : n ≤ s → InputsMarked mentions ends n files now
  inputs_end b = let e : s ≡ n = omega (arith, r.within) in rw e at r.state
