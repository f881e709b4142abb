-- `build OUTS: RULE INS | IMPLICIT || ORDERONLY` at places of a line.
use Prim.Native.Nat.{ℕ, ◌+◌, ◌≤◌, ◌<◌}
use mathlib.Core.Bool.{Bool, true, false}
use mathlib.Core.List.{List, [], ◌∷◌}
use mathlib.Core.Path.{◌≡◌, refl, sym, ◌∙◌}
use native.Mathlib.Nat.{le_refl}
use native.Mathlib.Omega.{arith}
use borrow.Author.Tests.{ne_eqb, not-true, not-false}
use lib.Dec.{eqb}
use lib.ListN.{length, drop, get_or}
use Rattle.lists.specs.Tests.{if_b, split}
use Rattle.lists.specs.Parts.{part}
use Rattle.lists.specs.Runs.{Reads}
use Rattle.spec.specs.Basics.{is_empty}
use Rattle.spec.specs.Bytes.{colon, bar}
use Rattle.spec.specs.Lines.{starts_with}
use Rattle.spec.specs.Forms.{Cut, fits, fails, no_form, then, gap, name_of, rule_word, Paths, paths_up, paths, Form, BuildLine, count_bars, paths_behind, cut_inputs, after_outputs, cut_build}
use Rattle.cut_forms.specs.Inputs.{line_end, one_bar, two_bars, other_byte, bars_at, with_inputs, cut_order_only, after_implicit, after_inputs}
use Rattle.scan_tokens.proofs.Places.{at_cons, at_end}
use Rattle.cut_forms.specs.declared.Fault.{Fault}
use Rattle.cut_forms.specs.declared.Head.{Head}
use Rattle.cut_forms.specs.Faults.{Fails}
use Rattle.cut_forms.specs.Paths.{PathsAt, ListEnds}
use Rattle.cut_forms.specs.Statements.{NameEnds, BarEnds, HeadAt, BuildAt}
use Rattle.cut_forms.proofs.Faults.{fails_then}
use Rattle.cut_forms.proofs.Walks.{paths_of_law}

-- ---- bars

other_byte_law : (b : ℕ) (s : List ℕ) → eqb b bar ≡ false → bars_at (b ∷ s) ≡ other_byte
unfolding bars_at
other_byte_law b [] e = rw e
other_byte_law b (c ∷ s) e = rw e

pub bars_end : (l : List ℕ) (at : ℕ) → length l ≤ at → bars_at (drop at l) ≡ line_end
unfolding bars_at
bars_end l at h = rw (at_end l at h)

module _ (l : List ℕ) (at : ℕ) (h : at < length l) where
  pub bars_other : (get_or l at 0 ≡ bar → ⊥) → bars_at (drop at l) ≡ other_byte
  bars_other e = rw (at_cons l at h) (other_byte_law _ _ (ne_eqb (get_or l at 0) bar e))

  module _ (e : get_or l at 0 ≡ bar) where
    pub bars_last : length l ≤ at + 1 → BarEnds l (at + 1) (bars_at (drop at l)) (one_bar (drop (at + 1) l))
    unfolding bars_at
    bars_last k = record { within = omega arith; cut = rw (at_cons l at h, e, at_end l (at + 1) k) }

    module _ (k : at + 1 < length l) where
      pub bars_two : get_or l (at + 1) 0 ≡ bar → BarEnds l (at + 1 + 1) (bars_at (drop at l)) (two_bars (drop (at + 1 + 1) l))
      unfolding bars_at
      bars_two d = record { within = omega arith; cut = rw (at_cons l at h, e, at_cons l (at + 1) k, d) }

      pub bars_one : (get_or l (at + 1) 0 ≡ bar → ⊥) → BarEnds l (at + 1) (bars_at (drop at l)) (one_bar (drop (at + 1) l))
      unfolding bars_at
      bars_one d = record { within = omega arith; cut = rw (at_cons l at h, e, at_cons l (at + 1) k, ne_eqb (get_or l (at + 1) 0) bar d) }

-- ---- the inputs

-- A list that is not there starts at the line's end.
pub no_paths_law : (l : List ℕ) → PathsAt l (length l) []
unfolding paths paths_up
no_paths_law l = record { within = le_refl (length l); rest = []; cut = rw (at_end l (length l) (le_refl (length l))) }

module _ {l : List ℕ} {h : Head} {b : BuildLine} {i : List (List ℕ)} (k : HeadAt l h b i) where
  pub inputs_at : {x : Cut Form} {p q : ℕ} {m o : List (List ℕ)} → x ≡ with_inputs b i m o → PathsAt l p m → PathsAt l q o
      → BuildAt l x (record { outs = h.outs; rule = h.rule; ins = h.ins; implicit = p; order = q })
  unfolding with_inputs
  inputs_at {m = m} {o = o} e pm po =
      record {
        line = record { outs = b.outs; rule = b.rule; ins = i; implicit = m; order_only = o };
        stands =
            record {
              ordered = k.ordered;
              rule = k.rule;
              outs = k.outs;
              ins = k.inputs;
              implicit = pm;
              order_only = po;
            };
        cut = e;
      }

-- ---- the lists behind bars, as they are met

-- the inputs behind the explicit ones, as the rules say them
abbrev behind_bars : BuildLine → List (List ℕ) → List ℕ → Cut Form
behind_bars b i s =
    then (paths_behind 1 s) λ m. then (paths_behind 2 m.rest) λ o. if_b (is_empty o.rest) (λ _. with_inputs b i m.raw o.raw) (λ _. fails no_form)

then_same : (c : Cut Paths) (f g : Paths → Cut Form) → ((p : Paths) → f p ≡ g p) → then c f ≡ then c g
unfolding then
then_same (fits p) f g h = h p
then_same (fails e) f g h = refl

module _ (b : BuildLine) (i : List (List ℕ)) where
  order_behind : (m : List (List ℕ)) (s : List ℕ)
      → (then (paths_behind 2 s) λ o. if_b (is_empty o.rest) (λ _. with_inputs b i m o.raw) (λ _. fails no_form)) ≡ after_implicit b i m (bars_at s)
  unfolding paths_behind after_implicit bars_at starts_with
  order_behind m [] = refl
  order_behind m (x ∷ []) = split (eqb x bar) (λ (e : eqb x bar ≡ true). rw e) (λ (e : eqb x bar ≡ false). rw e)
  order_behind m (x ∷ y ∷ s) =
      split (eqb x bar)
      (λ (e : eqb x bar ≡ true). split (eqb y bar) (λ (d : eqb y bar ≡ true). rw (e, d)) (λ (d : eqb y bar ≡ false). rw (e, d)))
      (λ (e : eqb x bar ≡ false). rw e)

  -- what follows bars in a list of inputs
  abbrev orders : Paths → Cut Form
  orders m = then (paths_behind 2 m.rest) λ o. if_b (is_empty o.rest) (λ _. with_inputs b i m.raw o.raw) (λ _. fails no_form)

  implicit_same : (s : List ℕ) → then (paths s) orders ≡ after_inputs b i (one_bar s)
  unfolding after_inputs
  implicit_same s = then_same (paths s) orders (λ m. after_implicit b i m.raw (bars_at m.rest)) (λ m. order_behind m.raw m.rest)

  none_implicit : (s : List ℕ) → eqb (count_bars s) 1 ≡ false → behind_bars b i s ≡ orders (record { raw = []; rest = s })
  unfolding paths_behind
  none_implicit s h = rw h

  inputs_behind : (s : List ℕ) → behind_bars b i s ≡ after_inputs b i (bars_at s)
  unfolding paths_behind count_bars bars_at starts_with after_inputs after_implicit
  inputs_behind [] = none_implicit [] refl ∙ order_behind [] []
  inputs_behind (x ∷ []) =
      split (eqb x bar)
      (λ (e : eqb x bar ≡ true). rw e (implicit_same []))
      (λ (e : eqb x bar ≡ false). none_implicit (x ∷ []) (rw e) ∙ order_behind [] (x ∷ []) ∙ rw e)
  inputs_behind (x ∷ y ∷ s) =
      split (eqb x bar)
      (λ (e : eqb x bar ≡ true).
      split (eqb y bar)
      (λ (d : eqb y bar ≡ true). none_implicit (x ∷ y ∷ s) (rw (e, d)) ∙ order_behind [] (x ∷ y ∷ s) ∙ rw (e, d))
      (λ (d : eqb y bar ≡ false). rw (e, d) (implicit_same (y ∷ s))))
      (λ (e : eqb x bar ≡ false). none_implicit (x ∷ y ∷ s) (rw e) ∙ order_behind [] (x ∷ y ∷ s) ∙ rw e)

-- ---- the order-only inputs

module _ (b : BuildLine) (i m : List (List ℕ)) where
  pub order_wrong : (s : List ℕ) {l : List ℕ} {f : Fault} → Fails l (paths s) f → Fails l (cut_order_only b i m s) f
  unfolding cut_order_only
  order_wrong s e = fails_then _ e

  module _ {l : List ℕ} {at end : ℕ} {any : Bool} (w : ListEnds l at end any) where
    pub order_more : end < length l → cut_order_only b i m (drop at l) ≡ fails no_form
    unfolding cut_order_only
    order_more h = rw (w.cut, at_cons l end h)

    pub order_ends : length l ≤ end → cut_order_only b i m (drop at l) ≡ with_inputs b i m w.raw
    unfolding cut_order_only
    order_ends h = rw (w.cut, at_end l end h)

-- ---- the implicit inputs

module _ (b : BuildLine) (i : List (List ℕ)) where
  pub implicit_wrong : (s : List ℕ) {l : List ℕ} {f : Fault} → Fails l (paths s) f → Fails l (after_inputs b i (one_bar s)) f
  unfolding after_inputs
  implicit_wrong s e = fails_then _ e

  pub implicit_are : {l : List ℕ} {at end : ℕ} {any : Bool} (w : ListEnds l at end any)
      → after_inputs b i (one_bar (drop at l)) ≡ after_implicit b i w.raw (bars_at (drop end l))
  unfolding after_inputs
  implicit_are w = rw w.cut

-- ---- the rule and the explicit inputs

-- the line before its inputs are read
abbrev pub head_of : List (List ℕ) → List ℕ → BuildLine
head_of outs w = record { outs = outs; rule = w; ins = []; implicit = []; order_only = [] }

module _ (outs : List (List ℕ)) where
  pub name_wrong : (s : List ℕ) {l : List ℕ} {f : Fault} → Fails l (rule_word (name_of s)) f → Fails l (cut_inputs outs s) f
  unfolding cut_inputs
  name_wrong s e = fails_then _ e

  module _ {l : List ℕ} {from to : ℕ} (n : NameEnds l from to (rule_word (name_of (drop from l)))) where
    inputs_from : cut_inputs outs (drop from l) ≡ then (paths (drop to l)) (λ i. after_inputs (head_of outs (part l from to)) i.raw (bars_at i.rest))
    unfolding cut_inputs with_inputs
    inputs_from =
        rw (n.cut, ← n.reads.rest)
        (then_same (paths (drop to l)) (λ i. behind_bars (head_of outs (part l from to)) i.raw i.rest)
        (λ i. after_inputs (head_of outs (part l from to)) i.raw (bars_at i.rest))
        (λ i. inputs_behind (head_of outs (part l from to)) i.raw i.rest))

    pub inputs_wrong : {f : Fault} → Fails l (paths (drop to l)) f → Fails l (cut_inputs outs (drop from l)) f
    inputs_wrong e = rw inputs_from (fails_then _ e)

    module _ {end : ℕ} {any : Bool} (w : ListEnds l to end any) where
      pub inputs_are : cut_inputs outs (drop from l) ≡ after_inputs (head_of outs (part l from to)) w.raw (bars_at (drop end l))
      unfolding then
      inputs_are = inputs_from ∙ rw w.cut

      pub head_at : {at : ℕ} → PathsAt l at outs → HeadAt l (record { outs = at; rule = from; ins = to }) (head_of outs (part l from to)) w.raw
      head_at p = record { ordered = n.reads.forward; rule = refl; outs = p; inputs = paths_of_law w }

-- ---- the outputs

pub outputs_wrong : (s : List ℕ) {l : List ℕ} {f : Fault} → Fails l (paths s) f → Fails l (cut_build s) f
unfolding cut_build
outputs_wrong s e = fails_then _ e

module _ {l : List ℕ} {at end : ℕ} {any : Bool} (w : ListEnds l at end any) where
  outputs_are : cut_build (drop at l) ≡ after_outputs w.raw (drop end l)
  unfolding cut_build
  outputs_are = rw w.cut

  pub outputs_end : length l ≤ end → cut_build (drop at l) ≡ fails no_form
  unfolding after_outputs
  outputs_end h = outputs_are ∙ rw (at_end l end h)

  module _ (h : end < length l) where
    pub outputs_other : (get_or l end 0 ≡ colon → ⊥) → cut_build (drop at l) ≡ fails no_form
    unfolding after_outputs
    outputs_other e = outputs_are ∙ rw (at_cons l end h, ne_eqb (get_or l end 0) colon e)

    module _ (e : get_or l end 0 ≡ colon) where
      pub outputs_none : any ≡ false → cut_build (drop at l) ≡ fails no_form
      unfolding after_outputs
      outputs_none n = outputs_are ∙ rw (at_cons l end h, e, not-false (is_empty w.raw) (sym w.some ∙ n))

      pub outputs_some : {from : ℕ} → any ≡ true → Reads gap l (end + 1) from → cut_build (drop at l) ≡ cut_inputs w.raw (drop from l)
      unfolding after_outputs
      outputs_some n g = outputs_are ∙ rw (at_cons l end h, e, not-true (is_empty w.raw) (sym w.some ∙ n), g.rest)
