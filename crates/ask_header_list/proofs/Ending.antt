-- A step's ends and its number behind those of the steps before it.
use Prim.Native.Nat.{ℕ, ◌+◌, ◌-◌}
use mathlib.Core.List.{List, [], ◌∷◌, ◌++◌}
use mathlib.Core.Path.{◌≡◌, refl, sym, ◌∙◌, ap, subst}
use native.Mathlib.Omega.{arith}
use lib.ListN.{length, set, length-append}
use Rattle.lists.specs.Parts.{part}
use Rattle.hold_columns.specs.Columns.{outs_end, ins_end, implicit_end, order_only_end, end_place}
use Rattle.hold_reading.specs.declared.Counts.{Counts}
use Rattle.hold_reading.specs.Held.{ends_start, rule_start}
use Rattle.apply_files.specs.Lines.{Columns}
use Rattle.apply_files.proofs.Columns.{push_end, push_rule}
use Rattle.ask_header_list.specs.declared.StepPlaces.{StepPlaces}
use Rattle.ask_header_list.specs.declared.StepEnds.{StepEnds}
use Rattle.ask_header_list.specs.Copies.{counted_copies, CopyAsks, Copies, ended_in, EndAsks, ends_of, moved_ends, CloseAsks, Closes}

-- four entries more, one after another
four_more : (e : List ℕ) (a b c d : ℕ) → (((e ++ (a ∷ [])) ++ (b ∷ [])) ++ (c ∷ [])) ++ (d ∷ []) ≡ e ++ (a ∷ b ∷ c ∷ d ∷ [])
four_more [] a b c d = refl
four_more (x ∷ e) a b c d = ap (λ (r : List ℕ). x ∷ r) (four_more e a b c d)

pub ends_put : {second m e o d u f : List ℕ} {s : ℕ} (x : StepEnds) {n : ℕ} → EndAsks second s x n → Columns second m e o d u f → length e ≡ end_place s outs_end → length u ≡ s
    → Columns (ended_in second s x n) m (e ++ ends_of x) o d (u ++ (n ∷ [])) f
unfolding ended_in
ends_put {second} {m} {e} {o} {d} {u} {f} {s} x {n} a k q w =
    let e1 = e ++ (x.outs ∷ []) in
    let e2 = e1 ++ (x.ins ∷ []) in
    let e3 = e2 ++ (x.implicit ∷ []) in
    let n1 = length-append e (x.outs ∷ []) in
    let n2 = length-append e1 (x.ins ∷ []) in
    let n3 = length-append e2 (x.implicit ∷ []) in
    let k1 = push_end k x.outs (ends_start + end_place s outs_end) (omega arith) (omega (arith, a.few)) in
    let k2 = push_end k1 x.ins (ends_start + end_place s ins_end) (omega (arith, n1)) (omega (arith, n1, a.few)) in
    let k3 = push_end k2 x.implicit (ends_start + end_place s implicit_end) (omega (arith, n1, n2)) (omega (arith, n1, n2, a.few)) in
    let k4 = push_end k3 x.order (ends_start + end_place s order_only_end) (omega (arith, n1, n2, n3)) (omega (arith, n1, n2, n3, a.few)) in
    let k5 = push_rule k4 n (rule_start + s) (omega arith) (omega (arith, a.few)) in
    rw (four_more e x.outs x.ins x.implicit x.order) at k5

-- the stores, one after another
pub ends_stored : (second : List ℕ) (s : ℕ) (x : StepEnds) (n : ℕ) {a b c d : ℕ} {s1 s2 s3 s4 s5 : List ℕ} → a ≡ end_place s outs_end → s1 ≡ set second (ends_start + a) x.outs
    → b ≡ end_place s ins_end → s2 ≡ set s1 (ends_start + b) x.ins → c ≡ end_place s implicit_end → s3 ≡ set s2 (ends_start + c) x.implicit
    → d ≡ end_place s order_only_end → s4 ≡ set s3 (ends_start + d) x.order → s5 ≡ set s4 (rule_start + s) n → s5 ≡ ended_in second s x n
unfolding ended_in
ends_stored second s x n a p b q c r d t u = rw (u, t, d, r, c, q, b, p, a)

-- ---- behind what a step lists

module _ {graph : List ℕ} {p : StepPlaces} {second : List ℕ} {s base : ℕ} {c : Counts} {n : ℕ} (a : CloseAsks graph p second s base c n) where
  pub close_copies : CopyAsks graph p.implicit p.order second c
  close_copies =
      record {
        ordered = a.sound.implicit;
        within = a.sound.within;
        low = λ i f t. a.sound.low i (omega (arith, a.sound.output, a.sound.outs, a.sound.ins)) t;
        long = a.long;
        room = a.room;
      }

  pub close_ends : {second₁ : List ℕ} → length second₁ ≡ length second → EndAsks second₁ s (moved_ends p base c.paths) n
  close_ends l =
      record {
        long = omega (arith, a.long);
        few = a.few;
        outs = omega (arith, a.before, a.room, a.sound.output, a.sound.outs, a.sound.ins);
        ins = omega (arith, a.before, a.room, a.sound.output, a.sound.outs, a.sound.ins);
        implicit = omega (arith, a.room);
        order = a.room;
        small = a.small;
      }

  pub close_step : {second₁ second₂ : List ℕ} {d : Counts} → length second₁ ≡ length second → Copies graph p.implicit p.order second c second₁ d
      → second₂ ≡ ended_in second₁ s (moved_ends p base c.paths) n → Closes graph p second s base c n second₂ d
  close_step {second₁} {second₂} l k z =
      record {
        closed = λ m e o d u f w q h t.
            subst (λ (g : List ℕ). Columns g (m ++ part graph p.implicit p.order) (e ++ ends_of (moved_ends p base c.paths)) o d (u ++ (n ∷ [])) f) (sym z)
            (ends_put (moved_ends p base c.paths) (close_ends l) (k.copied m e o d u f w q) h t);
        counted = k.counted;
      }

  -- with the count as it is known after the copy
  abbrev ends_with : Counts → StepEnds
  ends_with d = record { outs = base + (p.outs - p.start); ins = base + (p.ins - p.start); implicit = c.paths; order = d.paths }

  ends_same : {d : Counts} → d ≡ counted_copies (p.order - p.implicit) c → ends_with d ≡ moved_ends p base c.paths
  ends_same e = ap ends_with e

  pub close_ends_by : {second₁ : List ℕ} {d : Counts} → length second₁ ≡ length second → d ≡ counted_copies (p.order - p.implicit) c → EndAsks second₁ s (ends_with d) n
  close_ends_by {second₁} l e = subst (λ (x : StepEnds). EndAsks second₁ s x n) (sym (ends_same e)) (close_ends l)

  pub close_step_by : {second₁ second₂ : List ℕ} {d : Counts} → length second₁ ≡ length second → Copies graph p.implicit p.order second c second₁ d
      → second₂ ≡ ended_in second₁ s (ends_with d) n → Closes graph p second s base c n second₂ d
  close_step_by {second₁} l k z = close_step l k (z ∙ ap (λ (x : StepEnds). ended_in second₁ s x n) (ends_same k.counted))
