-- The rows of an order say what is upstream in document 01's sense: what a step comes after, directly or through others.
use Rattle.std.specs.Prelude.{Option, Float}
use Prim.Native.Nat.{ℕ, ◌+◌, ◌*◌, ◌/◌, ◌<◌}
use mathlib.Core.List.{List, [], ◌∷◌, ◌++◌, append_assoc}
use mathlib.Core.Logic.{◌⊎◌, inl, inr, ◌↔◌}
use mathlib.Core.Path.{◌≡◌, refl, sym, ap, ◌∙◌, subst}
use native.Mathlib.Omega.{arith}
use borrow.Author.Tests.{eq-eqb, ne_eqb, lt-ltb}
use Rattle.lists.specs.Members.{◌∈◌, ◌∉◌, ◌⊆◌, here, there, Each, Once, in_at, in_cons, in_snoc, in_left, in_right, in_append, not_in_nil, each_last}
use lib.ListN.{get_or}
use Rattle.orders.specs.Order.{IsOrder}
use Rattle.orders.specs.Reach.{ComesBefore, direct, further}
use Rattle.run_rules.specs.declared.Job.{Job}
use Rattle.run_rules.specs.Claims.{◌among◌, steps_of, FreshTable}
use Rattle.run_core.specs.Numbers.{given_in, rows_upstream, upstream_in, graph_row, graph_rows}
use Rattle.run_core.proofs.Rows.{closed_row, up_even_in, up_odd, up_nil}

-- a row's steps, and what is upstream of them
gathered : (ℕ → List ℕ) → List ℕ → List ℕ → List ℕ
gathered up [] row = row
gathered up (m ∷ ms) row = gathered up ms (m ∷ up m ++ row)

module _ (up : ℕ → List ℕ) {x : ℕ} where
  gathered_row : (ms : List ℕ) {row : List ℕ} → x ∈ row → x ∈ gathered up ms row
  unfolding gathered
  gathered_row [] h = h
  gathered_row (m ∷ ms) h = gathered_row ms (there (in_right (up m) h))

  gathered_in : (ms row : List ℕ) {m : ℕ} → m ∈ ms → (x ≡ m) ⊎ (x ∈ up m) → x ∈ gathered up ms row
  unfolding gathered
  gathered_in (k ∷ ms) row (here e) (inl q) = gathered_row ms (here (q ∙ e))
  gathered_in (k ∷ ms) row (here e) (inr w) = gathered_row ms (there (in_left row (rw e at w)))
  gathered_in (k ∷ ms) row (there h) w = gathered_in ms (k ∷ up k ++ row) h w
  gathered_in [] row {m = m} x3 w = elim x3 [ ]

  in_gathered : (ms row : List ℕ) → x ∈ gathered up ms row → (x ∈ row) ⊎ ((m : ℕ) × (m ∈ ms) × ((x ≡ m) ⊎ (x ∈ up m)))
  unfolding gathered
  in_gathered [] row h = inl h
  in_gathered (k ∷ ms) row h = elim (in_gathered ms (k ∷ up k ++ row) h) [
    | inl a ↦ elim (in_cons a) [
      | inl e ↦ inr (k, here refl, inl e)
      | inr b ↦ elim (in_append (up k) b) [ inl w ↦ inr (k, here refl, inr w) | inr w ↦ inl w ]
    ]
    | inr (m, b, w) ↦ inr (m, there b, w)
  ]

row_read : (n : ℕ) (ms : List ℕ) (s : ℕ) (g row : List ℕ) (up : ℕ → List ℕ) (y : ℕ) → ((m : ℕ) → m ∈ ms → m < n)
    → rows_upstream n (graph_row ms s ++ g) row up y ≡ rows_upstream n g [] (closed_row n s (gathered up ms row) up) y
unfolding graph_row gathered
row_read n [] s g row up y low =
    up_odd n (s * 2 + 1) g row up y (omega arith)
    ∙ ap (λ (k : ℕ). rows_upstream n g [] (closed_row n k row up) y) (half s)
  where
    half : (s : ℕ) → (s * 2 + 1) / 2 ≡ s
    half s = omega arith
row_read n (m ∷ ms) s g row up y low =
    let l : m < n = low m (here refl) in
    up_even_in n (m * 2) (graph_row ms s ++ g) row up y (omega arith) (omega arith)
    ∙ ap (λ (k : ℕ). rows_upstream n (graph_row ms s ++ g) (k ∷ up k ++ row) up y) (half m)
    ∙ row_read n ms s g (m ∷ up m ++ row) up y (λ k h. low k (there h))
  where
    half : (m : ℕ) → m * 2 / 2 ≡ m
    half m = omega arith

-- What is upstream of the steps in `done` is known.
abbrev Known : (ℕ → List ℕ) → (ℕ → List ℕ) → List ℕ → Type 0
Known before up done = (d x : ℕ) → d ∈ done → (x ∈ up d) ↔ ComesBefore before x d

module _ (n : ℕ) (before : ℕ → List ℕ) where
  abbrev Earlier : List ℕ → ℕ → Type 0
  Earlier l s = (m : ℕ) → m ∈ before s → m ∈ l

  abbrev up_next : ℕ → (ℕ → List ℕ) → ℕ → List ℕ
  up_next s up = closed_row n s (gathered up (before s) []) up

  known_own : {up : ℕ → List ℕ} {done : List ℕ} → Known before up done → (s x : ℕ) → Earlier done s → (x ∈ gathered up (before s) []) ↔ ComesBefore before x s
  known_own {up} {done} k s x e = (to, back)
    where
      to : x ∈ gathered up (before s) [] → ComesBefore before x s
      to h = elim (in_gathered up (before s) [] h) [
        | inl a ↦ absurd (not_in_nil a)
        | inr (m, b, inl q) ↦ direct {s = s} (rw q b)
        | inr (m, b, inr w) ↦ further ((k m x (e m b)).0 w) b
      ]

      back : ComesBefore before x s → x ∈ gathered up (before s) []
      back (direct b) = gathered_in up (before s) [] b (inl refl)
      back (further {k = m} c b) = gathered_in up (before s) [] b (inr ((k m x (e m b)).1 c))

  known_next : {up : ℕ → List ℕ} {done : List ℕ} → Known before up done → (s : ℕ) → s < n → s ∉ done → Earlier done s → Known before (up_next s up) (done ++ (s ∷ []))
  known_next {up} {done} k s l new e d x h = elim (in_snoc done h) [
    | inl a ↦ (let z : (d ≡ s → ⊥) = λ q. new (rw q at a) in rw (ne_eqb d s z) (k d x a))
    | inr q ↦ rw (q, eq-eqb s s refl, lt-ltb s n l) (known_own k s x e)
  ]

  rows_known : (l done : List ℕ) (up : ℕ → List ℕ) → Known before up done → Once (done ++ l) → Each Earlier (done ++ l) → ((s : ℕ) → s ∈ done ++ l → s < n)
      → (d x : ℕ) → d ∈ done ++ l → (x ∈ rows_upstream n (graph_rows before l) [] up d) ↔ ComesBefore before x d
  unfolding graph_rows
  rows_known [] done up k once after low d x h =
      rw (up_nil n [] up d) (k d x (elim (in_append done h) [ inl a ↦ a | inr b ↦ absurd (not_in_nil b) ]))
  rows_known (s ∷ l) done up k once after low d x h =
      let e : done ++ s ∷ l ≡ (done ++ (s ∷ [])) ++ l = sym (append_assoc done (s ∷ []) l) in
      let b : Earlier done s = each_last Earlier done l s after in
      let i : s < n = low s (in_right done (here refl)) in
      let r = rows_known l (done ++ (s ∷ [])) (up_next s up) (known_next k s i (each_last (λ earlier x. x ∉ earlier) done l s once) b)
      (subst Once e once) (subst (Each Earlier) e after) (λ y m. low y (subst (λ (z : List ℕ). y ∈ z) (sym e) m)) d x (subst (λ (z : List ℕ). d ∈ z) e h) in
      rw (row_read n (before s) s (graph_rows before l) [] up d (λ m w. low m (in_left (s ∷ l) (b m w)))) r

  -- The rows of an order that holds what its steps come after: what they say is upstream is what comes before.
  pub rows_upstream_law : (l : List ℕ) → Once l → Each Earlier l → ((s : ℕ) → s ∈ l → s < n)
      → (s x : ℕ) → s ∈ l → (x ∈ upstream_in n (graph_rows before l) s) ↔ ComesBefore before x s
  unfolding upstream_in
  rows_upstream_law l once after low s x h = rows_known l [] (λ y. []) (λ d x m. absurd (not_in_nil m)) once after low s x h

  -- With these rows a table of waiting steps, listed in an order by what is upstream, is a fresh one.
  pub rows_fresh : {Want : ℕ → Type 0} {a : List Job} (l depths : List ℕ) (limit : ℕ) (gate : Option Float) → Once l → Each Earlier l → ((s : ℕ) → s ∈ l → s < n)
      → ((j : Job) → j among a → j.state ≡ 0) → steps_of a ⊆ l → IsOrder Want (ComesBefore before) (steps_of a) → FreshTable Want (given_in n (graph_rows before l) depths limit gate) a
  rows_fresh {a = a} l depths limit gate once after low waiting inside o = record {
    waiting = waiting;
    order = record {
      lists = o.lists;
      after = λ i b m h w. o.after i b m ((rows_upstream_law l once after low (get_or (steps_of a) i 0) m (inside (get_or (steps_of a) i 0) (in_at (steps_of a) i b))).0 h) w;
    };
  }
