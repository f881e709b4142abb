-- The copy that fills an empty column, and the second columns before the first step.
use Prim.Native.Nat.{ℕ, zero, suc, ◌+◌, ◌-◌, ◌≤◌, ◌<◌}
use mathlib.Core.List.{List, [], ◌∷◌, ◌++◌, map}
use mathlib.Core.Path.{◌≡◌, refl, sym, ◌∙◌, ap, subst}
use native.Mathlib.Numerals.{add-one}
use native.Mathlib.Omega.{arith}
use lib.ListN.{length, take, drop, get_or, set, length-set, length-drop}
use lib.Seq.{paste, paste-zero, paste-suc, get_or-set_same, set-get_or, set-set, take-suc, take_all, length-take-le}
use Rattle.lists.specs.Parts.{part, length_part}
use Rattle.arena.specs.Columns.{Lies, start_of, column}
use Rattle.arena.proofs.Laws.{lies_push}
use Rattle.hold_reading.specs.declared.Counts.{Counts}
use Rattle.hold_reading.specs.Held.{capacities, phony_start, made_start, defaults_start, columns_end}
use Rattle.ask_header_graph.specs.Begins.{Fills, BeginAsked, Begins}

-- ---- a column with an entry more

lies_taken : (ns a : List ℕ) (xs : List (List ℕ)) (k : ℕ) (src : List ℕ) (i : ℕ) → k < length xs → i < length src → length src ≤ get_or ns k 0 → Lies ns a (set xs k (take i src))
    → Lies ns (set a (start_of ns k + i) (get_or src i 0)) (set xs k (take (i + 1) src))
lies_taken ns a xs k src i b h f l =
    let xs' = set xs k (take i src) in
    let v = get_or src i 0 in
    let c : column xs' k ≡ take i src = get_or-set_same xs k (take i src) [] b in
    let n : length (take i src) ≡ i = length-take-le i src (omega arith) in
    let m : length xs' ≡ length xs = length-set xs k (take i src) in
    let p = lies_push v ns a xs' k l (omega (arith, m)) (omega (arith, ap length c, n)) in
    let e : set xs' k (column xs' k ++ (v ∷ [])) ≡ set xs k (take (i + 1) src) =
    ap (λ (y : List ℕ). set xs' k (y ++ (v ∷ []))) c ∙ set-set xs k (take i src) (take i src ++ (v ∷ []))
    ∙ ap (λ (y : List ℕ). set xs k y) (sym (take-suc src i 0 h) ∙ ap (λ (j : ℕ). take j src) (sym (add-one i))) in
    let g : start_of ns k + length (column xs' k) ≡ start_of ns k + i = omega (arith, ap length c, n) in
    subst (λ (y : List (List ℕ)). Lies ns (set a (start_of ns k + i) v) y) e (subst (λ (j : ℕ). Lies ns (set a j v) (set xs' k (column xs' k ++ (v ∷ [])))) g p)

-- ---- the copy, as if an entry came after another

record Filling (second₀ : List ℕ) (at : ℕ) (src second : List ℕ) (i : ℕ) : Type 0 where
  room : at + length src ≤ length second₀
  within : i ≤ length src
  long : length second ≡ length second₀
  fills : (k : ℕ) (xs : List (List ℕ)) → start_of capacities k ≡ at → k < length xs → column xs k ≡ [] → length src ≤ get_or capacities k 0
      → Lies capacities second₀ xs → Lies capacities second (set xs k (take i src))

fill_begin : {second : List ℕ} {at : ℕ} {src : List ℕ} → at + length src ≤ length second → Filling second at src second 0
fill_begin {second} {src = src} r =
    record {
      room = r;
      within = omega arith;
      long = refl;
      fills = λ k xs p b e f l. subst (λ (y : List (List ℕ)). Lies capacities second y) (sym (set-get_or xs k []) ∙ ap (λ (y : List ℕ). set xs k y) e) l;
    }

module _ {second₀ : List ℕ} {at : ℕ} {src second : List ℕ} {i : ℕ} (x : Filling second₀ at src second i) where
  fill_more : i < length src → Filling second₀ at src (set second (at + i) (get_or src i 0)) (i + 1)
  fill_more h =
      record {
        room = x.room;
        within = omega arith;
        long = length-set second (at + i) (get_or src i 0) ∙ x.long;
        fills = λ k xs p b e f l.
            subst (λ (j : ℕ). Lies capacities (set second (j + i) (get_or src i 0)) (set xs k (take (i + 1) src))) p (lies_taken capacities second xs k src i b h f (x.fills k xs p b e f l));
      }

  fill_end : length src ≤ i → Fills second₀ at src second
  fill_end h =
      record {
        fills = λ k xs p b e f l. subst (λ (y : List ℕ). Lies capacities second (set xs k y)) (take_all i src h) (x.fills k xs p b e f l);
      }

copied : (second : List ℕ) (at : ℕ) (src : List ℕ) → at + length src ≤ length second → (i : ℕ) → i ≤ length src → Filling second at src (paste second at src i) i
copied second at src r zero h = subst (λ (y : List ℕ). Filling second at src y 0) (paste-zero second at src) (fill_begin r)
copied second at src r (suc i) h =
    let x = copied second at src r i (omega arith) in
    subst (λ (y : List ℕ). Filling second at src y (suc i)) (paste-suc second at src i 0 (omega arith) (omega arith)) (rw add-one at (fill_more x (omega arith)))

pub fill_copied : {second : List ℕ} {at : ℕ} {src now : List ℕ} → at + length src ≤ length second → now ≡ paste second at src (length src) → Fills second at src now
fill_copied {second} {at} {src} r e = rw e (fill_end (copied second at src r (length src) (omega arith)) (omega arith))

-- ---- the three columns

-- where all columns are empty
lies_none : (ns a : List ℕ) → start_of ns (length ns) ≤ length a → Lies ns a (map (λ (n : ℕ). []) ns)
unfolding Lies
lies_none [] a h = tt
lies_none (n ∷ ns) a h = (omega arith, omega arith, refl, lies_none ns (drop n a) (omega (arith, length-drop n a)))

lies_blank : (second : List ℕ) → columns_end ≤ length second → Lies capacities second ([] ∷ [] ∷ [] ∷ [] ∷ [] ∷ [] ∷ [])
lies_blank second h = lies_none capacities second h

module _ {graph : List ℕ} {c : Counts} {second : List ℕ} (a : BeginAsked graph c second) where
  pub begin_columns : {s1 s2 s3 : List ℕ} → Fills second phony_start (part graph phony_start (phony_start + c.steps)) s1 → Fills s1 made_start (part graph made_start (made_start + c.files)) s2
      → Fills s2 defaults_start (part graph defaults_start (defaults_start + c.defaults)) s3 → Begins graph c s3
  begin_columns {s1} {s2} {s3} f g h =
      let p = part graph phony_start (phony_start + c.steps) in
      let m = part graph made_start (made_start + c.files) in
      let d = part graph defaults_start (defaults_start + c.defaults) in
      let np : length p ≡ phony_start + c.steps - phony_start = length_part graph phony_start (phony_start + c.steps) (omega (arith, a.graph_long, a.few_steps)) in
      let nm : length m ≡ made_start + c.files - made_start = length_part graph made_start (made_start + c.files) (omega (arith, a.graph_long, a.few_files)) in
      let nd : length d ≡ defaults_start + c.defaults - defaults_start = length_part graph defaults_start (defaults_start + c.defaults) (omega (arith, a.graph_long, a.few_defaults)) in
      let l1 = f.fills 2 ([] ∷ [] ∷ [] ∷ [] ∷ [] ∷ [] ∷ []) refl (omega arith) refl (omega (arith, np, a.few_steps)) (lies_blank second a.second_long) in
      let l2 = g.fills 3 ([] ∷ [] ∷ p ∷ [] ∷ [] ∷ [] ∷ []) refl (omega arith) refl (omega (arith, nm, a.few_files)) l1 in
      record { columns = record { lies = h.fills 5 ([] ∷ [] ∷ p ∷ m ∷ [] ∷ [] ∷ []) refl (omega arith) refl (omega (arith, nd, a.few_defaults)) l2 } }
