-- The records sorted by name: halving, one more put in, and what the whole order says of the names.
use Rattle.std.specs.Prelude.{Some, None, Result, Ok, Err}
use Rattle.std.specs.Result.{result_ok}
use Prim.Native.Nat.{ℕ, zero, suc, ◌+◌, ◌-◌, ◌/◌, ◌≤◌, ◌<◌}
use mathlib.Core.Bool.{Bool, true, false, not, ◌||◌}
use mathlib.Core.List.{List, [], ◌∷◌, map}
use mathlib.Core.Path.{◌≡◌, refl, sym, ◌∙◌, ap, subst}
use native.Mathlib.Decide.{dec_lt}
use native.Mathlib.Nat.{not-suc-le-zero, le_of_suc-le-suc}
use native.Mathlib.Omega.{arith}
use lib.ListN.{length, take, get_or, length-map}
use lib.Seq.{length-take-le}
use Rattle.lists.specs.Tests.{split, differ, or_false}
use Rattle.lists.specs.Bytes.{less_ne}
use Rattle.lists.specs.Order.{order_bytes, order_less, order_greater, order_equal}
use Rattle.std.specs.declared.cmp.Ordering.{Ordering}
use Rattle.std.specs.declared.cmp.Ordering.TheVariants.{Less, Equal, Greater}
use Rattle.arena.specs.Inserted.{inserted, Shifted}
use Rattle.arena.specs.Rising.{PathBetween}
use Rattle.arena.proofs.Inserting.{length_inserted, each_inserted, has_inserted, keeps_inserted, map_inserted}
use Rattle.arena.proofs.Rising.{between_all, between_lower, between_higher, between_none, inserted_rising}
use Rattle.spec.specs.Basics.{among}
use Rattle.spec.specs.Card.{number_at}
use Rattle.spec.specs.Bundle.{bundle_names}
use Rattle.spec.specs.Statements.{twice}
use Rattle.hold_names.proofs.Buckets.{first_stands, among_nowhere, nowhere}
use Rattle.hold_names.proofs.Halving.{clash}
use Rattle.scan_bundle.specs.Bundles.{NamesSorted, PlacesRecord, SortsNames, found_record}
use Rattle.scan_bundle.proofs.Lying.{get_d_map, length_names}

-- ---- the cases of a place

free_taken : {A : Type 0} (p k : ℕ) → ◌≡◌ {A = Result ℕ ℕ} (Err p) (Ok k) → A
free_taken p k e = clash (cc)

free_same : (p q : ℕ) → ◌≡◌ {A = Result ℕ ℕ} (Err p) (Err q) → p ≡ q
free_same p q e = cc

taken_same : (k j : ℕ) → ◌≡◌ {A = Result ℕ ℕ} (Ok k) (Ok j) → k ≡ j
taken_same k j e = cc

-- ---- names that are there twice

pub twice_stands : (l : List (List ℕ)) (i j : ℕ) → i < j → j < length l → get_or l i [] ≡ get_or l j [] → twice l ≡ true
unfolding twice
twice_stands [] i j a b e = absurd (not-suc-le-zero b)
twice_stands (x ∷ l) i zero a b e = absurd (not-suc-le-zero a)
twice_stands (x ∷ l) zero (suc j) a b e = rw (here x l j (le_of_suc-le-suc b) (sym e))
  where
    here : (x : List ℕ) (l : List (List ℕ)) (j : ℕ) → j < length l → get_or l j [] ≡ x → among x l ≡ true
    here x l j b e = split (among x l) (λ (m : among x l ≡ true). m) (λ (m : among x l ≡ false). absurd (nowhere x l m j b e))
twice_stands (x ∷ l) (suc i) (suc j) a b e = rw (twice_stands l i j (le_of_suc-le-suc a) (le_of_suc-le-suc b) e) (or_true (among x l))
  where
    or_true : (c : Bool) → c || true ≡ true
    or_true true = refl
    or_true false = refl

pub once_only : (l : List (List ℕ)) → ((i j : ℕ) → i < j → j < length l → get_or l i [] ≡ get_or l j [] → ⊥) → twice l ≡ false
unfolding twice
once_only [] f = refl
once_only (x ∷ l) f =
    or_false (among x l) (twice l) (among_nowhere x l (λ k h e. f 0 (suc k) (omega arith) (omega arith) (sym e)))
    (once_only l (λ i j a b e. f (suc i) (suc j) (omega arith) (omega arith) e))

-- ---- the order

module _ (names : List (List ℕ)) where
  abbrev name_of : ℕ → List ℕ
  name_of k = get_or names k []

  abbrev pub names_by : List ℕ → List (List ℕ)
  names_by order = map (λ (k : ℕ). get_or names k []) order

  length_by : (order : List ℕ) → length (names_by order) ≡ length order
  length_by order = length-map order (λ (k : ℕ). get_or names k [])

  by_at : (order : List ℕ) (i : ℕ) → i < length order → get_or (names_by order) i [] ≡ name_of (get_or order i 0)
  by_at order i h = get_d_map (λ (k : ℕ). get_or names k []) order i 0 [] h

  -- nothing is sorted
  pub sorted_none : {order : List ℕ} → order ≡ [] → NamesSorted names 0 order
  sorted_none {order} e =
      rw e
      (record {
        long = refl;
        below = λ i h. absurd (not-suc-le-zero h);
        rising = record { less = λ i j a b. absurd (not-suc-le-zero b) };
        all = λ k h. absurd (not-suc-le-zero h);
      })

  -- ---- halving

  pub record Halving (n : ℕ) (order name : List ℕ) (low high : ℕ) : Type 0 where
    pub sorted : NamesSorted names n order
    pub within : high ≤ length order
    pub ordered : low ≤ high
    pub between : PathBetween (names_by order) name low high

  pub half_begin : {n : ℕ} {order : List ℕ} (name : List ℕ) → NamesSorted names n order → Halving n order name 0 (length order)
  half_begin {order = order} name s =
      record { sorted = s; within = omega arith; ordered = omega arith; between = rw (← length_by order) (between_all (names_by order) name) }

  module _ {n : ℕ} {order name : List ℕ} {low high : ℕ} (x : Halving n order name low high) where
    pub half_end : high ≤ low → PlacesRecord names n order name (Err low)
    half_end h =
        let z : high ≡ low = omega (arith, x.ordered) in
        record {
          taken = λ {k} e. free_taken low k e;
          free = λ {p} e. subst (λ (q : ℕ). PathBetween (names_by order) name q q) (free_same low p e) (subst (λ (q : ℕ). PathBetween (names_by order) name low q) z x.between);
        }

    module _ (l : low < high) {mid k : ℕ} (m : mid ≡ low + (high - low) / 2) (e : k ≡ get_or order mid 0) where
      mid_in : mid < length order
      mid_in = omega (arith, x.within)

      pub mid_below : k < n
      mid_below = omega (arith, e, x.sorted.below mid mid_in)

      named : get_or (names_by order) mid [] ≡ name_of k
      named = by_at order mid mid_in ∙ ap (λ (j : ℕ). name_of j) (sym e)

      module _ {o : Ordering} {other : List ℕ} (q : other ≡ name_of k) (r : o ≡ order_bytes name other) where
        told : order_bytes name (get_or (names_by order) mid []) ≡ o
        told = rw (named, ← q) (sym r)

        pub half_lower : o ≡ Less → Halving n order name low mid
        half_lower f =
            record {
              sorted = x.sorted;
              within = omega (arith, x.within);
              ordered = omega arith;
              between = between_lower x.between x.sorted.rising (omega arith) (order_less name (get_or (names_by order) mid []) (told ∙ f));
            }

        pub half_higher : o ≡ Greater → Halving n order name (mid + 1) high
        half_higher f =
            record {
              sorted = x.sorted;
              within = x.within;
              ordered = omega arith;
              between = between_higher x.between x.sorted.rising (omega arith) (order_greater name (get_or (names_by order) mid []) (told ∙ f));
            }

        pub half_found : o ≡ Equal → PlacesRecord names n order name (Ok k)
        half_found f =
            record {
              taken = λ {k = j} z. let w : k ≡ j = taken_same k j z in rw (← w) (mid_below, order_equal name (get_or (names_by order) mid []) (told ∙ f) ∙ named);
              free = λ {p} z. free_taken p k (sym z);
            }

  -- ---- one more

  pub sorted_more : {n : ℕ} {order : List ℕ} {p : ℕ} → NamesSorted names n order → PathBetween (names_by order) (name_of n) p p → NamesSorted names (n + 1) (inserted order p n)
  sorted_more {n} {order} {p} s b =
      let h : p ≤ length order = omega (arith, b.within, length_by order) in
      let w = length_inserted order p n 0 h in
      record {
        long = omega (arith, w, s.long);
        below = each_inserted order p n 0 h (λ k. k < n + 1) (omega arith) (λ k l. omega (arith, s.below k l));
        rising = rw (map_inserted (λ (k : ℕ). get_or names k []) order p n) (inserted_rising s.rising b);
        all = λ k l. elim (dec_lt k n) [
          | yes d ↦ (let (i, a, e) = s.all k d in let (j, c, f) = keeps_inserted order p n 0 h i a in (j, c, f ∙ e))
          | no d ↦ (let z : k ≡ n = omega arith in rw z (has_inserted order p n 0 h))
        ];
      }

  -- ---- all of them

  module _ {n : ℕ} {order : List ℕ} (s : NamesSorted names n order) where
    less_differ : (i j : ℕ) → i < j → j < length order → name_of (get_or order i 0) ≡ name_of (get_or order j 0) → ⊥
    less_differ i j a b e =
        less_ne (s.rising.less i j a (omega (arith, length_by order))) (by_at order i (omega arith) ∙ e ∙ sym (by_at order j b))

    pub sorted_differ : (i j : ℕ) → i < j → j < n → name_of i ≡ name_of j → ⊥
    sorted_differ i j a b e =
        let (f, fl, fe) = s.all i (omega arith) in
        let (g, gl, ge) = s.all j b in
        elim (dec_lt f g) [
          | yes d ↦ less_differ f g d gl (rw (fe, ge) e)
          | no d ↦ elim (dec_lt g f) [
            | yes c ↦ less_differ g f c fl (rw (fe, ge) (sym e))
            | no c ↦ (let z : f ≡ g = omega arith in absurd (omega (arith, fe, ge, ap (λ (i : ℕ). get_or order i 0) z)))
          ]
        ]

    pub sorted_once : n ≡ length names → twice names ≡ false
    sorted_once h = once_only names (λ i j a b e. sorted_differ i j a (omega arith) e)

    module _ (h : n ≡ length names) {p : List ℕ} where
      find_at : {k : ℕ} → (k < n) × (p ≡ name_of k) → Some k ≡ found_record p names
      unfolding found_record
      find_at {k} (l, e) =
          let (a, b) = first_stands p names k (omega arith) (sym e) (λ i d q. sorted_differ i k d l (q ∙ e)) in
          rw (a, b)

      find_none : {q : ℕ} → PathBetween (names_by order) p q q → None ≡ found_record p names
      unfolding found_record
      find_none b =
          rw (among_nowhere p names (λ k l e.
          let (i, a, f) = s.all k (omega arith) in
          between_none b i (omega (arith, length_by order)) (sym e ∙ sym (ap (λ (j : ℕ). name_of j) f) ∙ sym (by_at order i a))))

      pub find_ok : (r : Result ℕ ℕ) → PlacesRecord names n order p r → result_ok r ≡ found_record p names
      find_ok (Ok k) x = find_at (x.taken refl)
      find_ok (Err q) x = find_none (x.free refl)

-- ---- the walk over the records

pub record Sorting (s : List ℕ) (n : ℕ) (before order : List ℕ) (k : ℕ) : Type 0 where
  pub within : k ≤ n
  pub long : length order ≡ length before
  pub sorted : NamesSorted (bundle_names s) k (take k order)

pub sort_begin : (s : List ℕ) (n : ℕ) (order : List ℕ) → Sorting s n order order 0
sort_begin s n order = record { within = omega arith; long = refl; sorted = sorted_none (bundle_names s) refl }

module _ {s : List ℕ} {n : ℕ} {before order : List ℕ} {k : ℕ} (x : Sorting s n before order k) (c : n ≡ number_at 0 4 s) where
  pub sort_end : n ≤ k → SortsNames s n before order true
  sort_end h =
      let z : k ≡ n = omega (arith, x.within) in
      let y : NamesSorted (bundle_names s) n (take n order) = subst (λ (j : ℕ). NamesSorted (bundle_names s) j (take j order)) z x.sorted in
      record {
        space = record { long = x.long };
        answer = sym (ap not (sorted_once (bundle_names s) y (omega (arith, length_names s))));
        sorted = λ _. y;
      }

  module _ (l : k < n) {name : List ℕ} (e : name ≡ get_or (bundle_names s) k []) {r : Result ℕ ℕ} (p : PlacesRecord (bundle_names s) k (take k order) name r) where
    pub sort_twice : {j : ℕ} → r ≡ Ok j → SortsNames s n before order false
    sort_twice {j} t =
        let (a, b) = p.taken t in
        record {
          space = record { long = x.long };
          answer = sym (ap not (twice_stands (bundle_names s) j k a (omega (arith, length_names s)) (sym b ∙ e)));
          sorted = λ q. differ q refl;
        }

    pub free_within : n ≤ length before → {q : ℕ} → r ≡ Err q → q ≤ k
    free_within m t = omega (arith, (p.free t).within, length-map (take k order) (λ (k : ℕ). get_or (bundle_names s) k []), length-take-le k order (omega (arith, x.long)))

    pub sort_more : {q : ℕ} → r ≡ Err q → {order' : List ℕ} → Shifted order k q k order' → Sorting s n before order' (k + 1)
    sort_more {q} t {order'} i =
        record {
          within = omega arith;
          long = i.long ∙ x.long;
          sorted = rw i.entries (sorted_more (bundle_names s) {p = q} x.sorted (rw (← e) (p.free t)));
        }
