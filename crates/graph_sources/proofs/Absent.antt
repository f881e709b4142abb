-- The search for the lowest missing source: a file more, a list more, a step more.
use Prim.Native.Nat.{ℕ, ◌+◌, ◌≤◌, ◌<◌}
use native.Mathlib.Nat.{le_refl}
use native.Mathlib.Numerals.{add-one}
use native.Mathlib.Decide.{dec_lt}
use native.Mathlib.Omega.{arith}
use mathlib.Core.Path.{◌≡◌, refl}
use mathlib.Core.Logic.{inl, inr}
use mathlib.Core.List.{List, [], ◌∷◌, ◌++◌}
use lib.ListN.{length, get_or, take}
use lib.Seq.{take-suc, take_all}
use Rattle.lists.specs.Members.{here, in_cons, in_left, in_right, in_append, in_snoc, not_in_nil}
use Rattle.hold_columns.specs.Columns.{inputs_in}
use Rattle.std.specs.Prelude.{Some, None}
use Rattle.graph_sources.specs.Sources.{Absent, Lowered, LowestMissing, MissingFound}

module _ {times made : List ℕ} where
  pub lower_none : {low : ℕ} → Lowered times made [] low low
  lower_none {low} = record { lower = le_refl low; found = λ b. absurd (omega arith); least = λ f h a. absurd (not_in_nil h) }

  pub lower_kept : {f low : ℕ} → (Absent times made f → low ≤ f) → Lowered times made (f ∷ []) low low
  lower_kept {low} d = record {
    lower = le_refl low;
    found = λ b. absurd (omega arith);
    least = λ g h a. elim (in_cons h) [ inl e ↦ rw e (d (rw e at a)) | inr i ↦ absurd (not_in_nil i) ];
  }

  pub lower_found : {f low : ℕ} → f < low → Absent times made f → Lowered times made (f ∷ []) low f
  lower_found {f} b a = record {
    lower = omega arith;
    found = λ c. (here refl, a);
    least = λ g h c. elim (in_cons h) [ inl e ↦ omega arith | inr i ↦ absurd (not_in_nil i) ];
  }

  lower_append : {l r : List ℕ} {before mid end : ℕ} → Lowered times made l before mid → Lowered times made r mid end → Lowered times made (l ++ r) before end
  lower_append {l} {r} {before} {mid} {end} p q = record {
    lower = omega (arith, p.lower, q.lower);
    found = λ b. elim (dec_lt end mid) [
      | yes c ↦ (in_right l (q.found c).0, (q.found c).1)
      | no c ↦ (let e : end ≡ mid = omega (arith, q.lower) in let (h, a) = p.found (omega arith) in (rw e (in_left r h), rw e a))
    ];
    least = λ f h a. elim (in_append l h) [ inl i ↦ (let b = p.least f i a in omega (arith, q.lower)) | inr i ↦ q.least f i a ];
  }

-- the first i files are looked at
pub record Lowering (times made fs : List ℕ) (best low i : ℕ) : Type 0 where
  pub within : i ≤ length fs
  pub lowered : Lowered times made (take i fs) best low

pub lower_begin : {times made fs : List ℕ} {best : ℕ} → Lowering times made fs best best 0
lower_begin = record { within = omega arith; lowered = lower_none }

module _ {times made fs : List ℕ} {best low i : ℕ} (p : Lowering times made fs best low i) where
  pub lower_more : i < length fs → {f r : ℕ} → f ≡ get_or fs i 0 → Lowered times made (f ∷ []) low r → Lowering times made fs best r (i + 1)
  lower_more b e q = record { within = omega arith; lowered = rw (add-one i, take-suc fs i 0 b, ← e) (lower_append p.lowered q) }

  pub lower_end : length fs ≤ i → Lowered times made fs best low
  lower_end b = rw (take_all i fs b) at p.lowered

-- the roots and the inputs of the first i steps are looked at
pub record Searching (mentions ends made times roots order : List ℕ) (n low i : ℕ) : Type 0 where
  pub within : i ≤ length order
  pub lowest : LowestMissing mentions ends made times roots (take i order) n low

pub lowest_begin : {mentions ends made times roots order : List ℕ} {n r : ℕ} → Lowered times made roots n r → Searching mentions ends made times roots order n r 0
lowest_begin p = record {
  within = omega arith;
  lowest = record {
    within = p.lower;
    found = λ b. (inl (p.found b).0, (p.found b).1);
    least = λ f w a. elim w [ inl h ↦ p.least f h a | inr h ↦ absurd (not_in_nil h.1) ];
  };
}

lowest_append : {mentions ends made times roots l : List ℕ} {n low r : ℕ} (s : ℕ) → LowestMissing mentions ends made times roots l n low → Lowered times made (inputs_in mentions ends s) low r
    → LowestMissing mentions ends made times roots (l ++ (s ∷ [])) n r
lowest_append {l} {low} {r} s p q = record {
  within = omega (arith, p.within, q.lower);
  found = λ b. elim (dec_lt r low) [
    | yes c ↦ (inr (s, in_right l (here refl), (q.found c).0), (q.found c).1)
    | no c ↦ (
        let e : r ≡ low = omega (arith, q.lower) in
        let (w, a) = p.found (omega arith) in
        (rw e (elim w [ inl h ↦ inl h | inr h ↦ inr (h.0, in_left (s ∷ []) h.1, h.2) ]), rw e a)
        )
  ];
  least = λ f w a. elim w [
    | inl h ↦ (let b = p.least f (inl h) a in omega (arith, q.lower))
    | inr h ↦ elim (in_snoc l h.1) [
      | inl i ↦ (let b = p.least f (inr (h.0, i, h.2)) a in omega (arith, q.lower))
      | inr e ↦ q.least f (rw e at h.2) a
    ]
  ];
}

module _ {mentions ends made times roots order : List ℕ} {n low i : ℕ} (p : Searching mentions ends made times roots order n low i) where
  pub lowest_more : i < length order → {s r : ℕ} {fs : List ℕ} → s ≡ get_or order i 0 → fs ≡ inputs_in mentions ends s → Lowered times made fs low r
      → Searching mentions ends made times roots order n r (i + 1)
  lowest_more b {s} e q w = record { within = omega arith; lowest = rw (add-one i, take-suc order i 0 b, ← e) (lowest_append s p.lowest (rw q at w)) }

  module _ (b : length order ≤ i) where
    lowest_end : LowestMissing mentions ends made times roots order n low
    lowest_end = rw (take_all i order b) at p.lowest

    pub found_end : low < n → MissingFound mentions ends made times roots order n (Some low)
    unfolding MissingFound
    found_end c = (lowest_end, c)

    pub none_end : n ≤ low → MissingFound mentions ends made times roots order n None
    unfolding MissingFound
    none_end c = let e : low ≡ n = omega (arith, p.lowest.within) in rw e at lowest_end
