-- The target list cut at its newlines: its first name is the run of other bytes, and its last byte decides its form.
use Prim.Native.Nat.{ℕ, suc, ◌+◌, ◌-◌, ◌≤◌, ◌<◌}
use mathlib.Core.Bool.{true, false, not}
use mathlib.Core.List.{List, [], ◌∷◌, ◌++◌, append-nil}
use mathlib.Core.Path.{◌≡◌, refl, sym, ◌∙◌, ap}
use native.Mathlib.Decide.{dec_lt}
use native.Mathlib.Numerals.{add-one}
use native.Mathlib.Omega.{arith}
use borrow.Author.Tests.{lt-ltb, le-ltb, eq-eqb, ne_eqb}
use lib.Dec.{eqb, ltb}
use lib.ListN.{length, drop, get_or, length-append, length-drop, drop_of_length-le}
use lib.Seq.{drop-cons, drop-drop, drop-append_seam, append_snoc}
use Rattle.lists.specs.Tests.{split, differ}
use Rattle.lists.specs.Parts.{part, length_part}
use Rattle.lists.specs.Runs.{run, after_run, run_append, Reads, part_run}
use Rattle.spec.specs.Basics.{is_empty}
use Rattle.spec.specs.Limits.{max_targets, max_path}
use Rattle.spec.specs.Bytes.{newline}
use Rattle.spec.specs.Targets.{targets_from, unended, malformed, bad_length}
use Rattle.scan_targets.specs.Next.{other}

-- Two answers that differ are never equal.
pub clash : {A : Type 0} → ◌≡◌ {A = ℕ} 0 1 → A
clash z = absurd (omega arith)

pub is_other : (b : ℕ) → (b ≡ newline → ⊥) → other b ≡ true
unfolding other
is_other b h = rw (ne_eqb b newline h)

pub is_newline : (b : ℕ) → b ≡ newline → other b ≡ false
unfolding other
is_newline b h = rw (eq-eqb b newline h)

-- ---- names

targets_end : (start at : ℕ) (n : List ℕ) → targets_from start at n [] ≡ []
unfolding targets_from
targets_end start at n = refl

targets_newline : (start at : ℕ) (n : List ℕ) (b : ℕ) (s : List ℕ) → eqb b newline ≡ true → targets_from start at n (b ∷ s) ≡ record { start = start; name = n } ∷ targets_from (suc at) (suc at) [] s
unfolding targets_from
targets_newline start at n b s e = rw e

targets_byte : (start at : ℕ) (n : List ℕ) (b : ℕ) (s : List ℕ) → eqb b newline ≡ false → targets_from start at n (b ∷ s) ≡ targets_from start (suc at) (n ++ (b ∷ [])) s
unfolding targets_from
targets_byte start at n b s e = rw e

run_byte : (b : ℕ) (s : List ℕ) → eqb b newline ≡ false → (run other (b ∷ s) ≡ b ∷ run other s) × (after_run other (b ∷ s) ≡ after_run other s)
unfolding run after_run other
run_byte b s e = (rw e, rw e)

run_newline : (b : ℕ) (s : List ℕ) → eqb b newline ≡ true → (run other (b ∷ s) ≡ []) × (after_run other (b ∷ s) ≡ b ∷ s)
unfolding run after_run other
run_newline b s e = (rw e, rw e)

-- Without a newline there is no name.
pub targets_none : (start at : ℕ) (n s : List ℕ) → after_run other s ≡ [] → targets_from start at n s ≡ []
targets_none start at n [] e = targets_end start at n
targets_none start at n (b ∷ s) e =
    split (eqb b newline)
    (λ (h : eqb b newline ≡ true). let q : b ∷ s ≡ [] = sym (run_newline b s h).1 ∙ e in clash (cc))
    (λ (h : eqb b newline ≡ false). targets_byte start at n b s h ∙ targets_none start (suc at) (n ++ (b ∷ [])) s (sym (run_byte b s h).1 ∙ e))

-- With one, the bytes before it are the first, and the others start after it.
pub targets_one : (start at : ℕ) (n s : List ℕ) (b : ℕ) (r : List ℕ) → after_run other s ≡ b ∷ r → targets_from start at n s ≡ record { start = start; name = n ++ run other s } ∷ targets_from (suc (at + length (run other s))) (suc (at + length (run other s))) [] r
unfolding after_run
targets_one start at n [] b r e = clash (cc)
targets_one start at n (c ∷ s) b r e =
    split (eqb c newline)
    (λ (h : eqb c newline ≡ true).
    let q : c ∷ s ≡ b ∷ r = sym (run_newline c s h).1 ∙ e in
    let m : s ≡ r = cc in
    let z : at + 0 ≡ at = omega arith in
    rw (targets_newline start at n c s h, (run_newline c s h).0, append-nil n, z, m))
    (λ (h : eqb c newline ≡ false).
    let z : at + suc (length (run other s)) ≡ suc at + length (run other s) = omega arith in
    rw (targets_byte start at n c s h, (run_byte c s h).0, z, ← append_snoc n c (run other s))
    (targets_one start (suc at) (n ++ (c ∷ [])) s b r (sym (run_byte c s h).1 ∙ e)))

-- ---- lengths

empty_length : (n : List ℕ) → is_empty n ≡ ltb (length n) 1
empty_length [] = refl
empty_length (x ∷ n) = sym (le-ltb (suc (length n)) 1 (omega arith))

pub bad_empty : (n : List ℕ) → length n < 1 → bad_length n ≡ true
unfolding bad_length
bad_empty n h = rw (empty_length n, lt-ltb _ _ h)

pub bad_long : (n : List ℕ) → max_path < length n → bad_length n ≡ true
unfolding bad_length
bad_long n h = rw (empty_length n, le-ltb (length n) 1 (omega arith), lt-ltb _ _ h)

pub good_length : (n : List ℕ) → 1 ≤ length n → length n ≤ max_path → bad_length n ≡ false
unfolding bad_length
good_length n h l = rw (empty_length n, le-ltb _ _ h, le-ltb _ _ l)

pub length_good : (n : List ℕ) → bad_length n ≡ false → (1 ≤ length n) × (length n ≤ max_path)
length_good n h =
    (elim (dec_lt (length n) 1) [ yes l ↦ differ (bad_empty n l) h | no l ↦ omega arith ], elim (dec_lt max_path (length n)) [ yes l ↦ differ (bad_long n l) h | no l ↦ omega arith ])

-- ---- the form

unended_last : (l b : ℕ) (s : List ℕ) → unended l (b ∷ s) ≡ not (eqb (get_or (b ∷ s) (length s) 0) newline)
unfolding unended
unended_last l b [] = refl
unended_last l b (c ∷ s) = unended_last b c s

pub form_long : (s : List ℕ) → max_targets < length s → true ≡ malformed s
unfolding malformed
form_long s h = rw (lt-ltb _ _ h)

pub form_none : (s : List ℕ) → length s ≡ 0 → false ≡ malformed s
unfolding malformed
form_none [] h = refl
form_none (b ∷ s) h = absurd (omega arith)

pub form_last : (s : List ℕ) → length s ≤ max_targets → (length s ≡ 0 → ⊥) → not (eqb (get_or s (length s - 1) 0) newline) ≡ malformed s
unfolding malformed
form_last [] h n = absurd (n refl)
form_last (b ∷ s) h n = let z : suc (length s) - 1 ≡ length s = omega arith in rw (z, le-ltb max_targets (suc (length s)) h, unended_last newline b s)

pub form_short : (s : List ℕ) → malformed s ≡ false → length s ≤ max_targets
unfolding malformed
form_short s h = elim (dec_lt max_targets (length s)) [ yes l ↦ differ (rw (lt-ltb max_targets (length s) l)) h | no l ↦ omega arith ]

-- ---- from place to place

module _ {t : List ℕ} {from r : ℕ} (a : Reads (after_run other) t from r) where
  pub left_none : length t ≤ r → targets_from from from [] (drop from t) ≡ []
  left_none h = targets_none from from [] (drop from t) (sym a.rest ∙ drop_of_length-le t {i = r} h)

  pub left_one : r < length t → targets_from from from [] (drop from t) ≡ record { start = from; name = part t from r } ∷ targets_from (r + 1) (r + 1) [] (drop (r + 1) t)
  left_one h =
      let n : length (run other (drop from t)) ≡ r - from = ap length (sym (part_run other a)) ∙ length_part t from r a.within in
      let z : suc (from + length (run other (drop from t))) ≡ suc r = omega (arith, a.forward) in
      rw (part_run other a, add-one r)
      (rw z at (targets_one from from [] (drop from t) (get_or t r 0) (drop (suc r) t) (sym a.rest ∙ drop-cons t r 0 h)))

-- A run always ends somewhere.
pub runs_to : {t : List ℕ} {from : ℕ} → from ≤ length t → Reads (after_run other) t from (from + length (run other (drop from t)))
runs_to {t} {from} h =
    let s = drop from t in
    let n : length (run other s) ≤ length s = omega (arith, simp length-append at (ap length (run_append other s))) in
    record {
      forward = omega arith;
      within = omega (arith, length-drop from t);
      rest =
          sym (drop-drop (length (run other s)) from t) ∙ ap (drop (length (run other s))) (sym (run_append other s))
          ∙ drop-append_seam (run other s) (after_run other s);
    }
