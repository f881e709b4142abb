-- Scans: the longest run of a class of bytes at the front, and what follows it; and what a reader from place to place says.
use Rattle.std.specs.Prelude.{ℕ, ◌+◌, ◌-◌, ◌≤◌, ◌<◌, Bool, true, false, not, ◌≡◌, eqb, length, take, drop, get_or}
use mathlib.Core.List.{List, [], ◌∷◌, ◌++◌}
use Rattle.std.proofs.Math.Path.{refl, sym}
use Rattle.std.proofs.Common.{◌∙◌, ap, le_refl, add-one, arith, length-append, length-drop, drop_of_length-le}
use Rattle.std.proofs.Math.Seq.{drop-cons, take-append_seam}
use Rattle.lists.specs.Parts.{part}
use Rattle.lists.specs.Tests.{if_b, split}

-- The class of all bytes but one.
abbrev pub is_not : ℕ → ℕ → Bool
is_not b x = not (eqb x b)

unfoldable pub run : (ℕ → Bool) → List ℕ → List ℕ
run p [] = []
run p (b ∷ s) = if_b (p b) (λ _. b ∷ run p s) (λ _. [])

unfoldable pub after_run : (ℕ → Bool) → List ℕ → List ℕ
after_run p [] = []
after_run p (b ∷ s) = if_b (p b) (λ _. after_run p s) (λ _. b ∷ s)

module _ (p : ℕ → Bool) where
  pub run_append : (s : List ℕ) → run p s ++ after_run p s ≡ s
  unfolding run after_run
  run_append [] = refl
  run_append (b ∷ s) =
      split (p b) (λ (e : p b ≡ true). rw e (ap (λ (l : List ℕ). b ∷ l) (run_append s))) (λ (e : p b ≡ false). rw e)

  -- The run stops at a byte of another class, or at the end.
  pub run_stops : (s : List ℕ) (b : ℕ) (t : List ℕ) → after_run p s ≡ b ∷ t → p b ≡ false
  unfolding after_run
  run_stops [] b t h = cc
  run_stops (x ∷ s) b t h =
      split (p x)
      (λ (e : p x ≡ true). run_stops s b t (rw e at h))
      (λ (e : p x ≡ false).
      let q : x ∷ s ≡ b ∷ t = rw e at h in
      let d : x ≡ b = cc in
      rw (← d) e)

  pub take_run : (s : List ℕ) → take (length (run p s)) s ≡ run p s
  take_run s = ap (take (length (run p s))) (sym (run_append s)) ∙ take-append_seam (run p s) (after_run p s)

-- A reader goes from place i to place r, where what is left is f of what was left.
pub record Reads (f : List ℕ → List ℕ) (s : List ℕ) (i r : ℕ) : Type 0 where
  pub forward : i ≤ r
  pub within : r ≤ length s
  pub rest : drop r s ≡ f (drop i s)

-- A place is told by how much is left.
pub reads_place : {f : List ℕ → List ℕ} {s : List ℕ} {i r : ℕ} → Reads f s i r → r ≡ length s - length (f (drop i s))
reads_place {f} {s} {i} {r} a = rw (← a.rest, length-drop r s) (omega (arith, a.within))

-- What a scan passes is the run.
pub part_run : (p : ℕ → Bool) {s : List ℕ} {i r : ℕ} → Reads (after_run p) s i r → part s i r ≡ run p (drop i s)
part_run p {s} {i} {r} a =
    let n : r - i ≡ length (run p (drop i s)) =
    omega (
      arith,
      a.forward,
      a.within,
      length-drop i s,
      length-drop r s,
      ap length a.rest,
      simp length-append at (ap length (run_append p (drop i s))),
    ) in
    rw n (take_run p (drop i s))

-- The state of a loop that scans from i and is at k.
pub record Scanning (p : ℕ → Bool) (s : List ℕ) (i k : ℕ) : Type 0 where
  pub forward : i ≤ k
  pub within : k ≤ length s
  pub rest : after_run p (drop i s) ≡ after_run p (drop k s)

pub scan_begin : {p : ℕ → Bool} {s : List ℕ} {i : ℕ} → i ≤ length s → Scanning p s i i
scan_begin h = record { forward = le_refl _; within = h; rest = refl }

module _ {p : ℕ → Bool} {s : List ℕ} {i k : ℕ} (a : Scanning p s i k) where
  pub scan_more : k < length s → p (get_or s k 0) ≡ true → Scanning p s i (k + 1)
  unfolding after_run
  scan_more h e =
      record {
        forward = omega (arith, a.forward);
        within = omega arith;
        rest = a.rest ∙ rw (add-one, drop-cons s k 0 h, e);
      }

  pub scan_stop : k < length s → p (get_or s k 0) ≡ false → Reads (after_run p) s i k
  unfolding after_run
  scan_stop h e =
      record { forward = a.forward; within = a.within; rest = sym (a.rest ∙ rw (drop-cons s k 0 h, e)) }

  pub scan_end : length s ≤ k → Reads (after_run p) s i k
  unfolding after_run
  scan_end h = record { forward = a.forward; within = a.within; rest = sym (a.rest ∙ rw (drop_of_length-le s {i = k} h)) }

  -- The same, told by the length, as a `for` over the places ends.
  pub scan_all : length s ≤ k → Reads (after_run p) s i (length s)
  scan_all h = let e : k ≡ length s = omega (arith, a.within) in rw e at (scan_end h)
