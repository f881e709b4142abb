-- Loops over the marks of a text: gaps, blank lines, targets up to the colon.
use Prim.Native.Nat.{ℕ, ◌-◌, ◌≤◌, ◌<◌}
use mathlib.Core.List.{List, [], ◌∷◌}
use mathlib.Core.Option.{none}
use mathlib.Core.Path.{◌≡◌, refl, sym, ◌∙◌, ap}
use native.Mathlib.Nat.{le_refl}
use native.Mathlib.Omega.{arith}
use borrow.Author.Tests.{ne_eqb}
use lib.ListN.{length, drop}
use Rattle.depfile.specs.Depfile.{colon_byte, Mark, byte, marks_of}
use Rattle.scan_depfile.specs.Walk.{behind_colon}
use Rattle.scan_depfile.specs.Answers.{NextMark, ReadsMarks, ColonBefore}
use Rattle.scan_depfile.proofs.Places.{no_marks}

-- A loop that reads from place i on is at place k, and f of the marks that are left is f of those that were.
pub record Walking {A : Type 0} (f : List Mark → A) (s : List ℕ) (i k : ℕ) : Type 0 where
  pub forward : i ≤ k
  pub within : k ≤ length s
  pub same : f (marks_of (drop i s)) ≡ f (marks_of (drop k s))

pub walk_begin : {A : Type 0} {f : List Mark → A} {s : List ℕ} {i : ℕ} → i ≤ length s → Walking f s i i
walk_begin h = record { forward = le_refl _; within = h; same = refl }

pub walk_on : {A : Type 0} {f : List Mark → A} {s : List ℕ} {i k n : ℕ} {m : Mark} → Walking f s i k → NextMark s k m n → ((t : List Mark) → f (m ∷ t) ≡ f t) → Walking f s i n
walk_on {f = f} a h e = record { forward = omega (arith, a.forward, h.forward); within = h.within; same = a.same ∙ ap f h.marks ∙ e _ }

pub smaller : {s : List ℕ} {k n : ℕ} {m : Mark} → NextMark s k m n → length s - n < length s - k
smaller h = omega (arith, h.forward, h.within)

-- where f leaves the marks as they are, the reader stops
module _ {f : List Mark → List Mark} {s : List ℕ} {i k : ℕ} (a : Walking f s i k) where
  pub walk_stop : {m : Mark} {n : ℕ} → NextMark s k m n → ((t : List Mark) → f (m ∷ t) ≡ m ∷ t) → ReadsMarks f s i k
  walk_stop h e = record { forward = a.forward; within = a.within; rest = sym (a.same ∙ ap f h.marks ∙ e _ ∙ sym h.marks) }

  pub walk_end : length s ≤ k → f [] ≡ [] → ReadsMarks f s i k
  walk_end l e = record { forward = a.forward; within = a.within; rest = sym (a.same ∙ ap f (no_marks s k l) ∙ e ∙ sym (no_marks s k l)) }

-- ---- the colon

module _ {s : List ℕ} {i k : ℕ} (a : Walking behind_colon s i k) where
  pub colon_found : {b n : ℕ} → NextMark s k (byte b) n → b ≡ colon_byte → ColonBefore s i n
  unfolding behind_colon
  colon_found h e = record { within = h.within; behind = a.same ∙ ap behind_colon h.marks ∙ rw e }

  pub colon_on : {b n : ℕ} → NextMark s k (byte b) n → (b ≡ colon_byte → ⊥) → Walking behind_colon s i n
  unfolding behind_colon
  colon_on {b} h e = walk_on a h (λ t. rw (ne_eqb b colon_byte e))

  pub colon_none : {m : Mark} {n : ℕ} → NextMark s k m n → ((t : List Mark) → behind_colon (m ∷ t) ≡ none) → behind_colon (marks_of (drop i s)) ≡ none
  colon_none h e = a.same ∙ ap behind_colon h.marks ∙ e _

  pub colon_end : length s ≤ k → behind_colon (marks_of (drop i s)) ≡ none
  unfolding behind_colon
  colon_end l = a.same ∙ ap behind_colon (no_marks s k l)
