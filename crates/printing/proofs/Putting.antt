-- Texts put into the line one behind another, and the line's end.
use Prim.Native.Nat.{ℕ, zero, suc, ◌+◌, ◌-◌, ◌*◌, ◌≤◌, ◌<◌}
use native.Mathlib.Numerals.{add-one}
use native.Mathlib.Omega.{arith}
use mathlib.Core.List.{List, [], ◌∷◌, ◌++◌, append-nil, append_assoc}
use mathlib.Core.Path.{◌≡◌, refl, sym, ◌∙◌, ap}
use lib.ListN.{length, take, get_or, set, length-append, length-set, replicate}
use lib.Seq.{paste, take-paste, take-length, take-suc-set, take-suc, drop-length, length-take-le}
use Rattle.io.specs.Digits.{last_digits, IsDigitCount}
use Rattle.lists.specs.Fill.{zeroed}
use Rattle.lists.specs.Text.{bytes}
use Rattle.spec.specs.Answers.{Place, plain}
use Rattle.spec.specs.Promises.{filled}
use Rattle.answers.specs.Numbers.{place_by}
use Rattle.printing.specs.Lines.{decimal, worded, place_text, refused_text, refused_line, spaced, circle_line, circle_output, head_of, step_line_of}
use Rattle.printing.specs.Writes.{step_room, place_room, refused_room, PutsInLine, PutsUpTo, LeavesOutput}
use Rattle.printing.proofs.Digits.{decimal_of_law}

pub put_law : (s d e : List ℕ) (at r : ℕ) → at + length s ≤ length d → e ≡ paste d at s (length s) → r ≡ at + length s → PutsInLine s d at e r
put_law s d e at r h w n =
    record {
      end = n;
      front = rw (n, w) (take-paste d at s (length s) (omega arith) (omega arith) ∙ ap (λ (l : List ℕ). take at d ++ l) (take-length s));
    }

pub puts_then : {s t d e f : List ℕ} {at m r : ℕ} → PutsInLine s d at e m → PutsInLine t e m f r → PutsInLine (s ++ t) d at f r
puts_then {s} {t} {d} {e} {f} {at} {m} {r} a b =
    record {
      end = rw (length-append s t) (omega (arith, a.end, b.end));
      front = b.front ∙ ap (λ (l : List ℕ). l ++ t) a.front ∙ append_assoc (take at d) s t;
    }

pub number_law : (n k : ℕ) (out : List ℕ) {d e : List ℕ} {at r : ℕ} → IsDigitCount 10 1 n k → take k out ≡ last_digits 10 k n → k ≡ length (take k out) → k ≤ 20
    → PutsInLine (take k out) d at e r → PutsUpTo 20 (decimal n) d at e r
number_law n k out {d} {e} {at} {r} w t c h p =
    let q : take k out ≡ decimal n = t ∙ decimal_of_law k n w in
    record { puts = rw q at p; short = omega (arith, p.end) }

pub worded_law : (n : ℕ) {w d e f : List ℕ} {at m r : ℕ} → PutsInLine w d at e m → PutsUpTo 20 (decimal n) e m f r → PutsUpTo (length w + 20) (worded w n) d at f r
unfolding worded
worded_law n a b = record { puts = puts_then a b.puts; short = omega (arith, a.end, b.short) }

pub end_law : (d e : List ℕ) (at r : ℕ) → at < length d → e ≡ zeroed (set d at 10) (at + 1) (length (set d at 10)) → r ≡ at + 1
    → LeavesOutput (take at d ++ (10 ∷ [])) d r e
unfolding zeroed filled
end_law d e at r h w n =
    let long : length (take at d ++ (10 ∷ [])) ≡ at + 1 = length-append (take at d) (10 ∷ []) ∙ ap (λ (k : ℕ). k + 1) (length-take-le at d (omega arith)) in
    let t : take (at + 1) (set d at 10) ≡ take at d ++ (10 ∷ []) = rw add-one (take-suc-set d at 10 h) in
    record {
      count = n ∙ sym long;
      left = w ∙ rw (t, drop-length (set d at 10), length-set d at 10, long) (append-nil (take at d ++ (10 ∷ []) ++ replicate (length d - (at + 1)) 0));
    }

-- A text from the line's start, ended.
pub ended_law : {s d e f : List ℕ} {m r : ℕ} → length e ≡ length d → PutsInLine s d 0 e m → LeavesOutput (take m e ++ (10 ∷ [])) e r f → LeavesOutput (s ++ (10 ∷ [])) d r f
unfolding filled
ended_law {s} {d} {e} {f} {m} {r} k p l =
    let q : take m e ≡ s = p.front in
    record { count = rw q at l.count; left = rw (q, k) at l.left }

-- One text of a bounded length behind another.
pub up_to_then : {a b : ℕ} {s t d e f : List ℕ} {at m r : ℕ} → PutsUpTo a s d at e m → PutsUpTo b t e m f r → PutsUpTo (a + b) (s ++ t) d at f r
up_to_then p q = record { puts = puts_then p.puts q.puts; short = omega (arith, p.short, q.short) }

-- A text is as long as it is.
pub up_to_length : {s d e : List ℕ} {at r : ℕ} → PutsInLine s d at e r → PutsUpTo (length s) s d at e r
up_to_length p = record { puts = p; short = omega (arith, p.end) }

-- Steps behind spaces, one more at the end.
pub spaced_snoc : (l : List ℕ) (s : ℕ) → spaced (l ++ (s ∷ [])) ≡ spaced l ++ worded (32 ∷ []) s
unfolding spaced
spaced_snoc [] s = append-nil (worded (32 ∷ []) s)
spaced_snoc (x ∷ l) s = ap (λ (r : List ℕ). worded (32 ∷ []) x ++ r) (spaced_snoc l s) ∙ sym (append_assoc (worded (32 ∷ []) x) (spaced l) (worded (32 ∷ []) s))

-- the first i steps stand in the line
pub record Spaced (steps d : List ℕ) (at : ℕ) (e : List ℕ) (m i : ℕ) : Type 0 where
  pub within : i ≤ length steps
  pub kept : length e ≡ length d
  pub puts : PutsUpTo (21 * i) (spaced (take i steps)) d at e m

pub spaced_start : (steps d : List ℕ) (at : ℕ) → Spaced steps d at d at 0
unfolding spaced
spaced_start steps d at =
    record {
      within = omega arith;
      kept = refl;
      puts = record { puts = record { end = omega arith; front = sym (append-nil (take at d)) }; short = omega arith };
    }

pub spaced_more : {steps d e f : List ℕ} {at m r i : ℕ} (s : ℕ) → i < length steps → s ≡ get_or steps i 0 → length f ≡ length e → Spaced steps d at e m i
    → PutsUpTo 21 (worded (32 ∷ []) s) e m f r → Spaced steps d at f r (i + 1)
spaced_more {steps} {d} {e} {f} {at} {m} {r} {i} s h w k p q =
    let z : 21 * (i + 1) ≡ 21 * i + 21 = omega arith in
    let y : spaced (take (i + 1) steps) ≡ spaced (take i steps) ++ worded (32 ∷ []) s = rw (add-one, take-suc steps i 0 h, ← w) (spaced_snoc (take i steps) s) in
    record { within = omega arith; kept = k ∙ p.kept; puts = rw (z, y) (up_to_then p.puts q) }

pub spaced_end : {steps d e : List ℕ} {at m i : ℕ} → length steps ≤ i → Spaced steps d at e m i → PutsUpTo (21 * length steps) (spaced steps) d at e m
spaced_end {steps} {d} {e} {at} {m} {i} h p =
    let z : length steps ≡ i = omega (arith, p.within) in
    let y : take i steps ≡ steps = rw (← z) (take-length steps) in
    rw z (rw y at p.puts)

-- a number by itself
pub place_plain : (t v : ℕ) {d e : List ℕ} {at r : ℕ} → t ≡ 0 → PutsUpTo 20 (decimal v) d at e r → PutsUpTo place_room (place_text (place_by t v)) d at e r
unfolding place_text
place_plain t v h p = rw h (record { puts = p.puts; short = omega (arith, p.short) })

-- in a text
pub place_in_text : (t v : ℕ) {d e f : List ℕ} {at m r : ℕ} → (t ≡ 0 → ⊥) → PutsUpTo 20 (decimal (t - 1)) d at e m → PutsUpTo 21 (worded (bytes ":") v) e m f r
    → PutsUpTo place_room (place_text (place_by t v)) d at f r
unfolding place_text
place_in_text zero v h p q = absurd (h refl)
place_in_text (suc k) v h p q = let z : suc k - 1 ≡ k = omega arith in up_to_then (rw z at p) q

-- "refused N at P"
pub refused_law : (n : ℕ) (p : Place) {d e f g : List ℕ} {i j r : ℕ} → PutsUpTo 28 (worded (bytes "refused ") n) d 0 e i → PutsInLine (bytes " at ") e i f j
    → PutsUpTo place_room (place_text p) f j g r → PutsUpTo refused_room (refused_text n p) d 0 g r
unfolding refused_text
refused_law n p a b c = up_to_then (up_to_then a (up_to_length b)) c

pub head_law : (k n : ℕ) {d e f g : List ℕ} {at i j r : ℕ} → PutsUpTo 21 (worded (bytes "[") k) d at e i → PutsUpTo 21 (worded (bytes "/") n) e i f j
    → PutsInLine (bytes "] ") f j g r → PutsUpTo 44 (head_of k n) d at g r
unfolding head_of
head_law k n p q s = up_to_then (up_to_then p q) (up_to_length s)

-- the head, the text and the line end
pub step_law : (k n : ℕ) {t d e f g : List ℕ} {at i j r : ℕ} → PutsUpTo 44 (head_of k n) d at e i → PutsInLine t e i f j → PutsInLine (10 ∷ []) f j g r
    → PutsUpTo (length t + step_room) (step_line_of k n t) d at g r
unfolding step_line_of
step_law k n p q s = record { puts = puts_then (puts_then p.puts q) s; short = omega (arith, p.short, q.end, s.end) }

pub said_refused : (n : ℕ) (p : Place) {d e f : List ℕ} {m r : ℕ} → length e ≡ length d → PutsUpTo refused_room (refused_text n p) d 0 e m → LeavesOutput (take m e ++ (10 ∷ [])) e r f
    → LeavesOutput (refused_line n p) d r f
unfolding refused_line
said_refused n p k w l = ended_law k w.puts l

regroup : (a n w l : List ℕ) → a ++ (n ++ w) ++ l ++ n ≡ a ++ n ++ (w ++ l ++ n)
regroup a n w l = simp append_assoc

-- the refusal, a line end and the word, and the steps
pub said_circle : (l : List ℕ) {d e f g h : List ℕ} {i j m r : ℕ} → length g ≡ length d → PutsUpTo refused_room (refused_text 14 (plain (length l))) d 0 e i
    → PutsInLine (10 ∷ bytes "circle") e i f j → PutsUpTo (21 * length l) (spaced l) f j g m → LeavesOutput (take m g ++ (10 ∷ [])) g r h → LeavesOutput (circle_output l) d r h
unfolding circle_output refused_line circle_line
said_circle l k p w q t =
    rw (regroup (refused_text 14 (plain (length l))) (10 ∷ []) (bytes "circle") (spaced l)) at (ended_law k (puts_then (puts_then p.puts w) q.puts) t)

-- What is left in the lent buffer lies within it.
pub leaves_within : {out lent exit : List ℕ} {n : ℕ} → length exit ≡ length lent → LeavesOutput out lent n exit → n ≤ length exit
unfolding filled
leaves_within {out} {lent} {exit} {n} k l =
    let a : length exit ≡ length out + length (replicate {0} {A = ℕ} (length lent - length out) 0) =
    ap length l.left ∙ length-append out (replicate (length lent - length out) 0) in
    omega (arith, l.count)
