-- A turn of the loops over a path and over a value, and what the ways out of these loops give.
use Prim.Native.Nat.{ℕ, ◌+◌, ◌-◌, ◌≤◌, ◌<◌}
use mathlib.Core.Bool.{Bool, true, false, ◌||◌}
use mathlib.Core.List.{List}
use mathlib.Core.Option.{none, some}
use mathlib.Core.Path.{◌≡◌, sym, ◌∙◌, ap}
use native.Mathlib.Omega.{arith}
use borrow.Author.Tests.{eq-eqb, eqb-true, ne_eqb}
use lib.Dec.{eqb}
use lib.ListN.{length, drop, get_or, length-drop}
use Rattle.spec.specs.Bytes.{dollar, class_of}
use Rattle.spec.specs.Dollars.{element, bad_in, bad_dollar}
use Rattle.spec.specs.Forms.{path_stop}
use Rattle.scan_classes.proofs.Sorted.{sorted}
use Rattle.scan_dollars.specs.Element.{rest_of, DollarPassed}
use Rattle.scan_raw.specs.Texts.{PathEnds, PathBad, ValueBad}
use Rattle.scan_tokens.proofs.Places.{Going, going_on, at_cons, at_end}
use Rattle.scan_raw.proofs.Look.{look, look_end, look_stop, look_byte, look_past, look_wrong}

module _ (ends : ℕ → Bool) {s : List ℕ} {i j : ℕ} (a : Going (look ends) s i j) where
  pub text_end : length s ≤ j → look ends (drop i s) ≡ (drop j s, true)
  text_end h = a.same ∙ rw (at_end s j h) (look_end ends)

  module _ (h : j < length s) where
    pub text_stop : ends (get_or s j 0) ≡ true → look ends (drop i s) ≡ (drop j s, true)
    text_stop e = a.same ∙ rw (at_cons s j h) (look_stop ends _ _ e)

    pub text_byte : ends (get_or s j 0) ≡ false → eqb (get_or s j 0) dollar ≡ false → Going (look ends) s i (j + 1)
    text_byte e d = going_on a (omega arith) (omega arith) (rw (at_cons s j h) (look_byte ends _ _ e d))

    module _ (o : ends dollar ≡ false) (d : get_or s j 0 ≡ dollar) where
      goes_on : ends (get_or s j 0) ≡ false
      goes_on = rw d o

      pub text_past : {n : ℕ} → DollarPassed s (j + 1) n → Going (look ends) s i n
      text_past f =
          going_on a (omega (arith, f.forward)) f.within (rw (at_cons s j h) (look_past ends _ _ goes_on (eq-eqb _ _ d) f.rest))

      pub text_bad : rest_of (element (drop (j + 1) s)) ≡ none → look ends (drop i s) ≡ (drop j s, false)
      text_bad q = a.same ∙ rw (at_cons s j h) (look_wrong ends _ _ goes_on (eq-eqb _ _ d) q)

-- ---- the offset of a bad `$`

module _ (ends : ℕ → Bool) (s : List ℕ) (i j : ℕ) where
  none_bad : look ends (drop i s) ≡ (drop j s, true) → bad_in ends (drop i s) ≡ none
  unfolding bad_in
  none_bad e = rw (ap (λ (x : List ℕ × Bool). x.1) e)

  bad_at : i ≤ j → j < length s → look ends (drop i s) ≡ (drop j s, false) → bad_in ends (drop i s) ≡ some (j - i)
  unfolding bad_in
  bad_at h k e =
      let n : length (drop i s) - length (drop j s) ≡ j - i = omega (arith, length-drop i s, length-drop j s) in
      rw (ap (λ (x : List ℕ × Bool). x.1) e, ap (λ (x : List ℕ × Bool). x.0) e, n)

-- ---- a path from i

module _ {s : List ℕ} {i j : ℕ} (a : Going (look path_stop) s i j) where
  pub path_ends : look path_stop (drop i s) ≡ (drop j s, true) → PathEnds s i j
  path_ends e =
      record {
        reads = record { forward = a.forward; within = a.within; rest = sym (ap (λ (x : List ℕ × Bool). x.0) e) };
        sound = none_bad path_stop s i j e;
      }

  pub path_bad : j < length s → look path_stop (drop i s) ≡ (drop j s, false) → PathBad s i j
  path_bad h e = record { forward = a.forward; within = h; bad = bad_at path_stop s i j a.forward h e }

-- ---- a raw value

module _ (s : List ℕ) (j : ℕ) where
  pub value_ends : look (λ b. false) s ≡ (drop j s, true) → bad_dollar s ≡ none
  unfolding bad_dollar
  value_ends e = none_bad (λ b. false) s 0 j e

  pub value_bad : j < length s → look (λ b. false) s ≡ (drop j s, false) → ValueBad s j
  unfolding bad_dollar
  value_bad h e =
      let z : j - 0 ≡ j = omega arith in
      record { within = h; bad = bad_at (λ b. false) s 0 j (omega arith) h e ∙ ap some z }

-- ---- classes

-- a path goes on at a byte of any other class
pub path_goes_on : (b : ℕ) {c : ℕ} → c ≡ class_of b → (c ≡ 3 → ⊥) → (c ≡ 6 → ⊥) → (c ≡ 7 → ⊥) → path_stop b ≡ false
unfolding path_stop
path_goes_on b {c} e p q r =
    rw ((sorted b).space, (sorted b).colon, (sorted b).bar, ← e, ne_eqb c 3 p, ne_eqb c 6 q, ne_eqb c 7 r)

pub path_stops : (b : ℕ) {c : ℕ} → c ≡ class_of b → eqb c 3 || eqb c 6 || eqb c 7 ≡ true → path_stop b ≡ true
unfolding path_stop
path_stops b e h = rw ((sorted b).space, (sorted b).colon, (sorted b).bar, ← e) h

pub class_dollar : (b : ℕ) {c : ℕ} → c ≡ class_of b → c ≡ 5 → b ≡ dollar
class_dollar b e h = eqb-true b dollar (rw ((sorted b).dollar, ← e, h))

pub class_other : (b : ℕ) {c : ℕ} → c ≡ class_of b → (c ≡ 5 → ⊥) → eqb b dollar ≡ false
class_other b e h = rw ((sorted b).dollar, ← e) (ne_eqb _ _ h)
