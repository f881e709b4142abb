-- A raw text read from the front, turn by turn: where it ends, or where its first bad `$` stands. A path and a value differ only in what ends them. What a
-- `$` begins is passed whole.
use Prim.Native.Nat.{ℕ, zero, suc, ◌-◌, ◌≤◌}
use mathlib.Core.Bool.{Bool, true, false, not, ◌&&◌}
use mathlib.Core.List.{List, [], ◌∷◌}
use mathlib.Core.Option.{none, some}
use mathlib.Core.Path.{◌≡◌, refl, ap}
use native.Mathlib.Nat.{le_refl, not-suc-le-zero}
use native.Mathlib.Omega.{arith}
use lib.Dec.{eqb}
use lib.ListN.{length, length-append}
use Rattle.lists.specs.Tests.{split}
use Rattle.lists.specs.Runs.{run, after_run, run_append}
use Rattle.spec.specs.Basics.{is_empty}
use Rattle.spec.specs.Bytes.{newline, dollar, open_brace, close_brace, short_byte, name_byte}
use Rattle.spec.specs.Lines.{is_space}
use Rattle.spec.specs.Dollars.{Element, literal, joins, names, wrong, escaped, braced, element, byte, ref, Raw, with_piece, go_on, read_up, read_raw, bad_in}
use Rattle.scan_dollars.specs.Element.{rest_of}

-- ---- what follows a `$` is no longer than what stands behind it

run_shorter : (p : ℕ → Bool) (s : List ℕ) → length (after_run p s) ≤ length s
run_shorter p s = omega (arith, simp length-append at (ap length (run_append p s)))

braced_shorter : (n s r : List ℕ) → rest_of (braced n s) ≡ some r → length r ≤ length s
unfolding braced rest_of
braced_shorter n [] r e = let z : ◌≡◌ {A = ℕ} 0 1 = cc in omega arith
braced_shorter n (b ∷ s) r e =
    split (eqb b close_brace && not (is_empty n))
    (λ (t : eqb b close_brace && not (is_empty n) ≡ true).
    let d : some s ≡ some r = rw t at e in
    let z : s ≡ r = cc in
    rw (← z) (omega arith))
    (λ (t : eqb b close_brace && not (is_empty n) ≡ false).
    let d : none ≡ some r = rw t at e in
    let z : ◌≡◌ {A = ℕ} 0 1 = cc in
    omega arith)

pub element_shorter : (s r : List ℕ) → rest_of (element s) ≡ some r → length r ≤ length s
unfolding element rest_of
element_shorter [] r e = let z : ◌≡◌ {A = ℕ} 0 1 = cc in omega arith
element_shorter (b ∷ s) r e =
    split (escaped b)
    (λ (a : escaped b ≡ true).
    let d : some s ≡ some r = rw a at e in
    let z : s ≡ r = cc in
    rw (← z) (omega arith))
    (λ (a : escaped b ≡ false).
    split (eqb b newline)
    (λ (c : eqb b newline ≡ true).
    let d : some (after_run is_space s) ≡ some r = rw (a, c) at e in
    let z : after_run is_space s ≡ r = cc in
    rw (← z) (omega (arith, run_shorter is_space s)))
    (λ (c : eqb b newline ≡ false).
    split (eqb b open_brace)
    (λ (o : eqb b open_brace ≡ true).
    let d : rest_of (braced (run name_byte s) (after_run name_byte s)) ≡ some r = rw (a, c, o) at e in
    omega (arith, braced_shorter (run name_byte s) (after_run name_byte s) r d, run_shorter name_byte s))
    (λ (o : eqb b open_brace ≡ false).
    split (short_byte b)
    (λ (t : short_byte b ≡ true).
    let d : some (after_run short_byte s) ≡ some r = rw (a, c, o, t) at e in
    let z : after_run short_byte s ≡ r = cc in
    rw (← z) (omega (arith, run_shorter short_byte s)))
    (λ (t : short_byte b ≡ false).
    let d : none ≡ some r = rw (a, c, o, t) at e in
    let z : ◌≡◌ {A = ℕ} 0 1 = cc in
    omega arith))))

-- ---- the number of turns does not matter, where it is as great as the number of bytes

go_on_same : (t : List ℕ) (x : Element) (f g : List ℕ → Raw) → ((r : List ℕ) → rest_of x ≡ some r → f r ≡ g r) → go_on t x f ≡ go_on t x g
unfolding go_on rest_of
go_on_same t (literal b s) f g h = ap (with_piece (byte b)) (h s refl)
go_on_same t (joins s) f g h = h s refl
go_on_same t (names n s) f g h = ap (with_piece (ref n)) (h s refl)
go_on_same t wrong f g h = refl

enough : (ends : ℕ → Bool) (k l : ℕ) (s : List ℕ) → length s ≤ k → length s ≤ l → read_up ends k s ≡ read_up ends l s
unfolding read_up
enough ends zero zero s a b = refl
enough ends zero (suc l) [] a b = refl
enough ends zero (suc l) (x ∷ s) a b = absurd (not-suc-le-zero a)
enough ends (suc k) zero [] a b = refl
enough ends (suc k) zero (x ∷ s) a b = absurd (not-suc-le-zero b)
enough ends (suc k) (suc l) [] a b = refl
enough ends (suc k) (suc l) (x ∷ s) a b =
    split (ends x) (λ (e : ends x ≡ true). rw e)
    (λ (e : ends x ≡ false).
    split (eqb x dollar)
    (λ (d : eqb x dollar ≡ true).
    rw (e, d)
    (go_on_same (x ∷ s) (element s) (read_up ends k) (read_up ends l)
    (λ r q. let h : length r ≤ length s = element_shorter s r q in enough ends k l r (omega arith) (omega arith))))
    (λ (d : eqb x dollar ≡ false). rw (e, d) (ap (with_piece (byte x)) (enough ends k l s (omega arith) (omega arith)))))

-- ---- one turn

module _ (ends : ℕ → Bool) where
  pub raw_end : read_raw ends [] ≡ record { pieces = []; rest = []; sound = true }
  unfolding read_raw read_up
  raw_end = refl

  pub raw_stop : (b : ℕ) (s : List ℕ) → ends b ≡ true → read_raw ends (b ∷ s) ≡ record { pieces = []; rest = b ∷ s; sound = true }
  unfolding read_raw read_up
  raw_stop b s e = rw e

  module _ (b : ℕ) (s : List ℕ) (e : ends b ≡ false) where
    pub raw_byte : eqb b dollar ≡ false → read_raw ends (b ∷ s) ≡ with_piece (byte b) (read_raw ends s)
    unfolding read_raw read_up
    raw_byte d = rw (e, d)

    pub raw_dollar : eqb b dollar ≡ true → read_raw ends (b ∷ s) ≡ go_on (b ∷ s) (element s) (read_raw ends)
    unfolding read_raw read_up
    raw_dollar d =
        rw (e, d)
        (go_on_same (b ∷ s) (element s) (read_up ends (length s)) (λ r. read_up ends (length r) r)
        (λ r q. enough ends (length s) (length r) r (element_shorter s r q) (le_refl _)))

-- ---- what is looked for: what follows, and whether all is sound

abbrev pub look_of : Raw → List ℕ × Bool
look_of r = (r.rest, r.sound)

abbrev pub look : (ℕ → Bool) → List ℕ → List ℕ × Bool
look ends s = look_of (read_raw ends s)

go_on_rest : (t : List ℕ) (x : Element) (f : List ℕ → Raw) (r : List ℕ) → rest_of x ≡ some r → look_of (go_on t x f) ≡ look_of (f r)
unfolding go_on rest_of with_piece
go_on_rest t (literal b s) f r e = ap (λ (l : List ℕ). look_of (f l)) (let z : s ≡ r = cc in z)
go_on_rest t (joins s) f r e = ap (λ (l : List ℕ). look_of (f l)) (let z : s ≡ r = cc in z)
go_on_rest t (names n s) f r e = ap (λ (l : List ℕ). look_of (f l)) (let z : s ≡ r = cc in z)
go_on_rest t wrong f r e = cc

go_on_none : (t : List ℕ) (x : Element) (f : List ℕ → Raw) → rest_of x ≡ none → look_of (go_on t x f) ≡ (t, false)
unfolding go_on rest_of
go_on_none t (literal b s) f e = cc
go_on_none t (joins s) f e = cc
go_on_none t (names n s) f e = cc
go_on_none t wrong f e = refl

module _ (ends : ℕ → Bool) where
  pub look_end : look ends [] ≡ ([], true)
  look_end = ap look_of (raw_end ends)

  pub look_stop : (b : ℕ) (s : List ℕ) → ends b ≡ true → look ends (b ∷ s) ≡ (b ∷ s, true)
  look_stop b s e = ap look_of (raw_stop ends b s e)

  module _ (b : ℕ) (s : List ℕ) (e : ends b ≡ false) where
    pub look_byte : eqb b dollar ≡ false → look ends (b ∷ s) ≡ look ends s
    unfolding with_piece
    look_byte d = ap look_of (raw_byte ends b s e d)

    module _ (d : eqb b dollar ≡ true) where
      pub look_past : {r : List ℕ} → rest_of (element s) ≡ some r → look ends (b ∷ s) ≡ look ends r
      look_past {r} q = rw (raw_dollar ends b s e d) (go_on_rest (b ∷ s) (element s) (read_raw ends) r q)

      pub look_wrong : rest_of (element s) ≡ none → look ends (b ∷ s) ≡ (b ∷ s, false)
      look_wrong q = rw (raw_dollar ends b s e d) (go_on_none (b ∷ s) (element s) (read_raw ends) q)

-- ---- in the rules' words

module _ (ends : ℕ → Bool) (s : List ℕ) where
  pub sound_none : (read_raw ends s).sound ≡ true → bad_in ends s ≡ none
  unfolding bad_in
  sound_none e = rw e

  pub none_sound : bad_in ends s ≡ none → (read_raw ends s).sound ≡ true
  unfolding bad_in
  none_sound h =
      split (read_raw ends s).sound (λ (e : (read_raw ends s).sound ≡ true). e)
      (λ (e : (read_raw ends s).sound ≡ false).
      let d : some (length s - length (read_raw ends s).rest) ≡ none = rw e at h in
      cc)
