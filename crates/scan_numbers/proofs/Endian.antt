-- Little-endian numbers in a list of bytes: by their first byte, in two halves, and at a place of what is left.
use Prim.Native.Nat.{ℕ, suc, ◌+◌, ◌*◌, ◌≤◌, ◌<◌}
use mathlib.Core.List.{List}
use mathlib.Core.Path.{◌≡◌, refl}
use native.Mathlib.Numerals.{add-one}
use native.Mathlib.Omega.{arith}
use lib.ListN.{length, get_or}
use mir.Syntax.{w8}
use mir.Val.{Fits}
use lib.Seq.{drop-cons}
use Rattle.spec.specs.Card.{little_endian, number_at}
use Rattle.scan_numbers.specs.Numbers.{NumberIs}

pub number_cons : (s : List ℕ) (at size : ℕ) → at < length s → number_at at (suc size) s ≡ get_or s at 0 + 256 * number_at (at + 1) size s
unfolding number_at little_endian
number_cons s at size h = rw (drop-cons s at 0 h, add-one at)

pub number_none : (s : List ℕ) (at : ℕ) → number_at at 0 s ≡ 0
unfolding number_at little_endian
number_none s at = refl

module _ (s : List ℕ) (at : ℕ) (h : at + 4 ≤ length s) where
  four_bytes : (size : ℕ) → number_at at (suc (suc (suc (suc size)))) s ≡ get_or s at 0 + get_or s (at + 1) 0 * 256 + get_or s (at + 2) 0 * 65536 + get_or s (at + 3) 0 * 16777216 + number_at (at + 4) size s * 4294967296
  four_bytes size =
      let a : at + 1 + 1 ≡ at + 2 = omega arith in
      let b : at + 2 + 1 ≡ at + 3 = omega arith in
      let d : at + 3 + 1 ≡ at + 4 = omega arith in
      let e0 = number_cons s at (suc (suc (suc size))) (omega arith) in
      let e1 = rw a at (number_cons s (at + 1) (suc (suc size)) (omega arith)) in
      let e2 = rw b at (number_cons s (at + 2) (suc size) (omega arith)) in
      let e3 = rw d at (number_cons s (at + 3) size (omega arith)) in
      omega arith

  -- four bytes as the library adds them up
  pub word_is : ((i : ℕ) → Fits w8 (get_or s i 0)) →
      NumberIs s at 4 (get_or s at 0 + get_or s (at + 1) 0 * 256 + get_or s (at + 2) 0 * 65536 + get_or s (at + 3) 0 * 16777216)
  word_is f =
      record {
        is = omega (arith, four_bytes 0, number_none s (at + 4));
        small = omega (arith, (f at).fits, (f (at + 1)).fits, (f (at + 2)).fits, (f (at + 3)).fits);
      }

pub long_is : (s : List ℕ) (at : ℕ) {l h : ℕ} → at + 8 ≤ length s → NumberIs s at 4 l → NumberIs s (at + 4) 4 h → NumberIs s at 8 (l + h * 4294967296)
long_is s at {l} {h} b p q =
    record {
      is = omega (arith, four_bytes s at (omega arith) 0, number_none s (at + 4), four_bytes s at (omega arith) 4, p.is, q.is);
      small = omega (arith, p.small, q.small);
    }
