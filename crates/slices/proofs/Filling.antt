-- What a part of a list that is filled with zeros leaves.
use Prim.Native.Nat.{ℕ, ◌+◌, ◌-◌, ◌≤◌, ◌<◌}
use mathlib.Core.List.{List}
use mathlib.Core.Path.{◌≡◌, refl, sym, ◌∙◌, ap}
use native.Mathlib.Nat.{le_antisymm}
use native.Mathlib.Numerals.{add-one}
use native.Mathlib.Omega.{arith}
use borrow.Rule.Slice.PartMut.{put_mid, mid_of}
use lib.ListN.{length, get_or, set, length-set, length-take, length-drop}
use lib.Seq.{paste, paste-zero, paste-suc}
use Rattle.std.proofs.lemmas.Slice.{put_mid-paste}
use Rattle.lists.specs.Fill.{zeros, zeroed, length_zeros, zeroed_paste}

pub zeroes : (d now : List ℕ) (from to : ℕ) → from ≤ to → to ≤ length d → now ≡ zeros (length (mid_of from (to - from) d)) → put_mid from (to - from) d now ≡ zeroed d from to
zeroes d now from to h k e =
    let n = to - from in
    let l : length (mid_of from n d) ≡ n = simp (length-take, length-drop) (omega arith) in
    put_mid-paste _ _ _ _ (zeros n) n (e ∙ ap zeros l) refl (sym (length_zeros n)) ∙ sym (zeroed_paste d from to h)

-- ---- a copy of s into d at a place, of which i are copied

pub record Copying (d : List ℕ) (at : ℕ) (s now : List ℕ) (i : ℕ) : Type 0 where
  pub within : i ≤ length s
  pub long : length now ≡ length d
  pub copied : now ≡ paste d at s i

pub copy_begin : {d : List ℕ} {at : ℕ} {s : List ℕ} → Copying d at s d 0
copy_begin {d} {at} {s} = record { within = omega arith; long = refl; copied = paste-zero d at s }

module _ {d : List ℕ} {at : ℕ} {s now : List ℕ} {i : ℕ} (r : Copying d at s now i) where
  pub copy_more : at + length s ≤ length d → i < length s → Copying d at s (set now (at + i) (get_or s i 0)) (i + 1)
  copy_more f h =
      record {
        within = omega arith;
        long = simp length-set r.long;
        copied = rw (r.copied, add-one i) (paste-suc d at s i 0 (omega arith) h);
      }

  pub copy_end : length s ≤ i → now ≡ paste d at s (length s)
  copy_end h = rw (le_antisymm h r.within) r.copied
