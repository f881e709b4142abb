-- The numbers of specs/ by what the scanners and the target list promise: a law for each answer.
use Rattle.std.specs.Prelude.{Option, Some, None}
use Prim.Native.Nat.{ℕ, suc, ◌+◌, ◌-◌, ◌*◌, ◌≤◌, min}
use mathlib.Core.Bool.{true, false}
use mathlib.Core.List.{List, [], ◌∷◌}
use mathlib.Core.Option.{none, some}
use mathlib.Core.Path.{◌≡◌, refl, sym, ◌∙◌, ap}
use native.Mathlib.Decide.{dec_le}
use native.Mathlib.Omega.{arith}
use lib.Dec.{eqb}
use lib.ListN.{length, drop, length-drop, drop_of_length-le}
use Rattle.lists.specs.Tests.{split}
use Rattle.lists.specs.Parts.{length_part}
use Rattle.lists.specs.Runs.{Reads, reads_place}
use Rattle.spec.specs.Bytes.{newline, forbidden}
use Rattle.spec.specs.Lines.{is_comment, is_blank, is_indented}
use Rattle.spec.specs.Forms.{no_form, left_at_dollar, not_yet, Cut, fits, fails, then, Paths, with_path, paths}
use Rattle.spec.specs.Manifest.{bad_byte}
use Rattle.spec.specs.Targets.{Target, bad_length}
use Rattle.scan_lines.specs.declared.LineKind.{LineKind}
use Rattle.scan_lines.specs.declared.LineKind.TheVariants.{Comment, Blank, Indented, Statement}
use Rattle.spec.specs.Dollars.{element}
use Rattle.scan_dollars.specs.Element.{rest_of, DollarPassed}
use Rattle.scan_raw.specs.Texts.{PathEnds, PathBad, PathsStop, PathNext, PathsBad, place_of}
use Rattle.scan_lines.specs.Endings.{LineEnded, open_line, LineOpen, kind_of}
use Rattle.scan_targets.specs.declared.NextTarget.{NextTarget}
use Rattle.scan_targets.specs.declared.NextTarget.TheVariants.{End, Bad, Name}
use Rattle.scan_targets.specs.Next.{next_in}
use Rattle.test_scan.specs.Scanners.{or_none, place_after, rest_number, dollar_number, path_cut, path_number, paths_number, end_of, end_number, kind_number}
use Rattle.test_scan.specs.Targets.{target_number}

open_ends : (at : ℕ) (s : List ℕ) → end_of (open_line at s) ≡ 0
unfolding end_of open_line
open_ends at [] = refl
open_ends at (b ∷ s) = refl

-- ---- a start that is no place is the end

module _ (s : List ℕ) (i : ℕ) {k : ℕ} (e : k ≡ min i (length s)) where
  pub drop_start : drop k s ≡ drop i s
  drop_start =
      elim (dec_le i (length s)) [
        | yes h ↦ (let z : k ≡ i = omega arith in rw z)
        | no h ↦ (drop_of_length-le s {i = k} (omega arith) ∙ sym (drop_of_length-le s {i = i} (omega arith)))
      ]

  -- tokens
  pub token : {f : List ℕ → List ℕ} {r : ℕ} → Reads f s k r → r ≡ place_after f s i
  unfolding place_after
  token {f} a = reads_place a ∙ ap (λ (l : List ℕ). length s - length (f l)) drop_start

  -- a dollar
  pub dollar_past : {n : ℕ} → DollarPassed s k n → n + 1 ≡ dollar_number s i
  unfolding dollar_number rest_number
  dollar_past {n} p =
      let z : length s - length (drop n s) ≡ n = omega (arith, length-drop n s, p.within) in
      rw (← drop_start, p.rest, z)

  pub dollar_bad : rest_of (element (drop k s)) ≡ none → 0 ≡ dollar_number s i
  unfolding dollar_number rest_number
  dollar_bad b = rw (← drop_start, b)

  -- a path
  pub path_ends : {r : ℕ} → PathEnds s k r → 2 * r ≡ path_number s i
  unfolding path_number path_cut
  path_ends {r} p = rw (← drop_start, p.sound) (ap (λ (n : ℕ). 2 * n) (token p.reads))

  pub path_bad : {p : ℕ} → PathBad s k p → 2 * p + 1 ≡ path_number s i
  unfolding path_number path_cut
  path_bad {p} b =
      let z : k ≡ i = omega (arith, b.forward, b.within) in
      let w : i + (p - k) ≡ p = omega (arith, b.forward) in
      rw (← drop_start, b.bad, w)

  -- a line
  pub line_ends : {r : ℕ} → LineEnded s k r → r + 1 ≡ end_number s i
  unfolding end_number end_of
  line_ends {r} l =
      let z : k + (r - k) ≡ r = omega (arith, l.forward) in
      let w : k ≡ i = omega (arith, l.forward, l.within) in
      rw (← w, l.lines, length_part s k r (omega (arith, l.within)), z)

  pub line_stays_open : LineOpen s k → 0 ≡ end_number s i
  unfolding end_number end_of
  line_stays_open l =
      elim (dec_le i (length s)) [
        | yes h ↦ (let w : k ≡ i = omega arith in rw (← w, l.lines) (sym (open_ends k (drop k s))))
        | no h ↦ (let d : drop i s ≡ [] = drop_of_length-le s {i = i} (omega arith) in rw d)
      ]

-- ---- lists of paths

number_next : (s p : List ℕ) (c : Cut Paths) → paths_number s (then c (with_path p)) ≡ paths_number s c
unfolding paths_number then with_path
number_next s p (fits ps) = refl
number_next s p (fails (left_at_dollar left)) = refl
number_next s p (fails no_form) = refl
number_next s p (fails not_yet) = refl

module _ {s : List ℕ} {k : ℕ} where
  pub paths_next : {g r : ℕ} → PathNext s k g r → paths_number s (paths (drop k s)) ≡ paths_number s (paths (drop r s))
  paths_next {g} {r} p = ap (paths_number s) p.is ∙ number_next s _ (paths (drop r s))

  pub paths_stop : {g : ℕ} → PathsStop s k g → 2 * g ≡ paths_number s (paths (drop k s))
  unfolding paths_number
  paths_stop {g} p =
      let z : length s - length (drop g s) ≡ g = omega (arith, length-drop g s, p.within) in
      rw (p.is, z)

  pub paths_bad : {p : ℕ} → PathsBad s k p → 2 * p + 1 ≡ paths_number s (paths (drop k s))
  unfolding paths_number
  paths_bad {p} b =
      let z : length s - (length s - p) ≡ p = omega (arith, b.within) in
      rw (b.is, z)

-- ---- kinds of lines

unfoldable pub number_of_kind : LineKind → ℕ
number_of_kind Comment = 0
number_of_kind Blank = 1
number_of_kind Indented = 2
number_of_kind Statement = 3

kinds : (s : List ℕ) → number_of_kind (kind_of s) ≡ kind_number s
unfolding number_of_kind kind_of kind_number
kinds s =
    split (is_comment s) (λ (a : is_comment s ≡ true). rw a) λ (a : is_comment s ≡ false).
    split (is_blank s) (λ (b : is_blank s ≡ true). rw (a, b)) λ (b : is_blank s ≡ false).
    split (is_indented s) (λ (d : is_indented s ≡ true). rw (a, b, d)) (λ (d : is_indented s ≡ false). rw (a, b, d))

pub kind : (s : List ℕ) {x y : LineKind} → x ≡ kind_of s → x ≡ y → number_of_kind y ≡ kind_number s
kind s a e = ap number_of_kind (sym e ∙ a) ∙ kinds s

-- ---- the check of a manifest

bad_within : (last at : ℕ) (s : List ℕ) (p : ℕ) → bad_byte last at s ≡ some p → p ≤ at + length s
unfolding bad_byte
bad_within last at [] p h =
    split (eqb last newline)
    (λ (e : eqb last newline ≡ true).
    let q : none ≡ some p = rw e at h in
    let z : ◌≡◌ {A = ℕ} 0 1 = cc in
    omega arith)
    (λ (e : eqb last newline ≡ false).
    let q : some at ≡ some p = rw e at h in
    let z : at ≡ p = cc in
    omega arith)
bad_within last at (b ∷ s) p h =
    split (forbidden b)
    (λ (e : forbidden b ≡ true).
    let q : some at ≡ some p = rw e at h in
    let z : at ≡ p = cc in
    omega arith)
    (λ (e : forbidden b ≡ false). omega (arith, bad_within b (suc at) s p (rw e at h)))

module _ (m : List ℕ) {r : Option ℕ} (a : place_of r ≡ bad_byte newline 0 m) where
  pub no_bad_byte : r ≡ None → 0 ≡ or_none (bad_byte newline 0 m)
  unfolding place_of or_none
  no_bad_byte e = rw (← a, e)

  module _ {p : ℕ} (e : r ≡ Some p) where
    found_bad : bad_byte newline 0 m ≡ some p
    unfolding place_of
    found_bad = sym a ∙ ap place_of e

    pub bad_byte_law : p + 1 ≡ or_none (bad_byte newline 0 m)
    unfolding or_none
    bad_byte_law = rw found_bad

    pub bad_byte_within : p ≤ length m
    bad_byte_within = omega (arith, bad_within newline 0 m p found_bad)

-- ---- targets

unfoldable pub number_of_next : NextTarget → ℕ
number_of_next End = 0
number_of_next Bad = 1
number_of_next (Name e) = e + 1

targets : (l : List Target) → number_of_next (next_in l) ≡ target_number l
unfolding number_of_next next_in target_number
targets [] = refl
targets (t ∷ ts) =
    split (bad_length t.name) (λ (a : bad_length t.name ≡ true). rw a) (λ (a : bad_length t.name ≡ false). rw a)

pub target : (l : List Target) {x y : NextTarget} → x ≡ next_in l → x ≡ y → number_of_next y ≡ target_number l
target l a e = ap number_of_next (sym e ∙ a) ∙ targets l
