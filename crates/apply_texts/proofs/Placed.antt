-- The lines of a text at their places among all texts.
use Prim.Native.Nat.{ℕ, suc, ◌+◌}
use mathlib.Core.Bool.{true, false}
use mathlib.Core.List.{List, [], ◌∷◌, map}
use mathlib.Core.Path.{◌≡◌, refl, ◌∙◌, ap}
use native.Mathlib.Omega.{arith}
use lib.ListN.{get_or}
use Rattle.lists.specs.Tests.{split}
use Rattle.spec.specs.Answers.{base_of}
use Rattle.spec.specs.Lines.{At, indent, line_turn, ends_line, Line, with_byte, lines_from}
use Rattle.spec.specs.Manifest.{text_lines}
use Rattle.scan_lines.specs.Endings.{lines_at}
use Rattle.apply_stretch.specs.Stretches.{placed_at}

with_placed : (base at b : ℕ) (ls : List Line) → with_byte (base + at) b (map (placed_at base) ls) ≡ map (placed_at base) (with_byte at b ls)
unfolding with_byte
with_placed base at b [] = refl
with_placed base at b (l ∷ ls) = refl

lines_placed_law : (base : ℕ) (q : At) (at : ℕ) (s : List ℕ) → lines_from q (base + at) s ≡ map (placed_at base) (lines_from q at s)
unfolding lines_from
lines_placed_law base q at [] = refl
lines_placed_law base q at (b ∷ s) =
    let z : suc (base + at) ≡ base + suc at = omega arith in
    split (ends_line q b)
    (λ (e : ends_line q b ≡ true).
    rw (e, z) (ap (λ (ls : List Line). record { start = base + at; text = []; ended = true } ∷ ls) (lines_placed_law base indent (suc at) s)))
    (λ (e : ends_line q b ≡ false).
    rw (e, z, lines_placed_law base (line_turn q b) (suc at) s) (with_placed base at b (lines_from (line_turn q b) (suc at) s)))

pub text_lines_law : (texts : List (List ℕ)) (k : ℕ) → text_lines texts k ≡ map (placed_at (base_of texts k)) (lines_at 0 (get_or texts k []))
unfolding text_lines
text_lines_law texts k =
    let z : base_of texts k ≡ base_of texts k + 0 = omega arith in
    ap (λ (j : ℕ). lines_from indent j (get_or texts k [])) z ∙ lines_placed_law (base_of texts k) indent 0 (get_or texts k [])
