-- Every name that a text gives has a spelling, so that the names which `depfile_of` can write are all that there are.
use Prim.Native.Nat.{ℕ}
use mathlib.Core.Bool.{true, false, ◌&&◌, ◌||◌}
use mathlib.Core.List.{List, [], ◌∷◌, ◌++◌}
use mathlib.Core.Logic.{◌↔◌, ⊎_elim}
use mathlib.Core.Option.{none, some, none-ne-some, some-injective, map-eq-some_iff}
use mathlib.Core.Path.{◌≡◌, sym}
use native.Mathlib.Omega.{arith}
use borrow.Author.Tests.{eqb-true, eqb-false}
use lib.Dec.{eqb}
use Rattle.lists.specs.Members.{◌∉◌, not_in_nil, in_snoc}
use Rattle.lists.specs.Tests.{split, and_right, or_true}
use Rattle.depfile.specs.Depfile.{newline_byte, space_byte, hash_byte, dollar_byte, colon_byte, backslash_byte, Mark, byte, gap, line, lone, DepRule, dep_rule, mark_of, marks_of, name_then, target_then, blank_lines, prerequisites_from, rule_from, behind_blank, depfile_rule}
use Rattle.depfile.proofs.Writer.{Spellable, SpellableTarget, AllNames, SpellableRule, Gap, Layout, depfile_of}
use Rattle.depfile.proofs.Writing.{written_read}

-- ---- marks: no byte of a name is a newline

abbrev Clean : List Mark → Type 0
Clean [] = Unit {0}
Clean (byte b ∷ s) = (b ≡ newline_byte → ⊥) × Clean s
Clean (gap ∷ s) = Clean s
Clean (line ∷ s) = Clean s
Clean (lone ∷ s) = Clean s

mark_clean : (b : ℕ) (s : List Mark) → Clean s → Clean (mark_of b ∷ s)
unfolding mark_of
mark_clean b s h =
    split (eqb b space_byte) (λ (p : eqb b space_byte ≡ true). rw p h)
    (λ (p : eqb b space_byte ≡ false).
    split (eqb b newline_byte) (λ (q : eqb b newline_byte ≡ true). rw (p, q) h)
    (λ (q : eqb b newline_byte ≡ false).
    split (eqb b dollar_byte) (λ (d : eqb b dollar_byte ≡ true). rw (p, q, d) h)
    (λ (d : eqb b dollar_byte ≡ false). rw (p, q, d) (eqb-false b newline_byte q, h))))

escaped_clean : (c : ℕ) → eqb c space_byte || eqb c hash_byte ≡ true → c ≡ newline_byte → ⊥
escaped_clean c h e =
    ⊎_elim
    (λ (p : eqb c space_byte ≡ true). omega (arith, eqb-true c space_byte p))
    (λ (p : eqb c hash_byte ≡ true). omega (arith, eqb-true c hash_byte p))
    (or_true (eqb c space_byte) (eqb c hash_byte) h)

marks_clean : (s : List ℕ) → Clean (marks_of s)
unfolding marks_of
marks_clean [] = tt
marks_clean (b ∷ []) = mark_clean b [] tt
marks_clean (b ∷ c ∷ s) =
    let joins = eqb b backslash_byte && eqb c newline_byte in
    let escapes = eqb b backslash_byte && (eqb c space_byte || eqb c hash_byte) in
    let dollars = eqb b dollar_byte && eqb c dollar_byte in
    split joins (λ (j : joins ≡ true). rw j (marks_clean s))
    (λ (j : joins ≡ false).
    split escapes
    (λ (e : escapes ≡ true). rw (j, e) (escaped_clean c (and_right (eqb b backslash_byte) (eqb c space_byte || eqb c hash_byte) e), marks_clean s))
    (λ (e : escapes ≡ false).
    split dollars
    (λ (d : dollars ≡ true). rw (j, e, d) ((λ (p : c ≡ newline_byte). omega (arith, eqb-true c dollar_byte (and_right (eqb b dollar_byte) (eqb c dollar_byte) d))), marks_clean s))
    (λ (d : dollars ≡ false). rw (j, e, d) (mark_clean b (marks_of (c ∷ s)) (marks_clean (c ∷ s))))))

behind_clean : (s : List Mark) → Clean s → Clean (behind_blank s)
unfolding behind_blank
behind_clean [] h = h
behind_clean (byte b ∷ s) h = h
behind_clean (gap ∷ s) h = behind_clean s h
behind_clean (line ∷ s) h = behind_clean s h
behind_clean (lone ∷ s) h = h

-- ---- names

not_in_snoc : {x y : ℕ} (w : List ℕ) → x ∉ w → (y ≡ x → ⊥) → x ∉ w ++ (y ∷ [])
not_in_snoc {x} {y} w h k m = ⊎_elim h (λ (e : x ≡ y). k (sym e)) (in_snoc w m)

name_spellable : (w : List ℕ) (l : List (List ℕ)) → newline_byte ∉ w → AllNames Spellable l → AllNames Spellable (name_then w l)
unfolding name_then
name_spellable [] l h k = k
name_spellable (b ∷ w) l h k = (record { some_byte = λ e. let z : ◌≡◌ {A = ℕ} 0 1 = cc in omega arith; no_newline = h }, k)

target_spellable : (w : List ℕ) (l : List (List ℕ)) → newline_byte ∉ w → colon_byte ∉ w → AllNames SpellableTarget l → AllNames SpellableTarget (name_then w l)
unfolding name_then
target_spellable [] l h c k = k
target_spellable (b ∷ w) l h c k = (record { name = record { some_byte = λ e. let z : ◌≡◌ {A = ℕ} 0 1 = cc in omega arith; no_newline = h }; no_colon = c }, k)

prerequisites_spellable : (w : List ℕ) (s : List Mark) {l : List (List ℕ)} → newline_byte ∉ w → Clean s → prerequisites_from w s ≡ some l → AllNames Spellable l
unfolding prerequisites_from
prerequisites_spellable w [] {l} h c e = rw (some-injective (name_then w []) l e) at (name_spellable w [] h tt)
prerequisites_spellable w (byte b ∷ s) h (n, c) e = prerequisites_spellable (w ++ (b ∷ [])) s (not_in_snoc w h n) c e
prerequisites_spellable w (gap ∷ s) {l} h c e =
    let (m, f, k) = (map-eq-some_iff (name_then w) (prerequisites_from [] s)).0 e in
    rw k at (name_spellable w m h (prerequisites_spellable [] s not_in_nil c f))
prerequisites_spellable w (line ∷ s) {l} h c e =
    split (blank_lines s)
    (λ (b : blank_lines s ≡ true). rw (some-injective (name_then w []) l (rw b at e)) at (name_spellable w [] h tt))
    (λ (b : blank_lines s ≡ false). absurd (none-ne-some l (rw b at e)))
prerequisites_spellable w (lone ∷ s) {l} h c e = absurd (none-ne-some l e)

both_spellable : (t p : List (List ℕ)) → AllNames SpellableTarget t → AllNames Spellable p → SpellableRule (dep_rule t p)
both_spellable t p h k = record { targets = h; prerequisites = k }

rule_spellable : (w : List ℕ) (s : List Mark) {r : DepRule} → newline_byte ∉ w → colon_byte ∉ w → Clean s → rule_from w s ≡ some r → SpellableRule r
unfolding rule_from target_then
rule_spellable w [] {r} h k c e = absurd (none-ne-some r e)
rule_spellable w (byte b ∷ s) h k (n, c) e =
    split (eqb b colon_byte)
    (λ (d : eqb b colon_byte ≡ true).
    let (m, f, i) = (map-eq-some_iff (dep_rule (name_then w [])) (prerequisites_from [] s)).0 (rw d at e) in
    rw i at (both_spellable (name_then w []) m (target_spellable w [] h k tt) (prerequisites_spellable [] s not_in_nil c f)))
    (λ (d : eqb b colon_byte ≡ false). rule_spellable (w ++ (b ∷ [])) s (not_in_snoc w h n) (not_in_snoc w k (eqb-false b colon_byte d)) c (rw d at e))
rule_spellable w (gap ∷ s) h k c e =
    let (q, f, i) = (map-eq-some_iff (target_then w) (rule_from [] s)).0 e in
    let y = rule_spellable [] s not_in_nil not_in_nil c f in
    rw i at (both_spellable (name_then w q.targets) q.prerequisites (target_spellable w q.targets h k y.targets) y.prerequisites)
rule_spellable w (line ∷ s) {r} h k c e = absurd (none-ne-some r e)
rule_spellable w (lone ∷ s) {r} h k c e = absurd (none-ne-some r e)

pub read_spellable : (s : List ℕ) (r : DepRule) → depfile_rule s ≡ some r → SpellableRule r
unfolding depfile_rule
read_spellable s r e = rule_spellable [] (behind_blank (marks_of s)) not_in_nil not_in_nil (behind_clean (marks_of s) (marks_clean s)) e

-- A rule is one that some text gives exactly where all its names are spellable.
pub some_text : (r : DepRule) → SpellableRule r ↔ ((s : List ℕ) × (depfile_rule s ≡ some r))
some_text r =
    let one : Gap = record { first = false; more = [] } in
    let plain : Layout = record { before = []; targets = λ i. one; prerequisites = λ i. one; end = none } in
    (λ h. (depfile_of plain r, written_read plain r h), λ t. read_spellable t.0 r t.1)
