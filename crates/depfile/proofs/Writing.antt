-- What is written is read again: `depfile_rule` of `depfile_of` is the rule that was written, however it is laid out.
use Prim.Native.Nat.{ℕ, suc}
use mathlib.Core.Bool.{Bool, true, false, ◌||◌}
use mathlib.Core.List.{List, [], ◌∷◌, ◌++◌, map, append-nil, append_assoc}
use mathlib.Core.Option
use mathlib.Core.Option.{Option, none, some}
use mathlib.Core.Path.{◌≡◌, refl, sym, ◌∙◌, ap}
use native.Mathlib.Omega.{arith}
use borrow.Author.Tests.{eqb-true, eqb-false}
use lib.Dec.{eqb}
use Rattle.lists.specs.Members.{◌∉◌, here, there}
use Rattle.lists.specs.Tests.{if_b, split, or_left, or_right}
use Rattle.depfile.specs.Depfile.{newline_byte, space_byte, hash_byte, dollar_byte, colon_byte, backslash_byte, Mark, byte, gap, line, DepRule, dep_rule, marks_of, name_then, target_then, blank_lines, prerequisites_from, rule_from, behind_blank, depfile_rule}
use Rattle.depfile.proofs.Marks.{marks_byte, marks_space, marks_newline, marks_joined, marks_escaped_space, marks_escaped_hash, marks_dollars, marks_backslash, marks_end}
use Rattle.depfile.proofs.Names.{ends, ends_target, prerequisites_bytes, prerequisites_gap, prerequisites_end, targets_bytes, targets_gap, targets_colon, targets_end}
use Rattle.depfile.proofs.Writer.{escaped, spelled, Spellable, SpellableTarget, AllNames, SpellableRule, gap_text, Gap, gapped, joined, blank_text, end_text, Layout, depfile_of}

-- ---- a name

-- a byte that is spelled by itself or with a byte before it, whatever follows
escaped_marks : (b : ℕ) (t : List ℕ) → (b ≡ backslash_byte → ⊥) → (b ≡ newline_byte → ⊥) → marks_of (escaped b ++ t) ≡ byte b ∷ marks_of t
unfolding escaped
escaped_marks b t h k =
    split (eqb b dollar_byte)
    (λ (d : eqb b dollar_byte ≡ true). let e : b ≡ dollar_byte = eqb-true b dollar_byte d in rw e (marks_dollars t))
    (λ (d : eqb b dollar_byte ≡ false).
    split (eqb b space_byte)
    (λ (p : eqb b space_byte ≡ true). let e : b ≡ space_byte = eqb-true b space_byte p in rw e (marks_escaped_space t))
    (λ (p : eqb b space_byte ≡ false).
    split (eqb b hash_byte)
    (λ (q : eqb b hash_byte ≡ true). let e : b ≡ hash_byte = eqb-true b hash_byte q in rw e (marks_escaped_hash t))
    (λ (q : eqb b hash_byte ≡ false). rw (d, p, q) (marks_byte b t h (eqb-false b dollar_byte d) (eqb-false b space_byte p) k))))

-- what a name's spelling begins with: no byte that a backslash before it would escape
record Begins (s : List ℕ) : Type 0 where
  first : ℕ
  rest : List ℕ
  is : s ≡ first ∷ rest
  no_newline : first ≡ newline_byte → ⊥
  no_space : first ≡ space_byte → ⊥
  no_hash : first ≡ hash_byte → ⊥

begins_with : (b : ℕ) (s : List ℕ) → (b ≡ newline_byte → ⊥) → (b ≡ space_byte → ⊥) → (b ≡ hash_byte → ⊥) → Begins (b ∷ s)
begins_with b s h k l = record { first = b; rest = s; is = refl; no_newline = h; no_space = k; no_hash = l }

escaped_begins : (b : ℕ) (t : List ℕ) → (b ≡ newline_byte → ⊥) → Begins (escaped b ++ t)
unfolding escaped
escaped_begins b t h =
    split (eqb b dollar_byte)
    (λ (d : eqb b dollar_byte ≡ true). rw d (begins_with dollar_byte (b ∷ t) (λ e. omega arith) (λ e. omega arith) (λ e. omega arith)))
    (λ (d : eqb b dollar_byte ≡ false).
    split (eqb b space_byte || eqb b hash_byte)
    (λ (p : eqb b space_byte || eqb b hash_byte ≡ true). rw (d, p) (begins_with backslash_byte (b ∷ t) (λ e. omega arith) (λ e. omega arith) (λ e. omega arith)))
    (λ (p : eqb b space_byte || eqb b hash_byte ≡ false).
    rw (d, p) (begins_with b t h (eqb-false b space_byte (or_left (eqb b space_byte) (eqb b hash_byte) p)) (eqb-false b hash_byte (or_right (eqb b space_byte) (eqb b hash_byte) p)))))

spelled_begins : (b : ℕ) (n : List ℕ) → (b ≡ newline_byte → ⊥) → Begins (spelled (b ∷ n))
unfolding spelled
spelled_begins b [] h =
    split (eqb b backslash_byte)
    (λ (d : eqb b backslash_byte ≡ true).
    let e : b ≡ backslash_byte = eqb-true b backslash_byte d in
    rw d (begins_with b (backslash_byte ∷ newline_byte ∷ []) h (λ p. omega arith) (λ p. omega arith)))
    (λ (d : eqb b backslash_byte ≡ false). rw d (rw (append-nil (escaped b)) at (escaped_begins b [] h)))
spelled_begins b (c ∷ n) h = escaped_begins b (spelled (c ∷ n)) h

-- the marks behind a name's bytes
unfoldable closing : List ℕ → List Mark
closing [] = []
closing (b ∷ []) = if_b (eqb b backslash_byte) (λ _. gap ∷ []) (λ _. [])
closing (b ∷ c ∷ n) = closing (c ∷ n)

name_marks : (n t : List ℕ) → newline_byte ∉ n → marks_of (spelled n ++ t) ≡ map byte n ++ (closing n ++ marks_of t)
unfolding spelled closing
name_marks [] t h = refl
name_marks (b ∷ []) t h =
    split (eqb b backslash_byte)
    (λ (d : eqb b backslash_byte ≡ true).
    let e : b ≡ backslash_byte = eqb-true b backslash_byte d in
    rw (d, e) (marks_backslash backslash_byte (newline_byte ∷ t) (λ p. omega arith) (λ p. omega arith) (λ p. omega arith) ∙ rw (marks_joined t)))
    (λ (d : eqb b backslash_byte ≡ false). rw d (escaped_marks b t (eqb-false b backslash_byte d) (λ p. h (here (sym p)))))
name_marks (b ∷ c ∷ n) t h =
    let k : marks_of (spelled (c ∷ n) ++ t) ≡ map byte (c ∷ n) ++ (closing (c ∷ n) ++ marks_of t) = name_marks (c ∷ n) t (λ p. h (there p)) in
    let y = spelled_begins c n (λ p. h (there (here (sym p)))) in
    split (eqb b backslash_byte)
    (λ (d : eqb b backslash_byte ≡ true).
    let e : b ≡ backslash_byte = eqb-true b backslash_byte d in
    let z : marks_of (backslash_byte ∷ (spelled (c ∷ n) ++ t)) ≡ byte backslash_byte ∷ marks_of (spelled (c ∷ n) ++ t) =
    rw y.is (marks_backslash y.first (y.rest ++ t) y.no_newline y.no_space y.no_hash) in
    rw e (z ∙ rw k))
    (λ (d : eqb b backslash_byte ≡ false).
    rw (append_assoc (escaped b) (spelled (c ∷ n)) t)
    (escaped_marks b (spelled (c ∷ n) ++ t) (eqb-false b backslash_byte d) (λ p. h (here (sym p))) ∙ rw k))

-- ---- gaps

gaps : List Bool → List Mark
gaps = map (λ (c : Bool). gap)

gap_marks : (g : List Bool) (t : List ℕ) → marks_of (gap_text g ++ t) ≡ gaps g ++ marks_of t
unfolding gap_text gaps
gap_marks [] t = refl
gap_marks (true ∷ g) t = marks_joined (gap_text g ++ t) ∙ rw (gap_marks g t)
gap_marks (false ∷ g) t = marks_space (gap_text g ++ t) ∙ rw (gap_marks g t)

-- A name's closing changes nothing but that the name has ended.
record Closes (n : List ℕ) (s : List Mark) : Type 0 where
  prerequisites : prerequisites_from [] (closing n ++ s) ≡ prerequisites_from [] s
  ended : ends s ≡ true → ends (closing n ++ s) ≡ true
  targets : rule_from [] (closing n ++ s) ≡ rule_from [] s
  ended_target : ends_target s ≡ true → ends_target (closing n ++ s) ≡ true

closes : (n : List ℕ) (s : List Mark) → Closes n s
unfolding closing ends ends_target
closes [] s = record { prerequisites = refl; ended = λ h. h; targets = refl; ended_target = λ h. h }
closes (b ∷ []) s =
    split (eqb b backslash_byte)
    (λ (d : eqb b backslash_byte ≡ true). record { prerequisites = rw d (prerequisites_gap s); ended = λ h. rw d; targets = rw d (targets_gap s); ended_target = λ h. rw d })
    (λ (d : eqb b backslash_byte ≡ false). record { prerequisites = rw d; ended = λ h. rw d h; targets = rw d; ended_target = λ h. rw d h })
closes (b ∷ c ∷ n) s =
    let k = closes (c ∷ n) s in
    record { prerequisites = k.prerequisites; ended = k.ended; targets = k.targets; ended_target = k.ended_target }

-- ---- prerequisites

prerequisites_gaps : (g : List Bool) (s : List Mark) → prerequisites_from [] (gaps g ++ s) ≡ prerequisites_from [] s
unfolding gaps
prerequisites_gaps [] s = refl
prerequisites_gaps (c ∷ g) s = prerequisites_gap (gaps g ++ s) ∙ prerequisites_gaps g s

prerequisites_name : (n : List ℕ) (s : List Mark) → ends s ≡ true → prerequisites_from [] (map byte n ++ (closing n ++ s)) ≡ Option.map (name_then n) (prerequisites_from [] s)
prerequisites_name n s h =
    let k = closes n s in
    prerequisites_bytes [] n (closing n ++ s)
    ∙ prerequisites_end n (closing n ++ s) (k.ended h)
    ∙ ap (Option.map (name_then n)) k.prerequisites

name_then_law : (n : List ℕ) (l : List (List ℕ)) → (n ≡ [] → ⊥) → name_then n l ≡ n ∷ l
unfolding name_then
name_then_law [] l h = absurd (h refl)
name_then_law (b ∷ n) l h = refl

blank_gaps : (g : List Bool) (s : List Mark) → blank_lines (gaps g ++ s) ≡ blank_lines s
unfolding gaps blank_lines
blank_gaps [] s = refl
blank_gaps (c ∷ g) s = blank_gaps g s

blank_written : (l : List (List Bool)) → blank_lines (marks_of (blank_text l)) ≡ true
unfolding blank_text blank_lines marks_of
blank_written [] = refl
blank_written (g ∷ l) =
    ap blank_lines (gap_marks g (newline_byte ∷ blank_text l))
    ∙ blank_gaps g (marks_of (newline_byte ∷ blank_text l))
    ∙ ap blank_lines (marks_newline (blank_text l))
    ∙ blank_written l

end_ends : (e : Option (List (List Bool))) → ends (marks_of (end_text e)) ≡ true
unfolding end_text ends
end_ends none = rw marks_end
end_ends (some l) = rw (marks_newline (blank_text l))

end_read : (e : Option (List (List Bool))) → prerequisites_from [] (marks_of (end_text e)) ≡ some []
unfolding end_text prerequisites_from name_then
end_read none = rw marks_end
end_read (some l) = rw (marks_newline (blank_text l), blank_written l)

gapped_ends : (g : ℕ → Gap) (l : List (List ℕ)) (e : Option (List (List Bool))) → ends (marks_of (gapped g l (end_text e))) ≡ true
unfolding gapped ends gaps
gapped_ends g [] e = end_ends e
gapped_ends g (n ∷ l) e = rw (gap_marks ((g 0).first ∷ (g 0).more) (spelled n ++ gapped (λ k. g (suc k)) l (end_text e)))

prerequisites_written : (g : ℕ → Gap) (l : List (List ℕ)) (e : Option (List (List Bool))) → AllNames Spellable l → prerequisites_from [] (marks_of (gapped g l (end_text e))) ≡ some l
unfolding gapped
prerequisites_written g [] e h = end_read e
prerequisites_written g (n ∷ l) e (h, k) =
    let next : ℕ → Gap = λ i. g (suc i) in
    let t = gapped next l (end_text e) in
    ap (prerequisites_from []) (gap_marks ((g 0).first ∷ (g 0).more) (spelled n ++ t))
    ∙ prerequisites_gaps ((g 0).first ∷ (g 0).more) (marks_of (spelled n ++ t))
    ∙ ap (prerequisites_from []) (name_marks n t h.no_newline)
    ∙ prerequisites_name n (marks_of t) (gapped_ends next l e)
    ∙ ap (Option.map (name_then n)) (prerequisites_written next l e k)
    ∙ ap some (name_then_law n l h.some_byte)

-- ---- targets

targets_gaps : (g : List Bool) (s : List Mark) → rule_from [] (gaps g ++ s) ≡ rule_from [] s
unfolding gaps
targets_gaps [] s = refl
targets_gaps (c ∷ g) s = targets_gap (gaps g ++ s) ∙ targets_gaps g s

targets_name : (n : List ℕ) (s : List Mark) → colon_byte ∉ n → ends_target s ≡ true → rule_from [] (map byte n ++ (closing n ++ s)) ≡ Option.map (target_then n) (rule_from [] s)
targets_name n s c h =
    let k = closes n s in
    targets_bytes [] n (closing n ++ s) c
    ∙ targets_end n (closing n ++ s) (k.ended_target h)
    ∙ ap (Option.map (target_then n)) k.targets

colon_marks : (u : List ℕ) → marks_of (colon_byte ∷ u) ≡ byte colon_byte ∷ marks_of u
colon_marks u = marks_byte colon_byte u (λ e. omega arith) (λ e. omega arith) (λ e. omega arith) (λ e. omega arith)

gapped_ends_target : (g : ℕ → Gap) (l : List (List ℕ)) (u : List ℕ) → ends_target (marks_of (gapped g l (colon_byte ∷ u))) ≡ true
unfolding gapped ends_target gaps
gapped_ends_target g [] u = rw (colon_marks u)
gapped_ends_target g (n ∷ l) u = rw (gap_marks ((g 0).first ∷ (g 0).more) (spelled n ++ gapped (λ k. g (suc k)) l (colon_byte ∷ u)))

target_then_law : (n : List ℕ) (l : List (List ℕ)) → (n ≡ [] → ⊥) → (o : Option (List (List ℕ))) → Option.map (target_then n) (Option.map (dep_rule l) o) ≡ Option.map (dep_rule (n ∷ l)) o
unfolding target_then
target_then_law n l h none = refl
target_then_law n l h (some p) = rw (name_then_law n l h)

module _ (u : List ℕ) where
  -- a target, once what follows it is read
  target_written : (g : ℕ → Gap) (n : List ℕ) (l : List (List ℕ)) → SpellableTarget n
      → rule_from [] (marks_of (gapped g l (colon_byte ∷ u))) ≡ Option.map (dep_rule l) (prerequisites_from [] (marks_of u))
      → rule_from [] (marks_of (spelled n ++ gapped g l (colon_byte ∷ u))) ≡ Option.map (dep_rule (n ∷ l)) (prerequisites_from [] (marks_of u))
  target_written g n l h k =
      let t = gapped g l (colon_byte ∷ u) in
      ap (rule_from []) (name_marks n t h.name.no_newline)
      ∙ targets_name n (marks_of t) h.no_colon (gapped_ends_target g l u)
      ∙ ap (Option.map (target_then n)) k
      ∙ target_then_law n l h.name.some_byte (prerequisites_from [] (marks_of u))

  targets_written : (g : ℕ → Gap) (l : List (List ℕ)) → AllNames SpellableTarget l → rule_from [] (marks_of (gapped g l (colon_byte ∷ u))) ≡ Option.map (dep_rule l) (prerequisites_from [] (marks_of u))
  unfolding gapped name_then
  targets_written g [] h = rw (colon_marks u) (targets_colon [] (marks_of u))
  targets_written g (n ∷ l) (h, k) =
      let next : ℕ → Gap = λ i. g (suc i) in
      let t = spelled n ++ gapped next l (colon_byte ∷ u) in
      ap (rule_from []) (gap_marks ((g 0).first ∷ (g 0).more) t)
      ∙ targets_gaps ((g 0).first ∷ (g 0).more) (marks_of t)
      ∙ target_written next n l h (targets_written next l k)

-- ---- the rule

not_blank : (b : ℕ) (s : List Mark) → behind_blank (byte b ∷ s) ≡ byte b ∷ s
unfolding behind_blank
not_blank b s = refl

name_not_blank : (n t : List ℕ) → Spellable n → behind_blank (marks_of (spelled n ++ t)) ≡ marks_of (spelled n ++ t)
name_not_blank [] t h = absurd (h.some_byte refl)
name_not_blank (b ∷ n) t h = rw (name_marks (b ∷ n) t h.no_newline) (not_blank b (map byte n ++ (closing (b ∷ n) ++ marks_of t)))

joined_written : (g : ℕ → Gap) (l : List (List ℕ)) (u : List ℕ) → AllNames SpellableTarget l
    → rule_from [] (behind_blank (marks_of (joined g l (colon_byte ∷ u)))) ≡ Option.map (dep_rule l) (prerequisites_from [] (marks_of u))
unfolding joined name_then
joined_written g [] u h = rw (colon_marks u) (ap (rule_from []) (not_blank colon_byte (marks_of u)) ∙ targets_colon [] (marks_of u))
joined_written g (n ∷ l) u (h, k) = ap (rule_from []) (name_not_blank n (gapped g l (colon_byte ∷ u)) h.name) ∙ target_written u g n l h (targets_written u g l k)

behind_gaps : (g : List Bool) (s : List Mark) → behind_blank (gaps g ++ s) ≡ behind_blank s
unfolding gaps behind_blank
behind_gaps [] s = refl
behind_gaps (c ∷ g) s = behind_gaps g s

behind_line : (s : List Mark) → behind_blank (line ∷ s) ≡ behind_blank s
unfolding behind_blank
behind_line s = refl

before_written : (l : List (List Bool)) (t : List ℕ) → behind_blank (marks_of (blank_text l ++ t)) ≡ behind_blank (marks_of t)
unfolding blank_text
before_written [] t = refl
before_written (g ∷ l) t =
    ap (λ (x : List ℕ). behind_blank (marks_of x)) (append_assoc (gap_text g) (newline_byte ∷ blank_text l) t)
    ∙ ap behind_blank (gap_marks g (newline_byte ∷ (blank_text l ++ t)))
    ∙ behind_gaps g (marks_of (newline_byte ∷ (blank_text l ++ t)))
    ∙ ap behind_blank (marks_newline (blank_text l ++ t))
    ∙ behind_line (marks_of (blank_text l ++ t))
    ∙ before_written l t

pub written_read : (y : Layout) (r : DepRule) → SpellableRule r → depfile_rule (depfile_of y r) ≡ some r
unfolding depfile_rule depfile_of
written_read y r a =
    let u = gapped y.prerequisites r.prerequisites (end_text y.end) in
    ap (rule_from []) (before_written y.before (joined y.targets r.targets (colon_byte ∷ u)))
    ∙ joined_written y.targets r.targets u a.targets
    ∙ ap (Option.map (dep_rule r.targets)) (prerequisites_written y.prerequisites r.prerequisites y.end a.prerequisites)
