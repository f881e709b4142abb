-- Two bundles of the same names are read alike if each record that is opened has the same text in both. So a record that is opened by nobody changes nothing
-- but 2 and 3.
use Prim.Native.Nat.{ℕ, zero, suc, ◌-◌, ◌<◌}
use mathlib.Core.List.{List, [], ◌∷◌, ◌++◌}
use mathlib.Core.Bool.{Bool, true, false, not, ◌||◌}
use mathlib.Core.Path.{◌≡◌, refl, sym, ◌∙◌, ap, subst}
use native.Mathlib.Omega.{arith}
use lib.Dec.{leb, ltb}
use lib.ListN.{length, get_or, set, length-set, get_or-eq_default}
use lib.Seq.{get_or-set_other}
use borrow.Author.Tests.{ltb-true, ltb-false}
use Rattle.lists.specs.Tests.{if_b, split}
use Rattle.lists.specs.Members.{◌∈◌, ◌∉◌, here, there}
use Rattle.spec.specs.declared.Refusal.{Refusal}
use Rattle.spec.specs.declared.Refusal.TheVariants.{BadOpen}
use Rattle.spec.specs.Basics.{is_empty, among}
use Rattle.spec.specs.Limits.{max_path, max_open, max_opened}
use Rattle.spec.specs.Answers.{Said, refusal_says, number_of_refusal, spot, base_of, placed}
use Rattle.spec.specs.Lines.{Line, indent, lines_from}
use Rattle.spec.specs.Dollars.{expand}
use Rattle.spec.specs.Bundle.{bundle_names, bundle_texts}
use Rattle.spec.specs.Reading.{Reading, nothing_read, file_var, number_of}
use Rattle.spec.specs.Statements.{Block, no_block, Outcome, goes_on, refused, over_counts, longer_than}
use Rattle.spec.specs.Manifest.{and_then, read_line, Opener, opening, read_lines, text_lines, with_opened, entered, back_in, open_path, opener, read_of, read_manifest}
use Rattle.spec.proofs.Answers.{spot_base}
use Rattle.spec_files.specs.Opened.{Noting, noted_at, noted_then, noted_in, noting, opened_records, PassesBytes, SameRead, both_accepted, both_refused, ReadAlike}
use Rattle.spec_files.proofs.Moved.{moved, BlockMoved, in_none, OutcomeMoved, on, door, off, then_moved, close_moved, bad_path_law, over_limit, read_moved, LinesMoved, none_left, line_and, lines_moved}

cons_not_empty : {b : ℕ} {t : List ℕ} → b ∷ t ≡ [] → ⊥
cons_not_empty {b} {t} e = omega (arith, ap (λ (l : List ℕ). length l) e)

in_left : {k : ℕ} {l : List ℕ} (r : List ℕ) → k ∈ l → k ∈ l ++ r
in_left r (here e) = here e
in_left r (there m) = there (in_left r m)

in_right : {k : ℕ} (l : List ℕ) {r : List ℕ} → k ∈ r → k ∈ l ++ r
in_right [] m = m
in_right (x ∷ l) m = there (in_right l m)

-- these records have the same text in both
abbrev pub SameTexts : List (List ℕ) → List (List ℕ) → List ℕ → Type 0
SameTexts texts texts' ks = (k : ℕ) → k ∈ ks → get_or texts' k [] ≡ get_or texts k []

module _ (texts texts' : List (List ℕ)) (count : length texts' ≡ length texts) where
  -- the same offset in the same text
  abbrev SamePlace : ℕ → ℕ → Type 0
  SamePlace p p' = spot texts p ≡ spot texts' p'

  abbrev Like : Outcome → Outcome → Type 0
  Like = OutcomeMoved SamePlace

  lines_of : (k : ℕ) (t : List ℕ) → get_or texts k [] ≡ t → get_or texts' k [] ≡ t
      → LinesMoved SamePlace (base_of texts k) (base_of texts' k) (lines_from indent (base_of texts k) t) (lines_from indent (base_of texts' k) t)
  unfolding lines_from
  lines_of k [] e e' = none_left
  lines_of k (b ∷ t) e e' =
      lines_moved SamePlace indent (base_of texts k) (base_of texts' k) (b ∷ t)
      (λ d l. spot_base texts k d within (rw e l) ∙ sym (spot_base texts' k d (rw count within) (rw e' l)))
    where
      -- a text of no record has no bytes
      within : k < length texts
      within =
          split (ltb k (length texts)) (λ (h : ltb k (length texts) ≡ true). ltb-true k (length texts) h)
          (λ (h : ltb k (length texts) ≡ false). absurd (cons_not_empty (sym e ∙ get_or-eq_default texts [] (ltb-false k (length texts) h))))

  text_moved : (k : ℕ) → get_or texts' k [] ≡ get_or texts k [] → LinesMoved SamePlace (base_of texts k) (base_of texts' k) (text_lines texts k) (text_lines texts' k)
  unfolding text_lines
  text_moved k e =
      subst (λ (t : List ℕ). LinesMoved SamePlace (base_of texts k) (base_of texts' k) (lines_from indent (base_of texts k) (get_or texts k [])) (lines_from indent (base_of texts' k) t))
      (sym e) (lines_of k (get_or texts k []) refl e)

  -- ---- lines, and files that are opened

  module _ (via via' : Opener) (note : Noting)
      (alike : (start start' : ℕ) (sub : Bool) (raw : List ℕ) (rd : Reading) → SamePlace start start' → SameTexts texts texts' (note start sub raw rd)
      → Like (via start sub raw rd) (via' start' sub raw rd)) where
    opening_alike : {o o' : Outcome} → Like o o' → SameTexts texts texts' (noted_at note o) → Like (opening via o) (opening via' o')
    unfolding opening noted_at
    opening_alike (on m) h = on m
    opening_alike (door m) h = alike _ _ _ _ _ m h
    opening_alike (off m) h = off m

    then_alike : {o o' : Outcome} → Like o o' → (f g : Reading → Block → Outcome) (noted : Reading → Block → List ℕ)
        → ((rd : Reading) (b b' : Block) → BlockMoved SamePlace b b' → SameTexts texts texts' (noted rd b) → Like (f rd b) (g rd b'))
        → SameTexts texts texts' (noted_then o noted) → Like (and_then o f) (and_then o' g)
    unfolding and_then noted_then
    then_alike (on m) f g noted e h = e _ _ _ m h
    then_alike (door m) f g noted e h = door m
    then_alike (off m) f g noted e h = off m

    lines_alike : {at at' : ℕ} {ls ls' : List Line} → LinesMoved SamePlace at at' ls ls' → (rd : Reading) {b b' : Block} → BlockMoved SamePlace b b'
        → SameTexts texts texts' (noted_in via note ls rd b) → Like (read_lines via ls rd b) (read_lines via' ls' rd b')
    unfolding read_lines noted_in
    lines_alike none_left rd m h = close_moved SamePlace rd m
    lines_alike (line_and {at} {at'} {text = text} {ended} {ls} {ls'} places rest) rd {b} {b'} m h =
        let l : Line = record { start = at; text = text; ended = ended } in
        let first = noted_at note (read_line l rd b) in
        let later = noted_then (opening via (read_line l rd b)) (noted_in via note ls) in
        then_alike (opening_alike (read_moved SamePlace at at' text ended places rd m) (λ k i. h k (in_left later i))) (read_lines via ls) (read_lines via' ls')
        (noted_in via note ls) (λ rd' c c' n i. lines_alike rest rd' n i) (λ k i. h k (in_right first i))

  -- what is read where a path's tests let it be read, and the refusals of those tests
  gate_alike : (a b c : Bool) {x y z x' y' z' : Refusal} (after : Reading) {f g : Outcome}
      → Like (refused x) (refused x') → Like (refused y) (refused y') → Like (refused z) (refused z')
      → (if_b a (λ _. refused x) (λ _. if_b b (λ _. refused y) (λ _. if_b c (λ _. refused z) (λ _. goes_on after no_block))) ≡ goes_on after no_block → Like f g)
      → Like (if_b a (λ _. refused x) (λ _. if_b b (λ _. refused y) (λ _. if_b c (λ _. refused z) (λ _. f))))
      (if_b a (λ _. refused x') (λ _. if_b b (λ _. refused y') (λ _. if_b c (λ _. refused z') (λ _. g))))
  gate_alike true b c after r s t h = r
  gate_alike false true c after r s t h = s
  gate_alike false false true after r s t h = t
  gate_alike false false false after r s t h = h refl

  open_moved : (start start' : ℕ) → SamePlace start start' → Like (refused (BadOpen start)) (refused (BadOpen start'))
  unfolding refusal_says
  open_moved start start' m = off (moved refl refl m)

  path_alike : (names : List (List ℕ)) (f g : ℕ → Reading → Outcome) (start start' : ℕ) (sub : Bool) (p : List ℕ) (rd : Reading) → SamePlace start start'
      → (open_path names (λ j after. goes_on after no_block) start sub p rd ≡ goes_on (with_opened (length p) (entered sub rd.vars) rd) no_block
      → Like (f (number_of p names) (with_opened (length p) (entered sub rd.vars) rd)) (g (number_of p names) (with_opened (length p) (entered sub rd.vars) rd)))
      → Like (open_path names f start sub p rd) (open_path names g start' sub p rd)
  unfolding open_path
  path_alike names f g start start' sub p rd m h =
      let after = with_opened (length p) (entered sub rd.vars) rd in
      gate_alike (is_empty p) (longer_than max_path p || over_counts after) (not (among p names) || leb max_opened rd.opened) after
      (bad_path_law SamePlace start start' m) (over_limit SamePlace start start' m) (open_moved start start' m) h

  opened_on : (o : Outcome) (after : Reading) (f : Reading → Block → List ℕ) → o ≡ goes_on after no_block → SameTexts texts texts' (noted_then o f)
      → SameTexts texts texts' (f after no_block)
  unfolding noted_then
  opened_on o after f e h = subst (λ (x : Outcome). SameTexts texts texts' (noted_then x f)) e h

  back_alike : (k : ℕ) {o o' : Outcome} → Like o o' → Like (and_then o (back_in k)) (and_then o' (back_in k))
  unfolding back_in
  back_alike k m = then_moved SamePlace (back_in k) (back_in k) m (λ rd b b' n. on in_none)

  opener_alike : (names : List (List ℕ)) (more start start' : ℕ) (sub : Bool) (raw : List ℕ) (rd : Reading) → SamePlace start start'
      → SameTexts texts texts' (noting names texts more start sub raw rd) → Like (opener names texts more start sub raw rd) (opener names texts' more start' sub raw rd)
  unfolding opener noting
  opener_alike names zero start start' sub raw rd m h =
      path_alike names (λ k after. refused (BadOpen start)) (λ k after. refused (BadOpen start')) start start' sub (expand (file_var rd.vars) raw) rd m
      (λ e. open_moved start start' m)
  opener_alike names (suc more) start start' sub raw rd m h =
      let p = expand (file_var rd.vars) raw in
      let k = number_of p names in
      let via = opener names texts more in
      let via' = opener names texts' more in
      let note = noting names texts more in
      path_alike names (λ j after. and_then (read_lines via (text_lines texts j) after no_block) (back_in rd.vars.current))
      (λ j after. and_then (read_lines via' (text_lines texts' j) after no_block) (back_in rd.vars.current)) start start' sub p rd m
      (λ e.
      let after = with_opened (length p) (entered sub rd.vars) rd in
      let inside = opened_on _ after (λ later b. k ∷ noted_in via note (text_lines texts k) later no_block) e h in
      back_alike rd.vars.current
      (lines_alike via via' note (opener_alike names more) (text_moved k (inside k (here refl))) after in_none (λ j i. inside j (there i))))

  read_alike : {o o' : Outcome} → Like o o' → SameRead texts texts' (read_of o) (read_of o')
  unfolding read_of placed number_of_refusal refusal_says
  read_alike (on m) = both_accepted
  read_alike (door m) = both_refused (record { number = refl; place = m })
  read_alike (off (moved e e' m)) =
      both_refused
      (record {
        number = ap (λ (s : Said). s.number) e ∙ sym (ap (λ (s : Said). s.number) e');
        place = ap (placed texts) e ∙ m ∙ sym (ap (placed texts') e');
      })

-- ------------------------------------------------------------------ bundles

pub lines_read : (s : List ℕ) → PassesBytes s
    → read_manifest s ≡ read_of (read_lines (opener (bundle_names s) (bundle_texts s) (max_open - 1)) (text_lines (bundle_texts s) 0) nothing_read no_block)
unfolding read_manifest
lines_read s p = rw (p.sound, p.short, p.clean) refl

-- Two bundles of the same names that 2 and 3 let pass are read alike if each record that is opened in the one has the same text in the other.
pub opened_decide : (s s' : List ℕ) → PassesBytes s → PassesBytes s' → bundle_names s' ≡ bundle_names s → length (bundle_texts s') ≡ length (bundle_texts s)
    → SameTexts (bundle_texts s) (bundle_texts s') (opened_records s) → ReadAlike s s'
unfolding opened_records
opened_decide s s' p p' n c h =
    let texts = bundle_texts s in
    let texts' = bundle_texts s' in
    let via = opener (bundle_names s) texts (max_open - 1) in
    let via' = opener (bundle_names s) texts' (max_open - 1) in
    let note = noting (bundle_names s) texts (max_open - 1) in
    rw (lines_read s p, lines_read s' p', n)
    (read_alike texts texts' c
    (lines_alike texts texts' c via via' note (opener_alike texts texts' c (bundle_names s) (max_open - 1)) (text_moved texts texts' c 0 (h 0 (here refl))) nothing_read
    in_none (λ k i. h k (there i))))

-- "A record that is opened by nobody changes nothing but 2 and 3": whatever text it gets, of any length.
pub unopened_changes_nothing : (s s' : List ℕ) (j : ℕ) (text : List ℕ) → PassesBytes s → PassesBytes s' → bundle_names s' ≡ bundle_names s
    → bundle_texts s' ≡ set (bundle_texts s) j text → j ∉ opened_records s → ReadAlike s s'
unopened_changes_nothing s s' j text p p' n t h =
    opened_decide s s' p p' n (ap (λ (l : List (List ℕ)). length l) t ∙ length-set (bundle_texts s) j text)
    (λ k i. ap (λ (l : List (List ℕ)). get_or l k []) t ∙ get_or-set_other (bundle_texts s) j k text [] (λ e. h (subst (λ (x : ℕ). x ∈ opened_records s) e i)))
