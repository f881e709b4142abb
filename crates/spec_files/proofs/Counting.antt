-- The records that are opened are as many as the reading counts, and at most 64: no line opens a file but those that say so, and those count each.
use Prim.Native.Nat.{ℕ, zero, suc, ◌+◌, ◌-◌, ◌≤◌, ◌<◌}
use mathlib.Core.List.{List, [], ◌∷◌, ◌++◌}
use mathlib.Core.Bool.{Bool, true, false, not, ◌||◌}
use mathlib.Core.Path.{◌≡◌, refl, sym, ◌∙◌, ap, subst}
use native.Mathlib.Omega.{arith}
use lib.Dec.{leb}
use lib.ListN.{length, length-append}
use borrow.Author.Tests.{leb-false}
use Rattle.lists.specs.Tests.{if_b, or_right}
use Rattle.lists.specs.Text.{bytes}
use Rattle.spec.specs.declared.Refusal.{Refusal}
use Rattle.spec.specs.declared.Refusal.TheVariants.{BadPath, OverLimit, BadOpen}
use Rattle.spec.specs.Basics.{is_empty, among}
use Rattle.spec.specs.Limits.{max_path, max_open, max_opened}
use Rattle.spec.specs.Lines.{Line}
use Rattle.spec.specs.Dollars.{expand}
use Rattle.spec.specs.Bundle.{bundle_names, bundle_texts}
use Rattle.spec.specs.Reading.{Reading, nothing_read, file_var, has_key, number_of}
use Rattle.spec.specs.Statements.{Block, no_block, rule_block, build_block, Outcome, goes_on, refused, over_counts, longer_than}
use Rattle.spec.specs.Manifest.{with_rule, with_step, close, and_then, read_line, Opener, opening, read_lines, text_lines, with_opened, entered, back_in, open_path, opener, Read, accepted, refused_with, read_of, read_manifest}
use Rattle.spec_files.proofs.Walk.{After, after_on, after_door, after_off, after_read}
use Rattle.spec_files.specs.Opened.{Noting, noted_at, noted_then, noted_in, noting, opened_records, PassesBytes}
use Rattle.spec_files.proofs.Unopened.{lines_read}

-- a line opens none by itself: so many have been opened
abbrev Counted : ℕ → Outcome → Type 0
Counted n = After (λ vs m. m ≡ n) (λ b vs m e. e)

counted_read : {n : ℕ} (l : Line) (rd : Reading) (b : Block) → rd.opened ≡ n → Counted n (read_line l rd b)
counted_read {n} l rd b e = after_read (λ vs m. m ≡ n) (λ x vs m h. h) l rd b e

-- what a text leaves where n were opened before it and these by it: the reading's own count is right, and within the limit
data Tally (n : ℕ) (ks : List ℕ) : Outcome → Type 0 where
  tally_on : {rd : Reading} {b : Block} → rd.opened ≡ n + length ks → n + length ks ≤ max_opened → Tally n ks (goes_on rd b)
  tally_off : {r : Refusal} → n + length ks ≤ max_opened → Tally n ks (refused r)

either_tally : {n : ℕ} {x y : Outcome} {ks : List ℕ} (o : Bool) → Tally n ks x → Tally n ks y → Tally n ks (if_b o (λ _. x) (λ _. y))
either_tally true a b = a
either_tally false a b = b

tally_close : (rd : Reading) (b : Block) → rd.opened ≤ max_opened → Tally rd.opened [] (close rd b)
unfolding close with_rule with_step
tally_close rd no_block h = tally_on {rd = rd} (omega arith) (omega (arith, h))
tally_close rd (rule_block head r) h =
    either_tally (has_key (bytes "command") r.keys) (tally_on {rd = with_rule r rd} (omega arith) (omega (arith, h))) (tally_off (omega (arith, h)))
tally_close rd (build_block s) h = tally_on {rd = with_step s rd} (omega arith) (omega (arith, h))

-- more, behind those that were opened
tally_more : {n m : ℕ} {o : Outcome} {ms : List ℕ} (ks : List ℕ) → m ≡ n + length ks → Tally m ms o → Tally n (ks ++ ms) o
tally_more {n} {m} {o} {ms} ks e (tally_on {rd} f h) =
    let a : length (ks ++ ms) ≡ length ks + length ms = length-append ks ms in tally_on {rd = rd} (omega (arith, a, e, f)) (omega (arith, a, e, h))
tally_more {n} {m} {o} {ms} ks e (tally_off h) = let a : length (ks ++ ms) ≡ length ks + length ms = length-append ks ms in tally_off (omega (arith, a, e, h))

tally_then : {n : ℕ} {o : Outcome} {ks : List ℕ} (f : Reading → Block → Outcome) (noted : Reading → Block → List ℕ) → Tally n ks o
    → ((rd : Reading) (b : Block) → rd.opened ≤ max_opened → Tally rd.opened (noted rd b) (f rd b)) → Tally n (ks ++ noted_then o noted) (and_then o f)
unfolding and_then noted_then
tally_then {ks = ks} f noted (tally_on {rd} {b} e h) g = tally_more ks e (g rd b (omega (arith, e, h)))
tally_then {n} {ks = ks} f noted (tally_off h) g = let a : length (ks ++ []) ≡ length ks + 0 = length-append ks [] in tally_off (omega (arith, a, h))

module _ (via : Opener) (note : Noting)
    (right : (start : ℕ) (sub : Bool) (raw : List ℕ) (rd : Reading) → rd.opened ≤ max_opened → Tally rd.opened (note start sub raw rd) (via start sub raw rd)) where
  tally_opening : {n : ℕ} {o : Outcome} → n ≤ max_opened → Counted n o → Tally n (noted_at note o) (opening via o)
  unfolding opening noted_at
  tally_opening h (after_on {rd} e) = tally_on {rd = rd} (omega (arith, e)) (omega (arith, h))
  tally_opening {n} h (after_door {start} {sub} {raw} {rd} e) =
      subst (λ (m : ℕ). Tally m (note start sub raw rd) (via start sub raw rd)) e (right start sub raw rd (omega (arith, e, h)))
  tally_opening h after_off = tally_off (omega (arith, h))

  tally_lines : (ls : List Line) (rd : Reading) (b : Block) → rd.opened ≤ max_opened → Tally rd.opened (noted_in via note ls rd b) (read_lines via ls rd b)
  unfolding read_lines noted_in
  tally_lines [] rd b h = tally_close rd b h
  tally_lines (l ∷ ls) rd b h =
      tally_then (read_lines via ls) (noted_in via note ls) (tally_opening h (counted_read l rd b refl)) (λ rd' b' h'. tally_lines ls rd' b' h')

tally_gate : {n : ℕ} (a b c : Bool) (x y z : Refusal) (after : Reading) (f : Outcome) (noted : Reading → Block → List ℕ) → n ≤ max_opened
    → (c ≡ false → Tally n (noted after no_block) f)
    → Tally n (noted_then (if_b a (λ _. refused x) (λ _. if_b b (λ _. refused y) (λ _. if_b c (λ _. refused z) (λ _. goes_on after no_block)))) noted) (if_b a (λ _. refused x) (λ _. if_b b (λ _. refused y) (λ _. if_b c (λ _. refused z) (λ _. f))))
unfolding noted_then
tally_gate true b c x y z after f noted h g = tally_off (omega (arith, h))
tally_gate false true c x y z after f noted h g = tally_off (omega (arith, h))
tally_gate false false true x y z after f noted h g = tally_off (omega (arith, h))
tally_gate false false false x y z after f noted h g = g refl

tally_back : {n m : ℕ} {o : Outcome} {ks : List ℕ} (c k : ℕ) → m ≡ suc n → Tally m ks o → Tally n (k ∷ ks) (and_then o (back_in c))
unfolding and_then back_in
tally_back {n} {m} {o} {ks} c k e (tally_on {rd} f h) =
    let g : rd.opened ≡ n + length (k ∷ ks) = omega (arith, e, f) in tally_on g (omega (arith, e, h))
tally_back c k e (tally_off h) = tally_off (omega (arith, e, h))

tally_opener : (names texts : List (List ℕ)) (more start : ℕ) (sub : Bool) (raw : List ℕ) (rd : Reading) → rd.opened ≤ max_opened
    → Tally rd.opened (noting names texts more start sub raw rd) (opener names texts more start sub raw rd)
unfolding opener noting open_path with_opened
tally_opener names texts zero start sub raw rd h =
    let p = expand (file_var rd.vars) raw in
    let no : Tally rd.opened [] (refused (BadOpen start)) = tally_off (omega (arith, h)) in
    either_tally (is_empty p) (tally_off (omega (arith, h)))
    (either_tally (longer_than max_path p || over_counts (with_opened (length p) (entered sub rd.vars) rd)) (tally_off (omega (arith, h)))
    (either_tally (not (among p names) || leb max_opened rd.opened) no no))
tally_opener names texts (suc more) start sub raw rd h =
    let p = expand (file_var rd.vars) raw in
    let k = number_of p names in
    let after = with_opened (length p) (entered sub rd.vars) rd in
    let via = opener names texts more in
    let note = noting names texts more in
    let full = leb max_opened rd.opened in
    tally_gate (is_empty p) (longer_than max_path p || over_counts after) (not (among p names) || full) (BadPath start) (OverLimit start) (BadOpen start) after
    (and_then (read_lines via (text_lines texts k) after no_block) (back_in rd.vars.current)) (λ later b. k ∷ noted_in via note (text_lines texts k) later no_block) h
    (λ c.
    let room : rd.opened < max_opened = leb-false max_opened rd.opened (or_right (not (among p names)) full c) in
    tally_back rd.vars.current k refl
    (tally_lines via note (tally_opener names texts more) (text_lines texts k) after no_block (omega (arith, room))))

top_tally : (s : List ℕ)
    → Tally 1 (noted_in (opener (bundle_names s) (bundle_texts s) (max_open - 1)) (noting (bundle_names s) (bundle_texts s) (max_open - 1)) (text_lines (bundle_texts s) 0) nothing_read no_block) (read_lines (opener (bundle_names s) (bundle_texts s) (max_open - 1)) (text_lines (bundle_texts s) 0) nothing_read no_block)
top_tally s =
    let names = bundle_names s in
    let texts = bundle_texts s in
    tally_lines (opener names texts (max_open - 1)) (noting names texts (max_open - 1)) (tally_opener names texts (max_open - 1)) (text_lines texts 0) nothing_read no_block (omega arith)

-- "64 opened in all, the top one counted", whatever the bundle holds
pub opened_most : (s : List ℕ) → length (opened_records s) ≤ max_opened
unfolding opened_records
opened_most s = most (top_tally s)
  where
    most : {o : Outcome} {ks : List ℕ} → Tally 1 ks o → length (0 ∷ ks) ≤ max_opened
    most (tally_on e h) = omega (arith, h)
    most (tally_off h) = omega (arith, h)

not_accepted : {r : Refusal} {rd : Reading} → refused_with r ≡ accepted rd → ⊥
not_accepted e = subst refuses e tt
  where
    refuses : Read → Type 0
    refuses (accepted rd) = ⊥
    refuses (refused_with r) = Unit {0}

-- The records that are opened are as many as the reading itself counts.
pub opened_counted : (s : List ℕ) (rd : Reading) → PassesBytes s → read_manifest s ≡ accepted rd → rd.opened ≡ length (opened_records s)
unfolding opened_records read_of
opened_counted s rd p e = counts (top_tally s) (sym (lines_read s p) ∙ e)
  where
    same_reading : {x y : Reading} → accepted x ≡ accepted y → x ≡ y
    same_reading f = cc

    counts : {o : Outcome} {ks : List ℕ} → Tally 1 ks o → read_of o ≡ accepted rd → rd.opened ≡ length (0 ∷ ks)
    counts (tally_on f h) g = ap (λ (x : Reading). x.opened) (sym (same_reading g)) ∙ f ∙ omega arith
    counts (tally_off h) g = absurd (not_accepted g)
