-- What a text lists: its first target up to the colon, then one name after another up to the rule's end.
use Rattle.std.specs.Prelude.{Option as StdOption, Some, None}
use Prim.Native.Nat.{ℕ, ◌+◌, ◌≤◌}
use mathlib.Core.Bool.{Bool, true, false}
use mathlib.Core.List.{List, [], ◌∷◌, ◌++◌, append-nil, append_assoc}
use mathlib.Core.Option.{Option, none, some, map}
use mathlib.Core.Path.{◌≡◌, refl, sym, ◌∙◌, ap}
use native.Mathlib.Omega.{arith}
use borrow.Author.Tests.{ltb-true, ltb-false, eqb-true, eqb-false}
use lib.Dec.{eqb, ltb}
use lib.ListN.{length, drop}
use Rattle.lists.specs.Bytes.{eq_bytes, eq_eq_bytes, ne_eq_bytes}
use Rattle.lists.specs.Tests.{if_b, split}
use Rattle.depfile.specs.Depfile.{colon_byte, Mark, byte, gap, line, lone, marks_of, DepRule, dep_rule, name_then, target_then, blank_lines, prerequisites_from, rule_from, behind_blank, depfile_rule, listed_for}
use Rattle.depfile.proofs.Names.{ends, ends_target, prerequisites_gap, prerequisites_end, targets_end}
use Rattle.scan_depfile.specs.Walk.{behind_gaps, name_here, behind_name, behind_colon, rule_ends, written_over}
use Rattle.scan_depfile.specs.Answers.{NextMark, ReadsMarks, PassesName, ColonAt, TargetHere, listed_at, StartsList, NameListed, ListOver}
use Rattle.scan_depfile.specs.declared.NameEnd.{NameEnd}
use Rattle.scan_depfile.proofs.Places.{no_marks, some_mark}
use Rattle.scan_depfile.proofs.Naming.{behind_none, take_written}

empty_list : (l : List ℕ) → length l ≡ 0 → l ≡ []
empty_list [] h = refl
empty_list (b ∷ l) h = absurd (omega arith)

-- ---- the first target

target_run : (w : List ℕ) (m : List Mark) → rule_from w m ≡ rule_from (w ++ name_here true m) (behind_name true m)
unfolding rule_from name_here behind_name
target_run w [] = refl
target_run w (byte b ∷ m) =
    split (eqb b colon_byte)
    (λ (e : eqb b colon_byte ≡ true). rw (e, append-nil w) (rw e))
    (λ (e : eqb b colon_byte ≡ false). rw e (target_run (w ++ (b ∷ [])) m ∙ rw (append_assoc w (b ∷ []) (name_here true m))))
target_run w (gap ∷ m) = rw (append-nil w)
target_run w (line ∷ m) = refl
target_run w (lone ∷ m) = refl

target_ends : (m : List Mark) → ends_target (behind_name true m) ≡ true
unfolding ends_target behind_name
target_ends [] = refl
target_ends (byte b ∷ m) =
    split (eqb b colon_byte)
    (λ (e : eqb b colon_byte ≡ true). rw e e)
    (λ (e : eqb b colon_byte ≡ false). rw e (target_ends m))
target_ends (gap ∷ m) = refl
target_ends (line ∷ m) = refl
target_ends (lone ∷ m) = refl

first_target : (m : List Mark) → rule_from [] m ≡ map (target_then (name_here true m)) (rule_from [] (behind_name true m))
first_target m = target_run [] m ∙ targets_end (name_here true m) (behind_name true m) (target_ends m)

-- a rule whose first target is t, for a step with the first output `out`
listed_by : (t out : List ℕ) (b : Bool) → eq_bytes t out ≡ b → (t ≡ [] → ⊥) → (o : Option DepRule)
    → listed_for out (map (target_then t) o) ≡ if_b b (λ _. map (λ (r : DepRule). r.prerequisites) o) (λ _. none)
unfolding listed_for target_then name_then
listed_by [] out b e h o = absurd (h refl)
listed_by (x ∷ t) out true e h none = refl
listed_by (x ∷ t) out false e h none = refl
listed_by (x ∷ t) out true e h (some r) = rw e
listed_by (x ∷ t) out false e h (some r) = rw e

-- a rule without a target
no_target : (out : List ℕ) (m : List Mark) → name_here true (behind_blank m) ≡ [] → listed_for out (rule_from [] (behind_blank m)) ≡ none
unfolding behind_blank rule_from listed_for name_here
no_target out [] h = refl
no_target out (byte b ∷ m) h =
    split (eqb b colon_byte)
    (λ (e : eqb b colon_byte ≡ true). rw e (nothing (prerequisites_from [] m)))
    (λ (e : eqb b colon_byte ≡ false). let z : b ∷ name_here true m ≡ [] = rw e at h in cc)
  where
    nothing : (o : Option (List (List ℕ))) → listed_for out (map (dep_rule (name_then [] [])) o) ≡ none
    nothing none = refl
    nothing (some l) = refl
no_target out (gap ∷ m) h = no_target out m h
no_target out (line ∷ m) h = no_target out m h
no_target out (lone ∷ m) h = refl

unlisted : (out : List ℕ) (m : List Mark) → ((b : ℕ) (t : List ℕ) → name_here true (behind_blank m) ≡ b ∷ t → b ∷ t ≡ out → ⊥) → listed_for out (rule_from [] (behind_blank m)) ≡ none
unlisted out m h = by_target (name_here true (behind_blank m)) refl
  where
    by_target : (t : List ℕ) → name_here true (behind_blank m) ≡ t → listed_for out (rule_from [] (behind_blank m)) ≡ none
    by_target [] e = no_target out m e
    by_target (b ∷ t) e =
        ap (listed_for out) (first_target (behind_blank m) ∙ rw e)
        ∙ listed_by (b ∷ t) out false (ne_eq_bytes (b ∷ t) out (h b t e)) (λ (z : b ∷ t ≡ []). let n : ◌≡◌ {A = ℕ} 0 1 = cc in omega arith) (rule_from [] (behind_name true (behind_blank m)))

-- ---- up to the colon

after_colon : Option (List Mark) → Option (List (List ℕ))
after_colon none = none
after_colon (some m) = prerequisites_from [] m

rule_colon : (w : List ℕ) (m : List Mark) → map (λ (r : DepRule). r.prerequisites) (rule_from w m) ≡ after_colon (behind_colon m)
unfolding rule_from behind_colon target_then after_colon
rule_colon w [] = refl
rule_colon w (byte b ∷ m) =
    split (eqb b colon_byte)
    (λ (e : eqb b colon_byte ≡ true). rw e (kept (prerequisites_from [] m)))
    (λ (e : eqb b colon_byte ≡ false). rw e (rule_colon (w ++ (b ∷ [])) m))
  where
    kept : (o : Option (List (List ℕ))) → map (λ (r : DepRule). r.prerequisites) (map (dep_rule (name_then w [])) o) ≡ o
    kept none = refl
    kept (some l) = refl
rule_colon w (gap ∷ m) = more (rule_from [] m) ∙ rule_colon [] m
  where
    more : (o : Option DepRule) → map (λ (r : DepRule). r.prerequisites) (map (target_then w) o) ≡ map (λ (r : DepRule). r.prerequisites) o
    more none = refl
    more (some r) = refl
rule_colon w (line ∷ m) = refl
rule_colon w (lone ∷ m) = refl

-- ---- for a step

pub start_empty : (s out : List ℕ) → length out ≡ 0 → listed_for out (depfile_rule s) ≡ none
unfolding depfile_rule
start_empty s out h = unlisted out (marks_of s) (λ b t e z. omega (arith, ap length z))

module _ {s : List ℕ} {i : ℕ} (out : List ℕ) (a : ReadsMarks behind_blank s 0 i) where
  pub start_other : (name_here true (marks_of (drop i s)) ≡ out → ⊥) → listed_for out (depfile_rule s) ≡ none
  unfolding depfile_rule
  start_other h = unlisted out (marks_of s) (λ b t e z. h (rw a.rest (e ∙ z)))

  start_found : {j : ℕ} → TargetHere s i out j → (length out ≡ 0 → ⊥) → listed_for out (depfile_rule s) ≡ after_colon (behind_colon (marks_of (drop j s)))
  unfolding depfile_rule
  start_found {j} h n =
      let m = behind_blank (marks_of s) in
      let e : name_here true m ≡ out = rw (← a.rest) h.target in
      let r : behind_name true m ≡ marks_of (drop j s) = rw (← a.rest) (sym h.reads.rest) in
      ap (listed_for out) (first_target m ∙ rw (e, r))
      ∙ listed_by out out true (eq_eq_bytes refl) (λ (z : out ≡ []). n (ap length z)) (rule_from [] (marks_of (drop j s)))
      ∙ rule_colon [] (marks_of (drop j s))

  pub start_on : {j : ℕ} (r : StdOption ℕ) → TargetHere s i out j → (length out ≡ 0 → ⊥) → ColonAt s j r → StartsList s out r
  unfolding ColonAt StartsList after_colon
  start_on (Some r) h n k = record { within = k.within; names = start_found h n ∙ ap after_colon k.behind }
  start_on None h n k = start_found h n ∙ ap after_colon k

-- ---- names behind the colon

prerequisites_behind : (m : List Mark) → prerequisites_from [] m ≡ prerequisites_from [] (behind_gaps m)
unfolding behind_gaps
prerequisites_behind [] = refl
prerequisites_behind (byte b ∷ m) = refl
prerequisites_behind (gap ∷ m) = prerequisites_gap m ∙ prerequisites_behind m
prerequisites_behind (line ∷ m) = refl
prerequisites_behind (lone ∷ m) = refl

name_run : (w : List ℕ) (m : List Mark) → prerequisites_from w m ≡ prerequisites_from (w ++ name_here false m) (behind_name false m)
unfolding prerequisites_from name_here behind_name
name_run w [] = rw (append-nil w)
name_run w (byte b ∷ m) = name_run (w ++ (b ∷ [])) m ∙ rw (append_assoc w (b ∷ []) (name_here false m))
name_run w (gap ∷ m) = rw (append-nil w)
name_run w (line ∷ m) = rw (append-nil w)
name_run w (lone ∷ m) = refl

name_ends : (m : List Mark) → ends (behind_name false m) ≡ true
unfolding ends behind_name
name_ends [] = refl
name_ends (byte b ∷ m) = name_ends m
name_ends (gap ∷ m) = refl
name_ends (line ∷ m) = refl
name_ends (lone ∷ m) = refl

name_length : (m : List Mark) → length m ≡ length (name_here false m) + length (behind_name false m)
unfolding name_here behind_name
name_length [] = omega arith
name_length (byte b ∷ m) = omega (arith, name_length m)
name_length (gap ∷ m) = omega arith
name_length (line ∷ m) = omega arith
name_length (lone ∷ m) = omega arith

first_name : (m : List Mark) → prerequisites_from [] m ≡ map (name_then (name_here false m)) (prerequisites_from [] (behind_name false m))
first_name m = name_run [] m ∙ prerequisites_end (name_here false m) (behind_name false m) (name_ends m)

map_name : (n : List ℕ) → (length n ≡ 0 → ⊥) → (o : Option (List (List ℕ))) → map (name_then n) o ≡ map (λ l. n ∷ l) o
unfolding name_then
map_name [] h o = absurd (h refl)
map_name (b ∷ n) h none = refl
map_name (b ∷ n) h (some l) = refl

no_name : (m : List Mark) → name_here false (behind_gaps m) ≡ [] → prerequisites_from [] (behind_gaps m) ≡ if_b (rule_ends (behind_gaps m)) (λ _. some []) (λ _. none)
unfolding behind_gaps name_here prerequisites_from rule_ends name_then
no_name [] h = refl
no_name (byte b ∷ m) h = let z : b ∷ name_here false m ≡ [] = h in cc
no_name (gap ∷ m) h = no_name m h
no_name (line ∷ m) h = refl
no_name (lone ∷ m) h = refl

module _ {s before after : List ℕ} {from i : ℕ} (a : ReadsMarks behind_gaps s from i) {r : NameEnd} (p : PassesName s i before after r) where
  here : listed_at s from ≡ listed_at s i
  here = prerequisites_behind (marks_of (drop from s)) ∙ ap (prerequisites_from []) (sym a.rest)

  pub next_name : (r.length ≡ 0 → ⊥) → NameListed s from r.next r.length before after
  next_name h =
      let name = name_here false (marks_of (drop i s)) in
      let full : length name ≡ 0 → ⊥ = λ (z : length name ≡ 0). h (p.counts ∙ z) in
      let moved : r.next ≡ i → ⊥ =
      λ (e : r.next ≡ i).
      let k : marks_of (drop i s) ≡ behind_name false (marks_of (drop i s)) = rw e at p.reads.rest in
      full (omega (arith, name_length (marks_of (drop i s)), ap length k)) in
      record {
        name = name;
        counts = p.counts;
        longer = split (ltb 0 r.length) (λ e. ltb-true 0 r.length e) (λ e. absurd (h (omega (arith, ltb-false 0 r.length e))));
        forward =
            split (ltb from r.next) (λ e. ltb-true from r.next e)
            (λ e. absurd (moved (omega (arith, ltb-false from r.next e, a.forward, p.reads.forward))));
        within = p.reads.within;
        names =
            here
            ∙ first_name (marks_of (drop i s))
            ∙ map_name name full (prerequisites_from [] (behind_name false (marks_of (drop i s))))
            ∙ ap (λ (m : List Mark). map (λ l. name ∷ l) (prerequisites_from [] m)) (sym p.reads.rest);
        word = p.word;
        whole = λ k. rw (p.counts, p.word) (take_written name before (rw p.counts at k));
      }

  module _ (h : r.length ≡ 0) where
    none_here : name_here false (marks_of (drop i s)) ≡ []
    none_here = empty_list (name_here false (marks_of (drop i s))) (sym p.counts ∙ h)

    same_word : after ≡ before
    unfolding written_over
    same_word = p.word ∙ rw none_here

    ending : listed_at s from ≡ if_b (rule_ends (marks_of (drop r.next s))) (λ _. some []) (λ _. none)
    ending =
        let stay : marks_of (drop r.next s) ≡ marks_of (drop i s) = p.reads.rest ∙ behind_none false (marks_of (drop i s)) none_here in
        here
        ∙ rw (stay, a.rest) (no_name (marks_of (drop from s)) (rw (← a.rest) none_here))

    pub next_end : rule_ends (marks_of (drop r.next s)) ≡ true → ListOver s from (some []) before after
    next_end e = record { names = ending ∙ rw e; word = same_word }

    pub next_malformed : rule_ends (marks_of (drop r.next s)) ≡ false → ListOver s from none before after
    next_malformed e = record { names = ending ∙ rw e; word = same_word }

-- ---- the rule's end

blank_none : (m : List Mark) → behind_blank m ≡ [] → blank_lines m ≡ true
unfolding behind_blank blank_lines
blank_none [] h = refl
blank_none (byte b ∷ m) h = cc
blank_none (gap ∷ m) h = blank_none m h
blank_none (line ∷ m) h = blank_none m h
blank_none (lone ∷ m) h = cc

blank_some : (m : List Mark) → (behind_blank m ≡ [] → ⊥) → blank_lines m ≡ false
unfolding behind_blank blank_lines
blank_some [] h = absurd (h refl)
blank_some (byte b ∷ m) h = refl
blank_some (gap ∷ m) h = blank_some m h
blank_some (line ∷ m) h = blank_some m h
blank_some (lone ∷ m) h = refl

module _ {s : List ℕ} {from r : ℕ} (a : ReadsMarks behind_blank s from r) where
  blank_to_end : r ≡ length s → blank_lines (marks_of (drop from s)) ≡ true
  blank_to_end e = blank_none (marks_of (drop from s)) (sym a.rest ∙ no_marks s r (omega (arith, e)))

  more_than_blank : (r ≡ length s → ⊥) → blank_lines (marks_of (drop from s)) ≡ false
  more_than_blank h =
      blank_some (marks_of (drop from s))
      (λ (e : behind_blank (marks_of (drop from s)) ≡ []).
      split (ltb r (length s))
      (λ (l : ltb r (length s) ≡ true). some_mark s r (ltb-true r (length s) l) (a.rest ∙ e))
      (λ (l : ltb r (length s) ≡ false). h (omega (arith, ltb-false r (length s) l, a.within))))

  pub only_blank : eqb r (length s) ≡ blank_lines (marks_of (drop from s))
  only_blank =
      split (eqb r (length s))
      (λ (e : eqb r (length s) ≡ true). e ∙ sym (blank_to_end (eqb-true r (length s) e)))
      (λ (e : eqb r (length s) ≡ false). e ∙ sym (more_than_blank (eqb-false r (length s) e)))

pub ends_text : (s : List ℕ) (i : ℕ) → length s ≤ i → rule_ends (marks_of (drop i s)) ≡ true
unfolding rule_ends
ends_text s i h = rw (no_marks s i h)

module _ {s : List ℕ} {i n : ℕ} where
  pub ends_line_law : NextMark s i line n → rule_ends (marks_of (drop i s)) ≡ blank_lines (marks_of (drop n s))
  unfolding rule_ends
  ends_line_law h = rw h.marks

  pub ends_not : (m : Mark) → ((t : List Mark) → rule_ends (m ∷ t) ≡ false) → NextMark s i m n → rule_ends (marks_of (drop i s)) ≡ false
  ends_not m e h = rw h.marks (e (marks_of (drop n s)))
