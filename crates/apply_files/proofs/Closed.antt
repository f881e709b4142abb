-- What a list of mentions comes to: the reading, the numbers at the end of the mentions, and the makers, which stay.
use Prim.Native.Nat.{ℕ, zero, suc, ◌<◌}
use mathlib.Core.Bool.{true, false}
use mathlib.Core.List.{List, [], ◌∷◌, ◌++◌, append_assoc, append-nil}
use mathlib.Core.Path.{◌≡◌, refl, sym, ◌∙◌, ap}
use native.Mathlib.Omega.{arith}
use lib.ListN.{length, get_or}
use Rattle.lists.specs.Tests.{split}
use Rattle.lists.specs.Bytes.{eq_bytes, eq_bytes_refl}
use Rattle.spec.specs.Basics.{among}
use Rattle.spec.specs.Reading.{number_of, numbers_of, mention}
use Rattle.spec.specs.Statements.{mentioned}
use Rattle.spec.proofs.Numbers.{among_here, among_there, number_below, number_mention, mention_none, mention_old, mention_new, mention_append, among_mention}
use Rattle.apply_files.specs.Lines.{LineHeld, made_with, with_mention, with_paths}
use Rattle.apply_files.proofs.Limits.{mentioned_append, mentioned_none}

-- ---- what was mentioned is there

among_last : (p : List ℕ) (l : List (List ℕ)) → among p (l ++ (p ∷ [])) ≡ true
among_last p [] = among_here p p [] (eq_bytes_refl p)
among_last p (f ∷ l) =
    split (eq_bytes p f)
    (λ (e : eq_bytes p f ≡ true). among_here p f (l ++ (p ∷ [])) e)
    (λ (e : eq_bytes p f ≡ false). among_there p f (l ++ (p ∷ [])) e ∙ among_last p l)

among_own : (files : List (List ℕ)) (p : List ℕ) → among p (mention files (p ∷ [])) ≡ true
among_own files p =
    split (among p files)
    (λ (e : among p files ≡ true). rw (mention_old files p [] e ∙ mention_none files) e)
    (λ (e : among p files ≡ false). rw (mention_new files p [] e ∙ mention_none (files ++ (p ∷ []))) (among_last p files))

-- all of them are among the files
abbrev pub Among : List (List ℕ) → List (List ℕ) → Type 0
Among [] files = Unit {0}
Among (p ∷ ps) files = (among p files ≡ true) × Among ps files

pub among_all : (files ps : List (List ℕ)) → Among ps (mention files ps)
among_all files [] = tt
among_all files (p ∷ ps) =
    rw (mention_append files (p ∷ []) ps)
    (among_mention p (mention files (p ∷ [])) ps (among_own files p), among_all (mention files (p ∷ [])) ps)

-- and keep their numbers
pub numbers_stay : (files ps qs : List (List ℕ)) → Among ps files → numbers_of (mention files qs) ps ≡ numbers_of files ps
unfolding numbers_of
numbers_stay files [] qs a = refl
numbers_stay files (p ∷ ps) qs a =
    rw (number_mention p files qs a.0) (ap (λ (r : List ℕ). number_of p files ∷ r) (numbers_stay files ps qs a.1))

pub numbers_append : (files ps qs : List (List ℕ)) → numbers_of files (ps ++ qs) ≡ numbers_of files ps ++ numbers_of files qs
unfolding numbers_of
numbers_append files [] qs = refl
numbers_append files (p ∷ ps) qs = ap (λ (r : List ℕ). number_of p files ∷ r) (numbers_append files ps qs)

pub numbers_low : (files ps : List (List ℕ)) → Among ps files → (i : ℕ) → i < length ps → get_or (numbers_of files ps) i 0 < length files
unfolding numbers_of
numbers_low files [] a i h = absurd (omega arith)
numbers_low files (p ∷ ps) a zero h = number_below p files a.0
numbers_low files (p ∷ ps) a (suc i) h = numbers_low files ps a.1 i (omega arith)

pub length_numbers : (files ps : List (List ℕ)) → length (numbers_of files ps) ≡ length ps
unfolding numbers_of
length_numbers files [] = refl
length_numbers files (p ∷ ps) = ap suc (length_numbers files ps)

-- ---- the line

pub paths_log : (ps : List (List ℕ)) (h : LineHeld) → (with_paths ps h).log ≡ h.log
unfolding with_paths with_mention
paths_log [] h = refl
paths_log (p ∷ ps) h = paths_log ps (with_mention p h)

pub paths_ends : (ps : List (List ℕ)) (h : LineHeld) → (with_paths ps h).ends ≡ h.ends
unfolding with_paths with_mention
paths_ends [] h = refl
paths_ends (p ∷ ps) h = paths_ends ps (with_mention p h)

pub paths_phony : (ps : List (List ℕ)) (h : LineHeld) → (with_paths ps h).phony ≡ h.phony
unfolding with_paths with_mention
paths_phony [] h = refl
paths_phony (p ∷ ps) h = paths_phony ps (with_mention p h)

pub paths_ruled : (ps : List (List ℕ)) (h : LineHeld) → (with_paths ps h).rule_of ≡ h.rule_of
unfolding with_paths with_mention
paths_ruled [] h = refl
paths_ruled (p ∷ ps) h = paths_ruled ps (with_mention p h)

pub paths_reading : (ps : List (List ℕ)) (h : LineHeld) → (with_paths ps h).reading ≡ mentioned ps h.reading
unfolding with_paths with_mention
paths_reading [] h = sym (mentioned_none h.reading)
paths_reading (p ∷ ps) h = paths_reading ps (with_mention p h) ∙ sym (mentioned_append (p ∷ []) ps h.reading)

pub paths_mentions : (ps : List (List ℕ)) (h : LineHeld) → (with_paths ps h).mentions ≡ h.mentions ++ numbers_of (mention h.reading.files ps) ps
unfolding with_paths with_mention mentioned numbers_of
paths_mentions [] h = sym (append-nil h.mentions)
paths_mentions (p ∷ ps) h =
    let f = mention h.reading.files (p ∷ []) in
    let n = number_of p f in
    paths_mentions ps (with_mention p h)
    ∙ append_assoc h.mentions (n ∷ []) (numbers_of (mention f ps) ps)
    ∙ rw (mention_append h.reading.files (p ∷ []) ps, number_mention p f ps (among_own h.reading.files p))
    (ap (λ (fs : List (List ℕ)). h.mentions ++ (n ∷ numbers_of fs ps)) (sym (mention_append h.reading.files (p ∷ []) ps)))

-- a file that is new has no maker, as one that is not there
made_more : (made : List ℕ) (f : ℕ) → get_or (made ++ (0 ∷ [])) f 0 ≡ get_or made f 0
made_more [] zero = refl
made_more [] (suc f) = refl
made_more (x ∷ l) zero = refl
made_more (x ∷ l) (suc f) = made_more l f

made_with_law : (p : List ℕ) (files : List (List ℕ)) (made : List ℕ) (f : ℕ) → get_or (made_with p files made) f 0 ≡ get_or made f 0
unfolding made_with
made_with_law p files made f =
    split (among p files) (λ (e : among p files ≡ true). rw e) (λ (e : among p files ≡ false). rw e (made_more made f))

pub paths_made : (ps : List (List ℕ)) (h : LineHeld) (f : ℕ) → get_or (with_paths ps h).made f 0 ≡ get_or h.made f 0
unfolding with_paths with_mention
paths_made [] h f = refl
paths_made (p ∷ ps) h f = paths_made ps (with_mention p h) f ∙ made_with_law p h.reading.files h.made f
