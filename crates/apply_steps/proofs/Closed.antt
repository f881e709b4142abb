-- What the lists of a line come to, in closed form.
use Prim.Native.Nat.{ℕ, ◌+◌}
use mathlib.Core.List.{List, [], ◌∷◌, ◌++◌, append_assoc, append-nil}
use mathlib.Core.Path.{◌≡◌, refl, sym, ◌∙◌, ap}
use native.Mathlib.Omega.{arith}
use lib.ListN.{length, get_or, length-append}
use Rattle.spec.specs.Basics.{concat}
use Rattle.spec.specs.Forms.{BuildLine}
use Rattle.spec.specs.Reading.{Reading, numbers_of, mention}
use Rattle.spec.specs.Statements.{mentioned, inputs_of_line}
use Rattle.spec.proofs.Numbers.{mention_append}
use Rattle.apply_files.specs.Lines.{LineHeld, with_paths}
use Rattle.apply_files.proofs.Closed.{among_all, numbers_stay, numbers_append, length_numbers, paths_log, paths_phony, paths_ruled, paths_reading, paths_ends, paths_mentions, paths_made}
use Rattle.apply_step_lists.specs.Lists.{with_end, with_lists, lists_of}

pub lists_log : (pss : List (List (List ℕ))) (h : LineHeld) → (with_lists pss h).log ≡ h.log
unfolding with_lists with_end
lists_log [] h = refl
lists_log (ps ∷ pss) h = lists_log pss (with_end (with_paths ps h)) ∙ paths_log ps h

pub lists_phony : (pss : List (List (List ℕ))) (h : LineHeld) → (with_lists pss h).phony ≡ h.phony
unfolding with_lists with_end
lists_phony [] h = refl
lists_phony (ps ∷ pss) h = lists_phony pss (with_end (with_paths ps h)) ∙ paths_phony ps h

pub lists_ruled : (pss : List (List (List ℕ))) (h : LineHeld) → (with_lists pss h).rule_of ≡ h.rule_of
unfolding with_lists with_end
lists_ruled [] h = refl
lists_ruled (ps ∷ pss) h = lists_ruled pss (with_end (with_paths ps h)) ∙ paths_ruled ps h

pub lists_made : (pss : List (List (List ℕ))) (h : LineHeld) (f : ℕ) → get_or (with_lists pss h).made f 0 ≡ get_or h.made f 0
unfolding with_lists with_end
lists_made [] h f = refl
lists_made (ps ∷ pss) h f = lists_made pss (with_end (with_paths ps h)) f ∙ paths_made ps h f

pub lists_mentions : (pss : List (List (List ℕ))) (h : LineHeld) → (with_lists pss h).mentions ≡ h.mentions ++ numbers_of (mention h.reading.files (concat pss)) (concat pss)
unfolding with_lists with_end concat mentioned numbers_of
lists_mentions [] h = sym (append-nil h.mentions)
lists_mentions (ps ∷ pss) h =
    let f = h.reading.files in
    let r = concat pss in
    let m = mention f ps in
    let z : (with_paths ps h).reading.files ≡ m = ap (λ (rd : Reading). rd.files) (paths_reading ps h) in
    lists_mentions pss (with_end (with_paths ps h))
    ∙ rw (z, paths_mentions ps h)
    (append_assoc h.mentions (numbers_of m ps) (numbers_of (mention m r) r)
    ∙ rw (mention_append f ps r, numbers_append (mention m r) ps r, numbers_stay m ps r (among_all f ps)))

-- the ends of lists, the first of which starts at k
abbrev pub ends_after : ℕ → List (List (List ℕ)) → List ℕ
ends_after k [] = []
ends_after k (ps ∷ pss) = (k + length ps) ∷ ends_after (k + length ps) pss

length_paths : (ps : List (List ℕ)) (h : LineHeld) → length (with_paths ps h).mentions ≡ length h.mentions + length ps
length_paths ps h =
    let n = numbers_of (mention h.reading.files ps) ps in
    omega (arith, ap length (paths_mentions ps h), length-append h.mentions n, length_numbers (mention h.reading.files ps) ps)

pub lists_ends : (pss : List (List (List ℕ))) (h : LineHeld) → (with_lists pss h).ends ≡ h.ends ++ ends_after (length h.mentions) pss
unfolding with_lists with_end
lists_ends [] h = sym (append-nil h.ends)
lists_ends (ps ∷ pss) h =
    let n = length h.mentions + length ps in
    lists_ends pss (with_end (with_paths ps h)) ∙ rw (length_paths ps h, paths_ends ps h) (append_assoc h.ends (n ∷ []) (ends_after n pss))

pub concat_lists : (b : BuildLine) → concat (lists_of b) ≡ b.outs ++ inputs_of_line b
unfolding concat inputs_of_line
concat_lists b = rw (append-nil b.order_only)
