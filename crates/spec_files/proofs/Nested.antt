-- The scopes of any reading: the top file's is the outermost, and every other lies in one that was entered before it. So at the end of all reading a name is
-- looked up outward through the parents.
use Prim.Native.Nat.{ℕ, zero, suc, ◌-◌, ◌≤◌, ◌<◌}
use mathlib.Core.List.{List, [], ◌∷◌, ◌++◌, map, append-nil}
use mathlib.Core.Bool.{Bool, true, false, not, ◌||◌}
use mathlib.Core.Option.{Option, none, some}
use mathlib.Core.Path.{◌≡◌, refl, sym, ◌∙◌, ap, subst}
use native.Mathlib.Omega.{arith}
use lib.Dec.{leb, ltb}
use lib.ListN.{length, length-append, get_or-append}
use lib.Seq.{get_or-append_seam}
use borrow.Author.Tests.{ltb-true, ltb-false}
use Rattle.lists.specs.Tests.{if_b, split}
use Rattle.spec.specs.declared.Refusal.{Refusal}
use Rattle.spec.specs.declared.Refusal.TheVariants.{LongManifest, BadByte, BadBundle}
use Rattle.spec.specs.Basics.{is_empty, or_else, among, sum}
use Rattle.spec.specs.Limits.{max_manifest, max_path, max_bundle, max_open, max_opened}
use Rattle.spec.specs.Lines.{Line}
use Rattle.spec.specs.Dollars.{expand}
use Rattle.spec.specs.Bundle.{sound_bundle, bundle_names, bundle_texts}
use Rattle.spec.specs.Reading.{Bound, Scope, Variables, Reading, nothing_read, no_scope, scope_at, bind_in, bound_to, own_vars, seen_from, var_from, file_var, number_of}
use Rattle.spec.specs.Statements.{Block, no_block, Outcome, over_counts, longer_than, bound}
use Rattle.spec.specs.Manifest.{and_then, Opener, opening, read_lines, text_lines, with_opened, entered, back_in, open_path, opener, bad_byte_in, Read, accepted, refused_with, read_of, read_manifest}
use Rattle.spec_files.proofs.Walk.{After, after_on, after_door, after_off, either_after, after_then, after_close, after_read}
use Rattle.spec_files.proofs.Parents.{seen_outward}

pub data Inside (scopes : List Scope) (k : ℕ) : Type 0 where
  outermost : k ≡ 0 → (scope_at scopes k).outer ≡ [] → Inside scopes k
  lies_in : (p : ℕ) → p < k → (scope_at scopes k).outer ≡ p ∷ (scope_at scopes p).outer → Inside scopes k

-- so many scopes at least, the one that is read in among them
record Nested (least : ℕ) (vs : Variables) : Type 0 where
  long : least ≤ length vs.scopes
  current : vs.current < length vs.scopes
  inside : (k : ℕ) → k < length vs.scopes → Inside vs.scopes k

-- where the scopes up to this one lie as they did
inside_same : (a b : List Scope) (k : ℕ) → ((j : ℕ) → j ≤ k → (scope_at b j).outer ≡ (scope_at a j).outer) → Inside a k → Inside b k
inside_same a b k o (outermost z e) = outermost z (o k (omega arith) ∙ e)
inside_same a b k o (lies_in p h e) = lies_in p h (o k (omega arith) ∙ e ∙ ap (λ (l : List ℕ). p ∷ l) (sym (o p (omega (arith, h)))))

-- ---- a binding

long_bound : (k : ℕ) (b : Bound) (l : List Scope) → length (bind_in k b l) ≡ length l
unfolding bind_in
long_bound k b [] = refl
long_bound zero b (s ∷ l) = refl
long_bound (suc k) b (s ∷ l) = ap suc (long_bound k b l)

outer_bound : (k : ℕ) (b : Bound) (l : List Scope) (j : ℕ) → (scope_at (bind_in k b l) j).outer ≡ (scope_at l j).outer
unfolding bind_in
outer_bound k b [] j = refl
outer_bound zero b (s ∷ l) zero = refl
outer_bound zero b (s ∷ l) (suc j) = refl
outer_bound (suc k) b (s ∷ l) zero = refl
outer_bound (suc k) b (s ∷ l) (suc j) = outer_bound k b l j

nested_bound : (m : ℕ) (b : Bound) (vs : Variables) → Nested m vs → Nested m (bound b vs)
nested_bound m b vs h =
    let e = long_bound vs.current b vs.scopes in
    record {
      long = omega (arith, e, h.long);
      current = omega (arith, e, h.current);
      inside = λ k l.
          inside_same vs.scopes (bind_in vs.current b vs.scopes) k (λ j i. outer_bound vs.current b vs.scopes j) (h.inside k (omega (arith, e, l)));
    }

-- ---- a new scope

nested_entered : (m : ℕ) (sub : Bool) (vs : Variables) → Nested m vs → Nested (length vs.scopes) (entered sub vs)
unfolding entered
nested_entered m false vs h = record { long = omega arith; current = h.current; inside = h.inside }
nested_entered m true vs h = record { long = omega (arith, e); current = omega (arith, e); inside = in_one }
  where
    x : Scope
    x = record { outer = vs.current ∷ (scope_at vs.scopes vs.current).outer; own = [] }

    e : length (vs.scopes ++ (x ∷ [])) ≡ suc (length vs.scopes)
    e = length-append vs.scopes (x ∷ []) ∙ (omega arith)

    kept : (j : ℕ) → j < length vs.scopes → (scope_at (vs.scopes ++ (x ∷ [])) j).outer ≡ (scope_at vs.scopes j).outer
    kept j i = ap (λ (s : Scope). s.outer) (get_or-append vs.scopes (x ∷ []) no_scope j i)

    last : (k : ℕ) → k ≡ length vs.scopes → Inside (vs.scopes ++ (x ∷ [])) k
    last k z =
        lies_in vs.current (omega (arith, z, h.current))
        (ap (λ (j : ℕ). (scope_at (vs.scopes ++ (x ∷ [])) j).outer) z
        ∙ ap (λ (s : Scope). s.outer) (get_or-append_seam vs.scopes x [] no_scope)
        ∙ ap (λ (l : List ℕ). vs.current ∷ l) (sym (kept vs.current h.current)))

    in_one : (k : ℕ) → k < length (vs.scopes ++ (x ∷ [])) → Inside (vs.scopes ++ (x ∷ [])) k
    in_one k l =
        split (ltb k (length vs.scopes))
        (λ (t : ltb k (length vs.scopes) ≡ true).
        let i = ltb-true k (length vs.scopes) t in
        inside_same vs.scopes (vs.scopes ++ (x ∷ [])) k (λ j q. kept j (omega (arith, i, q))) (h.inside k i))
        (λ (f : ltb k (length vs.scopes) ≡ false). last k (omega (arith, e, l, ltb-false k (length vs.scopes) f)))

-- ---- lines and files

abbrev Still : ℕ → Variables → ℕ → Type 0
Still m vs n = Nested m vs

abbrev binds : (m : ℕ) (b : Bound) (vs : Variables) (n : ℕ) → Still m vs n → Still m (bound b vs) n
binds m b vs n = nested_bound m b vs

abbrev Leaves : ℕ → Outcome → Type 0
Leaves m = After (Still m) (binds m)

abbrev NestingOpener : Opener → Type 0
NestingOpener via = (m start : ℕ) (sub : Bool) (raw : List ℕ) (rd : Reading) → Nested m rd.vars → Leaves m (via start sub raw rd)

opening_nested : (via : Opener) → NestingOpener via → (m : ℕ) {o : Outcome} → Leaves m o → Leaves m (opening via o)
unfolding opening
opening_nested via f m (after_on h) = after_on h
opening_nested via f m (after_door {start} {sub} {raw} {rd} h) = f m start sub raw rd h
opening_nested via f m after_off = after_off

lines_nested : (via : Opener) → NestingOpener via → (m : ℕ) (ls : List Line) (rd : Reading) (b : Block) → Nested m rd.vars → Leaves m (read_lines via ls rd b)
unfolding read_lines
lines_nested via f m [] rd b h = after_close (Still m) (binds m) rd h b
lines_nested via f m (l ∷ ls) rd b h =
    after_then (Still m) (binds m) (read_lines via ls) (opening_nested via f m (after_read (Still m) (binds m) l rd b h)) (λ rd' b' h'. lines_nested via f m ls rd' b' h')

back_nested : (m : ℕ) (vs : Variables) {o : Outcome} → Nested m vs → Leaves (length vs.scopes) o → Leaves m (and_then o (back_in vs.current))
unfolding and_then back_in
back_nested m vs h (after_on {rd} g) =
    let back : Nested m (record { scopes = rd.vars.scopes; current = vs.current }) =
    record { long = omega (arith, h.long, g.long); current = omega (arith, h.current, g.long); inside = g.inside } in
    after_on back
back_nested m vs h (after_door {rd = rd} g) =
    let on : Nested m rd.vars = record { long = omega (arith, h.long, g.long); current = g.current; inside = g.inside } in after_door on
back_nested m vs h after_off = after_off

opener_nested : (names texts : List (List ℕ)) (more : ℕ) → NestingOpener (opener names texts more)
unfolding opener open_path with_opened
opener_nested names texts zero m start sub raw rd h =
    let p = expand (file_var rd.vars) raw in
    either_after (Still m) (binds m) (is_empty p) after_off
    (either_after (Still m) (binds m) (longer_than max_path p || over_counts (with_opened (length p) (entered sub rd.vars) rd)) after_off
    (either_after (Still m) (binds m) (not (among p names) || leb max_opened rd.opened) after_off after_off))
opener_nested names texts (suc more) m start sub raw rd h =
    let p = expand (file_var rd.vars) raw in
    let after = with_opened (length p) (entered sub rd.vars) rd in
    let via = opener names texts more in
    let ls = text_lines texts (number_of p names) in
    either_after (Still m) (binds m) (is_empty p) after_off
    (either_after (Still m) (binds m) (longer_than max_path p || over_counts after) after_off
    (either_after (Still m) (binds m) (not (among p names) || leb max_opened rd.opened) after_off
    (back_nested m rd.vars h
    (lines_nested via (opener_nested names texts more) (length rd.vars.scopes) ls after no_block (nested_entered m sub rd.vars h)))))

top_nested : Nested 1 nothing_read.vars
top_nested = record { long = omega arith; current = omega arith; inside = λ k h. outermost (omega (arith, h)) (at k) }
  where
    at : (k : ℕ) → (scope_at (no_scope ∷ []) k).outer ≡ []
    at zero = refl
    at (suc k) = refl

-- ------------------------------------------------------------------ what has been read of any bundle

-- what is so of a reading that is accepted
data OfRead : Read → Type 0 where
  of_accepted : {rd : Reading} → Nested 1 rd.vars → OfRead (accepted rd)
  of_refused : {r : Refusal} → OfRead (refused_with r)

of_outcome : {o : Outcome} → Leaves 1 o → OfRead (read_of o)
unfolding read_of
of_outcome (after_on h) = of_accepted h
of_outcome (after_door h) = of_refused
of_outcome after_off = of_refused

either_read : {y : Read} (o : Bool) (r : Refusal) → OfRead y → OfRead (if_b o (λ _. refused_with r) (λ _. y))
either_read true r h = of_refused
either_read false r h = h

or_read : {y : Read} (o : Option ℕ) → OfRead y → OfRead (or_else o (λ at. refused_with (BadByte at)) (λ _. y))
or_read (some at) h = of_refused
or_read none h = h

read_nested : (s : List ℕ) → OfRead (read_manifest s)
unfolding read_manifest
read_nested s =
    let via = opener (bundle_names s) (bundle_texts s) (max_open - 1) in
    either_read (not (sound_bundle 1 max_bundle s)) BadBundle
    (either_read (ltb max_manifest (sum (map (λ (t : List ℕ). length t) (bundle_texts s)))) LongManifest
    (or_read (bad_byte_in 0 (bundle_texts s))
    (of_outcome (lines_nested via (opener_nested (bundle_names s) (bundle_texts s) (max_open - 1)) 1 (text_lines (bundle_texts s) 0) nothing_read no_block top_nested))))

pub scopes_nested : (s : List ℕ) (rd : Reading) → read_manifest s ≡ accepted rd → (k : ℕ) → k < length rd.vars.scopes → Inside rd.vars.scopes k
scopes_nested s rd e = accepted_inside (subst OfRead e (read_nested s))
  where
    accepted_inside : OfRead (accepted rd) → (k : ℕ) → k < length rd.vars.scopes → Inside rd.vars.scopes k
    accepted_inside (of_accepted h) = h.inside

-- "A step's file lookup goes outward through the parents, at the end of all reading": in a scope, a name has the value of its own newest binding; or else, where it
-- lies in p, what is seen from p; or else nothing.
pub data SeenIn (scopes : List Scope) (k : ℕ) (n : List ℕ) : Type 0 where
  in_top : k ≡ 0 → var_from scopes k n ≡ or_else (bound_to n (scope_at scopes k).own) (λ v. v) (λ _. []) → SeenIn scopes k n
  in_child : (p : ℕ) → p < k → var_from scopes k n ≡ or_else (bound_to n (scope_at scopes k).own) (λ v. v) (λ _. var_from scopes p n) → SeenIn scopes k n

seen_in : (scopes : List Scope) (k : ℕ) (n : List ℕ) → Inside scopes k → SeenIn scopes k n
unfolding var_from seen_from own_vars
seen_in scopes k n (outermost z e) = in_top z (rw (e, append-nil (scope_at scopes k).own) refl)
seen_in scopes k n (lies_in p h e) = in_child p h (seen_outward scopes k p e n)

pub seen_at_the_end : (s : List ℕ) (rd : Reading) → read_manifest s ≡ accepted rd → (k : ℕ) → k < length rd.vars.scopes → (n : List ℕ)
    → SeenIn rd.vars.scopes k n
seen_at_the_end s rd e k h n = seen_in rd.vars.scopes k n (scopes_nested s rd e k h)
