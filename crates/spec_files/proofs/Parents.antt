-- A `subninja` changes no variable of its parents, whatever it holds; what it sees is its own variables, then its parents' as they then stand.
use Prim.Native.Nat.{ℕ, zero, suc, ◌<◌}
use mathlib.Core.List.{List, [], ◌∷◌, ◌++◌}
use mathlib.Core.Bool.{Bool, true, false, not, ◌||◌}
use mathlib.Core.Option.{Option, none, some}
use mathlib.Core.Path.{◌≡◌, refl, sym, ◌∙◌, ap, ap₂, subst}
use native.Mathlib.Omega.{arith}
use lib.Dec.{leb}
use lib.ListN.{length}
use lib.Seq.{get_or-append_seam}
use Rattle.lists.specs.Tests.{if_b}
use Rattle.lists.specs.Bytes.{eq_bytes}
use Rattle.spec.specs.declared.Refusal.{Refusal}
use Rattle.spec.specs.Basics.{is_empty, or_else, among}
use Rattle.spec.specs.Limits.{max_path, max_opened}
use Rattle.spec.specs.Lines.{Line}
use Rattle.spec.specs.Dollars.{expand}
use Rattle.spec.specs.Reading.{Bound, Scope, Variables, Reading, nothing_read, no_scope, scope_at, bound_to, own_vars, seen_from, var_from, file_var, number_of}
use Rattle.spec.specs.Statements.{Block, no_block, Outcome, goes_on, opens, refused, over_counts, longer_than}
use Rattle.spec.specs.Manifest.{close, and_then, read_line, Opener, opening, read_lines, text_lines, with_opened, entered, back_in, open_path, opener}
use Rattle.spec.proofs.Scopes.{Keeps, keeps_same, Ends, ends_on, ends_off, lines_keep, Untouched, untouched, inside_kept, inside_there, ended_keeps, entered_there, opener_keeps}

-- the scope that is read in is one of those that have been entered
abbrev pub InScope : Variables → Type 0
InScope vs = vs.current < length vs.scopes

-- ------------------------------------------------------------------ no variable of the parents is changed

data Clean (vs : Variables) : Outcome → Type 0 where
  clean_on : {rd : Reading} {b : Block} → Untouched vs rd.vars → Clean vs (goes_on rd b)
  clean_off : {r : Refusal} → Clean vs (refused r)

either_clean : {vs : Variables} {x y : Outcome} (o : Bool) → Clean vs x → Clean vs y → Clean vs (if_b o (λ _. x) (λ _. y))
either_clean true a b = a
either_clean false a b = b

clean_back : (vs : Variables) (o : Outcome) → Ends (entered true vs) o → Clean vs (and_then o (back_in vs.current))
unfolding and_then back_in
clean_back vs (goes_on rd b) (ends_on k) = clean_on (untouched vs rd.vars k)
clean_back vs (refused r) ends_off = clean_off
clean_back vs (opens _ _ _ _) x5 = elim x5 [ ]

clean_opener : (names texts : List (List ℕ)) (more start : ℕ) (raw : List ℕ) (rd : Reading) → InScope rd.vars
    → Clean rd.vars (opener names texts more start true raw rd)
unfolding opener open_path with_opened
clean_opener names texts zero start raw rd h =
    let p = expand (file_var rd.vars) raw in
    either_clean (is_empty p) clean_off
    (either_clean (longer_than max_path p || over_counts (with_opened (length p) (entered true rd.vars) rd)) clean_off
    (either_clean (not (among p names) || leb max_opened rd.opened) clean_off clean_off))
clean_opener names texts (suc more) start raw rd h =
    let p = expand (file_var rd.vars) raw in
    let after = with_opened (length p) (entered true rd.vars) rd in
    let via = opener names texts more in
    let ls = text_lines texts (number_of p names) in
    either_clean (is_empty p) clean_off
    (either_clean (longer_than max_path p || over_counts after) clean_off
    (either_clean (not (among p names) || leb max_opened rd.opened) clean_off
    (clean_back rd.vars (read_lines via ls after no_block)
    (lines_keep via (opener_keeps names texts more) (entered_there true rd.vars h) ls after no_block (keeps_same (entered true rd.vars))))))

-- Whatever the bundle holds and however many more files may be open: once a `subninja` line is read, every scope that was there has the variables
-- that it had, and the parent's is read in again.
pub subninja_changes_none : (names texts : List (List ℕ)) (more start : ℕ) (raw : List ℕ) (rd rd' : Reading) (b : Block) → InScope rd.vars
    → opener names texts more start true raw rd ≡ goes_on rd' b → Untouched rd.vars rd'.vars
subninja_changes_none names texts more start raw rd rd' b h e = on (subst (Clean rd.vars) e (clean_opener names texts more start raw rd h))
  where
    on : Clean rd.vars (goes_on rd' b) → Untouched rd.vars rd'.vars
    on (clean_on u) = u

-- That is so at every opening: the top file is read in a scope that is there, a line leaves it there, and so does a text.
pub top_in_scope : InScope nothing_read.vars
top_in_scope = omega arith

still : {vs ws : Variables} → InScope vs → Keeps vs ws → InScope ws
still h k = omega (arith, h, k.current, k.long)

pub lines_in_scope : (names texts : List (List ℕ)) (more : ℕ) (ls : List Line) (rd rd' : Reading) (b b' : Block) → InScope rd.vars
    → read_lines (opener names texts more) ls rd b ≡ goes_on rd' b' → InScope rd'.vars
lines_in_scope names texts more ls rd rd' b b' h e =
    still h (ended_keeps (lines_keep (opener names texts more) (opener_keeps names texts more) h ls rd b (keeps_same rd.vars)) e)

pub opening_in_scope : (l : Line) (rd rd' : Reading) (b : Block) (start : ℕ) (sub : Bool) (raw : List ℕ) → InScope rd.vars
    → read_line l rd b ≡ opens start sub raw rd' → InScope rd'.vars
unfolding read_lines and_then opening close
opening_in_scope l rd rd' b start sub raw h e =
    still h
    (ended_keeps (lines_keep past (λ s x r rd'' i. ends_on (keeps_same rd''.vars)) h (l ∷ []) rd b (keeps_same rd.vars))
    (ap (λ (o : Outcome). and_then (opening past o) (read_lines past [])) e))
  where
    past : Opener
    past s x r rd'' = goes_on rd'' no_block

-- ------------------------------------------------------------------ what is seen

either_found : (o : Bool) (v : List ℕ) (x y : Option (List ℕ)) (z : Option (List ℕ)) → y ≡ or_else x some (λ _. z)
    → if_b o (λ _. some v) (λ _. y) ≡ or_else (if_b o (λ _. some v) (λ _. x)) some (λ _. z)
either_found true v x y z e = refl
either_found false v x y z e = e

found_first : (n : List ℕ) (l r : List Bound) → bound_to n (l ++ r) ≡ or_else (bound_to n l) some (λ _. bound_to n r)
unfolding bound_to
found_first n [] r = refl
found_first n (b ∷ l) r = either_found (eq_bytes n b.name) b.value (bound_to n l) (bound_to n (l ++ r)) (bound_to n r) (found_first n l r)

or_first : {A : Type 0} (o p : Option A) (d : A) → or_else (or_else o some (λ _. p)) (λ v. v) (λ _. d) ≡ or_else o (λ v. v) (λ _. or_else p (λ v. v) (λ _. d))
or_first (some a) p d = refl
or_first none p d = refl

-- From a scope that lies in another one, a name has the value of its own newest binding, or else what is seen from the other one.
pub seen_outward : (scopes : List Scope) (k p : ℕ) → (scope_at scopes k).outer ≡ p ∷ (scope_at scopes p).outer → (n : List ℕ)
    → var_from scopes k n ≡ or_else (bound_to n (scope_at scopes k).own) (λ v. v) (λ _. var_from scopes p n)
unfolding var_from seen_from own_vars
seen_outward scopes k p e n =
    ap (λ (o : List ℕ). or_else (bound_to n ((scope_at scopes k).own ++ own_vars scopes o)) (λ v. v) λ _. []) e
    ∙ ap (λ (o : Option (List ℕ)). or_else o (λ v. v) λ _. []) (found_first n (scope_at scopes k).own (seen_from scopes p))
    ∙ or_first (bound_to n (scope_at scopes k).own) (bound_to n (seen_from scopes p)) []

-- "`include` reads in the same scope"
pub include_same_scope : (vs : Variables) → entered false vs ≡ vs
unfolding entered
include_same_scope vs = refl

own_entered : (l : List Scope) (x : Scope) → x.own ≡ [] → (k : ℕ) → (scope_at (l ++ (x ∷ [])) k).own ≡ (scope_at l k).own
own_entered [] x e zero = e
own_entered [] x e (suc k) = refl
own_entered (s ∷ l) x e zero = refl
own_entered (s ∷ l) x e (suc k) = own_entered l x e k

vars_entered : (l : List Scope) (x : Scope) → x.own ≡ [] → (ks : List ℕ) → own_vars (l ++ (x ∷ [])) ks ≡ own_vars l ks
unfolding own_vars
vars_entered l x e [] = refl
vars_entered l x e (k ∷ ks) = ap₂ (λ (a b : List Bound). a ++ b) (own_entered l x e k) (vars_entered l x e ks)

-- A child begins with what its parent sees.
pub child_begins : (vs : Variables) (n : List ℕ) → file_var (entered true vs) n ≡ file_var vs n
unfolding entered var_from seen_from own_vars
child_begins vs n =
    let x : Scope = record { outer = vs.current ∷ (scope_at vs.scopes vs.current).outer; own = [] } in
    let last : scope_at (vs.scopes ++ (x ∷ [])) (length vs.scopes) ≡ x = get_or-append_seam vs.scopes x [] no_scope in
    ap (λ (l : List Bound). or_else (bound_to n l) (λ v. v) λ _. [])
    (ap (λ (s : Scope). s.own ++ own_vars (vs.scopes ++ (x ∷ [])) s.outer) last ∙ vars_entered vs.scopes x refl x.outer)

-- While a child is read, which began where the variables were vs: a name has the value of the child's own newest binding, or else what its parent sees, of
-- the variables as they then stand.
pub child_sees : (vs ws : Variables) → InScope vs → Keeps (entered true vs) ws → (n : List ℕ)
    → file_var ws n ≡ or_else (bound_to n (scope_at ws.scopes ws.current).own) (λ v. v) (λ _. var_from ws.scopes vs.current n)
child_sees vs ws h k n = seen_outward ws.scopes ws.current vs.current (inside_kept vs ws h k) n

-- The same of its scope at any time after it has been read, when the parent goes on: what the parent binds later is seen.
pub child_sees_later : (vs ws zs : Variables) → InScope vs → Keeps (entered true vs) ws → Keeps (record { scopes = ws.scopes; current = vs.current }) zs
    → (n : List ℕ)
    → var_from zs.scopes ws.current n ≡ or_else (bound_to n (scope_at zs.scopes ws.current).own) (λ v. v) (λ _. var_from zs.scopes vs.current n)
child_sees_later vs ws zs h k m n =
    seen_outward zs.scopes ws.current vs.current
    (m.outer ws.current (still (entered_there true vs h) k) ∙ inside_kept vs ws h k
    ∙ ap (λ (o : List ℕ). vs.current ∷ o) (sym (m.outer vs.current (inside_there vs ws h k)))) n
