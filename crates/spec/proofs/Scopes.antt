-- What reading leaves of the scopes: a text changes no variable but those of the scope that it is read in and of those that it enters, and ends where it
-- began. So "a new one that sees the parent's variables and changes none".
use Prim.Native.Nat.{ℕ, zero, suc, ◌≤◌, ◌<◌}
use mathlib.Core.List.{List, [], ◌∷◌, ◌++◌}
use mathlib.Core.Bool.{Bool, true, false, not, ◌||◌}
use mathlib.Core.Path.{◌≡◌, refl, sym, ◌∙◌, ap, subst}
use native.Mathlib.Omega.{arith}
use lib.Dec.{leb}
use lib.ListN.{length, length-append, get_or-append}
use lib.Seq.{get_or-append_seam}
use Rattle.lists.specs.Tests.{if_b}
use Rattle.lists.specs.Text.{bytes}
use Rattle.lists.specs.Members.{any}
use Rattle.spec.specs.declared.Refusal.{Refusal}
use Rattle.spec.specs.Basics.{is_empty, among}
use Rattle.spec.specs.Limits.{max_steps, max_rules, max_name, max_path, max_value, max_opened}
use Rattle.spec.specs.Lines.{Line, is_comment, is_blank, is_indented}
use Rattle.spec.specs.Dollars.{expand}
use Rattle.spec.specs.Forms.{BuildLine, Cut, fits, fails, Form, rule_form, build_form, default_form, open_form, binding_form, cut_statement, cut_indented}
use Rattle.spec.specs.Reading.{Bound, Scope, Variables, Reading, no_scope, scope_at, bind_in, file_var, has_key, declared, number_of, is_made}
use Rattle.spec.specs.Statements.{Block, no_block, rule_block, build_block, Outcome, goes_on, opens, refused, over_counts, longer_than, rule_key, count_binding, bad_paths, mentioned, inputs_of_line, over_paths, over_binding, wrong_version, bound, set_var, with_defaults, start_rule, add_key, add_step, add_var, add_to_block, add_defaults, expanded, expanded_line, statement, block_line}
use Rattle.spec.specs.Manifest.{with_rule, with_step, close, and_then, if_cut, indented, read_indented, read_statement, read_line, Opener, opening, read_lines, text_lines, with_opened, entered, back_in, open_path, opener}

-- the scope that is read in stays, and those that were there keep their place and, but for that one, their variables
pub record Keeps (vs ws : Variables) : Type 0 where
  pub current : ws.current ≡ vs.current
  pub long : length vs.scopes ≤ length ws.scopes
  pub outer : (k : ℕ) → k < length vs.scopes → (scope_at ws.scopes k).outer ≡ (scope_at vs.scopes k).outer
  pub own : (k : ℕ) → k < length vs.scopes → (k ≡ vs.current → ⊥) → (scope_at ws.scopes k).own ≡ (scope_at vs.scopes k).own

pub keeps_same : (vs : Variables) → Keeps vs vs
keeps_same vs = record { current = refl; long = omega arith; outer = λ k b. refl; own = λ k b n. refl }

keeps_on : {us vs ws : Variables} → Keeps us vs → Keeps vs ws → Keeps us ws
keeps_on {us} {vs} {ws} f g =
    record {
      current = g.current ∙ f.current;
      long = omega (arith, f.long, g.long);
      outer = λ k b. g.outer k (omega (arith, f.long)) ∙ f.outer k b;
      own = λ k b n. g.own k (omega (arith, f.long)) (λ e. n (e ∙ f.current)) ∙ f.own k b n;
    }

-- ---- a binding

bind_long : (k : ℕ) (b : Bound) (l : List Scope) → length (bind_in k b l) ≡ length l
unfolding bind_in
bind_long k b [] = refl
bind_long zero b (s ∷ l) = refl
bind_long (suc k) b (s ∷ l) = ap suc (bind_long k b l)

bind_outer : (k : ℕ) (b : Bound) (l : List Scope) (j : ℕ) → (scope_at (bind_in k b l) j).outer ≡ (scope_at l j).outer
unfolding bind_in
bind_outer k b [] j = refl
bind_outer zero b (s ∷ l) zero = refl
bind_outer zero b (s ∷ l) (suc j) = refl
bind_outer (suc k) b (s ∷ l) zero = refl
bind_outer (suc k) b (s ∷ l) (suc j) = bind_outer k b l j

bind_own : (k : ℕ) (b : Bound) (l : List Scope) (j : ℕ) → (j ≡ k → ⊥) → (scope_at (bind_in k b l) j).own ≡ (scope_at l j).own
unfolding bind_in
bind_own k b [] j n = refl
bind_own zero b (s ∷ l) zero n = absurd (n refl)
bind_own zero b (s ∷ l) (suc j) n = refl
bind_own (suc k) b (s ∷ l) zero n = refl
bind_own (suc k) b (s ∷ l) (suc j) n = bind_own k b l j (λ e. n (ap suc e))

keeps_bound : (b : Bound) (vs : Variables) → Keeps vs (bound b vs)
keeps_bound b vs =
    record {
      current = refl;
      long = omega (arith, bind_long vs.current b vs.scopes);
      outer = λ k l. bind_outer vs.current b vs.scopes k;
      own = λ k l n. bind_own vs.current b vs.scopes k n;
    }

-- ---- outcomes

-- what an outcome leaves of the scopes
pub data Leaves (vs : Variables) : Outcome → Type 0 where
  on : {rd : Reading} {b : Block} → Keeps vs rd.vars → Leaves vs (goes_on rd b)
  door : {start : ℕ} {sub : Bool} {raw : List ℕ} {rd : Reading} → Keeps vs rd.vars → Leaves vs (opens start sub raw rd)
  off : {r : Refusal} → Leaves vs (refused r)

either : {vs : Variables} {x y : Outcome} (o : Bool) → Leaves vs x → Leaves vs y → Leaves vs (if_b o (λ _. x) (λ _. y))
either true a b = a
either false a b = b

leaves_then : {vs : Variables} (o : Outcome) (f : Reading → Block → Outcome) → Leaves vs o → ((rd : Reading) (b : Block) → Keeps vs rd.vars → Leaves vs (f rd b))
    → Leaves vs (and_then o f)
unfolding and_then
leaves_then (goes_on rd b) f (on k) g = g rd b k
leaves_then (opens start sub raw rd) f (door k) g = door k
leaves_then (refused r) f off g = off

module _ {vs : Variables} (rd : Reading) (k : Keeps vs rd.vars) where
  leaves_var : (start : ℕ) (n v : List ℕ) → Leaves vs (add_var start n v rd)
  unfolding add_var set_var count_binding
  leaves_var start n v =
      either (over_binding n v (count_binding (length v) rd)) off
      (either (wrong_version n v) off (on (keeps_on k (keeps_bound (record { name = n; value = v }) rd.vars))))

  leaves_step : (start : ℕ) (b : BuildLine) → Leaves vs (add_step start b rd)
  unfolding add_step mentioned
  leaves_step start b =
      either (not (declared b.rule rd)) off
      (either (bad_paths b.outs (inputs_of_line b) rd) off
      (either (over_paths (b.outs ++ inputs_of_line b) || over_counts (mentioned (b.outs ++ inputs_of_line b) rd) || leb max_steps (length rd.steps)) off (on k)))

  leaves_default : (start : ℕ) (ps : List (List ℕ)) → Leaves vs (add_defaults start ps rd)
  unfolding add_defaults with_defaults mentioned
  leaves_default start ps =
      either (any is_empty ps || any (λ p. not (is_made p rd)) ps) off (either (over_paths ps || over_counts (mentioned ps rd)) off (on k))

  leaves_statement : (start : ℕ) (x : Form) → Leaves vs (statement start x rd)
  unfolding statement start_rule
  leaves_statement start (rule_form n) =
      either (declared n rd) off (either (longer_than max_name n || leb max_rules (length rd.rules)) off (on k))
  leaves_statement start (build_form b) = leaves_step start (expanded_line rd b)
  leaves_statement start (default_form ps) = leaves_default start (expanded rd ps)
  leaves_statement start (open_form sub raw) = door k
  leaves_statement start (binding_form n raw) = leaves_var start n (expand (file_var rd.vars) raw)

  leaves_line : (start : ℕ) (b : Block) (n raw : List ℕ) → Leaves vs (block_line start b n raw rd)
  unfolding block_line add_key add_to_block count_binding
  leaves_line start no_block n raw = off
  leaves_line start (rule_block head r) n raw =
      either (not (rule_key n) || has_key n r.keys) off
      (either (longer_than max_value raw || over_counts (count_binding (length raw) rd)) off (on k))
  leaves_line start (build_block s) n raw =
      either (over_binding n (expand (file_var rd.vars) raw) (count_binding (length (expand (file_var rd.vars) raw)) rd)) off (on k)

  leaves_cut : (l : Line) (c : Cut Form) (f : Form → Outcome) → ((x : Form) → Leaves vs (f x)) → Leaves vs (if_cut l c f)
  unfolding if_cut
  leaves_cut l (fails e) f g = off
  leaves_cut l (fits x) f g = either l.ended (g x) off

  leaves_form : (l : Line) (b : Block) (x : Form) → Leaves vs (indented l rd b x)
  unfolding indented
  leaves_form l b (binding_form n raw) = leaves_line l.start b n raw
  leaves_form l b (rule_form n) = off
  leaves_form l b (build_form x) = off
  leaves_form l b (default_form ps) = off
  leaves_form l b (open_form sub raw) = off

  leaves_indented : (l : Line) (b : Block) → Leaves vs (read_indented l rd b)
  unfolding read_indented
  leaves_indented l no_block = off
  leaves_indented l (rule_block head r) = leaves_cut l (cut_indented l.text) (indented l rd (rule_block head r)) (leaves_form l (rule_block head r))
  leaves_indented l (build_block s) = leaves_cut l (cut_indented l.text) (indented l rd (build_block s)) (leaves_form l (build_block s))

  leaves_close : (b : Block) → Leaves vs (close rd b)
  unfolding close with_rule with_step
  leaves_close no_block = on k
  leaves_close (rule_block head r) = either (has_key (bytes "command") r.keys) (on k) off
  leaves_close (build_block s) = on k

leaves_read : {vs : Variables} (rd : Reading) (b : Block) (l : Line) → Keeps vs rd.vars → Leaves vs (read_line l rd b)
unfolding read_line read_statement
leaves_read rd b l k =
    either (is_comment l.text) (on k)
    (either (is_blank l.text) (leaves_close rd k b)
    (either (is_indented l.text) (leaves_indented rd k l b)
    (leaves_then (close rd b) (read_statement l) (leaves_close rd k b)
    (λ rd' b' k'. leaves_cut rd' k' l (cut_statement l.text) (λ x. statement l.start x rd') (leaves_statement rd' k' l.start)))))

-- ---- lines and files

-- the same of a text, which leaves no file to be opened
pub data Ends (vs : Variables) : Outcome → Type 0 where
  ends_on : {rd : Reading} {b : Block} → Keeps vs rd.vars → Ends vs (goes_on rd b)
  ends_off : {r : Refusal} → Ends vs (refused r)

either_ends : {vs : Variables} {x y : Outcome} (o : Bool) → Ends vs x → Ends vs y → Ends vs (if_b o (λ _. x) (λ _. y))
either_ends true a b = a
either_ends false a b = b

abbrev pub KeepingOpener : Opener → Type 0
KeepingOpener via = (start : ℕ) (sub : Bool) (raw : List ℕ) (rd : Reading) → rd.vars.current < length rd.vars.scopes → Ends rd.vars (via start sub raw rd)

-- the scope that is read in is there
there : {vs ws : Variables} → Keeps vs ws → vs.current < length vs.scopes → ws.current < length ws.scopes
there k h = omega (arith, k.current, k.long)

ends_more : {us vs : Variables} {o : Outcome} → Keeps us vs → Ends vs o → Ends us o
ends_more j (ends_on i) = ends_on (keeps_on j i)
ends_more j ends_off = ends_off

ends_opening : {vs : Variables} (via : Opener) → KeepingOpener via → vs.current < length vs.scopes → (o : Outcome) → Leaves vs o → Ends vs (opening via o)
unfolding opening
ends_opening via f h (goes_on rd b) (on k) = ends_on k
ends_opening via f h (opens start sub raw rd) (door k) = ends_more k (f start sub raw rd (there k h))
ends_opening via f h (refused r) off = ends_off

ends_then : {vs : Variables} (o : Outcome) (f : Reading → Block → Outcome) → Ends vs o → ((rd : Reading) (b : Block) → Keeps vs rd.vars → Ends vs (f rd b)) → Ends vs (and_then o f)
unfolding and_then
ends_then (goes_on rd b) f (ends_on k) g = g rd b k
ends_then (refused r) f ends_off g = ends_off
ends_then {vs = vs} (opens _ _ _ _) f x6 g = elim x6 [ ]

ends_close : {vs : Variables} (rd : Reading) (b : Block) → Keeps vs rd.vars → Ends vs (close rd b)
unfolding close with_rule with_step
ends_close rd no_block k = ends_on k
ends_close rd (rule_block head r) k = either_ends (has_key (bytes "command") r.keys) (ends_on k) ends_off
ends_close rd (build_block s) k = ends_on k

pub lines_keep : {vs : Variables} (via : Opener) → KeepingOpener via → vs.current < length vs.scopes → (ls : List Line) (rd : Reading) (b : Block) → Keeps vs rd.vars
    → Ends vs (read_lines via ls rd b)
unfolding read_lines
lines_keep via f h [] rd b k = ends_close rd b k
lines_keep via f h (l ∷ ls) rd b k =
    ends_then (opening via (read_line l rd b)) (read_lines via ls) (ends_opening via f h (read_line l rd b) (leaves_read rd b l k))
    (λ rd' b' k'. lines_keep via f h ls rd' b' k')

-- a scope is entered inside the current one
enter_long : (vs : Variables) → length (entered true vs).scopes ≡ suc (length vs.scopes)
unfolding entered
enter_long vs = length-append vs.scopes _ ∙ (omega arith)

enter_at : (vs : Variables) (k : ℕ) → k < length vs.scopes → scope_at (entered true vs).scopes k ≡ scope_at vs.scopes k
unfolding entered
enter_at vs k h = get_or-append vs.scopes _ no_scope k h

-- What reading in a new scope leaves, back in the one before: every scope that was there, its variables too.
pub record Untouched (vs ws : Variables) : Type 0 where
  pub keeps : Keeps vs ws
  pub all : (k : ℕ) → k < length vs.scopes → (scope_at ws.scopes k).own ≡ (scope_at vs.scopes k).own

pub untouched : (vs ws : Variables) → Keeps (entered true vs) ws → Untouched vs (record { scopes = ws.scopes; current = vs.current })
unfolding entered
untouched vs ws k =
    record {
      keeps =
          record {
            current = refl;
            long = omega (arith, k.long, enter_long vs);
            outer = λ j b. k.outer j (omega (arith, enter_long vs)) ∙ ap (λ (s : Scope). s.outer) (enter_at vs j b);
            own = λ j b n. all j b;
          };
      all = all;
    }
  where
    all : (j : ℕ) → j < length vs.scopes → (scope_at ws.scopes j).own ≡ (scope_at vs.scopes j).own
    all j b = k.own j (omega (arith, enter_long vs)) (λ e. omega arith) ∙ ap (λ (s : Scope). s.own) (enter_at vs j b)

-- A scope that was entered still lies inside the one that it was entered from.
pub inside_kept : (vs ws : Variables) → vs.current < length vs.scopes → Keeps (entered true vs) ws
    → (scope_at ws.scopes ws.current).outer ≡ vs.current ∷ (scope_at ws.scopes vs.current).outer
unfolding entered
inside_kept vs ws h k =
    let x : Scope = record { outer = vs.current ∷ (scope_at vs.scopes vs.current).outer; own = [] } in
    let last : scope_at (entered true vs).scopes (length vs.scopes) ≡ x = get_or-append_seam vs.scopes x [] no_scope in
    let before : (scope_at ws.scopes vs.current).outer ≡ (scope_at vs.scopes vs.current).outer =
    k.outer vs.current (omega (arith, enter_long vs)) ∙ ap (λ (s : Scope). s.outer) (enter_at vs vs.current h) in
    ap (λ (j : ℕ). (scope_at ws.scopes j).outer) k.current
    ∙ k.outer (length vs.scopes) (omega (arith, enter_long vs))
    ∙ ap (λ (s : Scope). s.outer) last
    ∙ ap (λ (o : List ℕ). vs.current ∷ o) (sym before)

pub inside_there : (vs ws : Variables) → vs.current < length vs.scopes → Keeps (entered true vs) ws → vs.current < length ws.scopes
inside_there vs ws h k = omega (arith, enter_long vs, k.long)

-- what a text leaves that ends
pub ended_keeps : {vs : Variables} {o : Outcome} {rd : Reading} {b : Block} → Ends vs o → o ≡ goes_on rd b → Keeps vs rd.vars
ended_keeps {vs} e f = ended (subst (Ends vs) f e)
  where
    ended : {rd : Reading} {b : Block} → Ends vs (goes_on rd b) → Keeps vs rd.vars
    ended (ends_on k) = k

back_keeps : (sub : Bool) (vs : Variables) (rd : Reading) (b : Block) → Keeps (entered sub vs) rd.vars → Ends vs (back_in vs.current rd b)
unfolding back_in entered
back_keeps false vs rd b k = ends_on (record { current = refl; long = k.long; outer = k.outer; own = k.own })
back_keeps true vs rd b k = ends_on (untouched vs rd.vars k).keeps

pub entered_there : (sub : Bool) (vs : Variables) → vs.current < length vs.scopes → (entered sub vs).current < length (entered sub vs).scopes
unfolding entered
entered_there false vs h = h
entered_there true vs h = omega (arith, enter_long vs)

-- a text that is read, and then back in the scope before
ends_back : (sub : Bool) (vs : Variables) (o : Outcome) → Ends (entered sub vs) o → Ends vs (and_then o (back_in vs.current))
unfolding and_then
ends_back sub vs (goes_on rd b) (ends_on k) = back_keeps sub vs rd b k
ends_back sub vs (refused r) ends_off = ends_off
ends_back sub vs (opens _ _ _ _) x5 = elim x5 [ ]

pub opener_keeps : (names texts : List (List ℕ)) (more : ℕ) → KeepingOpener (opener names texts more)
unfolding opener open_path with_opened
opener_keeps names texts zero start sub raw rd h =
    let p = expand (file_var rd.vars) raw in
    either_ends (is_empty p) ends_off
    (either_ends (longer_than max_path p || over_counts (with_opened (length p) (entered sub rd.vars) rd)) ends_off
    (either_ends (not (among p names) || leb max_opened rd.opened) ends_off ends_off))
opener_keeps names texts (suc more) start sub raw rd h =
    let p = expand (file_var rd.vars) raw in
    let after = with_opened (length p) (entered sub rd.vars) rd in
    let via = opener names texts more in
    let ls = text_lines texts (number_of p names) in
    either_ends (is_empty p) ends_off
    (either_ends (longer_than max_path p || over_counts after) ends_off
    (either_ends (not (among p names) || leb max_opened rd.opened) ends_off
    (ends_back sub rd.vars (read_lines via ls after no_block)
    (lines_keep via (opener_keeps names texts more) (entered_there sub rd.vars h) ls after no_block (keeps_same (entered sub rd.vars))))))
