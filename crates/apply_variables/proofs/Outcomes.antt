-- What the rules answer to a variable and to a line of a build block: one law for each answer.
use Rattle.std.specs.Prelude.{Result, Err}
use Prim.Native.Nat.{ℕ, ◌+◌, ◌*◌, ◌-◌, ◌≤◌}
use mathlib.Core.Bool.{true, false}
use mathlib.Core.List.{List, [], ◌∷◌}
use mathlib.Core.Path.{◌≡◌, sym, ◌∙◌, subst}
use native.Mathlib.Omega.{arith}
use lib.ListN.{length, take, length-append}
use Rattle.spec.specs.declared.Refusal.TheVariants.{OverLimit, BadVersion}
use Rattle.spec.specs.Limits.{max_files, max_mentions}
use Rattle.spec.specs.Dollars.{expand}
use Rattle.spec.specs.Reading.{Step, Reading, file_var}
use Rattle.spec.specs.Statements.{Block, refused, add_var, add_to_block, block_line, wrong_version, count_binding, over_binding, over_counts, longer_than}
use Rattle.spec.specs.Manifest.{with_step}
use Rattle.hold_bindings.specs.Log.{Logged, logged, of_scope, of_block, Scoping, scoping_of}
use Rattle.hold_bindings.specs.Held.{HoldsScopes, HoldsBindings, SoundScopes}
use Rattle.expand_parts.specs.Runs.{expanded_by}
use Rattle.expand_dollars.specs.Written.{Written}
use Rattle.hold_reading.specs.declared.Counts.{Counts}
use Rattle.hold_reading.specs.declared.Open.TheVariants.{Nothing, Step as OpenStep}
use Rattle.hold_reading.specs.Held.{joined, OpensBlock, nothing, a_step, HoldsBound}
use Rattle.hold_reading.specs.Binds.{Known, SoundBlock, Binds, goes, Meets}
use Rattle.hold_reading.proofs.Grow.{bound_var, bound_line, beside_var, beside_line}
use Rattle.hold_reading.proofs.Lift.{joined_none, none_bound, refused_by}
use Rattle.apply_bindings.specs.Limits.{binding_over, EntryReady, PutsBinding}
use Rattle.apply_bindings.proofs.Entries.{over_counted, within}
use Rattle.apply_variables.proofs.Values.{value_held, written_word}
use Rattle.spec.specs.declared.Refusal.{Refusal}
use Rattle.hold_reading.specs.declared.State.{State}
use Rattle.hold_reading.specs.Went.{went}

-- ---- a variable

none_over : {log : List Logged} {texts bind : List ℕ} {c : Counts} {rd : Reading} {b : Block} → Known log texts bind c rd b Nothing → (n v : List ℕ)
    → over_binding n v (count_binding (length v) rd) ≡ binding_over (length n) (length v) c
none_over {rd = rd} w n v =
    over_counted (none_bound w) (rw (joined_none rd w.opens) at w.few_files) (rw (joined_none rd w.opens) at w.few_mentions) n v

module _ (start : ℕ) (n v : List ℕ) {texts bind : List ℕ} {c : Counts} (h : binding_over (length n) (length v) c ≡ false) where
  pub var_wrong : {texts' bind' : List ℕ} → wrong_version n v ≡ true → Meets texts bind c Nothing (λ rd b. add_var start n v rd) texts' bind' (Err (BadVersion start))
  unfolding add_var
  var_wrong q = record { agrees = λ log rd b w. refused_by (rw (none_over w n v ∙ h, q)) }

  -- k is the scope that is read in.
  pub var_goes : {texts' bind' : List ℕ} {c' : Counts} {k : ℕ} → ((g : Scoping) → HoldsScopes g bind → k ≡ g.current) → wrong_version n v ≡ false
      → PutsBinding texts bind c (logged (of_scope k) n v) texts' bind' c'
      → Meets texts bind c Nothing (λ rd b. add_var start n v rd) texts' bind' (went c' Nothing)
  unfolding joined add_var
  var_goes {texts'} {bind'} {k = k} s q p =
      record {
        agrees = λ log rd b w.
            let d = none_bound w in
            let z : k ≡ (scoping_of log).current = s (scoping_of log) d.held.scopes in
            let f = within n v (of_scope k) h (omega (arith, d.held.scopes.below, d.held.scopes.few)) (λ e. omega arith) in
            let g : HoldsBindings (logged (of_scope (scoping_of log).current) n v ∷ log) texts' bind' (c.entries + 1) =
            subst (λ (j : ℕ). HoldsBindings (logged (of_scope j) n v ∷ log) texts' bind' (c.entries + 1)) z (p.held log rd d) in
            rw (joined_none rd w.opens, none_over w n v ∙ h, q, p.counted)
            (goes (logged (of_scope (scoping_of log).current) n v ∷ []) (bound_var d n v g f.few f.low) nothing (beside_var rd n v));
      }

  pub var_scopes : SoundBlock texts bind c Nothing → SoundScopes bind
  var_scopes s = record { scoping = scoping_of s.log; held = (none_bound s.known).held.scopes }

  pub var_ready : {k : ℕ} → ((g : Scoping) → HoldsScopes g bind → k ≡ g.current) → SoundBlock texts bind c Nothing → EntryReady texts bind c (logged (of_scope k) n v)
  var_ready {k} e s =
      let d = none_bound s.known in
      let z : k ≡ (scoping_of s.log).current = e (scoping_of s.log) d.held.scopes in
      record {
        log = s.log;
        reading = s.reading;
        bound = d;
        fits = within n v (of_scope k) h (omega (arith, d.held.scopes.below, d.held.scopes.few)) (λ p. omega arith);
      }

-- the value of a raw one, as the word buffer has it
module _ (start : ℕ) (n raw : List ℕ) {texts bind word word' : List ℕ} {c : Counts} {k : ℕ}
    (x : (log : List Logged) → HoldsBindings log texts bind c.entries → Written word (expanded_by log raw) word' k) where
  pub var_over : {texts' bind' : List ℕ} → binding_over (length n) k c ≡ true
      → Meets texts bind c Nothing (λ rd b. add_var start n (expand (file_var rd.vars) raw) rd) texts' bind' (Err (OverLimit start))
  unfolding add_var
  var_over h =
      record {
        agrees = λ log rd b w.
            let e : expand (file_var rd.vars) raw ≡ expanded_by log raw = value_held rd b w.bound raw in
            refused_by (rw (e, none_over w n (expanded_by log raw), ← (x log w.bound.held).count, h));
      }

  pub var_valued : {texts' bind' : List ℕ} {r : Result State Refusal} → k ≤ length word → Meets texts bind c Nothing (λ rd b. add_var start n (take k word') rd) texts' bind' r
      → Meets texts bind c Nothing (λ rd b. add_var start n (expand (file_var rd.vars) raw) rd) texts' bind' r
  var_valued l a =
      record {
        agrees = λ log rd b w.
            rw (value_held rd b w.bound raw ∙ sym (written_word (x log w.bound.held) l)) (a.agrees log rd b w);
      }

-- ---- a line of a build block

module _ (start : ℕ) (n raw : List ℕ) {log : List Logged} {texts bind : List ℕ} {c : Counts} (rd : Reading) (v : List ℕ) where
  line_test : (s : Step) → HoldsBound log texts bind c (with_step s rd) → length rd.files ≤ max_files → rd.mentions ≤ max_mentions
      → over_binding n v (count_binding (length v) rd) ≡ binding_over (length n) (length v) c
  unfolding with_step over_binding longer_than over_counts count_binding
  line_test s d f m = over_counted d f m n v

  line_refused : {b : Block} → OpensBlock log b OpenStep → HoldsBound log texts bind c (joined rd b) → length (joined rd b).files ≤ max_files → (joined rd b).mentions ≤ max_mentions
      → expand (file_var rd.vars) raw ≡ v → binding_over (length n) (length v) c ≡ true → block_line start b n raw rd ≡ refused (OverLimit start)
  unfolding joined with_step block_line add_to_block
  line_refused (a_step {s = s}) d f m e h = rw (e, line_test s d f m ∙ h)

  line_bound : {b : Block} → OpensBlock log b OpenStep → HoldsBound log texts bind c (joined rd b) → length (joined rd b).files ≤ max_files → (joined rd b).mentions ≤ max_mentions
      → expand (file_var rd.vars) raw ≡ v → binding_over (length n) (length v) c ≡ false → {texts' bind' : List ℕ} {c' : Counts}
      → PutsBinding texts bind c (logged (5 + 3 * (c.steps - 1)) n v) texts' bind' c' → Binds log c (joined rd b) texts' bind' (block_line start b n raw rd) (went c' OpenStep)
  unfolding joined with_step block_line add_to_block
  line_bound (a_step {s = s}) d f m e h {texts'} {bind'} p =
      let z : c.steps - 1 ≡ length rd.steps = omega (arith, d.steps_counted, length-append rd.steps (s ∷ [])) in
      let g : HoldsBindings (logged (of_block (length rd.steps)) n v ∷ log) texts' bind' (c.entries + 1) =
      subst (λ (j : ℕ). HoldsBindings (logged (of_block j) n v ∷ log) texts' bind' (c.entries + 1)) z (p.held log (with_step s rd) d) in
      let r = within n v (of_block (c.steps - 1)) h (omega (arith, d.few_steps)) (λ q. omega arith) in
      rw (e, line_test s d f m ∙ h, p.counted)
      (goes (logged (of_block (length rd.steps)) n v ∷ [])
      (bound_line rd s d n v g r.few r.low)
      a_step
      (beside_line rd n v s))

module _ (start : ℕ) (n raw : List ℕ) {texts bind word word' : List ℕ} {c : Counts} {k : ℕ}
    (x : (log : List Logged) → HoldsBindings log texts bind c.entries → Written word (expanded_by log raw) word' k) where
  pub line_over : {texts' bind' : List ℕ} → binding_over (length n) k c ≡ true
      → Meets texts bind c OpenStep (λ rd b. block_line start b n raw rd) texts' bind' (Err (OverLimit start))
  line_over h =
      record {
        agrees = λ log rd b w.
            refused_by
            (line_refused start n raw rd (expanded_by log raw) w.opens w.bound w.few_files w.few_mentions (value_held rd b w.bound raw)
            (rw (← (x log w.bound.held).count) h));
      }

  pub line_goes : {texts' bind' : List ℕ} {c' : Counts} → k ≤ length word → binding_over (length n) (length (take k word')) c ≡ false
      → PutsBinding texts bind c (logged (5 + 3 * (c.steps - 1)) n (take k word')) texts' bind' c'
      → Meets texts bind c OpenStep (λ rd b. block_line start b n raw rd) texts' bind' (went c' OpenStep)
  line_goes l h p =
      record {
        agrees = λ log rd b w.
            let y = x log w.bound.held in
            line_bound start n raw rd (take k word') w.opens w.bound w.few_files w.few_mentions
            (value_held rd b w.bound raw ∙ sym (written_word y l))
            h
            p;
      }

-- ---- what the entry asks

step_open : {log : List Logged} {texts bind : List ℕ} {c : Counts} (rd : Reading) {b : Block} → OpensBlock log b OpenStep → HoldsBound log texts bind c (joined rd b) → 1 ≤ c.steps
unfolding joined with_step
step_open rd (a_step {s = s}) d = omega (arith, d.steps_counted, length-append rd.steps (s ∷ []))

module _ {texts bind : List ℕ} {c : Counts} (s : SoundBlock texts bind c OpenStep) where
  pub step_begun : 1 ≤ c.steps
  step_begun = step_open s.reading s.known.opens s.known.bound

  pub line_ready : (n v : List ℕ) → binding_over (length n) (length v) c ≡ false → EntryReady texts bind c (logged (5 + 3 * (c.steps - 1)) n v)
  line_ready n v h =
      record {
        log = s.log;
        reading = joined s.reading s.block;
        bound = s.known.bound;
        fits = within n v (of_block (c.steps - 1)) h (omega (arith, s.known.bound.few_steps)) (λ q. omega arith);
      }
