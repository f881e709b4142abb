-- What the rules answer to a line of a rule's block, by what was looked up: one law for each answer.
use Rattle.std.specs.Prelude.{Some, Err}
use Prim.Native.Nat.{ℕ, ◌+◌, ◌≤◌, ◌<◌}
use mathlib.Core.Bool.{Bool, true, false, not, ◌||◌}
use mathlib.Core.List.{List, [], ◌∷◌}
use mathlib.Core.Path.{◌≡◌, refl, sym, ◌∙◌, ap}
use native.Mathlib.Omega.{arith}
use borrow.Author.Tests.{lt-ltb, le-ltb, le-leb, lt-leb, not-false}
use lib.ListN.{length}
use Rattle.lists.specs.Tests.{or_left}
use Rattle.lists.specs.Text.{bytes}
use Rattle.spec.specs.declared.Refusal.TheVariants.{BadRule, OverLimit}
use Rattle.spec.specs.Limits.{max_files, max_name, max_rules, max_mentions, max_value}
use Rattle.spec.specs.Reading.{Rule, Reading, declared, has_key}
use Rattle.spec.specs.Statements.{Block, refused, start_rule, longer_than, rule_key, add_key, count_binding, over_counts, over_binding, block_line}
use Rattle.spec.specs.Manifest.{with_rule, close}
use Rattle.hold_bindings.specs.Log.{Logged, logged, of_rules, of_keys, newest_rule}
use Rattle.hold_bindings.specs.Held.{HoldsBindings, EntryRoom, HasRoom}
use Rattle.hold_bindings.proofs.Lookups.{rule_begun, rule_kept}
use Rattle.hold_reading.specs.declared.Counts.{Counts}
use Rattle.hold_reading.specs.declared.Open.TheVariants.{Nothing, Rule as OpenRule, Step as OpenStep}
use Rattle.hold_reading.specs.Held.{joined, OpensBlock, nothing, a_rule, a_step, HoldsBound}
use Rattle.hold_reading.specs.Binds.{SoundBlock, counted_rule, Binds, goes, Meets}
use Rattle.hold_reading.proofs.Grow.{newest_rule_below, bound_room, bound_rule, bound_key, beside_same, beside_rule, beside_key}
use Rattle.hold_reading.proofs.Lift.{joined_none, none_bound, refused_by}
use Rattle.apply_bindings.specs.Limits.{binding_over, EntryReady, PutsBinding}
use Rattle.apply_bindings.proofs.Entries.{over_counted, within}
use Rattle.hold_rules.specs.Tests.{OfRule, keyed, bad_key}
use Rattle.hold_rules.proofs.Lookups.{keyed_held, bad_held, key_short}
use Rattle.hold_reading.specs.Went.{went}

-- ---- `rule NAME`

rule_room : {log : List Logged} {texts bind : List ℕ} {c : Counts} {rd : Reading} → HoldsBound log texts bind c rd → (n : List ℕ) → length n ≤ max_name → c.rules < max_rules
    → EntryRoom log texts bind c.entries (logged of_rules n [])
rule_room d n s l = bound_room d (logged of_rules n []) (omega (arith, d.entries_counted, d.few_bindings, d.few_opened)) (omega (arith, d.few_written)) (omega arith) (λ p. omega arith) s

pub start_room : {texts bind : List ℕ} {c : Counts} → SoundBlock texts bind c Nothing → (n : List ℕ) → length n ≤ max_name → c.rules < max_rules
    → HasRoom texts bind c.entries (logged of_rules n [])
start_room w n s l = record { log = w.log; room = rule_room (none_bound w.known) n s l }

-- t is the test of the name.
module _ (start : ℕ) (n : List ℕ) {texts bind : List ℕ} {c : Counts} {t : Bool}
    (e : (log : List Logged) (rd : Reading) → HoldsBound log texts bind c rd → t ≡ declared n rd) where
  pub start_twice : {texts' bind' : List ℕ} → t ≡ true → Meets texts bind c Nothing (λ rd b. start_rule start n rd) texts' bind' (Err (BadRule start))
  unfolding start_rule
  start_twice h = record { agrees = λ log rd b w. refused_by (rw (sym (e log rd (none_bound w)) ∙ h)) }

  module _ (h : t ≡ false) where
    pub start_long : {texts' bind' : List ℕ} → max_name < length n → Meets texts bind c Nothing (λ rd b. start_rule start n rd) texts' bind' (Err (OverLimit start))
    unfolding start_rule longer_than
    start_long l = record { agrees = λ log rd b w. refused_by (rw (sym (e log rd (none_bound w)) ∙ h, lt-ltb max_name (length n) l)) }

    module _ (s : length n ≤ max_name) where
      pub start_many : {texts' bind' : List ℕ} → max_rules ≤ c.rules → Meets texts bind c Nothing (λ rd b. start_rule start n rd) texts' bind' (Err (OverLimit start))
      unfolding start_rule longer_than
      start_many l =
          record {
            agrees = λ log rd b w.
                let d = none_bound w in
                refused_by
                (rw (sym (e log rd d) ∙ h, le-ltb max_name (length n) s, le-leb max_rules (length rd.rules) (omega (arith, d.rules_counted))));
          }

      pub start_goes : {texts' bind' : List ℕ} → c.rules < max_rules → ((log : List Logged) → EntryRoom log texts bind c.entries (logged of_rules n []) → HoldsBindings (logged of_rules n [] ∷ log) texts' bind' (c.entries + 1))
          → Meets texts bind c Nothing (λ rd b. start_rule start n rd) texts' bind' (went (counted_rule c) (OpenRule start c.entries))
      unfolding joined start_rule longer_than
      start_goes l p =
          record {
            agrees = λ log rd b w.
                let d = none_bound w in
                let x = logged of_rules n [] in
                rw (joined_none rd w.opens, sym (e log rd d) ∙ h, le-ltb max_name (length n) s, lt-leb max_rules (length rd.rules) (omega (arith, d.rules_counted)))
                (goes (x ∷ [])
                (bound_rule d n (p log (rule_room d n s l)) l)
                (a_rule (rule_begun x log refl ∙ ap Some (sym d.held.rows.counted)))
                (beside_rule (record { name = n; keys = [] })));
          }

-- ---- a key

-- the rule is declared at entry k, and its line starts at `head`
module _ (start head k : ℕ) (n raw : List ℕ) {log : List Logged} {texts bind : List ℕ} {c : Counts} (rd : Reading) where
  bad_test : (r : Rule) → newest_rule log ≡ Some k → HoldsBound log texts bind c (with_rule r rd) → not (rule_key n) || has_key n r.keys ≡ bad_key k n log
  unfolding with_rule
  bad_test r o d = bad_held log k r rd.rules o d.rules n

  -- A key that is not bad has a short name, so its limits are those of any binding.
  over_test : (r : Rule) → HoldsBound log texts bind c (with_rule r rd) → length rd.files ≤ max_files → rd.mentions ≤ max_mentions → bad_key k n log ≡ false
      → longer_than max_value raw || over_counts (count_binding (length raw) rd) ≡ binding_over (length n) (length raw) c
  unfolding with_rule bad_key over_binding longer_than over_counts count_binding
  over_test r d f m h =
      let s : length n ≤ max_name = key_short n (not-false (rule_key n) (or_left (not (rule_key n)) (keyed k n log) h)) in
      rw (le-ltb max_name (length n) s) at (over_counted d f m n raw)

  key_bad : {b : Block} → OpensBlock log b (OpenRule head k) → HoldsBound log texts bind c (joined rd b) → bad_key k n log ≡ true → block_line start b n raw rd ≡ refused (BadRule start)
  unfolding joined block_line add_key
  key_bad (a_rule {r = r} o) d h = rw (bad_test r o d ∙ h)

  key_over : {b : Block} → OpensBlock log b (OpenRule head k) → HoldsBound log texts bind c (joined rd b) → length (joined rd b).files ≤ max_files → (joined rd b).mentions ≤ max_mentions
      → bad_key k n log ≡ false → binding_over (length n) (length raw) c ≡ true → block_line start b n raw rd ≡ refused (OverLimit start)
  unfolding joined with_rule block_line add_key
  key_over (a_rule {r = r} o) d f m h q = rw (bad_test r o d ∙ h, over_test r d f m h ∙ q)

  key_goes : {b : Block} → OpensBlock log b (OpenRule head k) → HoldsBound log texts bind c (joined rd b) → length (joined rd b).files ≤ max_files → (joined rd b).mentions ≤ max_mentions
      → bad_key k n log ≡ false → binding_over (length n) (length raw) c ≡ false → {texts' bind' : List ℕ} {c' : Counts} → PutsBinding texts bind c (logged (of_keys k) n raw) texts' bind' c'
      → Binds log c (joined rd b) texts' bind' (block_line start b n raw rd) (went c' (OpenRule head k))
  unfolding joined with_rule block_line add_key
  key_goes (a_rule {r = r} o) d f m h q p =
      let e = logged (of_keys k) n raw in
      let w = within n raw (of_keys k) q (omega (arith, newest_rule_below log k o, d.held.rows.counted, d.held.rows.few)) (λ z. omega arith) in
      rw (bad_test r o d ∙ h, over_test r d f m h ∙ q, p.counted)
      (goes (e ∷ [])
      (bound_key rd r k d o n raw (p.held log (with_rule r rd) d) w.few w.low)
      (a_rule (rule_kept e log (λ z. omega arith) ∙ o))
      (beside_key rd n raw r))

-- t is the test of the key.
module _ (start head k : ℕ) (n raw : List ℕ) {texts bind : List ℕ} {c : Counts} {t : Bool}
    (e : (log : List Logged) → HoldsBindings log texts bind c.entries → t ≡ bad_key k n log) where
  pub keys_bad : {texts' bind' : List ℕ} → t ≡ true → Meets texts bind c (OpenRule head k) (λ rd b. block_line start b n raw rd) texts' bind' (Err (BadRule start))
  keys_bad h =
      record { agrees = λ log rd b w. refused_by (key_bad start head k n raw rd w.opens w.bound (sym (e log w.bound.held) ∙ h)) }

  module _ (h : t ≡ false) where
    pub keys_over : {texts' bind' : List ℕ} → binding_over (length n) (length raw) c ≡ true
        → Meets texts bind c (OpenRule head k) (λ rd b. block_line start b n raw rd) texts' bind' (Err (OverLimit start))
    keys_over q =
        record {
          agrees = λ log rd b w.
              refused_by
              (key_over start head k n raw rd w.opens w.bound w.few_files w.few_mentions (sym (e log w.bound.held) ∙ h) q);
        }

    pub keys_go : {texts' bind' : List ℕ} {c' : Counts} → binding_over (length n) (length raw) c ≡ false → PutsBinding texts bind c (logged (of_keys k) n raw) texts' bind' c'
        → Meets texts bind c (OpenRule head k) (λ rd b. block_line start b n raw rd) texts' bind' (went c' (OpenRule head k))
    keys_go q p =
        record {
          agrees = λ log rd b w.
              key_goes start head k n raw rd w.opens w.bound w.few_files w.few_mentions (sym (e log w.bound.held) ∙ h) q p;
        }

-- ---- the end of a block

module _ {log : List Logged} {texts bind : List ℕ} {c : Counts} (rd : Reading) where
  close_rule : (head k : ℕ) {b : Block} → OpensBlock log b (OpenRule head k) → HoldsBound log texts bind c (joined rd b) → keyed k (bytes "command") log ≡ true
      → Binds log c (joined rd b) texts bind (close rd b) (went c Nothing)
  unfolding joined with_rule close
  close_rule head k (a_rule {r = r} o) d h = rw (keyed_held log k r rd.rules o d.rules (bytes "command") ∙ h) (goes [] d nothing beside_same)

  no_command : (head k : ℕ) {b : Block} → OpensBlock log b (OpenRule head k) → HoldsBound log texts bind c (joined rd b) → keyed k (bytes "command") log ≡ false
      → close rd b ≡ refused (BadRule head)
  unfolding joined with_rule close
  no_command head k (a_rule {r = r} o) d h = rw (keyed_held log k r rd.rules o d.rules (bytes "command") ∙ h)

  close_none : {b : Block} → OpensBlock log b Nothing → HoldsBound log texts bind c (joined rd b) → Binds log c (joined rd b) texts bind (close rd b) (went c Nothing)
  unfolding joined close
  close_none nothing d = goes [] d nothing beside_same

  close_step : {b : Block} → OpensBlock log b OpenStep → HoldsBound log texts bind c (joined rd b) → Binds log c (joined rd b) texts bind (close rd b) (went c Nothing)
  unfolding joined close
  close_step a_step d = goes [] d nothing beside_same

module _ {texts bind : List ℕ} {c : Counts} where
  pub closed_none : Meets texts bind c Nothing close texts bind (went c Nothing)
  closed_none = record { agrees = λ log rd b w. close_none rd w.opens w.bound }

  pub closed_step : Meets texts bind c OpenStep close texts bind (went c Nothing)
  closed_step = record { agrees = λ log rd b w. close_step rd w.opens w.bound }

  -- t is the test for `command`.
  module _ (head k : ℕ) {t : Bool} (e : (log : List Logged) → HoldsBindings log texts bind c.entries → t ≡ keyed k (bytes "command") log) where
    pub closed_rule : t ≡ true → Meets texts bind c (OpenRule head k) close texts bind (went c Nothing)
    closed_rule h = record { agrees = λ log rd b w. close_rule rd head k w.opens w.bound (sym (e log w.bound.held) ∙ h) }

    pub closed_bare : t ≡ false → Meets texts bind c (OpenRule head k) close texts bind (Err (BadRule head))
    closed_bare h = record { agrees = λ log rd b w. refused_by (no_command rd head k w.opens w.bound (sym (e log w.bound.held) ∙ h)) }

-- ---- what the lookups ask

open_below : {log : List Logged} {b : Block} {head k : ℕ} → OpensBlock log b (OpenRule head k) → k < length log
open_below {log} {k = k} (a_rule o) = newest_rule_below log k o

pub of_rule_law : {texts bind : List ℕ} {c : Counts} {head k : ℕ} → SoundBlock texts bind c (OpenRule head k) → OfRule texts bind c.entries k
of_rule_law s =
    record {
      table = record { log = s.log; held = s.known.bound.held };
      below = omega (arith, open_below s.known.opens, s.known.bound.held.rows.counted);
    }

pub key_ready : {texts bind : List ℕ} {c : Counts} {head k : ℕ} → SoundBlock texts bind c (OpenRule head k) → (n raw : List ℕ) → binding_over (length n) (length raw) c ≡ false
    → EntryReady texts bind c (logged (of_keys k) n raw)
key_ready {k = k} s n raw q =
    let p = of_rule_law s in
    record {
      log = s.log;
      reading = joined s.reading s.block;
      bound = s.known.bound;
      fits = within n raw (of_keys k) q (omega (arith, p.below, p.table.held.rows.few)) (λ z. omega arith);
    }
