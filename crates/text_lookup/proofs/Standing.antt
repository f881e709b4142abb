-- For callers: what a name stands for by the answer of its lookup.
use Prim.Native.Nat.{ℕ, ◌<◌}
use mathlib.Core.List.{List}
use mathlib.Core.Option.{Option, none, some}
use mathlib.Core.Bool.{true, false}
use mathlib.Core.Path.{◌≡◌, refl, sym, ◌∙◌}
use native.Mathlib.Omega.{arith}
use Rattle.lists.specs.Tests.{split}
use Rattle.lists.specs.Text.{bytes}
use Rattle.lists.specs.Bytes.{eq_bytes}
use Rattle.spec.specs.Basics.{or_else}
use Rattle.spec.specs.Reading.{Step, Reading, bound_to, keys_of}
use Rattle.spec.specs.Text.{Spelling, quoted, as_is, of_rule, of_step, lookup_by, lookup}
use Rattle.scan_classes.specs.Table.{classes}
use Rattle.hold_bindings.specs.Log.{Logged, entry_at}
use Rattle.hold_bindings.specs.Held.{HoldsBindings}
use Rattle.text_references.specs.Begins.{ReferencesReady}
use Rattle.text_lookup.specs.declared.Asked.{Asked}
use Rattle.text_lookup.specs.declared.Source.{Source}
use Rattle.text_lookup.specs.declared.Source.TheVariants.{Text}
use Rattle.text_lookup.specs.Scope.{StepScope, InScope, meaning, from_block, There, LooksUp}

as_no_rule : {A : Type 0} {v raw : List ℕ} → as_is v ≡ of_rule raw → A
as_no_rule d = let z : ◌≡◌ {A = ℕ} 0 1 = cc in absurd (omega arith)

module _ (rd : Reading) (s : Step) (n : List ℕ) where
  rule_text : (o b k : Option (List ℕ)) (raw : List ℕ) → (or_else o as_is λ _. from_block n rd s) ≡ of_rule raw → b ≡ bound_to n s.block → k ≡ bound_to n (keys_of s.rule rd.rules) → k ≡ some raw
  rule_text (some v) b k raw e p q = let d : as_is v ≡ of_rule raw = e in let z : ◌≡◌ {A = ℕ} 0 1 = cc in absurd (omega arith)
  rule_text none (some v) k raw e p q = let d : as_is v ≡ of_rule raw = rw (sym p) at e in let z : ◌≡◌ {A = ℕ} 0 1 = cc in absurd (omega arith)
  rule_text none none none raw e p q = let d = rw (sym p, sym q) at e in let z : ◌≡◌ {A = ℕ} 0 1 = cc in absurd (omega arith)
  rule_text none none (some r) raw e p q = let d : of_rule r ≡ of_rule raw = rw (sym p, sym q) at e in cc

  -- what the lookup finds in the rule is one of the rule's keys
  pub found_key : (raw : List ℕ) → lookup rd s n ≡ of_rule raw → bound_to n (keys_of s.rule rd.rules) ≡ some raw
  unfolding lookup_by
  found_key raw e = rule_text (of_step quoted rd s n) (bound_to n s.block) (bound_to n (keys_of s.rule rd.rules)) raw e refl refl

  -- however names are spelt, the same rule's text is found
  pub found_rule : (spell other : Spelling) (raw : List ℕ) → lookup_by spell rd s n ≡ of_rule raw → lookup_by other rd s n ≡ of_rule raw
  unfolding lookup_by of_step
  found_rule spell other raw h =
      split (eq_bytes n (bytes "in")) (λ (e : eq_bytes n (bytes "in") ≡ true). as_no_rule (rw e at h)) λ (p : eq_bytes n (bytes "in") ≡ false).
      split (eq_bytes n (bytes "in_newline")) (λ (e : eq_bytes n (bytes "in_newline") ≡ true). as_no_rule (rw (p, e) at h)) λ (q : eq_bytes n (bytes "in_newline") ≡ false).
      split (eq_bytes n (bytes "out")) (λ (e : eq_bytes n (bytes "out") ≡ true). as_no_rule (rw (p, q, e) at h)) (λ (e : eq_bytes n (bytes "out") ≡ false). rw (p, q, e) (rw (p, q, e) at h))

-- the value of an entry as the table gives it
abbrev pub ValueOf : List ℕ → List ℕ → ℕ → List ℕ → Type 0
ValueOf texts bind k raw = (log : List Logged) (count : ℕ) → HoldsBindings log texts bind count → k < count → raw ≡ (entry_at k log).value

module _ {texts bind : List ℕ} {a : Asked} {k : ℕ} (h : There texts bind a k) {raw : List ℕ} (v : ValueOf texts bind k raw) where
  is_raw : {log : List Logged} {rd : Reading} {s : Step} → StepScope texts bind a log rd s → raw ≡ (entry_at k log).value
  is_raw {log} {rd} {s} c = v log a.entries c.bound h.low

module _ (n : List ℕ) {texts bind : List ℕ} {a : Asked} {r : Source} (l : LooksUp texts bind a (λ spell rd s. lookup_by spell rd s n) r) where
  module _ {k : ℕ} {raw : List ℕ} (v : ValueOf texts bind k raw) {log : List Logged} {rd : Reading} {s : Step} (c : StepScope texts bind a log rd s) where
    pub stands_text : r ≡ Text k → lookup rd s n ≡ of_rule raw
    unfolding meaning
    stands_text e = l.means quoted log rd s c ∙ rw (e, is_raw (l.text k e) v c)

  -- a rule's text has no bad `$`
  pub text_ready : {t raw : List ℕ} {k : ℕ} → t ≡ classes → InScope texts bind a → r ≡ Text k → ValueOf texts bind k raw → ReferencesReady t raw 0
  text_ready {raw = raw} q w e v =
      record {
        table = q;
        within = omega arith;
        sound = (w.scope.sound n raw (found_key w.reading w.step n raw (stands_text v w.scope e))).sound;
      }
