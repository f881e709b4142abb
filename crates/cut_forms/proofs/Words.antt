-- `rule NAME`, `default PATHS`, `include PATH` or `subninja PATH`, and `NAME = value` at places of a line.
use Prim.Native.Nat.{ℕ, ◌+◌, ◌-◌, ◌≤◌, ◌<◌}
use mathlib.Core.Bool.{Bool, true, false}
use mathlib.Core.List.{List}
use mathlib.Core.Option.{Option, none, some}
use mathlib.Core.Path.{◌≡◌, refl, sym, ◌∙◌, ap}
use native.Mathlib.Nat.{le_trans}
use native.Mathlib.Omega.{arith}
use borrow.Author.Tests.{ne_eqb, not-true, not-false}
use lib.ListN.{length, drop, get_or}
use Rattle.lists.specs.Tests.{if_b, split}
use Rattle.lists.specs.Parts.{part}
use Rattle.lists.specs.Runs.{Reads}
use Rattle.spec.specs.Basics.{is_empty, or_else}
use Rattle.spec.specs.Bytes.{equals}
use Rattle.spec.specs.Dollars.{bad_in, bad_dollar}
use Rattle.spec.specs.Forms.{Fault as Rules-as-Fault, no_form, left_at_dollar, Cut, fits, fails, gap, name_of, after_name, rule_word, key_word, path_stop, after_path, raw_path, path_begins, paths, checked, Form, open_form, binding_form, cut_rule, cut_default, cut_open, raw_value, cut_value, cut_binding}
use Rattle.scan_raw.specs.Texts.{FirstPath, no_path, one_path, bad_path, first_at, first_path, PathsStop, PathNext, PathsBad, ValueBad}
use Rattle.scan_tokens.proofs.Places.{at_cons, at_end}
use Rattle.scan_raw.proofs.Faults.{raw_length}
use Rattle.cut_forms.specs.declared.Fault.{Fault}
use Rattle.cut_forms.specs.declared.Fault.TheVariants.{BadDollar}
use Rattle.cut_forms.specs.Faults.{Fails}
use Rattle.cut_forms.specs.Paths.{ListEnds}
use Rattle.cut_forms.specs.Statements.{NameEnds, RuleAt, DefaultAt, OpenAt, BindingAt}
use Rattle.cut_forms.proofs.Faults.{bad_dollar_law, fails_then}
use Rattle.cut_forms.proofs.Walks.{paths_of_law}

-- ---- `rule NAME`

module _ {l : List ℕ} {at from : ℕ} (g : Reads gap l at from) where
  pub rule_wrong : {f : Fault} → Fails l (rule_word (name_of (drop from l))) f → Fails l (cut_rule (drop at l)) f
  unfolding cut_rule
  rule_wrong e = fails_then _ (rw g.rest at e)

  module _ {to end : ℕ} (n : NameEnds l from to (rule_word (name_of (drop from l)))) (h : Reads gap l to end) where
    pub rule_more : end < length l → cut_rule (drop at l) ≡ fails no_form
    unfolding cut_rule
    rule_more k = rw (← g.rest, n.cut, ← n.reads.rest, ← h.rest, at_cons l end k)

    pub rule_ends_law : length l ≤ end → RuleAt l (cut_rule (drop at l)) from to
    unfolding cut_rule
    rule_ends_law k =
        record {
          ordered = n.reads.forward;
          within = n.reads.within;
          cut = rw (← g.rest, n.cut, ← n.reads.rest, ← h.rest, at_end l end k);
        }

-- ---- `default PATHS`

pub default_wrong : (s : List ℕ) {l : List ℕ} {f : Fault} → Fails l (paths s) f → Fails l (cut_default s) f
unfolding cut_default
default_wrong s e = fails_then _ e

module _ {l : List ℕ} {at end : ℕ} {any : Bool} (w : ListEnds l at end any) where
  pub default_none : any ≡ false → cut_default (drop at l) ≡ fails no_form
  unfolding cut_default
  default_none e = rw (w.cut, not-false (is_empty w.raw) (sym w.some ∙ e))

  module _ (e : any ≡ true) where
    pub default_more : end < length l → cut_default (drop at l) ≡ fails no_form
    unfolding cut_default
    default_more h = rw (w.cut, not-true (is_empty w.raw) (sym w.some ∙ e), at_cons l end h)

    pub default_ends : length l ≤ end → DefaultAt l (cut_default (drop at l)) at
    unfolding cut_default
    default_ends h =
        record {
          raw = w.raw;
          stands = paths_of_law w;
          cut = rw (w.cut, not-true (is_empty w.raw) (sym w.some ∙ e), at_end l end h);
        }

-- ---- `include PATH` and `subninja PATH`

module _ (sub : Bool) where
  -- the line by its first path
  unfoldable open_first : FirstPath → Cut Form
  open_first no_path = fails no_form
  open_first (one_path raw rest) = if_b (is_empty (gap rest)) (λ _. fits (open_form sub raw)) (λ _. fails no_form)
  open_first (bad_path left) = fails (left_at_dollar left)

  open_checked : (o : Option ℕ) (t raw rest : List ℕ)
      → checked o t (λ _. if_b (is_empty (gap rest)) (λ _. fits (open_form sub raw)) (λ _. fails no_form))
      ≡ open_first (or_else o (λ at. bad_path (length t - at)) (λ _. one_path raw rest))
  unfolding checked open_first
  open_checked none t raw rest = refl
  open_checked (some at) t raw rest = refl

  open_first_law : (s : List ℕ) → cut_open sub s ≡ open_first (first_path s)
  unfolding cut_open first_path first_at open_first
  open_first_law s =
      split (path_begins (gap s))
      (λ (e : path_begins (gap s) ≡ true).
      rw e (open_checked (bad_in path_stop (gap s)) (gap s) (raw_path (gap s)) (after_path (gap s))))
      (λ (e : path_begins (gap s) ≡ false). rw e)

  pub open_none : {l : List ℕ} {at end : ℕ} → PathsStop l at end → cut_open sub (drop at l) ≡ fails no_form
  unfolding open_first
  open_none p = open_first_law _ ∙ ap open_first p.first

  pub open_wrong : {l : List ℕ} {at p : ℕ} → PathsBad l at p → Fails l (cut_open sub (drop at l)) (BadDollar p)
  unfolding open_first
  open_wrong p = bad_dollar_law p.within (open_first_law _ ∙ ap open_first p.first)

  module _ {l : List ℕ} {at from to end : ℕ} (p : PathNext l at from to) (g : Reads gap l to end) where
    pub open_more : end < length l → cut_open sub (drop at l) ≡ fails no_form
    unfolding open_first
    open_more h = open_first_law _ ∙ ap open_first p.first ∙ rw (← g.rest, at_cons l end h)

    pub open_ends : length l ≤ end → OpenAt l (cut_open sub (drop at l)) sub from to
    unfolding open_first
    open_ends h =
        record {
          longer = p.longer;
          within = p.within;
          sound = p.sound;
          cut = open_first_law _ ∙ ap open_first p.first ∙ rw (← g.rest, at_end l end h);
        }

-- ---- `NAME = value`

module _ {l : List ℕ} {to at : ℕ} (g : Reads gap l to at) where
  pub value_none : (w : List ℕ) → length l ≤ at → cut_value w (gap (drop to l)) ≡ fails no_form
  unfolding cut_value
  value_none w h = rw (← g.rest, at_end l at h)

  pub value_short : {raw : List ℕ} → raw ≡ raw_value (drop (at + 1) l) → length raw ≤ length l
  value_short v = rw v (raw_length l (at + 1))

  module _ (h : at < length l) where
    pub value_other : (w : List ℕ) → (get_or l at 0 ≡ equals → ⊥) → cut_value w (gap (drop to l)) ≡ fails no_form
    unfolding cut_value
    value_other w e = rw (← g.rest, at_cons l at h, ne_eqb (get_or l at 0) equals e)

    module _ (e : get_or l at 0 ≡ equals) {raw : List ℕ} (v : raw ≡ raw_value (drop (at + 1) l)) where
      value_is : (w : List ℕ) → cut_value w (gap (drop to l)) ≡ checked (bad_dollar raw) raw (λ _. fits (binding_form w raw))
      unfolding cut_value
      value_is w = rw (← g.rest, at_cons l at h, e, v)

      pub value_sound : {from : ℕ} → from ≤ to → bad_dollar raw ≡ none → BindingAt l (cut_value (part l from to) (gap (drop to l))) from to (at + 1)
      unfolding checked
      value_sound {from} o d =
          record {
            ordered = o;
            within = le_trans g.forward g.within;
            starts = omega arith;
            cut = value_is (part l from to) ∙ rw (d, v);
          }

      pub value_bad : (w : List ℕ) {p : ℕ} → ValueBad raw p → Fails l (cut_value w (gap (drop to l))) (BadDollar (length l - length raw + p))
      unfolding checked
      value_bad w {p} b =
          let n : length raw - p ≡ length l - (length l - length raw + p) = omega (arith, value_short v, b.within) in
          bad_dollar_law (omega (arith, value_short v, b.within)) (value_is w ∙ rw (b.bad, n))

module _ {l : List ℕ} {from to : ℕ} (a : Reads after_name l from to) where
  pub binding_key : key_word (name_of (drop from l)) ≡ fits (part l from to) → cut_binding (drop from l) ≡ cut_value (part l from to) (gap (drop to l))
  unfolding cut_binding
  binding_key e = rw (e, ← a.rest)

pub binding_wrong : (s : List ℕ) {f : Rules-as-Fault} → key_word (name_of s) ≡ fails f → cut_binding s ≡ fails f
unfolding cut_binding
binding_wrong s e = rw e
