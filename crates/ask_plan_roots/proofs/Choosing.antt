-- The choice of the roots, and 13.
use Rattle.std.specs.Prelude.{Some, None}
use Prim.Native.Nat.{ℕ, ◌≤◌, ◌<◌}
use native.Mathlib.Omega.{arith}
use native.Mathlib.Nat.{not-suc-le-zero}
use mathlib.Core.Path.{◌≡◌, refl, sym, ◌∙◌}
use mathlib.Core.Bool.{Bool, true, false, not, ◌&&◌}
use mathlib.Core.List.{List, [], ◌∷◌, ◌++◌}
use lib.ListN.{length, get_or, take, drop, length-append}
use lib.Seq.{take-append_seam, length-take-le}
use Rattle.lists.specs.Members.{in_at}
use Rattle.spec.specs.Basics.{is_empty}
use Rattle.spec.specs.Reading.{Reading}
use Rattle.spec.specs.Graph.{tops, roots, no_root}
use Rattle.spec.specs.PlanAsk.{target_files}
use Rattle.hold_columns.proofs.Held.{held_steps}
use Rattle.graph_roots.specs.Tops.{TopsFound}
use Rattle.ask_plan_roots.specs.Roots.{PutAsked, FilesPut, ChoiceAsked, RootsPut, RootsFound}

some_in : {A : Type 0} (l : List A) → 0 < length l → is_empty l ≡ false
some_in [] b = absurd (not-suc-le-zero b)
some_in (a ∷ l) b = refl

none_in : {A : Type 0} (l : List A) → length l ≡ 0 → is_empty l ≡ true
none_in [] e = refl
none_in (a ∷ l) e = absurd (omega arith)

and_false : (b : Bool) → (b && false) ≡ false
and_false true = refl
and_false false = refl

-- ---- files put at the front

pub put_all : {fs out now : List ℕ} → PutAsked fs out → now ≡ fs ++ drop (length fs) out → FilesPut fs now (length fs)
put_all {fs} {out} q e = record { within = rw e (simp length-append (omega arith)); front = rw e (take-append_seam fs (drop (length fs) out)) }

-- ---- 13

module _ (rd : Reading) (ts : List ℕ) {rs : List ℕ} (e : rs ≡ roots rd ts) where
  some_root : 0 < length rs → no_root rd ts ≡ false
  unfolding no_root
  some_root b = rw (← e, some_in rs b) (and_false (not (is_empty rd.steps)))

  no_step : length rd.steps ≡ 0 → no_root rd ts ≡ false
  unfolding no_root
  no_step z = rw (none_in rd.steps z)

  no_root_law : 0 < length rd.steps → length rs ≡ 0 → no_root rd ts ≡ true
  unfolding no_root
  no_root_law b z = rw (← e, some_in rd.steps b, none_in rs z)

module _ {mentions ends phony made defaults targets out : List ℕ} {k : ℕ} (p : RootsPut mentions ends phony made defaults targets out k) where
  long : length (take k out) ≡ k
  long = length-take-le k out p.within

  pub found_some : 0 < k → RootsFound mentions ends phony made defaults targets out (Some k)
  unfolding RootsFound
  found_some b = record { put = p; rooted = λ i rd w. some_root rd (target_files i.targets rd) (p.are i rd w) (omega (arith, long, b)) }

  pub found_stepless : length phony ≡ 0 → RootsFound mentions ends phony made defaults targets out (Some k)
  unfolding RootsFound
  found_stepless z = record { put = p; rooted = λ i rd w. no_step rd (target_files i.targets rd) (p.are i rd w) (sym (held_steps w.held) ∙ z) }

  pub found_none : k ≤ 0 → (length phony ≡ 0 → ⊥) → RootsFound mentions ends phony made defaults targets out None
  unfolding RootsFound
  found_none b d =
      record { rootless = λ i rd w. no_root_law rd (target_files i.targets rd) (p.are i rd w) (omega (arith, held_steps w.held)) (omega (arith, long, b)) }

-- ---- which files are the roots

module _ (rd : Reading) (ts : List ℕ) where
  targets_chosen : 0 < length ts → roots rd ts ≡ ts
  unfolding roots
  targets_chosen b = rw (some_in ts b)

  defaults_chosen : length ts ≤ 0 → 0 < length rd.defaults → roots rd ts ≡ rd.defaults
  unfolding roots
  defaults_chosen z b = rw (none_in ts (omega arith), some_in rd.defaults b)

  tops_chosen : length ts ≤ 0 → length rd.defaults ≤ 0 → roots rd ts ≡ tops rd.steps
  unfolding roots
  tops_chosen z y = rw (none_in ts (omega arith), none_in rd.defaults (omega arith))

module _ {mentions ends phony made defaults ts marks lent out : List ℕ} {k : ℕ} (q : ChoiceAsked mentions ends phony made defaults ts marks lent) where
  pub from_targets : 0 < length ts → FilesPut ts out k → RootsPut mentions ends phony made defaults ts out k
  from_targets b p = record {
    within = p.within;
    low = rw p.front q.targets_low;
    are = λ i rd w. p.front ∙ rw (← w.targeted) (sym (targets_chosen rd ts b));
  }

  pub from_defaults : length ts ≤ 0 → 0 < length defaults → FilesPut defaults out k → RootsPut mentions ends phony made defaults ts out k
  from_defaults z b p = record {
    within = p.within;
    low = rw p.front q.defaults_low;
    are = λ i rd w. p.front ∙ rw (← w.targeted, w.defaulted) (sym (defaults_chosen rd ts z (rw w.defaulted at b)));
  }

  pub from_tops : length ts ≤ 0 → length defaults ≤ 0 → TopsFound mentions ends phony made out k → RootsPut mentions ends phony made defaults ts out k
  from_tops z y t = record {
    within = t.within;
    low = λ n b. t.low (get_or (take k out) n 0) (in_at (take k out) n b);
    are = λ i rd w. t.found rd.steps (length rd.files) w.held ∙ rw (← w.targeted) (sym (tops_chosen rd ts z (rw w.defaulted at y)));
  }
