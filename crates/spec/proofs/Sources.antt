-- Refusal 15: the computed place is the lowest missing needed source, and there is none where none is computed.
use Prim.Native.Nat.{ℕ, ◌≤◌}
use mathlib.Core.Path.{◌≡◌, refl, sym, ◌∙◌}
use mathlib.Core.Logic.{inl, inr, ◌↔◌}
use mathlib.Core.Bool.{Bool, true, false, ◌&&◌, ◌||◌, true≢false}
use mathlib.Core.Option.{Option, none, some}
use mathlib.Core.List.{List, [], ◌∷◌}
use borrow.Author.Tests.{eqb-true, eq-eqb}
use lib.Dec.{eqb}
use lib.ListN.{length}
use Rattle.lists.specs.Tests.{and_true, and_left, and_right, or_true}
use Rattle.lists.specs.Members.{◌∈◌, not_in_nil, has, has_true, in_has, any, any_true, true_any, find_some, find_none, find_least, up_to, in_up_to, up_to_in, rising_up_to, here}
use Rattle.spec.specs.Basics.{is_empty}
use Rattle.spec.specs.Reading.{Step, Reading}
use Rattle.spec.specs.Graph.{inputs, step_at, makers, needed, is_needed_source}
use Rattle.spec.specs.Headers.{HeaderGraph}
use Rattle.spec.specs.PlanAsk.{Inputs, roots_of, card_time, missing_source}
use Rattle.spec.specs.Words.{NeededSource}
use Rattle.spec.specs.Demands.{MissingIn}
use Rattle.spec.proofs.Graph.{in_makers, in_needed}

pub empty_none : (l : List ℕ) → is_empty l ≡ true → (x : ℕ) → ¬ (x ∈ l)
empty_none [] e x h = not_in_nil h
empty_none (y ∷ l) e x h = absurd (true≢false (sym e))

pub none_empty : (l : List ℕ) → ((x : ℕ) → ¬ (x ∈ l)) → is_empty l ≡ true
none_empty [] f = refl
none_empty (y ∷ l) f = absurd (f y (here refl))

pub or_left : (a b : Bool) → a ≡ true → (a || b) ≡ true
or_left a b e = rw e

pub or_right : (a b : Bool) → b ≡ true → (a || b) ≡ true
or_right true b e = refl
or_right false b e = e

module _ (written steps : List Step) (roots : List ℕ) (f : ℕ) where
  takes : ℕ → Bool
  takes s = has f (inputs (step_at written s))

  pub in_source : (is_needed_source written steps roots f ≡ true) ↔ NeededSource written steps roots f
  unfolding is_needed_source takes
  in_source = (
    λ e. let a = and_left (is_empty (makers steps f)) (has f roots || any takes (needed steps roots)) e in
        let b = and_right (is_empty (makers steps f)) (has f roots || any takes (needed steps roots)) e in
        record {
          no_maker = λ m w. empty_none (makers steps f) a m ((in_makers steps f).1 w);
          needed = elim (or_true (has f roots) (any takes (needed steps roots)) b) [
            | inl p ↦ inl (has_true f roots p)
            | inr q ↦ (let (s, h, i) = any_true takes (needed steps roots) q in inr (s, (in_needed steps roots).0 h, has_true f (inputs (step_at written s)) i))
          ];
        },
    λ w. and_true (is_empty (makers steps f)) (has f roots || any takes (needed steps roots))
        (none_empty (makers steps f) (λ m h. w.no_maker m ((in_makers steps f).0 h)))
        (elim w.needed [
          | inl p ↦ or_left (has f roots) (any takes (needed steps roots)) (in_has p)
          | inr q ↦ or_right (has f roots) (any takes (needed steps roots)) (true_any takes (needed steps roots) ((in_needed steps roots).1 q.1) (in_has q.2))
        ]),
  )

module _ (i : Inputs) (rd : Reading) (h : HeaderGraph) where
  test : ℕ → Bool
  test f = eqb (card_time i.card h.reading f) 0 && is_needed_source rd.steps h.reading.steps (roots_of i rd) f

  missing_test : {f : ℕ} → MissingIn i rd h f → test f ≡ true
  unfolding test
  missing_test {f} w =
      and_true (eqb (card_time i.card h.reading f) 0) (is_needed_source rd.steps h.reading.steps (roots_of i rd) f) (eq-eqb (card_time i.card h.reading f) 0 w.absent) ((in_source rd.steps h.reading.steps (roots_of i rd) f).1 w.source)

  -- "a needed source is missing": "lowest file number"
  pub missing_lowest : {f : ℕ} → missing_source i.card rd.steps h.reading (roots_of i rd) ≡ some f → MissingIn i rd h f × ((g : ℕ) → MissingIn i rd h g → f ≤ g)
  unfolding missing_source test
  missing_lowest {f} e =
      let (k, t) = find_some test (up_to (length h.reading.files)) e in
      let a = and_left (eqb (card_time i.card h.reading f) 0) (is_needed_source rd.steps h.reading.steps (roots_of i rd) f) t in
      let b = and_right (eqb (card_time i.card h.reading f) 0) (is_needed_source rd.steps h.reading.steps (roots_of i rd) f) t in (
        record { file = in_up_to (length h.reading.files) k; absent = eqb-true (card_time i.card h.reading f) 0 a; source = (in_source rd.steps h.reading.steps (roots_of i rd) f).0 b },
        λ g w. find_least test (up_to (length h.reading.files)) (rising_up_to (length h.reading.files)) e (up_to_in (length h.reading.files) w.file) (missing_test w),
      )

  pub none_missing : missing_source i.card rd.steps h.reading (roots_of i rd) ≡ none → (f : ℕ) → ¬ MissingIn i rd h f
  unfolding missing_source test
  none_missing e f w =
      true≢false (sym (missing_test w) ∙ find_none test (up_to (length h.reading.files)) e (up_to_in (length h.reading.files) w.file))

  pub missing_none : ((f : ℕ) → ¬ MissingIn i rd h f) → missing_source i.card rd.steps h.reading (roots_of i rd) ≡ none
  missing_none n = go (missing_source i.card rd.steps h.reading (roots_of i rd)) refl
    where
      go : (o : Option ℕ) → missing_source i.card rd.steps h.reading (roots_of i rd) ≡ o → o ≡ none
      go none e = refl
      go (some f) e = absurd (n f (missing_lowest e).0)
