-- 15: the lowest missing source that the columns give is the one that the rules name.
use Prim.Native.Nat.{ℕ, zero, suc, ◌≤◌, ◌<◌}
use native.Mathlib.Nat.{le_antisymm}
use native.Mathlib.Omega.{arith}
use mathlib.Core.Path.{◌≡◌, refl, sym, ap, ◌∙◌}
use mathlib.Core.Logic.{inl, inr}
use mathlib.Core.Option.{Option, none, some}
use mathlib.Core.List.{List, []}
use lib.ListN.{length, get_or}
use Rattle.lists.specs.Members.{◌∈◌, any}
use Rattle.spec.specs.Reading.{Reading}
use Rattle.spec.specs.Graph.{makers}
use Rattle.spec.specs.Headers.{HeaderGraph, judged}
use Rattle.spec.specs.Words.{Makes}
use Rattle.spec.specs.PlanAsk.{Inputs, card_time, roots_of, missing_source}
use Rattle.spec.specs.Demands.{MissingIn}
use Rattle.spec.proofs.Graph.{in_makers, in_needed}
use Rattle.spec.proofs.Sources.{missing_lowest, none_missing, missing_none}
use Rattle.hold_columns.specs.Columns.{made_by, maker_in}
use Rattle.hold_columns.proofs.Makers.{in_maker_in, maker_in_in}
use Rattle.hold_columns.proofs.Held.{held_makers}
use Rattle.graph_sources.specs.Sources.{Absent, SourceWanted, LowestMissing}
use Rattle.ask_plan_list.specs.Stages.{Staged, OrderOf}
use Rattle.ask_plan_sources.specs.Sources.{WrittenInputs}

module _ {i : Inputs} {h : HeaderGraph} {mentions ends phony made times : List ℕ} (s : Staged i h mentions ends phony made times) where
  -- a file has no maker exactly where its entry is 0
  no_maker : (f : ℕ) → get_or made f 0 ≡ 0 → (m : ℕ) → ¬ Makes h.reading.steps m f
  no_maker f z m w = let k : m ∈ maker_in made f = rw (held_makers s.held) ((in_makers h.reading.steps f).1 w) in absurd (omega (arith, in_maker_in made f k))

  entry_zero : (f : ℕ) → ((m : ℕ) → ¬ Makes h.reading.steps m f) → get_or made f 0 ≡ 0
  entry_zero f n = go (get_or made f 0) refl
    where
      go : (k : ℕ) → get_or made f 0 ≡ k → k ≡ 0
      go zero e = refl
      go (suc m) e = absurd (n m ((in_makers h.reading.steps f).0 (rw (held_makers s.held) at (maker_in_in made f e))))

  -- where no step makes a file, its time is the card's
  by_card : (f : ℕ) → get_or made f 0 ≡ 0 → get_or times f 0 ≡ card_time i.card h.reading f
  unfolding judged maker_in made_by any
  by_card f z =
      let e : makers h.reading.steps f ≡ [] = sym (ap (λ (g : ℕ → List ℕ). g f) (held_makers s.held)) ∙ ap made_by z in
      s.timed f ∙ rw e

module _ {i : Inputs} {rd : Reading} {h : HeaderGraph} {wmentions wends mentions ends phony made times order : List ℕ} (s : Staged i h mentions ends phony made times)
    (written : WrittenInputs rd wmentions wends) (o : OrderOf i rd h order) where
  -- what is wanted and absent by the columns is a missing needed source
  is_missing : (f : ℕ) → f < length made → SourceWanted wmentions wends (roots_of i rd) order f → Absent times made f → MissingIn i rd h f
  is_missing f b w a = record {
    file = rw s.held.counted at b;
    absent = sym (by_card s f a.1) ∙ a.0;
    source = record {
      no_maker = no_maker s f a.1;
      needed = elim w [
        | inl k ↦ inl k
        | inr k ↦ inr (k.0, (in_needed h.reading.steps (roots_of i rd)).0 (o.lists.no_others k.0 k.1), rw (written.held k.0) at k.2)
      ];
    };
  }

  missing_is : (f : ℕ) → MissingIn i rd h f → SourceWanted wmentions wends (roots_of i rd) order f × Absent times made f
  missing_is f w = (
    elim w.source.needed [
      | inl k ↦ inl k
      | inr k ↦ inr (k.0, o.lists.each k.0 ((in_needed h.reading.steps (roots_of i rd)).1 k.1), rw (written.held k.0) k.2)
    ],
    (let z = entry_zero s f w.source.no_maker in (by_card s f z ∙ w.absent, z)),
  )

  module _ {r : ℕ} (l : LowestMissing wmentions wends made times (roots_of i rd) order (length made) r) where
    least : (f : ℕ) → MissingIn i rd h f → r ≤ f
    least f w = let (k, a) = missing_is f w in l.least f k a

    pub missing_found : r < length made → missing_source i.card rd.steps h.reading (roots_of i rd) ≡ some r
    missing_found b = go (missing_source i.card rd.steps h.reading (roots_of i rd)) refl
      where
        found : MissingIn i rd h r
        found = let (w, a) = l.found b in is_missing r b w a

        go : (x : Option ℕ) → missing_source i.card rd.steps h.reading (roots_of i rd) ≡ x → x ≡ some r
        go none e = absurd (none_missing i rd h e r found)
        go (some f) e =
            let (w, low) = missing_lowest i rd h e in
            ap {B = Option ℕ} some (le_antisymm (low r found) (least f w))

    pub missing_not : length made ≤ r → missing_source i.card rd.steps h.reading (roots_of i rd) ≡ none
    missing_not b = missing_none i rd h (λ f w. absurd (omega (arith, least f w, w.file, s.held.counted)))
