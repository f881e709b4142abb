-- The names of a list that a card lists, counted one after another.
use Prim.Native.Nat.{ℕ, ◌+◌, ◌≤◌}
use mathlib.Core.Bool.{true, false}
use mathlib.Core.List.{List}
use mathlib.Core.Path.{◌≡◌, refl, sym, ◌∙◌}
use native.Mathlib.Nat.{zero-add}
use native.Mathlib.Omega.{arith}
use borrow.Author.Tests.{eq-eqb, ne_eqb}
use lib.Dec.{eqb}
use lib.ListN.{length}
use Rattle.lists.specs.Tests.{split}
use Rattle.lists.specs.Parts.{part}
use Rattle.spec.specs.Card.{card_entries, time_in}
use Rattle.spec.specs.Targets.{targets_of}
use Rattle.scan_targets.specs.declared.NextTarget.{NextTarget}
use Rattle.scan_targets.specs.declared.NextTarget.TheVariants.{End, Bad, Name}
use Rattle.scan_targets.specs.Next.{next_in}
use Rattle.scan_targets.proofs.Walk.{names_from, Turn, turn}
use Rattle.test_scan.specs.Targets.{good_names}
use Rattle.test_scan.specs.Cards.{is_listed, card_listed}
use Rattle.test_scan.proofs.Adding.{good_more, good_end, good_bad}

-- ---- one name

module _ (card p : List ℕ) {t : ℕ} (a : t ≡ time_in (card_entries card) p) where
  pub not_listed : t ≡ 0 → 0 ≡ is_listed card p
  unfolding is_listed
  not_listed e = rw (eq-eqb (time_in (card_entries card) p) 0 (sym a ∙ e))

  pub is_listed_law : (t ≡ 0 → ⊥) → 1 ≡ is_listed card p
  unfolding is_listed
  is_listed_law n = rw (ne_eqb (time_in (card_entries card) p) 0 (λ e. n (a ∙ e)))

pub listed_once : (card p : List ℕ) → is_listed card p ≤ 1
unfolding is_listed
listed_once card p =
    split (eqb (time_in (card_entries card) p) 0)
    (λ (e : eqb (time_in (card_entries card) p) 0 ≡ true). rw e (omega arith))
    (λ (e : eqb (time_in (card_entries card) p) 0 ≡ false). rw e (omega arith))

-- ---- the walk

-- at a place where a name may start: those counted and those that are left are all
pub record Counting (card list : List ℕ) (from n : ℕ) : Type 0 where
  pub few : n ≤ from
  pub within : from ≤ length list
  pub all : card_listed card (good_names (targets_of list)) ≡ n + card_listed card (good_names (names_from list from))

module _ {card list : List ℕ} where
  pub counting_begin : Counting card list 0 0
  unfolding targets_of
  counting_begin = record { few = omega arith; within = omega arith; all = rw zero-add }

  module _ {from n : ℕ} (w : Counting card list from n) where
    counting_end : {r : NextTarget} → r ≡ next_in (names_from list from) → r ≡ End → n ≡ card_listed card (good_names (targets_of list))
    unfolding card_listed
    counting_end a e = let z : card_listed card (good_names (names_from list from)) ≡ 0 = rw (good_end list from a e) in omega (arith, w.all, z)

    counting_bad : {r : NextTarget} → r ≡ next_in (names_from list from) → r ≡ Bad → n ≡ card_listed card (good_names (targets_of list))
    unfolding card_listed
    counting_bad a e = let z : card_listed card (good_names (names_from list from)) ≡ 0 = rw (good_bad list from a e) in omega (arith, w.all, z)

    pub counting_done : (r : NextTarget) → r ≡ next_in (names_from list from) → ((end : ℕ) → r ≡ Name end → ⊥) → n ≡ card_listed card (good_names (targets_of list))
    counting_done End a h = counting_end a refl
    counting_done Bad a h = counting_bad a refl
    counting_done (Name end) a h = absurd (h end refl)

    pub counting_turn : {r : NextTarget} → r ≡ next_in (names_from list from) → {end : ℕ} → r ≡ Name end → Turn list from end
    counting_turn a {end} e = turn list from end (sym e ∙ a)

    pub counting_more : {end : ℕ} → Turn list from end → {k : ℕ} → k ≡ is_listed card (part list from end) → Counting card list (end + 1) (n + k)
    unfolding card_listed
    counting_more {end} t {k} e =
        let z : card_listed card (good_names (names_from list from)) ≡ is_listed card (part list from end) + card_listed card (good_names (names_from list (end + 1))) = rw (good_more t) in
        record {
          few = omega (arith, w.few, t.some, e, listed_once card (part list from end));
          within = omega (arith, t.within);
          all = omega (arith, w.all, z, e);
        }
