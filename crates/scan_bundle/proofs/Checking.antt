-- Header, names and texts in a row: what each walk says of the whole.
use Rattle.std.specs.Prelude.{Option as StdOption, Some, None}
use Prim.Native.Nat.{ℕ, ◌+◌, ◌-◌, ◌*◌, ◌≤◌, ◌<◌}
use mathlib.Core.Bool.{Bool, true, false}
use mathlib.Core.List.{List}
use mathlib.Core.Option.{Option, none, some}
use mathlib.Core.Path.{◌≡◌, refl, sym, ◌∙◌, ap}
use native.Mathlib.Omega.{arith}
use borrow.Author.Tests.{le-leb}
use lib.Dec.{eqb}
use lib.ListN.{length, drop}
use Rattle.lists.specs.Tests.{split, differ}
use Rattle.lists.specs.Lent.{Spare}
use Rattle.spec.specs.Basics.{or_else}
use Rattle.spec.specs.Limits.{max_path}
use Rattle.spec.specs.Card.{number_at, sound_layout, card_names}
use Rattle.spec.specs.Bundle.{extents_of, name_extents, text_extents, extents_end, sound_extents, laid_bundle, sound_bundle}
use Rattle.scan_card.proofs.Rules.{Layout, layout}
use Rattle.hold_names.proofs.Halving.{clash}
use Rattle.scan_bundle.specs.Bundles.{RunAsks, run_of, SortsNames, Indexes, bundle_answer}
use Rattle.scan_bundle.proofs.Extents.{length_extents, names_end}
use Rattle.scan_bundle.proofs.Lying.{length_body, laid_few}

-- ---- what a walk says

some_end : (o : Option ℕ) (t : ℕ) → or_else o (λ e. Some e) (λ _. None) ≡ Some t → o ≡ some t
some_end none t e = clash (cc)
some_end (some x) t e = let q : x ≡ t = cc in ap some q

no_end : (o : Option ℕ) → or_else o (λ e. Some e) (λ _. None) ≡ None → o ≡ none
no_end none e = refl
no_end (some x) e = clash (cc)

module _ (least most start n first : ℕ) (s : List ℕ) where
  abbrev ends : Option ℕ
  ends = extents_end least most start (extents_of n (drop first s))

  run_end_is : {r : StdOption ℕ} {t : ℕ} → r ≡ run_of least most start n first s → r ≡ Some t → ends ≡ some t
  unfolding run_of
  run_end_is {t = t} a b = some_end ends t (sym a ∙ b)

  run_broken_is : {r : StdOption ℕ} → r ≡ run_of least most start n first s → r ≡ None → ends ≡ none
  unfolding run_of
  run_broken_is a b = no_end ends (sym a ∙ b)

-- ---- names, then texts

module _ (s : List ℕ) {n : ℕ} (h : RunAsks s n) where
  names_are : extents_of n (drop 16 s) ≡ name_extents s
  unfolding name_extents
  names_are = ap (λ (m : ℕ). extents_of m (drop 16 s)) h.count

  texts_are : extents_of n (drop 24 s) ≡ text_extents s
  unfolding text_extents
  texts_are = ap (λ (m : ℕ). extents_of m (drop 24 s)) h.count

  pub names_broken : {r : StdOption ℕ} → r ≡ run_of 1 max_path 0 n 16 s → r ≡ None → false ≡ sound_extents s
  unfolding sound_extents
  names_broken a b = let e = rw names_are at (run_broken_is 1 max_path 0 n 16 s a b) in rw e

  module _ {r : StdOption ℕ} {t : ℕ} (a : r ≡ run_of 1 max_path 0 n 16 s) (b : r ≡ Some t) where
    ended : extents_end 1 max_path 0 (name_extents s) ≡ some t
    ended = rw names_are at (run_end_is 1 max_path 0 n 16 s a b)

    pub names_small : t < 2305843009213693952
    names_small =
        let g = names_end 0 (extents_of n (drop 16 s)) t (run_end_is 1 max_path 0 n 16 s a b) in
        omega (arith, length_extents n (drop 16 s), h.room, h.short)

    module _ {total : ℕ} (z : total ≡ length s) {q : StdOption ℕ} (c : q ≡ run_of 0 total t n 24 s) where
      pub texts_broken : q ≡ None → false ≡ sound_extents s
      unfolding sound_extents
      texts_broken d = let f = rw (texts_are, z) at (run_broken_is 0 total t n 24 s c d) in rw (ended, f)

      pub texts_done : {e : ℕ} → q ≡ Some e → eqb e (total - (16 + 16 * n)) ≡ sound_extents s
      unfolding sound_extents
      texts_done {e} d =
          let f = rw (texts_are, z) at (run_end_is 0 total t n 24 s c d) in
          let k : total - (16 + 16 * n) ≡ length (card_names s) = rw (z, h.count) (sym (length_body s)) in
          rw (ended, f, k)

-- ---- the header before them

pub run_asks : {s : List ℕ} {n total : ℕ} → sound_layout s ≡ true → n ≡ number_at 0 4 s → total ≡ number_at 12 4 s → total < 4294967296 → RunAsks s n × (total ≡ length s)
run_asks {s} h a b c = let l : Layout s = layout h in (record { count = a; room = omega arith; short = omega arith }, omega arith)

pub laid_is : (least most : ℕ) (s : List ℕ) {r : Bool} → sound_layout s ≡ true → least ≤ number_at 0 4 s → number_at 0 4 s ≤ most → r ≡ sound_extents s → r ≡ laid_bundle least most s
unfolding laid_bundle
laid_is least most s l f g h = rw (l, le-leb least (number_at 0 4 s) f, le-leb (number_at 0 4 s) most g) h

-- ---- the whole

pub sound_laid : (least most : ℕ) (s : List ℕ) → sound_bundle least most s ≡ true → laid_bundle least most s ≡ true
unfolding sound_bundle
sound_laid least most s h =
    split (laid_bundle least most s) (λ (e : laid_bundle least most s ≡ true). e) (λ (e : laid_bundle least most s ≡ false). differ (rw e at h) refl)

module _ (least most : ℕ) (s : List ℕ) {order : List ℕ} where
  malformed : {order' : List ℕ} → Spare order order' → sound_bundle least most s ≡ false → Indexes s least most order order' None
  unfolding bundle_answer
  malformed p h = record { space = p; answer = rw h; sorted = λ e. differ e h }

  pub index_unlaid : laid_bundle least most s ≡ false → Indexes s least most order order None
  index_unlaid h =
      malformed (record { long = refl })
      (split (sound_bundle least most s) (λ (e : sound_bundle least most s ≡ true). differ (sound_laid least most s e) h) (λ (e : sound_bundle least most s ≡ false). e))

  module _ (h : laid_bundle least most s ≡ true) {n : ℕ} (c : n ≡ number_at 0 4 s) {order' : List ℕ} {r : Bool} (x : SortsNames s n order order' r) where
    same : sound_bundle least most s ≡ r
    unfolding sound_bundle
    same = rw h (sym x.answer)

    pub index_twice : r ≡ false → Indexes s least most order order' None
    index_twice e = malformed x.space (same ∙ e)

    pub index_sound : most ≤ length order → r ≡ true → Indexes s least most order order' (Some n)
    unfolding bundle_answer
    index_sound m e =
        record {
          space = x.space;
          answer = rw (same, e, ← c);
          sorted = λ _. rw (← c)
              (record {
                laid = record { least = least; most = most; laid = h };
                count = c;
                room = omega (arith, laid_few least most s h, x.space.long);
                sorted = x.sorted e;
              });
        }
