-- What a caller learns from each answer.
use Rattle.std.specs.Option.{is_some}
use Rattle.std.specs.Prelude.{Option, Some, None}
use Prim.Native.Nat.{ℕ, ◌≤◌}
use mathlib.Core.Bool.{true, false}
use mathlib.Core.List.{List}
use mathlib.Core.Path.{◌≡◌, sym, ◌∙◌, subst, ap}
use Rattle.lists.specs.Tests.{split}
use Rattle.spec.specs.Basics.{among}
use Rattle.spec.specs.Reading.{number_of}
use Rattle.spec.specs.Card.{number_at}
use Rattle.spec.specs.Bundle.{sound_bundle}
use Rattle.hold_names.proofs.Halving.{clash}
use Rattle.scan_bundle.specs.Bundles.{LaidBundle, BundleIndexed, Indexes, bundle_answer, found_record}
use Rattle.scan_bundle.proofs.Lying.{laid_few}
use Rattle.scan_bundle.proofs.Checking.{sound_laid}

pub sound_is_laid : (least most : ℕ) (s : List ℕ) → sound_bundle least most s ≡ true → LaidBundle s
sound_is_laid least most s h = record { least = least; most = most; laid = sound_laid least most s h }

pub sound_few : (least most : ℕ) (s : List ℕ) → sound_bundle least most s ≡ true → number_at 0 4 s ≤ most
sound_few least most s h = laid_few least most s (sound_laid least most s h)

-- a sound bundle, with its records sorted
pub record Opened (s : List ℕ) (least most : ℕ) (order : List ℕ) (n : ℕ) : Type 0 where
  pub sound : sound_bundle least most s ≡ true
  pub indexed : BundleIndexed s n order

module _ {s : List ℕ} {least most : ℕ} {order order' : List ℕ} {r : Option ℕ} (x : Indexes s least most order order' r) where
  pub opened : {n : ℕ} → r ≡ Some n → Opened s least most order' n
  unfolding bundle_answer
  opened {n} e =
      let a : bundle_answer least most s ≡ Some n = sym x.answer ∙ e in
      split (sound_bundle least most s)
      (λ (h : sound_bundle least most s ≡ true).
      let b : Some (number_at 0 4 s) ≡ Some n = rw h at a in
      let c : number_at 0 4 s ≡ n = cc in
      record { sound = h; indexed = subst (λ (m : ℕ). BundleIndexed s m order') c (x.sorted h) })
      (λ (h : sound_bundle least most s ≡ false). let b : None ≡ Some n = rw h at a in clash (cc))

  pub sound_is : is_some r ≡ sound_bundle least most s
  unfolding bundle_answer
  sound_is =
      ap is_some x.answer
      ∙ split (sound_bundle least most s) (λ (h : sound_bundle least most s ≡ true). rw h) (λ (h : sound_bundle least most s ≡ false). rw h)

  pub malformed_is : r ≡ None → sound_bundle least most s ≡ false
  unfolding bundle_answer
  malformed_is e =
      let a : bundle_answer least most s ≡ None = sym x.answer ∙ e in
      split (sound_bundle least most s)
      (λ (h : sound_bundle least most s ≡ true). let b : Some (number_at 0 4 s) ≡ None = rw h at a in clash (cc))
      (λ (h : sound_bundle least most s ≡ false). h)

module _ (p : List ℕ) (names : List (List ℕ)) {r : Option ℕ} (x : r ≡ found_record p names) where
  pub found_at : {k : ℕ} → r ≡ Some k → (among p names ≡ true) × (k ≡ number_of p names)
  unfolding found_record
  found_at {k} e =
      let a : found_record p names ≡ Some k = sym x ∙ e in
      split (among p names)
      (λ (h : among p names ≡ true). let b : Some (number_of p names) ≡ Some k = rw h at a in let c : k ≡ number_of p names = cc in (h, c))
      (λ (h : among p names ≡ false). let b : None ≡ Some k = rw h at a in clash (cc))

  pub found_none : r ≡ None → among p names ≡ false
  unfolding found_record
  found_none e =
      let a : found_record p names ≡ None = sym x ∙ e in
      split (among p names)
      (λ (h : among p names ≡ true). let b : Some (number_of p names) ≡ None = rw h at a in clash (cc))
      (λ (h : among p names ≡ false). h)
