-- The record of a name, looked for from the first one on.
use Rattle.std.specs.Prelude.{Some, None}
use Prim.Native.Nat.{ℕ, suc, ◌+◌, ◌≤◌, ◌<◌}
use mathlib.Core.Bool.{true, false}
use mathlib.Core.List.{List, []}
use mathlib.Core.Path.{◌≡◌, sym, ◌∙◌, ap}
use native.Mathlib.Numerals.{add-one}
use native.Mathlib.Omega.{arith}
use lib.ListN.{length, drop, get_or, drop_of_length-le}
use lib.Seq.{drop-cons}
use Rattle.lists.specs.Tests.{if_b}
use Rattle.lists.specs.Bytes.{eq_bytes}
use Rattle.spec.specs.Basics.{among}
use Rattle.spec.specs.Reading.{number_of}
use Rattle.spec.specs.Card.{number_at}
use Rattle.spec.specs.Bundle.{bundle_names}
use Rattle.spec.proofs.Numbers.{among_none, among_here, among_there, number_here, number_there}
use Rattle.scan_bundle.specs.Bundles.{LaidBundle, found_record}
use Rattle.scan_bundle.proofs.Lying.{length_names, laid_room}

-- ---- the records

pub head_room : (s : List ℕ) → LaidBundle s → 4 ≤ length s
head_room s l = omega (arith, laid_room s l)

pub name_below : (s : List ℕ) {n k : ℕ} → n ≡ number_at 0 4 s → k < n → k < length (bundle_names s)
name_below s e h = omega (arith, length_names s)

pub names_end : (s : List ℕ) {n k : ℕ} → n ≡ number_at 0 4 s → n ≤ k → length (bundle_names s) ≤ k
names_end s e h = omega (arith, length_names s)

-- ---- the loop

-- none of the first k names is p
pub record NoneYet (names : List (List ℕ)) (p : List ℕ) (k : ℕ) : Type 0 where
  pub rest : found_record p names ≡ if_b (among p (drop k names)) (λ _. Some (k + number_of p (drop k names))) (λ _. None)

pub none_begin : (names : List (List ℕ)) (p : List ℕ) → NoneYet names p 0
unfolding found_record
none_begin names p = let z : 0 + number_of p names ≡ number_of p names = omega arith in record { rest = rw z }

module _ {names : List (List ℕ)} {p : List ℕ} {k : ℕ} (g : NoneYet names p k) where
  pub none_end : length names ≤ k → None ≡ found_record p names
  none_end h = sym (g.rest ∙ rw (drop_of_length-le names {i = k} h, among_none p))

  -- y is the name of record k
  module _ (h : k < length names) {y : List ℕ} (e : y ≡ get_or names k []) where
    pub none_here : eq_bytes p y ≡ true → Some k ≡ found_record p names
    none_here q =
        let here : eq_bytes p (get_or names k []) ≡ true = ap (eq_bytes p) (sym e) ∙ q in
        let z : k + 0 ≡ k = omega arith in
        sym
        (g.rest
        ∙ rw
        (drop-cons names k [] h, among_here p (get_or names k []) (drop (suc k) names) here, number_here p (get_or names k []) (drop (suc k) names) here, z))

    pub none_on : eq_bytes p y ≡ false → NoneYet names p (k + 1)
    none_on q =
        let there : eq_bytes p (get_or names k []) ≡ false = ap (eq_bytes p) (sym e) ∙ q in
        let z : k + suc (number_of p (drop (suc k) names)) ≡ suc k + number_of p (drop (suc k) names) = omega arith in
        record {
          rest =
              g.rest
              ∙ rw
              (drop-cons names k [] h, among_there p (get_or names k []) (drop (suc k) names) there, number_there p (get_or names k []) (drop (suc k) names) there, add-one, z);
        }
