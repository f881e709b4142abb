-- What is found of a step's depfile, by what the bundle has.
use Rattle.std.specs.Prelude.{Option, Some, None}
use Prim.Native.Nat.{ℕ, ◌≤◌, ◌<◌}
use mathlib.Core.Bool.{true, false}
use mathlib.Core.List.{List, [], ◌∷◌}
use mathlib.Core.Option.{none}
use mathlib.Core.Path.{◌≡◌, refl, sym, ◌∙◌, subst}
use native.Mathlib.Omega.{arith}
use lib.ListN.{length}
use Rattle.spec.specs.declared.Refusal.TheVariants.{BadHeaders}
use Rattle.spec.specs.Basics.{is_empty, or_else, among}
use Rattle.spec.specs.Bundle.{bundle_names}
use Rattle.spec.specs.Card.{number_at}
use Rattle.spec.specs.Reading.{Reading, number_of}
use Rattle.spec.specs.Headers.{depfile_lists, bad_depfile, first_output, depfile_named}
use Rattle.depfile.specs.Depfile.{depfile_rule, listed_for}
use Rattle.hold_names.specs.Table.{NamesFile}
use Rattle.spec.proofs.Numbers.{number_below}
use Rattle.scan_bundle.specs.Bundles.{found_record}
use Rattle.scan_bundle.proofs.Laws.{found_at, found_none}
use Rattle.scan_bundle.proofs.Lying.{length_names}
use Rattle.scan_depfile.specs.Answers.{ListedFrom}
use Rattle.ask_header_list.specs.declared.DepfilePlace.{DepfilePlace}
use Rattle.ask_header_list.specs.declared.DepfilePlace.TheVariants.{Unnamed, Absent, Lists, Malformed}
use Rattle.ask_header_list.specs.Finds.{StartsAt, list_text_in, DepfileFor, FindsDepfile}

empty_is : (n : List ℕ) → length n ≡ 0 → is_empty n ≡ true
empty_is [] h = refl
empty_is (b ∷ n) h = absurd (omega arith)

full_is : (n : List ℕ) → (length n ≡ 0 → ⊥) → is_empty n ≡ false
full_is [] h = absurd (h refl)
full_is (b ∷ n) h = refl

-- ---- where the names of a text start

module _ (text out : List ℕ) (k : ℕ) where
  pub starts_at : {from : ℕ} → ListedFrom text out from → StartsAt text out k (Lists k from)
  unfolding StartsAt
  starts_at l = (refl, l)

  pub starts_not : listed_for out (depfile_rule text) ≡ none → StartsAt text out k Malformed
  unfolding StartsAt
  starts_not e = e

-- ---- by the name

module _ (headers : List ℕ) (rd : Reading) (s : ℕ) (name : List ℕ) where
  for_unnamed : length name ≡ 0 → DepfileFor headers rd s name Unnamed
  unfolding DepfileFor depfile_named
  for_unnamed h = rw (empty_is name h)

  module _ (full : length name ≡ 0 → ⊥) where
    for_absent : among name (bundle_names headers) ≡ false → DepfileFor headers rd s name Absent
    unfolding DepfileFor depfile_named
    for_absent a = rw (full_is name full, a)

    by_text : among name (bundle_names headers) ≡ true
        → depfile_named headers rd s name ≡ or_else (listed_for (first_output rd s) (depfile_rule (list_text_in headers (number_of name (bundle_names headers))))) depfile_lists (λ _. bad_depfile (BadHeaders s))
    unfolding depfile_named
    by_text a = rw (full_is name full, a)

    for_text : {k : ℕ} (r : DepfilePlace) → among name (bundle_names headers) ≡ true → k ≡ number_of name (bundle_names headers) → {out : List ℕ} → first_output rd s ≡ out
        → StartsAt (list_text_in headers k) out k r → DepfileFor headers rd s name r
    unfolding DepfileFor StartsAt
    for_text Unnamed a q o x = absurd x
    for_text Absent a q o x = absurd x
    for_text {k} (Lists j from) a q o x =
        let z : j ≡ k = x.0 in
        let l = x.1 in
        let n = number_below name (bundle_names headers) a in
        record {
          low = omega (arith, n, length_names headers);
          within = subst (λ (i : ℕ). from ≤ length (list_text_in headers i)) (sym z) l.within;
          found = by_text a ∙ rw (← q, o, l.names, z);
        }
    for_text {k} Malformed a q o x = by_text a ∙ rw (← q, o, x)

pub find_low : (headers name : List ℕ) {r : Option ℕ} → r ≡ found_record name (bundle_names headers) → {k : ℕ} → r ≡ Some k → k < number_at 0 4 headers
find_low headers name x e =
    let (a, q) = found_at name (bundle_names headers) x e in
    omega (arith, number_below name (bundle_names headers) a, length_names headers)

module _ {headers name names index : List ℕ} {files out : ℕ} where
  pub find_unnamed : length name ≡ 0 → FindsDepfile headers name names index files out Unnamed
  find_unnamed h = record { finds = λ paths w rd s o. for_unnamed headers rd s name h }

  module _ (full : length name ≡ 0 → ⊥) {r : Option ℕ} (x : r ≡ found_record name (bundle_names headers)) where
    pub find_absent : r ≡ None → FindsDepfile headers name names index files out Absent
    find_absent e = record { finds = λ paths w rd s o. for_absent headers rd s name full (found_none name (bundle_names headers) x e) }

    pub find_text : {k : ℕ} {text path : List ℕ} {p : DepfilePlace} → r ≡ Some k → text ≡ list_text_in headers k → NamesFile names index files out path → StartsAt text path k p
        → FindsDepfile headers name names index files out p
    find_text {k} {text} {path} {p} e t n l =
        let (a, q) = found_at name (bundle_names headers) x e in
        record {
          finds = λ paths w rd s o.
              for_text headers rd s name full p a q (o ∙ sym (n.answer paths w)) (subst (λ (b : List ℕ). StartsAt b path k p) t l);
        }
