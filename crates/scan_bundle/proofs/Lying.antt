-- Where names and texts lie in the bytes of a bundle that is laid out.
use Prim.Native.Nat.{ℕ, zero, suc, ◌+◌, ◌-◌, ◌*◌, ◌≤◌, ◌<◌}
use mathlib.Core.Bool.{Bool, true, false, ◌&&◌}
use mathlib.Core.List.{List, [], ◌∷◌, map}
use mathlib.Core.Option.{Option, none, some}
use mathlib.Core.Path.{◌≡◌, refl, ◌∙◌, ap}
use native.Mathlib.Nat.{not-suc-le-zero, le_of_suc-le-suc}
use native.Mathlib.Omega.{arith}
use borrow.Author.Tests.{leb-true, eqb-true}
use lib.Dec.{leb}
use lib.ListN.{length, drop, get_or, length-drop, length-map}
use lib.Seq.{drop-drop}
use Rattle.lists.specs.Tests.{split, differ, and_left, and_right}
use Rattle.lists.specs.Parts.{part}
use Rattle.spec.specs.Limits.{max_path}
use Rattle.spec.specs.Card.{number_at, sound_layout, card_names}
use Rattle.spec.specs.Bundle.{extent_at, name_extents, text_extents, lying_at, bundle_names, bundle_texts, extents_end, sound_extents, laid_bundle}
use Rattle.scan_card.proofs.Rules.{Layout, layout}
use Rattle.scan_bundle.specs.Bundles.{LaidBundle, LiesAt}
use Rattle.scan_bundle.proofs.Extents.{no_extent, extent_is, length_extents, end_forward, end_within}

-- ---- a bundle that is laid out, by its rules

-- names end to end up to a place, and texts from there to the end
pub record Extended (s : List ℕ) : Type 0 where
  pub named : ℕ
  pub names : extents_end 1 max_path 0 (name_extents s) ≡ some named
  pub texts : extents_end 0 (length s) named (text_extents s) ≡ some (length (card_names s))

pub by_option : {A : Type 0} (o : Option ℕ) → (o ≡ none → A) → ((x : ℕ) → o ≡ some x → A) → A
by_option none f g = f refl
by_option (some x) f g = g x refl

pub extended : (s : List ℕ) → sound_extents s ≡ true → Extended s
unfolding sound_extents
extended s h =
    by_option (extents_end 1 max_path 0 (name_extents s))
    (λ (e : extents_end 1 max_path 0 (name_extents s) ≡ none). differ (rw e at h) refl)
    (λ t (e : extents_end 1 max_path 0 (name_extents s) ≡ some t).
    by_option (extents_end 0 (length s) t (text_extents s))
    (λ (f : extents_end 0 (length s) t (text_extents s) ≡ none). differ (rw (e, f) at h) refl)
    (λ x (f : extents_end 0 (length s) t (text_extents s) ≡ some x).
    let q : x ≡ length (card_names s) = eqb-true x (length (card_names s)) (rw (e, f) at h) in
    record { named = t; names = e; texts = f ∙ ap some q }))

abbrev headed : ℕ → ℕ → List ℕ → Bool
headed least most s = sound_layout s && leb least (number_at 0 4 s) && leb (number_at 0 4 s) most

module _ (least most : ℕ) (s : List ℕ) (h : laid_bundle least most s ≡ true) where
  laid_header : headed least most s ≡ true
  unfolding laid_bundle
  laid_header = split (headed least most s) (λ (e : headed least most s ≡ true). e) (λ (e : headed least most s ≡ false). differ (rw e at h) refl)

  pub laid_layout : sound_layout s ≡ true
  laid_layout = and_left (sound_layout s) (leb least (number_at 0 4 s)) (and_left (sound_layout s && leb least (number_at 0 4 s)) (leb (number_at 0 4 s) most) laid_header)

  pub laid_few : number_at 0 4 s ≤ most
  laid_few = leb-true (number_at 0 4 s) most (and_right (sound_layout s && leb least (number_at 0 4 s)) (leb (number_at 0 4 s) most) laid_header)

  pub laid_enough : least ≤ number_at 0 4 s
  laid_enough = leb-true least (number_at 0 4 s) (and_right (sound_layout s) (leb least (number_at 0 4 s)) (and_left (sound_layout s && leb least (number_at 0 4 s)) (leb (number_at 0 4 s) most) laid_header))

  pub laid_extents : sound_extents s ≡ true
  unfolding laid_bundle
  laid_extents = rw laid_header at h

-- ---- names and texts by number

pub get_d_map : {A B : Type 0} (f : A → B) (l : List A) (k : ℕ) (d : A) (e : B) → k < length l → get_or (map f l) k e ≡ f (get_or l k d)
get_d_map f [] k d e h = absurd (not-suc-le-zero h)
get_d_map f (x ∷ l) zero d e h = refl
get_d_map f (x ∷ l) (suc k) d e h = get_d_map f l k d e (le_of_suc-le-suc h)

module _ (s : List ℕ) where
  pub length_name_extents : length (name_extents s) ≡ number_at 0 4 s
  unfolding name_extents
  length_name_extents = length_extents (number_at 0 4 s) (drop 16 s)

  pub length_text_extents : length (text_extents s) ≡ number_at 0 4 s
  unfolding text_extents
  length_text_extents = length_extents (number_at 0 4 s) (drop 24 s)

  pub length_names : length (bundle_names s) ≡ number_at 0 4 s
  unfolding bundle_names
  length_names = length-map (name_extents s) (lying_at (card_names s)) ∙ length_name_extents

  pub length_texts : length (bundle_texts s) ≡ number_at 0 4 s
  unfolding bundle_texts
  length_texts = length-map (text_extents s) (lying_at (card_names s)) ∙ length_text_extents

  module _ (k : ℕ) (h : k < number_at 0 4 s) where
    name_extent : get_or (name_extents s) k no_extent ≡ extent_at (16 + 16 * k) s
    unfolding name_extents
    name_extent = extent_is s 16 (number_at 0 4 s) k h

    pub text_extent : get_or (text_extents s) k no_extent ≡ extent_at (24 + 16 * k) s
    unfolding text_extents
    text_extent = extent_is s 24 (number_at 0 4 s) k h

    pub name_at_law : get_or (bundle_names s) k [] ≡ lying_at (card_names s) (extent_at (16 + 16 * k) s)
    unfolding bundle_names
    name_at_law = get_d_map (lying_at (card_names s)) (name_extents s) k no_extent [] (omega (arith, length_name_extents)) ∙ ap (lying_at (card_names s)) name_extent

    pub text_at : get_or (bundle_texts s) k [] ≡ lying_at (card_names s) (extent_at (24 + 16 * k) s)
    unfolding bundle_texts
    text_at = get_d_map (lying_at (card_names s)) (text_extents s) k no_extent [] (omega (arith, length_text_extents)) ∙ ap (lying_at (card_names s)) text_extent

-- ---- within the bundle

-- record k lies within the bundle, its name and its text too
pub record RecordLies (s : List ℕ) (k : ℕ) : Type 0 where
  pub within : k < number_at 0 4 s
  pub room : 16 + 16 * number_at 0 4 s ≤ length s
  pub name : LiesAt s (16 + 16 * k)
  pub text : LiesAt s (24 + 16 * k)

pub laid_room : (s : List ℕ) → LaidBundle s → 16 + 16 * number_at 0 4 s ≤ length s
laid_room s l = let y : Layout s = layout (laid_layout l.least l.most s l.laid) in omega arith

pub laid_ends : (s : List ℕ) → LaidBundle s → Extended s
laid_ends s l = extended s (laid_extents l.least l.most s l.laid)

pub length_body : (s : List ℕ) → length (card_names s) ≡ length s - (16 + 16 * number_at 0 4 s)
unfolding card_names
length_body s = length-drop (16 + 16 * number_at 0 4 s) s

pub record_lies : (s : List ℕ) → LaidBundle s → (k : ℕ) → k < number_at 0 4 s → RecordLies s k
unfolding extent_at
record_lies s l k h =
    let r = laid_room s l in
    let x = laid_ends s l in
    let a = rw (name_extent s k h) at (end_within 1 max_path 0 (name_extents s) x.named x.names k (omega (arith, length_name_extents s))) in
    let b = rw (text_extent s k h) at (end_within 0 (length s) x.named (text_extents s) (length (card_names s)) x.texts k (omega (arith, length_text_extents s))) in
    let c = end_forward 0 (length s) x.named (text_extents s) (length (card_names s)) x.texts in
    let d = length_body s in
    record {
      within = h;
      room = r;
      name = record { header = omega arith; here = omega arith; room = omega arith };
      text = record { header = omega arith; here = omega arith; room = omega arith };
    }

-- what `part_at` cuts out
pub part_lies : (s : List ℕ) (p : ℕ) {n from size : ℕ} → n ≡ number_at 0 4 s → from ≡ number_at p 4 s → size ≡ number_at (p + 4) 4 s
    → part s (16 + 16 * n + from) (16 + 16 * n + from + size) ≡ lying_at (card_names s) (extent_at p s)
unfolding lying_at extent_at card_names
part_lies s p {n} {from} {size} a b c =
    let z : 16 + 16 * n + from + size - (16 + 16 * n + from) ≡ size = omega arith in
    rw (z, ← a, ← b, ← c, drop-drop from (16 + 16 * n) s)
