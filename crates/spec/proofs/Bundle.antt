-- A bundle that is written is sound, and its names and texts are read back.
use Prim.Native.Nat.{ℕ, zero, suc, ◌+◌, ◌*◌, ◌≤◌, ◌<◌}
use mathlib.Core.Bool.{true, false}
use mathlib.Core.List.{List, [], ◌∷◌, ◌++◌, map, append_assoc, append-nil}
use mathlib.Core.Option.{some}
use mathlib.Core.Path.{◌≡◌, refl, sym, ◌∙◌, ap, ap₂}
use native.Mathlib.Omega.{arith}
use borrow.Author.Tests.{le-leb, eq-eqb}
use lib.ListN.{length, take, drop, get_or, length-append}
use lib.Seq.{take-append_seam, drop-append_seam, drop_at, drop-drop}
use Rattle.spec.specs.Basics.{concat}
use Rattle.spec.specs.Limits.{max_path}
use Rattle.spec.specs.Statements.{twice}
use Rattle.spec.specs.Card.{little_endian, in_bytes, number_at, sound_layout, card_names}
use Rattle.spec.specs.Bundle.{Extent, extent_at, extents_of, name_extents, text_extents, lying_at, bundle_names, bundle_texts, extents_end, sound_extents, laid_bundle, sound_bundle, BundleRecord, record_names, record_texts, body_of, records_bytes, bundled}

-- ---- numbers

number_first : (n : ℕ) (s : List ℕ) → n < 4294967296 → number_at 0 4 (in_bytes 4 n ++ s) ≡ n
unfolding number_at little_endian
number_first n s h = omega arith

-- ---- extents

-- pieces laid end to end from a place on
laid : ℕ → List (List ℕ) → List Extent
laid at [] = []
laid at (p ∷ ps) = record { offset = at; size = length p } ∷ laid (at + length p) ps

concat_cons : (p : List ℕ) (ps : List (List ℕ)) → length (concat (p ∷ ps)) ≡ length p + length (concat ps)
unfolding concat
concat_cons p ps = length-append p (concat ps)

-- They end where their bytes do.
end_laid : (least most at : ℕ) (ps : List (List ℕ)) → ((k : ℕ) → k < length ps → (least ≤ length (get_or ps k [])) × (length (get_or ps k []) ≤ most))
    → extents_end least most at (laid at ps) ≡ some (at + length (concat ps))
unfolding extents_end laid concat
end_laid least most at [] f = ap some (omega arith)
end_laid least most at (p ∷ ps) f =
    let g = f 0 (omega arith) in
    rw (eq-eqb at at refl, le-leb least (length p) g.0, le-leb (length p) most g.1)
    (end_laid least most (at + length p) ps (λ k h. f (suc k) (omega arith)) ∙ ap some (omega (arith, length-append p (concat ps))))

-- What lies at them are the pieces.
lying_laid : (s : List ℕ) (at : ℕ) (ps : List (List ℕ)) (rest : List ℕ) → drop at s ≡ concat ps ++ rest → map (lying_at s) (laid at ps) ≡ ps
unfolding laid lying_at concat
lying_laid s at [] rest h = refl
lying_laid s at (p ∷ ps) rest h =
    let e : drop at s ≡ p ++ (concat ps ++ rest) = h ∙ append_assoc p (concat ps) rest in
    ap₂ {C = List (List ℕ)} (λ x y. x ∷ y) (ap (take (length p)) e ∙ take-append_seam p (concat ps ++ rest))
    (lying_laid s (at + length p) ps rest (sym (drop-drop (length p) at s) ∙ ap (drop (length p)) e ∙ drop-append_seam p (concat ps ++ rest)))

-- ---- what is written

length_records : (at from : ℕ) (rs : List BundleRecord) → length (records_bytes at from rs) ≡ 16 * length rs
unfolding records_bytes
length_records at from [] = omega arith
length_records at from (r ∷ rs) = let h = length_records (at + length r.name) (from + length r.bytes) rs in omega arith

module _ (s : List ℕ) where
  names_written : (at from : ℕ) (rs : List BundleRecord) → at + length (concat (record_names rs)) < 4294967296
      → extents_of (length rs) (records_bytes at from rs ++ s) ≡ laid at (record_names rs)
  unfolding records_bytes extents_of extent_at laid record_names number_at
  names_written at from [] h = refl
  names_written at from (r ∷ rs) h =
      let c : length (concat (record_names (r ∷ rs))) ≡ length r.name + length (concat (record_names rs)) = concat_cons r.name (record_names rs) in
      let next = names_written (at + length r.name) (from + length r.bytes) rs (omega arith) in
      ap₂ {C = List Extent} (λ x y. x ∷ y)
      (ap₂ {C = Extent} (λ x y. record { offset = x; size = y }) (number_first at [] (omega arith)) (number_first (length r.name) [] (omega arith))) next

  texts_written : (at from : ℕ) (rs : List BundleRecord) → from + length (concat (record_texts rs)) < 4294967296
      → extents_of (length rs) (drop 8 (records_bytes at from rs ++ s)) ≡ laid from (record_texts rs)
  unfolding records_bytes extents_of extent_at laid record_texts number_at
  texts_written at from [] h = refl
  texts_written at from (r ∷ rs) h =
      let c : length (concat (record_texts (r ∷ rs))) ≡ length r.bytes + length (concat (record_texts rs)) = concat_cons r.bytes (record_texts rs) in
      let next = texts_written (at + length r.name) (from + length r.bytes) rs (omega arith) in
      ap₂ {C = List Extent} (λ x y. x ∷ y)
      (ap₂ {C = Extent} (λ x y. record { offset = x; size = y }) (number_first from [] (omega arith)) (number_first (length r.bytes) [] (omega arith))) next

-- ---- the law

-- records that a bundle can have
pub record Bundlable (least most : ℕ) (rs : List BundleRecord) : Type 0 where
  pub enough : least ≤ length rs
  pub few : length rs ≤ most
  pub named : (k : ℕ) → k < length (record_names rs) → (1 ≤ length (get_or (record_names rs) k [])) × (length (get_or (record_names rs) k []) ≤ max_path)
  pub once : twice (record_names rs) ≡ false
  pub short : 16 + 16 * length rs + length (body_of rs) < 4294967296

module _ (rs : List BundleRecord) (short : 16 + 16 * length rs + length (body_of rs) < 4294967296) where
  abbrev names : List (List ℕ)
  names = record_names rs

  abbrev texts : List (List ℕ)
  texts = record_texts rs

  abbrev total : ℕ
  total = 16 + 16 * length rs + length (body_of rs)

  body_is : body_of rs ≡ concat names ++ concat texts
  unfolding body_of
  body_is = refl

  length_body : length (body_of rs) ≡ length (concat names) + length (concat texts)
  length_body = ap length body_is ∙ length-append (concat names) (concat texts)

  abbrev behind : List ℕ
  behind = records_bytes 0 (length (concat names)) rs ++ body_of rs

  length_behind : length behind ≡ 16 * length rs + length (body_of rs)
  length_behind = length-append (records_bytes 0 (length (concat names)) rs) (body_of rs) ∙ ap (λ (n : ℕ). n + length (body_of rs)) (length_records 0 (length (concat names)) rs)

  length_bundled : length (bundled rs) ≡ total
  unfolding bundled
  length_bundled = let h = length_behind in omega arith

  count_is : number_at 0 4 (bundled rs) ≡ length rs
  unfolding bundled number_at
  count_is = number_first (length rs) [] (omega arith)

  records_at : number_at 4 4 (bundled rs) ≡ 16
  unfolding bundled number_at
  records_at = number_first 16 [] (omega arith)

  names_at : number_at 8 4 (bundled rs) ≡ 16 + 16 * length rs
  unfolding bundled number_at
  names_at = number_first (16 + 16 * length rs) [] (omega arith)

  total_is : number_at 12 4 (bundled rs) ≡ total
  unfolding bundled number_at
  total_is = number_first total [] (omega arith)

  layout_sound : sound_layout (bundled rs) ≡ true
  unfolding sound_layout
  layout_sound =
      rw (count_is, records_at, names_at, total_is, length_bundled, le-leb 16 total (omega arith), eq-eqb 16 16 refl, eq-eqb (16 + 16 * length rs) (16 + 16 * length rs) refl, eq-eqb total total refl)
      (le-leb (16 + 16 * length rs) total (omega arith))

  body_at : card_names (bundled rs) ≡ body_of rs
  unfolding card_names bundled
  body_at =
      ap (λ (n : ℕ). drop (16 + 16 * n) (bundled rs)) count_is ∙ sym (drop-drop (16 * length rs) 16 (bundled rs))
      ∙ drop_at (records_bytes 0 (length (concat names)) rs) (body_of rs) (16 * length rs) (length_records 0 (length (concat names)) rs)

  name_extents_law : name_extents (bundled rs) ≡ laid 0 names
  unfolding name_extents bundled
  name_extents_law =
      ap (λ (n : ℕ). extents_of n behind) count_is ∙ names_written (body_of rs) 0 (length (concat names)) rs (omega (arith, length_body))

  text_extents_law : text_extents (bundled rs) ≡ laid (length (concat names)) texts
  unfolding text_extents bundled
  text_extents_law =
      ap (λ (n : ℕ). extents_of n (drop 8 behind)) count_is ∙ texts_written (body_of rs) 0 (length (concat names)) rs (omega (arith, length_body))

  -- Names and texts are read back.
  pub names_back : bundle_names (bundled rs) ≡ record_names rs
  unfolding bundle_names
  names_back = rw (body_at, name_extents_law) (lying_laid (body_of rs) 0 names (concat texts) body_is)

  pub texts_back : bundle_texts (bundled rs) ≡ record_texts rs
  unfolding bundle_texts
  texts_back =
      rw (body_at, text_extents_law)
      (lying_laid (body_of rs) (length (concat names)) texts []
      (ap (drop (length (concat names))) body_is ∙ drop-append_seam (concat names) (concat texts) ∙ sym (append-nil (concat texts))))

piece_within : (ps : List (List ℕ)) (k : ℕ) → k < length ps → length (get_or ps k []) ≤ length (concat ps)
piece_within [] k h = absurd (omega arith)
piece_within (p ∷ ps) zero h = omega (arith, concat_cons p ps)
piece_within (p ∷ ps) (suc k) h = let w = piece_within ps k (omega arith) in omega (arith, concat_cons p ps)

module _ (s : List ℕ) where
  -- The rules in a row, each with what the one before it gives.
  pub extents_sound : {t e : ℕ} → extents_end 1 max_path 0 (name_extents s) ≡ some t → extents_end 0 (length s) t (text_extents s) ≡ some e → e ≡ length (card_names s) → sound_extents s ≡ true
  unfolding sound_extents
  extents_sound {t} {e} f g h = rw (f, g) (eq-eqb e (length (card_names s)) h)

  pub laid_sound : {least most : ℕ} → sound_layout s ≡ true → least ≤ number_at 0 4 s → number_at 0 4 s ≤ most → sound_extents s ≡ true → laid_bundle least most s ≡ true
  unfolding laid_bundle
  laid_sound {least} {most} l f g h = rw (l, le-leb least (number_at 0 4 s) f, le-leb (number_at 0 4 s) most g) h

  pub bundle_sound : (least most : ℕ) → laid_bundle least most s ≡ true → twice (bundle_names s) ≡ false → sound_bundle least most s ≡ true
  unfolding sound_bundle
  bundle_sound least most l o = rw (l, o)

pub bundled_sound : {least most : ℕ} {rs : List BundleRecord} → Bundlable least most rs → sound_bundle least most (bundled rs) ≡ true
bundled_sound {least} {most} {rs} b =
    let c = count_is rs b.short in
    let z = length_body rs b.short in
    bundle_sound (bundled rs) least most
    (laid_sound (bundled rs) (layout_sound rs b.short) (rw c b.enough) (rw c b.few)
    (extents_sound (bundled rs)
    (ap (extents_end 1 max_path 0) (name_extents_law rs b.short) ∙ end_laid 1 max_path 0 (record_names rs) b.named ∙ ap some (omega arith))
    (ap (extents_end 0 (length (bundled rs)) (length (concat (record_names rs)))) (text_extents_law rs b.short)
    ∙ end_laid 0 (length (bundled rs)) (length (concat (record_names rs))) (record_texts rs) (λ k h. (omega arith, omega (arith, piece_within (record_texts rs) k h, length_bundled rs b.short))))
    (sym (ap length (body_at rs b.short) ∙ z))))
    (rw (names_back rs b.short) b.once)
