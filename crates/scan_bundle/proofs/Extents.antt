-- Extents by their places in the bytes, and end to end.
use Prim.Native.Nat.{ℕ, zero, suc, ◌+◌, ◌*◌, ◌≤◌, ◌<◌}
use mathlib.Core.Bool.{Bool, true, false, ◌&&◌}
use mathlib.Core.List.{List, [], ◌∷◌}
use mathlib.Core.Option.{none, some, none-ne-some, some-injective}
use mathlib.Core.Path.{◌≡◌, refl, sym, ◌∙◌, ap}
use native.Mathlib.Nat.{not-suc-le-zero, le_of_suc-le-suc}
use native.Mathlib.Omega.{arith}
use borrow.Author.Tests.{le-leb, eq-eqb, leb-true, eqb-true}
use lib.Dec.{eqb, leb}
use lib.ListN.{length, drop, get_or}
use lib.Seq.{drop-drop}
use Rattle.lists.specs.Tests.{split, and_left, and_right}
use Rattle.spec.specs.Limits.{max_path}
use Rattle.spec.specs.Bundle.{Extent, extent_at, extents_of, extents_end}

abbrev pub no_extent : Extent
no_extent = record { offset = 0; size = 0 }

-- ---- by place

extent_drop : (s : List ℕ) (p : ℕ) → extent_at 0 (drop p s) ≡ extent_at p s
unfolding extent_at
extent_drop s p = rw (drop-drop 4 p s)

pub extents_cons : (s : List ℕ) (p m : ℕ) → extents_of (suc m) (drop p s) ≡ extent_at p s ∷ extents_of m (drop (p + 16) s)
unfolding extents_of
extents_cons s p m = rw (← extent_drop s p, drop-drop 16 p s)

pub length_extents : (n : ℕ) (s : List ℕ) → length (extents_of n s) ≡ n
unfolding extents_of
length_extents zero s = refl
length_extents (suc n) s = ap suc (length_extents n (drop 16 s))

pub extent_is : (s : List ℕ) (p n k : ℕ) → k < n → get_or (extents_of n (drop p s)) k no_extent ≡ extent_at (p + 16 * k) s
extent_is s p zero k h = absurd (not-suc-le-zero h)
extent_is s p (suc n) zero h = let z : p + 16 * 0 ≡ p = omega arith in rw (extents_cons s p n, z)
extent_is s p (suc n) (suc k) h = let z : p + 16 * suc k ≡ p + 16 + 16 * k = omega arith in rw (extents_cons s p n, z) (extent_is s (p + 16) n k (le_of_suc-le-suc h))

-- ---- end to end

-- the rules for one extent
pub record Fits (least most at : ℕ) (e : Extent) : Type 0 where
  pub starts : e.offset ≡ at
  pub enough : least ≤ e.size
  pub few : e.size ≤ most

abbrev pub fitting : ℕ → ℕ → ℕ → Extent → Bool
fitting least most at e = eqb e.offset at && leb least e.size && leb e.size most

pub fits : (least most at : ℕ) (e : Extent) → fitting least most at e ≡ true → Fits least most at e
fits least most at e h =
    let a = eqb e.offset at in
    let b = leb least e.size in
    let c = leb e.size most in
    let hb = and_left (a && b) c h in
    record {
      starts = eqb-true e.offset at (and_left a b hb);
      enough = leb-true least e.size (and_right a b hb);
      few = leb-true e.size most (and_right (a && b) c h);
    }

pub fit : {least most at : ℕ} {e : Extent} → Fits least most at e → fitting least most at e ≡ true
fit f = rw (eq-eqb _ _ f.starts, le-leb _ _ f.enough, le-leb _ _ f.few)

pub end_none : (least most at : ℕ) → extents_end least most at [] ≡ some at
unfolding extents_end
end_none least most at = refl

module _ (least most at : ℕ) (e : Extent) (es : List Extent) where
  pub end_on : fitting least most at e ≡ true → extents_end least most at (e ∷ es) ≡ extents_end least most (at + e.size) es
  unfolding extents_end
  end_on h = rw h

  pub end_off : fitting least most at e ≡ false → extents_end least most at (e ∷ es) ≡ none
  unfolding extents_end
  end_off h = rw h

-- what is known of extents that end
pub record Step (least most at : ℕ) (e : Extent) (es : List Extent) (t : ℕ) : Type 0 where
  pub fits : Fits least most at e
  pub rest : extents_end least most (at + e.size) es ≡ some t

pub step : (least most at : ℕ) (e : Extent) (es : List Extent) (t : ℕ) → extents_end least most at (e ∷ es) ≡ some t → Step least most at e es t
step least most at e es t h =
    split (fitting least most at e)
    (λ (f : fitting least most at e ≡ true). record { fits = fits least most at e f; rest = sym (end_on least most at e es f) ∙ h })
    (λ (f : fitting least most at e ≡ false). absurd (none-ne-some t (sym (end_off least most at e es f) ∙ h)))

pub ended : (least most at t : ℕ) → extents_end least most at [] ≡ some t → at ≡ t
ended least most at t h = some-injective at t (sym (end_none least most at) ∙ h)

pub end_forward : (least most at : ℕ) (es : List Extent) (t : ℕ) → extents_end least most at es ≡ some t → at ≤ t
end_forward least most at [] t h = omega (arith, ended least most at t h)
end_forward least most at (e ∷ es) t h = let g = end_forward least most (at + e.size) es t (step least most at e es t h).rest in omega arith

-- each ends by then
pub end_within : (least most at : ℕ) (es : List Extent) (t : ℕ) → extents_end least most at es ≡ some t → (k : ℕ) → k < length es
    → (get_or es k no_extent).offset + (get_or es k no_extent).size ≤ t
end_within least most at [] t h k l = absurd (not-suc-le-zero l)
end_within least most at (e ∷ es) t h zero l =
    let x = step least most at e es t h in
    let g = end_forward least most (at + e.size) es t x.rest in
    omega (arith, x.fits.starts)
end_within least most at (e ∷ es) t h (suc k) l = end_within least most (at + e.size) es t (step least most at e es t h).rest k (le_of_suc-le-suc l)

-- names are short, and so they end soon
pub names_end : (at : ℕ) (es : List Extent) (t : ℕ) → extents_end 1 max_path at es ≡ some t → t ≤ at + 255 * length es
names_end at [] t h = omega (arith, ended 1 max_path at t h)
names_end at (e ∷ es) t h =
    let x = step 1 max_path at e es t h in
    let g = names_end (at + e.size) es t x.rest in
    omega (arith, x.fits.few)
