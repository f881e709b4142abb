-- The walk over extents: a turn of it, and its ends.
use Rattle.std.specs.Prelude.{Option as StdOption, Some, None}
use Prim.Native.Nat.{ℕ, suc, ◌+◌, ◌-◌, ◌*◌, ◌≤◌, ◌<◌}
use mathlib.Core.List.{List, ◌∷◌}
use mathlib.Core.Option.{Option}
use mathlib.Core.Path.{◌≡◌, sym, ◌∙◌, ap}
use native.Mathlib.Omega.{arith}
use lib.ListN.{drop}
use Rattle.spec.specs.Basics.{or_else}
use Rattle.spec.specs.Bundle.{Extent, extent_at, extents_of, extents_end}
use Rattle.scan_card.proofs.Rules.{refuted}
use Rattle.scan_bundle.specs.Bundles.{run_of}
use Rattle.scan_bundle.proofs.Extents.{extents_cons, Fits, fitting, fits, fit, end_none, end_on, end_off}

abbrev answered : Option ℕ → StdOption ℕ
answered o = or_else o (λ e. Some e) (λ _. None)

-- what the extents from k on say
abbrev left : List ℕ → ℕ → ℕ → ℕ → List Extent
left s n first k = extents_of (n - k) (drop (first + 16 * k) s)

pub record Running (s : List ℕ) (n first start least most end k : ℕ) : Type 0 where
  pub within : k ≤ n
  pub small : end ≤ start + k * 4294967296
  pub rest : run_of least most start n first s ≡ answered (extents_end least most end (left s n first k))

pub run_begin : (s : List ℕ) (n first start least most : ℕ) → Running s n first start least most start 0
unfolding run_of
run_begin s n first start least most =
    let a : n - 0 ≡ n = omega arith in
    let b : first + 16 * 0 ≡ first = omega arith in
    record { within = omega arith; small = omega arith; rest = rw (a, b) }

left_cons : (s : List ℕ) (n first k : ℕ) → k < n → left s n first k ≡ extent_at (first + 16 * k) s ∷ left s n first (k + 1)
left_cons s n first k h =
    let a : n - k ≡ suc (n - (k + 1)) = omega arith in
    let b : first + 16 * k + 16 ≡ first + 16 * (k + 1) = omega arith in
    rw (a, extents_cons s (first + 16 * k) (n - (k + 1)), b)

module _ {s : List ℕ} {n first start least most end k : ℕ} (r : Running s n first start least most end k) where
  pub run_end : n ≤ k → Some end ≡ run_of least most start n first s
  unfolding extents_of
  run_end h =
      let a : n - k ≡ 0 = omega arith in
      sym (r.rest ∙ rw a (ap answered (end_none least most end)))

  module _ (l : k < n) where
    abbrev here : Extent
    here = extent_at (first + 16 * k) s

    abbrev on : List Extent
    on = left s n first (k + 1)

    opened : run_of least most start n first s ≡ answered (extents_end least most end (here ∷ on))
    opened = r.rest ∙ ap (λ (es : List Extent). answered (extents_end least most end es)) (left_cons s n first k l)

    pub run_broken : (Fits least most end here → ⊥) → None ≡ run_of least most start n first s
    run_broken f =
        sym
        (opened
        ∙ ap answered (end_off least most end here on (sym (refuted (fitting least most end here) (λ h. f (fits least most end here h))))))

    pub run_on : (size : ℕ) → size ≡ here.size → size < 4294967296 → Fits least most end here → Running s n first start least most (end + size) (k + 1)
    run_on size e b f =
        record {
          within = omega arith;
          small = omega (arith, r.small);
          rest = opened ∙ ap answered (end_on least most end here on (fit f)) ∙ ap (λ (z : ℕ). answered (extents_end least most (end + z) on)) (sym e);
        }
