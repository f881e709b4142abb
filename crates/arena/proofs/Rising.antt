-- Rising lists: halving finds where one more belongs, and put in there it leaves the list rising.
use Prim.Native.Nat.{ℕ, ◌+◌, ◌<◌}
use mathlib.Core.Bool.{true}
use mathlib.Core.List.{List, []}
use mathlib.Core.Path.{◌≡◌, sym}
use native.Mathlib.Decide.{dec_lt}
use native.Mathlib.Nat.{not-suc-le-zero}
use native.Mathlib.Omega.{arith}
use lib.ListN.{length, get_or}
use Rattle.lists.specs.Bytes.{less_bytes, less_trans, less_ne}
use Rattle.arena.specs.Inserted.{inserted}
use Rattle.arena.specs.Rising.{RisingPaths, PathBetween}
use Rattle.arena.proofs.Inserting.{pairs_inserted}

-- ---- where x belongs

pub between_all : (ps : List (List ℕ)) (x : List ℕ) → PathBetween ps x 0 (length ps)
between_all ps x = record { within = omega arith; before = λ i a. absurd (not-suc-le-zero a); after = λ i a b. absurd (omega arith) }

module _ {ps : List (List ℕ)} {x : List ℕ} {low high : ℕ} (b : PathBetween ps x low high) (r : RisingPaths ps) {mid : ℕ} (below : mid < high) where
  pub between_lower : less_bytes x (get_or ps mid []) ≡ true → PathBetween ps x low mid
  between_lower e =
      record {
        within = omega (arith, b.within);
        before = b.before;
        after = λ i a h. elim (dec_lt mid i) [
          | yes p ↦ less_trans x (get_or ps mid []) (get_or ps i []) e (r.less mid i p h)
          | no p ↦ (let q : mid ≡ i = omega arith in rw (← q) e)
        ];
      }

  pub between_higher : less_bytes (get_or ps mid []) x ≡ true → PathBetween ps x (mid + 1) high
  between_higher e =
      record {
        within = b.within;
        before = λ i a. elim (dec_lt i mid) [
          | yes p ↦ less_trans (get_or ps i []) (get_or ps mid []) x (r.less i mid p (omega (arith, b.within))) e
          | no p ↦ (let q : mid ≡ i = omega arith in rw (← q) e)
        ];
        after = b.after;
      }

-- x is none of them
pub between_none : {ps : List (List ℕ)} {x : List ℕ} {p : ℕ} → PathBetween ps x p p → (i : ℕ) → i < length ps → x ≡ get_or ps i [] → ⊥
between_none {p = p} b i a q = elim (dec_lt i p) [ yes h ↦ less_ne (b.before i h) (sym q) | no h ↦ less_ne (b.after i (omega arith) a) q ]

-- ---- the list with x put in

pub inserted_rising : {ps : List (List ℕ)} {x : List ℕ} {p : ℕ} → RisingPaths ps → PathBetween ps x p p → RisingPaths (inserted ps p x)
inserted_rising {ps} {x} {p} r b =
    record { less = pairs_inserted ps p x [] b.within (λ s t. less_bytes s t ≡ true) r.less b.before b.after }
