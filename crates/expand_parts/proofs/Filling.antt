-- The loop that goes on to a run with a byte in it.
use Prim.Native.Nat.{ℕ, ◌+◌, ◌*◌, ◌-◌, ◌≤◌, ◌<◌}
use mathlib.Core.Bool.{true, false}
use mathlib.Core.List.{List, []}
use mathlib.Core.Path.{◌≡◌, ◌∙◌}
use native.Mathlib.Nat.{le_trans}
use native.Mathlib.Omega.{arith}
use lib.ListN.{length, drop}
use Rattle.lists.specs.Tests.{split}
use Rattle.lists.specs.Parts.{part_none}
use Rattle.hold_bindings.specs.Log.{Logged}
use Rattle.hold_bindings.specs.Held.{max_texts, HoldsBindings}
use Rattle.expand_parts.specs.declared.Run.{Run}
use Rattle.expand_parts.specs.Runs.{expanded_by, bytes_of, left_of, BeginsRun, Going, most}

pub bytes_none : (raw texts : List ℕ) (r : Run) → r.to ≤ r.from → bytes_of raw texts r ≡ []
unfolding bytes_of
bytes_none raw texts r h =
    split r.bound
    (λ (e : r.bound ≡ true). rw e (part_none texts r.from r.to h))
    (λ (e : r.bound ≡ false). rw e (part_none raw r.from r.to h))

pub left_none : (log : List Logged) (raw texts : List ℕ) (r : Run) → r.to ≤ r.from → left_of log raw texts r ≡ expanded_by log (drop r.next raw)
unfolding left_of
left_none log raw texts r h = rw (bytes_none raw texts r h)

pub closer : (l i n : ℕ) → i < n → i < l → l - n < l - i
closer l i n h k = omega arith

fewer : (l i n d : ℕ) → i < n → n ≤ l → d ≤ max_texts * (n - i) → max_texts * (l - n) + d ≤ max_texts * (l - i)
fewer l i n d h k e = omega arith

no_more : (a b c : ℕ) → a + b ≤ c → a ≤ c
no_more a b c h = omega arith

pub record Filling (t raw texts bind : List ℕ) (count : ℕ) (r x : Run) : Type 0 where
  pub going : Going t raw texts bind count x
  pub most : most raw x ≤ most raw r
  pub left : (log : List Logged) → HoldsBindings log texts bind count → left_of log raw texts r ≡ left_of log raw texts x

module _ {t raw texts bind : List ℕ} {count : ℕ} {r x : Run} (f : Filling t raw texts bind count r x) where
  pub fill_on : {y : Run} → x.to ≤ x.from → BeginsRun raw texts bind count x.next y → Filling t raw texts bind count r y
  fill_on {y} h b =
      record {
        going =
            record { table = f.going.table; short = f.going.short; placed = b.placed; held = f.going.held };
        most =
            le_trans (fewer (length raw) x.next y.next (y.to - y.from) b.forward b.placed.within b.bounded) (no_more _ _ _ f.most);
        left = λ log k. f.left log k ∙ left_none log raw texts x h ∙ b.gives log k;
      }
