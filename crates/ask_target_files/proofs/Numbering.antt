-- The walk over a target list that puts each name's number into the buffer.
use Rattle.std.specs.Prelude.{Option, Some, None, Ok, Err}
use Prim.Native.Nat.{ℕ, ◌+◌, ◌^◌, ◌≤◌, ◌<◌}
use mathlib.Core.Bool.{true, false}
use mathlib.Core.List.{List, [], ◌∷◌, ◌++◌}
use mathlib.Core.Path.{◌≡◌, refl, sym, ◌∙◌, ap}
use native.Mathlib.Numerals.{add-one}
use native.Mathlib.Decide.{dec_lt}
use native.Mathlib.Nat.{not-suc-le-zero}
use native.Mathlib.Omega.{arith}
use lib.ListN.{length, take, get_or, set, length-set}
use lib.Seq.{length-take-le, take-suc-set, get_or-set_same, get_or-set_other}
use Rattle.lists.specs.Parts.{part}
use Rattle.spec.specs.Limits.{max_targets}
use Rattle.spec.specs.Reading.{number_of}
use Rattle.spec.specs.Targets.{malformed}
use Rattle.hold_names.specs.Table.{HoldsNames, SoundNames, FindsName}
use Rattle.hold_names.proofs.Laws.{find_at, find_missing}
use Rattle.scan_targets.specs.declared.NextTarget.{NextTarget}
use Rattle.scan_targets.specs.declared.NextTarget.TheVariants.{End, Bad as BadName, Name}
use Rattle.scan_targets.specs.Next.{next_in}
use Rattle.scan_targets.proofs.Walk.{names_from, Turn, Walking, walk_malformed, walk_begin, walk_end, walk_bad, walk_turn, walk_missing, walk_more}
use Rattle.ask_target_files.specs.Numbered.{NumberingAsked, target_numbers_of, NumbersTargets}

-- the numbers of the names up to a place are there, whatever names are held
pub record Walked (targets names index : List ℕ) (count : ℕ) (start : List ℕ) (from n : ℕ) (out : List ℕ) : Type 0 where
  pub same : length out ≡ length start
  pub named : SoundNames names index count
  pub room : max_targets ≤ length out
  pub within : from ≤ length targets
  pub short : length targets ≤ max_targets
  pub few : n + n ≤ from
  pub low : (i : ℕ) → i < n → get_or out i 0 < count
  pub walks : (files : List (List ℕ)) → HoldsNames names index count files → Walking files targets from (take n out)

module _ {targets names index : List ℕ} {count : ℕ} where
  pub form_bad : {out : List ℕ} → malformed targets ≡ true → NumbersTargets targets names index count out (Err 0)
  form_bad h = record { says = λ files d. walk_malformed files targets h }

  pub begin : {out : List ℕ} → NumberingAsked names index count out → malformed targets ≡ false → Walked targets names index count out 0 0 out
  begin a h =
      let w = walk_begin [] targets h in
      record { same = refl; named = a.named; room = a.room; within = w.within; short = w.short; few = omega arith; low = λ i b. absurd (not-suc-le-zero b); walks = λ files d. walk_begin files targets h }

  module _ {from n : ℕ} {start out : List ℕ} (w : Walked targets names index count start from n out) {r : NextTarget} (a : r ≡ next_in (names_from targets from)) where
    pub ended : r ≡ End → NumbersTargets targets names index count out (Ok n)
    unfolding target_numbers_of
    ended e =
        record {
          says = λ files d.
              let (g, h) = walk_end (w.walks files d) a e in
              let k : n ≤ length out = omega (arith, w.room, w.few, w.within, w.short) in
              record { good = g; within = k; counted = sym (ap length h ∙ length-take-le n out k); numbers = sym h; low = rw (← d.counted) w.low };
        }

    pub bad : r ≡ BadName → NumbersTargets targets names index count out (Err from)
    bad e = record { says = λ files d. walk_bad (w.walks files d) a e }

    module _ {end : ℕ} (e : r ≡ Name end) where
      pub turned : (files : List (List ℕ)) → HoldsNames names index count files → Turn targets from end
      turned files d = walk_turn (w.walks files d) a e

      pub turn : Turn targets from end
      turn = turned w.named.files w.named.holds

      module _ {x : Option ℕ} (f : FindsName names index count (part targets from end) x) where
        pub unknown : x ≡ None → NumbersTargets targets names index count out (Err from)
        unknown m = record { says = λ files d. walk_missing (w.walks files d) a e (find_missing f d m) }

        below : {k : ℕ} → x ≡ Some k → k < count
        below m =
            let (i, j, k) = find_at f w.named.holds m in
            k

        there : n < length out
        there = omega (arith, w.room, w.few, w.within, w.short, turn.some, turn.within)

        pub known : {k : ℕ} → x ≡ Some k → k < 2 ^ 32
        known m =
            let h = w.named.holds in
            let (i, j, k) = find_at f h m in
            omega (arith, h.few)

        pub more : {k : ℕ} → x ≡ Some k → Walked targets names index count start (end + 1) (n + 1) (set out n k)
        more {k} m =
            record {
              same = simp length-set w.same;
              named = w.named;
              room = simp length-set w.room;
              within = omega (arith, turn.within);
              short = w.short;
              few = omega (arith, w.few, turn.some);
              low = λ i b. elim (dec_lt i n) [
                | yes e ↦ rw (get_or-set_other out n i k 0 (λ (q : i ≡ n). omega (arith, q, e))) (w.low i e)
                | no e ↦ (let q : i ≡ n = omega arith in rw (q, get_or-set_same out n k 0 there) (below m))
              ];
              walks = λ files d.
                  let (h, i, j) = find_at f d m in
                  let q : take (n + 1) (set out n k) ≡ take n out ++ (number_of (part targets from end) files ∷ []) = rw (add-one n, ← i) (take-suc-set out n k there) in
                  rw q (walk_more (w.walks files d) a e h);
            }
