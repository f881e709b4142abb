-- Where a line lies, by where it ends.
use Prim.Native.Nat.{ℕ, ◌+◌, ◌≤◌, ◌<◌}
use mathlib.Core.Bool.{Bool, true, false, ◌&&◌, false≢true}
use mathlib.Core.List.{List}
use mathlib.Core.Path.{◌≡◌, refl}
use native.Mathlib.Omega.{arith}
use borrow.Author.Tests.{lt-ltb, le-ltb}
use lib.ListN.{length, drop}
use Rattle.lists.specs.Parts.{part_to_end}
use Rattle.spec.specs.Lines.{is_comment}
use Rattle.scan_lines.specs.Endings.{EndedAs, LineOpen}
use Rattle.scan_lines.proofs.Ends.{lines_next, lines_last, lines_end}
use Rattle.scan_cursor.specs.Spans.{LineHere}

and_true : (b : Bool) → b ≡ b && true
and_true true = refl
and_true false = refl

and_false : (b : Bool) → false ≡ b && false
and_false true = refl
and_false false = refl

pub here_end : (m : List ℕ) {i : ℕ} → i ≤ length m → length m ≤ i → LineHere m i (record { start = i; end = i; comment = false; next = i })
here_end m h k = record { starts = refl; within = h; most = h; span = λ l. absurd (omega arith); past = λ q. absurd (false≢true q) }

module _ (m : List ℕ) {i : ℕ} (h : i < length m) where
  pub here_ended : (c : Bool) {e : ℕ} → EndedAs c m i e → LineHere m i (record { start = i; end = e; comment = c; next = e + 1 })
  here_ended c {e} a =
      let l = a.line in
      record {
        starts = refl;
        within = omega (arith, l.within);
        most = omega (arith, l.within);
        span = λ _.
            record {
              forward = l.forward;
              on = omega (arith, l.forward);
              lines = rw (lt-ltb e (length m) l.within) (lines_next m h l);
              comment = rw (lt-ltb e (length m) l.within, a.is) (and_true c);
            };
        past = λ _. omega (arith, l.forward);
      }

  pub here_open : LineOpen m i → LineHere m i (record { start = i; end = length m; comment = false; next = length m })
  here_open a =
      record {
        starts = refl;
        within = omega arith;
        most = omega arith;
        span = λ _.
            record {
              forward = omega arith;
              on = h;
              lines = rw (le-ltb (length m) (length m) (omega arith), part_to_end m i, lines_end m (length m) (omega arith)) (lines_last m h a);
              comment = rw (le-ltb (length m) (length m) (omega arith), part_to_end m i) (and_false (is_comment (drop i m)));
            };
        past = λ _. h;
      }
