-- The line with zeros beyond it, and what a refusal leaves.
use Rattle.std.specs.Prelude.{Option, Some, None, Ok, Err}
use Prim.Native.Nat.{ℕ, ◌+◌, ◌-◌, ◌≤◌, ◌<◌}
use native.Mathlib.Omega.{arith}
use mathlib.Core.List.{List, [], ◌++◌, append-nil}
use mathlib.Core.Path.{◌≡◌, refl, sym, ap, ◌∙◌}
use borrow.Author.Tests.{lt-ltb, le-ltb}
use lib.ListN.{length, take, drop}
use lib.Seq.{drop-length}
use Rattle.lists.specs.Fill.{zeroed, zeros, zeroed_all}
use Rattle.spec.specs.Limits.{max_text}
use Rattle.spec.specs.Answers.{says}
use Rattle.spec.specs.Promises.{filled}
use Rattle.text_buffer.specs.Puts.{PutsText}
use Rattle.status_record.specs.declared.Status.{Status}
use Rattle.status_line.specs.declared.LineRefusal.TheVariants.{ShortBuffer, BadPlaceholder, LongLine}
use Rattle.status_line.specs.Line.{wrong_from, line_from}
use Rattle.status_line.specs.LineAsk.{line_says, fitting_line, sound_format, line_outcome, left_by_line, StatusLineMeets}
use mathlib.Core.Bool.{false}

-- a buffer of the same length, all zero
cleared : (mid lent exit : List ℕ) → length mid ≡ length lent → exit ≡ zeroed mid 0 (length mid) → exit ≡ filled [] lent
unfolding filled
cleared mid lent exit n e = e ∙ zeroed_all mid ∙ ap zeros (n ∙ sym (none (length lent)))
  where
    none : (k : ℕ) → k - 0 ≡ k
    none k = omega arith

pub fill_over : {l lent mid exit : List ℕ} {n : ℕ} → PutsText lent 0 l mid n → max_text < n → exit ≡ zeroed mid 0 (length mid) → StatusLineMeets (fitting_line l) lent (line_says (Err LongLine)) exit
unfolding fitting_line StatusLineMeets left_by_line line_says
fill_over {l} {lent} {mid} {exit} {n} p h e =
    let o : max_text < 0 + length l = p.over h in
    rw (lt-ltb max_text (length l) (omega arith)) (record { says = refl; leaves = cleared mid lent exit p.long e })

pub fill_fits : {l lent mid exit : List ℕ} {n : ℕ} → PutsText lent 0 l mid n → n ≤ max_text → exit ≡ zeroed mid n (length mid) → StatusLineMeets (fitting_line l) lent (line_says (Ok n)) exit
unfolding fitting_line StatusLineMeets line_says zeroed filled
fill_fits {l} {lent} {mid} {exit} {n} p h e =
    let f = p.fits h in
    let c : n ≡ length l = omega (arith, f.count) in
    rw (le-ltb max_text (length l) (omega arith)) (record { says = ap (λ (k : ℕ). says 0 k) c; leaves = e ∙ padded c f.bytes })
  where
    padded : n ≡ length l → take n mid ≡ l → zeroed mid n (length mid) ≡ filled l lent
    padded c b =
        ap (λ (x : List ℕ). x ++ zeros (length mid - n) ++ drop (length mid) mid) b
        ∙ ap (λ (x : List ℕ). l ++ zeros (length mid - n) ++ x) (drop-length mid)
        ∙ append-nil (l ++ zeros (length mid - n))
        ∙ ap (λ (k : ℕ). l ++ zeros (k - n)) p.long
        ∙ ap (λ (k : ℕ). l ++ zeros (length lent - k)) c

-- ---- the whole ask
pub line_short : (s : Status) (f lent : List ℕ) → length lent < max_text → StatusLineMeets (line_outcome s f (length lent)) lent (line_says (Err ShortBuffer)) lent
unfolding line_outcome StatusLineMeets left_by_line line_says
line_short s f lent h = rw (lt-ltb (length lent) max_text h) (record { says = refl; leaves = refl })

judged : (s : Status) (f lent : List ℕ) → max_text ≤ length lent → line_outcome s f (length lent) ≡ sound_format (wrong_from 0 false f) (line_from s false f)
unfolding line_outcome
judged s f lent h = rw (le-ltb (length lent) max_text h)

pub line_wrong : (s : Status) (f lent : List ℕ) {exit : List ℕ} {p : ℕ} → max_text ≤ length lent → Some p ≡ wrong_from 0 false f → exit ≡ zeroed lent 0 (length lent)
    → StatusLineMeets (line_outcome s f (length lent)) lent (line_says (Err (BadPlaceholder p))) exit
unfolding sound_format StatusLineMeets left_by_line line_says
line_wrong s f lent {exit} {p} h w e = rw (judged s f lent h, ← w) (record { says = refl; leaves = cleared lent lent exit refl e })

pub line_sound : (s : Status) (f lent : List ℕ) → max_text ≤ length lent → None ≡ wrong_from 0 false f → line_outcome s f (length lent) ≡ fitting_line (line_from s false f)
unfolding sound_format
line_sound s f lent h w = judged s f lent h ∙ ap (λ (x : Option ℕ). sound_format x (line_from s false f)) (sym w)
