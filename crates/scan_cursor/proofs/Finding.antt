-- The reader goes from line to line: what was found so far, and that a turn finds one line more or passes a comment over.
use Prim.Native.Nat.{ℕ, suc, ◌+◌, ◌-◌, ◌^◌, ◌≤◌, ◌<◌}
use mathlib.Core.Bool.{Bool, true, false}
use mathlib.Core.List.{List, [], ◌∷◌, ◌++◌}
use mathlib.Core.Path.{◌≡◌, refl, sym, ◌∙◌, ap}
use native.Mathlib.Numerals.{add-one}
use native.Mathlib.Omega.{arith}
use borrow.Author.Tests.{leb-true, ltb-true, ltb-false}
use lib.Dec.{leb, ltb}
use lib.ListN.{length, take, drop, set, length-set}
use lib.Seq.{take-suc-set}
use Rattle.lists.specs.Tests.{split, differ}
use Rattle.spec.specs.Lines.{Line}
use Rattle.scan_lines.specs.Endings.{lines_at}
use Rattle.scan_cursor.specs.Spans.{line_in, is_passed, LineSpan, LineHere}
use Rattle.scan_cursor.specs.Found.{lines_in, Bounds, uncommented, LinePutAsk, put_at, LinePut, none, passed, put, FoundAsk, LinesFound}
use Rattle.scan_cursor.specs.declared.LineBounds.{LineBounds}
use Rattle.scan_cursor.specs.declared.Found.{Found}

-- ---- the numbers

append_two : {A : Type 0} (l : List A) (x y : A) → (l ++ (x ∷ [])) ++ (y ∷ []) ≡ l ++ (x ∷ y ∷ [])
append_two [] x y = refl
append_two (z ∷ l) x y = ap (λ k. z ∷ k) (append_two l x y)

pub append_one : {A : Type 0} (l : List A) (x : A) (k : List A) → (l ++ (x ∷ [])) ++ k ≡ l ++ (x ∷ k)
append_one [] x k = refl
append_one (z ∷ l) x k = ap (λ j. z ∷ j) (append_one l x k)

two_more : (l : List ℕ) (n x y : ℕ) → n + 2 ≤ length l → take (n + 2) (set (set l n x) (n + 1) y) ≡ take n l ++ (x ∷ y ∷ [])
two_more l n x y h =
    let a : n + 2 ≡ suc (n + 1) = omega arith in
    let b : n + 1 ≡ suc n = add-one n in
    let c : n + 1 < length (set l n x) = simp length-set (omega arith) in
    rw (a, take-suc-set (set l n x) (n + 1) y c, b, take-suc-set l n x (omega arith)) (append_two (take n l) x y)

bounds_more : (m ns : List ℕ) (i e : ℕ) → Bounds m ns → i ≤ e → e ≤ length m → Bounds m (ns ++ (i ∷ e ∷ []))
unfolding Bounds
bounds_more m [] i e b h k = (h, k, tt)
bounds_more m (j ∷ []) i e b h k = absurd b
bounds_more m (j ∷ f ∷ ns) i e b h k = (b.0, b.1, bounds_more m ns i e b.2 h k)

lines_more : (m ns : List ℕ) (i e : ℕ) → Bounds m ns → lines_in m (ns ++ (i ∷ e ∷ [])) ≡ lines_in m ns ++ (line_in m i e ∷ [])
unfolding Bounds lines_in
lines_more m [] i e b = refl
lines_more m (j ∷ []) i e b = absurd b
lines_more m (j ∷ f ∷ ns) i e b = ap (λ (ls : List Line). line_in m j f ∷ ls) (lines_more m ns i e b.2)

-- ---- comments

passed_over : (l : Line) (ls : List Line) → is_passed l ≡ true → uncommented (l ∷ ls) ≡ uncommented ls
unfolding uncommented
passed_over l ls e = rw e

kept_line : (l : Line) (ls : List Line) → is_passed l ≡ false → uncommented (l ∷ ls) ≡ l ∷ uncommented ls
unfolding uncommented
kept_line l ls e = rw e

-- ---- the loop

-- what the loop knows where it has found f, before the line at the next place
pub record Finding (m : List ℕ) (i : ℕ) (out out' : List ℕ) (f : Found) : Type 0 where
  pub forward : i ≤ f.next
  pub on : i < length m → f.more ≡ false → i < f.next
  pub within : f.next ≤ length m
  pub long : length out' ≡ length out
  pub fits : f.filled ≤ length out'
  pub room : f.more ≡ true → f.filled + 2 ≤ length out'
  pub bounds : Bounds m (take f.filled out')
  pub lines : uncommented (lines_at i (drop i m)) ≡ lines_in m (take f.filled out') ++ uncommented (lines_at f.next (drop f.next m))

abbrev pub at_first : ℕ → Found
at_first i = record { filled = 0; next = i; more = true }

pub find_begin : {t m : List ℕ} {i : ℕ} {out : List ℕ} → FoundAsk t m i out → Finding m i out out (at_first i)
unfolding Bounds lines_in
find_begin a =
    record {
      forward = omega arith;
      on = λ _ e. differ refl e;
      within = a.within;
      long = refl;
      fits = omega arith;
      room = λ _. a.room;
      bounds = tt;
      lines = refl;
    }

pub find_end : {m : List ℕ} {i : ℕ} {out out' : List ℕ} {f : Found} → Finding m i out out' f → f.more ≡ false → LinesFound m i out out' f
find_end g e = record { on = λ h. g.on h e; within = g.within; long = g.long; fits = g.fits; bounds = g.bounds; lines = g.lines }

abbrev one : Bool → ℕ
one true = 1
one false = 0

most_one : (b : Bool) → one b ≤ 1
most_one true = omega arith
most_one false = omega arith

-- how much is left
abbrev pub left : List ℕ → Found → ℕ
left m f = length m - f.next + one f.more

module _ {m : List ℕ} {i : ℕ} {out out' : List ℕ} {f : Found} (g : Finding m i out out' f) (e : f.more ≡ true) {s : LineBounds} (a : LineHere m f.next s) where
  pub find_ask : length m < 2 ^ 32 → LinePutAsk out' f.filled s
  find_ask h = record { room = g.room e; start_small = omega (arith, a.starts, g.within); end_small = omega (arith, a.within); past = λ q. omega (arith, a.starts, a.past q) }

  -- no line is left
  at_end : s.next ≤ s.start → length m ≤ f.next
  at_end h =
      split (ltb f.next (length m))
      (λ (t : ltb f.next (length m) ≡ true). absurd (omega (arith, a.starts, (a.span (ltb-true _ _ t)).on)))
      (λ (t : ltb f.next (length m) ≡ false). ltb-false _ _ t)

  -- the line that is there
  module _ (o : s.start < s.next) where
    span : LineSpan m f.next s
    span = a.span (omega (arith, a.starts, a.most))

    abbrev behind : List Line
    behind = lines_at s.next (drop s.next m)

    found : uncommented (lines_at i (drop i m)) ≡ lines_in m (take f.filled out') ++ uncommented (line_in m f.next s.end ∷ behind)
    found = g.lines ∙ ap (λ (ls : List Line). lines_in m (take f.filled out') ++ uncommented ls) span.lines

    abbrev before : List ℕ
    before = take f.filled out'

    abbrev line : Line
    line = line_in m f.next s.end

    put_lines : s.comment ≡ false → uncommented (lines_at i (drop i m)) ≡ lines_in m (before ++ (f.next ∷ s.end ∷ [])) ++ uncommented behind
    put_lines c =
        found ∙ ap (λ (ls : List Line). lines_in m before ++ ls) (kept_line line behind (sym span.comment ∙ c))
        ∙ sym (append_one (lines_in m before) line (uncommented behind))
        ∙ ap (λ (ls : List Line). ls ++ uncommented behind) (sym (lines_more m before f.next s.end g.bounds))

  pub find_turn : {out'' : List ℕ} {f' : Found} → LinePut out' f.filled s out'' f' → Finding m i out out'' f'
  find_turn (none h) =
      record {
        forward = omega (arith, a.starts, g.forward);
        on = λ k _. omega (arith, a.starts, at_end h);
        within = omega (arith, a.starts, g.within);
        long = g.long;
        fits = g.fits;
        room = λ k. differ k refl;
        bounds = g.bounds;
        lines = rw a.starts g.lines;
      }
  find_turn (passed o c) =
      record {
        forward = omega (arith, g.forward, (span o).on);
        on = λ _ k. differ refl k;
        within = a.most;
        long = g.long;
        fits = g.fits;
        room = λ _. g.room e;
        bounds = g.bounds;
        lines = found o ∙ ap (λ (ls : List Line). lines_in m (take f.filled out') ++ ls) (passed_over _ _ (sym (span o).comment ∙ c));
      }
  find_turn (put o c) =
      let w : take (f.filled + 2) (put_at out' f.filled s) ≡ before o ++ (f.next ∷ s.end ∷ []) =
      two_more out' f.filled s.start s.end (g.room e) ∙ ap (λ (k : ℕ). before o ++ (k ∷ s.end ∷ [])) a.starts in
      let l : length (put_at out' f.filled s) ≡ length out' = simp length-set in
      record {
        forward = omega (arith, g.forward, (span o).on);
        on = λ _ _. omega (arith, g.forward, (span o).on);
        within = a.most;
        long = l ∙ g.long;
        fits = rw l (g.room e);
        room = λ k. omega (arith, leb-true (f.filled + 4) (length (put_at out' f.filled s)) k);
        bounds = rw w (bounds_more m (before o) f.next s.end g.bounds (span o).forward a.within);
        lines = rw w (put_lines o c);
      }

  pub find_less : {out'' : List ℕ} {f' : Found} → LinePut out' f.filled s out'' f' → left m f' < left m f
  find_less (none h) = rw (e, a.starts) (omega arith)
  find_less (passed o c) = rw e (omega (arith, (span o).on, a.most))
  find_less (put o c) = rw e (omega (arith, (span o).on, a.most, most_one (leb (f.filled + 4) (length (put_at out' f.filled s)))))

-- what the loop knows of its reader too: it reads this manifest, and stands where the next line starts
pub record Reading (m : List ℕ) (i : ℕ) (out : List ℕ) (lent : List ℕ) (cursor : ℕ) (out' : List ℕ) (f : Found) : Type 0 where
  pub same : lent ≡ m
  pub place : cursor ≡ f.next
  pub finding : Finding m i out out' f

pub read_begin : {t m lent : List ℕ} {i cursor : ℕ} {out : List ℕ} → FoundAsk t m i out → lent ≡ m → cursor ≡ i → Reading m i out lent cursor out (at_first i)
read_begin a e k = record { same = e; place = k; finding = find_begin a }

module _ {m : List ℕ} {i : ℕ} {out lent : List ℕ} {cursor : ℕ} {out' : List ℕ} {f : Found} (g : Reading m i out lent cursor out' f) where
  module _ (e : f.more ≡ true) {s : LineBounds} (a : LineHere lent cursor s) where
    here : LineHere m f.next s
    here = rw (g.same, g.place) at a

    pub read_ask : length m < 2 ^ 32 → LinePutAsk out' f.filled s
    read_ask h = find_ask g.finding e here h

    pub read_turn : {out'' lent' : List ℕ} {cursor' : ℕ} {f' : Found} → LinePut out' f.filled s out'' f' → lent' ≡ lent → cursor' ≡ f'.next → Reading m i out lent' cursor' out'' f'
    read_turn p d k = record { same = d ∙ g.same; place = k; finding = find_turn g.finding e here p }

    pub read_less : {out'' : List ℕ} {f' : Found} → LinePut out' f.filled s out'' f' → left m f' < left m f
    read_less p = find_less g.finding e here p

  pub read_end : f.more ≡ false → LinesFound m i out out' f
  read_end e = find_end g.finding e
