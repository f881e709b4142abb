-- Lists of paths: one turn is the gap, and then either the end or one path and the rest.
use Prim.Native.Nat.{ℕ, zero, suc, ◌-◌, ◌≤◌, ◌<◌}
use mathlib.Core.Bool.{Bool, true, false, ◌&&◌, ◌||◌}
use mathlib.Core.Option.{none, some}
use mathlib.Core.List.{List, [], ◌∷◌, ◌++◌, append-nil, append_assoc}
use mathlib.Core.Path.{◌≡◌, refl, sym, ◌∙◌, ap}
use native.Mathlib.Nat.{le_refl, not-suc-le-zero}
use native.Mathlib.Omega.{arith}
use borrow.Author.Tests.{not-true, ne_eqb}
use lib.Dec.{eqb}
use lib.ListN.{length, drop, get_or, length-drop}
use Rattle.lists.specs.Tests.{if_b, split, differ, or_left, or_right}
use Rattle.lists.specs.Parts.{part}
use Rattle.lists.specs.Runs.{Reads}
use Rattle.spec.specs.Bytes.{newline, space, dollar, colon, bar}
use Rattle.spec.specs.Dollars.{Element, literal, joins, names, wrong, element, Raw, with_piece, go_on, read_up, read_raw, bad_in, bad_dollar}
use Rattle.spec.specs.Forms.{Cut, fits, fails, left_at_dollar, then, gap, path_stop, after_path, raw_path, Paths, with_path, checked, path_begins, paths_up, paths}
use Rattle.scan_dollars.specs.Element.{rest_of}
use Rattle.scan_raw.specs.Texts.{PathEnds, PathBad, first_at, first_path, PathsStop, PathNext, PathsBad}
use Rattle.scan_tokens.proofs.Places.{at_cons, at_end, part_passed}
use Rattle.scan_raw.proofs.Look.{element_shorter, sound_none, none_sound}
use Rattle.scan_raw.proofs.Fronts.{Front, front_of}

-- ---- each path takes a byte at least

gap_length : (s : List ℕ) → length (gap s) ≤ length s
unfolding gap
gap_length [] = le_refl 0
gap_length (b ∷ []) = split (eqb b space) (λ (e : eqb b space ≡ true). rw e (omega arith)) (λ (e : eqb b space ≡ false). rw e (le_refl _))
gap_length (b ∷ c ∷ s) =
    split (eqb b space) (λ (e : eqb b space ≡ true). rw e (omega (arith, gap_length (c ∷ s))))
    (λ (e : eqb b space ≡ false).
    split (eqb b dollar && eqb c newline)
    (λ (d : eqb b dollar && eqb c newline ≡ true). rw (e, d) (omega (arith, gap_length s)))
    (λ (d : eqb b dollar && eqb c newline ≡ false). rw (e, d) (le_refl _)))

-- what follows a gap is no space
pub gap_first : (s : List ℕ) (b : ℕ) (t : List ℕ) → gap s ≡ b ∷ t → eqb b space ≡ false
unfolding gap
gap_first [] b t h = cc
gap_first (x ∷ []) b t h =
    split (eqb x space) (λ (e : eqb x space ≡ true). let f : [] ≡ b ∷ t = rw e at h in cc)
    (λ (e : eqb x space ≡ false).
    let f : x ∷ [] ≡ b ∷ t = rw e at h in
    let d : x ≡ b = cc in
    rw (← d) e)
gap_first (x ∷ c ∷ s) b t h =
    split (eqb x space) (λ (e : eqb x space ≡ true). gap_first (c ∷ s) b t (rw e at h))
    (λ (e : eqb x space ≡ false).
    split (eqb x dollar && eqb c newline)
    (λ (j : eqb x dollar && eqb c newline ≡ true). gap_first s b t (rw (e, j) at h))
    (λ (j : eqb x dollar && eqb c newline ≡ false).
    let f : x ∷ c ∷ s ≡ b ∷ t = rw (e, j) at h in
    let d : x ≡ b = cc in
    rw (← d) e))

-- what follows a text is no longer than what was read
go_on_length : (t : List ℕ) (x : Element) (f : List ℕ → Raw) (n : ℕ) → length t ≤ n → ((r : List ℕ) → rest_of x ≡ some r → length (f r).rest ≤ n)
    → length (go_on t x f).rest ≤ n
unfolding go_on rest_of with_piece
go_on_length t (literal b s) f n l h = h s refl
go_on_length t (joins s) f n l h = h s refl
go_on_length t (names m s) f n l h = h s refl
go_on_length t wrong f n l h = l

rest_length : (ends : ℕ → Bool) (k : ℕ) (s : List ℕ) → length (read_up ends k s).rest ≤ length s
unfolding read_up with_piece
rest_length ends zero s = le_refl _
rest_length ends (suc k) [] = le_refl 0
rest_length ends (suc k) (b ∷ s) =
    split (ends b) (λ (e : ends b ≡ true). rw e (le_refl _))
    (λ (e : ends b ≡ false).
    split (eqb b dollar)
    (λ (d : eqb b dollar ≡ true).
    rw (e, d)
    (go_on_length (b ∷ s) (element s) (read_up ends k) (suc (length s)) (le_refl _)
    (λ r q. omega (arith, element_shorter s r q, rest_length ends k r))))
    (λ (d : eqb b dollar ≡ false). rw (e, d) (omega (arith, rest_length ends k s))))

-- and shorter, if it is sound and the first byte does not end it
go_on_shorter : (t : List ℕ) (x : Element) (f : List ℕ → Raw) (n : ℕ) → ((r : List ℕ) → rest_of x ≡ some r → length (f r).rest ≤ n)
    → (go_on t x f).sound ≡ true → length (go_on t x f).rest ≤ n
unfolding go_on rest_of with_piece
go_on_shorter t (literal b s) f n h e = h s refl
go_on_shorter t (joins s) f n h e = h s refl
go_on_shorter t (names m s) f n h e = h s refl
go_on_shorter t wrong f n h e = differ e refl

rest_shorter : (ends : ℕ → Bool) (b : ℕ) (s : List ℕ) → ends b ≡ false → (read_raw ends (b ∷ s)).sound ≡ true
    → length (read_raw ends (b ∷ s)).rest ≤ length s
unfolding read_raw read_up with_piece
rest_shorter ends b s e o =
    split (eqb b dollar)
    (λ (d : eqb b dollar ≡ true).
    rw (e, d)
    (go_on_shorter (b ∷ s) (element s) (read_up ends (length s)) (length s)
    (λ r q. omega (arith, element_shorter s r q, rest_length ends (length s) r)) (rw (e, d) at o)))
    (λ (d : eqb b dollar ≡ false). rw (e, d) (rest_length ends (length s) s))

goes_on_at : (b : ℕ) → eqb b space ≡ false → eqb b colon || eqb b bar ≡ false → path_stop b ≡ false
unfolding path_stop
goes_on_at b p e = rw (p, or_left (eqb b colon) (eqb b bar) e, or_right (eqb b colon) (eqb b bar) e)

-- t is what a gap leaves
after_shorter : (s t : List ℕ) → gap s ≡ t → path_begins t ≡ true → (read_raw path_stop t).sound ≡ true → length (after_path t) < length t
unfolding path_begins
after_shorter s [] g h o = differ h refl
after_shorter s (b ∷ t) g h o =
    let e : eqb b colon || eqb b bar ≡ false = not-true _ h in
    omega (arith, rest_shorter path_stop b t (goes_on_at b (gap_first s b t g) e) o)

-- ---- the number of turns does not matter, where it is as great as the number of bytes

-- one path and those after it
unfoldable pub path_then : List ℕ → Cut Paths → Cut Paths
path_then t c = checked (bad_in path_stop t) t (λ _. then c (with_path (raw_path t)))

-- only where the path is sound do those after it matter
then_same : (t : List ℕ) (c d : Cut Paths) → ((read_raw path_stop t).sound ≡ true → c ≡ d) → path_then t c ≡ path_then t d
unfolding path_then checked bad_in
then_same t c d h =
    split (read_raw path_stop t).sound
    (λ (o : (read_raw path_stop t).sound ≡ true). ap (path_then t) (h o))
    (λ (o : (read_raw path_stop t).sound ≡ false). rw o)

enough : (k l : ℕ) (s : List ℕ) → length s ≤ k → length s ≤ l → paths_up k s ≡ paths_up l s
unfolding paths_up path_then
enough zero zero s a b = refl
enough zero (suc l) [] a b = refl
enough zero (suc l) (x ∷ s) a b = absurd (not-suc-le-zero a)
enough (suc k) zero [] a b = refl
enough (suc k) zero (x ∷ s) a b = absurd (not-suc-le-zero b)
enough (suc k) (suc l) s a b =
    split (path_begins (gap s))
    (λ (e : path_begins (gap s) ≡ true).
    rw e
    (then_same (gap s) (paths_up k (after_path (gap s))) (paths_up l (after_path (gap s)))
    (λ o.
    let h : length (after_path (gap s)) < length (gap s) = after_shorter s (gap s) refl e o in
    let g : length (gap s) ≤ length s = gap_length s in
    enough k l (after_path (gap s)) (omega arith) (omega arith))))
    (λ (e : path_begins (gap s) ≡ false). rw e)

unfoldable pub paths_turn : List ℕ → Cut Paths
paths_turn t = if_b (path_begins t) (λ _. path_then t (paths (after_path t))) (λ _. fits (record { raw = []; rest = t }))

pub paths_turn_law : (s : List ℕ) → paths s ≡ paths_turn (gap s)
unfolding paths paths_turn paths_up path_then
paths_turn_law s =
    enough (length s) (suc (length s)) s (le_refl _) (omega arith)
    ∙ split (path_begins (gap s))
    (λ (e : path_begins (gap s) ≡ true).
    rw e
    (then_same (gap s) (paths_up (length s) (after_path (gap s))) (paths_up (length (after_path (gap s))) (after_path (gap s)))
    (λ o.
    let h : length (after_path (gap s)) < length (gap s) = after_shorter s (gap s) refl e o in
    let g : length (gap s) ≤ length s = gap_length s in
    enough (length s) (length (after_path (gap s))) (after_path (gap s)) (omega arith) (le_refl _))))
    (λ (e : path_begins (gap s) ≡ false). rw e)

-- ---- what a path's place says

-- The bytes that a sound path passes are the raw path, and its dollars are sound by themselves.
module _ {s : List ℕ} {i r : ℕ} (a : PathEnds s i r) where
  front : Front (drop i s) (after_path (drop i s))
  front = front_of path_stop (drop i s) (none_sound path_stop (drop i s) a.sound)

  part_front : part s i r ≡ front.bytes
  part_front = part_passed s front.bytes a.reads.forward a.reads.within (ap (λ (l : List ℕ). front.bytes ++ l) a.reads.rest ∙ front.is)

  part_path : part s i r ≡ raw_path (drop i s)
  unfolding raw_path
  part_path =
      let n : length (drop i s) - length (after_path (drop i s)) ≡ r - i = omega (arith, length-drop i s, length-drop r s, ap length a.reads.rest, a.reads.forward, a.reads.within) in
      rw n

  part_sound : bad_dollar (part s i r) ≡ none
  unfolding bad_dollar
  part_sound = rw part_front (sound_none (λ b. false) front.bytes front.sound)

-- ---- one turn at places: the gap ends at g

module _ {s : List ℕ} {i g : ℕ} (a : Reads gap s i g) where
  turn_at : paths (drop i s) ≡ paths_turn (drop g s)
  turn_at = paths_turn_law (drop i s) ∙ ap paths_turn (sym a.rest)

  first_at_law : first_path (drop i s) ≡ first_at (drop g s)
  unfolding first_path
  first_at_law = ap first_at (sym a.rest)

  pub stops : path_begins (drop g s) ≡ false → PathsStop s i g
  unfolding paths_turn first_at
  stops e = record { forward = a.forward; within = a.within; first = first_at_law ∙ rw e; is = turn_at ∙ rw e }

  module _ (e : path_begins (drop g s) ≡ true) where
    pub next : {r : ℕ} → PathEnds s g r → PathNext s i g r
    unfolding paths_turn path_then checked first_at
    next {r} p =
        let h : length (after_path (drop g s)) < length (drop g s) =
        after_shorter (drop i s) (drop g s) (sym a.rest) e (none_sound path_stop (drop g s) p.sound) in
        record {
          forward = a.forward;
          longer = omega (arith, length-drop g s, length-drop r s, p.reads.within, ap length p.reads.rest);
          within = p.reads.within;
          sound = part_sound p;
          first = first_at_law ∙ rw (e, p.sound, ← p.reads.rest, ← (part_path p));
          is = turn_at ∙ rw (e, p.sound, ← p.reads.rest, ← (part_path p));
        }

    pub wrong_next : {p : ℕ} → PathBad s g p → PathsBad s i p
    unfolding paths_turn path_then checked first_at
    wrong_next {p} b =
        let z : length (drop g s) - (p - g) ≡ length s - p = omega (arith, length-drop g s, b.forward, b.within) in
        record {
          forward = omega (arith, a.forward, b.forward);
          within = b.within;
          first = first_at_law ∙ rw (e, b.bad, z);
          is = turn_at ∙ rw (e, b.bad, z);
        }

  -- ---- by the byte after the gap

  pub begins_not_end : length s ≤ g → path_begins (drop g s) ≡ false
  unfolding path_begins
  begins_not_end h = rw (at_end s g h)

  module _ (h : g < length s) where
    pub begins_not : eqb (get_or s g 0) colon || eqb (get_or s g 0) bar ≡ true → path_begins (drop g s) ≡ false
    unfolding path_begins
    begins_not e = rw (at_cons s g h, e)

    pub begins : (get_or s g 0 ≡ colon → ⊥) → (get_or s g 0 ≡ bar → ⊥) → path_begins (drop g s) ≡ true
    unfolding path_begins
    begins p q = rw (at_cons s g h, ne_eqb _ _ p, ne_eqb _ _ q)

-- ---- a loop over a list of paths

-- the paths l, and then those of c
unfoldable pub ahead : List (List ℕ) → Cut Paths → Cut Paths
ahead l c = then c (λ ps. fits (record { raw = l ++ ps.raw; rest = ps.rest }))

ahead_none : (c : Cut Paths) → ahead [] c ≡ c
unfolding ahead then
ahead_none (fits ps) = refl
ahead_none (fails e) = refl

ahead_next : (l : List (List ℕ)) (p : List ℕ) (c : Cut Paths) → ahead l (then c (with_path p)) ≡ ahead (l ++ (p ∷ [])) c
unfolding ahead then with_path
ahead_next l p (fits ps) = rw (append_assoc l (p ∷ []) ps.raw)
ahead_next l p (fails e) = refl

-- The loop that reads from i on is at k, and has read the paths l.
pub record Listing (s : List ℕ) (i : ℕ) (l : List (List ℕ)) (k : ℕ) : Type 0 where
  pub forward : i ≤ k
  pub within : k ≤ length s
  pub same : paths (drop i s) ≡ ahead l (paths (drop k s))

pub list_begin : {s : List ℕ} {i : ℕ} → i ≤ length s → Listing s i [] i
list_begin {s} {i} h = record { forward = le_refl i; within = h; same = sym (ahead_none _) }

module _ {s : List ℕ} {i : ℕ} {l : List (List ℕ)} {k : ℕ} (a : Listing s i l k) where
  pub list_next : {g r : ℕ} → PathNext s k g r → Listing s i (l ++ (part s g r ∷ [])) r
  list_next {g} {r} p =
      record {
        forward = omega (arith, a.forward, p.forward, p.longer);
        within = p.within;
        same = a.same ∙ ap (ahead l) p.is ∙ ahead_next l (part s g r) (paths (drop r s));
      }

  pub list_stop : {g : ℕ} → PathsStop s k g → paths (drop i s) ≡ fits (record { raw = l; rest = drop g s })
  unfolding ahead then
  list_stop p = a.same ∙ ap (ahead l) p.is ∙ rw (append-nil l)

  pub list_bad : {p : ℕ} → PathsBad s k p → paths (drop i s) ≡ fails (left_at_dollar (length s - p))
  unfolding ahead then
  list_bad p = a.same ∙ ap (ahead l) p.is
