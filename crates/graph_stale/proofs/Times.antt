-- The times of files, and the tests on a step's files: each case of the code by the definition.
use Prim.Native.Nat.{ℕ, suc, ◌+◌, ◌-◌, ◌≤◌, ◌<◌, max}
use native.Mathlib.Numerals.{add-one}
use native.Mathlib.Omega.{arith}
use mathlib.Core.Path.{◌≡◌, refl, sym, ap, ◌∙◌}
use mathlib.Core.Bool.{true, false, ◌||◌}
use mathlib.Core.List.{List, [], ◌∷◌}
use lib.Dec.{eqb, ltb}
use lib.ListN.{length, get_or, drop, drop_of_length-le}
use lib.Seq.{drop-cons}
use borrow.Author.Tests.{eq-eqb, ne_eqb, lt-ltb, le-ltb}
use Rattle.lists.specs.Tests.{if_b}
use Rattle.lists.specs.Members.{any}
use Rattle.spec.specs.Basics.{concat}
use Rattle.spec.specs.Stale.{greatest}
use Rattle.hold_columns.specs.Columns.{made_by, maker_in, makers_in}
use Rattle.graph_stale.specs.Judge.{time_at, late_time, file_time, newest_of, stale_maker, outdated, FileAsked, FilesAsked}

-- the time of a file

module _ (made phony times late : List ℕ) (f : ℕ) where
  pub time_own : {t : ℕ} → t ≡ time_at times f → (t ≡ 0 → ⊥) → t ≡ file_time made phony times late f
  unfolding file_time
  time_own e d = rw (← e, ne_eqb _ 0 d)

  module _ {t m : ℕ} (e : t ≡ time_at times f) (z : t ≡ 0) (q : m ≡ get_or made f 0) where
    by_maker : file_time made phony times late f ≡ late_time phony late (made_by m)
    unfolding file_time maker_in
    by_maker = rw (← e, eq-eqb t 0 z, ← q)

    pub time_none : m ≡ 0 → 0 ≡ file_time made phony times late f
    unfolding late_time made_by
    time_none w = sym (by_maker ∙ rw w)

    module _ (d : m ≡ 0 → ⊥) {p : ℕ} (h : p ≡ get_or phony (m - 1) 0) where
      by_phony : file_time made phony times late f ≡ if_b (eqb p 1) (λ _. get_or late (m - 1) 0) (λ _. 0)
      unfolding late_time made_by
      by_phony = let w : m ≡ suc (m - 1) = omega arith in by_maker ∙ ap (λ (k : ℕ). late_time phony late (made_by k)) w ∙ rw h

      pub time_command : (p ≡ 1 → ⊥) → 0 ≡ file_time made phony times late f
      time_command w = sym (by_phony ∙ rw (ne_eqb p 1 w))

      pub time_phony : {v : ℕ} → p ≡ 1 → v ≡ get_or late (m - 1) 0 → v ≡ file_time made phony times late f
      time_phony w k = k ∙ sym (by_phony ∙ rw (eq-eqb p 1 w))

-- the greatest time of some files: the greatest so far is t, and the files from place i on are left
pub record Newest (made phony times late fs : List ℕ) (t i : ℕ) : Type 0 where
  pub within : i ≤ length fs
  pub rest : newest_of made phony times late fs ≡ max t (newest_of made phony times late (drop i fs))

pub newest_begin : {made phony times late fs : List ℕ} → Newest made phony times late fs 0 0
newest_begin = record { within = omega arith; rest = omega arith }

newest_cons : (made phony times late : List ℕ) (f : ℕ) (l : List ℕ) → newest_of made phony times late (f ∷ l) ≡ max (file_time made phony times late f) (newest_of made phony times late l)
unfolding newest_of greatest
newest_cons made phony times late f l = refl

newest_nil : (made phony times late : List ℕ) → newest_of made phony times late [] ≡ 0
unfolding newest_of greatest
newest_nil made phony times late = refl

module _ {made phony times late fs : List ℕ} {t i : ℕ} (r : Newest made phony times late fs t i) where
  pub newest_more : i < length fs → {f u v : ℕ} → f ≡ get_or fs i 0 → u ≡ file_time made phony times late f → v ≡ max t u → Newest made phony times late fs v (i + 1)
  newest_more b {f} e p q = record {
    within = omega arith;
    rest = rw (add-one i) (omega (arith, r.rest, p, q, left));
  }
    where
      left : newest_of made phony times late (drop i fs) ≡ max (file_time made phony times late f) (newest_of made phony times late (drop (suc i) fs))
      left = rw (drop-cons fs i 0 b, ← e) (newest_cons made phony times late f (drop (suc i) fs))

  pub newest_end_law : length fs ≤ i → t ≡ newest_of made phony times late fs
  newest_end_law b =
      let z : newest_of made phony times late (drop i fs) ≡ 0 = rw (drop_of_length-le fs {i = i} b) (newest_nil made phony times late) in
      omega (arith, r.rest)

-- is a maker stale

module _ (made stale : List ℕ) (l : List ℕ) (f : ℕ) {m : ℕ} (e : m ≡ get_or made f 0) where
  pub maker_none : m ≡ 0 → stale_maker made stale (f ∷ l) ≡ stale_maker made stale l
  unfolding stale_maker makers_in maker_in made_by concat
  maker_none z = rw (← e, z)

  module _ (d : m ≡ 0 → ⊥) {v : ℕ} (h : v ≡ get_or stale (m - 1) 0) where
    by_mark : stale_maker made stale (f ∷ l) ≡ (eqb v 1 || stale_maker made stale l)
    unfolding stale_maker makers_in maker_in made_by concat any
    by_mark = let w : get_or made f 0 ≡ suc (m - 1) = omega arith in rw (w, h)

    pub maker_stale_law : v ≡ 1 → stale_maker made stale (f ∷ l) ≡ true
    maker_stale_law w = by_mark ∙ rw (eq-eqb v 1 w)

    pub maker_fresh : (v ≡ 1 → ⊥) → stale_maker made stale (f ∷ l) ≡ stale_maker made stale l
    maker_fresh w = by_mark ∙ rw (ne_eqb v 1 w)

-- is a file missing or older than t

module _ (times : List ℕ) (t : ℕ) (l : List ℕ) (f : ℕ) {u : ℕ} (e : u ≡ time_at times f) where
  by_time : outdated times t (f ∷ l) ≡ ((eqb u 0 || ltb u t) || outdated times t l)
  unfolding outdated any
  by_time = rw e

  pub time_missing : u ≡ 0 → outdated times t (f ∷ l) ≡ true
  time_missing z = by_time ∙ rw (eq-eqb u 0 z)

  module _ (d : u ≡ 0 → ⊥) where
    pub time_older : u < t → outdated times t (f ∷ l) ≡ true
    time_older b = by_time ∙ rw (ne_eqb u 0 d, lt-ltb u t b)

    pub time_kept : t ≤ u → outdated times t (f ∷ l) ≡ outdated times t l
    time_kept b = by_time ∙ rw (ne_eqb u 0 d, le-ltb u t b)

pub outdated_none : (times : List ℕ) (t : ℕ) → outdated times t [] ≡ false
unfolding outdated any
outdated_none times t = refl

pub maker_end : (made stale : List ℕ) → stale_maker made stale [] ≡ false
unfolding stale_maker makers_in concat any
maker_end made stale = refl

-- each of the files may be asked for its time
pub file_asked : {fs made phony times late : List ℕ} → FilesAsked fs made phony times late → {i f : ℕ} → i < length fs → f ≡ get_or fs i 0 → FileAsked made phony times late f
file_asked {fs} r {i} b e =
    let low = r.files.low i b in
    record { low = rw e low; timed = r.timed; maker_low = rw e (r.files.makers (get_or fs i 0) low); late_long = r.late_long }
