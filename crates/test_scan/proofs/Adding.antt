-- The names of a list, added to a table one after another.
use Prim.Native.Nat.{ℕ, suc, ◌+◌, ◌-◌, ◌*◌, ◌^◌, ◌≤◌, ◌<◌}
use mathlib.Core.List.{List, [], ◌∷◌, ◌++◌, append-nil}
use mathlib.Core.Path.{◌≡◌, refl, sym, ◌∙◌, ap}
use native.Mathlib.Nat.{zero-add}
use native.Mathlib.Numerals.{add-one}
use native.Mathlib.Omega.{arith}
use lib.ListN.{length, take, drop, get_or, set, length-set, length-append}
use lib.Seq.{take-nil, drop-cons, set-append_seam, append_snoc}
use Rattle.lists.specs.Fill.{zeroed}
use Rattle.lists.specs.Parts.{part}
use Rattle.spec.specs.Limits.{max_files}
use Rattle.spec.specs.Targets.{targets_of}
use Rattle.scan_targets.specs.declared.NextTarget.{NextTarget}
use Rattle.scan_targets.specs.declared.NextTarget.TheVariants.{End, Bad, Name}
use Rattle.scan_targets.specs.Next.{next_in}
use Rattle.scan_targets.proofs.Walk.{names_from, Turn, turn, ended, wrong}
use Rattle.hold_names.specs.declared.Added.{Added}
use Rattle.hold_names.specs.declared.Added.TheVariants.{Old, New, Full}
use Rattle.hold_names.specs.Table.{heads_from, max_numbers, HoldsNames, SoundNames, added, files_after, count_after, AddsName}
use Rattle.hold_names.proofs.Lies.{holds_none}
use Rattle.test_scan.specs.Targets.{good_names}
use Rattle.test_scan.specs.Names.{added_number, AddsNumber, numbered, held_after, first_names, NamesAsked, AddsAll, Room, NumbersNames}

-- ---- the names of a list, one after another

pub good_more : {t : List ℕ} {from end : ℕ} → Turn t from end → good_names (names_from t from) ≡ part t from end ∷ good_names (names_from t (end + 1))
unfolding good_names
good_more a = rw (a.rest, a.good)

pub good_end : (t : List ℕ) (from : ℕ) {r : NextTarget} → r ≡ next_in (names_from t from) → r ≡ End → good_names (names_from t from) ≡ []
unfolding good_names
good_end t from n e = rw (ended t from (sym e ∙ n))

pub good_bad : (t : List ℕ) (from : ℕ) {r : NextTarget} → r ≡ next_in (names_from t from) → r ≡ Bad → good_names (names_from t from) ≡ []
unfolding good_names
good_bad t from n e =
    let (m, b, l, h) = wrong t from (sym e ∙ n) in
    rw (h, b)

-- ---- one name

module _ {names index : List ℕ} {count : ℕ} {p names' index' : List ℕ} {r : Added} (same : length names' ≡ length names) (a : AddsName names index count p names' index' r) where
  adds_number : added_number r < 2 ^ 32 → AddsNumber names index count p names' index' (added_number r) (count_after r count)
  adds_number l =
      record {
        same = same;
        low = l;
        answer = λ files h.
            let e = a.answer files h in
            (ap added_number e, ap (λ (x : Added). count_after x count) e, rw e at (a.after files h));
      }

  pub adds_old : {k : ℕ} → k < max_files + 1 → r ≡ Old k → AddsNumber names index count p names' index' (2 * k + 1) count
  unfolding added_number count_after
  adds_old {k} b e = let l : added_number r < 2 ^ 32 = rw e (omega (arith, b)) in rw e at (adds_number l)

  pub adds_new : {k : ℕ} → k < max_files + 1 → r ≡ New k → AddsNumber names index count p names' index' (2 * k + 2) (count + 1)
  unfolding added_number count_after
  adds_new {k} b e = let l : added_number r < 2 ^ 32 = rw e (omega (arith, b)) in rw e at (adds_number l)

  pub adds_full : r ≡ Full → AddsNumber names index count p names' index' 0 count
  unfolding added_number count_after
  adds_full e = let l : added_number r < 2 ^ 32 = rw e (omega arith) in rw e at (adds_number l)

-- ---- the walk

-- the names that are left and have room
abbrev left : List ℕ → ℕ → ℕ → ℕ → List (List ℕ)
left list size from n = take (size - n) (good_names (names_from list from))

-- at a place where a name may start, with n numbers put down; what was added and what is left are all names
pub record Adding (list : List ℕ) (room : ℕ) (start : List ℕ) (from count n : ℕ) (names index numbers : List ℕ) : Type 0 where
  pub same : length numbers ≡ length start
  pub lent : length names ≡ room
  pub few : n ≤ length start
  pub files : List (List ℕ)
  pub holds : HoldsNames names index count files
  pub done : List ℕ
  pub put : length done ≡ n
  pub column : numbers ≡ done ++ drop n start
  pub counted : length (first_names start list) ≡ n + length (left list (length start) from n)
  pub all : numbered room [] (first_names start list) ≡ done ++ numbered room files (left list (length start) from n)
  pub table : held_after room [] (first_names start list) ≡ held_after room files (left list (length start) from n)

pub adding_begin : {names index : List ℕ} (list start : List ℕ) → NamesAsked names index → Adding list (length names) start 0 0 0 names index start
unfolding targets_of
adding_begin list start a =
    let z : length start - 0 ≡ length start = omega arith in
    record {
      same = refl;
      lent = refl;
      few = omega arith;
      files = [];
      holds = a.empty;
      done = [];
      put = refl;
      column = refl;
      counted = rw (z, zero-add);
      all = rw z;
      table = rw z;
    }

module _ {list : List ℕ} {room : ℕ} {start : List ℕ} {from count n : ℕ} {names index numbers : List ℕ} (w : Adding list room start from count n names index numbers) where
  pub adding_sound : SoundNames names index count
  adding_sound = record { files = w.files; holds = w.holds }

  finish : left list (length start) from n ≡ [] → AddsAll list room start n names index numbers
  unfolding numbered held_after
  finish e =
      let d : numbered room [] (first_names start list) ≡ w.done = w.all ∙ rw e (append-nil w.done) in
      let h : held_after room [] (first_names start list) ≡ w.files = w.table ∙ rw e in
      let k : length (left list (length start) from n) ≡ 0 = rw e in
      let c : count ≡ length w.files = w.holds.counted in
      record {
        counted = omega (arith, w.counted, k);
        within = w.few;
        numbers = rw d w.column;
        table = rw (h, ← c) w.holds;
      }

  pub adding_full : length numbers ≤ n → AddsAll list room start n names index numbers
  adding_full l = let z : length start - n ≡ 0 = omega (arith, w.same) in finish (rw z)

  module _ {r : NextTarget} (a : r ≡ next_in (names_from list from)) where
    adding_end : r ≡ End → AddsAll list room start n names index numbers
    adding_end e = finish (rw (good_end list from a e) (take-nil {A = List ℕ} (length start - n)))

    adding_bad : r ≡ Bad → AddsAll list room start n names index numbers
    adding_bad e = finish (rw (good_bad list from a e) (take-nil {A = List ℕ} (length start - n)))

    pub adding_turn : {end : ℕ} → r ≡ Name end → Turn list from end
    adding_turn {end} e = turn list from end (sym e ∙ a)

  pub adding_done : (r : NextTarget) → r ≡ next_in (names_from list from) → ((end : ℕ) → r ≡ Name end → ⊥) → AddsAll list room start n names index numbers
  adding_done End a h = adding_end a refl
  adding_done Bad a h = adding_bad a refl
  adding_done (Name end) a h = absurd (h end refl)

  module _ (l : n < length numbers) {end : ℕ} (t : Turn list from end) {names' index' : List ℕ} {number count' : ℕ} (a : AddsNumber names index count (part list from end) names' index' number count') where
    pub adding_more : Adding list room start (end + 1) count' (n + 1) names' index' (set numbers n number)
    unfolding numbered held_after
    adding_more =
        let path = part list from end in
        let files = w.files in
        let done = w.done in
        let rest = left list (length start) (end + 1) (n + 1) in
        let s : length start - n ≡ suc (length start - (n + 1)) = omega (arith, w.same) in
        let e : left list (length start) from n ≡ path ∷ rest = rw (s, good_more t) in
        let (i, j, h) = rw w.lent at (a.answer files w.holds) in
        let k : n < length start = omega (arith, w.same) in
        let d : drop n start ≡ get_or start n 0 ∷ drop (suc n) start = drop-cons start n 0 k in
        let x : numbers ≡ done ++ get_or start n 0 ∷ drop (suc n) start = w.column ∙ ap (λ (r : List ℕ). done ++ r) d in
        let y : set numbers n number ≡ set (done ++ get_or start n 0 ∷ drop (suc n) start) (length done) number = rw (w.put, x) in
        let z : set numbers n number ≡ done ++ number ∷ drop (suc n) start = y ∙ set-append_seam done (get_or start n 0) (drop (suc n) start) number in
        record {
          same = simp length-set w.same;
          lent = a.same ∙ w.lent;
          few = omega arith;
          files = files_after (added room path files) path files;
          holds = rw j h;
          done = done ++ (number ∷ []);
          put = omega (arith, length-append done (number ∷ []), w.put);
          column = z ∙ rw (add-one n) (sym (append_snoc done number (drop (suc n) start)));
          counted = omega (arith, w.counted, ap length e);
          all = w.all ∙ rw (e, ← i) (sym (append_snoc done number (numbered room (files_after (added room path files) path files) rest)));
          table = w.table ∙ rw e;
        }

-- ---- buffers of any length

module _ {list names index numbers : List ℕ} where
  pub refused : (Room names index → ⊥) → NumbersNames list names index numbers 0 names index numbers
  refused n = record { refuses = λ _. record { none = refl; bytes = refl; links = refl; column = refl }; adds = λ r. absurd (n r) }

  pub numbers_all : length names < 2 ^ 32 → max_numbers ≤ length index → {names' index' numbers' : List ℕ} {n : ℕ} → AddsAll list (length names) numbers n names' index' numbers'
      → NumbersNames list names index numbers (n + 1) names' index' numbers'
  numbers_all s m {n = n} a = record { refuses = λ f. absurd (f (record { small = s; room = m })); adds = λ _. (n, refl, a) }

-- the table of none
pub empty_table : (names index : List ℕ) → length names < 2 ^ 32 → max_numbers ≤ length index → {cleared : List ℕ} → cleared ≡ zeroed index heads_from max_numbers → NamesAsked names cleared
empty_table names index s m e = record { empty = rw e (holds_none names index s m) }
