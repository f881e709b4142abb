-- The loop that writes the names of files.
use Prim.Native.Nat.{ℕ, zero, suc, ◌+◌, ◌≤◌, ◌<◌}
use mathlib.Core.List.{List, [], ◌∷◌, ◌++◌, append-nil}
use mathlib.Core.Path.{◌≡◌, refl, ◌∙◌, ap}
use native.Mathlib.Numerals.{add-one}
use native.Mathlib.Omega.{arith}
use lib.ListN.{length, drop, get_or, drop_of_length-le}
use lib.Seq.{drop-cons}
use Rattle.spec.specs.Limits.{max_text}
use Rattle.spec.specs.Text.{Spelling, joined_by}
use Rattle.hold_names.specs.Table.{HoldsNames}
use Rattle.text_buffer.specs.Puts.{OpenText, PutsText, names_in, headed, FileNameAsk, FileNamesAsk}
use Rattle.text_buffer.proofs.Parts.{puts_over, puts_then, open_on, Done, done_none, done_on, done_over, done_end}

-- ---- one name

first : (c : ℕ) (m : List ℕ) (j : ℕ) → j ≡ 0 → headed c j m ≡ m
unfolding headed
first c m zero z = refl
first c m (suc j) z = absurd (omega arith)

module _ {names index fs buffer : List ℕ} {count place i f : ℕ} (a : FileNamesAsk names index count fs buffer place) (b : i < length fs) (e : f ≡ get_or fs i 0) where
  pub name_ask : {now : List ℕ} {n : ℕ} → OpenText now n → FileNameAsk names index count f now n
  name_ask o = record { named = a.named; low = rw e (a.low i b); free = o }

  pub head_first : (spell : Spelling) (c : ℕ) {after : List ℕ} {r : ℕ} → i ≡ 0 → ((files : List (List ℕ)) → HoldsNames names index count files → PutsText buffer place (spell (get_or files f [])) after r)
      → (files : List (List ℕ)) → HoldsNames names index count files → PutsText buffer place (headed c i (spell (get_or files (get_or fs i 0) []))) after r
  head_first spell c z p files h = rw (first c (spell (get_or files (get_or fs i 0) [])) i z, ← e) (p files h)

  module _ (spell : Spelling) (c : ℕ) (z : i ≡ 0 → ⊥) {middle : List ℕ} {n : ℕ} (p : PutsText buffer place (c ∷ []) middle n) where
    later : (m : List ℕ) (j : ℕ) → (j ≡ 0 → ⊥) → headed c j m ≡ c ∷ m
    unfolding headed
    later m zero w = absurd (w refl)
    later m (suc j) w = refl

    pub head_over : max_text < n → (files : List (List ℕ)) → HoldsNames names index count files → PutsText buffer place (headed c i (spell (get_or files (get_or fs i 0) []))) middle n
    head_over h files k = rw (later (spell (get_or files (get_or fs i 0) [])) i z) (puts_over p h (spell (get_or files (get_or fs i 0) [])))

    pub head_on : {after : List ℕ} {r : ℕ} → n ≤ max_text → ((files : List (List ℕ)) → HoldsNames names index count files → PutsText middle n (spell (get_or files f [])) after r)
        → (files : List (List ℕ)) → HoldsNames names index count files → PutsText buffer place (headed c i (spell (get_or files (get_or fs i 0) []))) after r
    head_on h q files k = rw (later (spell (get_or files (get_or fs i 0) [])) i z, ← e) (puts_then p h (q files k))

-- ---- one name after another

-- what is left to write from name i on
unfoldable pub tail_from : ℕ → ℕ → List (List ℕ) → List ℕ
unfolding headed
tail_from c i [] = []
tail_from c i (n ∷ l) = headed c i n ++ tail_from c (suc i) l

tail_later : (c i : ℕ) (n : List ℕ) (l : List (List ℕ)) → tail_from c (suc i) (n ∷ l) ≡ c ∷ joined_by c (n ∷ l)
unfolding tail_from headed joined_by
tail_later c i n [] = ap (λ (r : List ℕ). c ∷ r) (append-nil n)
tail_later c i n (m ∷ l) = ap (λ (r : List ℕ). c ∷ (n ++ r)) (tail_later c (suc i) m l)

tail_first : (c : ℕ) (l : List (List ℕ)) → tail_from c 0 l ≡ joined_by c l
unfolding tail_from headed joined_by
tail_first c [] = refl
tail_first c (n ∷ []) = append-nil n
tail_first c (n ∷ m ∷ l) = ap (λ (r : List ℕ). n ++ r) (tail_later c 0 m l)

pub record Joining (names index : List ℕ) (count : ℕ) (fs : List ℕ) (c : ℕ) (spell : Spelling) (before : List ℕ) (place : ℕ) (now : List ℕ) (n i : ℕ) : Type 0 where
  pub ask : FileNamesAsk names index count fs now n
  pub long : length now ≡ length before
  pub done : (files : List (List ℕ)) → HoldsNames names index count files → Done (joined_by c (names_in spell files fs)) (tail_from c i (names_in spell files (drop i fs))) before place now n

pub join_begin : {names index fs before : List ℕ} {count place : ℕ} (c : ℕ) (spell : Spelling) → FileNamesAsk names index count fs before place → Joining names index count fs c spell before place before place 0
join_begin {fs = fs} c spell a =
    record {
      ask = a;
      long = refl;
      done = λ files h. done_none a.free (tail_first c (names_in spell files fs));
    }

module _ {names index fs before now : List ℕ} {count c place n i : ℕ} {spell : Spelling} (x : Joining names index count fs c spell before place now n i) (b : i < length fs) {next : List ℕ} {r : ℕ}
    (p : (files : List (List ℕ)) → HoldsNames names index count files → PutsText now n (headed c i (spell (get_or files (get_or fs i 0) []))) next r) where
  left : (files : List (List ℕ)) → tail_from c i (names_in spell files (drop i fs)) ≡ headed c i (spell (get_or files (get_or fs i 0) [])) ++ tail_from c (suc i) (names_in spell files (drop (suc i) fs))
  unfolding tail_from
  left files = rw (drop-cons fs i 0 b)

  pub join_on : r ≤ max_text → Joining names index count fs c spell before place next r (i + 1)
  join_on h =
      let w = x.ask.named in
      let q = p w.files w.holds in
      record {
        ask = record { named = w; low = x.ask.low; free = open_on q h x.ask.free };
        long = q.long ∙ x.long;
        done = λ files k. rw (add-one i) (done_on (headed c i (spell (get_or files (get_or fs i 0) []))) (tail_from c (suc i) (names_in spell files (drop (suc i) fs))) (rw (left files) at (x.done files k)) x.ask.free.low (p files k));
      }

  pub join_over : max_text < r → (files : List (List ℕ)) → HoldsNames names index count files → PutsText before place (joined_by c (names_in spell files fs)) next r
  join_over h files k = done_over (headed c i (spell (get_or files (get_or fs i 0) []))) (tail_from c (suc i) (names_in spell files (drop (suc i) fs))) (rw (left files) at (x.done files k)) x.ask.free.low (p files k) h

pub join_end : {names index fs before now : List ℕ} {count c place n i : ℕ} {spell : Spelling} → Joining names index count fs c spell before place now n i → length fs ≤ i
    → (files : List (List ℕ)) → HoldsNames names index count files → PutsText before place (joined_by c (names_in spell files fs)) now n
unfolding tail_from
join_end {fs = fs} {i = i} x h files k = done_end (rw (drop_of_length-le fs {i = i} h) at (x.done files k))
