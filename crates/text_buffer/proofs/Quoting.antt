-- Names in quotes and names that stay.
use Prim.Native.Nat.{ℕ, suc, ◌+◌, ◌-◌, ◌≤◌, ◌<◌}
use mathlib.Core.List.{List, [], ◌∷◌, ◌++◌, append_assoc}
use mathlib.Core.Bool.{true, false}
use mathlib.Core.Path.{◌≡◌, refl, sym, ◌∙◌, ap, subst}
use native.Mathlib.Numerals.{add-one}
use native.Mathlib.Omega.{arith}
use lib.Dec.{eqb, leb}
use lib.ListN.{length, drop, set, get_or, length-append, length-set, drop_of_length-le}
use lib.Seq.{drop-cons}
use borrow.Author.Tests.{leb-true, leb-false, le-leb, lt-leb, eqb-true, eqb-false, ne_eqb}
use Rattle.lists.specs.Members.{has, all}
use Rattle.lists.specs.Tests.{split}
use Rattle.lists.specs.Text.{bytes}
use Rattle.spec.specs.Bytes.{between, letter, digit}
use Rattle.spec.specs.Limits.{max_text}
use Rattle.spec.specs.Text.{quote, safe_byte, inside_quotes, quoted}
use Rattle.text_buffer.specs.Puts.{OpenText, PutsText, to_close}
use Rattle.text_buffer.proofs.Parts.{open_on, puts_long, puts_byte, puts_again, Done, done_none, done_on, done_over, done_end}

-- ---- safe bytes

module _ (b : ℕ) where
  apart : (k : ℕ) → (b ≡ k → ⊥) → eqb b k ≡ false
  apart k h = ne_eqb b k h

  pub safe_low_letter : 97 ≤ b → leb b 122 ≡ safe_byte b
  unfolding safe_byte letter digit between has
  safe_low_letter h =
      split (leb b 122)
      (λ (e : leb b 122 ≡ true). rw (e, le-leb 65 b (omega arith), lt-leb b 90 (omega arith), le-leb 97 b h))
      (λ (e : leb b 122 ≡ false). rw (e, le-leb 65 b (omega arith), lt-leb b 90 (omega arith), le-leb 97 b h, le-leb 48 b (omega arith), lt-leb b 57 (omega arith), apart 95 (λ q. omega arith), apart 43 (λ q. omega arith), apart 45 (λ q. omega arith), apart 46 (λ q. omega arith), apart 47 (λ q. omega arith)))

  pub safe_underscore : b ≡ 95 → true ≡ safe_byte b
  unfolding safe_byte letter digit between has
  safe_underscore e = rw e

  pub safe_high_letter : b < 97 → (b ≡ 95 → ⊥) → 65 ≤ b → leb b 90 ≡ safe_byte b
  unfolding safe_byte letter digit between has
  safe_high_letter l z h =
      split (leb b 90)
      (λ (e : leb b 90 ≡ true). rw (e, le-leb 65 b h))
      (λ (e : leb b 90 ≡ false). rw (e, le-leb 65 b h, lt-leb 97 b l, le-leb 48 b (omega arith), lt-leb b 57 (omega arith), apart 95 z, apart 43 (λ q. omega arith), apart 45 (λ q. omega arith), apart 46 (λ q. omega arith), apart 47 (λ q. omega arith)))

  -- `-`, `.`, `/` and the digits
  between_digits : b < 65 → 48 ≤ b → leb b 57 ≡ safe_byte b
  unfolding safe_byte letter digit between has
  between_digits l h =
      split (leb b 57)
      (λ (e : leb b 57 ≡ true). rw (e, lt-leb 65 b l, lt-leb 97 b (omega arith), le-leb 48 b h))
      (λ (e : leb b 57 ≡ false). rw (e, lt-leb 65 b l, lt-leb 97 b (omega arith), le-leb 48 b h, apart 95 (λ q. omega arith), apart 43 (λ q. omega arith), apart 45 (λ q. omega arith), apart 46 (λ q. omega arith), apart 47 (λ q. omega arith)))

  below_digits : b < 48 → 45 ≤ b → safe_byte b ≡ true
  unfolding safe_byte letter digit between has
  below_digits l h =
      split (eqb b 45) (λ (e : eqb b 45 ≡ true). rw (eqb-true b 45 e)) λ (d : eqb b 45 ≡ false).
      split (eqb b 46) (λ (e : eqb b 46 ≡ true). rw (eqb-true b 46 e)) λ (f : eqb b 46 ≡ false).
      let s : b ≡ 47 = omega (arith, eqb-false b 45 d, eqb-false b 46 f) in
      rw s

  pub safe_digit : b < 65 → 45 ≤ b → leb b 57 ≡ safe_byte b
  safe_digit l h =
      split (leb 48 b) (λ (e : leb 48 b ≡ true). between_digits l (leb-true 48 b e))
      (λ (e : leb 48 b ≡ false). le-leb b 57 (omega (arith, leb-false 48 b e)) ∙ sym (below_digits (leb-false 48 b e) h))

  pub safe_plus : b < 45 → eqb b 43 ≡ safe_byte b
  unfolding safe_byte letter digit between has
  safe_plus l =
      split (eqb b 43)
      (λ (e : eqb b 43 ≡ true). rw (e, lt-leb 65 b (omega arith), lt-leb 97 b (omega arith), lt-leb 48 b (omega arith), apart 95 (λ q. omega arith)))
      (λ (e : eqb b 43 ≡ false). rw (e, lt-leb 65 b (omega arith), lt-leb 97 b (omega arith), lt-leb 48 b (omega arith), apart 95 (λ q. omega arith), apart 45 (λ q. omega arith), apart 46 (λ q. omega arith), apart 47 (λ q. omega arith)))

-- ---- within quotes

pub inside_quote : (b : ℕ) → b ≡ quote → inside_quotes (b ∷ []) ≡ bytes "'\\''"
unfolding inside_quotes
inside_quote b e = rw e

pub inside_other : (b : ℕ) → (b ≡ quote → ⊥) → inside_quotes (b ∷ []) ≡ b ∷ []
unfolding inside_quotes
inside_other b h = rw (ne_eqb b quote h)

inside_cons : (b : ℕ) (l : List ℕ) → inside_quotes (b ∷ l) ≡ inside_quotes (b ∷ []) ++ inside_quotes l
unfolding inside_quotes
inside_cons b l = split (eqb b quote) (λ (e : eqb b quote ≡ true). rw e) (λ (e : eqb b quote ≡ false). rw e)

pub record ToClose (name before : List ℕ) (place : ℕ) (now : List ℕ) (n i : ℕ) : Type 0 where
  pub free : OpenText now n
  pub long : length now ≡ length before
  pub done : Done (to_close name) (to_close (drop i name)) before place now n

pub close_begin : (name : List ℕ) {before : List ℕ} {place : ℕ} → OpenText before place → ToClose name before place before place 0
close_begin name o = record { free = o; long = refl; done = done_none o refl }

module _ {name before now : List ℕ} {place n i : ℕ} (x : ToClose name before place now n i) where
  module _ (b : i < length name) {next : List ℕ} {r : ℕ} (p : PutsText now n (inside_quotes (get_or name i 0 ∷ [])) next r) where
    left : to_close (drop i name) ≡ inside_quotes (get_or name i 0 ∷ []) ++ to_close (drop (suc i) name)
    left =
        ap to_close (drop-cons name i 0 b)
        ∙ ap (λ (l : List ℕ). l ++ (quote ∷ [])) (inside_cons (get_or name i 0) (drop (suc i) name))
        ∙ append_assoc (inside_quotes (get_or name i 0 ∷ [])) (inside_quotes (drop (suc i) name)) (quote ∷ [])

    from : Done (to_close name) (inside_quotes (get_or name i 0 ∷ []) ++ to_close (drop (suc i) name)) before place now n
    from = subst (λ (l : List ℕ). Done (to_close name) l before place now n) left x.done

    pub close_on : r ≤ max_text → ToClose name before place next r (i + 1)
    close_on h =
        record {
          free = open_on p h x.free;
          long = p.long ∙ x.long;
          done = rw (add-one i) (done_on (inside_quotes (get_or name i 0 ∷ [])) (to_close (drop (suc i) name)) from x.free.low p);
        }

    pub close_over : max_text < r → PutsText before place (to_close name) next r
    close_over h = done_over (inside_quotes (get_or name i 0 ∷ [])) (to_close (drop (suc i) name)) from x.free.low p h

  pub close_end : length name ≤ i → {after : List ℕ} {r : ℕ} → PutsText now n (quote ∷ []) after r → PutsText before place (to_close name) after r
  unfolding inside_quotes
  close_end h p =
      let d : Done (to_close name) ((quote ∷ []) ++ []) before place now n = subst (λ (l : List ℕ). Done (to_close name) (to_close l) before place now n) (drop_of_length-le name {i = i} h) x.done in
      done_end (done_on (quote ∷ []) [] d x.free.low p)

-- ---- a name while it is copied

pub record Copying (name before : List ℕ) (place : ℕ) (now : List ℕ) (i : ℕ) : Type 0 where
  pub within : place + length name ≤ max_text
  pub low : place + i ≤ max_text
  pub long : length now ≡ length before
  pub room : max_text ≤ length now
  pub done : Done name (drop i name) before place now (place + i)
  -- no byte before this one is unsafe
  pub safe : all safe_byte name ≡ all safe_byte (drop i name)

length_inside : (n : List ℕ) → length n ≤ length (inside_quotes n)
unfolding inside_quotes
length_inside [] = omega arith
length_inside (b ∷ n) =
    let r = length_inside n in
    split (eqb b quote) (λ (e : eqb b quote ≡ true). rw e (omega (arith, r))) (λ (e : eqb b quote ≡ false). rw e (omega (arith, r)))

length_quoted : (n : List ℕ) → length n ≤ length (quoted n)
unfolding quoted
length_quoted n =
    split (all safe_byte n) (λ (e : all safe_byte n ≡ true). rw e (omega arith))
    (λ (e : all safe_byte n ≡ false). rw (e, length-append) (omega (arith, length_inside n)))

-- a name that is too long as it is is too long in quotes
pub quoted_long : (buffer : List ℕ) (place : ℕ) (name : List ℕ) → 8192 - place < length name → PutsText buffer place (quoted name) buffer 8193
quoted_long buffer place name h = puts_long buffer place (quoted name) (omega (arith, length_quoted name))

pub copy_begin : (name : List ℕ) {before : List ℕ} {place : ℕ} → OpenText before place → length name ≤ 8192 - place → Copying name before place before 0
copy_begin name {before} {place} o h =
    let e : place + 0 ≡ place = omega arith in
    record { within = omega (arith, o.low); low = omega (arith, o.low); long = refl; room = o.room; done = rw e (done_none o refl); safe = refl }

module _ {name before now : List ℕ} {place i : ℕ} (x : Copying name before place now i) where
  open_here : OpenText now (place + i)
  open_here = record { room = x.room; low = x.low }

  pub copy_open : OpenText now place
  copy_open = record { room = x.room; low = omega (arith, x.low) }

  module _ (b : i < length name) where
    safe_here : all safe_byte name ≡ all safe_byte (get_or name i 0 ∷ drop (suc i) name)
    safe_here = x.safe ∙ ap (all safe_byte) (drop-cons name i 0 b)

    pub copy_on : safe_byte (get_or name i 0) ≡ true → Copying name before place (set now (place + i) (get_or name i 0)) (i + 1)
    unfolding all
    copy_on s =
        let e : place + (i + 1) ≡ place + i + 1 = omega arith in
        let d = subst (λ (l : List ℕ). Done name l before place now (place + i)) (drop-cons name i 0 b) x.done in
        record {
          within = x.within;
          low = omega (arith, x.within);
          long = length-set now (place + i) (get_or name i 0) ∙ x.long;
          room = rw (length-set now (place + i) (get_or name i 0)) x.room;
          done = rw (e, add-one i)
              (done_on (get_or name i 0 ∷ []) (drop (suc i) name) d x.low (puts_byte now (place + i) open_here (get_or name i 0) (omega (arith, x.within))));
          safe = rw (add-one i) (safe_here ∙ rw s);
        }

    pub copy_quoted : safe_byte (get_or name i 0) ≡ false → OpenText before place → {after : List ℕ} {r : ℕ} → PutsText now place (quote ∷ to_close name) after r → PutsText before place (quoted name) after r
    unfolding quoted all
    copy_quoted s o p =
        let u : all safe_byte name ≡ false = safe_here ∙ rw s in
        rw u (puts_again o x.done.puts x.low p)

  pub copy_end : length name ≤ i → i ≤ length name → PutsText before place (quoted name) now (place + length name)
  unfolding quoted all
  copy_end h l =
      let q : place + length name ≡ place + i = omega arith in
      let z : drop i name ≡ [] = drop_of_length-le name {i = i} h in
      let u : all safe_byte name ≡ true = x.safe ∙ ap (all safe_byte) z in
      rw (q, u) (done_end (subst (λ (l : List ℕ). Done name l before place now (place + i)) z x.done))
