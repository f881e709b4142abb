-- The loop that writes a part again.
use Prim.Native.Nat.{ℕ, ◌+◌, ◌≤◌, ◌<◌}
use mathlib.Core.List.{List, [], ◌∷◌, ◌++◌}
use mathlib.Core.Path.{◌≡◌, refl, sym, ◌∙◌, ap}
use native.Mathlib.Omega.{arith}
use lib.ListN.{length, take, get_or, get_or-append}
use lib.Seq.{length-take-le, get_or-take}
use Rattle.lists.specs.Parts.{part, part_none, part_snoc, part_append}
use Rattle.spec.specs.Limits.{max_text}
use Rattle.text_buffer.specs.Puts.{OpenText, PutsText}
use Rattle.text_buffer.proofs.Parts.{puts_none, puts_over, puts_then, open_on}
use Rattle.text_memo.specs.Draft.{WrittenPart}

pub record Copying (before : List ℕ) (from to place : ℕ) (now : List ℕ) (i n : ℕ) : Type 0 where
  pub behind : WrittenPart before from to place
  pub forward : from ≤ i
  pub within : i ≤ to
  pub free : OpenText now n
  pub long : length now ≡ length before
  pub puts : PutsText before place (part before from i) now n

pub copy_begin : {before : List ℕ} {from to place : ℕ} → WrittenPart before from to place → Copying before from to place before from place
copy_begin {before} {from} {to} {place} b =
    record {
      behind = b;
      forward = omega arith;
      within = b.ordered;
      free = b.free;
      long = refl;
      puts = rw (part_none before from from (omega arith)) (puts_none b.free);
    }

module _ {before now : List ℕ} {from to place i n : ℕ} (x : Copying before from to place now i n) (h : i < to) where
  -- the byte is still what it was
  same_byte : get_or now i 0 ≡ get_or before i 0
  same_byte =
      let f = x.puts.fits x.free.low in
      let o = x.behind.free in
      let m : length (take place before) ≡ place = length-take-le place before (omega (arith, o.low, o.room)) in
      let w = x.behind.written in
      sym (get_or-take n now i 0 (omega (arith, f.count)))
      ∙ ap (λ (l : List ℕ). get_or l i 0) f.bytes
      ∙ get_or-append (take place before) (part before from i) 0 i (omega arith)
      ∙ get_or-take place before i 0 (omega arith)

  module _ {b : ℕ} (e : b ≡ get_or now i 0) {next : List ℕ} {r : ℕ} (p : PutsText now n (b ∷ []) next r) where
    on : PutsText before place (part before from (i + 1)) next r
    on =
        let o = x.behind.free in
        let q : part before from (i + 1) ≡ part before from i ++ (b ∷ []) =
        part_snoc before from i x.forward (omega (arith, x.behind.written, o.low, o.room)) ∙ rw (e, same_byte) in
        rw q (puts_then x.puts x.free.low p)

    pub copy_on : r ≤ max_text → Copying before from to place next (i + 1) r
    copy_on k =
        record {
          behind = x.behind;
          forward = omega (arith, x.forward);
          within = omega arith;
          free = open_on p k x.free;
          long = p.long ∙ x.long;
          puts = on;
        }

    pub copy_over : max_text < r → PutsText before place (part before from to) next r
    copy_over k = rw (← (part_append before from (i + 1) to (omega (arith, x.forward)) (omega arith))) (puts_over on k (part before (i + 1) to))

pub copy_end : {before now : List ℕ} {from to place i n : ℕ} → Copying before from to place now i n → to ≤ i → PutsText before place (part before from to) now n
copy_end {before} {now} {from} {to} {place} {i} {n} x h = let z : to ≡ i = omega (arith, x.within) in rw z x.puts
