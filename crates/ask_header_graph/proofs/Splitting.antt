-- The loop that splits what the depfiles tell into two columns.
use Prim.Native.Nat.{ℕ, ◌+◌, ◌/◌, ◌%◌, ◌≤◌, ◌<◌}
use mathlib.Core.Bool.{Bool, true, false}
use mathlib.Core.List.{List, map}
use mathlib.Core.Path.{◌≡◌, sym, ◌∙◌, ap}
use native.Mathlib.Omega.{arith}
use borrow.Author.Tests.{ltb-true, ltb-false}
use lib.Dec.{ltb}
use lib.ListN.{length, get_or, set, length-set, length-map, get_or-map}
use lib.Seq.{get_or-set_same, get_or-set_other, ext_get_or}
use Rattle.lists.specs.Tests.{split}
use Rattle.lists.specs.Parts.{length_part, get_d_part}
use Rattle.spec.specs.Headers.{Listed, nothing_listed, listed_of}
use Rattle.hold_columns.specs.Columns.{bit}
use Rattle.hold_reading.specs.Held.{rule_start}
use Rattle.hold_headers.specs.Headed.{listed_number, listed_in}
use Rattle.ask_header_graph.specs.Split.{SplitAsked, SplitsLists}

-- ---- what a number tells

bit_low : (b : Bool) → bit b ≤ 1
bit_low true = omega arith
bit_low false = omega arith

tells_missing : (l : Listed) → listed_number l % 2 ≡ bit l.missing
unfolding listed_number
tells_missing l = omega (arith, bit_low l.missing)

tells_listed : (l : Listed) → listed_number l / 2 ≡ length l.files
unfolding listed_number
tells_listed l = omega (arith, bit_low l.missing)

-- ---- the loop

pub record Splitting (second : List ℕ) (steps : ℕ) (missing listed : List ℕ) (s : ℕ) : Type 0 where
  pub asks : SplitAsked second steps missing listed
  pub within : s ≤ steps
  pub misses : (i : ℕ) → i < s → get_or missing i 0 ≡ listed_in second i % 2
  pub lists : (i : ℕ) → i < s → get_or listed i 0 ≡ listed_in second i / 2

pub split_begin : {second : List ℕ} {steps : ℕ} {missing listed : List ℕ} → SplitAsked second steps missing listed → Splitting second steps missing listed 0
split_begin a = record { asks = a; within = omega arith; misses = λ i b. absurd (omega arith); lists = λ i b. absurd (omega arith) }

-- a column with an entry more
entry_more : (l : List ℕ) (s : ℕ) (f : ℕ → ℕ) → s < length l → ((i : ℕ) → i < s → get_or l i 0 ≡ f i) → (i : ℕ) → i < s + 1 → get_or (set l s (f s)) i 0 ≡ f i
entry_more l s f b h i c =
    split (ltb i s)
    (λ (e : ltb i s ≡ true). let d = ltb-true i s e in get_or-set_other l s i (f s) 0 (λ z. absurd (omega (arith, z, d))) ∙ h i d)
    (λ (e : ltb i s ≡ false).
    let d = ltb-false i s e in
    let z : i ≡ s = omega (arith, d) in
    rw z (get_or-set_same l s (f s) 0 b))

module _ {second : List ℕ} {steps : ℕ} {missing listed : List ℕ} {s : ℕ} (x : Splitting second steps missing listed s) where
  pub split_more : s < steps → {n : ℕ} → n ≡ listed_in second s → {missing' listed' : List ℕ} → missing' ≡ set missing s (n % 2) → listed' ≡ set listed s (n / 2)
      → Splitting second steps missing' listed' (s + 1)
  split_more h {n} e {missing'} {listed'} p q =
      let a = x.asks in
      rw (p, q, e)
      record {
        asks =
            record {
              long = a.long;
              few = a.few;
              small = a.small;
              missing_long = length-set missing s (listed_in second s % 2) ∙ a.missing_long;
              listed_long = length-set listed s (listed_in second s / 2) ∙ a.listed_long;
            };
        within = omega arith;
        misses = entry_more missing s (λ i. listed_in second i % 2) (omega (arith, a.missing_long)) x.misses;
        lists = entry_more listed s (λ i. listed_in second i / 2) (omega (arith, a.listed_long)) x.lists;
      }

  pub split_end : steps ≤ s → SplitsLists second steps missing listed
  unfolding listed_number
  split_end h =
      record {
        splits = λ ls e.
            let a = x.asks in
            let n : length ls ≡ steps =
            sym (length-map ls listed_number) ∙ ap length (sym e) ∙ length_part second rule_start (rule_start + steps) (omega (arith, a.long, a.few)) ∙ omega arith in
            let at : (i : ℕ) → i < steps → listed_in second i ≡ listed_number (listed_of ls i) =
            λ i b. sym (get_d_part second rule_start (rule_start + steps) i (omega arith)) ∙ ap (λ (l : List ℕ). get_or l i 0) e ∙ get_or-map listed_number ls i nothing_listed in (
              ext_get_or 0 missing (map (λ (l : Listed). bit l.missing) ls) (a.missing_long ∙ sym n ∙ sym (length-map ls (λ (l : Listed). bit l.missing)))
                  (λ i b.
                  x.misses i (omega (arith, a.missing_long))
                  ∙ ap (λ (k : ℕ). k % 2) (at i (omega (arith, a.missing_long)))
                  ∙ tells_missing (listed_of ls i)
                  ∙ sym (get_or-map (λ (l : Listed). bit l.missing) ls i nothing_listed)),
              ext_get_or 0 listed (map (λ (l : Listed). length l.files) ls) (a.listed_long ∙ sym n ∙ sym (length-map ls (λ (l : Listed). length l.files)))
                  (λ i b.
                  x.lists i (omega (arith, a.listed_long))
                  ∙ ap (λ (k : ℕ). k / 2) (at i (omega (arith, a.listed_long)))
                  ∙ tells_listed (listed_of ls i)
                  ∙ sym (get_or-map (λ (l : Listed). length l.files) ls i nothing_listed)),
            );
      }
