-- The loop that writes an expansion run by run.
use Prim.Native.Nat.{ℕ, ◌+◌, ◌*◌, ◌-◌, ◌≤◌}
use mathlib.Core.List.{List, [], ◌++◌, append-nil, append_assoc}
use mathlib.Core.Path.{◌≡◌, refl, sym, ◌∙◌, ap}
use native.Mathlib.Omega.{arith}
use lib.ListN.{length, drop, length-append, drop_of_length-le}
use Rattle.lists.specs.Parts.{part}
use Rattle.hold_bindings.specs.Log.{Logged}
use Rattle.hold_bindings.specs.Held.{max_texts, HoldsBindings}
use Rattle.expand_parts.specs.declared.Run.{Run}
use Rattle.expand_parts.specs.Runs.{expanded_by, bytes_of, left_of, BeginsRun, ExpandReady}
use Rattle.expand_parts.proofs.Expansions.{length_bytes, expanded_none}
use Rattle.expand_dollars.specs.Written.{laid_at, Written}
use Rattle.expand_parts.proofs.Begin.{ready_on}
use Rattle.expand_dollars.proofs.Laid.{length_laid_at, laid_none, laid_on}

-- A part of s is written, and `rest` is left.
pub record Done (s rest before word : List ℕ) (n : ℕ) : Type 0 where
  pub part : List ℕ
  pub whole : part ++ rest ≡ s
  pub written : Written before part word n

pub record Expanding (t raw texts bind : List ℕ) (count : ℕ) (before word : List ℕ) (i n : ℕ) : Type 0 where
  pub ready : ExpandReady t raw texts bind count i
  pub bounded : n ≤ max_texts * i
  pub long : length word ≡ length before
  pub done : (log : List Logged) → HoldsBindings log texts bind count → Done (expanded_by log raw) (expanded_by log (drop i raw)) before word n

pub expand_begin : {t raw texts bind : List ℕ} {count : ℕ} (word : List ℕ) → ExpandReady t raw texts bind count 0 → Expanding t raw texts bind count word word 0 0
expand_begin word r =
    record {
      ready = r;
      bounded = omega arith;
      long = refl;
      done = λ log h. record { part = []; whole = refl; written = record { count = refl; bytes = laid_none word } };
    }

module _ {t raw texts bind : List ℕ} {count : ℕ} {before word : List ℕ} {i n : ℕ} (x : Expanding t raw texts bind count before word i n) where
  module _ {r : Run} (b : BeginsRun raw texts bind count i r) where
    pub expand_on : {next : List ℕ} → next ≡ laid_at word n (bytes_of raw texts r) → Expanding t raw texts bind count before next r.next (n + (r.to - r.from))
    unfolding left_of
    expand_on {next} e =
        let k = length_bytes b.placed in
        record {
          ready = ready_on x.ready b;
          bounded = omega (arith, x.bounded, b.bounded, b.forward);
          long = ap length e ∙ length_laid_at word n (bytes_of raw texts r) ∙ x.long;
          done = λ log h.
              let d = x.done log h in
              record {
                part = d.part ++ bytes_of raw texts r;
                whole = rw append_assoc (rw (← (b.gives log h)) d.whole);
                written =
                    record {
                      count = rw length-append (omega (arith, d.written.count));
                      bytes = e ∙ rw (d.written.bytes, d.written.count) (laid_on before d.part (bytes_of raw texts r));
                    };
              };
        }

  pub expand_done : length raw ≤ i → (log : List Logged) → HoldsBindings log texts bind count → Written before (expanded_by log raw) word n
  expand_done h log k =
      let d = x.done log k in
      let e : d.part ≡ expanded_by log raw =
      sym (append-nil d.part) ∙ rw (drop_of_length-le raw {i = i} h, expanded_none log) at d.whole in
      rw (← e) d.written
