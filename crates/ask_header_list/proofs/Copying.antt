-- The loop that copies written mentions: so many are at the end of the second ones.
use Prim.Native.Nat.{ℕ, ◌+◌, ◌-◌, ◌≤◌, ◌<◌}
use mathlib.Core.List.{List, [], ◌∷◌, ◌++◌, append_assoc, append-nil}
use mathlib.Core.Path.{◌≡◌, refl, sym, ◌∙◌, ap, subst}
use native.Mathlib.Omega.{arith}
use lib.ListN.{length, get_or, set, length-set, length-append}
use Rattle.lists.specs.Parts.{part, part_none, part_snoc, length_part}
use Rattle.hold_reading.specs.declared.Counts.{Counts}
use Rattle.apply_files.specs.Lines.{Columns}
use Rattle.apply_files.proofs.Columns.{push_mention}
use Rattle.ask_header_list.specs.Copies.{CopyAsks, Copies}

pub record Copying (graph : List ℕ) (from to : ℕ) (second₀ : List ℕ) (c : Counts) (second : List ℕ) (i paths : ℕ) : Type 0 where
  pub asks : CopyAsks graph from to second₀ c
  pub long : length second ≡ length second₀
  pub after : from ≤ i
  pub within : i ≤ to
  pub counted : paths ≡ c.paths + (i - from)
  pub copied : (m e p d u f : List ℕ) → Columns second₀ m e p d u f → c.paths ≡ length m → Columns second (m ++ part graph from i) e p d u f

pub copy_begin : {graph : List ℕ} {from to : ℕ} {second : List ℕ} {c : Counts} → CopyAsks graph from to second c → Copying graph from to second c second from c.paths
copy_begin {graph} {from} {second = second} a =
    record {
      asks = a;
      long = refl;
      after = omega arith;
      within = a.ordered;
      counted = omega arith;
      copied = λ m e p d u f k q.
          subst (λ (l : List ℕ). Columns second l e p d u f) (sym (append-nil m) ∙ ap (λ (l : List ℕ). m ++ l) (sym (part_none graph from from (omega arith)))) k;
    }

module _ {graph : List ℕ} {from to : ℕ} {second₀ : List ℕ} {c : Counts} {second : List ℕ} {i paths : ℕ} (x : Copying graph from to second₀ c second i paths) where
  module _ (h : i < to) where
    pub copy_low : (paths < length second) × (get_or graph i 0 < 4294967296)
    copy_low =
        (omega (arith, x.counted, x.asks.room, x.asks.long, x.long, x.after), omega (arith, x.asks.low i x.after h))

    pub copy_more : {v : ℕ} {second' : List ℕ} → v ≡ get_or graph i 0 → second' ≡ set second paths v → Copying graph from to second₀ c second' (i + 1) (paths + 1)
    copy_more {v} {second'} q w =
        record {
          asks = x.asks;
          long = ap length w ∙ length-set second paths v ∙ x.long;
          after = omega (arith, x.after);
          within = omega arith;
          counted = omega (arith, x.counted, x.after);
          copied = λ m e p d u f k z.
              let n : length (part graph from i) ≡ i - from = length_part graph from i (omega (arith, x.asks.within)) in
              let y : paths ≡ length (m ++ part graph from i) = omega (arith, length-append m (part graph from i), n, x.counted) in
              let r : Columns (set second paths v) ((m ++ part graph from i) ++ (v ∷ [])) e p d u f =
              push_mention (x.copied m e p d u f k z) v paths y (omega (arith, x.counted, x.asks.room, x.after)) in
              let t : (m ++ part graph from i) ++ (v ∷ []) ≡ m ++ part graph from (i + 1) =
              append_assoc m (part graph from i) (v ∷ [])
              ∙ ap (λ (l : List ℕ). m ++ l) (ap (λ (a : ℕ). part graph from i ++ (a ∷ [])) q ∙ sym (part_snoc graph from i x.after (omega (arith, x.asks.within)))) in
              subst (λ (l : List ℕ). Columns second' l e p d u f) t (subst (λ (g : List ℕ). Columns g ((m ++ part graph from i) ++ (v ∷ [])) e p d u f) (sym w) r);
        }

  pub copy_end : to ≤ i → Copies graph from to second₀ c second (record { files = c.files; steps = c.steps; paths = paths; defaults = c.defaults; entries = c.entries; rules = c.rules; bindings = c.bindings; mentions = c.mentions; written = c.written; opened = c.opened })
  copy_end h =
      let z : i ≡ to = omega (arith, x.within) in
      let y : paths ≡ c.paths + (to - from) = omega (arith, x.counted) in
      record { copied = rw z at x.copied; counted = rw y }
