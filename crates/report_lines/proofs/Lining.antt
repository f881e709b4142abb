-- Lines made one behind another, of texts that are cut where they end.
use Prim.Native.Nat.{ℕ, suc, ◌+◌, ◌-◌, ◌*◌, ◌≤◌, ◌<◌}
use native.Mathlib.Omega.{arith}
use mathlib.Core.List.{List, ◌++◌, append-nil, append_assoc}
use mathlib.Core.Path.{◌≡◌, refl, sym, ◌∙◌, ap}
use lib.ListN.{length, take, drop, get_or, replicate}
use lib.Seq.{drop-cons, drop-length, length-take-le}
use Rattle.lists.specs.Fill.{zeroed}
use Rattle.lists.specs.Parts.{part, length_part}
use Rattle.spec.specs.Promises.{filled}
use Rattle.printing.specs.Lines.{step_line_of}
use Rattle.printing.specs.Writes.{step_room, PutsUpTo, LeavesOutput}
use Rattle.report_lines.specs.Cut.{TextsInOrder, cut_texts, lines_of_texts, CutWanted}

-- i texts, which end at `from`, are in the lines' first bytes
pub record Lining (place count : ℕ) (bytes ends out₀ out : List ℕ) (i from behind : ℕ) : Type 0 where
  pub within : i ≤ length ends
  pub kept : length out ≡ length out₀
  pub order : TextsInOrder bytes from (drop i ends)
  pub start : from ≤ length bytes
  pub room : behind + (length bytes - from) + step_room * (length ends - i) ≤ length out₀
  pub front : take behind out ++ lines_of_texts count (place + i) (cut_texts bytes from (drop i ends)) ≡ lines_of_texts count place (cut_texts bytes 0 ends)

pub lining_start : {bytes ends out : List ℕ} {place count : ℕ} → CutWanted bytes ends out place count → Lining place count bytes ends out out 0 0 0
lining_start {bytes} {ends} {out} {place} {count} w =
    let z : place + 0 ≡ place = omega arith in
    record { within = omega arith; kept = refl; order = w.order; start = omega arith; room = omega (arith, w.room); front = rw z }

module _ {place count : ℕ} {bytes ends out₀ out : List ℕ} {i from behind : ℕ} (e : ℕ) (k : i < length ends) (w : e ≡ get_or ends i 0)
    (l : Lining place count bytes ends out₀ out i from behind) where
  next_order : (from ≤ e) × (e ≤ length bytes) × TextsInOrder bytes e (drop (suc i) ends)
  unfolding TextsInOrder
  next_order = rw w (rw (drop-cons ends i 0 k) at l.order)

  pub lining_from : from ≤ e
  lining_from = next_order.0

  pub lining_to : e ≤ length bytes
  lining_to = next_order.1

  long : length (part bytes from e) ≡ e - from
  long = length_part bytes from e lining_to

  pub lining_room : behind + (length (part bytes from e) + step_room) ≤ length out
  lining_room = omega (arith, k, long, lining_from, lining_to, l.room, l.kept)

  next_front : lines_of_texts count (place + i) (cut_texts bytes from (drop i ends))
      ≡ step_line_of (place + i + 1) count (part bytes from e) ++ lines_of_texts count (place + (i + 1)) (cut_texts bytes e (drop (i + 1) ends))
  unfolding lines_of_texts cut_texts
  next_front =
      let a : place + i + 1 ≡ suc (place + i) = omega arith in
      let b : place + (i + 1) ≡ suc (place + i) = omega arith in
      let d : i + 1 ≡ suc i = omega arith in
      rw (drop-cons ends i 0 k, a, b, d, w)

  pub lining_on : (out₁ : List ℕ) (r : ℕ) → length out₁ ≡ length out → PutsUpTo (length (part bytes from e) + step_room) (step_line_of (place + i + 1) count (part bytes from e)) out behind out₁ r
      → Lining place count bytes ends out₀ out₁ (i + 1) e r
  lining_on out₁ r x p =
      let d : i + 1 ≡ suc i = omega arith in
      record {
        within = omega (arith, k);
        kept = x ∙ l.kept;
        order = rw d next_order.2;
        start = lining_to;
        room = omega (arith, k, long, lining_from, lining_to, l.room, p.short);
        front =
            ap (λ (s : List ℕ). s ++ lines_of_texts count (place + (i + 1)) (cut_texts bytes e (drop (i + 1) ends))) p.puts.front
            ∙ append_assoc (take behind out) (step_line_of (place + i + 1) count (part bytes from e)) (lines_of_texts count (place + (i + 1)) (cut_texts bytes e (drop (i + 1) ends)))
            ∙ ap (λ (s : List ℕ). take behind out ++ s) (sym next_front)
            ∙ l.front;
      }

lined : {place count : ℕ} {bytes ends out₀ out : List ℕ} {i from behind : ℕ} → length ends ≤ i → Lining place count bytes ends out₀ out i from behind
    → take behind out ≡ lines_of_texts count place (cut_texts bytes 0 ends)
unfolding lines_of_texts cut_texts
lined {place} {count} {bytes} {ends} {out₀} {out} {i} {from} {behind} h l =
    let z : i ≡ length ends = omega (arith, l.within) in
    sym (append-nil (take behind out)) ∙ (rw (z, drop-length ends) at l.front)

pub lining_end : {place count : ℕ} {bytes ends out₀ out : List ℕ} {i from behind : ℕ} (exit : List ℕ) → length ends ≤ i → Lining place count bytes ends out₀ out i from behind
    → exit ≡ zeroed out behind (length out) → LeavesOutput (lines_of_texts count place (cut_texts bytes 0 ends)) out₀ behind exit
unfolding zeroed filled
lining_end {place} {count} {bytes} {ends} {out₀} {out} {i} {from} {behind} exit h l z =
    let f = lined h l in
    let n : length (take behind out) ≡ behind = length-take-le behind out (omega (arith, l.room, l.kept)) in
    rw (← f)
    (record { count = sym n; left = z ∙ rw (drop-length out, n, l.kept) (append-nil (take behind out ++ replicate (length out₀ - behind) 0)) })
