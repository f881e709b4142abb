-- Readings for texts, one behind another: the check of all texts, and the lines of those that are held.
use Rattle.std.specs.Prelude.{Result, Ok, Err}
use Rattle.std.specs.Result.{result_unwrap_or}
use Prim.Native.Nat.{ℕ, ◌+◌, ◌≤◌, ◌<◌}
use native.Mathlib.Omega.{arith}
use mathlib.Core.List.{List, ◌++◌}
use mathlib.Core.Path.{◌≡◌, refl, sym, ◌∙◌, ap}
use lib.ListN.{length, take, drop, length-drop}
use lib.Seq.{drop-length, drop-drop, length-take-le}
use Rattle.lists.specs.Parts.{part, length_part, part_to_end}
use Rattle.answers.specs.declared.Numbers.{Numbers as Two}
use Rattle.printing.specs.Writes.{LeavesOutput}
use Rattle.report_lines.specs.Cut.{TextsInOrder, cut_texts, lines_of_texts, CutWanted}
use Rattle.report_output.specs.Output.{fine, check_texts, step_lines}
use Rattle.report.specs.declared.Lines.{Lines}
use Rattle.report.specs.Held.{AreCommands, HeldTexts, TextRooms, TextsWanted, HoldsSome, AskedIs, AllFine, CheckedIs, ToWrite, LineRooms, NextWanted, LinesWanted, MakesLines}
use Rattle.report.proofs.Texts.{front_filled, commands_pass, commands_lines, lines_apart}

held_none : (bundle steps bytes ends : List ℕ) → HeldTexts bundle steps bytes ends 0
unfolding TextsInOrder AreCommands cut_texts
held_none bundle steps bytes ends = record { few = omega arith; placed = omega arith; order = tt; commands = tt }

-- The check goes on behind the steps whose texts are held.
held_pass : {bundle steps bytes ends : List ℕ} {n : ℕ} → HeldTexts bundle steps bytes ends n → check_texts bundle steps ≡ check_texts bundle (drop n steps)
held_pass {bundle} {steps} {bytes} {ends} {n} h = commands_pass bundle n steps (cut_texts bytes 0 (take n ends)) h.commands

none_left : (bundle steps : List ℕ) (n : ℕ) → n ≡ length steps → check_texts bundle (drop n steps) ≡ fine
unfolding check_texts
none_left bundle steps n e = rw (e, drop-length steps)

-- ---- the check of all texts

-- the first i texts are fine
pub record Checking (bundle steps bytes₀ ends₀ bytes ends : List ℕ) (i : ℕ) : Type 0 where
  pub within : i ≤ length steps
  pub bytes_kept : length bytes ≡ length bytes₀
  pub ends_kept : length ends ≡ length ends₀
  pub rest : check_texts bundle (drop i steps) ≡ check_texts bundle steps

pub checking_start : (bundle steps bytes ends : List ℕ) → Checking bundle steps bytes ends bytes ends 0
checking_start bundle steps bytes ends = record { within = omega arith; bytes_kept = refl; ends_kept = refl; rest = refl }

module _ {bundle steps bytes₀ ends₀ bytes ends : List ℕ} {i : ℕ} (k : i < length steps) (c : Checking bundle steps bytes₀ ends₀ bytes ends i) where
  pub checking_asks : TextRooms bytes₀ ends₀ → TextsWanted (part steps i (length steps)) bytes ends
  checking_asks r =
      record {
        some = omega (arith, k, length_part steps i (length steps) (omega arith));
        rooms = record { bytes_room = omega (arith, c.bytes_kept, r.bytes_room); ends_room = omega (arith, c.ends_kept, r.ends_room) };
      }

  module _ (bytes₁ ends₁ : List ℕ) where
    asked_some : (n : ℕ) → AskedIs bundle (part steps i (length steps)) bytes₁ ends₁ (Ok n) → HoldsSome bundle (drop i steps) bytes₁ ends₁ n
    unfolding AskedIs
    asked_some n a = rw (part_to_end steps i) at a

    pub checking_more : (n : ℕ) → AskedIs bundle (part steps i (length steps)) bytes₁ ends₁ (Ok n) → (0 < n) × (i + n ≤ length steps)
    checking_more n a = ((asked_some n a).some, omega (arith, k, (asked_some n a).held.few, length-drop i steps))

    pub checking_on : (n : ℕ) → length bytes₁ ≡ length bytes → length ends₁ ≡ length ends → AskedIs bundle (part steps i (length steps)) bytes₁ ends₁ (Ok n)
        → Checking bundle steps bytes₀ ends₀ bytes₁ ends₁ (i + n)
    checking_on n x y a =
        record {
          within = (checking_more n a).1;
          bytes_kept = x ∙ c.bytes_kept;
          ends_kept = y ∙ c.ends_kept;
          rest = sym (ap (check_texts bundle) (drop-drop n i steps)) ∙ sym (held_pass (asked_some n a).held) ∙ c.rest;
        }

    -- All steps' texts are held: it was the first reading.
    pub checking_all : (n : ℕ) → n ≡ length steps → AskedIs bundle (part steps i (length steps)) bytes₁ ends₁ (Ok n) → CheckedIs bundle steps bytes₁ ends₁ (Ok n)
    unfolding CheckedIs
    checking_all n e a =
        let z : i ≡ 0 = omega (arith, k, e, (asked_some n a).held.few, length-drop i steps) in
        let h : HeldTexts bundle steps bytes₁ ends₁ n = rw z at (asked_some n a).held in
        record { fine = sym (held_pass h ∙ none_left bundle steps n e); held = h }

    pub checking_stops : (x : Two) → AskedIs bundle (part steps i (length steps)) bytes₁ ends₁ (Err x) → CheckedIs bundle steps bytes₁ ends₁ (Err x)
    unfolding CheckedIs AskedIs
    checking_stops x a = a ∙ ap (check_texts bundle) (part_to_end steps i) ∙ c.rest

pub checking_end : {bundle steps bytes₀ ends₀ bytes ends : List ℕ} {i : ℕ} → length steps ≤ i → Checking bundle steps bytes₀ ends₀ bytes ends i
    → CheckedIs bundle steps bytes ends (Ok 0)
unfolding CheckedIs
checking_end {bundle} {steps} {bytes₀} {ends₀} {bytes} {ends} {i} h c =
    record { fine = sym (sym c.rest ∙ none_left bundle steps i (omega (arith, c.within))); held = held_none bundle steps bytes ends }

-- ---- the next steps

module _ {bundle steps bytes ends : List ℕ} {held : ℕ} (w : NextWanted bundle steps bytes ends held) where
  pub next_held : (held ≡ 0 → ⊥) → HoldsSome bundle steps bytes ends held
  next_held h = record { some = omega (arith, h); held = w.rest.held }

  next_asked : (n : ℕ) (bytes₁ ends₁ : List ℕ) → AskedIs bundle steps bytes₁ ends₁ (Ok n) → HoldsSome bundle steps bytes₁ ends₁ n
  unfolding AskedIs
  next_asked n bytes₁ ends₁ a = a

  -- All texts are checked.
  next_refused : {A : Type 0} (x : Two) (bytes₁ ends₁ : List ℕ) → AskedIs bundle steps bytes₁ ends₁ (Err x) → A
  unfolding AskedIs
  next_refused x bytes₁ ends₁ a =
      let e = a ∙ sym w.rest.fine in
      absurd (let z : ◌≡◌ {A = ℕ} 0 1 = cc in omega arith)

  pub next_or : (r : Result ℕ Two) (bytes₁ ends₁ : List ℕ) → AskedIs bundle steps bytes₁ ends₁ r → HoldsSome bundle steps bytes₁ ends₁ (result_unwrap_or r 0)
  next_or (Ok n) bytes₁ ends₁ a = next_asked n bytes₁ ends₁ a
  next_or (Err x) bytes₁ ends₁ a = next_refused x bytes₁ ends₁ a

-- What was to be written is the lines that were made, and those from the next place on.
lines_on : (bundle steps : List ℕ) {out out_exit : List ℕ} {r : ℕ} (place n : ℕ) → LeavesOutput (step_lines bundle (length steps) place (take n (drop place steps))) out r out_exit
    → step_lines bundle (length steps) place (drop place steps) ≡ take r out_exit ++ step_lines bundle (length steps) (place + n) (drop (place + n) steps)
lines_on bundle steps {out} {out_exit} {r} place n l =
    let made = step_lines bundle (length steps) place (take n (drop place steps)) in
    let f : take r out_exit ≡ made = ap (λ (k : ℕ). take k out_exit) l.count ∙ ap (take (length made)) l.left ∙ front_filled made out in
    lines_apart bundle (length steps) n place (drop place steps)
    ∙ ap (λ (x : List ℕ). x ++ step_lines bundle (length steps) (place + n) (drop n (drop place steps))) (sym f)
    ∙ ap (λ (x : List ℕ). take r out_exit ++ step_lines bundle (length steps) (place + n) x) (drop-drop n place steps)

module _ {bundle steps bytes ends out : List ℕ} {place held : ℕ} (w : LinesWanted bundle steps bytes ends out place held) where
  pub lines_next : NextWanted bundle (part steps place (length steps)) bytes ends held
  lines_next =
      record {
        wanted = record { some = omega (arith, w.more, length_part steps place (length steps) (omega arith)); rooms = w.left.rooms.texts };
        rest = rw (part_to_end steps place) w.left.rest;
      }

  module _ (n : ℕ) (bytes₁ ends₁ : List ℕ) (h : HoldsSome bundle (part steps place (length steps)) bytes₁ ends₁ n) where
    now_held : HoldsSome bundle (drop place steps) bytes₁ ends₁ n
    now_held = rw (part_to_end steps place) at h

    pub lines_placed_law : n ≤ length ends₁
    lines_placed_law = now_held.held.placed

    pub lines_cut : length bytes₁ ≡ length bytes → length ends₁ ≡ length ends → CutWanted bytes₁ (take n ends₁) out place (length steps)
    lines_cut x y =
        record {
          order = now_held.held.order;
          counted = omega (arith, w.more, now_held.held.few, length-drop place steps, length-take-le n ends₁ lines_placed_law);
          room = omega (arith, x, y, lines_placed_law, w.left.rooms.lines, length-take-le n ends₁ lines_placed_law);
        }

    pub lines_made : (out_exit : List ℕ) (r : ℕ) → LeavesOutput (lines_of_texts (length steps) place (cut_texts bytes₁ 0 (take n ends₁))) out r out_exit
        → MakesLines bundle steps place (record { steps = n; bytes = r }) bytes₁ ends₁ out out_exit
    lines_made out_exit r l =
        let made : LeavesOutput (step_lines bundle (length steps) place (take n (drop place steps))) out r out_exit =
        rw (commands_lines bundle (length steps) place (take n (drop place steps)) (cut_texts bytes₁ 0 (take n ends₁)) now_held.held.commands) at l in
        record { holds = now_held; lines = made; on = lines_on bundle steps place n made }

-- ---- the program's rounds

pub rounds_start : {bundle steps bytes ends out : List ℕ} {held : ℕ} → AllFine bundle steps bytes ends held → LineRooms bytes ends out
    → ToWrite bundle steps bytes ends out 0 held
rounds_start a r = record { within = omega arith; rest = a; rooms = r }

-- Only the lengths of the buffers count.
pub rooms_kept : {bytes ends out bytes₁ ends₁ out₁ : List ℕ} → length bytes₁ ≡ length bytes → length ends₁ ≡ length ends → length out₁ ≡ length out → LineRooms bytes ends out
    → LineRooms bytes₁ ends₁ out₁
rooms_kept x y z r =
    record {
      texts = record { bytes_room = omega (arith, x, r.texts.bytes_room); ends_room = omega (arith, y, r.texts.ends_room) };
      lines = omega (arith, x, y, z, r.lines);
    }

module _ {bundle steps bytes ends out bytes₁ ends₁ out₁ : List ℕ} {place held : ℕ} {r : Lines} (w : ToWrite bundle steps bytes ends out place held)
    (m : MakesLines bundle steps place r bytes₁ ends₁ out out₁) where
  -- one step at least, and no more than there are
  pub rounds_more : (0 < r.steps) × (place + r.steps ≤ length steps)
  rounds_more = (m.holds.some, omega (arith, w.within, m.holds.held.few, length-drop place steps))

  pub rounds_next : length bytes₁ ≡ length bytes → length ends₁ ≡ length ends → length out₁ ≡ length out → ToWrite bundle steps bytes₁ ends₁ out₁ (place + r.steps) 0
  rounds_next x y z =
      record {
        within = rounds_more.1;
        rest = record {
          fine = w.rest.fine ∙ held_pass m.holds.held ∙ ap (check_texts bundle) (drop-drop r.steps place steps);
          held = held_none bundle (drop (place + r.steps) steps) bytes₁ ends₁;
        };
        rooms = rooms_kept x y z w.rooms;
      }
