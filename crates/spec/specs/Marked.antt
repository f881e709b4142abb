-- The marked cases of document 01, M1 to M10, as one table, from the bytes of manifests, cards and target lists. `proofs/Marked.antt` proves it.
use Rattle.std.specs.Prelude.{ℕ, ◌+◌, ◌*◌, List, [], ◌∷◌, ◌++◌, ◌≡◌, true, length, Result}
use Prim.Native.String.{String}
use Rattle.lists.specs.Text.{bytes}
use Rattle.spec.specs.declared.Wanted.TheVariants.{Command}
use Rattle.spec.specs.Reading.{Step}
use Rattle.spec.specs.Card.{in_bytes, Entry, sound_card, card_entries, time_in}
use Rattle.spec.specs.Bundle.{alone, no_lists}
use Rattle.spec.specs.Answers.{plan_says, says}
use Rattle.spec.specs.Promises.{AnswerIs, filled, PlanPromise}
use Rattle.spec.specs.PlanAsk.{PlanOutcome, inputs_of, plan_ask, listed}
use Rattle.spec.specs.TextAsk.{TextOutcome, text_ask, text}
use Rattle.spec.specs.declared.Refusal.{Refusal}

abbrev pub on : String → ℕ → Entry
on n t = record { name = bytes n; time = t }

abbrev pub record_bytes : ℕ → List Entry → List ℕ
record_bytes at [] = []
record_bytes at (e ∷ l) = in_bytes 4 at ++ (in_bytes 4 (length e.name) ++ (in_bytes 8 e.time ++ record_bytes (at + length e.name) l))

abbrev pub name_bytes : List Entry → List ℕ
name_bytes [] = []
name_bytes (e ∷ l) = e.name ++ name_bytes l

-- the bytes of the card with these entries
abbrev pub card_of : List Entry → List ℕ
card_of l =
    in_bytes 4 (length l) ++ (in_bytes 4 16 ++ (in_bytes 4 (16 + 16 * length l) ++ (in_bytes 4 (16 + 16 * length l + length (name_bytes l)) ++ (record_bytes 0 l ++ name_bytes l))))

abbrev pub bench : List ℕ
bench =
    bytes
    "cflags = -O1\nrule cc\n  command = cc $cflags -c $in -o $out\nbuild b.o: cc b.c\nbuild a.o: cc a.c | t.h\n  cflags = -O2\nbuild axis: phony a.o b.o\ndefault axis\n"

abbrev pub plan : List ℕ → List Entry → String → PlanOutcome
plan manifest card targets = plan_ask (inputs_of (alone manifest) (card_of card) (bytes targets) no_lists) 512

abbrev pub command : List ℕ → ℕ → TextOutcome
command manifest s = text_ask (alone manifest) s Command 8192

-- the phony step that makes file f of these explicit inputs
abbrev pub phony_step_of : ℕ → List ℕ → Step
phony_step_of f ins = record { outs = f ∷ []; ins = ins; implicit = []; order_only = []; rule = bytes "phony"; block = []; scope = 0 }

-- count 1, records at 16, names at 32, 33 bytes in all; the record (offset 0, length 1, time 5); the name
abbrev pub card_of_a : List ℕ
card_of_a =
    (1 ∷ 0 ∷ 0 ∷ 0 ∷ 16 ∷ 0 ∷ 0 ∷ 0 ∷ 32 ∷ 0 ∷ 0 ∷ 0 ∷ 33 ∷ 0 ∷ 0 ∷ 0 ∷ []) ++ ((0 ∷ 0 ∷ 0 ∷ 0 ∷ 1 ∷ 0 ∷ 0 ∷ 0 ∷ 5 ∷ 0 ∷ 0 ∷ 0 ∷ 0 ∷ 0 ∷ 0 ∷ 0 ∷ []) ++ (97 ∷ []))

pub record Marked : Type 0 where
  -- the bench as it stands: steps 0 and 1, with their texts
  pub m0 : plan bench (on "a.c" 5 ∷ on "a.o" 7 ∷ on "b.c" 5 ∷ on "t.h" 9 ∷ []) "" ≡ listed (0 ∷ 1 ∷ [])
  pub m0_first : command bench 0 ≡ text (bytes "cc -O1 -c b.c -o b.o")
  pub m0_second : command bench 1 ≡ text (bytes "cc -O2 -c a.c -o a.o")
  -- (M1) with b.o at 7 the list is 1 alone
  pub m1 : plan bench (on "a.c" 5 ∷ on "a.o" 7 ∷ on "b.c" 5 ∷ on "b.o" 7 ∷ on "t.h" 9 ∷ []) "" ≡ listed (1 ∷ [])
  -- (M2) a.o and t.h both 9: a.o fresh; and nothing is stale with b.o at 7 too
  pub m2 : plan bench (on "a.c" 5 ∷ on "a.o" 9 ∷ on "b.c" 5 ∷ on "t.h" 9 ∷ []) "" ≡ listed (0 ∷ [])
  pub m2_none : plan bench (on "a.c" 5 ∷ on "a.o" 9 ∷ on "b.c" 5 ∷ on "b.o" 7 ∷ on "t.h" 9 ∷ []) "" ≡ listed []
  -- (M3) `x$`, newline, three spaces, `y` gives `xy`
  pub m3 : command (bytes "rule r\n  command = x$\n   y\nbuild a: r\n") 0 ≡ text (bytes "xy")
  -- (M4) `$out.d` is `$out` then `.d`
  pub m4 : command (bytes "rule r\n  command = $out.d\nbuild a: r\n") 0 ≡ text (bytes "a.d")
  -- (M5) `a = x # y` keeps all
  pub m5 : command (bytes "a = x # y\nrule r\n  command = $a\nbuild o: r\n") 0 ≡ text (bytes "x # y")
  -- (M6) `v = 1`, a rule with `x $v`, a step, `v = 2`: text `x 2`
  pub m6 : command (bytes "v = 1\nrule r\n  command = x $v\nbuild a: r\nv = 2\n") 0 ≡ text (bytes "x 2")
  -- (M7) `build a: phony a`, target a: 14, circle 0: whatever answers must say so, and write that circle
  pub m7 : (lent : List ℕ) (answer : Result ℕ Refusal) (exit : List ℕ) → length lent ≡ 512
      → PlanPromise (inputs_of (alone (bytes "build a: phony a\n")) (card_of []) (bytes "a\n") no_lists) lent answer exit → AnswerIs (plan_says answer) exit (says 14 1) (filled (0 ∷ []) lent)
  -- (M8) a circle no target reaches: no 14
  pub m8 : plan (bytes "build a: phony a\nbuild b: phony\n") [] "b\n" ≡ listed []
  -- (M9) order-only input newer: fresh
  pub m9 : plan (bytes "rule r\n  command = x\nbuild a: r b || c\n") (on "a" 5 ∷ on "b" 5 ∷ on "c" 9 ∷ []) "" ≡ listed []
  -- (M10) card of one file a, time 5: 33 bytes
  pub m10_length : length card_of_a ≡ 33
  pub m10_bytes : card_of (on "a" 5 ∷ []) ≡ card_of_a
  pub m10_sound : sound_card card_of_a ≡ true
  pub m10_time : time_in (card_entries card_of_a) (bytes "a") ≡ 5
