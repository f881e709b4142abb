-- Lines up to the first that opens a file, and that file: how far the lines are read.
use Rattle.std.specs.Prelude.{Result}
use Prim.Native.Nat.{ℕ, ◌+◌, ◌-◌, ◌≤◌, ◌<◌}
use mathlib.Core.Bool.{Bool}
use mathlib.Core.List.{List, [], ◌++◌}
use mathlib.Core.Path.{◌≡◌, refl, sym, ◌∙◌, ap}
use native.Mathlib.Omega.{arith}
use lib.ListN.{length, drop, get_or, drop_of_length-le}
use Rattle.lists.specs.Parts.{part, length_part}
use Rattle.spec.specs.Manifest.{read_line, Opener}
use Rattle.scan_cursor.specs.Spans.{line_in}
use Rattle.scan_cursor.specs.Found.{lines_in, Bounds}
use Rattle.hold_reading.specs.declared.Counts.{Counts}
use Rattle.hold_reading.specs.declared.Open.{Open}
use Rattle.hold_reading.specs.declared.Open.TheVariants.{Nothing}
use Rattle.hold_reading.specs.declared.LineTurn.TheVariants.{Opens as TurnOpens}
use Rattle.hold_reading.specs.Buffers.{Buffers, SameRoom}
use Rattle.apply_statements.specs.Asks.{BetweenLines, LineMeets, TurnMeets}
use Rattle.apply_stretch.specs.Stretches.{placed_at, lines_placed, read_each, LinesDone, StretchOpens}
use Rattle.apply_stretch.proofs.Each.{Same, append_nil, no_files, each_between, each_pair, each_forward, each_within, each_on}
use Rattle.apply_texts.specs.Texts.{TurnAsk, LinesMeet, EachAsk, FileAsk}
use Rattle.apply_texts.proofs.Files.{turn_opened, raw_ordered, raw_within, file_asks}
use Rattle.spec.specs.declared.Refusal.{Refusal}
use Rattle.hold_reading.specs.declared.State.{State}
use Rattle.hold_reading.specs.Went.{went}

-- ---- no line opens a file

pub all_done : (via : Opener) (base : ℕ) (m found : List ℕ) (k : ℕ) {bs : Buffers} {c : Counts} {o : Open} {bs' : Buffers} {a : Result State Refusal} → k < length found
    → LineMeets bs c o (read_each via (lines_placed base m (drop k found))) bs' a → LinesMeet via base m found k bs c o bs' (record { next = length found; answer = a })
unfolding lines_in Bounds
all_done via base m found k h x =
    let ls = lines_placed base m (drop k found) in
    let e : drop (length found) found ≡ [] = drop_of_length-le found {i = length found} (omega arith) in
    record {
      forward = h;
      done =
          record {
            done = ls;
            left = sym (ap (λ (l : List ℕ). ls ++ lines_placed base m l) e ∙ append_nil ls);
            bounds = rw e tt;
            meets = x;
          };
    }

-- ---- one does

module _ {base : ℕ} {m found : List ℕ} {k : ℕ} {bs : Buffers} {c : Counts} {o : Open} {bs' : Buffers} {j : ℕ} {d : Counts} {sub : Bool} {from to : ℕ}
    (r : StretchOpens base m found k bs c o bs' j d sub from to) where
  pub opens_two : j + 1 < length found
  opens_two = (each_pair (r.before no_files) r.below).two

  -- the line's start and its end, as they were taken from the numbers
  module _ {x y : ℕ} (ex : x ≡ get_or found j 0) (ey : y ≡ get_or found (j + 1) 0) where
    pub opens_forward : x ≤ y
    opens_forward = each_forward (r.before no_files) r.below ex ey

    pub opens_within : y ≤ length m
    opens_within = each_within (r.before no_files) r.below ex ey

    line_turn_law : TurnMeets (placed_at base (line_in m x y)) r.held r.counts r.block (read_line (placed_at base (line_in m x y))) bs' (TurnOpens d sub from to)
    line_turn_law = rw (ex, ey) r.turn

    module _ {t s word : List ℕ} (ask : TurnAsk t s m base found k bs word c o) where
      between : BetweenLines r.held r.counts r.block
      between = each_between (r.before no_files) refl ask.lines.between

      pub path_ordered : from < to
      path_ordered = raw_ordered line_turn_law between

      pub path_within : to ≤ length (part m x y)
      path_within = raw_within line_turn_law between

      pub opens_asks : {word' : List ℕ} → SameRoom bs bs' → length word' ≡ length word → FileAsk t s (part (part m x y) from to) bs' word' d
      opens_asks e w =
          let l : length (part m x y) ≡ y - x = length_part m x y opens_within in
          let q = ask.lines.room in
          file_asks line_turn_law ask.lines.table ask.bundle (rw l (omega (arith, ask.lines.short, opens_within))) between
          (record {
            names_room = rw e.names.long q.names_room;
            scratch = rw e.graph.long q.scratch;
            word_room = rw w q.word_room;
          })

    pub opens_done : (via : Opener) {bs'' : Buffers} {a : Result State Refusal} → LineMeets bs' d Nothing (λ rd b. via (base + x) sub (part (part m x y) from to) rd) bs'' a
        → LinesMeet via base m found k bs c o bs'' (record { next = j + 2; answer = a })
    opens_done via h = record { forward = omega (arith, r.forward); done = each_on (r.before via) r.below ex ey refl (turn_opened line_turn_law via h) }

-- ---- the loop over them

module _ {via : Opener} {base : ℕ} {m found : List ℕ} {bs₀ : Buffers} {c₀ : Counts} {o₀ : Open} {bs : Buffers} {a : Result State Refusal} {k : ℕ}
    (g : LinesDone via base m found 0 bs₀ c₀ o₀ bs a k) {c : Counts} {o : Open} where
  pub turn_asked : {t s word₀ word : List ℕ} → EachAsk t s m base found bs₀ word₀ c₀ o₀ → k < length found → a ≡ went c o → Same bs₀ word₀ bs word
      → TurnAsk t s m base found k bs word c o
  turn_asked ask h e w =
      let q = ask.lines in
      record {
        bundle = ask.bundle;
        some = h;
        lines =
            record {
              table = q.table;
              short = q.short;
              near = q.near;
              few = q.few;
              bounds = g.bounds;
              room =
                  record {
                    names_room = rw w.names_same q.room.names_room;
                    scratch = rw w.graph_same q.room.scratch;
                    word_room = rw w.word_same q.room.word_room;
                  };
              between = each_between g e q.between;
            };
      }
