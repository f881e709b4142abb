-- The loop over the lines of a text, some at a time: what is held before each turn, and that the lines that are left end as all lines do.
use Rattle.std.specs.Prelude.{Result, Err}
use Prim.Native.Nat.{ℕ, ◌≤◌}
use mathlib.Core.Bool.{true, false}
use mathlib.Core.List.{List, [], ◌∷◌, ◌++◌, map}
use mathlib.Core.Path.{◌≡◌, refl, sym, ◌∙◌, ap, subst}
use native.Mathlib.Omega.{arith}
use lib.ListN.{length, take, drop, get_or}
use lib.Seq.{length-take-le}
use Rattle.lists.specs.Tests.{split, and_left}
use Rattle.spec.specs.declared.Refusal.{Refusal}
use Rattle.spec.specs.Answers.{base_of}
use Rattle.spec.specs.Bundle.{bundle_texts}
use Rattle.spec.specs.Lines.{Line, is_comment}
use Rattle.spec.specs.Reading.{Reading}
use Rattle.spec.specs.Statements.{Block, Outcome, refused}
use Rattle.spec.specs.Manifest.{close, and_then, read_line, Opener, opening, read_lines, text_lines}
use Rattle.scan_lines.specs.Endings.{lines_at}
use Rattle.scan_lines.proofs.Ends.{lines_end}
use Rattle.scan_cursor.specs.declared.Found.{Found}
use Rattle.scan_cursor.specs.Spans.{is_passed}
use Rattle.scan_cursor.specs.Found.{lines_in, uncommented, FoundAsk, LinesFound}
use Rattle.hold_reading.specs.declared.Counts.{Counts}
use Rattle.hold_reading.specs.declared.Open.{Open}
use Rattle.hold_reading.specs.declared.Open.TheVariants.{Nothing}
use Rattle.hold_reading.specs.Held.{Agrees, goes, refuses}
use Rattle.hold_reading.specs.Binds.{SoundBlock, Meets}
use Rattle.hold_reading.specs.Buffers.{Buffers}
use Rattle.hold_reading.proofs.Lift.{met, sound}
use Rattle.hold_reading.proofs.Agreement.{agreed_on, agreed_refused}
use Rattle.apply_statements.specs.Asks.{BetweenLines, LineMeets}
use Rattle.apply_stretch.specs.Stretches.{placed_at, lines_placed, read_each}
use Rattle.apply_stretch.proofs.Each.{Same, then_same, then_then, append_more, meets_more}
use Rattle.apply_texts.specs.Texts.{EachAsk, TextReadAsk}
use Rattle.scan_texts.proofs.Texts.{text_near, text_short}
use Rattle.apply_texts.proofs.Placed.{text_lines_law}
use Rattle.hold_reading.specs.declared.State.{State}
use Rattle.hold_reading.specs.Went.{went}

map_more : {A B : Type 0} (f : A → B) (l k : List A) → map f (l ++ k) ≡ map f l ++ map f k
map_more f [] k = refl
map_more f (x ∷ l) k = ap (λ j. f x ∷ j) (map_more f l k)

-- ---- the lines of a text

module _ (via : Opener) where
  -- a comment changes nothing
  uncommented_same : (base : ℕ) (ls : List Line) (rd : Reading) (b : Block) → read_lines via (map (placed_at base) (uncommented ls)) rd b ≡ read_lines via (map (placed_at base) ls) rd b
  unfolding uncommented read_lines read_line opening and_then
  uncommented_same base [] rd b = refl
  uncommented_same base (l ∷ ls) rd b =
      split (is_passed l)
      (λ (e : is_passed l ≡ true). rw (e, and_left (is_comment l.text) l.ended e) (uncommented_same base ls rd b))
      (λ (e : is_passed l ≡ false). rw e (then_same (opening via (read_line (placed_at base l) rd b)) (uncommented_same base ls)))

  -- some lines, and then the others
  each_then : (ls ks : List Line) (rd : Reading) (b : Block) → read_lines via (ls ++ ks) rd b ≡ and_then (read_each via ls rd b) (read_lines via ks)
  unfolding read_lines read_each and_then
  each_then [] ks rd b = refl
  each_then (l ∷ ls) ks rd b =
      then_same (opening via (read_line l rd b)) (each_then ls ks) ∙ sym (then_then (opening via (read_line l rd b)) (read_each via ls) (read_lines via ks))

-- the lines from place i of a text on that are no comments
abbrev pub left_from : ℕ → List ℕ → ℕ → List Line
left_from base m i = map (placed_at base) (uncommented (lines_at i (drop i m)))

left_none : (base : ℕ) (m : List ℕ) (i : ℕ) → length m ≤ i → left_from base m i ≡ []
unfolding uncommented
left_none base m i h = rw (lines_end m i h)

-- m is text k, which begins at this place among all texts
all_lines : (via : Opener) (texts : List (List ℕ)) (k : ℕ) {m : List ℕ} {base : ℕ} → m ≡ get_or texts k [] → base ≡ base_of texts k → (rd : Reading) (b : Block)
    → read_lines via (text_lines texts k) rd b ≡ read_lines via (left_from base m 0) rd b
all_lines via texts k e f rd b =
    rw (e, f)
    (ap (λ (ls : List Line). read_lines via ls rd b) (text_lines_law texts k) ∙ sym (uncommented_same via (base_of texts k) (lines_at 0 (get_or texts k [])) rd b))

-- ---- the loop

-- before the lines from place i on
pub record Reached (via : Opener) (base : ℕ) (m : List ℕ) (bs₀ : Buffers) (c₀ : Counts) (o₀ : Open) (bs : Buffers) (c : Counts) (o : Open) (i : ℕ) : Type 0 where
  pub within : i ≤ length m
  pub done : List Line
  pub left : left_from base m 0 ≡ done ++ left_from base m i
  pub meets : LineMeets bs₀ c₀ o₀ (read_each via done) bs (went c o)

pub turn_begin : (via : Opener) (base : ℕ) (m : List ℕ) {bs : Buffers} {c : Counts} {o : Open} → Reached via base m bs c o bs c o 0
unfolding read_each
turn_begin via base m = record { within = omega arith; done = []; left = refl; meets = record { agrees = λ log rd b h p. goes h p } }

module _ {via : Opener} {base : ℕ} {m : List ℕ} {bs₀ : Buffers} {c₀ : Counts} {o₀ : Open} {bs : Buffers} {c : Counts} {o : Open} {i : ℕ}
    (g : Reached via base m bs₀ c₀ o₀ bs c o i) where
  between : BetweenLines bs₀ c₀ o₀ → BetweenLines bs c o
  between n =
      let d = agreed_on (g.meets.agrees n.log n.reading n.block n.holds n.opens) in
      record { log = d.log; reading = d.reading; block = d.block; holds = d.holds; opens = d.opens }

  -- the text's end
  pub turn_sound : BetweenLines bs₀ c₀ o₀ → SoundBlock bs.texts bs.bind c o
  turn_sound n = let w = between n in sound w.reading w.holds w.opens

  pub turn_end : (texts : List (List ℕ)) (k : ℕ) → m ≡ get_or texts k [] → base ≡ base_of texts k → {r : Result State Refusal} → length m ≤ i
      → Meets bs.texts bs.bind c o close bs.texts bs.bind r → LineMeets bs₀ c₀ o₀ (read_lines via (text_lines texts k)) bs r
  unfolding read_lines and_then
  turn_end texts k e f {r} h x =
      record {
        agrees = λ log rd b w p.
            let d = agreed_on (g.meets.agrees log rd b w p) in
            let q : read_lines via (text_lines texts k) rd b ≡ close d.reading d.block =
            all_lines via texts k e f rd b
            ∙ ap (λ (ls : List Line). read_lines via ls rd b) (g.left ∙ ap (λ (ls : List Line). g.done ++ ls) (left_none base m i h))
            ∙ each_then via g.done [] rd b
            ∙ ap (λ (out : Outcome). and_then out (read_lines via [])) d.outcome in
            subst (λ (out : Outcome). Agrees bs out r) (sym q) (met d.reading d.holds d.opens x);
      }

-- what finding lines asks
pub found_ask : {t s : List ℕ} {k : ℕ} {bs₀ : Buffers} {word₀ : List ℕ} {c₀ : Counts} {m : List ℕ} {i : ℕ} {out : List ℕ} → TextReadAsk t s k bs₀ word₀ c₀ → m ≡ get_or (bundle_texts s) k []
    → i ≤ length m → length out ≡ 64 → FoundAsk t m i out
found_ask {s = s} {k = k} {m = m} a e h n =
    let l : length m ≡ length (get_or (bundle_texts s) k []) = ap length e in
    record { table = a.table; small = omega (arith, text_short s a.bundle k a.below); within = h; room = omega (arith, n) }

module _ {via : Opener} {base : ℕ} {m : List ℕ} {bs₀ : Buffers} {c₀ : Counts} {o₀ : Open} {bs : Buffers} {c : Counts} {o : Open} {i : ℕ}
    (w : Reached via base m bs₀ c₀ o₀ bs c o i) {out out' : List ℕ} {f : Found} (found : LinesFound m i out out' f) where
  abbrev ls : List Line
  ls = lines_placed base m (take f.filled out')

  -- they are the first of the lines that are left
  left_found : left_from base m 0 ≡ (w.done ++ ls) ++ left_from base m f.next
  left_found =
      w.left
      ∙ ap (λ (ks : List Line). w.done ++ ks)
      (ap (map (placed_at base)) found.lines ∙ map_more (placed_at base) (lines_in m (take f.filled out')) (uncommented (lines_at f.next (drop f.next m))))
      ∙ sym (append_more w.done ls (left_from base m f.next))

  pub turn_on : {bs' : Buffers} {d : Counts} {q : Open} → LineMeets bs c o (read_each via ls) bs' (went d q) → Reached via base m bs₀ c₀ o₀ bs' d q f.next
  turn_on x = record { within = found.within; done = w.done ++ ls; left = left_found; meets = meets_more via w.done ls w.meets x }

  pub turn_refused : (texts : List (List ℕ)) (k : ℕ) → m ≡ get_or texts k [] → base ≡ base_of texts k → {bs' : Buffers} {r : Refusal} → LineMeets bs c o (read_each via ls) bs' (Err r)
      → LineMeets bs₀ c₀ o₀ (read_lines via (text_lines texts k)) bs' (Err r)
  unfolding and_then
  turn_refused texts k e g {bs'} {r} x =
      record {
        agrees = λ log rd b h p.
            let all = meets_more via w.done ls w.meets x in
            let q : read_lines via (text_lines texts k) rd b ≡ refused r =
            all_lines via texts k e g rd b
            ∙ ap (λ (ks : List Line). read_lines via ks rd b) left_found
            ∙ each_then via (w.done ++ ls) (left_from base m f.next) rd b
            ∙ ap (λ (out : Outcome). and_then out (read_lines via (left_from base m f.next))) (agreed_refused (all.agrees log rd b h p)) in
            subst (λ (out : Outcome). Agrees bs' out (Err r)) (sym q) refuses;
      }

  -- what the lines ask that were found
  pub turn_asks : {t s : List ℕ} {k : ℕ} {word₀ word : List ℕ} → TextReadAsk t s k bs₀ word₀ c₀ → o₀ ≡ Nothing → m ≡ get_or (bundle_texts s) k [] → base ≡ base_of (bundle_texts s) k
      → length out ≡ 64 → Same bs₀ word₀ bs word → EachAsk t s m base (take f.filled out') bs word c o
  turn_asks {s = s} {k = k} a z e g n y =
      let r = a.room in
      let l : length m ≡ length (get_or (bundle_texts s) k []) = ap length e in
      record {
        bundle = a.bundle;
        lines =
            record {
              table = a.table;
              short = omega (arith, text_short s a.bundle k a.below);
              near = omega (arith, text_near s a.bundle k a.below, g);
              few = rw (length-take-le f.filled out' found.fits) (omega (arith, n, found.fits, found.long));
              bounds = found.bounds;
              room =
                  record {
                    names_room = rw y.names_same r.names_room;
                    scratch = rw y.graph_same r.scratch;
                    word_room = rw y.word_same r.word_room;
                  };
              between = between w (rw z a.between);
            };
      }
