-- Lines read one after the other: what some lines say together, and the loop over those that were found.
use Rattle.std.specs.Prelude.{Result, Err}
use Prim.Native.Nat.{ℕ, suc, ◌+◌, ◌-◌, ◌≤◌, ◌<◌}
use mathlib.Core.Bool.{Bool, true, false}
use mathlib.Core.List.{List, [], ◌∷◌, ◌++◌, map}
use mathlib.Core.Path.{◌≡◌, refl, sym, ◌∙◌, ap, subst}
use native.Mathlib.Numerals.{add-one}
use native.Mathlib.Omega.{arith}
use borrow.Author.Tests.{ltb-true, ltb-false}
use lib.Dec.{ltb}
use lib.ListN.{length, drop, get_or, drop_of_length-le}
use lib.Seq.{drop-cons}
use Rattle.lists.specs.Tests.{split}
use Rattle.lists.specs.Parts.{part, length_part}
use Rattle.spec.specs.declared.Refusal.{Refusal}
use Rattle.spec.specs.Lines.{Line}
use Rattle.spec.specs.Reading.{Reading}
use Rattle.spec.specs.Statements.{Block, no_block, Outcome, goes_on, opens, refused}
use Rattle.spec.specs.Manifest.{and_then, read_line, Opener, opening}
use Rattle.scan_cursor.specs.Spans.{line_in}
use Rattle.scan_cursor.specs.Found.{lines_in, Bounds}
use Rattle.scan_cursor.proofs.Finding.{append_one}
use Rattle.hold_reading.specs.declared.Counts.{Counts}
use Rattle.hold_reading.specs.declared.Open.{Open}
use Rattle.hold_reading.specs.declared.LineTurn.TheVariants.{Answered as TurnAnswered, Opens as TurnOpens}
use Rattle.hold_reading.specs.Held.{Agrees, goes, refuses}
use Rattle.hold_reading.specs.Buffers.{Buffers}
use Rattle.hold_reading.proofs.Agreement.{agreed_on, agreed_refused, turned_answer}
use Rattle.apply_statements.specs.Asks.{BetweenLines, LineMeets, TurnMeets, LineAsks}
use Rattle.apply_stretch.specs.declared.Stretch.TheVariants.{Answered, Opens}
use Rattle.apply_stretch.specs.Stretches.{read_each, placed_at, lines_placed, LinesDone, StretchAsk, StretchOpens, StretchMeets, stretch_answers, stretch_opens}
use Rattle.hold_reading.specs.declared.State.{State}
use Rattle.hold_reading.specs.Went.{went}

-- the buffers have the lengths that they began with
pub record Same (bs₀ : Buffers) (word₀ : List ℕ) (bs : Buffers) (word : List ℕ) : Type 0 where
  pub names_same : length bs.names ≡ length bs₀.names
  pub ends_same : length bs.index ≡ length bs₀.index
  pub texts_same : length bs.texts ≡ length bs₀.texts
  pub bind_same : length bs.bind ≡ length bs₀.bind
  pub graph_same : length bs.graph ≡ length bs₀.graph
  pub word_same : length word ≡ length word₀

pub same_begin : {bs : Buffers} {word : List ℕ} → Same bs word bs word
same_begin = record { names_same = refl; ends_same = refl; texts_same = refl; bind_same = refl; graph_same = refl; word_same = refl }

pub append_nil : {A : Type 0} (l : List A) → l ++ [] ≡ l
append_nil [] = refl
append_nil (x ∷ l) = ap (λ k. x ∷ k) (append_nil l)

pub append_more : {A : Type 0} (l k j : List A) → (l ++ k) ++ j ≡ l ++ (k ++ j)
append_more [] k j = refl
append_more (x ∷ l) k j = ap (λ r. x ∷ r) (append_more l k j)

-- ---- one part after the other

pub then_same : (out : Outcome) {f g : Reading → Block → Outcome} → ((rd : Reading) (b : Block) → f rd b ≡ g rd b) → and_then out f ≡ and_then out g
unfolding and_then
then_same (goes_on rd b) h = h rd b
then_same (opens start sub raw rd) h = refl
then_same (refused r) h = refl

pub then_then : (out : Outcome) (f g : Reading → Block → Outcome) → and_then (and_then out f) g ≡ and_then out (λ rd b. and_then (f rd b) g)
unfolding and_then
then_then (goes_on rd b) f g = refl
then_then (opens start sub raw rd) f g = refl
then_then (refused r) f g = refl

module _ (via : Opener) where
  each_more : (ls ks : List Line) (rd : Reading) (b : Block) → read_each via (ls ++ ks) rd b ≡ and_then (read_each via ls rd b) (read_each via ks)
  unfolding read_each and_then
  each_more [] ks rd b = refl
  each_more (l ∷ ls) ks rd b =
      then_same (opening via (read_line l rd b)) (each_more ls ks) ∙ sym (then_then (opening via (read_line l rd b)) (read_each via ls) (read_each via ks))

  then_none : (out : Outcome) → and_then out (read_each via []) ≡ out
  unfolding and_then read_each
  then_none (goes_on rd b) = refl
  then_none (opens start sub raw rd) = refl
  then_none (refused r) = refl

  each_one : (l : Line) (rd : Reading) (b : Block) → read_each via (l ∷ []) rd b ≡ opening via (read_line l rd b)
  unfolding read_each
  each_one l rd b = then_none (opening via (read_line l rd b))

  module _ {bs : Buffers} {c : Counts} {o : Open} (ls ks : List Line) {bs' : Buffers} where
    -- the answer to these lines is how the next ones find the buffers
    pub meets_more : {d : Counts} {p : Open} {bs'' : Buffers} {r : Result State Refusal} → LineMeets bs c o (read_each via ls) bs' (went d p) → LineMeets bs' d p (read_each via ks) bs'' r
        → LineMeets bs c o (read_each via (ls ++ ks)) bs'' r
    unfolding and_then
    meets_more {bs'' = bs''} {r = r} a k =
        record {
          agrees = λ log rd b h p.
              let g = agreed_on (a.agrees log rd b h p) in
              let e : read_each via (ls ++ ks) rd b ≡ read_each via ks g.reading g.block =
              each_more ls ks rd b ∙ ap (λ (out : Outcome). and_then out (read_each via ks)) g.outcome in
              subst (λ (out : Outcome). Agrees bs'' out r) (sym e) (k.agrees g.log g.reading g.block g.holds g.opens);
        }

    -- after a refusal no other line is read
    pub meets_stop : {r : Refusal} → LineMeets bs c o (read_each via ls) bs' (Err r) → LineMeets bs c o (read_each via (ls ++ ks)) bs' (Err r)
    unfolding and_then
    meets_stop {r} a =
        record {
          agrees = λ log rd b h p.
              let e : read_each via (ls ++ ks) rd b ≡ refused r =
              each_more ls ks rd b ∙ ap (λ (out : Outcome). and_then out (read_each via ks)) (agreed_refused (a.agrees log rd b h p)) in
              subst (λ (out : Outcome). Agrees bs' out (Err r)) (sym e) refuses;
        }

  meets_one : {bs : Buffers} {c : Counts} {o : Open} (l : Line) {bs' : Buffers} {r : Result State Refusal} → LineMeets bs c o (λ rd b. opening via (read_line l rd b)) bs' r
      → LineMeets bs c o (read_each via (l ∷ [])) bs' r
  meets_one l {bs'} {r} a =
      record { agrees = λ log rd b h p. subst (λ (out : Outcome). Agrees bs' out r) (sym (each_one l rd b)) (a.agrees log rd b h p) }

-- ---- a line that opens no file

-- what an answer agrees with opens no file
opens_none : (via : Opener) {bs : Buffers} {out : Outcome} {r : Result State Refusal} → Agrees bs out r → Agrees bs (opening via out) r
unfolding opening
opens_none via (goes h p) = goes h p
opens_none via refuses = refuses

module _ (via : Opener) {l : Line} {bs : Buffers} {c : Counts} {o : Open} {bs' : Buffers} where
  pub turn_answered : {r : Result State Refusal} → TurnMeets l bs c o (read_line l) bs' (TurnAnswered r) → LineMeets bs c o (λ rd b. opening via (read_line l rd b)) bs' r
  turn_answered m = record { agrees = λ log rd b h p. opens_none via (turned_answer (m.agrees log rd b h p)) }

-- ---- the numbers of one line

-- the line at place k of the numbers, and those behind it
pub record Paired (m found : List ℕ) (k : ℕ) : Type 0 where
  pub two : k + 1 < length found
  pub forward : get_or found k 0 ≤ get_or found (k + 1) 0
  pub within : get_or found (k + 1) 0 ≤ length m
  pub lines : lines_in m (drop k found) ≡ line_in m (get_or found k 0) (get_or found (k + 1) 0) ∷ lines_in m (drop (k + 2) found)
  pub bounds : Bounds m (drop (k + 2) found)

module _ (m found : List ℕ) (k : ℕ) (h : k < length found) (b : Bounds m (drop k found)) where
  abbrev x : ℕ
  x = get_or found k 0

  abbrev y : ℕ
  y = get_or found (k + 1) 0

  first : drop k found ≡ x ∷ drop (k + 1) found
  first = rw add-one (drop-cons found k 0 h)

  -- the numbers come in pairs
  two : k + 1 < length found
  unfolding Bounds
  two =
      split (ltb (k + 1) (length found)) (λ (e : ltb (k + 1) (length found) ≡ true). ltb-true _ _ e)
      (λ (e : ltb (k + 1) (length found) ≡ false).
      let z : drop (k + 1) found ≡ [] = drop_of_length-le found {i = k + 1} (ltb-false _ _ e) in
      absurd (subst (Bounds m) (first ∙ ap (λ (l : List ℕ). x ∷ l) z) b))

  both : drop k found ≡ x ∷ y ∷ drop (k + 2) found
  both =
      let z : suc (k + 1) ≡ k + 2 = omega arith in
      first ∙ ap (λ (l : List ℕ). x ∷ l) (drop-cons found (k + 1) 0 two ∙ ap (λ (j : ℕ). y ∷ drop j found) z)

  pub paired : Paired m found k
  unfolding Bounds lines_in
  paired =
      let w : Bounds m (x ∷ y ∷ drop (k + 2) found) = subst (Bounds m) both b in
      record { two = two; forward = w.0; within = w.1; lines = ap (lines_in m) both; bounds = w.2 }

-- ---- the loop

pub each_begin : (via : Opener) {t m : List ℕ} {base : ℕ} {found : List ℕ} {k₀ : ℕ} {bs₀ : Buffers} {word₀ : List ℕ} {c₀ : Counts} {o₀ : Open}
    → StretchAsk t m base found k₀ bs₀ word₀ c₀ o₀ → LinesDone via base m found k₀ bs₀ c₀ o₀ bs₀ (went c₀ o₀) k₀
unfolding read_each
each_begin via ask = record { done = []; left = refl; bounds = ask.bounds; meets = record { agrees = λ log rd b h p. goes h p } }

module _ {via : Opener} {base : ℕ} {m found : List ℕ} {k₀ : ℕ} {bs₀ : Buffers} {c₀ : Counts} {o₀ : Open} {bs : Buffers} {a : Result State Refusal} {k : ℕ}
    (g : LinesDone via base m found k₀ bs₀ c₀ o₀ bs a k) where
  -- all are read
  pub each_end : length found ≤ k → LineMeets bs₀ c₀ o₀ (read_each via (lines_placed base m (drop k₀ found))) bs a
  unfolding lines_in
  each_end h =
      let e : lines_placed base m (drop k₀ found) ≡ g.done =
      g.left ∙ ap (λ (l : List ℕ). g.done ++ lines_placed base m l) (drop_of_length-le found {i = k} h) ∙ append_nil g.done in
      subst (λ (ls : List Line). LineMeets bs₀ c₀ o₀ (read_each via ls) bs a) (sym e) g.meets

  pub each_refused : {r : Refusal} → a ≡ Err r → LineMeets bs₀ c₀ o₀ (read_each via (lines_placed base m (drop k₀ found))) bs (Err r)
  each_refused {r} e =
      subst (λ (ls : List Line). LineMeets bs₀ c₀ o₀ (read_each via ls) bs (Err r)) (sym g.left)
      (meets_stop via g.done (lines_placed base m (drop k found)) (subst (λ (x : Result State Refusal). LineMeets bs₀ c₀ o₀ (read_each via g.done) bs x) e g.meets))

  -- what lines leave that go on
  module _ {c : Counts} {o : Open} (e : a ≡ went c o) where
    met : LineMeets bs₀ c₀ o₀ (read_each via g.done) bs (went c o)
    met = subst (λ (z : Result State Refusal). LineMeets bs₀ c₀ o₀ (read_each via g.done) bs z) e g.meets

    pub each_between : BetweenLines bs₀ c₀ o₀ → BetweenLines bs c o
    each_between n =
        let d = agreed_on (met.agrees n.log n.reading n.block n.holds n.opens) in
        record { log = d.log; reading = d.reading; block = d.block; holds = d.holds; opens = d.opens }

    -- and others go on from there
    pub each_joins : {bs' : Buffers} {r : Result State Refusal} {j : ℕ} → LinesDone via base m found k bs c o bs' r j → LinesDone via base m found k₀ bs₀ c₀ o₀ bs' r j
    each_joins {j = j} h =
        record {
          done = g.done ++ h.done;
          left = g.left ∙ ap (λ (ls : List Line). g.done ++ ls) h.left ∙ sym (append_more g.done h.done (lines_placed base m (drop j found)));
          bounds = h.bounds;
          meets = meets_more via g.done h.done met h.meets;
        }

  module _ (h : k < length found) where
    pub each_pair : Paired m found k
    each_pair = paired m found k h g.bounds

    -- the line's start and its end, as they were taken from the numbers
    module _ {x y : ℕ} (ex : x ≡ get_or found k 0) (ey : y ≡ get_or found (k + 1) 0) where
      pub each_forward : x ≤ y
      each_forward = rw (ex, ey) each_pair.forward

      pub each_within : y ≤ length m
      each_within = rw ey each_pair.within

      behind : lines_placed base m (drop k found) ≡ placed_at base (line_in m x y) ∷ lines_placed base m (drop (k + 2) found)
      behind =
          let e : lines_in m (drop k found) ≡ line_in m x y ∷ lines_in m (drop (k + 2) found) = rw (ex, ey) each_pair.lines in
          ap (map (placed_at base)) e

      module _ {c : Counts} {o : Open} (e : a ≡ went c o) where
        -- what the next line asks
        pub each_asks : {t word₀ word : List ℕ} → StretchAsk t m base found k₀ bs₀ word₀ c₀ o₀ → Same bs₀ word₀ bs word → LineAsks t (base + x) (part m x y) bs word c o
        each_asks ask w =
            let l : length (part m x y) ≡ y - x = length_part m x y each_within in
            record {
              cut = record { table = ask.table; near = rw l (omega (arith, ask.near, each_forward, each_within)); short = rw l (omega (arith, ask.short, each_forward, each_within)) };
              room =
                  record {
                    names_room = rw w.names_same ask.room.names_room;
                    scratch = rw w.graph_same ask.room.scratch;
                    word_room = rw w.word_same ask.room.word_room;
                  };
              between = each_between e ask.between;
            }

        -- it is read
        pub each_on : {bs' : Buffers} {r : Result State Refusal} → LineMeets bs c o (λ rd b. opening via (read_line (placed_at base (line_in m x y)) rd b)) bs' r
            → LinesDone via base m found k₀ bs₀ c₀ o₀ bs' r (k + 2)
        each_on j =
            let l = placed_at base (line_in m x y) in
            record {
              done = g.done ++ (l ∷ []);
              left = g.left ∙ ap (λ (ls : List Line). g.done ++ ls) behind ∙ sym (append_one g.done l (lines_placed base m (drop (k + 2) found)));
              bounds = each_pair.bounds;
              meets = meets_more via g.done (l ∷ []) (met e) (meets_one via l j);
            }

-- ---- the end of a stretch

-- any files, where it does not matter which
abbrev pub no_files : Opener
no_files start sub raw rd = goes_on rd no_block

module _ {base : ℕ} {m found : List ℕ} {k₀ : ℕ} {bs₀ : Buffers} {c₀ : Counts} {o₀ : Open} {bs' : Buffers} where
  pub answered_stretch : {a : Result State Refusal} → StretchMeets base m found k₀ bs₀ c₀ o₀ bs' (Answered a)
      → (via : Opener) → LineMeets bs₀ c₀ o₀ (read_each via (lines_placed base m (drop k₀ found))) bs' a
  answered_stretch (stretch_answers h) = h

  pub opened_stretch : {j : ℕ} {d : Counts} {sub : Bool} {from to : ℕ} → StretchMeets base m found k₀ bs₀ c₀ o₀ bs' (Opens j d sub from to)
      → StretchOpens base m found k₀ bs₀ c₀ o₀ bs' j d sub from to
  opened_stretch (stretch_opens h) = h

  pub opens_at : {bs : Buffers} {c : Counts} {o : Open} {k : ℕ} → ((via : Opener) → LinesDone via base m found k₀ bs₀ c₀ o₀ bs (went c o) k) → k₀ ≤ k → k < length found
      → {x y : ℕ} → x ≡ get_or found k 0 → y ≡ get_or found (k + 1) 0 → {d : Counts} {sub : Bool} {from to : ℕ}
      → TurnMeets (placed_at base (line_in m x y)) bs c o (read_line (placed_at base (line_in m x y))) bs' (TurnOpens d sub from to)
      → StretchMeets base m found k₀ bs₀ c₀ o₀ bs' (Opens k d sub from to)
  opens_at {bs} {c} {o} g f h ex ey m = stretch_opens (record { forward = f; below = h; held = bs; counts = c; block = o; before = g; turn = rw (ex, ey) at m })
