-- A line that may open a file, and the file: what is read of it, and the scope behind it.
use Rattle.std.specs.Prelude.{Result, Ok, Err}
use Prim.Native.Nat.{ℕ, zero, suc, ◌-◌, ◌≤◌, ◌<◌}
use mathlib.Core.Bool.{Bool, true, false}
use mathlib.Core.List.{List, [], ◌∷◌}
use mathlib.Core.Path.{◌≡◌, refl, sym, ◌∙◌, ap, subst}
use native.Mathlib.Omega.{arith}
use lib.ListN.{length}
use Rattle.lists.specs.Parts.{part, length_part}
use Rattle.spec.specs.declared.Refusal.{Refusal}
use Rattle.spec.specs.declared.Refusal.TheVariants.{BadOpen}
use Rattle.spec.specs.Limits.{max_manifest}
use Rattle.spec.specs.Dollars.{expand}
use Rattle.spec.specs.Lines.{Line}
use Rattle.spec.specs.Reading.{Variables, Reading, file_var}
use Rattle.spec.specs.Statements.{Block, no_block, Outcome, goes_on, opens, refused}
use Rattle.spec.specs.Bundle.{bundle_names, bundle_texts}
use Rattle.spec.specs.Manifest.{and_then, read_line, Opener, opening, read_lines, text_lines, with_opened, entered, back_in, open_path, opener}
use Rattle.spec.proofs.Scopes.{Keeps, keeps_same, ended_keeps, inside_kept, inside_there, lines_keep, entered_there, opener_keeps}
use Rattle.scan_classes.specs.Table.{classes}
use Rattle.scan_texts.specs.Checks.{ShortBundle}
use Rattle.scan_bundle.proofs.Lying.{length_names}
use Rattle.hold_bindings.specs.Log.{Logged}
use Rattle.hold_reading.specs.declared.Counts.{Counts}
use Rattle.hold_reading.specs.declared.Open.{Open}
use Rattle.hold_reading.specs.declared.Open.TheVariants.{Nothing}
use Rattle.hold_reading.specs.declared.LineTurn.TheVariants.{Opens as TurnOpens}
use Rattle.hold_reading.specs.Held.{joined, OpensBlock, nothing, HoldsReading, Agrees, goes, refuses}
use Rattle.hold_reading.specs.Binds.{Known}
use Rattle.hold_reading.specs.Buffers.{Buffers, with_bindings}
use Rattle.hold_reading.proofs.Lift.{known, met, lifted, none_bound}
use Rattle.hold_reading.proofs.Agreement.{agreed_on, agreed_refused, OpensAt, turned_opens}
use Rattle.hold_reading.proofs.Opened.{scope_there}
use Rattle.apply_statements.specs.Asks.{LinesRoom, BetweenLines, LineMeets, TurnMeets}
use Rattle.apply_statements.proofs.Outcomes.{between_sound, close_none}
use Rattle.apply_open.specs.declared.OpenedFile.{OpenedFile}
use Rattle.apply_open.specs.Opens.{OpenAsks, NamesRecord, OpensAs, OpensPath, EnterAsks, Enters, EnteredFrom, LeaveAsks, LeavesScope}
use Rattle.apply_texts.specs.Texts.{file_opener, TextReadAsk, FileAsk}
use Rattle.scan_texts.proofs.Texts.{laid}
use Rattle.hold_reading.specs.declared.State.{State}
use Rattle.hold_reading.specs.Went.{went}

-- ---- the end of a text closes a block

then_closed : (o : Outcome) (f : Reading → Block → Outcome) {rd' : Reading} {b' : Block} → ((rd : Reading) (b : Block) → f rd b ≡ goes_on rd' b' → b' ≡ no_block)
    → and_then o f ≡ goes_on rd' b' → b' ≡ no_block
unfolding and_then
then_closed (goes_on rd b) f h e = h rd b e
then_closed (opens start sub raw rd) f h e = cc
then_closed (refused r) f h e = cc

pub lines_closed : (via : Opener) (ls : List Line) (rd : Reading) (b : Block) {rd' : Reading} {b' : Block} → read_lines via ls rd b ≡ goes_on rd' b' → b' ≡ no_block
unfolding read_lines
lines_closed via [] rd b e = close_none rd b e
lines_closed via (l ∷ ls) rd b e = then_closed (opening via (read_line l rd b)) (read_lines via ls) (λ rd b e. lines_closed via ls rd b e) e

-- ---- a line

module _ {l : Line} {bs : Buffers} {c : Counts} {o : Open} {bs' : Buffers} {d : Counts} {sub : Bool} {from to : ℕ}
    (m : TurnMeets l bs c o (read_line l) bs' (TurnOpens d sub from to)) where
  pub turn_opened : (via : Opener) {bs'' : Buffers} {r : Result State Refusal} → LineMeets bs' d Nothing (λ rd b. via l.start sub (part l.text from to) rd) bs'' r
      → LineMeets bs c o (λ rd b. opening via (read_line l rd b)) bs'' r
  unfolding opening joined
  turn_opened via k =
      record {
        agrees = λ log rd b h p. let g = turned_opens (m.agrees log rd b h p) in rw g.outcome (k.agrees g.log g.reading no_block g.holds nothing);
      }

  opened : BetweenLines bs c o → (rd : Reading) × (b : Block) × OpensAt l bs' d sub from to (read_line l rd b)
  opened w = (w.reading, w.block, turned_opens (m.agrees w.log w.reading w.block w.holds w.opens))

  pub raw_ordered : BetweenLines bs c o → from < to
  raw_ordered w = (opened w).2.longer

  pub raw_within : BetweenLines bs c o → to ≤ length l.text
  raw_within w = (opened w).2.within

  -- what the file asks
  pub file_asks : {t s word' : List ℕ} → t ≡ classes → ShortBundle s → length l.text ≤ max_manifest → BetweenLines bs c o → LinesRoom bs'.names bs'.graph word'
      → FileAsk t s (part l.text from to) bs' word' d
  unfolding joined
  file_asks e s h w r =
      let g = (opened w).2 in
      let n : length (part l.text from to) ≡ to - from = length_part l.text from to g.within in
      record {
        table = e;
        bundle = s;
        short = rw n (omega (arith, g.within, h));
        dollars = g.sound;
        room = r;
        between = record { log = g.log; reading = g.reading; block = no_block; holds = g.holds; opens = nothing };
      }

-- ---- a file

abbrev no_more : ℕ → ℕ → Reading → Outcome
no_more start k after = refused (BadOpen start)

abbrev reads : List ℕ → ℕ → ℕ → ℕ → Reading → Outcome
reads s more scope k after = and_then (read_lines (file_opener s more) (text_lines (bundle_texts s) k) after no_block) (back_in scope)

module _ (s : List ℕ) (start : ℕ) (sub : Bool) (raw : List ℕ) (rd : Reading) where
  abbrev path : List ℕ
  path = expand (file_var rd.vars) raw

  opener_none : file_opener s 0 start sub raw rd ≡ open_path (bundle_names s) (no_more start) start sub path rd
  unfolding opener
  opener_none = refl

  opener_more : (more : ℕ) → file_opener s (suc more) start sub raw rd ≡ open_path (bundle_names s) (reads s more rd.vars.current) start sub path rd
  unfolding opener
  opener_more more = refl

  opener_refused : {r : Refusal} (more : ℕ) → ((f : ℕ → Reading → Outcome) (sub : Bool) → open_path (bundle_names s) f start sub path rd ≡ refused r)
      → file_opener s more start sub raw rd ≡ refused r
  opener_refused zero x = opener_none ∙ x (no_more start) sub
  opener_refused (suc more) x = opener_more more ∙ x (reads s more rd.vars.current) sub

module _ {t s raw : List ℕ} {bs : Buffers} {word : List ℕ} {c : Counts} where
  pub path_asks : FileAsk t s raw bs word c → OpenAsks t s raw bs.texts bs.bind word c
  path_asks a =
      record {
        laid = laid s a.bundle.sound;
        ready =
            record {
              table = a.table;
              short = a.short;
              within = omega arith;
              sound = a.dollars;
              held = record { log = a.between.log; held = a.between.holds.bound.held };
            };
        room = a.room.word_room;
        sound = between_sound a.between;
      }

-- the path is refused
pub not_opened : (s : List ℕ) (more start : ℕ) (sub : Bool) (raw : List ℕ) {bs : Buffers} {c : Counts} {bs' : Buffers} {r : Refusal}
    → OpensPath (bundle_names s) bs.texts bs.bind c raw start (Err r) → LineMeets bs c Nothing (λ rd b. file_opener s more start sub raw rd) bs' (Err r)
unfolding OpensAs
not_opened s more start sub raw {bs' = bs'} {r = r} x =
    record {
      agrees = λ log rd b h p.
          subst (λ (out : Outcome). Agrees bs' out (Err r)) (sym (opener_refused s start sub raw rd more (x.answer log rd b (known rd h p)))) refuses;
    }

module _ (s : List ℕ) (start : ℕ) (sub : Bool) (raw : List ℕ) (bs : Buffers) {c : Counts} {k n : ℕ}
    (x : OpensPath (bundle_names s) bs.texts bs.bind c raw start (Ok (k, n))) where
  named : {log : List Logged} (rd : Reading) {b : Block} → Known log bs.texts bs.bind c rd b Nothing → NamesRecord (bundle_names s) start (expand (file_var rd.vars) raw) rd k n
  unfolding OpensAs
  named {log} rd {b} w = x.answer log rd b w

  -- no more files may be open
  pub all_open : {more : ℕ} → more ≡ 0 → {bs' : Buffers} → LineMeets bs c Nothing (λ rd b. file_opener s more start sub raw rd) bs' (Err (BadOpen start))
  all_open z {bs'} =
      record {
        agrees = λ log rd b h p.
            let w = known rd h p in
            let e : file_opener s 0 start sub raw rd ≡ refused (BadOpen start) = opener_none s start sub raw rd ∙ (named rd w).path (no_more start) sub in
            rw z (subst (λ (out : Outcome). Agrees bs' out (Err (BadOpen start))) (sym e) refuses);
      }

  pub enter_asks : BetweenLines bs c Nothing → EnterAsks bs.texts bs.bind c n
  enter_asks w =
      let h = known w.reading w.holds w.opens in
      let d = none_bound h in
      let r = named w.reading h in
      record { sound = between_sound w; few = omega (arith, d.opened_counted, r.few); low = omega (arith, d.written_counted, r.low) }

  -- the file is opened
  module _ {texts' bind' : List ℕ} {f : OpenedFile} (y : Enters sub bs.texts bs.bind c n texts' bind' f) where
    abbrev bs₁ : Buffers
    bs₁ = with_bindings bs texts' bind'

    abbrev after : Reading → Reading
    after rd = with_opened n (entered sub rd.vars) rd

    held_on : {rd : Reading} {b : Block} {d : Counts} {o : Open} → Agrees bs₁ (goes_on rd b) (went d o) → (log : List Logged) × HoldsReading log bs₁ d (joined rd b)
    held_on (goes {log = l} h p) = (l, h)

    entered_held : {log : List Logged} (rd : Reading) {b : Block} → HoldsReading log bs c (joined rd b) → OpensBlock log b Nothing
        → (log' : List Logged) × HoldsReading log' bs₁ f.counts (joined (after rd) no_block)
    entered_held rd h p = held_on (met rd h p y.meets)

    pub text_asks : {t word word' : List ℕ} → FileAsk t s raw bs word c → length word' ≡ length word → TextReadAsk t s k bs₁ word' f.counts
    text_asks a e =
        let w = a.between in
        let r = named w.reading (known w.reading w.holds w.opens) in
        let g = entered_held w.reading w.holds w.opens in
        record {
          table = a.table;
          bundle = a.bundle;
          below = omega (arith, r.below, length_names s);
          room = record { names_room = a.room.names_room; scratch = a.room.scratch; word_room = rw e a.room.word_room };
          between = record { log = g.0; reading = after w.reading; block = no_block; holds = g.1; opens = nothing };
        }

    -- one file more may be open than while it is read
    module _ {more : ℕ} (z : (more ≡ 0) → ⊥) where
      opener_reads : {log : List Logged} (rd : Reading) {b : Block} → Known log bs.texts bs.bind c rd b Nothing
          → file_opener s more start sub raw rd ≡ reads s (more - 1) rd.vars.current k (after rd)
      opener_reads rd w =
          let e : more ≡ suc (more - 1) = omega arith in
          ap (λ (j : ℕ). file_opener s j start sub raw rd) e
          ∙ opener_more s start sub raw rd (more - 1)
          ∙ (named rd w).path (reads s (more - 1) rd.vars.current) sub

      abbrev text_read : Reading → Block → Outcome
      text_read = read_lines (file_opener s (more - 1)) (text_lines (bundle_texts s) k)

      pub file_stopped : {bs₂ : Buffers} {r : Refusal} → LineMeets bs₁ f.counts Nothing text_read bs₂ (Err r)
          → LineMeets bs c Nothing (λ rd b. file_opener s more start sub raw rd) bs₂ (Err r)
      unfolding and_then
      file_stopped {bs₂} {r} m =
          record {
            agrees = λ log rd b h p.
                let g = entered_held rd h p in
                let e : text_read (after rd) no_block ≡ refused r = agreed_refused (m.agrees g.0 (after rd) no_block g.1 nothing) in
                let q : file_opener s more start sub raw rd ≡ refused r = opener_reads rd (known rd h p) ∙ ap (λ (out : Outcome). and_then out (back_in rd.vars.current)) e in
                subst (λ (out : Outcome). Agrees bs₂ out (Err r)) (sym q) refuses;
          }

      -- ---- behind it

      module _ {bs₂ : Buffers} {d : Counts} {o : Open} (m : LineMeets bs₁ f.counts Nothing text_read bs₂ (went d o)) where
        from_kept : (sub : Bool) (vs ws : Variables) → vs.current < length vs.scopes → Keeps (entered sub vs) ws → {j : ℕ} → j ≡ vs.current → EnteredFrom sub j ws
        unfolding EnteredFrom entered
        from_kept false vs ws h p e = p.current ∙ sym e
        from_kept true vs ws h p e = rw e (inside_there vs ws h p, inside_kept vs ws h p)

        -- the file is read, and the scope before it is gone back to
        record Behind (out : Outcome) : Type 0 where
          log : List Logged
          reading : Reading
          holds : HoldsReading log bs₂ d reading
          inside : EnteredFrom sub f.scope reading.vars
          outcome : out ≡ back_in f.scope reading no_block

        behind : {log : List Logged} (rd : Reading) {b : Block} → HoldsReading log bs c (joined rd b) → OpensBlock log b Nothing → Behind (file_opener s more start sub raw rd)
        unfolding joined and_then back_in with_opened
        behind {log} rd {b} h p =
            let w = known rd h p in
            let g = entered_held rd h p in
            let x = agreed_on (m.agrees g.0 (after rd) no_block g.1 nothing) in
            let via = file_opener s (more - 1) in
            let ls = text_lines (bundle_texts s) k in
            let none : x.block ≡ no_block = lines_closed via ls (after rd) no_block x.outcome in
            let there = scope_there (none_bound w) in
            let kept : Keeps (entered sub rd.vars) x.reading.vars =
            ended_keeps
            (lines_keep via (opener_keeps (bundle_names s) (bundle_texts s) (more - 1)) (entered_there sub rd.vars there) ls (after rd) no_block (keeps_same (entered sub rd.vars)))
            x.outcome in
            let scope : f.scope ≡ rd.vars.current = y.scope log rd b w in
            record {
              log = x.log;
              reading = x.reading;
              holds = rw none at x.holds;
              inside = from_kept sub rd.vars x.reading.vars there kept scope;
              outcome =
                  opener_reads rd w
                  ∙ ap (λ (out : Outcome). and_then out (back_in rd.vars.current)) x.outcome
                  ∙ ap (λ (j : ℕ). back_in j x.reading no_block) (sym scope);
            }

        pub leave_asks : BetweenLines bs c Nothing → LeaveAsks sub f.scope bs₂.texts bs₂.bind d
        unfolding joined
        leave_asks w =
            let x = behind w.reading w.holds w.opens in
            record {
              sound = record { log = x.log; reading = x.reading; block = no_block; known = known x.reading x.holds nothing };
              inside = x.inside;
            }

        pub file_read : {texts'' bind'' : List ℕ} {e : Counts} → LeavesScope sub f.scope bs₂.texts bs₂.bind d texts'' bind'' e
            → LineMeets bs c Nothing (λ rd b. file_opener s more start sub raw rd) (with_bindings bs₂ texts'' bind'') (went e Nothing)
        unfolding joined
        file_read {texts''} {bind''} {e} u =
            record {
              agrees = λ log rd b h p.
                  let x = behind rd h p in
                  subst (λ (out : Outcome). Agrees (with_bindings bs₂ texts'' bind'') out (went e Nothing)) (sym x.outcome)
                  (lifted x.holds (u.agrees x.log x.reading no_block (known x.reading x.holds nothing) x.inside));
            }
