-- MentionsList of a line, one after another: what they come to, and one law for each answer.
use Rattle.std.specs.Prelude.{Option, Some, None}
use Prim.Native.Nat.{ℕ, ◌+◌, ◌<◌}
use mathlib.Core.Bool.{true, false}
use mathlib.Core.List.{List, [], ◌∷◌, ◌++◌, append_assoc, append-nil}
use mathlib.Core.Path.{◌≡◌, refl, sym, ◌∙◌, ap}
use native.Mathlib.Omega.{arith}
use lib.ListN.{length, set, length-append}
use Rattle.spec.specs.Basics.{concat}
use Rattle.spec.specs.Reading.{Reading}
use Rattle.spec.specs.Statements.{expanded, mentioned, over_paths}
use Rattle.cut_forms.specs.declared.BuildPlaces.{BuildPlaces}
use Rattle.hold_reading.specs.declared.Counts.{Counts}
use Rattle.hold_columns.specs.Columns.{outs_end, implicit_end, end_place}
use Rattle.hold_reading.specs.Held.{max_ends, ends_start}
use Rattle.apply_files.specs.Lines.{LineHeld, Writing, with_paths, over_line}
use Rattle.apply_mentions.specs.Asks as mentions
use Rattle.apply_mentions.specs.Asks.{MentionRoom, MentionsAll}
use Rattle.apply_files.proofs.Columns.{push_end}
use Rattle.apply_files.proofs.Limits.{line_later, short_append, mentioned_append, mentioned_none}
use Rattle.apply_mentions.proofs.Passing.{expanded_same}
use Rattle.apply_files.proofs.Marks.{marks_on, marks_short, marks_over}
use Rattle.apply_files.proofs.Closed.{paths_reading, paths_ends}
use Rattle.apply_step_lists.specs.Lists.{with_end, with_lists, ListsMentioned, on, over, StepListAsks, MentionsList, TwoAsks, Two, FourAsks, Four}
use Rattle.hold_reading.specs.Buffers.{Buffers, with_files, with_graph}

-- ---- what lists come to

pub concat_append : (a b : List (List (List ℕ))) → concat (a ++ b) ≡ concat a ++ concat b
unfolding concat
concat_append [] b = refl
concat_append (x ∷ a) b = ap (λ (r : List (List ℕ)). x ++ r) (concat_append a b) ∙ sym (append_assoc x (concat a) (concat b))

lists_append : (a b : List (List (List ℕ))) (h : LineHeld) → with_lists (a ++ b) h ≡ with_lists b (with_lists a h)
unfolding with_lists
lists_append [] b h = refl
lists_append (x ∷ a) b h = lists_append a b (with_end (with_paths x h))

pub lists_reading : (pss : List (List (List ℕ))) (h : LineHeld) → (with_lists pss h).reading ≡ mentioned (concat pss) h.reading
unfolding with_lists with_end concat
lists_reading [] h = sym (mentioned_none h.reading)
lists_reading (ps ∷ pss) h =
    lists_reading pss (with_end (with_paths ps h))
    ∙ ap (mentioned (concat pss)) (paths_reading ps h)
    ∙ sym (mentioned_append ps (concat pss) h.reading)

pub lists_ended : (pss : List (List (List ℕ))) (h : LineHeld) → length (with_lists pss h).ends ≡ length h.ends + length pss
unfolding with_lists with_end
lists_ended [] h = omega arith
lists_ended (ps ∷ pss) h =
    let k = lists_ended pss (with_end (with_paths ps h)) in
    omega (arith, k, length-append (with_paths ps h).ends (length (with_paths ps h).mentions ∷ []), ap length (paths_ends ps h))

-- the file's variables stay
pub lists_vars : (pss : List (List (List ℕ))) (h : LineHeld) → (with_lists pss h).reading.vars ≡ h.reading.vars
unfolding mentioned
lists_vars pss h = ap (λ (rd : Reading). rd.vars) (lists_reading pss h)

-- ---- answers

module _ {bs : Buffers} {h : LineHeld} {pss : List (List (List ℕ))} where
  pub listed_on : {c : Counts} → ListsMentioned bs h pss (Some c) → Writing bs c (with_lists pss h)
  listed_on (on w s) = w

  pub listed_short : {c : Counts} → ListsMentioned bs h pss (Some c) → over_paths (concat pss) ≡ false
  listed_short (on w s) = s

  pub listed_over : ListsMentioned bs h pss None → (more : List (List ℕ)) → over_line (concat pss ++ more) h.reading ≡ true
  listed_over (over f) = f

module _ {bs : Buffers} (h : LineHeld) (a b : List (List (List ℕ))) where
  -- some lists, then others
  listed_then : {r : Option Counts} → over_paths (concat a) ≡ false → ListsMentioned bs (with_lists a h) b r → ListsMentioned bs h (a ++ b) r
  listed_then q (on {c = c} w s) = on {c = c} (rw (lists_append a b h) w) (rw (concat_append a b) (short_append (concat a) (concat b) q s))
  listed_then q (over f) =
      over
      (λ more.
      rw (concat_append a b, append_assoc (concat a) (concat b) more)
      (line_later (concat a) (concat b ++ more) h.reading (rw (← (lists_reading a h)) (f more))))

  listed_stop : ListsMentioned bs h a None → ListsMentioned bs h (a ++ b) None
  listed_stop x =
      over (λ more. rw (concat_append a b, append_assoc (concat a) (concat b) more) (listed_over x (concat b ++ more)))

-- ---- one list

module _ {bs : Buffers} {graph' : List ℕ} {c : Counts} {h : LineHeld} (w : Writing bs c h) where
  ended_on : {e : ℕ} → length h.ends ≡ e → e < max_ends → graph' ≡ set bs.graph (ends_start + e) c.paths → Writing (with_graph bs graph') c (with_end h)
  unfolding with_end
  ended_on q b g =
      record {
        named = w.named;
        bound = w.bound;
        columns = rw (g, ← w.paths_counted) (push_end w.columns c.paths _ (omega (arith, q)) (omega (arith, q)));
        filed = w.filed;
        paths_counted = w.paths_counted;
        defaults_counted = w.defaults_counted;
        mentions_counted = w.mentions_counted;
        few_mentions = w.few_mentions;
        mentions_low = w.mentions_low;
      }

concat_one : (ps : List (List ℕ)) → concat (ps ∷ []) ≡ ps
unfolding concat
concat_one ps = append-nil ps

module _ {l : List ℕ} {at : ℕ} {bs : Buffers} {c : Counts} {names' index' graph₁ : List ℕ} where
  pub one_on : {d : Counts} → MentionsAll l at bs c names' index' graph₁ (Some d) → {e : ℕ} {graph' : List ℕ} → e < max_ends
      → graph' ≡ set graph₁ (ends_start + e) d.paths → MentionsList l at e bs c names' index' graph' (Some d)
  unfolding with_lists
  one_on m b g =
      record {
        listed = λ raw s h w q.
            let ps = expanded h.reading raw in
            let k = m.marks raw s h w in
            on (ended_on (marks_on k) (ap length (paths_ends ps h) ∙ q) b g) (rw (concat_one ps) (marks_short k));
      }

  pub one_over : MentionsAll l at bs c names' index' graph₁ None → {e : ℕ} → MentionsList l at e bs c names' index' graph₁ None
  one_over m =
      record { listed = λ raw s h w q. over (λ more. rw (concat_one (expanded h.reading raw)) (marks_over (m.marks raw s h w) more)) }

-- what is held of the line then, for the store
pub one_held : {t l : List ℕ} {bs : Buffers} {word : List ℕ} {c : Counts} {at : ℕ} (a : mentions.MentionListAsks t l bs word c at)
    → {names' index' graph' : List ℕ} {d : Counts} → MentionsAll l at bs c names' index' graph' (Some d)
    → Writing (with_files bs names' index' graph') d (with_paths (expanded a.line.reading a.raw) a.line)
one_held a m = marks_on (m.marks a.raw a.stands a.line a.writing)

-- ---- room is kept

pub room_kept : {names word names' word' : List ℕ} → MentionRoom names word → length names' ≡ length names → length word' ≡ length word → MentionRoom names' word'
room_kept r a b = record { names_long = omega (arith, r.names_long, a); word_long = omega (arith, r.word_long, b) }

-- ---- two lists

module _ {l : List ℕ} {at next e : ℕ} {bs : Buffers} {c : Counts} {names₁ index₁ graph₁ : List ℕ} where
  pub two_on : {d : Counts} {names' index' graph' : List ℕ} {r : Option Counts} → MentionsList l at e bs c names₁ index₁ graph₁ (Some d)
      → MentionsList l next (e + 1) (with_files bs names₁ index₁ graph₁) d names' index' graph' r → Two l at next e bs c names' index' graph' r
  two_on x y =
      record {
        listed = λ first second s₁ s₂ h w q.
            let a = expanded h.reading first ∷ [] in
            let k = x.listed first s₁ h w q in
            let m = y.listed second s₂ (with_lists a h) (listed_on k) (omega (arith, lists_ended a h, q)) in
            let z = expanded_same (with_lists a h).reading h.reading (lists_vars a h) second in
            listed_then h a (expanded h.reading second ∷ []) (listed_short k) (rw z at m);
      }

  pub two_over : MentionsList l at e bs c names₁ index₁ graph₁ None → Two l at next e bs c names₁ index₁ graph₁ None
  two_over x =
      record {
        listed = λ first second s₁ s₂ h w q.
            listed_stop h (expanded h.reading first ∷ []) (expanded h.reading second ∷ []) (x.listed first s₁ h w q);
      }

module _ {t l : List ℕ} {bs : Buffers} {word : List ℕ} {c : Counts} {at next e : ℕ} (a : TwoAsks t l bs word c at next e) where
  pub two_first : StepListAsks t l bs word c at e
  two_first =
      record {
        asks = record { table = a.table; short = a.short; raw = a.first; stands = a.first_stands; room = a.room; line = a.line; writing = a.writing };
        ended = a.ended;
        low = omega (arith, a.low);
      }

  pub two_second : {names' index' graph' word' : List ℕ} {d : Counts} → length names' ≡ length bs.names → length word' ≡ length word
      → MentionsList l at e bs c names' index' graph' (Some d) → StepListAsks t l (with_files bs names' index' graph') word' d next (e + 1)
  two_second p q x =
      let pss = expanded a.line.reading a.first ∷ [] in
      record {
        asks =
            record {
              table = a.table;
              short = a.short;
              raw = a.second;
              stands = a.second_stands;
              room = room_kept a.room p q;
              line = with_lists pss a.line;
              writing = listed_on (x.listed a.first a.first_stands a.line a.writing a.ended);
            };
        ended = omega (arith, lists_ended pss a.line, a.ended);
        low = a.low;
      }

-- ---- the four

module _ {l : List ℕ} {p : BuildPlaces} {bs : Buffers} {c : Counts} {names₁ index₁ graph₁ : List ℕ} where
  pub four_on : {d : Counts} {names' index' graph' : List ℕ} {r : Option Counts} → Two l p.outs p.ins (end_place c.steps outs_end) bs c names₁ index₁ graph₁ (Some d)
      → Two l p.implicit p.order (end_place c.steps implicit_end) (with_files bs names₁ index₁ graph₁) d names' index' graph' r
      → Four l bs c p names' index' graph' r
  four_on x y =
      record {
        listed = λ b s h w q.
            let a = expanded h.reading b.outs ∷ expanded h.reading b.ins ∷ [] in
            let k = x.listed b.outs b.ins s.outs s.ins h w q in
            let m = y.listed b.implicit b.order_only s.implicit s.order_only (with_lists a h) (listed_on k) (omega (arith, lists_ended a h, q)) in
            let z = expanded_same (with_lists a h).reading h.reading (lists_vars a h) in
            listed_then h a (expanded h.reading b.implicit ∷ expanded h.reading b.order_only ∷ []) (listed_short k) (rw (z b.implicit, z b.order_only) at m);
      }

  pub four_over : Two l p.outs p.ins (end_place c.steps outs_end) bs c names₁ index₁ graph₁ None
      → Four l bs c p names₁ index₁ graph₁ None
  four_over x =
      record {
        listed = λ b s h w q.
            listed_stop h (expanded h.reading b.outs ∷ expanded h.reading b.ins ∷ []) (expanded h.reading b.implicit ∷ expanded h.reading b.order_only ∷ [])
            (x.listed b.outs b.ins s.outs s.ins h w q);
      }

module _ {t l : List ℕ} {bs : Buffers} {word : List ℕ} {c : Counts} {p : BuildPlaces} (a : FourAsks t l bs word c p) where
  pub four_first : TwoAsks t l bs word c p.outs p.ins (end_place c.steps outs_end)
  four_first =
      record {
        table = a.table;
        short = a.short;
        first = a.raw.outs;
        second = a.raw.ins;
        first_stands = a.stands.outs;
        second_stands = a.stands.ins;
        room = a.room;
        line = a.line;
        writing = a.writing;
        ended = a.ended;
        low = omega (arith, a.few);
      }

  pub four_second : {names' index' graph' word' : List ℕ} {d : Counts} → length names' ≡ length bs.names → length word' ≡ length word
      → Two l p.outs p.ins (end_place c.steps outs_end) bs c names' index' graph' (Some d)
      → TwoAsks t l (with_files bs names' index' graph') word' d p.implicit p.order (end_place c.steps implicit_end)
  four_second x y m =
      let pss = expanded a.line.reading a.raw.outs ∷ expanded a.line.reading a.raw.ins ∷ [] in
      record {
        table = a.table;
        short = a.short;
        first = a.raw.implicit;
        second = a.raw.order_only;
        first_stands = a.stands.implicit;
        second_stands = a.stands.order_only;
        room = room_kept a.room x y;
        line = with_lists pss a.line;
        writing = listed_on (m.listed a.raw.outs a.raw.ins a.stands.outs a.stands.ins a.line a.writing a.ended);
        ended = omega (arith, lists_ended pss a.line, a.ended);
        low = omega (arith, a.few);
      }
