-- A walk over the paths of a default line without an 8: what is held now, and what is left of the line.
use Rattle.std.specs.Prelude.{Option, Some, None, Err}
use Prim.Native.Nat.{ℕ, ◌≤◌}
use mathlib.Core.Bool.{true, false, ◌||◌}
use mathlib.Core.List.{List, [], ◌∷◌}
use mathlib.Core.Path.{◌≡◌, refl, sym, ◌∙◌, ap}
use lib.ListN.{length}
use Rattle.lists.specs.Tests.{or_left, or_right}
use Rattle.lists.specs.Members.{any, any_cons}
use Rattle.lists.specs.Parts.{part}
use Rattle.spec.specs.declared.Refusal.TheVariants.{OverLimit}
use Rattle.spec.specs.Reading.{Reading, number_of, is_made}
use Rattle.spec.specs.Statements.{expanded, refused}
use Rattle.scan_raw.specs.Texts.{PathNext}
use Rattle.cut_forms.specs.Paths.{PathsAt}
use Rattle.cut_forms.proofs.Walks.{walk_on}
use Rattle.hold_bindings.specs.Log.{Logged}
use Rattle.hold_reading.specs.declared.Counts.{Counts}
use Rattle.hold_reading.specs.declared.Open.TheVariants.{Nothing}
use Rattle.hold_reading.specs.Held.{joined, nothing, HoldsReading, goes, refuses}
use Rattle.hold_reading.specs.Adds.{Whole, AddsFiles}
use Rattle.apply_path_checks.specs.declared.PathKind.TheVariants.{Default}
use Rattle.apply_path_checks.specs.Checks.{path_of, wrong_path, AnyWrong}
use Rattle.apply_path_checks.proofs.Wrong.{expanded_cons, default_made}
use Rattle.apply_default_path.specs.Defaults.{defaulted, Named·is, NamesDefault}
use Rattle.apply_defaults.specs.Sound.{sound_defaults}
use Rattle.apply_defaults.proofs.Outcomes.{sound_over, sound_on, sound_end}
use Rattle.hold_reading.specs.Buffers.{Buffers, with_graph}
use Rattle.hold_reading.specs.Went.{went}

-- The reading so far, and what is left of the line.
pub record Reached (log : List Logged) (bs : Buffers) (d : Counts) (start : ℕ) (rd : Reading) (ps qs : List (List ℕ)) : Type 0 where
  pub reading : Reading
  pub holds : HoldsReading log bs d reading
  pub right : any (wrong_path Default reading) (expanded reading qs) ≡ false
  pub left : sound_defaults start (expanded rd ps) rd ≡ sound_defaults start (expanded reading qs) reading

pub record Adding (l : List ℕ) (bs : Buffers) (c : Counts) (start at : ℕ) (graph : List ℕ) (d : Counts) (i : ℕ) : Type 0 where
  pub within : i ≤ length l
  pub rest : (ps : List (List ℕ)) → PathsAt l at ps
      → (qs : List (List ℕ)) × PathsAt l i qs × ((log : List Logged) (rd : Reading) → HoldsReading log bs c rd → Reached log (with_graph bs graph) d start rd ps qs)

pub add_begin : {l : List ℕ} {bs : Buffers} {c : Counts} (start : ℕ) {at : ℕ}
    → AnyWrong Default l bs c at false → at ≤ length l
    → Adding l bs c start at bs.graph c at
add_begin start a b =
    record {
      within = b;
      rest = λ ps w. (ps, w, λ log rd h. record { reading = rd; holds = h; right = sym (a.answer ps w log rd h); left = refl });
    }

-- ---- what does not look at defaults

right_same : (k n : ℕ) (rd : Reading) (qs : List (List ℕ)) → any (wrong_path Default (defaulted k n rd)) (expanded (defaulted k n rd) qs) ≡ any (wrong_path Default rd) (expanded rd qs)
unfolding wrong_path is_made expanded defaulted
right_same k n rd qs = refl

expanded_same : (k n : ℕ) (rd : Reading) (qs : List (List ℕ)) → expanded (defaulted k n rd) qs ≡ expanded rd qs
unfolding expanded defaulted
expanded_same k n rd qs = refl

-- ---- a turn

module _ {l : List ℕ} {bs : Buffers} {c : Counts} {start at : ℕ} {graph : List ℕ} {d : Counts} {i : ℕ}
    (x : Adding l bs c start at graph d i) where
  pub add_whole : {ps : List (List ℕ)} → PathsAt l at ps → Whole bs c → Whole (with_graph bs graph) d
  add_whole {ps} w h =
      let (qs, v, s) = x.rest ps w in
      let r = s h.log h.reading h.holds in
      record { log = h.log; reading = r.reading; holds = r.holds }

  module _ {from to : ℕ} (n : PathNext l i from to) {graph' : List ℕ} {r : Option Counts} (m : NamesDefault (with_graph bs graph) d (part l from to) graph' r) where
    -- the path of this turn, and those behind it
    turn : (ps : List (List ℕ)) → PathsAt l at ps
        → (us : List (List ℕ)) × PathsAt l to us × ((log : List Logged) (rd : Reading) → HoldsReading log bs c rd → Reached log (with_graph bs graph) d start rd ps (part l from to ∷ us))
    turn ps w =
        let (qs, v, s) = x.rest ps w in
        let (us, q, u) = walk_on n v in
        (us, u, λ log rd h. rw q at (s log rd h))

    module _ {log : List Logged} {rd : Reading} {ps us : List (List ℕ)} (z : Reached log (with_graph bs graph) d start rd ps (part l from to ∷ us)) where
      split_right : wrong_path Default z.reading (path_of z.reading (part l from to)) || any (wrong_path Default z.reading) (expanded z.reading us) ≡ false
      split_right =
          sym (any_cons (wrong_path Default z.reading) (path_of z.reading (part l from to)) (expanded z.reading us))
          ∙ ap (any (wrong_path Default z.reading)) (sym (expanded_cons z.reading (part l from to) us))
          ∙ z.right

      here_made : is_made (path_of z.reading (part l from to)) z.reading ≡ true
      here_made =
          default_made z.reading (path_of z.reading (part l from to))
          (or_left (wrong_path Default z.reading (path_of z.reading (part l from to))) (any (wrong_path Default z.reading) (expanded z.reading us)) split_right)

      rest_right : any (wrong_path Default z.reading) (expanded z.reading us) ≡ false
      rest_right =
          or_right (wrong_path Default z.reading (path_of z.reading (part l from to))) (any (wrong_path Default z.reading) (expanded z.reading us)) split_right

      left_cons : sound_defaults start (expanded rd ps) rd ≡ sound_defaults start (path_of z.reading (part l from to) ∷ expanded z.reading us) z.reading
      left_cons = z.left ∙ ap (λ (y : List (List ℕ)). sound_defaults start y z.reading) (expanded_cons z.reading (part l from to) us)

      reach_on : {e : Counts} → r ≡ Some e → Reached log (with_graph bs graph') e start rd ps us
      unfolding Named·is
      reach_on e =
          let p = path_of z.reading (part l from to) in
          let k = number_of p z.reading.files in
          let (o, g) = rw e at (m.answer log z.reading z.holds here_made) in
          record {
            reading = defaulted k (length p) z.reading;
            holds = g;
            right = right_same k (length p) z.reading us ∙ rest_right;
            left =
                left_cons
                ∙ sound_on z.holds start p (expanded z.reading us) here_made o
                ∙ sym (ap (λ (y : List (List ℕ)). sound_defaults start y (defaulted k (length p) z.reading)) (expanded_same k (length p) z.reading us));
          }

      reach_over : r ≡ None → sound_defaults start (expanded rd ps) rd ≡ refused (OverLimit start)
      unfolding Named·is
      reach_over e =
          let p = path_of z.reading (part l from to) in
          left_cons ∙ sound_over z.holds start p (expanded z.reading us) (rw e at (m.answer log z.reading z.holds here_made))

    pub add_on : {e : Counts} → r ≡ Some e → Adding l bs c start at graph' e to
    add_on e =
        record {
          within = n.within;
          rest = λ ps w.
              let (us, u, s) = turn ps w in
              (us, u, λ log rd h. reach_on (s log rd h) e);
        }

    pub add_over : r ≡ None → {ps : List (List ℕ)} → PathsAt l at ps → {graph'' : List ℕ}
        → AddsFiles bs c (λ rd. sound_defaults start (expanded rd ps) rd) bs.names bs.index graph'' (Err (OverLimit start))
    add_over e {ps} w =
        let (us, u, s) = turn ps w in
        record { agrees = λ log rd h. rw (reach_over (s log rd h) e) refuses }

  pub add_end : ((ps : List (List ℕ)) → PathsAt l i ps → ps ≡ []) → {ps : List (List ℕ)} → PathsAt l at ps
      → AddsFiles bs c (λ rd. sound_defaults start (expanded rd ps) rd) bs.names bs.index graph (went d Nothing)
  unfolding joined expanded
  add_end f {ps} w =
      let (qs, v, s) = x.rest ps w in
      record {
        agrees = λ log rd h.
            let z = s log rd h in
            rw (z.left ∙ ap (λ (y : List (List ℕ)). sound_defaults start (expanded z.reading y) z.reading) (f qs v) ∙ sound_end z.holds start) (goes z.holds nothing);
      }
