-- The loop over a list of raw paths: what it has mentioned so far, and what is left.
use Rattle.std.specs.Prelude.{Option, Some, None}
use Prim.Native.Nat.{ℕ, ◌≤◌}
use mathlib.Core.List.{List, [], ◌∷◌, ◌++◌}
use mathlib.Core.Path.{◌≡◌, refl, ◌∙◌}
use native.Mathlib.Omega.{arith}
use lib.ListN.{length}
use Rattle.lists.specs.Parts.{part, length_part}
use Rattle.spec.specs.Dollars.{expand}
use Rattle.spec.specs.Reading.{Reading, file_var}
use Rattle.spec.specs.Statements.{expanded, mentioned}
use Rattle.scan_raw.specs.Texts.{PathNext}
use Rattle.cut_forms.specs.Paths.{PathsAt}
use Rattle.cut_forms.proofs.Walks.{walk_on}
use Rattle.hold_reading.specs.declared.Counts.{Counts}
use Rattle.apply_files.specs.Lines.{LineHeld, Writing, with_mention, with_paths, AddedPaths, on, over}
use Rattle.apply_mentions.specs.Asks.{MentionRoom, MentionAsks, Mentions, MentionListAsks, MentionsAll}
use Rattle.apply_files.proofs.Limits.{short_none}
use Rattle.apply_files.proofs.Marks.{marks_on, marks_short, marks_over, marks_cons}
use Rattle.hold_reading.specs.Buffers.{Buffers, with_files}

pub expanded_same : (a b : Reading) → a.vars ≡ b.vars → (raw : List (List ℕ)) → expanded a raw ≡ expanded b raw
unfolding expanded
expanded_same a b e raw = rw e

-- ---- the loop

-- of a line that was held, and its list
pub record Going (l : List ℕ) (h : LineHeld) (raw : List (List ℕ)) (bs : Buffers) (i : ℕ) (d : Counts) : Type 0 where
  pub line : LineHeld
  pub rest : List (List ℕ)
  pub stands : PathsAt l i rest
  pub writing : Writing bs d line
  pub vars : line.reading.vars ≡ h.reading.vars
  pub left : {names' index' graph' : List ℕ} {r : Option Counts} → AddedPaths (with_files bs names' index' graph') line (expanded h.reading rest) r
      → AddedPaths (with_files bs names' index' graph') h (expanded h.reading raw) r

pub record Passing (t l : List ℕ) (at : ℕ) (bs₀ : Buffers) (word₀ : List ℕ) (c : Counts) (names index graph word : List ℕ) (i : ℕ) (d : Counts) : Type 0 where
  pub asks : MentionListAsks t l bs₀ word₀ c at
  pub names_long : length names ≡ length bs₀.names
  pub ends_long : length index ≡ length bs₀.index
  pub graph_long : length graph ≡ length bs₀.graph
  pub word_long : length word ≡ length word₀
  pub going : (raw : List (List ℕ)) → PathsAt l at raw → (h : LineHeld) → Writing bs₀ c h → Going l h raw (with_files bs₀ names index graph) i d

pub pass_begin : {t l : List ℕ} {bs : Buffers} {word : List ℕ} {c : Counts} {at : ℕ} → MentionListAsks t l bs word c at
    → Passing t l at bs word c bs.names bs.index bs.graph word at c
pass_begin a =
    record {
      asks = a;
      names_long = refl;
      ends_long = refl;
      graph_long = refl;
      word_long = refl;
      going = λ raw s h w. record { line = h; rest = raw; stands = s; writing = w; vars = refl; left = λ m. m };
    }

-- a path of the list that was held
module _ {l : List ℕ} {h : LineHeld} {raw : List (List ℕ)} {bs : Buffers} {i : ℕ} {d : Counts} (g : Going l h raw bs i d)
    {from to : ℕ} (n : PathNext l i from to) where
  going_on : {names' index' graph' : List ℕ} {e : Counts} → Mentions (part l from to) bs d names' index' graph' (Some e)
      → Going l h raw (with_files bs names' index' graph') to e
  unfolding expanded with_paths with_mention mentioned
  going_on m =
      let (qs, e, s) = walk_on n g.stands in
      let p = expand (file_var h.reading.vars) (part l from to) in
      let k = rw (expanded_same g.line.reading h.reading g.vars (part l from to ∷ [])) at (m.marks g.line g.writing) in
      record {
        line = with_mention p g.line;
        rest = qs;
        stands = s;
        writing = marks_on k;
        vars = g.vars;
        left = λ x. g.left (rw e (marks_cons p (expanded h.reading qs) g.line (marks_short k) x));
      }

  going_over : {names' index' graph' : List ℕ} → Mentions (part l from to) bs d names' index' graph' None
      → AddedPaths (with_files bs names' index' graph') h (expanded h.reading raw) None
  unfolding expanded
  going_over m =
      let (qs, e, s) = walk_on n g.stands in
      let k = rw (expanded_same g.line.reading h.reading g.vars (part l from to ∷ [])) at (m.marks g.line g.writing) in
      g.left (rw e (over (λ more. marks_over k (expanded h.reading qs ++ more))))

module _ {t l : List ℕ} {at : ℕ} {bs₀ : Buffers} {word₀ : List ℕ} {c : Counts} {names index graph word : List ℕ} {i : ℕ} {d : Counts}
    (x : Passing t l at bs₀ word₀ c names index graph word i d) where
  abbrev here : Going l x.asks.line x.asks.raw (with_files bs₀ names index graph) i d
  here = x.going x.asks.raw x.asks.stands x.asks.line x.asks.writing

  pub pass_within : i ≤ length l
  pass_within = here.stands.within

  pass_room : MentionRoom names word
  pass_room =
      let r = x.asks.room in
      record {
        names_long = omega (arith, r.names_long, x.names_long);
        word_long = omega (arith, r.word_long, x.word_long);
      }

  module _ {from to : ℕ} (n : PathNext l i from to) where
    pub pass_asks : MentionAsks t (part l from to) (with_files bs₀ names index graph) word d
    pass_asks =
        record {
          table = x.asks.table;
          short = omega (arith, length_part l from to n.within, n.within, x.asks.short);
          dollars = n.sound;
          room = pass_room;
          line = here.line;
          writing = here.writing;
        }

    pub pass_on : {names' index' graph' word' : List ℕ} {e : Counts} → length names' ≡ length names → length index' ≡ length index → length graph' ≡ length graph
        → length word' ≡ length word → Mentions (part l from to) (with_files bs₀ names index graph) d names' index' graph' (Some e)
        → Passing t l at bs₀ word₀ c names' index' graph' word' to e
    pass_on a b f w m =
        record {
          asks = x.asks;
          names_long = a ∙ x.names_long;
          ends_long = b ∙ x.ends_long;
          graph_long = f ∙ x.graph_long;
          word_long = w ∙ x.word_long;
          going = λ raw s h k. going_on (x.going raw s h k) n m;
        }

    pub pass_over : {names' index' graph' : List ℕ} → Mentions (part l from to) (with_files bs₀ names index graph) d names' index' graph' None
        → MentionsAll l at bs₀ c names' index' graph' None
    pass_over m = record { marks = λ raw s h k. going_over (x.going raw s h k) n m }

  pub pass_end : ((rest : List (List ℕ)) → PathsAt l i rest → rest ≡ []) → MentionsAll l at bs₀ c names index graph (Some d)
  unfolding expanded with_paths
  pass_end f =
      record {
        marks = λ raw s h k. let g = x.going raw s h k in g.left (rw (f g.rest g.stands) (on g.writing short_none));
      }
