-- The loop over the names that a depfile lists: what it has mentioned so far, and what is left.
use Rattle.std.specs.Prelude.{Option as StdOption, Some, None}
use Prim.Native.Nat.{ℕ, ◌≤◌}
use mathlib.Core.Bool.{false}
use mathlib.Core.List.{List, [], ◌∷◌, ◌++◌}
use mathlib.Core.Option.{Option, none, some, map}
use mathlib.Core.Path.{◌≡◌, refl, sym, ◌∙◌, subst}
use native.Mathlib.Omega.{arith}
use lib.ListN.{length}
use Rattle.spec.specs.Statements.{over_paths}
use Rattle.hold_reading.specs.declared.Counts.{Counts}
use Rattle.hold_reading.specs.Buffers.{Buffers, buffers}
use Rattle.scan_depfile.specs.Answers.{listed_at, NameListed, ListOver}
use Rattle.apply_files.specs.Lines.{LineHeld, Writing, with_mention, with_paths, AddedPaths, on, over}
use Rattle.apply_files.proofs.Limits.{short_none}
use Rattle.apply_files.proofs.Marks.{marks_on, marks_short, marks_over, marks_cons}
use Rattle.ask_header_names.specs.Names.{HeaderAsks, AddsHeader, AddedList, names, malformed, HeaderListAsks, AddsHeaderList}

-- ---- answers

-- one name, then the others
list_cons : {bs : Buffers} (p : List ℕ) (h : LineHeld) {o : Option (List (List ℕ))} {r : StdOption Counts} → over_paths (p ∷ []) ≡ false → AddedList bs (with_mention p h) o r
    → AddedList bs h (map (λ l. p ∷ l) o) r
list_cons p h q (names {ns = ns} m) = names (marks_cons p ns h q m)
list_cons p h q malformed = malformed

-- one that is over a limit
list_passed : {bs : Buffers} (p : List ℕ) (h : LineHeld) (o : Option (List (List ℕ))) → AddedPaths bs h (p ∷ []) None → AddedList bs h (map (λ l. p ∷ l) o) None
list_passed p h none k = malformed
list_passed p h (some ns) k = names (over (λ more. marks_over k (ns ++ more)))

list_none : {bs : Buffers} {d : Counts} {h : LineHeld} → Writing bs d h → AddedList bs h (some []) (Some d)
unfolding with_paths
list_none w = names (on w short_none)

-- ---- the loop

-- of a line that was held
pub record Adding (text : List ℕ) (at : ℕ) (h : LineHeld) (ns index texts bind graph : List ℕ) (i : ℕ) (d : Counts) : Type 0 where
  pub line : LineHeld
  pub writing : Writing (buffers ns index texts bind graph) d line
  pub left : {ns' index' graph' : List ℕ} {r : StdOption Counts} → AddedList (buffers ns' index' texts bind graph') line (listed_at text i) r
      → AddedList (buffers ns' index' texts bind graph') h (listed_at text at) r

pub record Listing (text : List ℕ) (at : ℕ) (ns₀ index₀ graph₀ word₀ : List ℕ) (c : Counts) (ns index graph word : List ℕ) (i : ℕ) (d : Counts) : Type 0 where
  pub asks : HeaderListAsks text at ns₀ index₀ graph₀ word₀ c
  pub names_long : length ns ≡ length ns₀
  pub index_long : length index ≡ length index₀
  pub graph_long : length graph ≡ length graph₀
  pub word_long : length word ≡ length word₀
  pub within : i ≤ length text
  pub adding : (texts bind : List ℕ) (h : LineHeld) → Writing (buffers ns₀ index₀ texts bind graph₀) c h → Adding text at h ns index texts bind graph i d

pub list_begin : {text : List ℕ} {at : ℕ} {ns index graph word : List ℕ} {c : Counts} → HeaderListAsks text at ns index graph word c
    → Listing text at ns index graph word c ns index graph word at c
list_begin a =
    record {
      asks = a;
      names_long = refl;
      index_long = refl;
      graph_long = refl;
      word_long = refl;
      within = a.within;
      adding = λ texts bind h w. record { line = h; writing = w; left = λ m. m };
    }

-- a name of the list, of a line that was held
module _ {text : List ℕ} {at : ℕ} {h : LineHeld} {ns index texts bind graph : List ℕ} {i : ℕ} {d : Counts} (g : Adding text at h ns index texts bind graph i d)
    {next n : ℕ} {before word : List ℕ} (l : NameListed text i next n before word) (long : length word ≡ length before) where
  abbrev told : {ns' index' graph' : List ℕ} {r : StdOption Counts} → AddsHeader word n ns index graph d ns' index' graph' r
      → AddedPaths (buffers ns' index' texts bind graph') g.line (l.name ∷ []) r
  told m = m.adds l.name l.counts (λ b. l.whole (omega arith)) texts bind g.line g.writing

  adding_on : {ns' index' graph' : List ℕ} {e : Counts} → AddsHeader word n ns index graph d ns' index' graph' (Some e) → Adding text at h ns' index' texts bind graph' next e
  unfolding with_paths
  adding_on m =
      let k = told m in
      record {
        line = with_mention l.name g.line;
        writing = marks_on k;
        left = λ {ns'} {index'} {graph'} {r} x.
            g.left (subst (λ (o : Option (List (List ℕ))). AddedList (buffers ns' index' texts bind graph') g.line o r) (sym l.names) (list_cons l.name g.line (marks_short k) x));
      }

  adding_over : {ns' index' graph' : List ℕ} → AddsHeader word n ns index graph d ns' index' graph' None
      → AddedList (buffers ns' index' texts bind graph') h (listed_at text at) None
  adding_over {ns'} {index'} {graph'} m =
      g.left
      (subst (λ (o : Option (List (List ℕ))). AddedList (buffers ns' index' texts bind graph') g.line o None) (sym l.names)
      (list_passed l.name g.line (listed_at text next) (told m)))

module _ {text : List ℕ} {at : ℕ} {ns₀ index₀ graph₀ word₀ : List ℕ} {c : Counts} {ns index graph word : List ℕ} {i : ℕ} {d : Counts}
    (x : Listing text at ns₀ index₀ graph₀ word₀ c ns index graph word i d) where
  abbrev here : Adding text at x.asks.asks.line ns index x.asks.asks.texts x.asks.asks.bind graph i d
  here = x.adding x.asks.asks.texts x.asks.asks.bind x.asks.asks.line x.asks.asks.writing

  module _ {word' : List ℕ} (long : length word' ≡ length word) where
    pub list_asks : HeaderAsks word' ns index graph d
    list_asks =
        record {
          names_long = omega (arith, x.names_long, x.asks.asks.names_long);
          word_long = omega (arith, x.word_long, x.asks.asks.word_long);
          texts = x.asks.asks.texts;
          bind = x.asks.asks.bind;
          line = here.line;
          writing = here.writing;
        }

    module _ {next n : ℕ} (l : NameListed text i next n word word') where
      pub list_on : {ns' index' graph' : List ℕ} {e : Counts} → length ns' ≡ length ns → length index' ≡ length index → length graph' ≡ length graph
          → AddsHeader word' n ns index graph d ns' index' graph' (Some e) → Listing text at ns₀ index₀ graph₀ word₀ c ns' index' graph' word' next e
      list_on a b f m =
          record {
            asks = x.asks;
            names_long = a ∙ x.names_long;
            index_long = b ∙ x.index_long;
            graph_long = f ∙ x.graph_long;
            word_long = long ∙ x.word_long;
            within = l.within;
            adding = λ texts bind h w. adding_on (x.adding texts bind h w) l long m;
          }

      pub list_over : {ns' index' graph' : List ℕ} → AddsHeader word' n ns index graph d ns' index' graph' None → AddsHeaderList text at ns₀ index₀ graph₀ c ns' index' graph' None
      list_over m = record { adds = λ texts bind h w. adding_over (x.adding texts bind h w) l long m }

  pub list_end : {word' : List ℕ} → ListOver text i (some []) word word' → AddsHeaderList text at ns₀ index₀ graph₀ c ns index graph (Some d)
  list_end o =
      record {
        adds = λ texts bind h w.
            let g = x.adding texts bind h w in
            g.left (subst (λ (l : Option (List (List ℕ))). AddedList (buffers ns index texts bind graph) g.line l (Some d)) (sym o.names) (list_none g.writing));
      }

  pub list_bad : {word' : List ℕ} → ListOver text i none word word' → AddsHeaderList text at ns₀ index₀ graph₀ c ns index graph None
  list_bad o =
      record {
        adds = λ texts bind h w.
            let g = x.adding texts bind h w in
            g.left (subst (λ (l : Option (List (List ℕ))). AddedList (buffers ns index texts bind graph) g.line l None) (sym o.names) malformed);
      }
