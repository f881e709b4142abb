-- All steps, one after another.
use Rattle.std.specs.Prelude.{Result, Ok, Err}
use Prim.Native.Nat.{ℕ, suc, ◌+◌, ◌≤◌, ◌<◌}
use mathlib.Core.Bool.{true, false, ◌||◌}
use mathlib.Core.List.{List, [], ◌∷◌}
use mathlib.Core.Path.{◌≡◌, refl, sym, ◌∙◌, ap, subst}
use native.Mathlib.Numerals.{add-one}
use native.Mathlib.Omega.{arith}
use lib.ListN.{length, drop, length-append, drop_of_length-le}
use lib.Seq.{drop-cons}
use Rattle.lists.specs.Tests.{split}
use Rattle.spec.specs.declared.Refusal.{Refusal}
use Rattle.spec.specs.Reading.{Step, Reading, numbers_of}
use Rattle.spec.specs.Statements.{mentioned, over_paths, over_counts}
use Rattle.spec.specs.Manifest.{with_step}
use Rattle.spec.specs.Graph.{no_step, step_at}
use Rattle.spec.specs.Headers.{FoundDepfile, no_depfile, missing_depfile, depfile_lists, bad_depfile, Listed, nothing_listed, HeaderGraph, Heading, headed, headless, depfile_of, head_step, add_headers, on_headed, headers_from, with_headers}
use Rattle.hold_bindings.specs.Log.{Logged}
use Rattle.hold_reading.specs.declared.Counts.{Counts}
use Rattle.hold_reading.specs.Buffers.{Buffers, buffers, with_files}
use Rattle.hold_headers.specs.Headed.{AgreesHeaders, heads, refuses}
use Rattle.ask_header_graph.specs.Turns.{TurnHeld, TurnAsked, Turns, no_paths, no_steps, StartHeld, WalkAsked, HeadsAll}

-- ---- a step more

abbrev LongOf : ℕ → Heading → Type 0
LongOf n (headed h) = length h.reading.steps ≡ n
LongOf n (headless r) = Unit {0}

long_headed : (s : Step) (l : Listed) (h : HeaderGraph) → LongOf (suc (length h.reading.steps)) (headed (head_step s l h))
unfolding head_step with_step
long_headed s l h = length-append h.reading.steps (_ ∷ []) ∙ omega arith

long_added : (k : ℕ) (s : Step) (d : FoundDepfile) (h : HeaderGraph) → LongOf (suc (length h.reading.steps)) (add_headers k s d h)
unfolding add_headers mentioned
long_added k s no_depfile h = long_headed s nothing_listed h
long_added k s missing_depfile h = long_headed s (record { missing = true; files = [] }) h
long_added k s (depfile_lists ns) h =
    let over = over_paths ns || over_counts (mentioned ns h.reading) in
    split over
    (λ (e : over ≡ true). rw e tt)
    (λ (e : over ≡ false).
    rw e (long_headed s (record { missing = false; files = numbers_of (mentioned ns h.reading).files ns }) (record { reading = mentioned ns h.reading; lists = h.lists })))
long_added k s (bad_depfile r) h = tt

-- ---- what is held on the way

-- the steps before step s are headed, and the steps from s on end in what the definition says
pub record Gone (headers : List ℕ) (log : List Logged) (bs : Buffers) (c : Counts) (second : List ℕ) (s : ℕ) (d : Counts) (rd : Reading) : Type 0 where
  pub graph : HeaderGraph
  pub held : TurnHeld log bs c second s d rd graph
  pub rest : headers_from headers rd s (drop s rd.steps) graph ≡ with_headers headers rd

module _ {headers : List ℕ} {log : List Logged} {bs : Buffers} {c : Counts} {second : List ℕ} {s : ℕ} {d : Counts} {rd : Reading} (g : Gone headers log bs c second s d rd) where
  abbrev added : Heading
  added = add_headers s (step_at rd.steps s) (depfile_of headers rd s) g.graph

  next_rest : s < length rd.steps → on_headed added headless (headers_from headers rd (suc s) (drop (suc s) rd.steps)) ≡ with_headers headers rd
  unfolding headers_from
  next_rest b = ap (λ (l : List Step). headers_from headers rd s l g.graph) (sym (drop-cons rd.steps s no_step b)) ∙ g.rest

  module _ (b : s < c.steps) where
    there : s < length rd.steps
    there = omega (arith, g.held.bound.steps_counted)

    gone_more : {ns index second' : List ℕ} {e : Counts} (x : Heading) → added ≡ x → AgreesHeaders log (with_files bs ns index second') rd x (Ok e)
        → Gone headers log (buffers ns index bs.texts bs.bind bs.graph) c second' (s + 1) e rd
    unfolding on_headed
    gone_more x q (heads {h = h'} k) =
        let z : s + 1 ≡ suc s = add-one s in
        let n : length h'.reading.steps ≡ suc (length g.graph.reading.steps) =
        subst (λ (y : Heading). LongOf (suc (length g.graph.reading.steps)) y) q (long_added s (step_at rd.steps s) (depfile_of headers rd s) g.graph) in
        rw z
        record {
          graph = h';
          held = record { bound = g.held.bound; graphed = g.held.graphed; done = n ∙ ap suc g.held.done; holds = k };
          rest = sym (ap (λ (y : Heading). on_headed y headless (headers_from headers rd (suc s) (drop (suc s) rd.steps))) q) ∙ next_rest there;
        }

    gone_refused : {bs' : Buffers} {r : Refusal} (x : Heading) → added ≡ x → AgreesHeaders log bs' rd x (Err r) → with_headers headers rd ≡ headless r
    unfolding on_headed
    gone_refused x q refuses = sym (next_rest there) ∙ ap (λ (y : Heading). on_headed y headless (headers_from headers rd (suc s) (drop (suc s) rd.steps))) q

  gone_all : c.steps ≤ s → with_headers headers rd ≡ headed g.graph
  unfolding headers_from
  gone_all b = sym g.rest ∙ ap (λ (l : List Step). headers_from headers rd s l g.graph) (drop_of_length-le rd.steps {i = s} (omega (arith, g.held.bound.steps_counted)))

-- ---- the loop

pub record Walking (t headers : List ℕ) (count : ℕ) (order : List ℕ) (bs₀ : Buffers) (c : Counts) (second₀ name₀ word₀ names index second name word : List ℕ) (s : ℕ) (d : Counts) : Type 0 where
  pub asks : WalkAsked t headers count order bs₀ c second₀ name₀ word₀
  pub names_long : length names ≡ length bs₀.names
  pub index_long : length index ≡ length bs₀.index
  pub second_long : length second ≡ length second₀
  pub name_long : length name ≡ length name₀
  pub word_long : length word ≡ length word₀
  pub goes : (log : List Logged) (rd : Reading) → StartHeld log bs₀ c second₀ rd → Gone headers log (buffers names index bs₀.texts bs₀.bind bs₀.graph) c second s d rd

module _ {t headers : List ℕ} {count : ℕ} {order : List ℕ} {bs : Buffers} {c : Counts} {second name word : List ℕ} where
  pub walk_begin : WalkAsked t headers count order bs c second name word → Walking t headers count order bs c second name word bs.names bs.index second name word 0 (no_paths c)
  unfolding with_headers
  walk_begin a =
      record {
        asks = a;
        names_long = refl;
        index_long = refl;
        second_long = refl;
        name_long = refl;
        word_long = refl;
        goes = λ log rd w. record { graph = no_steps rd; held = w; rest = refl };
      }

  module _ {names₁ index₁ second₁ name₁ word₁ : List ℕ} {s : ℕ} {d : Counts} (x : Walking t headers count order bs c second name word names₁ index₁ second₁ name₁ word₁ s d) where
    gone_here : Gone headers x.asks.log (buffers names₁ index₁ bs.texts bs.bind bs.graph) c second₁ s d x.asks.reading
    gone_here = x.goes x.asks.log x.asks.reading x.asks.held

    pub turn_asked : s < c.steps → TurnAsked t headers count order (buffers names₁ index₁ bs.texts bs.bind bs.graph) c second₁ name₁ word₁ s d
    turn_asked b =
        let r = x.asks.ready in
        record {
          ready =
              record {
                table = r.table;
                indexed = r.indexed;
                names_long = omega (arith, r.names_long, x.names_long);
                name_long = omega (arith, r.name_long, x.name_long);
                word_long = omega (arith, r.word_long, x.word_long);
              };
          there = b;
          log = x.asks.log;
          reading = x.asks.reading;
          headed = gone_here.graph;
          sound = x.asks.sound;
          held = gone_here.held;
        }

    module _ (b : s < c.steps) {names₂ index₂ second₂ : List ℕ} {r : Result Counts Refusal}
        (t₁ : Turns headers (buffers names₁ index₁ bs.texts bs.bind bs.graph) c second₁ s d names₂ index₂ second₂ r) where
      pub walk_more : {name₂ word₂ : List ℕ} {e : Counts} → r ≡ Ok e → length names₂ ≡ length names₁ → length index₂ ≡ length index₁ → length second₂ ≡ length second₁
          → length name₂ ≡ length name₁ → length word₂ ≡ length word₁ → Walking t headers count order bs c second name word names₂ index₂ second₂ name₂ word₂ (s + 1) e
      walk_more {e = e} q l1 l2 l3 l4 l5 =
          record {
            asks = x.asks;
            names_long = l1 ∙ x.names_long;
            index_long = l2 ∙ x.index_long;
            second_long = l3 ∙ x.second_long;
            name_long = l4 ∙ x.name_long;
            word_long = l5 ∙ x.word_long;
            goes = λ log rd w.
                let g = x.goes log rd w in
                gone_more g b (added g) refl
                (subst (λ (y : Result Counts Refusal). AgreesHeaders log (buffers names₂ index₂ bs.texts bs.bind second₂) rd (added g) y) q (t₁.agrees log rd g.graph g.held));
          }

      pub walk_refused : {y : Refusal} → r ≡ Err y → HeadsAll headers bs c second names₂ index₂ second₂ (Err y)
      walk_refused {y} q =
          record {
            agrees = λ log rd w.
                let g = x.goes log rd w in
                let e : with_headers headers rd ≡ headless y =
                gone_refused g b (added g) refl
                (subst (λ (z : Result Counts Refusal). AgreesHeaders log (buffers names₂ index₂ bs.texts bs.bind second₂) rd (added g) z) q (t₁.agrees log rd g.graph g.held)) in
                subst (λ (z : Heading). AgreesHeaders log (with_files bs names₂ index₂ second₂) rd z (Err y)) (sym e) refuses;
          }

    pub walk_end : c.steps ≤ s → HeadsAll headers bs c second names₁ index₁ second₁ (Ok d)
    walk_end b =
        record {
          agrees = λ log rd w.
              let g = x.goes log rd w in
              subst (λ (z : Heading). AgreesHeaders log (with_files bs names₁ index₁ second₁) rd z (Ok d)) (sym (gone_all g b)) (heads g.held.holds);
        }
