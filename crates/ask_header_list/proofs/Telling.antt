-- The names of a step's depfile mentioned: what is told by each answer.
use Rattle.std.specs.Prelude.{Option as StdOption, Some, None}
use Prim.Native.Nat.{ℕ, ◌+◌, ◌-◌, ◌*◌, ◌≤◌, ◌<◌}
use mathlib.Core.Bool.{true}
use mathlib.Core.List.{List, [], append-nil}
use mathlib.Core.Option.{Option}
use mathlib.Core.Path.{◌≡◌, sym, ◌∙◌, ap, subst}
use native.Mathlib.Omega.{arith}
use lib.ListN.{length, length-append}
use Rattle.spec.specs.declared.Refusal.TheVariants.{BadHeaders}
use Rattle.spec.specs.Basics.{or_else}
use Rattle.spec.specs.Limits.{max_mentions}
use Rattle.spec.specs.Card.{number_at}
use Rattle.spec.specs.Reading.{numbers_of, mention}
use Rattle.spec.specs.Headers.{FoundDepfile, depfile_lists, bad_depfile}
use Rattle.hold_reading.specs.declared.Counts.{Counts}
use Rattle.hold_reading.specs.Buffers.{Buffers, buffers}
use Rattle.apply_files.specs.Lines.{LineHeld, Writing, with_paths, over_line, on, over}
use Rattle.apply_files.proofs.Closed.{paths_mentions, length_numbers}
use Rattle.scan_depfile.specs.Answers.{listed_at}
use Rattle.ask_header_names.specs.Names.{AddedList, names, malformed, AddsHeaderList, HeaderListAsks}
use Rattle.ask_header_list.specs.declared.DepfilePlace.{DepfilePlace}
use Rattle.ask_header_list.specs.declared.DepfilePlace.TheVariants.{Unnamed, Absent, Lists, Malformed}
use Rattle.ask_header_list.specs.Finds.{list_text_in, DepfileFor, StepPlaced, ToldAsks, ToldFor, unnamed, absent, lists, passed, bad, MentionsListed}

-- the mentions are as many as the names
pub paths_more : {bs : Buffers} {c : Counts} {h : LineHeld} {bs' : Buffers} {d : Counts} (ns : List (List ℕ)) → Writing bs c h → Writing bs' d (with_paths ns h) → d.paths ≡ c.paths + length ns
paths_more {h = h} ns w x =
    omega
    (arith, w.paths_counted, x.paths_counted, ap length (paths_mentions ns h), length-append h.mentions (numbers_of (mention h.reading.files ns) ns), length_numbers (mention h.reading.files ns) ns)

-- the answer as it is told
abbrev told_of : Counts → StdOption Counts → StdOption (Counts × ℕ)
told_of c (Some d) = Some (d, 2 * (d.paths - c.paths))
told_of c None = None

told_list : (s : ℕ) {bs : Buffers} {c : Counts} {h : LineHeld} {bs' : Buffers} {o : Option (List (List ℕ))} {r : StdOption Counts} → Writing bs c h → AddedList bs' h o r
    → ToldFor s bs' h (or_else o depfile_lists (λ _. bad_depfile (BadHeaders s))) (told_of c r)
told_list s {c = c} w (names {ns = ns} (on {c = d} x q)) =
    let z = paths_more ns w x in
    let n : 2 * (d.paths - c.paths) ≡ 2 * length ns = omega arith in
    lists x q n
told_list s {h = h} w (names {ns = ns} (over f)) =
    passed (subst (λ (l : List (List ℕ)). over_line l h.reading ≡ true) (append-nil ns) (f []))
told_list s w malformed = bad

module _ {headers ns index second : List ℕ} {c : Counts} where
  pub tells_unnamed : MentionsListed headers Unnamed ns index second c ns index second (Some (c, 0))
  unfolding DepfileFor
  tells_unnamed =
      record { tells = λ rd s name f texts bind h w. subst (λ (d : FoundDepfile). ToldFor s (buffers ns index texts bind second) h d (Some (c, 0))) (sym f) (unnamed w) }

  pub tells_absent : MentionsListed headers Absent ns index second c ns index second (Some (c, 1))
  unfolding DepfileFor
  tells_absent =
      record { tells = λ rd s name f texts bind h w. subst (λ (d : FoundDepfile). ToldFor s (buffers ns index texts bind second) h d (Some (c, 1))) (sym f) (absent w) }

  pub tells_malformed : MentionsListed headers Malformed ns index second c ns index second None
  unfolding DepfileFor
  tells_malformed =
      record { tells = λ rd s name f texts bind h w. subst (λ (d : FoundDepfile). ToldFor s (buffers ns index texts bind second) h d None) (sym f) bad }

  module _ {k from : ℕ} {text ns' index' second' : List ℕ} (t : text ≡ list_text_in headers k) where
    tells_list : {r : StdOption Counts} → AddsHeaderList text from ns index second c ns' index' second' r → MentionsListed headers (Lists k from) ns index second c ns' index' second' (told_of c r)
    unfolding DepfileFor
    tells_list {r} m =
        record {
          tells = λ rd s name f texts bind h w.
              subst (λ (d : FoundDepfile). ToldFor s (buffers ns' index' texts bind second') h d (told_of c r))
              (ap (λ (b : List ℕ). or_else (listed_at b from) depfile_lists (λ _. bad_depfile (BadHeaders s))) t ∙ sym f.found)
              (told_list s w (m.adds texts bind h w));
        }

    pub tells_on : {r : StdOption Counts} {d : Counts} → r ≡ Some d → AddsHeaderList text from ns index second c ns' index' second' r
        → MentionsListed headers (Lists k from) ns index second c ns' index' second' (Some (d, 2 * (d.paths - c.paths)))
    tells_on e m = tells_list (rw e at m)

    pub tells_over : {r : StdOption Counts} → r ≡ None → AddsHeaderList text from ns index second c ns' index' second' r → MentionsListed headers (Lists k from) ns index second c ns' index' second' None
    tells_over e m = tells_list (rw e at m)

-- the place is known by an equation
pub tells_as : {headers : List ℕ} {p q : DepfilePlace} {ns index second : List ℕ} {c : Counts} {ns' index' second' : List ℕ} {r : StdOption (Counts × ℕ)} → p ≡ q
    → MentionsListed headers q ns index second c ns' index' second' r → MentionsListed headers p ns index second c ns' index' second' r
tells_as {headers} {ns = ns} {index} {second} {c} {ns'} {index'} {second'} {r} e t =
    subst (λ (x : DepfilePlace). MentionsListed headers x ns index second c ns' index' second' r) (sym e) t

told_count : {bs bs' : Buffers} {h : LineHeld} {o : Option (List (List ℕ))} {c d : Counts} → Writing bs c h → AddedList bs' h o (Some d) → (c.paths ≤ d.paths) × (d.paths ≤ max_mentions)
told_count w (names {ns = ns} (on x q)) = (omega (arith, paths_more ns w x), omega (arith, x.few_mentions, x.mentions_low))

-- what the list asks, and how many it mentions
module _ {headers : List ℕ} {place : DepfilePlace} {ns index second word : List ℕ} {c : Counts} (a : ToldAsks headers place ns index second word c) where
  module _ {k from : ℕ} (e : place ≡ Lists k from) where
    placed : StepPlaced headers (Lists k from)
    placed = subst (λ (p : DepfilePlace). StepPlaced headers p) e a.placed

    pub told_low : k < number_at 0 4 headers
    unfolding StepPlaced
    told_low = placed.0

    pub told_asks : {text : List ℕ} → text ≡ list_text_in headers k → HeaderListAsks text from ns index second word c
    unfolding StepPlaced
    told_asks t = record { within = subst (λ (b : List ℕ). from ≤ length b) (sym t) placed.1; asks = a.asks }

  pub told_more : {text : List ℕ} {from : ℕ} {ns' index' second' : List ℕ} {r : StdOption Counts} {d : Counts} → r ≡ Some d → AddsHeaderList text from ns index second c ns' index' second' r
      → (c.paths ≤ d.paths) × (d.paths ≤ max_mentions)
  told_more e m = told_count a.asks.writing ((rw e at m).adds a.asks.texts a.asks.bind a.asks.line a.asks.writing)
