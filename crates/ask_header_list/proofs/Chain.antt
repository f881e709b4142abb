-- The calls for a step, one after another: what each asks, and what is held after it.
use Rattle.std.specs.Prelude.{Option, Some, None, Ok, Err}
use Prim.Native.Nat.{ℕ, ◌+◌, ◌-◌, ◌*◌, ◌≤◌, ◌<◌}
use mathlib.Core.List.{List, [], ◌++◌}
use mathlib.Core.Path.{◌≡◌, sym, ◌∙◌, ap, subst}
use native.Mathlib.Omega.{arith}
use lib.ListN.{length, get_or, length-append, get_or-append}
use Rattle.lists.specs.Members.{in_at, in_left}
use Rattle.spec.specs.declared.Refusal.TheVariants.{BadHeaders}
use Rattle.spec.specs.Limits.{max_path, max_mentions, max_written}
use Rattle.spec.specs.Reading.{Reading}
use Rattle.spec.specs.Statements.{mentioned}
use Rattle.spec.specs.Graph.{inputs}
use Rattle.spec.specs.Headers.{FoundDepfile, HeaderGraph, first_output, depfile_named, add_headers}
use Rattle.hold_bindings.specs.Log.{Logged}
use Rattle.hold_columns.specs.Columns.{mentions_of}
use Rattle.hold_reading.specs.declared.Counts.{Counts}
use Rattle.hold_reading.specs.Buffers.{Buffers, buffers}
use Rattle.apply_files.specs.Lines.{LineHeld, Writing}
use Rattle.apply_files.proofs.Columns.{graph_long}
use Rattle.apply_files.proofs.Closed.{paths_reading}
use Rattle.scan_bundle.specs.Bundles.{BundleIndexed}
use Rattle.hold_headers.specs.Headed.{AgreesHeaders}
use Rattle.ask_header_list.specs.declared.StepPlaces.{StepPlaces}
use Rattle.ask_header_list.specs.declared.DepfilePlace.{DepfilePlace}
use Rattle.ask_header_list.specs.declared.DepfilePlace.TheVariants.{Unnamed, Absent, Lists, Malformed}
use Rattle.ask_header_list.specs.Places.{places_in, PlacesAsk}
use Rattle.ask_header_list.specs.Copies.{CopyAsks, Copies, CloseAsks, Closes}
use Rattle.ask_header_list.specs.Finds.{DepfileFor, FindAsks, FindsDepfile, StepPlaced, ToldAsks, ToldFor, unnamed, absent, lists, MentionsListed}
use Rattle.ask_header_list.specs.Adds.{StepHeld}
use Rattle.ask_header_list.proofs.Placing.{places_ask}
use Rattle.ask_header_list.proofs.Telling.{paths_more}
use Rattle.ask_header_list.proofs.Heading.{line_copied, left_room, stands_here, front_asks, written_low}
use Rattle.ask_header_list.proofs.Adding.{step, front, told_agrees, refused_agrees}

-- where a depfile's names were found, they stand in the bundle
placed_for : (headers : List ℕ) (rd : Reading) (s : ℕ) (name : List ℕ) (r : DepfilePlace) → DepfileFor headers rd s name r → StepPlaced headers r
unfolding DepfileFor StepPlaced
placed_for headers rd s name Unnamed f = tt
placed_for headers rd s name Absent f = tt
placed_for headers rd s name (Lists k from) f = (f.low, f.within)
placed_for headers rd s name Malformed f = tt

-- what is told has a count of paths and a number within their limits
pub record ToldFits (c e : Counts) (n : ℕ) : Type 0 where
  pub more : c.paths ≤ e.paths
  pub small : n ≤ 2 * max_mentions + 1
  pub defaults : e.defaults ≡ c.defaults
  pub mentions : e.mentions ≡ c.mentions + (e.paths - c.paths)
  pub low : e.mentions ≤ max_mentions

plain_fits : {bs bs' : Buffers} {c e : Counts} {h : LineHeld} {n : ℕ} → Writing bs c h → Writing bs' e h → n ≤ 1 → ToldFits c e n
plain_fits w k b =
    let p = w.paths_counted ∙ sym k.paths_counted in
    record {
      more = omega (arith, p);
      small = omega arith;
      defaults = k.defaults_counted ∙ sym w.defaults_counted;
      mentions = omega (arith, p, w.mentions_counted, k.mentions_counted);
      low = k.mentions_low;
    }

told_fits : {bs bs' : Buffers} {s : ℕ} {c e : Counts} {h : LineHeld} {d : FoundDepfile} {n : ℕ} → Writing bs c h → ToldFor s bs' h d (Some (e, n)) → ToldFits c e n
unfolding mentioned
told_fits w (unnamed k) = plain_fits w k (omega arith)
told_fits w (absent k) = plain_fits w k (omega arith)
told_fits {h = h} w (lists {ns = ns} k o z) =
    let m = paths_more ns w k in
    let r = paths_reading ns h in
    let a = ap (λ (v : Reading). v.mentions) r in
    let d = ap (λ (v : Reading). length v.defaults) r in
    record {
      more = omega (arith, m);
      small = omega (arith, z, m, k.few_mentions, k.mentions_low);
      defaults = k.defaults_counted ∙ d ∙ sym w.defaults_counted;
      mentions = omega (arith, m, a, k.mentions_counted, w.mentions_counted);
      low = k.mentions_low;
    }

module _ {log : List Logged} {graph ns index texts bind second : List ℕ} {s : ℕ} {c : Counts} {rd : Reading} {h : HeaderGraph}
    (w : StepHeld log graph ns index texts bind second s c rd h) where
  pub places_asked : PlacesAsk graph s
  places_asked = places_ask w.written w.next

  some_output : 0 < length (step w).outs
  some_output = let t = stands_here w in omega (arith, t.sound.output, t.outs)

  first_low : get_or (step w).outs 0 0 < length rd.files
  unfolding mentions_of
  first_low = written_low w.written s (get_or (step w).outs 0 0) (in_left (inputs (step w)) (in_at (step w).outs 0 some_output))

  files_counted : c.files ≡ length rd.files + length w.holds.more
  files_counted = omega (arith, w.holds.writing.named.counted, ap length w.holds.grown, length-append rd.files w.holds.more)

  module _ {p : StepPlaces} (pl : p ≡ places_in graph s) where
    pub start_low : p.start < length graph
    start_low = let t = stands_here w in rw pl (omega (arith, t.sound.output, t.sound.outs, t.sound.ins, t.sound.implicit, t.sound.within))

    pub front_asked : CopyAsks graph p.start p.implicit second c
    front_asked = rw pl (front_asks w)

    module _ {out : ℕ} (o : out ≡ get_or graph p.start 0) where
      out_is : out ≡ get_or (step w).outs 0 0
      out_is = o ∙ ap (λ (q : StepPlaces). get_or graph q.start 0) pl ∙ (stands_here w).output

      pub find_asked : {headers : List ℕ} {count : ℕ} {order : List ℕ} → BundleIndexed headers count order → FindAsks headers count order ns index c.files out
      find_asked b =
          record {
            indexed = b;
            paths = h.reading.files;
            named = w.holds.writing.named;
            below = omega (arith, out_is, first_low, files_counted);
          }

      first_is_law : first_output rd s ≡ get_or h.reading.files out []
      unfolding first_output
      first_is_law =
          sym (get_or-append rd.files w.holds.more [] (get_or (step w).outs 0 0) first_low)
          ∙ ap (λ (l : List (List ℕ)). get_or l (get_or (step w).outs 0 0) []) (sym w.holds.grown)
          ∙ ap (λ (i : ℕ). get_or h.reading.files i []) (sym out_is)

      module _ {headers name : List ℕ} {place : DepfilePlace} (f : FindsDepfile headers name ns index c.files out place) where
        found_for : DepfileFor headers rd s name place
        found_for = f.finds h.reading.files w.holds.writing.named rd s first_is_law

        module _ {second₁ : List ℕ} {d : Counts} (k : Copies graph p.start p.implicit second c second₁ d) where
          front_held : Writing (buffers ns index texts bind second₁) d (front w)
          front_held =
              let t = stands_here w in
              let x = step w in
              let l : length (x.outs ++ (x.ins ++ x.implicit)) ≡ length x.outs + (length x.ins + length x.implicit) =
              length-append x.outs (x.ins ++ x.implicit) ∙ ap (λ (i : ℕ). length x.outs + i) (length-append x.ins x.implicit) in
              line_copied w.holds.writing (rw pl at k) (x.outs ++ (x.ins ++ x.implicit)) t.front (omega (arith, t.implicit, l)) (omega (arith, left_room w, l))

          pub told_asked : {word : List ℕ} → max_written ≤ length ns → max_path ≤ length word → {count : ℕ} {order : List ℕ} → BundleIndexed headers count order
              → ToldAsks headers place ns index second₁ word d
          told_asked m l b =
              record {
                laid = b.laid;
                placed = placed_for headers rd s name place found_for;
                asks = record { names_long = m; word_long = l; texts = texts; bind = bind; line = front w; writing = front_held };
              }

          module _ {ns' index' second₂ : List ℕ} {r : Option (Counts × ℕ)} (t : MentionsListed headers place ns index second₁ d ns' index' second₂ r) where
            told : ToldFor s (buffers ns' index' texts bind second₂) (front w) (depfile_named headers rd s name) r
            told = t.tells rd s name found_for texts bind (front w) front_held

            module _ {e : Counts} {n : ℕ} (y : r ≡ Some (e, n)) where
              told_here : ToldFor s (buffers ns' index' texts bind second₂) (front w) (depfile_named headers rd s name) (Some (e, n))
              told_here = subst (λ (x : Option (Counts × ℕ)). ToldFor s (buffers ns' index' texts bind second₂) (front w) (depfile_named headers rd s name) x) y told

              pub close_asked : length second₂ ≡ length second → CloseAsks graph p second₂ s c.paths e n
              close_asked l =
                  let v = told_fits front_held told_here in
                  let x = stands_here w in
                  let q : d.paths ≡ c.paths + (p.implicit - p.start) = ap (λ (i : Counts). i.paths) k.counted in
                  let m : d.mentions ≡ c.mentions = ap (λ (i : Counts). i.mentions) k.counted in
                  let i : p.implicit - p.start ≡ length (step w).outs + length (step w).ins + length (step w).implicit = rw pl x.implicit in
                  let o : p.order - p.implicit ≡ length (step w).order_only = rw pl x.order in
                  record {
                    sound = rw pl x.sound;
                    long = omega (arith, l, graph_long w.holds.writing.columns);
                    few = places_asked.few;
                    before = omega (arith, q, v.more);
                    room = omega (arith, q, m, i, o, left_room w, v.more, v.mentions, v.low);
                    small = v.small;
                  }

              pub headed_here : {second₃ : List ℕ} {g : Counts} → Closes graph p second₂ s c.paths e n second₃ g
                  → AgreesHeaders log (buffers ns' index' texts bind second₃) rd (add_headers s (step w) (depfile_named headers rd s name) h) (Ok g)
              headed_here q = told_agrees w told_here (rw pl at q)

            pub refused_here : r ≡ None → AgreesHeaders log (buffers ns' index' texts bind second₂) rd (add_headers s (step w) (depfile_named headers rd s name) h) (Err (BadHeaders s))
            refused_here y =
                refused_agrees w (subst (λ (x : Option (Counts × ℕ)). ToldFor s (buffers ns' index' texts bind second₂) (front w) (depfile_named headers rd s name) x) y told)
