-- One step: the name of its depfile, then its listed inputs.
use Rattle.std.specs.Prelude.{Option, Some, None, unwrap_or, Result, Ok, Err}
use Prim.Native.Nat.{ℕ, ◌≤◌, ◌<◌}
use mathlib.Core.List.{List, []}
use mathlib.Core.Path.{◌≡◌, sym, subst}
use native.Mathlib.Omega.{arith}
use lib.ListN.{length, take}
use Rattle.spec.specs.declared.Refusal.{Refusal}
use Rattle.spec.specs.Reading.{Reading}
use Rattle.spec.specs.Graph.{step_at}
use Rattle.spec.specs.Headers.{FoundDepfile, HeaderGraph, depfile_named, add_headers}
use Rattle.hold_names.specs.Table.{HoldsNames}
use Rattle.hold_bindings.specs.Log.{Logged}
use Rattle.hold_reading.specs.declared.Counts.{Counts}
use Rattle.hold_reading.specs.Buffers.{Buffers, with_files}
use Rattle.hold_headers.specs.Headed.{AgreesHeaders, refuses}
use Rattle.ask_depfile_names.specs.Names.{HoldsGrown, DepfileAsk, TellsDepfile, NamesDepfile}
use Rattle.ask_header_list.specs.Adds.{StepHeld, AddHeadersAsks, AddsHeaders}
use Rattle.ask_header_graph.specs.Turns.{TurnHeld, TurnAsked, Turns}

module _ {log : List Logged} {bs : Buffers} {c : Counts} {second : List ℕ} {s : ℕ} {d : Counts} {rd : Reading} {h : HeaderGraph} (w : TurnHeld log bs c second s d rd h) where
  grown : HoldsGrown log bs c d.files rd w.holds.more
  grown =
      record {
        bound = w.bound;
        graphed = w.graphed;
        named = subst (λ (l : List (List ℕ)). HoldsNames bs.names bs.index d.files l) w.holds.grown w.holds.writing.named;
      }

  step_next : s < c.steps → StepHeld log bs.graph bs.names bs.index bs.texts bs.bind second s d rd h
  step_next b = record { before = c; written = w.graphed; next = omega (arith, w.bound.steps_counted); done = w.done; holds = w.holds }

module _ {t headers : List ℕ} {count : ℕ} {order : List ℕ} {bs : Buffers} {c : Counts} {second name word : List ℕ} {s : ℕ} {d : Counts}
    (a : TurnAsked t headers count order bs c second name word s d) where
  pub depfile_asked : DepfileAsk t bs c d.files s name
  depfile_asked =
      record {
        table = a.ready.table;
        room = a.ready.name_long;
        log = a.log;
        reading = a.reading;
        more = a.held.holds.more;
        holds = grown a.held;
        sound = a.sound;
        there = a.there;
      }

  pub add_asked : AddHeadersAsks headers count order bs.graph bs.names bs.index second word s d
  add_asked =
      record {
        indexed = a.ready.indexed;
        names_long = a.ready.names_long;
        word_long = a.ready.word_long;
        log = a.log;
        texts = bs.texts;
        bind = bs.bind;
        reading = a.reading;
        headed = a.headed;
        held = step_next a.held a.there;
      }

  module _ {name' : List ℕ} {f : Result (Option ℕ) Refusal} (m : NamesDepfile bs c d.files s name' f) where
    tells : {log : List Logged} {rd : Reading} {h : HeaderGraph} → TurnHeld log bs c second s d rd h → (g : Result (Option ℕ) Refusal) → f ≡ g → TellsDepfile rd s name' g
    tells {log} {rd} w g e = subst (λ (x : Result (Option ℕ) Refusal). TellsDepfile rd s name' x) e (m.tells log rd w.holds.more (grown w))

    module _ {n : ℕ} (e : f ≡ Ok (Some n)) where
      name_within : n ≤ length name'
      unfolding TellsDepfile
      name_within = (tells a.held (Ok (Some n)) e).within

      named_turn : {ns index second' : List ℕ} {r : Result Counts Refusal} → AddsHeaders headers (take n name') bs.graph bs.names bs.index second s d ns index second' r
          → Turns headers bs c second s d ns index second' r
      unfolding TellsDepfile
      named_turn {ns} {index} {second'} {r} x =
          record {
            agrees = λ log rd h w.
                subst (λ (q : FoundDepfile). AgreesHeaders log (with_files bs ns index second') rd (add_headers s (step_at rd.steps s) q h) r)
                (sym ((tells w (Ok (Some n)) e).found headers))
                (x.agrees log bs.texts bs.bind rd h (step_next w a.there));
          }

    unnamed_turn : f ≡ Ok None → {ns index second' : List ℕ} {r : Result Counts Refusal} → AddsHeaders headers [] bs.graph bs.names bs.index second s d ns index second' r
        → Turns headers bs c second s d ns index second' r
    unfolding TellsDepfile depfile_named
    unnamed_turn e {ns} {index} {second'} {r} x =
        record {
          agrees = λ log rd h w.
              subst (λ (q : FoundDepfile). AgreesHeaders log (with_files bs ns index second') rd (add_headers s (step_at rd.steps s) q h) r)
              (sym (tells w (Ok None) e headers))
              (x.agrees log bs.texts bs.bind rd h (step_next w a.there));
        }

    -- no depfile is one with an empty name

    pub within_turn : (o : Option ℕ) → f ≡ Ok o → {n : ℕ} → n ≡ unwrap_or o 0 → n ≤ length name'
    within_turn None e u = omega arith
    within_turn (Some k) e u = rw u (name_within e)

    pub headed_turn : (o : Option ℕ) → f ≡ Ok o → {n : ℕ} → n ≡ unwrap_or o 0 → {ns index second' : List ℕ} {r : Result Counts Refusal}
        → AddsHeaders headers (take n name') bs.graph bs.names bs.index second s d ns index second' r → Turns headers bs c second s d ns index second' r
    headed_turn None e u x = unnamed_turn e (rw u at x)
    headed_turn (Some k) e u x = named_turn e (rw u at x)

    pub refused_turn : {y : Refusal} → f ≡ Err y → {ns index second' : List ℕ} → Turns headers bs c second s d ns index second' (Err y)
    unfolding TellsDepfile add_headers
    refused_turn {y} e {ns} {index} {second'} =
        record {
          agrees = λ log rd h w.
              subst (λ (q : FoundDepfile). AgreesHeaders log (with_files bs ns index second') rd (add_headers s (step_at rd.steps s) q h) (Err y))
              (sym (tells w (Err y) e headers)) refuses;
        }
