-- The second columns are what the plan behind the header lists asks for.
use Rattle.std.specs.Prelude.{Result}
use Prim.Native.Nat.{ℕ, ◌<◌}
use native.Mathlib.Omega.{arith}
use mathlib.Core.List.{List}
use mathlib.Core.Path.{◌≡◌}
use lib.ListN.{length}
use Rattle.spec.specs.Reading.{Reading}
use Rattle.spec.specs.Headers.{HeaderGraph}
use Rattle.hold_columns.proofs.Held.{held_inputs, held_sound}
use Rattle.hold_reading.specs.declared.Counts.{Counts}
use Rattle.hold_parts.specs.Parts.{mentions_in, ends_in, phony_in, made_in, ColumnsCut, Tabled}
use Rattle.hold_parts.proofs.Parts.{tables, made_counted}
use Rattle.ask_header_graph.specs.Graph.{HeadedGraph}
use Rattle.ask_header_graph.specs.Split.{SplitAsked, SplitsLists}
use Rattle.ask_header_graph.proofs.Ready.{split_asked, ready, headed_held}
use Rattle.ask_plan_sources.specs.Sources.{WrittenAsked}
use Rattle.ask_plan_headed.specs.Headed.{HeadedPlanAsked, PlansHeaded}
use Rattle.ask_plan_second.specs.Second.{SecondAsked, SecondSpaceAsked, PlansSecond}
use Rattle.spec.specs.declared.Refusal.{Refusal}

module _ {names index second : List ℕ} {c d : Counts} {h : HeaderGraph} (g : HeadedGraph names index second c d h) where
  pub second_parted : ColumnsCut second d
  second_parted = record { long = g.long; few_paths = g.few_paths; few_steps = g.few_steps; few_files = g.few_files }

  -- the written columns, where the second ones have the makers
  written_asked : {missing listed graph : List ℕ} {rd : Reading} → SplitsLists second d.steps missing listed → Tabled graph c rd
      → WrittenAsked (length (phony_in second d)) (mentions_in graph c) (ends_in graph c) (made_in second d)
  written_asked {graph = graph} w t =
      let s = held_sound (tables t) in
      let r = ready g w in
      record {
        placed = λ k b. s.placed k (omega (arith, r.steps, g.same_steps, t.steps_counted));
        low = λ f m. let l : f < length (made_in graph c) = s.low f m in omega (arith, r.files, made_counted t, g.more_files);
      }

-- the parts that are lent on
pub record Lent (graph : List ℕ) (c : Counts) (second : List ℕ) (d : Counts) (wmentions wends mentions ends phony made : List ℕ) : Type 0 where
  pub wmentions_cut : wmentions ≡ mentions_in graph c
  pub wends_cut : wends ≡ ends_in graph c
  pub mentions_cut : mentions ≡ mentions_in second d
  pub ends_cut : ends ≡ ends_in second d
  pub phony_cut : phony ≡ phony_in second d
  pub made_cut : made ≡ made_in second d

module _ {card names index graph : List ℕ} {c : Counts} {second : List ℕ} {d : Counts} {roots list : List ℕ} where
  pub ask_split : {missing listed : List ℕ} → SecondSpaceAsked card names index graph c second d roots missing listed list → SplitAsked second d.steps missing listed
  ask_split q = split_asked q.asked.headed q.missing_long q.listed_long

  module _ {wmentions wends mentions ends phony made missing listed : List ℕ} (e : Lent graph c second d wmentions wends mentions ends phony made) (w : SplitsLists second d.steps missing listed) where
    pub ask_headed : SecondAsked card names index graph c second d roots list → HeadedPlanAsked card names index wmentions wends mentions ends phony made missing listed roots list
    ask_headed q =
        let g = q.headed in
        let r = ready g w in
        rw (e.wmentions_cut, e.wends_cut, e.mentions_cut, e.ends_cut, e.phony_cut, e.made_cut)
        (record {
          card_sound = q.card_sound;
          named = r.named;
          sound = r.sound;
          missing_long = r.missing_long;
          listed_long = r.listed_long;
          few = r.few;
          written = written_asked g w q.tabled;
          roots_low = λ i b. let u = q.roots_low i b in omega (arith, r.files, g.more_files);
          room = q.room;
        })

    pub planned : {answer : Result ℕ Refusal} {exit : List ℕ} → PlansHeaded card names index wmentions wends mentions ends phony made missing listed roots list answer exit
        → PlansSecond card names index graph c second d roots list answer exit
    planned p = record {
      plans = λ i rd h a t g q.
          p.plans i rd h a (rw (e.mentions_cut, e.ends_cut, e.phony_cut, e.made_cut) (headed_held g w))
          (rw (e.wmentions_cut, e.wends_cut) (record { held = held_inputs (tables t) })) q;
    }
