-- The header lists, and then the plan by the second columns; or the first refusal.
use Rattle.std.specs.Prelude.{Option, Some, None, unwrap_or, Result, Ok, Err}
use Prim.Native.Nat.{ℕ}
use native.Mathlib.Nat.{le_of_eq}
use native.Mathlib.Omega.{arith}
use borrow.Author.Tests.{ne_eqb}
use mathlib.Core.List.{List}
use mathlib.Core.Logic.{inl, inr}
use mathlib.Core.Path.{◌≡◌, refl, sym, ◌∙◌, subst}
use lib.ListN.{length}
use Rattle.lists.specs.Fill.{zeroed}
use Rattle.lists.specs.Members.{in_cons, not_in_nil}
use Rattle.lists.specs.Tests.{differ}
use Rattle.spec.specs.declared.Refusal.{Refusal}
use Rattle.spec.specs.Limits.{max_headers, max_path, max_text}
use Rattle.spec.specs.Answers.{number_of_refusal, plan_says}
use Rattle.spec.specs.Headers.{HeaderGraph, Heading, headed, headless, sound_headers, on_headed, with_headers}
use Rattle.spec.specs.PlanAsk.{plan_headers}
use Rattle.spec.specs.Promises.{left_by, PlanMeets}
use Rattle.spec.proofs.Headers.{OfHeaders, headers_off}
use Rattle.spec.proofs.Promises.{cleared}
use Rattle.scan_bundle.specs.Bundles.{BundleIndexed, Indexes}
use Rattle.scan_bundle.proofs.Laws.{opened, malformed_is}
use Rattle.hold_names.proofs.Halving.{clash}
use Rattle.hold_reading.specs.declared.Counts.{Counts}
use Rattle.hold_reading.specs.Held.{columns_end}
use Rattle.hold_reading.specs.Buffers.{Buffers}
use Rattle.hold_parts.proofs.Parts.{tabled}
use Rattle.ask_header_graph.specs.Graph.{HeadedGraph, HeadStepsAsked, HeadsSteps, AgreesSteps, all_headed, one_refused}
use Rattle.ask_plan_second.specs.Second.{SecondAsked, PlansSecond}
use Rattle.ask_plan_headers.specs.Headers.{ListsAsked, HeadersPlanAsked, PlansHeaders}

-- ------------------------------------------------------------------ the bundle

module _ {headers order order' : List ℕ} {r : Option ℕ} (x : Indexes headers 0 max_headers order order' r) where
  lists_indexed : {n : ℕ} → r ≡ Some n → BundleIndexed headers n order'
  lists_indexed e = (opened x e).indexed

  lists_sound : {n : ℕ} → ListsAsked headers order → r ≡ None → BundleIndexed headers n order'
  unfolding sound_headers
  lists_sound a e = differ a.sound (malformed_is x e)

-- the asked lists are a sound bundle, and so the 0 for none is never taken
pub lists_by : {headers order order' : List ℕ} (r : Option ℕ) → Indexes headers 0 max_headers order order' r → ListsAsked headers order → {n : ℕ} → n ≡ unwrap_or r 0
    → BundleIndexed headers n order'
lists_by (Some k) x a u = rw u (lists_indexed x refl)
lists_by None x a u = lists_sound x a refl

-- ------------------------------------------------------------------ what all steps answer

record Told (names index second : List ℕ) (c d : Counts) (x : Heading) : Type 0 where
  graph : HeaderGraph
  is : x ≡ headed graph
  held : HeadedGraph names index second c d graph

module _ {names index second : List ℕ} {c : Counts} where
  heads : {x : Heading} {a : Result Counts Refusal} → AgreesSteps names index second c x a → {k : Counts} → a ≡ Ok k → Told names index second c k x
  heads (all_headed {h} {d} w) {k} e =
      let z : d ≡ k = cc in
      record { graph = h; is = refl; held = subst (λ (n : Counts). HeadedGraph names index second c n h) z w }
  heads (one_refused {r}) {k} e = clash (cc)

  refuses : {x : Heading} {a : Result Counts Refusal} → AgreesSteps names index second c x a → {q : Refusal} → a ≡ Err q → x ≡ headless q
  refuses (all_headed {h} {d} w) {q} e = clash (cc)
  refuses (one_refused {r}) {q} e = let z : r ≡ q = cc in rw z

-- 1 is of lent buffers alone
not_1 : (q : Refusal) → OfHeaders q → number_of_refusal q ≡ 1 → ⊥
not_1 q o e = elim (in_cons o) [
  | inl x ↦ omega (arith, x, e)
  | inr u ↦ elim (in_cons u) [ inl x ↦ omega (arith, x, e) | inr v ↦ elim (in_cons v) [ inl x ↦ omega (arith, x, e) | inr n ↦ not_in_nil n ] ]
]

-- ------------------------------------------------------------------ the stages

module _ {t headers card : List ℕ} {bs : Buffers} {c : Counts} {roots list : List ℕ} (a : HeadersPlanAsked t headers card bs c roots list) where
  pub ask_lists : {order : List ℕ} → length order ≡ max_headers → ListsAsked headers order
  ask_lists e = record { sound = a.lists_sound; room = le_of_eq (sym e) }

  pub ask_heads : {n : ℕ} {order second name word : List ℕ} → BundleIndexed headers n order → length second ≡ columns_end → length name ≡ max_text → length word ≡ max_path
      → HeadStepsAsked t headers n order bs c second name word
  ask_heads x s k w = record {
    table = a.table;
    indexed = x;
    names_long = a.names_long;
    second_long = le_of_eq (sym s);
    name_long = le_of_eq (sym k);
    word_long = le_of_eq (sym w);
    manifest = a.manifest;
    log = a.log;
    reading = a.reading;
    is = a.is;
    holds = a.holds;
  }

  module _ {names' index' second' : List ℕ} {r : Result Counts Refusal} (w : HeadsSteps headers bs c names' index' second' r) where
    pub ask_second : {d : Counts} → r ≡ Ok d → SecondAsked card names' index' bs.graph c second' d roots list
    ask_second e =
        let g = heads (w.agrees a.manifest a.log a.reading a.is a.holds) e in
        record {
          card_sound = a.card_sound;
          reading = a.reading;
          tabled = tabled a.holds;
          added = g.graph;
          headed = g.held;
          roots_low = a.roots_low;
          room = a.room;
        }

module _ {headers card : List ℕ} {bs : Buffers} {c : Counts} {roots list names' index' second' : List ℕ} {r : Result Counts Refusal} (w : HeadsSteps headers bs c names' index' second' r) where
  pub planned : {d : Counts} {answer : Result ℕ Refusal} {exit : List ℕ} → r ≡ Ok d → PlansSecond card names' index' bs.graph c second' d roots list answer exit
      → PlansHeaders headers card bs c roots list answer exit
  unfolding plan_headers on_headed
  planned e p = record {
    plans = λ i log rd hi ci z h q.
        let g = heads (w.agrees i.manifest log rd z h) e in
        rw (hi, g.is) (p.plans i rd g.graph ci (tabled h) g.held q);
  }

  pub refused : {q : Refusal} {exit : List ℕ} → r ≡ Err q → exit ≡ zeroed list 0 (length list) → PlansHeaders headers card bs c roots list (Err q) exit
  unfolding plan_headers on_headed PlanMeets plan_says left_by
  refused {q} e z = record {
    plans = λ i log rd hi ci m h s.
        let x : with_headers headers rd ≡ headless q = refuses (w.agrees i.manifest log rd m h) e in
        let n = ne_eqb (number_of_refusal q) 1 (not_1 q (headers_off headers rd q x)) in
        rw (hi, x, n) (record { says = refl; leaves = z ∙ cleared list });
  }
