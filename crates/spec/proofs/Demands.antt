-- The demands follow from the promise: whatever meets `PlanMeets` of the plan ask meets `PlanDemands`, and likewise for
-- a text.
use Prim.Native.Nat.{ℕ, ◌≤◌, ◌<◌}
use native.Mathlib.Omega.{arith}
use mathlib.Core.Logic.{inl, inr}
use mathlib.Core.Bool.{Bool, true, false, not, ◌&&◌}
use mathlib.Core.List.{List, [], ◌∷◌}
use mathlib.Core.Option.{Option, none, some}
use mathlib.Core.Path.{◌≡◌, refl, sym, ◌∙◌, ap, subst}
use borrow.Author.Tests.{eqb-true, eqb-false, ltb-false, le-ltb, not-false}
use lib.Dec.{eqb, ltb}
use lib.ListN.{length}
use Rattle.lists.specs.Tests.{if_b, split, differ, and_true}
use Rattle.lists.specs.Members.{◌∈◌, here, there, not_in_nil, once_below}
use Rattle.orders.specs.Order.{first_difference, least_order}
use Rattle.spec.specs.Basics.{or_else}
use Rattle.spec.specs.declared.Refusal.{Refusal}
use Rattle.spec.specs.declared.Refusal.TheVariants.{ShortBuffer, BadCard, BadTarget, NoRoot, MissingSource, BadHeaders}
use Rattle.spec.specs.declared.Wanted.{Wanted}
use Rattle.spec.specs.Limits.{least_list, max_bundle}
use Rattle.spec.specs.Reading.{Reading}
use Rattle.spec.specs.Manifest.{Read, accepted, refused_with, read_manifest}
use Rattle.spec.specs.Card.{sound_card}
use Rattle.spec.specs.Targets.{bad_target}
use Rattle.spec.specs.Answers.{Said, number_of_refusal, refusal_says, says}
use Rattle.spec.specs.Graph.{has_order, no_root}
use Rattle.spec.specs.Stale.{list_of}
use Rattle.spec.specs.Bundle.{sound_bundle}
use Rattle.spec.specs.Headers.{HeaderGraph, Heading, headed, headless, sound_headers, on_headed, with_headers}
use Rattle.spec.specs.Words.{NeededCircle}
use Rattle.spec.specs.PlanAsk.{Inputs, PlanOutcome, listed, circular, no_plan, target_files, roots_of, card_time, missing_source, judged_time, plan_listed, plan_sources, plan_ordered, plan_headers, plan_rooted, plan_targets, plan_read, plan_manifest, bad_headers, plan_ask}
use Rattle.spec.specs.TextAsk.{TextOutcome, text, no_text, text_ask}
use Rattle.spec.specs.Promises.{filled, left_by, AnswerIs, Shows, PlanMeets, TextMeets}
use Rattle.spec.proofs.Manifests.{OfReading, lines, files, of_reading, accepted_bundle, accepted_few, accepted_makers}
use Rattle.spec.proofs.Graph.{needed_low}
use Rattle.spec.proofs.Sources.{missing_lowest, none_missing}
use Rattle.spec.proofs.Headers.{OfHeaders, of_bad, headers_off, headed_sound, steps_counted}
use Rattle.spec.proofs.Judged.{SoundSteps}
use Rattle.spec.proofs.Outcomes.{Not14, TextWithin, text_within}
use Rattle.spec.proofs.GraphWords.{order_right, no_order, told_of, verdicts_right, verdicts_unique, list_right}
use Rattle.spec.specs.Demands.{PastChecks, ChecksAhead, refused_ahead, refused_opening, refused_headers, passed, headed_steps, Demand1, answers, shows, short, refuses, CircleRead, NoCircle, Listing, Ordered, PlansPast, Demand3, PlanDemands, TextDemands}

-- the number that is said
number : {said right : Said} {exit left : List ℕ} → AnswerIs said exit right left → said.number ≡ right.number
number p = ap (λ (s : Said). s.number) p.says

-- ------------------------------------------------------------------ the checks ahead of circles

refused_with_law : (r : Refusal) {i : Inputs} {room : ℕ} {said : Said} {exit left : List ℕ} → 0 < number_of_refusal r → number_of_refusal r < 14
    → AnswerIs said exit (refusal_says r) left → ChecksAhead i room said
unfolding refusal_says number_of_refusal
refused_with_law r l h p = refused_ahead (rw (number p) l) (rw (number p) h)

of_lines : (r : Refusal) {i : Inputs} {room : ℕ} {said : Said} {exit left : List ℕ} → OfReading r → AnswerIs said exit (refusal_says r) left → ChecksAhead i room said
unfolding refusal_says number_of_refusal
of_lines r (lines a b) p = refused_with_law r (omega (arith, a)) (omega (arith, b)) p
of_lines r (files a) p = refused_opening (number p ∙ a)

of_headers : (r : Refusal) {i : Inputs} {room : ℕ} {said : Said} {exit left : List ℕ} → OfHeaders r → AnswerIs said exit (refusal_says r) left → ChecksAhead i room said
unfolding refusal_says number_of_refusal
of_headers r o p = refused_headers (subst (λ (n : ℕ). n ∈ 16 ∷ 17 ∷ 20 ∷ []) (sym (number p)) o)

-- these are above 15
pub header_number : {n : ℕ} → n ∈ 16 ∷ 17 ∷ 20 ∷ [] → 15 < n
header_number (here e) = omega (arith, e)
header_number (there (here e)) = omega (arith, e)
header_number (there (there (here e))) = omega (arith, e)
header_number (there (there (there h))) = absurd (not_in_nil h)

module _ (i : Inputs) (lent : List ℕ) (said : Said) (exit : List ℕ) where
  abbrev Meets : PlanOutcome → Type 0
  Meets o = PlanMeets o lent said exit

  abbrev Ahead : Type 0
  Ahead = ChecksAhead i (length lent) said

  -- a check that refuses with a number below 14 is one of those ahead of circles; else what comes after it is looked at
  after_test : (b : Bool) (r : Refusal) (f : Unit {0} → PlanOutcome) → 0 < number_of_refusal r → number_of_refusal r < 14
      → Meets (if_b b (λ _. no_plan r) f) → (b ≡ false → Meets (f tt) → Ahead) → Ahead
  unfolding PlanMeets
  after_test true r f l h m go = refused_with_law r l h m
  after_test false r f l h m go = go refl m

  after_place : (o : Option ℕ) (r : ℕ → Refusal) (f : Unit {0} → PlanOutcome) → ((p : ℕ) → 0 < number_of_refusal (r p))
      → ((p : ℕ) → number_of_refusal (r p) < 14) → Meets (or_else o (λ p. no_plan (r p)) f) → (o ≡ none → Meets (f tt) → Ahead) → Ahead
  unfolding PlanMeets
  after_place none r f l h m go = go refl m
  after_place (some p) r f l h m go = refused_with_law (r p) (l p) (h p) m

  module _ (long : least_list ≤ length lent) (good : sound_headers i.headers ≡ true) (rd : Reading) (e : read_manifest i.manifest ≡ accepted rd) where
    after_headers : (x : Heading) → with_headers i.headers rd ≡ x → Meets (on_headed x no_plan (plan_ordered i rd))
        → ((h : HeaderGraph) → with_headers i.headers rd ≡ headed h → Ahead) → Ahead
    unfolding PlanMeets on_headed
    after_headers (headed h) q m go = go h q
    after_headers (headless r) q m go = of_headers r (headers_off i.headers rd r q) m

    from_11 : Meets (plan_read i rd) → Ahead
    unfolding plan_read plan_targets plan_rooted plan_headers number_of_refusal
    from_11 m =
        after_test (not (sound_card i.card)) BadCard (λ _. plan_targets i rd) (omega arith) (omega arith) m
        λ a m₁. after_place (bad_target rd.files i.targets) BadTarget (λ _. plan_rooted i rd) (λ p. omega arith) (λ p. omega arith) m₁
        λ b m₂. after_test (no_root rd (target_files i.targets rd)) NoRoot (λ _. plan_headers i rd) (omega arith) (omega arith) m₂
        λ c m₃. after_headers (with_headers i.headers rd) refl m₃
        λ h d. passed rd h (record { buffer = long; lists = good; read = e; sound = not-false (sound_card i.card) a; named = b; rooted = c; added = d })

  good_headers : bad_headers i ≡ false → (rd : Reading) → read_manifest i.manifest ≡ accepted rd → sound_headers i.headers ≡ true
  unfolding bad_headers
  good_headers b rd e =
      split (sound_headers i.headers) (λ (t : sound_headers i.headers ≡ true). t)
      (λ (t : sound_headers i.headers ≡ false). differ (and_true (sound_bundle 1 max_bundle i.manifest) (not (sound_headers i.headers)) (accepted_bundle i.manifest rd e) (ap not t)) b)

  from_2 : least_list ≤ length lent → bad_headers i ≡ false → (x : Read) → read_manifest i.manifest ≡ x → Meets (plan_manifest i x) → Ahead
  unfolding plan_manifest PlanMeets
  from_2 long b (refused_with r) e m = of_lines r (of_reading i.manifest e) m
  from_2 long b (accepted rd) e m = from_11 long (good_headers b rd e) rd e m

  from_20 : least_list ≤ length lent → Meets (if_b (bad_headers i) (λ _. no_plan (BadHeaders 0)) (λ _. plan_manifest i (read_manifest i.manifest))) → Ahead
  unfolding PlanMeets
  from_20 long m =
      split (bad_headers i) (λ (e : bad_headers i ≡ true). of_headers (BadHeaders 0) (of_bad 0) (rw e at m))
      (λ (e : bad_headers i ≡ false). from_2 long e (read_manifest i.manifest) refl (rw e at m))

  checked : Meets (plan_ask i (length lent)) → Ahead
  unfolding plan_ask PlanMeets number_of_refusal
  checked m =
      split (ltb (length lent) least_list)
      (λ (e : ltb (length lent) least_list ≡ true). refused_with_law ShortBuffer (omega arith) (omega arith) (rw e at m))
      (λ (e : ltb (length lent) least_list ≡ false). from_20 (ltb-false (length lent) least_list e) (rw e at m))

pub no_bad_headers : (i : Inputs) → sound_headers i.headers ≡ true → bad_headers i ≡ false
unfolding bad_headers
no_bad_headers i e = rw e (and_none (sound_bundle 1 max_bundle i.manifest))
  where
    and_none : (b : Bool) → b && false ≡ false
    and_none true = refl
    and_none false = refl

past_checks : (i : Inputs) (room : ℕ) (rd : Reading) (h : HeaderGraph) → PastChecks i room rd h → plan_ask i room ≡ plan_ordered i rd h
unfolding plan_ask plan_manifest plan_read plan_targets plan_rooted plan_headers on_headed
past_checks i room rd h p = rw (le-ltb room least_list p.buffer, no_bad_headers i p.lists, p.read, p.sound, p.named, p.rooted, p.added)

-- ------------------------------------------------------------------ demand 1

refusal_left : (r : Refusal) {Circle : List ℕ → Type 0} {lent exit : List ℕ} {said : Said} → Not14 r → AnswerIs said exit (refusal_says r) (left_by r lent)
    → Demand1 Circle lent said exit
unfolding left_by
refusal_left r n p =
    split (eqb (number_of_refusal r) 1)
    (λ (e : eqb (number_of_refusal r) 1 ≡ true). short r (eqb-true (number_of_refusal r) 1 e) (rw e at p))
    (λ (e : eqb (number_of_refusal r) 1 ≡ false). refuses r (eqb-false (number_of_refusal r) 1 e) n (rw e at p))

-- ------------------------------------------------------------------ demand 3

module _ (i : Inputs) (rd : Reading) (h : HeaderGraph) (w : SoundSteps (headed_steps h) h.lists) where
  abbrev has : Bool
  has = has_order (headed_steps h) (roots_of i rd)

  abbrev lost : Option ℕ
  lost = missing_source i.card rd.steps h.reading (roots_of i rd)

  -- the list that is computed
  abbrev steps : List ℕ
  steps = list_of (headed_steps h) (judged_time i h) (roots_of i rd)

  is_ordered : has ≡ true → Ordered i rd h
  is_ordered t = (_, order_right (headed_steps h) (roots_of i rd) t)

  listing : has ≡ true → Listing i rd h steps
  listing t =
      let rs = roots_of i rd in
      let card = card_time i.card h.reading in
      let o = order_right (headed_steps h) rs t in
      let right = verdicts_right (headed_steps h) rs card h.lists o in
      let least = list_right (headed_steps h) rs card h.lists w o (told_of (headed_steps h) rs card h.lists) right in
      record {
        verdicts = told_of (headed_steps h) rs card h.lists;
        sentences = right;
        fixed = λ v p s n. verdicts_unique (headed_steps h) rs card h.lists o v (told_of (headed_steps h) rs card h.lists) p right s n;
        both_rules = least_order least;
        least = least;
        lowest = λ r k. elim (first_difference least k) [
          | inl e ↦ inl e
          | inr d ↦ inr (record { place = d.0; within = d.1; alike = d.2; lower = d.3 })
        ];
      }

  module _ (lent : List ℕ) (said : Said) (exit : List ℕ) where
    from_circle : has ≡ false → Shows (headed_steps h) (roots_of i rd) lent said exit → PlansPast i rd h lent said exit
    from_circle t s =
        let n : said.number ≡ 14 = number s.shown in
        let no = (no_order (headed_steps h) (roots_of i rd)).1 t in
        record {
          circle = (λ e. no, λ f. n);
          real = λ e. s;
          missing = (λ e. absurd (omega (arith, n, e)), λ p. absurd (no p.0));
          lowest = λ e. absurd (omega (arith, n, e));
          list = (λ e. absurd (omega (arith, n, e)), λ p. absurd (no p.0));
          listed = λ e. absurd (omega (arith, n, e));
        }

    from_missing : has ≡ true → (f : ℕ) → lost ≡ some f → AnswerIs said exit (refusal_says (MissingSource f)) (left_by (MissingSource f) lent) → PlansPast i rd h lent said exit
    unfolding refusal_says
    from_missing t f e p =
        let n : said.number ≡ 15 = number p in
        let v : said.value ≡ f = ap (λ (s : Said). s.value) p.says in
        let (m, l) = missing_lowest i rd h e in
        record {
          circle = (λ d. absurd (omega (arith, n, d)), λ no. absurd (no (is_ordered t)));
          real = λ d. absurd (omega (arith, n, d));
          missing = (λ d. (is_ordered t, (f, m)), λ q. n);
          lowest = λ d. rw v (m, l);
          list = (λ d. absurd (omega (arith, n, d)), λ q. absurd (q.1 f m));
          listed = λ d. absurd (omega (arith, n, d));
        }

    from_list : has ≡ true → lost ≡ none → AnswerIs said exit (says 0 (length steps)) (filled steps lent) → PlansPast i rd h lent said exit
    from_list t e p =
        let n : said.number ≡ 0 = number p in
        let none_is = none_missing i rd h e in
        record {
          circle = (λ d. absurd (omega (arith, n, d)), λ no. absurd (no (is_ordered t)));
          real = λ d. absurd (omega (arith, n, d));
          missing = (λ d. absurd (omega (arith, n, d)), λ q. absurd (none_is q.1.0 q.1.1));
          lowest = λ d. absurd (omega (arith, n, d));
          list = (λ d. (is_ordered t, none_is), λ q. n);
          listed = λ d. record { list = steps; listing = listing t; shown = p };
        }

    from_15 : has ≡ true → (o : Option ℕ) → lost ≡ o → PlanMeets (or_else o (λ f. no_plan (MissingSource f)) (λ _. plan_listed i rd h)) lent said exit
        → PlansPast i rd h lent said exit
    unfolding PlanMeets plan_listed
    from_15 t none e m = from_list t e m
    from_15 t (some f) e m = from_missing t f e m

    from_14 : PlanMeets (plan_ordered i rd h) lent said exit → PlansPast i rd h lent said exit
    unfolding PlanMeets plan_ordered plan_sources
    from_14 m =
        split has (λ (t : has ≡ true). from_15 t lost refl (rw t at m))
        (λ (t : has ≡ false). from_circle t (rw t at m))

-- ------------------------------------------------------------------ the asks

module _ (i : Inputs) (lent : List ℕ) (said : Said) (exit : List ℕ) where
  past_sound : {rd : Reading} {h : HeaderGraph} → PastChecks i (length lent) rd h → SoundSteps (headed_steps h) h.lists
  past_sound {rd} {h} p = headed_sound i.headers rd h (accepted_makers i.manifest rd p.read) p.added

  demand_3 : PlanMeets (plan_ask i (length lent)) lent said exit → Demand3 i lent said exit
  demand_3 m = record {
    ahead = checked i lent said exit m;
    past = λ rd h p. from_14 i rd h (past_sound p) lent said exit (subst (λ (o : PlanOutcome). PlanMeets o lent said exit) (past_checks i (length lent) rd h p) m);
  }

  -- what was read has no more steps than there is room for
  few : {rd : Reading} {h : HeaderGraph} → PastChecks i (length lent) rd h → length (headed_steps h) ≤ length lent
  few {rd} {h} p = omega (arith, accepted_few i.manifest rd p.read, steps_counted i.headers rd h p.added, p.buffer)

  list_room : {rd : Reading} {h : HeaderGraph} {l : List ℕ} → PastChecks i (length lent) rd h → Listing i rd h l → length l ≤ length lent
  list_room {h = h} {l} p g =
      omega (arith, few p, once_below l (length (headed_steps h)) g.both_rules.lists.once (λ s k. needed_low (g.both_rules.lists.no_others s k).needed))

  circle_room : {rd : Reading} {h : HeaderGraph} {c : List ℕ} → PastChecks i (length lent) rd h → NeededCircle (headed_steps h) (roots_of i rd) c → length c ≤ length lent
  circle_room {h = h} {c} p k = omega (arith, few p, once_below c (length (headed_steps h)) k.once (λ s w. needed_low (k.wanted s w)))

  -- a 14 is a circle of what was read, and an answer is a list
  on_circle : said.number ≡ 14 → Demand3 i lent said exit → Demand1 (CircleRead i (length lent)) lent said exit
  on_circle n d = elim d.ahead [
    | refused_ahead l h ↦ absurd (omega (arith, n, h))
    | refused_opening e ↦ absurd (omega (arith, n, e))
    | refused_headers k ↦ absurd (omega (arith, n, header_number k))
    | passed rd h p ↦ (let s = (d.past rd h p).real n in shows s.circle (record { reading = rd; added = h; past = p; real = s.real }) (circle_room p s.real) s.shown)
  ]

  on_list : said.number ≡ 0 → Demand3 i lent said exit → Demand1 (CircleRead i (length lent)) lent said exit
  on_list n d = elim d.ahead [
    | refused_ahead l h ↦ absurd (omega (arith, n, l))
    | refused_opening e ↦ absurd (omega (arith, n, e))
    | refused_headers k ↦ absurd (omega (arith, n, header_number k))
    | passed rd h p ↦ (let s = (d.past rd h p).listed n in answers s.list (list_room p s.listing) s.shown)
  ]

  demand_1 : (o : PlanOutcome) → PlanMeets o lent said exit → Demand3 i lent said exit → Demand1 (CircleRead i (length lent)) lent said exit
  unfolding PlanMeets refusal_says number_of_refusal
  demand_1 (listed l) m d = on_list (number m) d
  demand_1 (circular steps roots) m d = on_circle (number m.shown) d
  demand_1 (no_plan r) m d =
      split (eqb (number_of_refusal r) 14)
      (λ (e : eqb (number_of_refusal r) 14 ≡ true). on_circle (number m ∙ eqb-true (number_of_refusal r) 14 e) d)
      (λ (e : eqb (number_of_refusal r) 14 ≡ false). refusal_left r (eqb-false (number_of_refusal r) 14 e) m)

  pub plan_demands : PlanMeets (plan_ask i (length lent)) lent said exit → PlanDemands i lent said exit
  plan_demands m = record {
    demand1 = demand_1 (plan_ask i (length lent)) m (demand_3 m);
    promise = m;
    demand3 = demand_3 m;
  }

module _ (manifest : List ℕ) (step : ℕ) (wanted : Wanted) (lent : List ℕ) (said : Said) (exit : List ℕ) where
  text_left : (o : TextOutcome) → TextWithin (length lent) o → TextMeets o lent said exit → Demand1 NoCircle lent said exit
  unfolding TextMeets
  text_left (text t) w m = answers t w m
  text_left (no_text r) w m = refusal_left r w m

  pub text_demands : TextMeets (text_ask manifest step wanted (length lent)) lent said exit → TextDemands manifest step wanted lent said exit
  text_demands m = record {
    demand1 = text_left (text_ask manifest step wanted (length lent)) (text_within (length lent) manifest step wanted) m;
    promise = m;
  }
