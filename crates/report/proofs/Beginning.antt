-- The start of the output: what the line holds, and that what is written in all is right.
use Rattle.std.specs.Prelude.{Ok, Err}
use Prim.Native.Nat.{ℕ, ◌-◌, ◌≤◌}
use native.Mathlib.Omega.{arith}
use mathlib.Core.List.{List, [], ◌∷◌, append-nil}
use mathlib.Core.Path.{◌≡◌, refl, sym, ◌∙◌, ap}
use borrow.Author.Tests.{eq-eqb, ne_eqb}
use lib.ListN.{length, take, replicate, length-take}
use lib.Seq.{drop-length, take-length, take-take}
use Rattle.lists.specs.Fill.{zeroed}
use Rattle.spec.specs.Answers.{Said, refusal_says, number_of_refusal}
use Rattle.spec.specs.PlanAsk.{Inputs, PlanOutcome, listed, circular, no_plan, plan_ask}
use Rattle.spec.specs.Promises.{filled, PlanMeets}
use Rattle.answers.specs.declared.Numbers.{Numbers as Two}
use Rattle.answers.specs.Numbers.{said}
use Rattle.printing.specs.Lines.{no_work, circle_output}
use Rattle.printing.specs.Writes.{LeavesOutput}
use Rattle.report_output.specs.declared.Begun.{Begun}
use Rattle.report_output.specs.declared.Begun.TheVariants.{Whole, Refusal, Steps}
use Rattle.report_output.specs.Output.{Checks, fine, stopped, check_texts, checked_output, list_output, step_lines, Outputs}
use Rattle.report_output.specs.Opens.{whole, refusal, to_come, starts_as, Opening, whole_output, refusing, refusal_line, OpensReport}
use Rattle.report.specs.Begins.{checked_opening, list_opening, plan_opening, HeldBy, OpensHolding, written_by, StartWithin, Rooms, Planned, BeginsReport}
use Rattle.report.specs.Held.{AllFine, CheckedIs}
use Rattle.spec.proofs.Answers.{refusal_not_0}
use Rattle.answer_places.proofs.Siting.{sited_plan}
use Rattle.report.proofs.Early.{not_14}
use Rattle.report_output.proofs.Refusals.{SitedChecks, checks_sited, refusal_said}
use Rattle.report.proofs.Texts.{front_filled, fits_filled}

pub opens_whole : {out d f : List ℕ} {n : ℕ} → LeavesOutput out d n f → OpensReport (whole_output out) d (Whole n) f
unfolding whole_output
opens_whole l = record { begun = ap whole l.count; left = l.left }

no_refusal : {A : Type 0} {n m : ℕ} → to_come n ≡ refusal m → A
no_refusal e = absurd (let z : ◌≡◌ {A = ℕ} 0 1 = cc in omega arith)

-- after a refusal no line is to come
held_refusal : (out bundle list bytes ends : List ℕ) (r : Begun) → starts_as r ≡ (refusing out).begun → HeldBy r bundle list bytes ends
unfolding refusing
held_refusal out bundle list bytes ends (Whole n) e = tt
held_refusal out bundle list bytes ends (Refusal n) e = tt
held_refusal out bundle list bytes ends (Steps n k) e = no_refusal e

-- the opening is that of a refusal
opens_refusing : (out : List ℕ) {o : Opening} {bundle list d f bytes ends : List ℕ} {r : Begun} → o ≡ refusing out → OpensReport (refusing out) d r f
    → OpensHolding o bundle list d r f bytes ends
opens_refusing out {o} {bundle} {list} {d} {f} {bytes} {ends} {r} e p = record { opens = rw e p; held = held_refusal out bundle list bytes ends r p.begun }

-- ---- a list

pub list_none : (bundle steps : List ℕ) {d f bytes ends : List ℕ} {n : ℕ} → length steps ≡ 0 → LeavesOutput no_work d n f
    → OpensHolding (list_opening bundle steps) bundle steps d (Whole n) f bytes ends
unfolding list_opening
list_none bundle [] e l = record { opens = opens_whole l; held = tt }
list_none bundle (s ∷ steps) e l = absurd (omega arith)

list_some : (bundle steps : List ℕ) → (length steps ≡ 0 → ⊥) → list_opening bundle steps ≡ checked_opening bundle (length steps) (check_texts bundle steps)
unfolding list_opening
list_some bundle [] e = absurd (e refl)
list_some bundle (s ∷ steps) e = refl

pub list_fine : (bundle steps d f bytes ends : List ℕ) (n : ℕ) → (length steps ≡ 0 → ⊥) → CheckedIs bundle steps bytes ends (Ok n) → f ≡ zeroed d 0 (length d)
    → OpensHolding (list_opening bundle steps) bundle steps d (Steps (length steps) n) f bytes ends
unfolding checked_opening zeroed filled CheckedIs
list_fine bundle steps d f bytes ends n h c w =
    let o : list_opening bundle steps ≡ checked_opening bundle (length steps) fine = list_some bundle steps h ∙ ap (checked_opening bundle (length steps)) (sym c.fine) in
    let t : take (length steps) steps ≡ steps = take-length steps in
    record {
      opens = rw o (record { begun = refl; left = w ∙ rw (drop-length d) (append-nil (replicate (length d - 0) 0)) });
      held = rw t c;
    }

pub list_stopped : (bundle steps d f bytes ends : List ℕ) (x : Two) {r : Begun} → (length steps ≡ 0 → ⊥) → CheckedIs bundle steps bytes ends (Err x)
    → OpensReport (refusing (refusal_line bundle (said x))) d r f → OpensHolding (list_opening bundle steps) bundle steps d r f bytes ends
unfolding checked_opening CheckedIs
list_stopped bundle steps d f bytes ends x h c p = opens_refusing (refusal_line bundle (said x)) (list_some bundle steps h ∙ ap (checked_opening bundle (length steps)) (sym c)) p

-- ---- by the plan's numbers

no_whole : {A : Type 0} {n m : ℕ} → to_come n ≡ whole m → A
no_whole e = absurd (let z : ◌≡◌ {A = ℕ} 0 1 = cc in omega arith)

same_steps : {n m : ℕ} → to_come n ≡ to_come m → n ≡ m
same_steps e = cc

few_checked : (bundle : List ℕ) {n : ℕ} (m : ℕ) (c : Checks) → to_come n ≡ (checked_opening bundle m c).begun → n ≤ m
unfolding checked_opening refusing
few_checked bundle {n} m fine e = omega (arith, same_steps e)
few_checked bundle {n} m (stopped s) e = no_refusal e

-- Lines are to come of as many steps as there are.
few_begun : (bundle l : List ℕ) {n : ℕ} → to_come n ≡ (list_opening bundle l).begun → n ≤ length l
unfolding list_opening whole_output
few_begun bundle [] e = no_whole e
few_begun bundle (s ∷ l) e = few_checked bundle (length (s ∷ l)) (check_texts bundle (s ∷ l)) e

module _ (bundle : List ℕ) (s : Said) (list : List ℕ) where
  planned_list : s.number ≡ 0 → plan_opening bundle s list ≡ list_opening bundle (take s.value list)
  unfolding plan_opening
  planned_list e = rw (eq-eqb s.number 0 e)

  planned_circle : s.number ≡ 14 → plan_opening bundle s list ≡ refusing (circle_output (take s.value list))
  unfolding plan_opening
  planned_circle e = rw (ne_eqb s.number 0 (λ (z : s.number ≡ 0). omega arith), eq-eqb s.number 14 e)

  planned_refused : (s.number ≡ 0 → ⊥) → (s.number ≡ 14 → ⊥) → plan_opening bundle s list ≡ refusing (refusal_line bundle s)
  unfolding plan_opening
  planned_refused a b = rw (ne_eqb s.number 0 a, ne_eqb s.number 14 b)

  -- the steps are the first of the list
  held_list : (r : Begun) (bytes ends : List ℕ) → starts_as r ≡ (list_opening bundle (take s.value list)).begun → HeldBy r bundle (take s.value list) bytes ends
      → HeldBy r bundle list bytes ends
  held_list (Whole n) bytes ends e h = tt
  held_list (Refusal n) bytes ends e h = tt
  held_list (Steps n k) bytes ends e h =
      let a : n ≤ s.value = omega (arith, few_begun bundle (take s.value list) e, length-take s.value list) in
      let b : take n (take s.value list) ≡ take n list = take-take n s.value list a in
      rw b at h

  pub opens_list : {d f bytes ends : List ℕ} {r : Begun} → s.number ≡ 0
      → OpensHolding (list_opening bundle (take s.value list)) bundle (take s.value list) d r f bytes ends
      → OpensHolding (plan_opening bundle s list) bundle list d r f bytes ends
  opens_list {bytes = bytes} {ends = ends} {r = r} e p = record { opens = rw (planned_list e) p.opens; held = held_list r bytes ends p.opens.begun p.held }

  pub opens_circle : {d f bytes ends : List ℕ} {r : Begun} → s.number ≡ 14 → OpensReport (refusing (circle_output (take s.value list))) d r f
      → OpensHolding (plan_opening bundle s list) bundle list d r f bytes ends
  opens_circle e p = opens_refusing (circle_output (take s.value list)) (planned_circle e) p

  pub opens_refused : {d f bytes ends : List ℕ} {r : Begun} → (s.number ≡ 0 → ⊥) → (s.number ≡ 14 → ⊥) → OpensReport (refusing (refusal_line bundle s)) d r f
      → OpensHolding (plan_opening bundle s list) bundle list d r f bytes ends
  opens_refused a b p = opens_refusing (refusal_line bundle s) (planned_refused a b) p

-- ---- a list and a circle fit

record Fits (s : Said) (n : ℕ) : Type 0 where
  listed_fits : s.number ≡ 0 → s.value ≤ n
  circle_fits : s.number ≡ 14 → s.value ≤ n

fits_all : {s : Said} {n k : ℕ} → s.value ≡ k → k ≤ n → Fits s n
fits_all e h = record { listed_fits = λ _. omega arith; circle_fits = λ _. omega arith }

module _ (i : Inputs) (room : ℕ) where
  plan_fits : (o : PlanOutcome) → plan_ask i room ≡ o → (list exit : List ℕ) (s : Said) → length exit ≡ length list → PlanMeets o list s exit → Fits s (length exit)
  unfolding PlanMeets number_of_refusal
  plan_fits (listed l) e list exit s k m = fits_all (ap (λ (x : Said). x.value) m.says) (omega (arith, fits_filled l list exit m.leaves k))
  plan_fits (circular steps ts) e list exit s k m =
      fits_all (ap (λ (x : Said). x.value) m.shown.says) (omega (arith, fits_filled m.circle list exit m.shown.leaves k))
  plan_fits (no_plan r) e list exit s k m =
      let n : s.number ≡ number_of_refusal r = ap (λ (x : Said). x.number) m.says in
      record {
        listed_fits = λ (z : s.number ≡ 0). absurd (refusal_not_0 r (sym n ∙ z));
        circle_fits = λ (z : s.number ≡ 14). absurd (not_14 i room e (sym n ∙ z));
      }

  pub planned : (list exit line bytes ends : List ℕ) (n : Two) (s : Said) → Rooms list line bytes ends → said n ≡ s → length exit ≡ length list
      → PlanMeets (plan_ask i room) list s exit → Planned n exit line bytes ends
  planned list exit line bytes ends n s h e k m =
      let f : Fits s (length exit) = plan_fits (plan_ask i room) refl list exit s k m in
      let a : n.number ≡ s.number = ap (λ (x : Said). x.number) e in
      let b : n.value ≡ s.value = ap (λ (x : Said). x.value) e in
      record {
        listed = λ (z : n.number ≡ 0). omega (arith, f.listed_fits (sym a ∙ z));
        shown = λ (z : n.number ≡ 14). omega (arith, f.circle_fits (sym a ∙ z));
        rooms = record { list_room = k ∙ h.list_room; line_room_law = h.line_room_law; texts = h.texts };
      }

-- ---- what is written in all

record Right (bundle : List ℕ) (o : PlanOutcome) (r : Begun) (list line : List ℕ) : Type 0 where
  within : StartWithin (starts_as r) list line
  right : Outputs bundle o (written_by (starts_as r) bundle list line)

-- where the line holds it whole_output
whole_written : (bundle list out line : List ℕ) {r : Begun} {exit : List ℕ} → length exit ≡ length line → OpensReport (whole_output out) line r exit
    → (StartWithin (starts_as r) list exit) × (written_by (starts_as r) bundle list exit ≡ out)
unfolding whole_output written_by
whole_written bundle list out line {r} {exit} k p =
    (rw p.begun (omega (arith, fits_filled out line exit p.left k)), rw (p.begun, p.left) (front_filled out line))

refusal_written : (bundle list out line : List ℕ) {r : Begun} {exit : List ℕ} → length exit ≡ length line → OpensReport (refusing out) line r exit
    → (StartWithin (starts_as r) list exit) × (written_by (starts_as r) bundle list exit ≡ out)
unfolding refusing written_by
refusal_written bundle list out line {r} {exit} k p =
    (rw p.begun (omega (arith, fits_filled out line exit p.left k)), rw (p.begun, p.left) (front_filled out line))

-- where the steps' lines are to come
steps_written : (bundle l list line list_exit : List ℕ) {r : Begun} {exit : List ℕ} → length list_exit ≡ length list → list_exit ≡ filled l list
    → OpensReport (checked_opening bundle (length l) fine) line r exit → (StartWithin (starts_as r) list_exit exit) × (written_by (starts_as r) bundle list_exit exit ≡ step_lines bundle (length l) 0 l)
unfolding checked_opening written_by
steps_written bundle l list line list_exit {r} {exit} k w p = (
  rw p.begun (omega (arith, fits_filled l list list_exit w k)),
  rw (p.begun, w) (ap (step_lines bundle (length l) 0) (front_filled l list)),
)

checked_written : (bundle l list line list_exit : List ℕ) {r : Begun} {exit : List ℕ} (c : Checks) → SitedChecks bundle c → length list_exit ≡ length list → list_exit ≡ filled l list
    → length exit ≡ length line → OpensReport (checked_opening bundle (length l) c) line r exit → (StartWithin (starts_as r) list_exit exit) × (written_by (starts_as r) bundle list_exit exit ≡ checked_output bundle l c)
unfolding checked_output checked_opening
checked_written bundle l list line list_exit fine h k w j p = steps_written bundle l list line list_exit k w p
checked_written bundle l list line list_exit (stopped s) h k w j p =
    let b = refusal_written bundle list_exit (refusal_line bundle s) line j p in
    (b.0, b.1 ∙ refusal_said bundle s h)

list_written : (bundle l list line list_exit : List ℕ) {r : Begun} {exit : List ℕ} → length list_exit ≡ length list → list_exit ≡ filled l list
    → length exit ≡ length line → OpensReport (list_opening bundle l) line r exit → (StartWithin (starts_as r) list_exit exit) × (written_by (starts_as r) bundle list_exit exit ≡ list_output bundle l)
unfolding list_output list_opening
list_written bundle [] list line list_exit k w j p = whole_written bundle list_exit no_work line j p
list_written bundle (s ∷ l) list line list_exit k w j p = checked_written bundle (s ∷ l) list line list_exit (check_texts bundle (s ∷ l)) (checks_sited bundle (s ∷ l)) k w j p

module _ (i : Inputs) (room : ℕ) (list line list_exit : List ℕ) {r : Begun} {exit : List ℕ} (s : Said)
    (k : length list_exit ≡ length list) (j : length exit ≡ length line) (p : OpensReport (plan_opening i.manifest s list_exit) line r exit) where
  plan_right : (o : PlanOutcome) → plan_ask i room ≡ o → PlanMeets o list s list_exit → Right i.manifest o r list_exit exit
  unfolding PlanMeets Outputs number_of_refusal
  plan_right (listed l) e m =
      let n : s.number ≡ 0 = ap (λ (x : Said). x.number) m.says in
      let v : s.value ≡ length l = ap (λ (x : Said). x.value) m.says in
      let t : take s.value list_exit ≡ l = rw (v, m.leaves) (front_filled l list) in
      let q : OpensReport (list_opening i.manifest l) line r exit = rw (planned_list i.manifest s list_exit n, t) at p in
      let b = list_written i.manifest l list line list_exit k m.leaves j q in
      record { within = b.0; right = b.1 }
  plan_right (circular steps ts) e m =
      let n : s.number ≡ 14 = ap (λ (x : Said). x.number) m.shown.says in
      let v : s.value ≡ length m.circle = ap (λ (x : Said). x.value) m.shown.says in
      let t : take s.value list_exit ≡ m.circle = rw (v, m.shown.leaves) (front_filled m.circle list) in
      let q : OpensReport (refusing (circle_output m.circle)) line r exit = rw (planned_circle i.manifest s list_exit n, t) at p in
      let b = refusal_written i.manifest list_exit (circle_output m.circle) line j q in
      record { within = b.0; right = record { circle = m.circle; real = m.real; shown = b.1 } }
  plan_right (no_plan x) e m =
      let n : s.number ≡ number_of_refusal x = ap (λ (y : Said). y.number) m.says in
      let a : s.number ≡ 0 → ⊥ = λ (z : s.number ≡ 0). refusal_not_0 x (sym n ∙ z) in
      let c : s.number ≡ 14 → ⊥ = λ (z : s.number ≡ 14). not_14 i room e (sym n ∙ z) in
      let q : OpensReport (refusing (refusal_line i.manifest s)) line r exit = rw (planned_refused i.manifest s list_exit a c) at p in
      let b = refusal_written i.manifest list_exit (refusal_line i.manifest s) line j q in
      record { within = b.0; right = b.1 ∙ ap (refusal_line i.manifest) m.says ∙ refusal_said i.manifest (refusal_says x) (sited_plan i room e) }

pub begins : (i : Inputs) (list line list_exit : List ℕ) {bytes ends : List ℕ} {r : Begun} {exit : List ℕ} (n : Two) (s : Said) → said n ≡ s
    → length list_exit ≡ length list → length exit ≡ length line → PlanMeets (plan_ask i (length list)) list s list_exit
    → OpensHolding (plan_opening i.manifest (said n) list_exit) i.manifest list_exit line r exit bytes ends → BeginsReport i list line r list_exit exit bytes ends
begins i list line list_exit {bytes} {ends} {r} {exit} n s e k j m p =
    let q : OpensReport (plan_opening i.manifest s list_exit) line r exit = rw e at p.opens in
    let x = plan_right i (length list) list line list_exit s k j q (plan_ask i (length list)) refl m in
    record { says = s; planned = m; opens = q; held = p.held; within = x.within; right = x.right }

-- What is to be read of the line and of the list lies within them.
pub whole_within : {r : Begun} {n : ℕ} (list line : List ℕ) → r ≡ Whole n → StartWithin (starts_as r) list line → n ≤ length line
whole_within {r} {n} list line e w = rw e at w

pub refusal_within : {r : Begun} {n : ℕ} (list line : List ℕ) → r ≡ Refusal n → StartWithin (starts_as r) list line → n ≤ length line
refusal_within {r} {n} list line e w = rw e at w

pub steps_within : {r : Begun} {n h : ℕ} (list line : List ℕ) → r ≡ Steps n h → StartWithin (starts_as r) list line → n ≤ length list
steps_within {r} {n} {h} list line e w = rw e at w

pub steps_held : {r : Begun} {n h : ℕ} (bundle list bytes ends : List ℕ) → r ≡ Steps n h → HeldBy r bundle list bytes ends → AllFine bundle (take n list) bytes ends h
steps_held {r} {n} {h} bundle list bytes ends e w = rw e at w
