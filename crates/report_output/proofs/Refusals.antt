-- The line of a refusal has the place that `placed` gives: what the checks stop with has a place in a text only of a sound bundle.
use mathlib.Core.List.{List, [], ◌∷◌}
use mathlib.Core.Path.{◌≡◌, refl, ap}
use Prim.Native.Nat.{ℕ}
use Rattle.spec.specs.declared.Refusal.{Refusal as Reason}
use Rattle.spec.specs.declared.Wanted.TheVariants.{Command}
use Rattle.spec.specs.Limits.{max_text}
use Rattle.spec.specs.Answers.{Said}
use Rattle.spec.specs.TextAsk.{TextOutcome, text, no_text}
use Rattle.answers.specs.declared.Placed.{Placed}
use Rattle.answers.specs.declared.Numbers.{Numbers}
use Rattle.answers.specs.Numbers.{said, place_told}
use Rattle.answer_places.specs.Places.{Sited, PlacedIn}
use Rattle.answer_places.proofs.Placing.{placed_sited}
use Rattle.answer_places.proofs.Siting.{SitedRefusal, sited_text}
use Rattle.printing.specs.Lines.{refused_line}
use Rattle.printing.specs.Writes.{LeavesOutput}
use Rattle.report_output.specs.Output.{said_line, Checks, fine, stopped, command_text, after_text, check_texts}
use Rattle.report_output.specs.declared.Begun.TheVariants.{Refusal}
use Rattle.report_output.specs.Opens.{refusal, refusing, refusal_line, OpensReport}

pub opens_refusal : {out d f : List ℕ} {n : ℕ} → LeavesOutput out d n f → OpensReport (refusing out) d (Refusal n) f
unfolding refusing
opens_refusal l = record { begun = ap refusal l.count; left = l.left }

-- the line that is printed for the three numbers
pub refuses_so : (bundle : List ℕ) (n : Numbers) (p : Placed) {d f : List ℕ} {r : ℕ} → PlacedIn bundle (said n) p → LeavesOutput (refused_line p.number (place_told p)) d r f
    → OpensReport (refusing (refusal_line bundle (said n))) d (Refusal r) f
unfolding refusal_line
refuses_so bundle n p x l = opens_refusal (rw (x.number_is, x.place_is) at l)

pub refusal_said : (bundle : List ℕ) (s : Said) → Sited bundle s → refusal_line bundle s ≡ said_line bundle s
unfolding refusal_line said_line
refusal_said bundle s h = ap (refused_line s.number) (placed_sited bundle s h)

abbrev pub SitedChecks : List ℕ → Checks → Type 0
SitedChecks bundle fine = Unit {0}
SitedChecks bundle (stopped s) = Sited bundle s

after_sited : (bundle : List ℕ) (o : TextOutcome) (c : Checks) → ((r : Reason) → o ≡ no_text r → SitedRefusal bundle r) → SitedChecks bundle c → SitedChecks bundle (after_text o c)
unfolding after_text
after_sited bundle (text t) c m h = h
after_sited bundle (no_text r) c m h = m r refl

pub checks_sited : (bundle l : List ℕ) → SitedChecks bundle (check_texts bundle l)
unfolding check_texts command_text
checks_sited bundle [] = tt
checks_sited bundle (s ∷ l) = after_sited bundle (command_text bundle s) (check_texts bundle l) (λ r e. sited_text bundle s Command max_text e) (checks_sited bundle l)
