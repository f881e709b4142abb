-- The three demands on the planner as one statement about each ask, from the lent bytes to the filled buffer. `plan`
-- ensures `PlanDemands` and `text` ensures `TextDemands` (crates/asks/src/lib.rt) for every input, with nothing
-- required. Both stand at the end of this file, and what they are made of above them. That a call always ends, with an
-- answer, is part of what the checker proves of a function. What stands in quotes is document 01's.
use Rattle.std.specs.Prelude.{ℕ, ◌≤◌, ◌<◌, true, false, List, [], ◌∷◌, ◌⊎◌, ◌↔◌, ◌≡◌, length, get_or, take}
use Rattle.std.proofs.Math.Option.{none}
use Rattle.lists.specs.Members.{◌∈◌}
use Rattle.orders.specs.Order.{IsOrder}
use Rattle.spec.specs.declared.Refusal.{Refusal}
use Rattle.spec.specs.declared.Wanted.{Wanted}
use Rattle.spec.specs.Limits.{least_list}
use Rattle.spec.specs.Answers.{Said, number_of_refusal, refusal_says, says}
use Rattle.spec.specs.Reading.{Step, Reading}
use Rattle.spec.specs.Manifest.{accepted, read_manifest}
use Rattle.spec.specs.Card.{sound_card}
use Rattle.spec.specs.Targets.{bad_target}
use Rattle.spec.specs.Graph.{no_root}
use Rattle.spec.specs.Stale.{Verdict}
use Rattle.spec.specs.Headers.{HeaderGraph, sound_headers, headed, with_headers}
use Rattle.spec.specs.Words.{Needed, Missing, Upstream, NeededOrder, NeededCircle, RightVerdicts, Stale, StaleList}
use Rattle.spec.specs.PlanAsk.{Inputs, target_files, roots_of, card_time, plan_ask}
use Rattle.spec.specs.TextAsk.{text_ask}
use Rattle.spec.specs.Promises.{filled, AnswerIs, Shows, PlanMeets, TextMeets}

-- ------------------------------------------------------------------ the checks ahead of circles

-- "the checks ahead of circles are all that the order of refusals puts before 14": 1 to 13, 19, 20 and the 16 and 17 of
-- depfile names do not apply; `rd` is what the manifest was read into, and `h` that "with these inputs added"
pub record PastChecks (i : Inputs) (room : ℕ) (rd : Reading) (h : HeaderGraph) : Type 0 where
  -- 1
  pub buffer : least_list ≤ room
  -- 20 at 0
  pub lists : sound_headers i.headers ≡ true
  -- 19 and 2 to 10
  pub read : read_manifest i.manifest ≡ accepted rd
  -- 11
  pub sound : sound_card i.card ≡ true
  -- 12
  pub named : bad_target rd.files i.targets ≡ none
  -- 13
  pub rooted : no_root rd (target_files i.targets rd) ≡ false
  -- 16, 17 and 20 of the steps' header lists
  pub added : with_headers i.headers rd ≡ headed h

-- One of these checks refuses, with its number; or they are all passed. So there is no list, no 14 and no 15 before
-- they are passed.
pub data ChecksAhead (i : Inputs) (room : ℕ) (said : Said) : Type 0 where
  refused_ahead : 0 < said.number → said.number < 14 → ChecksAhead i room said
  -- 19 stands before 2, or in a line
  refused_opening : said.number ≡ 19 → ChecksAhead i room said
  -- 20 stands before 2, or after 13 with the 16 and 17 of depfile names
  refused_headers : said.number ∈ 16 ∷ 17 ∷ 20 ∷ [] → ChecksAhead i room said
  passed : (rd : Reading) (h : HeaderGraph) → PastChecks i room rd h → ChecksAhead i room said

-- ------------------------------------------------------------------ demand 1

-- Demand 1: any manifest, card of file times and target list gets an answer, always. A refusal gives its number and
-- place and leaves the buffers zero (a short buffer: untouched; a circle: written out).
-- `Circle` says which circles may be written out: for a plan those of `CircleRead`, for a text none.
pub data Demand1 (Circle : List ℕ → Type 0) (lent : List ℕ) (said : Said) (exit : List ℕ) : Type 0 where
  -- the count of a list or a text, which has room in the buffer and stands there; "what lies beyond it is zero"
  answers : (l : List ℕ) → length l ≤ length lent → AnswerIs said exit (says 0 (length l)) (filled l lent)
      → Demand1 Circle lent said exit
  -- "14 writes the circle's steps": 14 with the length of a circle, which has room in the buffer and stands there
  shows : (c : List ℕ) → Circle c → length c ≤ length lent → AnswerIs said exit (says 14 (length c)) (filled c lent)
      → Demand1 Circle lent said exit
  -- "1 touches nothing"
  short : (r : Refusal) → number_of_refusal r ≡ 1 → AnswerIs said exit (refusal_says r) lent → Demand1 Circle lent said exit
  -- "A refusal leaves output buffers all zero": any number but 1 and 14, with its place
  refuses : (r : Refusal) → ¬ (number_of_refusal r ≡ 1) → ¬ (number_of_refusal r ≡ 14)
      → AnswerIs said exit (refusal_says r) (filled [] lent) → Demand1 Circle lent said exit

-- the steps with the listed inputs added: what is needed, upstream, in a circle and stale is of these
abbrev pub headed_steps : HeaderGraph → List Step
headed_steps h = h.reading.steps

-- a circle of needed steps of what the manifest was read into, past the checks ahead of circles
pub record CircleRead (i : Inputs) (room : ℕ) (c : List ℕ) : Type 0 where
  pub reading : Reading
  pub added : HeaderGraph
  pub past : PastChecks i room reading added
  pub real : NeededCircle (headed_steps added) (roots_of i reading) c

-- a text has no circle
abbrev pub NoCircle : List ℕ → Type 0
NoCircle c = ⊥

-- ------------------------------------------------------------------ demand 3: the list

-- every stale needed command step once and nothing else, each after all stale ones upstream
abbrev pub KeepsBothRules : List Step → List ℕ → (ℕ → Verdict) → List ℕ → Type 0
KeepsBothRules steps roots v l = IsOrder (Stale steps roots v) (Upstream steps) l

-- one list has the lower step number where the two first differ
pub record LowerThan (l r : List ℕ) : Type 0 where
  pub place : ℕ
  pub within : place < length l
  pub alike : take place l ≡ take place r
  pub lower : get_or l place 0 < get_or r place 0

-- what document 01's sentences say of stale and fresh, by the card's times of the files
abbrev pub RightIn : Inputs → Reading → HeaderGraph → (ℕ → Verdict) → Type 0
RightIn i rd h v = RightVerdicts (headed_steps h) (card_time i.card h.reading) h.lists (roots_of i rd) v

pub record Listing (i : Inputs) (rd : Reading) (h : HeaderGraph) (list : List ℕ) : Type 0 where
  -- stale and fresh are what document 01's sentences say, and these fix them
  pub verdicts : ℕ → Verdict
  pub sentences : RightIn i rd h verdicts
  pub fixed : (v : ℕ → Verdict) → RightIn i rd h v → (s : ℕ) → Needed (headed_steps h) (roots_of i rd) s → v s ≡ verdicts s
  -- every stale needed command step once, each after all stale ones upstream
  pub both_rules : KeepsBothRules (headed_steps h) (roots_of i rd) verdicts list
  -- and the least such list by step number: any other has the higher one where the two first differ
  pub lowest : (r : List ℕ) → KeepsBothRules (headed_steps h) (roots_of i rd) verdicts r → (list ≡ r) ⊎ LowerThan list r
  -- "At each place stands the lowest-numbered of them not yet listed whose stale command steps upstream are all
  -- listed."
  pub least : StaleList (headed_steps h) (roots_of i rd) verdicts list

-- such a list stands in the buffer, zeros beyond, and the answer is its length
pub record ListShown (i : Inputs) (rd : Reading) (h : HeaderGraph) (lent : List ℕ) (said : Said) (exit : List ℕ) : Type 0 where
  pub list : List ℕ
  pub listing : Listing i rd h list
  pub shown : AnswerIs said exit (says 0 (length list)) (filled list lent)

-- ------------------------------------------------------------------ demand 3

-- an order of the needed steps exists that "has each one after the makers of all its inputs"
abbrev pub Ordered : Inputs → Reading → HeaderGraph → Type 0
Ordered i rd h = (l : List ℕ) × NeededOrder (headed_steps h) (roots_of i rd) l

-- "a needed source is missing": file f
abbrev pub MissingIn : Inputs → Reading → HeaderGraph → ℕ → Type 0
MissingIn i rd h f = Missing rd.steps (headed_steps h) (card_time i.card h.reading) (length h.reading.files) (roots_of i rd) f

-- past the checks ahead of circles, where `rd` is what the manifest was read into and `h` has the listed inputs too
pub record PlansPast (i : Inputs) (rd : Reading) (h : HeaderGraph) (lent : List ℕ) (said : Said) (exit : List ℕ) : Type 0 where
  -- a circle is refused exactly when no order of the needed steps exists
  pub circle : (said.number ≡ 14) ↔ (¬ Ordered i rd h)
  -- and a real one is shown
  pub real : said.number ≡ 14 → Shows (headed_steps h) (roots_of i rd) lent said exit
  -- otherwise 15 is answered exactly when "a needed source is missing", at the "lowest file number"
  pub missing : (said.number ≡ 15) ↔ (Ordered i rd h × ((f : ℕ) × MissingIn i rd h f))
  pub lowest : said.number ≡ 15 → MissingIn i rd h said.value × ((f : ℕ) → MissingIn i rd h f → said.value ≤ f)
  -- otherwise, and if no needed source is missing, the answer is a list
  pub list : (said.number ≡ 0) ↔ (Ordered i rd h × ((f : ℕ) → ¬ MissingIn i rd h f))
  pub listed : said.number ≡ 0 → ListShown i rd h lent said exit

-- Demand 3: past the checks ahead of circles, a circle is refused exactly when no order of the needed steps exists,
-- and a real one is shown; otherwise, and if no needed source is missing, the list holds every stale needed command
-- step once, each after all stale ones upstream, and it is the least such list by step number. "Demand 3 speaks of the
-- plan ask itself, from the lent bytes to the filled buffer".
pub record Demand3 (i : Inputs) (lent : List ℕ) (said : Said) (exit : List ℕ) : Type 0 where
  pub ahead : ChecksAhead i (length lent) said
  pub past : (rd : Reading) (h : HeaderGraph) → PastChecks i (length lent) rd h → PlansPast i rd h lent said exit

-- ------------------------------------------------------------------ the asks

-- the plan ask: its inputs, list buffer at entry, what its answer says, list buffer at exit
pub record PlanDemands (i : Inputs) (lent : List ℕ) (said : Said) (exit : List ℕ) : Type 0 where
  pub demand1 : Demand1 (CircleRead i (length lent)) lent said exit
  -- Demand 2: steps, files, stale or fresh, and each refusal are exactly what document 01 says. The outcome that its
  -- definitions compute is what is said and what the buffer holds; of a circle it is said which ones will do.
  pub promise : PlanMeets (plan_ask i (length lent)) lent said exit
  pub demand3 : Demand3 i lent said exit

-- the text ask: manifest, step, what is wanted, text buffer at entry, what its answer says, text buffer at exit
pub record TextDemands (manifest : List ℕ) (step : ℕ) (wanted : Wanted) (lent : List ℕ) (said : Said) (exit : List ℕ) : Type 0 where
  pub demand1 : Demand1 NoCircle lent said exit
  -- demand 2, as above, for texts
  pub promise : TextMeets (text_ask manifest step wanted (length lent)) lent said exit
