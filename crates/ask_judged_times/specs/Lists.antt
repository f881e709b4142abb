-- The columns of header lists: whether a step's depfile is missing, and how many files it lists, which are the last of its implicit inputs. What they say
-- of the times by which steps are judged.
use Rattle.std.specs.Prelude.{ℕ, ◌-◌, ◌≤◌, ◌<◌, ◌≡◌, Bool, ◌&&◌, ◌||◌, List, map, eqb, length, get_or}
use Rattle.lists.specs.Tests.{if_b}
use Rattle.lists.specs.Members.{any}
use Rattle.lists.specs.Parts.{part}
use Rattle.spec.specs.Basics.{is_empty}
use Rattle.spec.specs.Reading.{Step}
use Rattle.spec.specs.Headers.{Listed, listed_of, judged}
use Rattle.hold_columns.specs.Columns.{bit, implicit_end, end_at, maker_in, HoldsColumns, PartsPlaced, SoundColumns}
use Rattle.graph_stale.specs.Judge.{time_at}

-- the files that a step's depfile lists
unfoldable pub listed_part : List ℕ → List ℕ → List ℕ → ℕ → List ℕ
listed_part mentions ends listed s = part mentions (end_at ends s implicit_end - get_or listed s 0) (end_at ends s implicit_end)

-- the columns hold what the depfiles tell
pub record HoldsLists (lists : List Listed) (mentions ends missing listed : List ℕ) : Type 0 where
  pub misses : missing ≡ map (λ (l : Listed). bit l.missing) lists
  pub files : (s : ℕ) → s < length lists → listed_part mentions ends listed s ≡ (listed_of lists s).files

-- ------------------------------------------------------------------ what is read from them

-- is one of these files missing, and without a maker
unfoldable pub some_absent : List ℕ → List ℕ → List ℕ → Bool
unfolding any maker_in
some_absent made times fs = any (λ f. is_empty (maker_in made f) && eqb (time_at times f) 0) fs

-- "A missing depfile makes its step stale; so does a missing listed file without a maker"
unfoldable pub forced_in : List ℕ → List ℕ → List ℕ → List ℕ → List ℕ → List ℕ → ℕ → Bool
unfolding some_absent listed_part
forced_in mentions ends made missing listed times s = eqb (get_or missing s 0) 1 || some_absent made times (listed_part mentions ends listed s)

-- is the maker of this file marked
unfoldable pub marked_maker : List ℕ → List ℕ → ℕ → Bool
unfolding any maker_in
marked_maker made marks f = any (λ m. eqb (get_or marks m 0) 1) (maker_in made f)

-- ------------------------------------------------------------------ what reading them asks

pub record AbsentAsked (fs made times : List ℕ) : Type 0 where
  pub low : (i : ℕ) → i < length fs → get_or fs i 0 < length made
  pub timed : length times ≡ length made

-- a step's listed files are among its mentions
pub record ListedAsked (mentions ends listed : List ℕ) (s : ℕ) : Type 0 where
  pub placed : PartsPlaced mentions ends s
  pub step : s < length listed
  pub few : get_or listed s 0 ≤ end_at ends s implicit_end

-- sound columns, with those of the lists, and a time for each file
pub record JudgedAsked (mentions ends made missing listed times : List ℕ) : Type 0 where
  pub sound : SoundColumns (length missing) mentions ends made
  pub listed_long : length listed ≡ length missing
  pub few : (s : ℕ) → s < length missing → get_or listed s 0 ≤ end_at ends s implicit_end
  pub timed : length times ≡ length made

-- with room for marks
pub record MarksAsked (mentions ends made missing listed marks times : List ℕ) : Type 0 where
  pub asked : JudgedAsked mentions ends made missing listed times
  pub marks_long : length marks ≡ length missing

pub record MarkedAsked (made marks : List ℕ) (f : ℕ) : Type 0 where
  pub file : f < length made
  pub maker : get_or made f 0 ≤ length marks

pub record ClearAsked (made marks times : List ℕ) : Type 0 where
  pub makers : (f : ℕ) → f < length made → get_or made f 0 ≤ length marks
  pub timed : length times ≡ length made

-- ------------------------------------------------------------------ what is promised

-- the steps that a depfile makes stale are marked with 1, the others with 0
pub record ForcedMarked (mentions ends made missing listed times marks : List ℕ) : Type 0 where
  pub long : length marks ≡ length missing
  pub marked : (s : ℕ) → s < length missing → get_or marks s 0 ≡ bit (forced_in mentions ends made missing listed times s)

-- the times of what marked steps make are 0, the others as they were
pub record TimesCleared (made marks times exit : List ℕ) : Type 0 where
  pub each : (f : ℕ) → time_at exit f ≡ if_b (marked_maker made marks f) (λ _. 0) (λ _. time_at times f)

-- the times by which steps are judged, whatever steps and lists the columns hold
pub record TimesJudged (mentions ends made missing listed times exit : List ℕ) : Type 0 where
  pub judges : (steps : List Step) (files : ℕ) (phony : List ℕ) (lists : List Listed) → HoldsColumns steps files mentions ends phony made
      → HoldsLists lists mentions ends missing listed → (f : ℕ) → time_at exit f ≡ judged steps (time_at times) lists f
