-- Document 01's words about the graph of steps as statements that need not be computed: maker, needed, upstream, order,
-- circle, stale, time, list. The laws show that the computed definitions meet them. `steps` are those of the manifest
-- with the listed inputs added (document 02), `roots` the targets by file number, or what stands for them where there
-- is none.
use Rattle.std.specs.Prelude.{ℕ, ◌≤◌, ◌<◌, List, true, false, ◌≡◌, ◌⊎◌, ◌↔◌, length}
use Rattle.lists.specs.Members.{◌∈◌}
use Rattle.orders.specs.Order.{IsOrder, IsCircle, IsLeast}
use Rattle.spec.specs.Reading.{Step}
use Rattle.spec.specs.Graph.{step_at, inputs, non_order_only}
use Rattle.spec.specs.Stale.{Verdict, phony_step}
use Rattle.spec.specs.Headers.{Listed, listed_of}

-- step m makes file f
pub record Makes (steps : List Step) (m f : ℕ) : Type 0 where
  pub step : m < length steps
  pub output : f ∈ (step_at steps m).outs

-- step m makes an input, of any kind, of step s
pub record Feeds (steps : List Step) (m s : ℕ) : Type 0 where
  pub file : ℕ
  pub input : file ∈ inputs (step_at steps s)
  pub made : Makes steps m file

-- "Needed is the maker of each target and of every input, of any kind, of a needed step."
pub data Needed (steps : List Step) (roots : List ℕ) : ℕ → Type 0 where
  root : {m f : ℕ} → f ∈ roots → Makes steps m f → Needed steps roots m
  input : {m s : ℕ} → Needed steps roots s → Feeds steps m s → Needed steps roots m

-- "A needed source is a file without a maker that is a target or an input of a needed step", the input being one that the
-- manifest has: a listed file "by itself is no needed source". `written` are the steps without the listed inputs.
pub record NeededSource (written steps : List Step) (roots : List ℕ) (f : ℕ) : Type 0 where
  pub no_maker : (m : ℕ) → ¬ Makes steps m f
  pub needed : (f ∈ roots) ⊎ ((s : ℕ) × Needed steps roots s × (f ∈ inputs (step_at written s)))

-- "a needed source is missing", where `card` gives the times of the files
pub record Missing (written steps : List Step) (card : ℕ → ℕ) (files : ℕ) (roots : List ℕ) (f : ℕ) : Type 0 where
  pub file : f < files
  pub absent : card f ≡ 0
  pub source : NeededSource written steps roots f

-- "Upstream of a step are the makers of its inputs, of any kind, and whatever is upstream of those, through fresh and phony steps too."
pub data Upstream (steps : List Step) (m : ℕ) : ℕ → Type 0 where
  maker : {s : ℕ} → Feeds steps m s → Upstream steps m s
  further : {k s : ℕ} → Upstream steps m k → Feeds steps k s → Upstream steps m s

-- an order of the needed steps that "has each one after the makers of all its inputs"
abbrev pub NeededOrder : List Step → List ℕ → List ℕ → Type 0
NeededOrder steps roots l = IsOrder (Needed steps roots) (Feeds steps) l

-- "the circle's steps, one or more needed ones, each having an input, of any kind, made by the next, the last by the first, none twice"
abbrev pub NeededCircle : List Step → List ℕ → List ℕ → Type 0
NeededCircle steps roots c = IsCircle (Needed steps roots) (Feeds steps) c

-- ------------------------------------------------------------------ stale and fresh, and the times of files

-- Step m is the maker of file f. No other step of a manifest makes f, since 8 refuses an output made twice; of any
-- other list of steps it is the first that does.
pub record MakerOf (steps : List Step) (m f : ℕ) : Type 0 where
  pub made : Makes steps m f
  pub first : (k : ℕ) → k < m → ¬ Makes steps k f

-- "A phony output that is missing": f, of step m
pub record PhonyMissing (steps : List Step) (card : ℕ → ℕ) (m f : ℕ) : Type 0 where
  pub made : MakerOf steps m f
  pub phony : phony_step steps m ≡ true
  pub absent : card f ≡ 0

-- file f has time t, where `card` gives the card's times and v what is told of the steps
pub data TimeIs (steps : List Step) (card : ℕ → ℕ) (v : ℕ → Verdict) (f t : ℕ) : Type 0 where
  -- "A phony output that is missing has" the time told of its step (`Sentences.time`)
  by_maker : (m : ℕ) → PhonyMissing steps card m f → t ≡ (v m).time → TimeIs steps card v f t
  -- "Every other file has the card's time."
  by_card : ((m : ℕ) → ¬ PhonyMissing steps card m f) → t ≡ card f → TimeIs steps card v f t

-- t is the time of a non-order-only input of step s
pub record InputTime (steps : List Step) (card : ℕ → ℕ) (v : ℕ → Verdict) (s t : ℕ) : Type 0 where
  pub file : ℕ
  pub input : file ∈ non_order_only (step_at steps s)
  pub time : TimeIs steps card v file t

-- t is the greatest number with this property, "0 if none"
pub record Greatest (Has : ℕ → Type 0) (t : ℕ) : Type 0 where
  pub none_above : (u : ℕ) → Has u → u ≤ t
  pub attained : Has t ⊎ ((t ≡ 0) × ((u : ℕ) → ¬ Has u))

-- "a non-order-only input's maker is stale"
pub record MakerStale (steps : List Step) (v : ℕ → Verdict) (s : ℕ) : Type 0 where
  pub file : ℕ
  pub input : file ∈ non_order_only (step_at steps s)
  pub step : ℕ
  pub made : Makes steps step file
  pub stale : (v step).stale ≡ true

-- "an output is missing"
pub record OutputMissing (steps : List Step) (card : ℕ → ℕ) (s : ℕ) : Type 0 where
  pub file : ℕ
  pub output : file ∈ (step_at steps s).outs
  pub absent : card file ≡ 0

-- "an output's time is below the time of some non-order-only input"
pub record OutputBelow (steps : List Step) (card : ℕ → ℕ) (v : ℕ → Verdict) (s : ℕ) : Type 0 where
  pub file : ℕ
  pub output : file ∈ (step_at steps s).outs
  pub old : ℕ
  pub time : TimeIs steps card v file old
  pub new : ℕ
  pub input : InputTime steps card v s new
  pub below : old < new

-- "A missing depfile makes its step stale; so does a missing listed file without a maker" (document 02), where `lists` has
-- what the depfile of each step tells
pub data StaleByDepfile (steps : List Step) (card : ℕ → ℕ) (lists : List Listed) (s : ℕ) : Type 0 where
  depfile_missing : (listed_of lists s).missing ≡ true → StaleByDepfile steps card lists s
  listed_missing : (f : ℕ) → f ∈ (listed_of lists s).files → card f ≡ 0 → ((m : ℕ) → ¬ Makes steps m f) → StaleByDepfile steps card lists s

-- "a non-order-only input's maker is stale, an output is missing, or an output's time is below the time of some
-- non-order-only input", or a depfile makes it stale
pub data CommandStale (steps : List Step) (card : ℕ → ℕ) (lists : List Listed) (v : ℕ → Verdict) (s : ℕ) : Type 0 where
  maker_stale_law : MakerStale steps v s → CommandStale steps card lists v s
  missing : OutputMissing steps card s → CommandStale steps card lists v s
  below : OutputBelow steps card v s → CommandStale steps card lists v s
  by_depfile : StaleByDepfile steps card lists s → CommandStale steps card lists v s

-- "such a maker is stale, or .. it has no inputs at all and an output is missing"
pub data PhonyStale (steps : List Step) (card : ℕ → ℕ) (v : ℕ → Verdict) (s : ℕ) : Type 0 where
  such_maker : MakerStale steps v s → PhonyStale steps card v s
  no_inputs : ((f : ℕ) → ¬ (f ∈ inputs (step_at steps s))) → OutputMissing steps card s → PhonyStale steps card v s

-- what document 01 says of step s, given what v tells of the others
pub record Sentences (steps : List Step) (card : ℕ → ℕ) (lists : List Listed) (v : ℕ → Verdict) (s : ℕ) : Type 0 where
  -- "A command step is stale if a non-order-only input's maker is stale, an output is missing, or an output's time is
  -- below the time of some non-order-only input. Equal times are fresh." Document 02 adds its depfile.
  pub command : phony_step steps s ≡ false → ((v s).stale ≡ true) ↔ CommandStale steps card lists v s
  -- "A phony step is stale if such a maker is stale, or if it has no inputs at all and an output is missing."
  pub phony : phony_step steps s ≡ true → ((v s).stale ≡ true) ↔ PhonyStale steps card v s
  -- "A phony output that is missing has the greatest time of the step's non-order-only inputs, 0 if none." It is told
  -- of a command step too, and no file takes it from there.
  pub time : Greatest (InputTime steps card v s) (v s).time

-- "Stale and fresh are told of needed steps": v tells of each needed one what document 01 says
abbrev pub RightVerdicts : List Step → (ℕ → ℕ) → List Listed → List ℕ → (ℕ → Verdict) → Type 0
RightVerdicts steps card lists roots v = (s : ℕ) → Needed steps roots s → Sentences steps card lists v s

-- "the stale, needed command steps"
pub record Stale (steps : List Step) (roots : List ℕ) (v : ℕ → Verdict) (s : ℕ) : Type 0 where
  pub needed : Needed steps roots s
  pub command : phony_step steps s ≡ false
  pub stale : (v s).stale ≡ true

-- "The list holds the stale, needed command steps, each once .. At each place stands the lowest-numbered of them not yet listed whose stale
-- command steps upstream are all listed."
abbrev pub StaleList : List Step → List ℕ → (ℕ → Verdict) → List ℕ → Type 0
StaleList steps roots v l = IsLeast (Stale steps roots v) (Upstream steps) l
