-- The columns of the graph as parts of the arena, and what is planned from the roots that they give.
use Rattle.std.specs.Prelude.{Option, Some, None, Result, Err}
use Prim.Native.Nat.{ℕ, ◌≤◌, ◌<◌}
use mathlib.Core.List.{List}
use mathlib.Core.Path.{◌≡◌, refl, sym, ◌∙◌, ap, subst}
use native.Mathlib.Omega.{arith}
use lib.ListN.{length, take, get_or}
use Rattle.lists.specs.Fill.{zeros, zeroed}
use Rattle.spec.specs.declared.Refusal.TheVariants.{NoRoot}
use Rattle.spec.specs.Limits.{max_steps, max_files, max_mentions}
use Rattle.spec.specs.Reading.{Reading}
use Rattle.spec.specs.Answers.{number_of_refusal, plan_says}
use Rattle.spec.specs.PlanAsk.{Inputs, target_files, plan_rooted}
use Rattle.spec.specs.Promises.{left_by, PlanMeets}
use Rattle.spec.proofs.Promises.{cleared}
use Rattle.hold_bindings.specs.Log.{Logged}
use Rattle.hold_columns.specs.Columns.{HoldsColumns}
use Rattle.hold_columns.proofs.Blank.{take_blank}
use Rattle.hold_columns.proofs.Held.{held_steps, held_sound}
use Rattle.hold_reading.specs.declared.Counts.{Counts}
use Rattle.hold_reading.specs.Held.{columns_end, HoldsReading}
use Rattle.hold_reading.specs.Buffers.{Buffers}
use Rattle.hold_parts.specs.Parts.{mentions_in, ends_in, phony_in, made_in, defaults_in, Tabled}
use Rattle.hold_parts.proofs.Parts.{tabled, parted, mentions_counted, defaults_are, tables, made_counted}
use Rattle.ask_plan_roots.specs.Roots.{Chosen, ChoiceAsked, RootsFrom, RootsNone, RootsFound}
use Rattle.ask_plan_headers.specs.Headers.{HeadersPlanAsked, PlansHeaders}
use Rattle.ask_plan_columns.specs.Columns.{FoundIn, ChoiceAskedIn, ChoiceSpace, RootsSpaceAsked, PlansColumns}
use Rattle.spec.specs.declared.Refusal.{Refusal}

module _ (graph : List ℕ) (c : Counts) where
  -- the columns are these parts
  pub record Spread (rd : Reading) : Type 0 where
    pub long : columns_end ≤ length graph
    pub few_paths : c.paths ≤ max_mentions
    pub few_steps : c.steps ≤ max_steps
    pub few_files : c.files ≤ max_files
    pub few_defaults : c.defaults ≤ max_mentions
    pub mentioned : length (mentions_in graph c) ≡ c.paths
    pub counted : length (made_in graph c) ≡ c.files
    pub defaulted : length (defaults_in graph c) ≡ c.defaults
    pub tables : HoldsColumns rd.steps (length rd.files) (mentions_in graph c) (ends_in graph c) (phony_in graph c) (made_in graph c)
    pub defaults : defaults_in graph c ≡ rd.defaults
    pub defaults_low : (i : ℕ) → i < length rd.defaults → get_or rd.defaults i 0 < c.files

pub spread : {graph : List ℕ} {c : Counts} {rd : Reading} → Tabled graph c rd → Spread graph c rd
spread h =
    let g = h.graphed in
    let p = parted h in
    record {
      long = p.long;
      few_paths = p.few_paths;
      few_steps = p.few_steps;
      few_files = p.few_files;
      few_defaults = omega (arith, g.few_mentions, g.mentions_low);
      mentioned = mentions_counted h;
      defaulted = ap length (defaults_are h) ∙ sym g.defaults_counted;
      counted = made_counted h;
      tables = tables h;
      defaults = defaults_are h;
      defaults_low = rw h.files_counted g.defaults_low;
    }

-- ---- what is asked of the choice

module _ {graph : List ℕ} {c : Counts} {targets out : List ℕ} (a : ChoiceAskedIn graph c targets out) where
  pub few_files : c.files ≤ max_files
  few_files = (spread a.tabled).few_files

  -- the marks are the first of those for all files that there may be
  pub marked : ChoiceSpace graph c targets (take c.files (zeros max_files)) out
  marked = record { asked = a; blank = take_blank c.files max_files few_files }

pub choosable : {graph : List ℕ} {c : Counts} {targets marks out : List ℕ} → ChoiceSpace graph c targets marks out
    → ChoiceAsked (mentions_in graph c) (ends_in graph c) (phony_in graph c) (made_in graph c) (defaults_in graph c) targets marks out
choosable {graph} {c} {targets} {marks} {out} m =
    let a = m.asked in
    let s = spread a.tabled in
    let z : length (made_in graph c) ≡ c.files = s.counted in
    record {
      sound = rw (held_steps s.tables) (held_sound s.tables);
      defaults_low = rw (s.defaults, z) s.defaults_low;
      targets_low = rw z a.low;
      blank = rw z m.blank;
      mentions_room = omega (arith, s.mentioned, s.few_paths, a.room);
      defaults_room = omega (arith, s.defaulted, s.few_defaults, a.room);
      targets_room = omega (arith, a.few, a.room);
    }

-- ---- 13, then the header lists

module _ {t headers card : List ℕ} {bs : Buffers} {c : Counts} {targets out list : List ℕ} (a : RootsSpaceAsked t headers card bs c targets out list) where
  pub choice : ChoiceAskedIn bs.graph c targets out
  choice =
      let h = a.asked.asked in
      record { reading = h.reading; tabled = tabled h.holds; low = h.roots_low; few = a.asked.few; room = a.room }

chosen : {bs : Buffers} {c : Counts} {targets : List ℕ} (i : Inputs) {log : List Logged} (rd : Reading) → HoldsReading log bs c rd → targets ≡ target_files i.targets rd
    → Chosen i rd (mentions_in bs.graph c) (ends_in bs.graph c) (phony_in bs.graph c) (made_in bs.graph c) (defaults_in bs.graph c) targets
chosen i rd h e = let s = spread (tabled h) in record { held = s.tables; defaulted = s.defaults; targeted = e }

module _ {graph : List ℕ} {c : Counts} {targets out : List ℕ} {x : Option ℕ} (f : FoundIn graph c targets out x) where
  none : x ≡ None → RootsNone (mentions_in graph c) (ends_in graph c) (phony_in graph c) (made_in graph c) (defaults_in graph c) targets
  unfolding RootsFound
  none e = subst (RootsFound (mentions_in graph c) (ends_in graph c) (phony_in graph c) (made_in graph c) (defaults_in graph c) targets out) e f.found

  some : {k : ℕ} → x ≡ Some k → RootsFrom (mentions_in graph c) (ends_in graph c) (phony_in graph c) (made_in graph c) (defaults_in graph c) targets out k
  unfolding RootsFound
  some e = subst (RootsFound (mentions_in graph c) (ends_in graph c) (phony_in graph c) (made_in graph c) (defaults_in graph c) targets out) e f.found

  pub roots_within : {k : ℕ} → x ≡ Some k → k ≤ length out
  roots_within e = (some e).put.within

module _ {headers card : List ℕ} {bs : Buffers} {c : Counts} {targets out : List ℕ} {x : Option ℕ} (f : FoundIn bs.graph c targets out x) where
  -- 13
  pub rootless : {list exit : List ℕ} → x ≡ None → exit ≡ zeroed list 0 (length list) → PlansColumns headers card bs c targets list (Err NoRoot) exit
  unfolding plan_rooted PlanMeets plan_says left_by number_of_refusal
  rootless {list} e z =
      record { plans = λ i log rd p q r h w. rw ((none f e).rootless i rd (chosen i rd h w)) (record { says = refl; leaves = z ∙ cleared list }) }

  -- past 13
  pub from_roots : {t list before : List ℕ} {k : ℕ} → x ≡ Some k → RootsSpaceAsked t headers card bs c targets before list → HeadersPlanAsked t headers card bs c (take k out) list
  from_roots e a =
      let h = a.asked.asked in
      record {
        table = h.table;
        lists_sound = h.lists_sound;
        card_sound = h.card_sound;
        names_long = h.names_long;
        manifest = h.manifest;
        log = h.log;
        reading = h.reading;
        is = h.is;
        holds = h.holds;
        roots_low = rw (← (spread (tabled h.holds)).counted) (some f e).put.low;
        room = h.room;
      }

  pub rooted : {list exit : List ℕ} {r : Result ℕ Refusal} {k : ℕ} → x ≡ Some k → PlansHeaders headers card bs c (take k out) list r exit → PlansColumns headers card bs c targets list r exit
  unfolding plan_rooted
  rooted e p =
      record {
        plans = λ i log rd g q r h w.
            let m = some f e in
            let o = chosen i rd h w in
            rw (m.rooted i rd o) (p.plans i log rd g q r h (m.put.are i rd o));
      }
