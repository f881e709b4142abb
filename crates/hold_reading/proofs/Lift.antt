-- A line that binds is held by all buffers: the log grows, and the names and the columns of the graph hold the outcome's reading as before.
use Rattle.std.specs.Prelude.{Result, Err}
use Prim.Native.Nat.{ℕ, ◌<◌}
use mathlib.Core.List.{List, [], ◌∷◌, ◌++◌}
use mathlib.Core.Path.{◌≡◌, refl, sym, ◌∙◌, ap}
use native.Mathlib.Omega.{arith}
use lib.ListN.{length, length-append}
use Rattle.spec.specs.declared.Refusal.{Refusal}
use Rattle.spec.specs.Reading.{Step, Reading}
use Rattle.spec.specs.Graph.{step_at}
use Rattle.spec.specs.Statements.{Block, Outcome, refused}
use Rattle.hold_names.specs.Table.{HoldsNames}
use Rattle.hold_bindings.specs.Log.{Logged, entry_at}
use Rattle.hold_bindings.proofs.Lookups.{entry_kept}
use Rattle.hold_reading.specs.declared.Counts.{Counts}
use Rattle.hold_reading.specs.declared.Open.{Open}
use Rattle.hold_reading.specs.declared.Open.TheVariants.{Nothing}
use Rattle.hold_reading.specs.Held.{joined, OpensBlock, nothing, HoldsBound, Ruled, phony, declared, rule_with_scope, RuledIn, Graphed, HoldsReading, Agrees, goes, refuses}
use Rattle.hold_reading.specs.Binds.{without_block, Known, SoundBlock, Beside, Binds, Meets}
use Rattle.hold_reading.proofs.Bare.{same_count, same_step, same_tables}
use Rattle.hold_reading.specs.Buffers.{Buffers, with_bindings}
use Rattle.hold_reading.specs.declared.State.{State}

-- ---- the log grows

-- Entries are numbered from the oldest.
pub entry_more : (more log : List Logged) (k : ℕ) → k < length log → entry_at k (more ++ log) ≡ entry_at k log
entry_more [] log k h = refl
entry_more (e ∷ more) log k h =
    entry_kept e (more ++ log) k (omega (arith, length-append more log)) ∙ entry_more more log k h

ruled_more : {log : List Logged} {rule : List ℕ} {n : ℕ} (more : List Logged) → Ruled log rule n → Ruled (more ++ log) rule n
ruled_more more (phony p) = phony p
ruled_more {log} more (declared {k = k} h o n p) =
    declared {k = k} (omega (arith, length-append more log)) (rw (entry_more more log k h) o) (rw (entry_more more log k h) n) p

-- the number of a step does not look at its block
ruled_bare : {log : List Logged} (more : List Logged) (s t : Step) {v : ℕ} → without_block s ≡ without_block t → RuledIn log t v → RuledIn (more ++ log) s v
unfolding without_block
ruled_bare {log} more s t e r =
    let k : s.rule ≡ t.rule = ap (λ (x : Step). x.rule) e in
    let j : s.scope ≡ t.scope = ap (λ (x : Step). x.scope) e in
    record { rule = r.rule; low = r.low; ruled = rw k (ruled_more more r.ruled); is = r.is ∙ ap (rule_with_scope r.rule) (sym j) }

-- ---- the names and the graph stay

module _ {c c' : Counts} {rd rd' : Reading} (s : Beside c rd c' rd') where
  pub named_beside : {names index : List ℕ} → HoldsNames names index c.files rd.files → HoldsNames names index c'.files rd'.files
  named_beside h = rw (s.files_counted, s.files) h

  pub graphed_beside : {log : List Logged} {graph : List ℕ} (more : List Logged) → Graphed log graph c rd → Graphed (more ++ log) graph c' rd'
  graphed_beside more g =
      record {
        mentions = g.mentions;
        ends = g.ends;
        phony = g.phony;
        made = g.made;
        rule_of = g.rule_of;
        lies = rw s.defaults g.lies;
        tables = rw s.files (same_tables rd'.steps rd.steps s.steps g.tables);
        ruled_all = g.ruled_all ∙ sym (same_count rd'.steps rd.steps s.steps);
        ruled = λ k b.
            ruled_bare more (step_at rd'.steps k) (step_at rd.steps k) (same_step rd'.steps rd.steps s.steps k) (g.ruled k (rw (same_count rd'.steps rd.steps s.steps) at b));
        paths_counted = s.paths_counted ∙ g.paths_counted;
        defaults_counted = rw s.defaults (s.defaults_counted ∙ g.defaults_counted);
        mentions_counted = rw s.mentions (s.mentions_counted ∙ g.mentions_counted);
        few_mentions = omega (arith, s.paths_counted, s.defaults_counted, s.mentions_counted, g.few_mentions);
        mentions_low = omega (arith, s.mentions_counted, g.mentions_low);
        defaults_low = rw (s.defaults, s.files) g.defaults_low;
      }

-- ---- a line

module _ {log : List Logged} {bs : Buffers} {c : Counts} {rd : Reading} where
  pub lifted : {texts' bind' : List ℕ} {out : Outcome} {r : Result State Refusal} → HoldsReading log bs c rd → Binds log c rd texts' bind' out r
      → Agrees (with_bindings bs texts' bind') out r
  lifted h (Binds.goes more b o s) = goes (record { named = named_beside s h.named; bound = b; graphed = graphed_beside s more h.graphed; short = rw s.files h.short }) o
  lifted h Binds.refuses = refuses

module _ {log : List Logged} {bs : Buffers} {c : Counts} (rd : Reading) {b : Block} {o : Open}
    (h : HoldsReading log bs c (joined rd b)) (p : OpensBlock log b o) where
  -- what a line that binds asks
  pub known : Known log bs.texts bs.bind c rd b o
  known =
      record {
        bound = h.bound;
        opens = p;
        few_files = omega (arith, h.named.counted, h.named.few);
        few_mentions = omega (arith, h.graphed.mentions_counted, h.graphed.mentions_low);
      }

  pub sound : SoundBlock bs.texts bs.bind c o
  sound = record { log = log; reading = rd; block = b; known = known }

  -- what it gives
  pub met : {line : Reading → Block → Outcome} {texts' bind' : List ℕ} {r : Result State Refusal} → Meets bs.texts bs.bind c o line texts' bind' r
      → Agrees (with_bindings bs texts' bind') (line rd b) r
  met m = lifted h (m.agrees log rd b known)

-- ---- what a line's laws begin with

pub refused_by : {log : List Logged} {c : Counts} {rd : Reading} {texts bind : List ℕ} {out : Outcome} {r : Refusal} → out ≡ refused r → Binds log c rd texts bind out (Err r)
refused_by e = rw e Binds.refuses

-- Where no block is open, nothing is joined.
pub joined_none : (rd : Reading) {log : List Logged} {b : Block} → OpensBlock log b Nothing → joined rd b ≡ rd
unfolding joined
joined_none rd nothing = refl

pub none_bound : {log : List Logged} {texts bind : List ℕ} {c : Counts} {rd : Reading} {b : Block} → Known log texts bind c rd b Nothing → HoldsBound log texts bind c rd
none_bound {rd = rd} w = rw (joined_none rd w.opens) at w.bound
