-- What the plan behind the header lists asks of names and columns, and that they hold the steps with their listed inputs.
use Prim.Native.Nat.{ℕ, ◌+◌, ◌-◌, ◌≤◌, ◌<◌}
use mathlib.Core.Bool.{Bool, true, false}
use mathlib.Core.List.{List, map}
use mathlib.Core.Path.{◌≡◌, sym, ◌∙◌, ap, subst}
use native.Mathlib.Omega.{arith}
use lib.ListN.{length, get_or, length-map, get_or-map}
use Rattle.lists.specs.Parts.{part, get_d_part}
use Rattle.spec.specs.Limits.{max_mentions}
use Rattle.spec.specs.Headers.{Listed, nothing_listed, listed_of, HeaderGraph}
use Rattle.hold_names.specs.Table.{HoldsNames, SoundNames}
use Rattle.hold_columns.specs.Columns.{bit, implicit_end, end_at, SoundColumns}
use Rattle.hold_columns.proofs.Held.{held_steps, held_sound}
use Rattle.hold_reading.specs.declared.Counts.{Counts}
use Rattle.hold_reading.specs.Held.{rule_start}
use Rattle.hold_headers.specs.Headed.{listed_number, listed_in}
use Rattle.ask_judged_times.specs.Lists.{listed_part}
use Rattle.ask_headed_times.specs.Times.{HoldsHeaded}
use Rattle.ask_header_graph.specs.Graph.{mentions_in, ends_in, phony_in, made_in, HeadedGraph}
use Rattle.ask_header_graph.specs.Split.{SplitAsked, SplitsLists}

-- what `plan_headed` asks of them
pub record ReadyColumns (names index second : List ℕ) (d : Counts) (missing listed : List ℕ) : Type 0 where
  pub files : length (made_in second d) ≡ d.files
  pub steps : length (phony_in second d) ≡ d.steps
  pub named : SoundNames names index (length (made_in second d))
  pub sound : SoundColumns (length (phony_in second d)) (mentions_in second d) (ends_in second d) (made_in second d)
  pub missing_long : length missing ≡ length (phony_in second d)
  pub listed_long : length listed ≡ length (phony_in second d)
  pub few : (s : ℕ) → s < length (phony_in second d) → get_or listed s 0 ≤ end_at (ends_in second d) s implicit_end

bit_low : (b : Bool) → bit b ≤ 1
bit_low true = omega arith
bit_low false = omega arith

module _ {names index second : List ℕ} {c d : Counts} {h : HeaderGraph} (w : HeadedGraph names index second c d h) where
  files_are : length (made_in second d) ≡ d.files
  files_are = w.tables.counted ∙ sym w.named.counted

  steps_are : length (phony_in second d) ≡ d.steps
  steps_are = held_steps w.tables ∙ sym w.steps_counted

  -- a step lists no more files than there may be mentions
  few_listed : (s : ℕ) → s < d.steps → length (listed_of h.lists s).files ≤ max_mentions
  few_listed s b =
      let p = (held_sound w.tables).placed s (omega (arith, w.steps_counted)) in
      omega (arith, (w.lists s (omega (arith, w.told_all))).few, p.inputs, p.mentioned, w.tables.few_mentions)

  -- what splitting asks
  pub split_asked : {missing listed : List ℕ} → length missing ≡ d.steps → length listed ≡ d.steps → SplitAsked second d.steps missing listed
  unfolding listed_number
  split_asked m l =
      record {
        long = w.long;
        few = w.few_steps;
        small = λ s b.
            let e : listed_in second s ≡ listed_number (listed_of h.lists s) =
            sym (get_d_part second rule_start (rule_start + d.steps) s (omega arith)) ∙ ap (λ (v : List ℕ). get_or v s 0) w.told ∙ get_or-map listed_number h.lists s nothing_listed in
            omega (arith, e, few_listed s b, bit_low (listed_of h.lists s).missing);
        missing_long = m;
        listed_long = l;
      }

  module _ {missing listed : List ℕ} (s : SplitsLists second d.steps missing listed) where
    misses : missing ≡ map (λ (l : Listed). bit l.missing) h.lists
    misses = (s.splits h.lists w.told).0

    lists_are : listed ≡ map (λ (l : Listed). length l.files) h.lists
    lists_are = (s.splits h.lists w.told).1

    listed_at : (k : ℕ) → get_or listed k 0 ≡ length (listed_of h.lists k).files
    listed_at k = ap (λ (l : List ℕ). get_or l k 0) lists_are ∙ get_or-map (λ (l : Listed). length l.files) h.lists k nothing_listed

    pub ready : ReadyColumns names index second d missing listed
    ready =
        record {
          files = files_are;
          steps = steps_are;
          named = record { files = h.reading.files; holds = subst (λ (n : ℕ). HoldsNames names index n h.reading.files) (sym files_are) w.named };
          sound = subst (λ (n : ℕ). SoundColumns n (mentions_in second d) (ends_in second d) (made_in second d)) (sym (held_steps w.tables)) (held_sound w.tables);
          missing_long = ap length misses ∙ length-map h.lists (λ (l : Listed). bit l.missing) ∙ w.told_all ∙ sym steps_are;
          listed_long = ap length lists_are ∙ length-map h.lists (λ (l : Listed). length l.files) ∙ w.told_all ∙ sym steps_are;
          few = λ k b. let z = (w.lists k (omega (arith, w.told_all, steps_are))).few in omega (arith, z, listed_at k);
        }

    pub headed_held : HoldsHeaded h names index (mentions_in second d) (ends_in second d) (phony_in second d) (made_in second d) missing listed
    unfolding listed_part
    headed_held =
        record {
          named = subst (λ (n : ℕ). HoldsNames names index n h.reading.files) (sym files_are) w.named;
          held = w.tables;
          lists =
              record {
                misses = misses;
                files = λ k b.
                    ap (λ (n : ℕ). part (mentions_in second d) (end_at (ends_in second d) k implicit_end - n) (end_at (ends_in second d) k implicit_end)) (listed_at k)
                    ∙ (w.lists k b).is;
              };
        }
