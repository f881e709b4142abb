-- What the rules answer to an indented line, by its cut and the open block: one law for each answer.
use Rattle.std.specs.Prelude.{Result, Err}
use Prim.Native.Nat.{ℕ}
use mathlib.Core.List.{List}
use mathlib.Core.Path.{◌≡◌, refl, sym}
use native.Mathlib.Nat.{le_trans}
use lib.ListN.{drop}
use Rattle.lists.specs.Parts.{part}
use Rattle.spec.specs.declared.Refusal.{Refusal}
use Rattle.spec.specs.declared.Refusal.TheVariants.{BadLine}
use Rattle.spec.specs.Lines.{Line}
use Rattle.spec.specs.Forms.{raw_value, cut_indented}
use Rattle.spec.specs.Reading.{Reading}
use Rattle.spec.specs.Statements.{Block, no_block, rule_block, build_block, refused, block_line}
use Rattle.spec.specs.Manifest.{if_cut, indented, read_indented}
use Rattle.scan_raw.proofs.Faults.{raw_length}
use Rattle.hold_bindings.specs.Log.{Logged}
use Rattle.cut_refusals.specs.Cuts.{Wrong, SoundBinding}
use Rattle.hold_reading.specs.declared.Counts.{Counts}
use Rattle.hold_reading.specs.declared.Open.{Open}
use Rattle.hold_reading.specs.declared.Open.TheVariants.{Nothing, Rule, Step}
use Rattle.hold_reading.specs.Held.{OpensBlock, nothing, a_rule, a_step}
use Rattle.hold_reading.specs.Binds.{Meets}
use Rattle.hold_reading.proofs.Lift.{refused_by}
use Rattle.apply_variables.specs.Asks.{BindingAsks as ValueAsks}
use Rattle.apply_indented.specs.Asks.{KeyAsks, IndentedAsks}
use Rattle.hold_reading.specs.declared.State.{State}

-- ---- a line that is cut

module _ (l : Line) {from to at : ℕ} (s : SoundBinding l (cut_indented l.text) from to at) where
  line_is : (rd : Reading) (b : Block) → read_indented l rd b ≡ block_line l.start b (part l.text from to) (raw_value (drop at l.text)) rd
  unfolding read_indented if_cut indented block_line
  line_is rd no_block = refl
  line_is rd (rule_block k r) = rw (s.places.cut, s.ended)
  line_is rd (build_block x) = rw (s.places.cut, s.ended)

  -- with the part of the line that is its value
  module _ {raw : List ℕ} (v : raw ≡ raw_value (drop at l.text)) where
    pub line_applied : {texts bind : List ℕ} {c : Counts} {o : Open} {texts' bind' : List ℕ} {r : Result State Refusal}
        → Meets texts bind c o (λ rd b. block_line l.start b (part l.text from to) raw rd) texts' bind' r
        → Meets texts bind c o (read_indented l) texts' bind' r
    line_applied m = record { agrees = λ log rd b w. rw (line_is rd b, sym v) (m.agrees log rd b w) }

    pub value_asks : {t texts bind word : List ℕ} {c : Counts} {o : Open} → IndentedAsks t l.start l.text texts bind word c o
        → ValueAsks t raw texts bind word c o
    value_asks a =
        record {
          table = a.cut.table;
          short = rw v (le_trans (raw_length l.text at) a.cut.short);
          dollars = rw v s.dollars;
          room = a.room;
          sound = a.sound;
        }

-- ---- a line that is refused

module _ (l : Line) {r : Refusal} (w : Wrong l (cut_indented l.text) r) {log : List Logged} (rd : Reading) where
  key_wrong : {b : Block} {head k : ℕ} → OpensBlock log b (Rule head k) → read_indented l rd b ≡ refused r
  unfolding read_indented
  key_wrong (a_rule o) = w _

  setting_wrong : {b : Block} → OpensBlock log b Step → read_indented l rd b ≡ refused r
  unfolding read_indented
  setting_wrong a_step = w _

module _ {texts bind : List ℕ} {c : Counts} {texts' bind' : List ℕ} (l : Line) where
  pub wrong_key_law : {r : Refusal} {head k : ℕ} → Wrong l (cut_indented l.text) r → Meets texts bind c (Rule head k) (read_indented l) texts' bind' (Err r)
  wrong_key_law w = record { agrees = λ log rd b h. refused_by (key_wrong l w rd h.opens) }

  pub wrong_setting : {r : Refusal} → Wrong l (cut_indented l.text) r → Meets texts bind c Step (read_indented l) texts' bind' (Err r)
  wrong_setting w = record { agrees = λ log rd b h. refused_by (setting_wrong l w rd h.opens) }

-- ---- no block

outside : (l : Line) {log : List Logged} (rd : Reading) {b : Block} → OpensBlock log b Nothing → read_indented l rd b ≡ refused (BadLine l.start)
unfolding read_indented
outside l rd nothing = refl

pub no_block_law : {texts bind : List ℕ} {c : Counts} {texts' bind' : List ℕ} (l : Line) → Meets texts bind c Nothing (read_indented l) texts' bind' (Err (BadLine l.start))
no_block_law l = record { agrees = λ log rd b h. refused_by (outside l rd h.opens) }

-- ---- what a line of a rule's block asks

pub key_asks : {t : List ℕ} {start : ℕ} {l texts bind word : List ℕ} {c : Counts} {o p : Open} → o ≡ p → IndentedAsks t start l texts bind word c o
    → KeyAsks t start l texts bind c p
key_asks e a = rw (← e) (record { cut = a.cut; sound = a.sound })
