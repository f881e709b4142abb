-- Room in the buffers, and the answer.
use Rattle.std.specs.Prelude.{Result, Err}
use Prim.Native.Nat.{ℕ, zero, suc, ◌+◌, ◌≤◌, ◌<◌}
use mathlib.Core.Bool.{Bool, true, false}
use mathlib.Core.List.{List}
use mathlib.Core.Path.{◌≡◌, refl, sym, ap, ◌∙◌, subst}
use native.Mathlib.Omega.{arith}
use lib.ListN.{length}
use Rattle.lists.specs.Tests.{differ}
use Rattle.spec.specs.declared.Refusal.{Refusal}
use Rattle.spec.specs.Limits.{max_manifest, max_written, max_value}
use Rattle.hold_names.specs.Table.{max_numbers}
use Rattle.hold_bindings.specs.Held.{max_texts, max_rows}
use Rattle.hold_reading.specs.Held.{columns_end}
use Rattle.spec.specs.Answers.{Said, refusal_says}
use Rattle.answers.specs.declared.Numbers.{Numbers as Three}
use Rattle.answers.specs.declared.Placed.{Placed}
use Rattle.answers.specs.Numbers.{said, place_by}
use Rattle.answer_places.specs.Places.{PlacedIn}
use Rattle.scan_classes.specs.Table.{classes}
use Rattle.apply_manifest.specs.Manifests.{Roomy}
use Rattle.test_manifest.specs.declared.ReadNumbers.{ReadNumbers}
use Rattle.test_manifest.specs.Numbers.{place_record, place_value, bare_numbers, in_numbers, JudgesRoom, ReadsManifest, ReadWhole}
use Rattle.hold_reading.specs.Buffers.{Buffers}
use Rattle.hold_reading.specs.declared.Counts.{Counts}

module _ {bs : Buffers} {word : List ℕ} where
  lacks : (Roomy classes bs word → ⊥) → JudgesRoom bs word false
  lacks n = record { enough = λ e. differ e refl; lacking = λ e. n }

  pub few_names : length bs.names < max_written → JudgesRoom bs word false
  few_names h = lacks (λ p. omega (arith, p.room.names_room))

  pub many_names : 4294967295 < length bs.names → JudgesRoom bs word false
  many_names h = lacks (λ p. omega (arith, p.names_small))

  pub few_numbers : length bs.index < max_numbers → JudgesRoom bs word false
  few_numbers h = lacks (λ p. omega (arith, p.numbers_room))

  pub few_texts : length bs.texts < max_texts → JudgesRoom bs word false
  few_texts h = lacks (λ p. omega (arith, p.texts_room))

  pub few_rows : length bs.bind < max_rows → JudgesRoom bs word false
  few_rows h = lacks (λ p. omega (arith, p.bind_room))

  pub few_columns : length bs.graph < columns_end + max_manifest → JudgesRoom bs word false
  few_columns h = lacks (λ p. omega (arith, p.room.scratch))

  pub short_word : length word < max_value → JudgesRoom bs word false
  short_word h = lacks (λ p. omega (arith, p.room.word_room))

  pub has_room : max_written ≤ length bs.names → length bs.names ≤ 4294967295 → max_numbers ≤ length bs.index → max_texts ≤ length bs.texts → max_rows ≤ length bs.bind → columns_end + max_manifest ≤ length bs.graph
      → max_value ≤ length word → JudgesRoom bs word true
  has_room n s f x b g w = record {
    enough = λ e. record {
      table = refl;
      room = record { names_room = n; scratch = g; word_room = w };
      names_small = omega (arith, s);
      numbers_room = f;
      texts_room = x;
      bind_room = b;
    };
    lacking = λ e. differ refl e;
  }

module _ {m : List ℕ} {bs : Buffers} {word : List ℕ} {b : Bool} (j : JudgesRoom bs word b) where
  pub too_small : {r : ReadNumbers} → b ≡ false → r ≡ bare_numbers 255 0 0 → ReadsManifest m bs word r bs word
  too_small e q = record {
    roomy = λ p. absurd (j.lacking e p);
    small = λ n. (q, record { names_stay = refl; index_stay = refl; texts_stay = refl; bind_stay = refl; graph_stay = refl; word_stay = refl });
  }

  pub has_read : (a : Result Counts Refusal) {r : ReadNumbers} {bs' : Buffers} {word' : List ℕ} → b ≡ true → ReadWhole m bs word a bs' word' → r ≡ in_numbers m a
      → ReadsManifest m bs word r bs' word'
  has_read a e i q = record { roomy = λ p. record { answer = a; read = i; says = q }; small = λ n. absurd (n (j.enough e)) }

-- the table that is lent is the table of classes
pub lent : {t : List ℕ} {bs : Buffers} {word : List ℕ} → t ≡ classes → Roomy classes bs word → Roomy t bs word
lent e r = record { table = e; room = r.room; names_small = r.names_small; numbers_room = r.numbers_room; texts_room = r.texts_room; bind_room = r.bind_room }

-- the numbers of an answer
pub counted : (m : List ℕ) {a b : Result Counts Refusal} → a ≡ b → in_numbers m b ≡ in_numbers m a
counted m e = ap (in_numbers m) (sym e)

text_told : (t v : ℕ) → place_record (place_by t v) ≡ t
text_told zero v = refl
text_told (suc k) v = refl

value_told : (t v : ℕ) → place_value (place_by t v) ≡ v
value_told zero v = refl
value_told (suc k) v = refl

placed_so : (m : List ℕ) (r : Refusal) (p : Placed) → PlacedIn m (refusal_says r) p → bare_numbers p.number p.text p.value ≡ in_numbers m (Err r)
unfolding in_numbers
placed_so m r p h =
    rw (← h.place_is, ← h.number_is) (rw (text_told p.text p.value, value_told p.text p.value) refl)

pub refused_so : (m : List ℕ) (r : Refusal) {a : Result Counts Refusal} {three : Three} (p : Placed) {x : ReadNumbers} → a ≡ Err r → said three ≡ refusal_says r → PlacedIn m (said three) p
    → x ≡ bare_numbers p.number p.text p.value → x ≡ in_numbers m a
refused_so m r p e s h q = q ∙ placed_so m r p (subst (λ (z : Said). PlacedIn m z p) s h) ∙ counted m e
