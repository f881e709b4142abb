-- What is left of the buffers: zeroed after a refusal, the word buffer in any case.
use Rattle.std.specs.Prelude.{Result, Ok, Err, is_ok}
use Prim.Native.Nat.{ℕ}
use mathlib.Core.List.{List}
use mathlib.Core.Bool.{true, false}
use mathlib.Core.Path.{◌≡◌, refl, sym, ◌∙◌, ap, subst}
use Rattle.std.proofs.lemmas.Bool.{false≢true}
use lib.ListN.{length}
use Rattle.lists.specs.Fill.{zeros, zeroed, zeroed_all}
use Rattle.lists.specs.Lent.{Spare, Leaves}
use Rattle.spec.specs.declared.Refusal.{Refusal}
use Rattle.hold_reading.specs.declared.Counts.{Counts}
use Rattle.hold_reading.specs.Buffers.{Buffers, SameRoom}
use Rattle.apply_manifest.specs.Manifests.{IsRead}
use Rattle.apply_manifest.proofs.Answers.{read_refused}
use Rattle.test_manifest.specs.Numbers.{Cleared, Left, ReadWhole}

-- a buffer zeroed from its start
pub all_zero : (l : List ℕ) {l' : List ℕ} → l' ≡ zeroed l 0 (length l) → l' ≡ zeros (length l)
all_zero l e = e ∙ zeroed_all l

same_zeros : {l l₁ l' : List ℕ} → Spare l l₁ → l' ≡ zeros (length l₁) → l' ≡ zeros (length l)
same_zeros s e = e ∙ ap zeros s.long

module _ {m : List ℕ} {bs bs₁ : Buffers} {word word₁ word' : List ℕ} {x : Result Counts Refusal} (k : Leaves (SameRoom bs bs₁ × Spare word word₁) (IsRead m bs₁ x))
    (w : word' ≡ zeroed word₁ 0 (length word₁)) where
  kept_whole : {c : Counts} → x ≡ Ok c → ReadWhole m bs word (Ok c) bs₁ word'
  unfolding Left
  kept_whole e = record { read = subst (IsRead m bs₁) e k.promise; left = k.space.0; word_zero = same_zeros k.space.1 (all_zero word₁ w) }

  cleared_whole : {r : Refusal} {bs' : Buffers} → x ≡ Err r → Cleared bs₁ bs' → ReadWhole m bs word (Err r) bs' word'
  unfolding Left IsRead
  cleared_whole e d =
      let s = k.space.0 in
      record {
        read = read_refused m bs₁ k.promise e;
        left =
            record {
              names = same_zeros s.names d.names;
              index = same_zeros s.index d.index;
              texts = same_zeros s.texts d.texts;
              bind = same_zeros s.bind d.bind;
              graph = same_zeros s.graph d.graph;
            };
        word_zero = same_zeros k.space.1 (all_zero word₁ w);
      }

module _ {m : List ℕ} {bs bs₁ : Buffers} {word word₁ word' : List ℕ} where
  pub kept_all : (x : Result Counts Refusal) → is_ok x ≡ true → Leaves (SameRoom bs bs₁ × Spare word word₁) (IsRead m bs₁ x) → word' ≡ zeroed word₁ 0 (length word₁)
      → ReadWhole m bs word x bs₁ word'
  kept_all (Ok c) e k w = kept_whole k w refl
  kept_all (Err r) e k w = absurd (false≢true e)

  pub cleared_all : (x : Result Counts Refusal) → is_ok x ≡ false → Leaves (SameRoom bs bs₁ × Spare word word₁) (IsRead m bs₁ x) → word' ≡ zeroed word₁ 0 (length word₁)
      → {bs' : Buffers} → Cleared bs₁ bs' → ReadWhole m bs word x bs' word'
  cleared_all (Ok c) e k w d = absurd (false≢true (sym e))
  cleared_all (Err r) e k w d = cleared_whole k w refl d
