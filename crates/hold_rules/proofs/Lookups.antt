-- What is looked up for a rule's block is what the rules ask.
use Rattle.std.specs.Prelude.{Some}
use Prim.Native.Nat.{ℕ, ◌≤◌}
use mathlib.Core.Bool.{Bool, true, false, not, ◌||◌}
use mathlib.Core.List.{List, [], ◌∷◌}
use mathlib.Core.Path.{◌≡◌, refl, ap}
use borrow.Author.Tests.{leb-true}
use lib.Dec.{leb}
use lib.ListN.{length, take}
use Rattle.lists.specs.Tests.{split, differ, and_left, and_right}
use Rattle.lists.specs.Bytes.{eq_bytes, eq_bytes_true}
use Rattle.lists.specs.Members.{all, any}
use Rattle.spec.specs.Basics.{among}
use Rattle.spec.specs.Limits.{max_name}
use Rattle.spec.specs.Reading.{Rule, Reading, is_phony, declared, has_key}
use Rattle.spec.specs.Statements.{rule_key}
use Rattle.spec.specs.Text.{key_name, key_names}
use Rattle.hold_bindings.specs.Log.{Logged, of_rules, of_keys, newest, is_at, newest_rule, rules_of}
use Rattle.hold_bindings.proofs.Lookups.{declared_newest, key_newest}
use Rattle.hold_reading.specs.declared.Counts.{Counts}
use Rattle.hold_reading.specs.Held.{HoldsBound}
use Rattle.hold_reading.proofs.Grow.{open_keys}
use Rattle.hold_rules.specs.Tests.{keyed, bad_key}

pub declared_held : {log : List Logged} {texts bind : List ℕ} {c : Counts} {rd : Reading} → HoldsBound log texts bind c rd → (n : List ℕ)
    → declared n rd ≡ is_phony n || is_at (newest of_rules n log)
unfolding declared
declared_held {log} b n = rw b.rules (ap (λ (t : Bool). is_phony n || t) (declared_newest n log))

-- The rule whose block is open.
module _ (log : List Logged) (k : ℕ) (r : Rule) (rs : List Rule) (o : newest_rule log ≡ Some k) (h : r ∷ rs ≡ rules_of log) (n : List ℕ) where
  pub keyed_held : has_key n r.keys ≡ keyed k n log
  unfolding keyed
  keyed_held = rw (open_keys log k r rs o h) (key_newest (of_keys k) n log)

  pub bad_held : not (rule_key n) || has_key n r.keys ≡ bad_key k n log
  unfolding bad_key
  bad_held = ap (λ (t : Bool). not (rule_key n) || t) keyed_held

-- ---- a rule's key has a short name

all_among : (p : List ℕ → Bool) (n : List ℕ) (l : List (List ℕ)) → all p l ≡ true → among n l ≡ true → p n ≡ true
unfolding all among any
all_among p n [] a h = differ h refl
all_among p n (m ∷ l) a h =
    split (eq_bytes n m)
    (λ (e : eq_bytes n m ≡ true). rw (eq_bytes_true n m e) (and_left (p m) (all p l) a))
    (λ (e : eq_bytes n m ≡ false). all_among p n l (and_right (p m) (all p l) a) (rw e at h))

pub key_short : (n : List ℕ) → rule_key n ≡ true → length n ≤ max_name
unfolding rule_key key_names key_name all
key_short n h = leb-true (length n) max_name (all_among (λ m. leb (length m) max_name) n (take 4 key_names) refl h)
