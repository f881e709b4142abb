-- The test entry by entry, and what it says of the reading where nothing has that name.
use Prim.Native.Nat.{ℕ, zero, suc, ◌+◌, ◌≤◌, ◌<◌}
use mathlib.Core.Bool.{Bool, true, false}
use mathlib.Core.List.{List, [], ◌∷◌}
use mathlib.Core.Option.{none}
use mathlib.Core.Path.{◌≡◌, refl, sym, ◌∙◌, ap}
use native.Mathlib.Nat.{not-suc-le-zero}
use native.Mathlib.Decide.{dec_lt}
use native.Mathlib.Omega.{arith}
use lib.Dec.{eqb}
use lib.ListN.{length, get_or-eq_default}
use Rattle.lists.specs.Tests.{split, or_false, or_left, or_right}
use Rattle.lists.specs.Bytes.{eq_bytes}
use Rattle.lists.specs.Members.{any}
use Rattle.spec.specs.declared.Key.TheVariants.{Depfile as depfile_key}
use Rattle.spec.specs.Text.{key_name}
use Rattle.spec.specs.Reading.{Reading, scope_at, bound_to, keys_of}
use Rattle.spec.specs.Graph.{step_at, no_step}
use Rattle.spec.proofs.NoLists.{NoDepfile}
use Rattle.hold_bindings.specs.Log.{Logged, of_rules, of_keys, of_block, of_scope, entry_at, bound_by, scoping_of, scopes_from, variables_of, rules_in, rules_of}
use Rattle.hold_bindings.specs.Held.{HoldsBindings}
use Rattle.hold_bindings.proofs.Lookups.{entry_kept, entry_newest}
use Rattle.hold_reading.specs.declared.Counts.{Counts}
use Rattle.hold_reading.specs.Held.{HoldsBound}
use Rattle.ask_depfile_bound.specs.Bound.{is_depfile, depfile_bound}

-- ---- entry by entry

found : (l : List Logged) (k : ℕ) → k < length l → is_depfile (entry_at k l) ≡ true → any is_depfile l ≡ true
unfolding any
found [] k b e = absurd (not-suc-le-zero b)
found (x ∷ l) k b e = elim (dec_lt k (length l)) [
  | yes d ↦ (let h = found l k d (rw (entry_kept x l k d) at e) in split (is_depfile x) (λ (p : is_depfile x ≡ true). rw p) (λ (p : is_depfile x ≡ false). rw (p, h)))
  | no d ↦ (let z : k ≡ length l = omega arith in rw (rw (z, entry_newest x l) at e))
]

nowhere : (l : List Logged) → ((k : ℕ) → k < length l → is_depfile (entry_at k l) ≡ false) → any is_depfile l ≡ false
unfolding any
nowhere [] f = refl
nowhere (x ∷ l) f =
    or_false (is_depfile x) (any is_depfile l) (rw (entry_newest x l) at (f (length l) (omega arith)))
    (nowhere l (λ k b. rw (entry_kept x l k b) at (f k (omega arith))))

-- none of the first k entries has the name, whatever log is held
abbrev pub NoneBefore : List ℕ → List ℕ → ℕ → ℕ → Type 0
NoneBefore texts bind count k = (log : List Logged) → HoldsBindings log texts bind count → (j : ℕ) → j < k → is_depfile (entry_at j log) ≡ false

pub record Seen (texts bind : List ℕ) (count k : ℕ) : Type 0 where
  pub within : k ≤ count
  pub none_before : NoneBefore texts bind count k

abbrev pub Said : List ℕ → List ℕ → ℕ → Bool → Type 0
Said texts bind count r = (log : List Logged) → HoldsBindings log texts bind count → r ≡ depfile_bound log

-- what the test of entry k is promised to say
abbrev pub Named : List ℕ → List ℕ → ℕ → List ℕ → Type 0
Named texts bind k n = (log : List Logged) (count : ℕ) → HoldsBindings log texts bind count → k < count → n ≡ (entry_at k log).name

module _ {texts bind : List ℕ} {count : ℕ} where
  pub begun : Seen texts bind count 0
  begun = record { within = omega arith; none_before = λ log h j b. absurd (not-suc-le-zero b) }

  module _ {k : ℕ} {n : List ℕ} {b : Bool} (w : Named texts bind k n) (r : b ≡ eq_bytes (key_name depfile_key) n) (l : k < count) where
    here : (log : List Logged) → HoldsBindings log texts bind count → is_depfile (entry_at k log) ≡ b
    unfolding is_depfile
    here log h = ap (eq_bytes (key_name depfile_key)) (sym (w log count h l)) ∙ sym r

    pub one_found : b ≡ true → Said texts bind count true
    unfolding depfile_bound
    one_found e = λ log h. sym (found log k (rw h.rows.counted at l) (here log h ∙ e))

    pub one_more : b ≡ false → Seen texts bind count k → Seen texts bind count (k + 1)
    one_more e s = record {
      within = omega arith;
      none_before = λ log h j u. elim (dec_lt j k) [
        | yes d ↦ s.none_before log h j d
        | no d ↦ (let z : j ≡ k = omega arith in rw z (here log h ∙ e))
      ];
    }

  pub none_found : {k : ℕ} → Seen texts bind count k → count ≤ k → Said texts bind count false
  unfolding depfile_bound
  none_found {k} s d = λ log h. sym (nowhere log (λ j b. s.none_before log h j (omega (arith, h.rows.counted, s.within))))

-- ---- then no rule, block or scope binds it

abbrev named : List ℕ
named = key_name depfile_key

module _ (log : List Logged) (w : depfile_bound log ≡ false) where
  none_by : (o : ℕ) (l : List Logged) → any is_depfile l ≡ false → bound_to named (bound_by o l) ≡ none
  unfolding bound_to bound_by any is_depfile
  none_by o [] e = refl
  none_by o (x ∷ l) e =
      let a : eq_bytes named x.name ≡ false = or_left (is_depfile x) (any is_depfile l) e in
      let r = none_by o l (or_right (is_depfile x) (any is_depfile l) e) in
      split (eqb x.owner o) (λ (p : eqb x.owner o ≡ true). rw (p, a) r) (λ (p : eqb x.owner o ≡ false). rw p r)

  unbound : (o : ℕ) → bound_to named (bound_by o log) ≡ none
  unfolding depfile_bound
  unbound o = none_by o log w

  no_key : (n : List ℕ) (l : List Logged) → bound_to named (keys_of n (rules_in log l)) ≡ none
  unfolding keys_of rules_in bound_to
  no_key n [] = refl
  no_key n (x ∷ l) =
      split (eqb x.owner of_rules)
      (λ (p : eqb x.owner of_rules ≡ true).
      split (eq_bytes n x.name)
      (λ (q : eq_bytes n x.name ≡ true). rw (p, q) (unbound (of_keys (length l))))
      (λ (q : eq_bytes n x.name ≡ false). rw (p, q) (no_key n l)))
      (λ (p : eqb x.owner of_rules ≡ false). rw p (no_key n l))

  no_own : (j : ℕ) (os : List (List ℕ)) (k : ℕ) → bound_to named (scope_at (scopes_from j os log) k).own ≡ none
  unfolding scopes_from bound_to
  no_own j [] zero = refl
  no_own j [] (suc k) = refl
  no_own j (o ∷ os) zero = unbound (of_scope j)
  no_own j (o ∷ os) (suc k) = no_own (suc j) os k

module _ {log : List Logged} {texts bind : List ℕ} {c : Counts} {rd : Reading} (h : HoldsBound log texts bind c rd) (w : depfile_bound log ≡ false) where
  no_line : (s : ℕ) → bound_to named (step_at rd.steps s).block ≡ none
  unfolding bound_to
  no_line s = elim (dec_lt s (length rd.steps)) [
    | yes d ↦ rw (h.blocks s d) (unbound log w (of_block s))
    | no d ↦ rw (get_or-eq_default rd.steps no_step {n = s} (omega arith))
  ]

  pub nothing_bound : NoDepfile rd
  unfolding rules_of variables_of
  nothing_bound = record {
    rules = λ r. rw h.rules (no_key log w r log);
    blocks = no_line;
    scopes = λ k. rw h.vars (no_own log w 0 (scoping_of log).outers k);
  }
