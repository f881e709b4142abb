-- A file that is opened, and the scope before it gone back to: what is held then.
use Prim.Native.Nat.{ℕ, ◌+◌, ◌≤◌}
use mathlib.Core.Bool.{Bool, true, false}
use mathlib.Core.List.{List, [], ◌∷◌}
use mathlib.Core.Path.{◌≡◌, sym, ◌∙◌, ap, subst}
use lib.ListN.{length}
use Rattle.spec.specs.Reading.{Variables, Reading}
use Rattle.spec.specs.Statements.{Block}
use Rattle.spec.specs.Manifest.{entered, back_in}
use Rattle.hold_bindings.specs.Log.{Logged, entering, back_to, Scoping, scoping_of, variables_of}
use Rattle.hold_bindings.specs.Held.{max_rows, HoldsScopes, HoldsBindings, SoundScopes, HasScopeRoom, HasBackRoom}
use Rattle.hold_reading.specs.declared.Counts.{Counts}
use Rattle.hold_reading.specs.declared.Open.TheVariants.{Nothing}
use Rattle.hold_reading.specs.Held.{joined, nothing}
use Rattle.hold_reading.specs.Binds.{counted_opened, counted_entered, counted_back, Known, goes}
use Rattle.hold_reading.proofs.Lift.{joined_none, none_bound}
use Rattle.hold_reading.proofs.Opened.{bound_open, bound_enter, enter_room, bound_same_scope, bound_back, back_room, beside_open, beside_enter, beside_scope, beside_back}
use Rattle.apply_open.specs.Opens.{EnterAsks, Enters, EnteredFrom, LeaveAsks, LeavesScope}

-- ---- into a file

module _ {texts bind : List ℕ} {c : Counts} {n : ℕ} (a : EnterAsks texts bind c n) where
  pub scope_asked : (max_rows ≤ length bind) × SoundScopes bind
  scope_asked =
      let d = none_bound a.sound.known in
      (d.held.rows.bind_long, record { scoping = scoping_of a.sound.log; held = d.held.scopes })

  pub scope_room : HasScopeRoom texts bind c.entries
  scope_room = enter_room (none_bound a.sound.known) n a.few a.low

  -- k is the scope that is read in
  module _ {k : ℕ} (s : (g : Scoping) → HoldsScopes g bind → k ≡ g.current) where
    scope_is : (log : List Logged) (rd : Reading) (b : Block) → Known log texts bind c rd b Nothing → k ≡ rd.vars.current
    unfolding variables_of
    scope_is log rd b w =
        let d = none_bound w in
        s (scoping_of log) d.held.scopes ∙ sym (ap (λ (v : Variables). v.current) d.vars)

    pub not_entered : {sub : Bool} → sub ≡ false → Enters sub texts bind c n texts bind (record { counts = counted_opened n c; scope = k })
    unfolding joined
    not_entered e =
        record {
          meets =
              record {
                agrees = λ log rd b w.
                    rw (e, joined_none rd w.opens) (goes [] (bound_open (none_bound w) n a.few a.low) nothing (beside_open n (entered false rd.vars)));
              };
          scope = scope_is;
        }

    pub is_entered : {sub : Bool} {texts' bind' : List ℕ} → sub ≡ true → ((log : List Logged) → HoldsBindings log texts bind c.entries → HoldsBindings (entering ∷ log) texts' bind' (c.entries + 1))
        → Enters sub texts bind c n texts' bind' (record { counts = counted_entered n c; scope = k })
    unfolding joined
    is_entered e h =
        record {
          meets =
              record {
                agrees = λ log rd b w.
                    let d = none_bound w in
                    rw (e, joined_none rd w.opens)
                    (goes (entering ∷ []) (bound_enter d n a.few a.low (h log d.held)) nothing (beside_enter n (entered true rd.vars)));
              };
          scope = scope_is;
        }

-- ---- and back

module _ {sub : Bool} {k : ℕ} {texts bind : List ℕ} {c : Counts} where
  pub leave_room : LeaveAsks sub k texts bind c → sub ≡ true → HasBackRoom texts bind c.entries k
  unfolding EnteredFrom
  leave_room a e =
      let i = subst (λ (s : Bool). EnteredFrom s k a.sound.reading.vars) e a.inside in
      back_room (none_bound a.sound.known) k i.0 i.1

  pub not_left : sub ≡ false → LeavesScope sub k texts bind c texts bind c
  unfolding joined EnteredFrom back_in
  not_left e =
      record {
        agrees = λ log rd b w i.
            let j = subst (λ (s : Bool). EnteredFrom s k rd.vars) e i in
            goes [] (bound_same_scope (none_bound w) k j) nothing (beside_scope k);
      }

  pub is_left : {texts' bind' : List ℕ} → sub ≡ true → ((log : List Logged) → HoldsBindings log texts bind c.entries → HoldsBindings (back_to k ∷ log) texts' bind' (c.entries + 1))
      → LeavesScope sub k texts bind c texts' bind' (counted_back c)
  unfolding joined EnteredFrom back_in
  is_left e h =
      record {
        agrees = λ log rd b w i.
            let d = none_bound w in
            let j = subst (λ (s : Bool). EnteredFrom s k rd.vars) e i in
            goes (back_to k ∷ []) (bound_back d k j.0 j.1 (h log d.held)) nothing (beside_back k);
      }
