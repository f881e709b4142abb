-- A mark more: the scopes in the buffer after it, and the log with it.
use Prim.Native.Nat.{ℕ, suc, ◌+◌, ◌≤◌, ◌<◌}
use mathlib.Core.List.{List, [], ◌∷◌, ◌++◌}
use mathlib.Core.Path.{◌≡◌, refl, sym, ◌∙◌, ap, subst}
use native.Mathlib.Decide.{dec_lt}
use native.Mathlib.Omega.{arith}
use lib.ListN.{length, take, drop, get_or, set, length-append, length-set, get_or-append}
use lib.Seq.{take-take, take-set-le, get_or-append_seam, get_or-set_same, get_or-set_other}
use Rattle.lists.specs.Parts.{drop_take}
use Rattle.spec.specs.Limits.{max_name}
use Rattle.hold_bindings.specs.Log.{Logged, logged, of_marks, entering, back_to, Scoping, scoping_after, scoping_of}
use Rattle.hold_bindings.specs.Held.{max_scopes, max_entries, max_rows, rows_end, scopes_at, current_at, parents_at, index_in, Parent, top, inside, HoldsScopes, HoldsBindings, RowRoom, FewScopes, HasScopeRoom, HasBackRoom, Added, Scoped}
use Rattle.hold_bindings.proofs.Scopes.{scopes_kept}
use Rattle.hold_bindings.proofs.Entries.{rows_kept}

-- ---- a scope is entered

-- A scope more behind the others.
parent_kept : {outers : List (List ℕ)} {k : ℕ} (x : List ℕ) {os : List ℕ} {v : ℕ} → k < length outers → Parent outers k os v → Parent (outers ++ (x ∷ [])) k os v
parent_kept x b top = top
parent_kept {outers} x b (inside {p} c) = rw (← (get_or-append outers (x ∷ []) [] p (omega arith))) (inside c)

module _ (bind : List ℕ) (long : max_rows ≤ length bind) (n c : ℕ) (low : n < max_scopes) where
  abbrev entered : List ℕ
  entered = set (set (set bind (parents_at + n) (c + 1)) scopes_at (n + 1)) current_at n

  parent_new : get_or entered (parents_at + n) 0 ≡ suc c
  parent_new =
      get_or-set_other (set (set bind (parents_at + n) (c + 1)) scopes_at (n + 1)) current_at (parents_at + n) n 0 (λ e. omega arith)
      ∙ get_or-set_other (set bind (parents_at + n) (c + 1)) scopes_at (parents_at + n) (n + 1) 0 (λ e. omega arith)
      ∙ get_or-set_same bind (parents_at + n) (c + 1) 0 (omega arith)
      ∙ omega arith

  parent_old : (k : ℕ) → k < n → get_or entered (parents_at + k) 0 ≡ get_or bind (parents_at + k) 0
  parent_old k b =
      get_or-set_other (set (set bind (parents_at + n) (c + 1)) scopes_at (n + 1)) current_at (parents_at + k) n 0 (λ e. omega arith)
      ∙ get_or-set_other (set bind (parents_at + n) (c + 1)) scopes_at (parents_at + k) (n + 1) 0 (λ e. omega arith)
      ∙ get_or-set_other bind (parents_at + n) (parents_at + k) (c + 1) 0 (λ e. omega arith)

  module _ (g : Scoping) (h : HoldsScopes g bind) (counted : n ≡ length g.outers) (now : c ≡ g.current) where
    abbrev more : List (List ℕ)
    more = g.outers ++ ((g.current ∷ get_or g.outers g.current []) ∷ [])

    parent_last : Parent more n (get_or more n []) (get_or entered (parents_at + n) 0)
    parent_last =
        let x = g.current ∷ get_or g.outers g.current [] in
        let a : get_or more n [] ≡ x = ap (λ (j : ℕ). get_or more j []) counted ∙ get_or-append_seam g.outers x [] [] in
        let b : Parent more n (g.current ∷ get_or more g.current []) (suc g.current) = inside {p = g.current} (omega (arith, h.below)) in
        rw (a, parent_new, now) (rw (get_or-append g.outers (x ∷ []) [] g.current h.below) at b)

    parents_more : (k : ℕ) → k < length more → Parent more k (get_or more k []) (get_or entered (parents_at + k) 0)
    parents_more k b =
        let x = g.current ∷ get_or g.outers g.current [] in
        elim (dec_lt k n) [
          | yes y ↦ (
              let z : k < length g.outers = omega arith in
              rw (parent_old k y, get_or-append g.outers (x ∷ []) [] k z) (parent_kept x z (h.parents k z))
              )
          | no y ↦ (
              let w : length more ≡ length g.outers + 1 = simp length-append in
              let z : n ≡ k = omega arith in
              subst (λ (j : ℕ). Parent more j (get_or more j []) (get_or entered (parents_at + j) 0)) z parent_last
              )
        ]

    scopes_entered : HoldsScopes (scoping_after [] g) entered
    unfolding scoping_after
    scopes_entered =
        let w : length more ≡ length g.outers + 1 = simp length-append in
        record {
          counted =
              get_or-set_other (set (set bind (parents_at + n) (c + 1)) scopes_at (n + 1)) current_at scopes_at n 0 (λ e. omega arith)
              ∙ get_or-set_same (set bind (parents_at + n) (c + 1)) scopes_at (n + 1) 0 (simp length-set (omega arith))
              ∙ omega arith;
          now = get_or-set_same (set (set bind (parents_at + n) (c + 1)) scopes_at (n + 1)) current_at n 0 (simp length-set (omega arith)) ∙ counted;
          below = omega arith;
          few = omega arith;
          parents = parents_more;
        }

pub scoped_new : {bind : List ℕ} → max_rows ≤ length bind → FewScopes bind → {n c : ℕ} → n ≡ get_or bind scopes_at 0 → c ≡ get_or bind current_at 0
    → Scoped bind [] (set (set (set bind (parents_at + n) (c + 1)) scopes_at (n + 1)) current_at n)
scoped_new {bind} l f {n} {c} p q =
    let low : n < max_scopes = omega (arith, f.free, f.held.counted) in
    record {
      long = simp length-set;
      front =
          take-set-le scopes_at (set (set bind (parents_at + n) (c + 1)) scopes_at (n + 1)) current_at n (omega arith)
          ∙ take-set-le scopes_at (set bind (parents_at + n) (c + 1)) scopes_at (n + 1) (omega arith)
          ∙ take-set-le scopes_at bind (parents_at + n) (c + 1) (omega arith);
      scopes = λ g h. scopes_entered bind l n c low g h (p ∙ h.counted) (q ∙ h.now);
    }

-- ---- a scope is gone back to

scoped_back : {bind : List ℕ} → max_rows ≤ length bind → {k : ℕ} → k < get_or bind scopes_at 0 → Scoped bind (k ∷ []) (set bind current_at k)
unfolding scoping_after
scoped_back {bind} l {k} b =
    record {
      long = simp length-set;
      front = take-set-le scopes_at bind current_at k (omega arith);
      scopes =
          λ g h.
          record {
            counted = get_or-set_other bind current_at scopes_at k 0 (λ e. omega arith) ∙ h.counted;
            now = get_or-set_same bind current_at k 0 (omega arith);
            below = omega (arith, h.counted);
            few = h.few;
            parents = λ j d. rw (get_or-set_other bind current_at (parents_at + j) k 0 (λ e. omega arith)) (h.parents j d);
          };
    }

-- ---- the log with a mark more

pub mark_room : {log : List Logged} {texts bind : List ℕ} {count : ℕ} → HoldsBindings log texts bind count → count < max_entries → {name : List ℕ} → length name ≤ max_name
    → RowRoom log texts bind count (logged of_marks name [])
mark_room h f n = record { held = h; few = f; owner = omega arith; name = n; value = omega (arith, h.rows.values) }

-- The entry is there, and the scopes are not changed yet.
pub free_kept : {texts bind : List ℕ} {count : ℕ} (s : HasScopeRoom texts bind count) {texts' bind' : List ℕ} → Added texts bind count entering texts' bind'
    → (max_rows ≤ length bind') × FewScopes bind'
free_kept s w =
    ((w.rows s.log (mark_room s.held s.few (omega arith))).bind_long, record { scoping = scoping_of s.log; held = scopes_kept s.held.scopes w.behind; free = s.free })

pub back_kept : {texts bind : List ℕ} {count k : ℕ} → HasBackRoom texts bind count k → {texts' bind' : List ℕ} → Added texts bind count (back_to k) texts' bind'
    → Scoped bind' (k ∷ []) (set bind' current_at k)
back_kept b {bind' = bind'} w =
    let s = b.scope in
    let h : HoldsScopes (scoping_of s.log) bind' = scopes_kept s.held.scopes w.behind in
    scoped_back (w.rows s.log (mark_room s.held b.few (omega arith))).bind_long (omega (arith, s.below, h.counted))

scoping_marked : (name : List ℕ) (log : List Logged) → scoping_of (logged of_marks name [] ∷ log) ≡ scoping_after name (scoping_of log)
unfolding scoping_of
scoping_marked name log = refl

module _ {log : List Logged} {texts bind : List ℕ} {count : ℕ} {name : List ℕ} (r : RowRoom log texts bind count (logged of_marks name []))
    {texts' bind' : List ℕ} (w : Added texts bind count (logged of_marks name []) texts' bind') {bind'' : List ℕ} (x : Scoped bind' name bind'') where
  rows_same : take rows_end bind'' ≡ take rows_end bind'
  rows_same = sym (take-take rows_end scopes_at bind'' (omega arith)) ∙ ap (take rows_end) x.front ∙ take-take rows_end scopes_at bind' (omega arith)

  index_same : index_in bind'' (count + 1) ≡ index_in bind' (count + 1)
  index_same =
      sym (take-take (count + 1) max_entries (drop rows_end bind'') (omega (arith, r.few)))
      ∙ ap (take (count + 1)) (sym (drop_take rows_end scopes_at bind'') ∙ ap (drop rows_end) x.front ∙ drop_take rows_end scopes_at bind')
      ∙ take-take (count + 1) max_entries (drop rows_end bind') (omega (arith, r.few))

  pub mark_held : HoldsBindings (logged of_marks name [] ∷ log) texts' bind'' (count + 1)
  mark_held =
      record {
        rows = rows_kept (w.rows log r) x.long rows_same;
        index = rw index_same (w.index log r);
        scopes = rw (scoping_marked name log) (x.scopes (scoping_of log) (scopes_kept r.held.scopes w.behind));
      }
