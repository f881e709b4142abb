-- The walks from the makers of the roots, one after another.
use Rattle.std.specs.Prelude.{Result, Ok, Err}
use Prim.Native.Nat.{ℕ, suc, ◌+◌, ◌-◌, ◌≤◌, ◌<◌}
use native.Mathlib.Decide.{dec_lt}
use native.Mathlib.Omega.{arith}
use mathlib.Core.Path.{◌≡◌, refl, sym, ap, ◌∙◌}
use mathlib.Core.Bool.{true, false}
use mathlib.Core.Logic.{inl, inr}
use mathlib.Core.List.{List, [], ◌∷◌}
use lib.ListN.{length, get_or, take}
use Rattle.lists.specs.Tests.{split}
use Rattle.lists.specs.Members.{◌∈◌, has, has_true, has_false, in_cons, in_take, place, not_in_nil}
use Rattle.orders.specs.Greedy.{In}
use Rattle.orders.specs.Reach.{ComesBefore, direct, further, Reached, upstream_more, reach_least, reach_complete}
use Rattle.lists.specs.Fill.{length_zeros, get_or_zeros}
use Rattle.hold_columns.specs.Columns.{maker_at, makers_in, before_in, needed_in, SoundColumns, FilesMade}
use Rattle.hold_columns.proofs.Makers.{in_makers_in, makers_in_in, maker_low, makers_small}
use Rattle.hold_columns.proofs.Held.{before_small}
use Rattle.graph_order.specs.Walk.{mark, Walk, Visited, Circled, Explored, Starts, Rooted, RootSeen, RootAsked, SortAsked, OrderFound}
use Rattle.graph_order.proofs.Walk.{mark_zero, walk_none}

upstream_trans : {before : ℕ → List ℕ} {m k s : ℕ} → ComesBefore before m k → ComesBefore before k s → ComesBefore before m s
upstream_trans (direct h) w = upstream_more h w
upstream_trans (further u h) w = upstream_trans u (upstream_more h w)

reached_through : {before : ℕ → List ℕ} {l start : List ℕ} → ((x : ℕ) → x ∈ l → Reached before start x) → (s : ℕ) → Reached before l s → Reached before start s
reached_through f s (inl h) = f s h
reached_through f s (inr (t, h, u)) = elim (f t h) [ inl a ↦ inr (t, a, u) | inr a ↦ inr (a.0, a.1, upstream_trans u a.2) ]

-- with no path, a step that is marked is done
marked_done : (done : List ℕ) (s : ℕ) → (mark [] done s ≡ 0 → ⊥) → s ∈ done
marked_done done s d = split (has s done)
    (λ (e : has s done ≡ true). has_true s done e)
    (λ (e : has s done ≡ false). absurd (d (mark_zero [] done s (has_false s done e) not_in_nil)))

visited_more : {mentions ends made : List ℕ} {n : ℕ} {Want More : ℕ → Type 0} {seen next order : List ℕ} {done : ℕ}
    → ((s : ℕ) → s ∈ take done order → Want s → More s) → Visited mentions ends made n Want seen next order done → Visited mentions ends made n More seen next order done
visited_more f v = record {
  done_in = v.done_in;
  next_long = v.next_long;
  order_long = v.order_long;
  walk = record {
    long = v.walk.long;
    marks = v.walk.marks;
    path_low = v.walk.path_low;
    path_once = v.walk.path_once;
    path_wanted = λ s h. absurd (not_in_nil h);
    linked = v.walk.linked;
    done_low = v.walk.done_low;
    done_once = v.walk.done_once;
    done_wanted = λ s h. f s h (v.walk.done_wanted s h);
    ordered = v.walk.ordered;
    apart = v.walk.apart;
  };
  passed = v.passed;
}

pub circled_more : {before : ℕ → List ℕ} {Want More : ℕ → Type 0} {path : List ℕ} {from to : ℕ} → ((s : ℕ) → Want s → More s) → Circled before Want path from to → Circled before More path from to
circled_more f c = record {
  within = c.within;
  circle = record {
    one_or_more = c.circle.one_or_more;
    wanted = λ s h. f s (c.circle.wanted s h);
    next = c.circle.next;
    last = c.circle.last;
    once = c.circle.once;
  };
}

-- what holds of the first i roots, and of root i, holds of one more
one_more : (made roots l : List ℕ) (i : ℕ) → ((j : ℕ) → j < i → (m : ℕ) → maker_at made roots j ≡ suc m → m ∈ l) → ((m : ℕ) → maker_at made roots i ≡ suc m → m ∈ l)
    → (j : ℕ) → j < i + 1 → (m : ℕ) → maker_at made roots j ≡ suc m → m ∈ l
one_more made roots l i f g j b m e = elim (dec_lt j i) [ yes d ↦ f j d m e | no d ↦ (let q : j ≡ i = omega arith in g m (rw q at e)) ]

module _ {mentions ends made roots : List ℕ} {i : ℕ} {seen next path order : List ℕ} {done : ℕ}
    (r : RootAsked mentions ends made roots i seen next path order done) {k : ℕ} (e : k ≡ maker_at made roots i) where
  pub root_low : k ≤ length order
  root_low = maker_low r.files {i = i} r.one_more e

  pub root_none : k ≡ 0 → Rooted mentions ends made roots (length order) seen next order done (i + 1)
  root_none z = record {
    visited = r.state.visited;
    rooted = one_more made roots (take done order) i r.state.rooted (λ m q. absurd (omega arith));
  }

  module _ (z : k ≡ 0 → ⊥) where
    root_is : (m : ℕ) → maker_at made roots i ≡ suc m → m ≡ k - 1
    root_is m q = omega arith

    root_below : k - 1 < length order
    root_below = let b = root_low in omega arith

    pub root_done : {v : ℕ} → v ≡ get_or seen (k - 1) 0 → (v ≡ 0 → ⊥) → Rooted mentions ends made roots (length order) seen next order done (i + 1)
    root_done p d = record {
      visited = r.state.visited;
      rooted = one_more made roots (take done order) i r.state.rooted
          (λ m q. rw (root_is m q) (marked_done (take done order) (k - 1) (λ w. d (p ∙ r.state.visited.walk.marks (k - 1) root_below ∙ w))));
    }

    pub root_starts : {v : ℕ} → v ≡ get_or seen (k - 1) 0 → v ≡ 0 → Starts mentions ends made seen next path order (k - 1) done
    root_starts p d = record {
      sound = r.sound;
      visited = visited_more (λ s h w. h) r.state.visited;
      path_long = r.path_long;
      root_low = root_below;
      unseen = sym p ∙ d;
    }

    root_reached : (s : ℕ) → Reached (before_in mentions ends made) ((k - 1) ∷ take done order) s → Reached (before_in mentions ends made) (makers_in made roots) s
    root_reached = reached_through (λ x h. elim (in_cons h) [
      | inl q ↦ inl (rw q (makers_in_in made roots i r.one_more (omega arith)))
      | inr a ↦ r.state.visited.walk.done_wanted x a
    ])

    pub root_found : (seen' next' path' order' : List ℕ) (o : Result ℕ (ℕ × ℕ)) → Explored mentions ends made (length order) (take done order) (k - 1) seen' next' path' order' o
        → RootSeen mentions ends made roots (length order) (i + 1) seen' next' path' order' o
    unfolding Explored RootSeen
    root_found seen' next' path' order' (Ok n) s = record {
      visited = visited_more (λ x h w. root_reached x w) s.visited;
      rooted = one_more made roots (take n order') i (λ j b m q. s.kept m (r.state.rooted j b m q)) (λ m q. rw (root_is m q) s.root_done);
    }
    root_found seen' next' path' order' (Err (from, to)) c = circled_more root_reached c

-- between two roots
pub record Rooting (mentions ends made roots : List ℕ) (n : ℕ) (seen next path order : List ℕ) (done i : ℕ) : Type 0 where
  pub within : i ≤ length roots
  pub path_long : length path ≡ n
  pub state : Rooted mentions ends made roots n seen next order done i

pub asked_lengths : {mentions ends made roots seen next path order : List ℕ} → SortAsked mentions ends made roots seen next path order → (length seen ≡ length order) × (length next ≡ length order)
asked_lengths {order} r = (ap length r.unseen ∙ length_zeros (length order), ap length r.unpassed ∙ length_zeros (length order))

pub roots_begin : {mentions ends made roots seen next path order : List ℕ} → SortAsked mentions ends made roots seen next path order
    → Rooting mentions ends made roots (length order) seen next path order 0 0
roots_begin {seen} {next} {order} r =
    let n : ℕ = length order in
    record {
      within = omega arith;
      path_long = r.path_long;
      state = record {
        visited = record {
          done_in = omega arith;
          next_long = (asked_lengths r).1;
          order_long = refl;
          walk = walk_none (asked_lengths r).0 (λ s b. ap (λ (l : List ℕ). get_or l s 0) r.unseen ∙ get_or_zeros n s);
          passed = λ s b. (
              let z : get_or next s 0 ≡ 0 = ap (λ (l : List ℕ). get_or l s 0) r.unpassed ∙ get_or_zeros n s in
              record { within = rw z (omega arith); passed = λ j c m e. absurd (omega arith) }
              );
        };
        rooted = λ j b m e. absurd (omega arith);
      };
    }

module _ {mentions ends made roots : List ℕ} {n : ℕ} {seen next path order : List ℕ} {done i : ℕ}
    (sound : SoundColumns n mentions ends made) (files : FilesMade n roots made) (r : Rooting mentions ends made roots n seen next path order done i) where
  pub roots_ask : i < length roots → RootAsked mentions ends made roots i seen next path order done
  roots_ask b =
      let e : length order ≡ n = r.state.visited.order_long in
      record { sound = rw e sound; files = rw e files; state = rw e r.state; path_long = rw e r.path_long; one_more = b }

  -- what a walk says with the length of `order`, it says with n
  told : (seen' next' path' order' : List ℕ) {o : Result ℕ (ℕ × ℕ)} {w : Result ℕ (ℕ × ℕ)} → RootSeen mentions ends made roots (length order) (i + 1) seen' next' path' order' o → o ≡ w
      → RootSeen mentions ends made roots n (i + 1) seen' next' path' order' w
  told seen' next' path' order' s e = rw (r.state.visited.order_long, e) at s

  pub roots_more : (seen' next' path' order' : List ℕ) {o : Result ℕ (ℕ × ℕ)} {k : ℕ} → i < length roots → RootSeen mentions ends made roots (length order) (i + 1) seen' next' path' order' o → o ≡ Ok k
      → length path' ≡ length path → Rooting mentions ends made roots n seen' next' path' order' k (i + 1)
  unfolding RootSeen
  roots_more seen' next' path' order' b s e l = record { within = omega arith; path_long = l ∙ r.path_long; state = told seen' next' path' order' s e }

  pub roots_circle : (seen' next' path' order' : List ℕ) {o : Result ℕ (ℕ × ℕ)} {from to : ℕ} → RootSeen mentions ends made roots (length order) (i + 1) seen' next' path' order' o → o ≡ Err (from, to)
      → Circled (before_in mentions ends made) (In (needed_in mentions ends made n roots)) path' from to
  unfolding RootSeen needed_in
  roots_circle seen' next' path' order' s e = circled_more (λ x h. reach_complete before n start (before_small sound) (makers_small files) h) (told seen' next' path' order' s e)
    where
      before : ℕ → List ℕ
      before = before_in mentions ends made

      start : List ℕ
      start = makers_in made roots

  pub roots_end : length roots ≤ i → OrderFound mentions ends made roots n order done
  unfolding needed_in
  roots_end b = record {
    within = r.state.visited.done_in;
    in_order = record {
      lists = record {
        each = reach_least (before_in mentions ends made) n (makers_in made roots) (In (take done order))
            (λ s h. let (j, c, e) = in_makers_in made roots h in r.state.rooted j (omega (arith, r.within)) s e)
            (λ s h m k. let (j, c, e) = place h in in_take j (take done order) (w.ordered j c m (rw e k)));
        once = w.done_once;
        no_others = λ s h. reach_complete (before_in mentions ends made) n (makers_in made roots) (before_small sound) (makers_small files) (w.done_wanted s h);
      };
      after = λ j c m h v. w.ordered j c m h;
    };
  }
    where
      w : Walk (before_in mentions ends made) n (Reached (before_in mentions ends made) (makers_in made roots)) seen [] (take done order)
      w = r.state.visited.walk
