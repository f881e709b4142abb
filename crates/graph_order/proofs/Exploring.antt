-- The loop that walks from one step: its state, and what each turn makes of it.
use Prim.Native.Nat.{ℕ, suc, ◌+◌, ◌-◌, ◌≤◌, ◌<◌}
use native.Mathlib.Numerals.{add-one}
use native.Mathlib.Decide.{dec_lt, ℕ_discrete}
use native.Mathlib.Omega.{arith}
use mathlib.Core.Path.{◌≡◌, refl, sym, ap, ◌∙◌}
use mathlib.Core.Logic.{◌⊎◌, inl, inr}
use mathlib.Core.List.{List, [], ◌∷◌, ◌++◌}
use lib.ListN.{length, get_or, take, set, length-set}
use lib.Seq.{take-suc, take-suc-set, get_or-take, get_or-set_same, get_or-set_other, length-take-le}
use Rattle.lists.specs.Members.{◌∈◌, ◌∉◌, ◌⊆◌, here, there, in_left, in_right, in_snoc, at_before, place_before, not_in_nil}
use Rattle.orders.specs.Reach.{direct, Reached, upstream_more}
use Rattle.spec.specs.Limits.{max_steps, max_mentions}
use Rattle.hold_columns.specs.Columns.{outs_end, order_only_end, end_at, maker_at, inputs_in, before_in, SoundColumns, FilesMade}
use Rattle.hold_columns.proofs.Makers.{in_makers_in, makers_in_in, maker_low}
use Rattle.hold_columns.proofs.Held.{part_files, part_few}
use Rattle.graph_order.specs.Walk.{Walk, InputsPassed, OpenInput, Settled, Circled, Starts, Finds}
use Rattle.graph_order.proofs.Walk.{two_done, one_path_law, not_two, not_one, walk_push, walk_pop, path_room, done_room, walk_circle}

finds_before : (n : ℕ) (l : List ℕ) (x j : ℕ) → Finds l x j → x ∈ take n l → j < n
finds_before n l x j f h = let (i, a, b, e) = place_before n l h in elim (dec_lt i j) [ yes c ↦ absurd (f.first i c e) | no c ↦ omega arith ]

-- a walk among wanted steps is one among any that hold them
pub walk_more : {before : ℕ → List ℕ} {n : ℕ} {Want More : ℕ → Type 0} {seen path done : List ℕ} → ((s : ℕ) → Want s → More s) → Walk before n Want seen path done → Walk before n More seen path done
walk_more f w = record {
  long = w.long;
  marks = w.marks;
  path_low = w.path_low;
  path_once = w.path_once;
  path_wanted = λ s h. f s (w.path_wanted s h);
  linked = w.linked;
  done_low = w.done_low;
  done_once = w.done_once;
  done_wanted = λ s h. f s (w.done_wanted s h);
  ordered = w.ordered;
  apart = w.apart;
}

reached_more : {before : ℕ → List ℕ} {start : List ℕ} {s m : ℕ} → Reached before start s → m ∈ before s → Reached before start m
reached_more {s} (inl h) i = inr (s, h, direct i)
reached_more (inr (t, h, u)) i = inr (t, h, upstream_more i u)

pub record Exploring (mentions ends made : List ℕ) (n : ℕ) (old : List ℕ) (root : ℕ) (seen next path order : List ℕ) (depth done : ℕ) : Type 0 where
  pub depth_in : depth ≤ n
  pub done_in : done ≤ n
  pub next_long : length next ≡ n
  pub path_long : length path ≡ n
  pub order_long : length order ≡ n
  pub walk : Walk (before_in mentions ends made) n (Reached (before_in mentions ends made) (root ∷ old)) seen (take depth path) (take done order)
  pub passed : (s : ℕ) → s < n → InputsPassed mentions ends made next (take done order) s
  pub kept : old ⊆ take done order
  pub root_seen : (root ∈ take depth path) ⊎ (root ∈ take done order)

pub explore_begin : {mentions ends made seen next path order : List ℕ} {root done : ℕ} → Starts mentions ends made seen next path order root done
    → Exploring mentions ends made (length order) (take done order) root (set seen root 1) next (set path 0 root) order 1 done
explore_begin {seen} {path} {order} {root} {done} r =
    let v = r.visited in
    let e : take 1 (set path 0 root) ≡ root ∷ [] = take-suc-set path 0 root (omega (arith, r.path_long, r.root_low)) in
    record {
      depth_in = omega (arith, r.root_low);
      done_in = v.done_in;
      next_long = v.next_long;
      path_long = simp length-set r.path_long;
      order_long = v.order_long;
      walk = rw e (walk_push (walk_more (λ s h. inl (there h)) v.walk) root r.root_low (inl (here refl)) not_in_nil
          (not_two [] (take done order) root (λ q. absurd (omega (arith, v.walk.marks root r.root_low, r.unseen)))) (λ i q. absurd (omega arith)));
      passed = v.passed;
      kept = λ s h. h;
      root_seen = inl (rw e (here refl));
    }

-- a turn: s is the last step of the path, and place i of its inputs is the first from `from` on whose maker is not done
pub record Turn (mentions ends made : List ℕ) (n : ℕ) (old : List ℕ) (root : ℕ) (seen next path order : List ℕ) (depth done s : ℕ) (fs : List ℕ) (from i : ℕ) : Type 0 where
  pub sound : SoundColumns n mentions ends made
  pub state : Exploring mentions ends made n old root seen next path order depth done
  pub deep : 0 < depth
  pub last : s ≡ get_or path (depth - 1) 0
  pub inputs : fs ≡ inputs_in mentions ends s
  pub start : from ≡ get_or next s 0
  pub opens : OpenInput fs made seen from i

-- what the indices and the lengths of a turn are
pub record Numbers (n : ℕ) (seen next path order : List ℕ) (depth done s i : ℕ) : Type 0 where
  pub few : n ≤ max_steps
  pub seen_long : length seen ≡ n
  pub next_long : length next ≡ n
  pub path_long : length path ≡ n
  pub order_long : length order ≡ n
  pub depth_in : depth ≤ n
  pub done_in : done ≤ n
  pub step_low : s < n
  pub place_low : i ≤ max_mentions

-- the last step of the path, and its inputs
module _ {mentions ends made : List ℕ} {n : ℕ} {old : List ℕ} {root : ℕ} {seen next path order : List ℕ} {depth done : ℕ}
    (r : Exploring mentions ends made n old root seen next path order depth done) (b : 0 < depth) {s : ℕ} (e : s ≡ get_or path (depth - 1) 0) where
  top_in : s ∈ take depth path
  top_in = rw e (at_before path depth (depth - 1) (omega arith) (omega (arith, r.path_long, r.depth_in)))

  pub top_low : s < n
  top_low = r.walk.path_low s top_in

  module _ (sound : SoundColumns n mentions ends made) {fs : List ℕ} (q : fs ≡ inputs_in mentions ends s) where
    pub top_files : FilesMade n fs made
    unfolding inputs_in
    top_files = rw q (part_files sound (end_at ends _ outs_end) (end_at ends _ order_only_end))

    pub top_start : {from : ℕ} → from ≡ get_or next s 0 → from ≤ length fs
    top_start z = rw (z, q) (r.passed s top_low).within

module _ {mentions ends made : List ℕ} {n : ℕ} {old : List ℕ} {root : ℕ} {seen next path order : List ℕ} {depth done s : ℕ} {fs : List ℕ} {from i : ℕ}
    (t : Turn mentions ends made n old root seen next path order depth done s fs from i) where
  r : Exploring mentions ends made n old root seen next path order depth done
  r = t.state

  e : s ≡ get_or path (depth - 1) 0
  e = t.last

  q : fs ≡ inputs_in mentions ends s
  q = t.inputs

  o : OpenInput fs made seen (get_or next s 0) i
  o = rw t.start at t.opens

  files : FilesMade n fs made
  files = top_files r t.deep e t.sound q

  is_top : s ∈ take depth path
  is_top = top_in r t.deep e

  low : s < n
  low = r.walk.path_low s is_top

  path_length : length (take depth path) ≡ depth
  path_length = length-take-le depth path (omega (arith, r.path_long, r.depth_in))

  -- the last step of the path stands last
  last_is : {m : ℕ} → m ∈ before_in mentions ends made s → (j : ℕ) → suc j ≡ length (take depth path) → m ∈ before_in mentions ends made (get_or (take depth path) j 0)
  last_is {m} h j p =
      let d : j ≡ depth - 1 = omega (arith, path_length) in
      rw (d, get_or-take depth path (depth - 1) 0 (omega (arith, t.deep)), ← e) h

  split_path : take depth path ≡ take (depth - 1) path ++ (s ∷ [])
  split_path =
      let d : depth ≡ suc (depth - 1) = omega (arith, t.deep) in
      ap (λ (k : ℕ). take k path) d ∙ take-suc path (depth - 1) 0 (omega (arith, t.deep, r.path_long, r.depth_in)) ∙ rw (← e)

  -- the makers of the inputs up to place i are done
  over_done : (j : ℕ) → j < i → (m : ℕ) → maker_at made fs j ≡ suc m → m ∈ take done order
  over_done j c m k = elim (dec_lt j (get_or next s 0)) [
    | yes d ↦ (r.passed s low).passed j d m (rw q at k)
    | no d ↦ (
        let b : suc m ≤ n = maker_low files {i = j} (omega (arith, o.within)) (sym k) in
        two_done (take depth path) (take done order) m (sym (r.walk.marks m b) ∙ o.over j (omega arith) c m k)
        )
  ]

  passed_more : (u : ℕ) → u < n → InputsPassed mentions ends made (set next s i) (take done order) u
  passed_more u c = elim (ℕ_discrete u s) [
    | yes d ↦ (
        let g : get_or (set next s i) u 0 ≡ i = rw d (get_or-set_same next s i 0 (omega (arith, low, r.next_long))) in
        record {
          within = rw (g, d, ← q) o.within;
          passed = λ j p m k. over_done j (rw g at p) m (rw (d, ← q) at k);
        }
        )
    | no d ↦ (
        let g : get_or (set next s i) u 0 ≡ get_or next u 0 = get_or-set_other next s u i 0 d in
        let v = r.passed u c in
        record { within = rw g v.within; passed = λ j p m k. v.passed j (rw g at p) m k }
        )
  ]

  pub numbers : Numbers n seen next path order depth done s i
  unfolding inputs_in
  numbers = record {
    few = t.sound.few_steps;
    seen_long = r.walk.long;
    next_long = r.next_long;
    path_long = r.path_long;
    order_long = r.order_long;
    depth_in = r.depth_in;
    done_in = r.done_in;
    step_low = low;
    place_low = omega (arith, o.within, ap length q, part_few t.sound (end_at ends s outs_end) (end_at ends s order_only_end));
  }

  -- the maker k of the input at place i
  module _ (c : i < length fs) {k : ℕ} (g : k ≡ maker_at made fs i) where
    pub open_maker : k ≡ suc (k - 1)
    open_maker = let p = o.made_there c in omega arith

    pub open_low : k - 1 < n
    open_low = let p = maker_low files {i = i} c g in omega (arith, open_maker)

    pub open_before : k - 1 ∈ before_in mentions ends made s
    unfolding before_in
    open_before = rw (← q) (makers_in_in made fs i c (sym g ∙ open_maker))

    open_new : k - 1 ∉ take done order
    open_new = not_two (take depth path) (take done order) (k - 1) (λ p. o.not_done c (rw (← g) (r.walk.marks (k - 1) open_low ∙ p)))

    module _ {v : ℕ} (h : v ≡ get_or seen (k - 1) 0) where
      open_unseen : (v ≡ 1 → ⊥) → k - 1 ∉ take depth path
      open_unseen d = not_one (take depth path) (take done order) (k - 1) open_new (λ p. d (h ∙ r.walk.marks (k - 1) open_low ∙ p))

      pub push_room : (v ≡ 1 → ⊥) → depth < n
      push_room d =
          let p = path_room r.walk (k - 1) open_low (open_unseen d) in
          omega (arith, length-take-le depth path (omega (arith, r.path_long, r.depth_in)))

      pub explore_push : (v ≡ 1 → ⊥) → Exploring mentions ends made n old root (set seen (k - 1) 1) (set next s i) (set path depth (k - 1)) order (depth + 1) done
      explore_push d =
          let p : take (depth + 1) (set path depth (k - 1)) ≡ take depth path ++ ((k - 1) ∷ []) =
          ap (λ (z : ℕ). take z (set path depth (k - 1))) (add-one depth) ∙ take-suc-set path depth (k - 1) (omega (arith, push_room d, r.path_long)) in
          record {
            depth_in = omega (arith, push_room d);
            done_in = r.done_in;
            next_long = simp length-set r.next_long;
            path_long = simp length-set r.path_long;
            order_long = r.order_long;
            walk = rw p (walk_push r.walk (k - 1) open_low (reached_more (r.walk.path_wanted s is_top) open_before) (open_unseen d) open_new (last_is open_before));
            passed = passed_more;
            kept = r.kept;
            root_seen = elim r.root_seen [ inl a ↦ inl (rw p (in_left ((k - 1) ∷ []) a)) | inr a ↦ inr a ];
          }

      -- the maker is on the path, at place j
      pub explore_circle : v ≡ 1 → {j : ℕ} → Finds path (k - 1) j
          → Circled (before_in mentions ends made) (Reached (before_in mentions ends made) (root ∷ old)) path j depth
      explore_circle d {j} f =
          let on : k - 1 ∈ take depth path = one_path_law (take depth path) (take done order) (k - 1) (sym (r.walk.marks (k - 1) open_low) ∙ sym h ∙ d) in
          let near = finds_before depth path (k - 1) j f on in
          record {
            within = omega (arith, r.path_long, r.depth_in);
            circle = walk_circle r.walk (k - 1) j (omega (arith, near, length-take-le depth path (omega (arith, r.path_long, r.depth_in))))
                (get_or-take depth path j 0 near ∙ f.found (omega (arith, near, r.path_long, r.depth_in))) (last_is open_before);
          }

  -- no input is left
  module _ (c : length fs ≤ i) where
    all_done : (m : ℕ) → m ∈ before_in mentions ends made s → m ∈ take done order
    unfolding before_in
    all_done m h = let (j, p, k) = in_makers_in made fs {m = m} (rw q h) in over_done j (omega arith) m k

    pub pop_room : done < n
    pop_room = let p = done_room r.walk s is_top in omega (arith, length-take-le done order (omega (arith, r.order_long, r.done_in)))

    pub explore_pop : Exploring mentions ends made n old root (set seen s 2) (set next s i) path (set order done s) (depth - 1) (done + 1)
    explore_pop =
        let p : take (done + 1) (set order done s) ≡ take done order ++ (s ∷ []) =
        ap (λ (z : ℕ). take z (set order done s)) (add-one done) ∙ take-suc-set order done s (omega (arith, pop_room, r.order_long)) in
        record {
          depth_in = omega (arith, r.depth_in);
          done_in = omega (arith, pop_room);
          next_long = simp length-set r.next_long;
          path_long = r.path_long;
          order_long = simp length-set r.order_long;
          walk = rw p (walk_pop (take (depth - 1) path) s (rw split_path at r.walk) all_done);
          passed = λ t z. (let v = passed_more t z in record { within = v.within; passed = λ j a m k. rw p (in_left (s ∷ []) (v.passed j a m k)) });
          kept = λ t h. rw p (in_left (s ∷ []) (r.kept t h));
          root_seen = elim r.root_seen [
            | inl a ↦ elim (in_snoc (take (depth - 1) path) (rw split_path at a)) [
              | inl z ↦ inl z
              | inr z ↦ inr (rw (p, z) (in_right (take done order) (here refl)))
            ]
            | inr a ↦ inr (rw p (in_left (s ∷ []) a))
          ];
        }

pub explore_end : {mentions ends made : List ℕ} {n : ℕ} {old : List ℕ} {root : ℕ} {seen next path order : List ℕ} {depth done : ℕ}
    → Exploring mentions ends made n old root seen next path order depth done → depth ≤ 0 → Settled mentions ends made n old root seen next order done
explore_end {path} {depth} r b =
    let z : depth ≡ 0 = omega arith in
    let e : take depth path ≡ [] = rw z in
    record {
      visited = record { done_in = r.done_in; next_long = r.next_long; order_long = r.order_long; walk = rw e at r.walk; passed = r.passed };
      kept = r.kept;
      root_done = elim r.root_seen [ inl a ↦ absurd (not_in_nil (rw e at a)) | inr a ↦ a ];
    }
