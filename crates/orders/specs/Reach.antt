-- What is upstream of a step, the closure of a list of steps computed, and why steps upstream of one another have an order.
use Rattle.std.specs.Prelude.{◌≡◌, refl, ◌⊎◌, ◌↔◌, true, false, cond, ◌||◌, length, get_or, take}
use Rattle.std.proofs.Math.Logic.{inl, inr}
use mathlib.Core.List.{List, [], ◌∷◌}
use Prim.Native.Nat.{ℕ, zero, suc, ◌+◌, ◌<◌}
use Rattle.std.proofs.Common.{arith}
use Rattle.lists.specs.Members.{◌∈◌, ◌∉◌, here, there, Once, Rising, ◌⊆◌, has, keep, up_to, in_cons, not_in_nil, in_at, place_before, in_take_more}
use Rattle.lists.specs.Members.{has_true, has_false, in_has, in_keep, keep_in, in_up_to, up_to_in, each_nil, once_head, once_tail, once_cons, once_below, rising_keep, rising_up_to}
use Rattle.lists.specs.Tests.{split, or_left, or_right, or_true}
use Rattle.orders.specs.Order.{IsOrder, no_descent}
use Rattle.orders.specs.Greedy.{In, By, greedy, whole, blocker}
use Rattle.orders.specs.GreedyLaws.{Lacking, blocked, whole_false}

-- m is before s, or before what comes before s: in document 01's graph that is "upstream" (`Words.Upstream` of spec)
pub data ComesBefore (before : ℕ → List ℕ) (m : ℕ) : ℕ → Type 0 where
  direct : {s : ℕ} → m ∈ before s → ComesBefore before m s
  further : {k s : ℕ} → ComesBefore before m k → k ∈ before s → ComesBefore before m s

-- what is before a step of the set is in the set
abbrev pub Closed : (ℕ → List ℕ) → (ℕ → Type 0) → Type 0
Closed before P = (s : ℕ) → P s → (m : ℕ) → m ∈ before s → P m

-- ys, and in front of it what of xs is neither in l nor in it
unfoldable pub fresh : List ℕ → List ℕ → List ℕ → List ℕ
fresh [] l ys = ys
fresh (x ∷ xs) l ys = let r = fresh xs l ys in cond (has x l || has x r) r (x ∷ r)

-- l, and what ys leads to outside l, in at most as many turns as the number says
unfoldable pub spread : (ℕ → List ℕ) → ℕ → List ℕ → List ℕ → List ℕ
spread before zero l ys = l
spread before (suc k) l [] = l
spread before (suc k) l (y ∷ ys) = spread before k (y ∷ l) (fresh (before y) (y ∷ l) ys)

unfoldable pub sorted : ℕ → List ℕ → List ℕ
sorted n l = keep (λ s. has s l) (up_to n)

-- the least closed set that holds start, of the steps below n
unfoldable pub reach : (ℕ → List ℕ) → ℕ → List ℕ → List ℕ
unfolding has keep up_to fresh spread sorted
reach before n start = sorted n (spread before n [] (fresh start [] []))

unfoldable pub upstream : (ℕ → List ℕ) → ℕ → ℕ → List ℕ
unfolding reach
upstream before n s = reach before n (before s)

pub in_sorted : (n : ℕ) (l : List ℕ) {x : ℕ} → x ∈ sorted n l → x ∈ l
unfolding sorted
in_sorted n l {x} h = has_true x l (in_keep (λ s. has s l) (up_to n) h).1

pub sorted_low : (n : ℕ) (l : List ℕ) {x : ℕ} → x ∈ sorted n l → x < n
unfolding sorted
sorted_low n l h = in_up_to n (in_keep (λ s. has s l) (up_to n) h).0

pub sorted_in : (n : ℕ) (l : List ℕ) {x : ℕ} → x ∈ l → x < n → x ∈ sorted n l
unfolding sorted
sorted_in n l h b = keep_in (λ s. has s l) (up_to n) (up_to_in n b) (in_has h)

pub rising_sorted : (n : ℕ) (l : List ℕ) → Rising (sorted n l)
unfolding sorted
rising_sorted n l = rising_keep (λ s. has s l) (up_to n) (rising_up_to n)

module _ (l ys : List ℕ) where
  in_fresh : (xs : List ℕ) {x : ℕ} → x ∈ fresh xs l ys → ((x ∈ xs) × (x ∉ l)) ⊎ (x ∈ ys)
  unfolding fresh
  in_fresh [] h = inr h
  in_fresh (z ∷ xs) {x} h =
      split (has z l || has z (fresh xs l ys))
      (λ (e : has z l || has z (fresh xs l ys) ≡ true). later (in_fresh xs (rw (e, fresh) at h)))
      (λ (e : has z l || has z (fresh xs l ys) ≡ false). elim (in_cons (rw (e, fresh) at h)) [
        | inl q ↦ inl (here q, rw q (has_false z l (or_left (has z l) (has z (fresh xs l ys)) e)))
        | inr k ↦ later (in_fresh xs k)
      ])
    where
      later : ((x ∈ xs) × (x ∉ l)) ⊎ (x ∈ ys) → ((x ∈ z ∷ xs) × (x ∉ l)) ⊎ (x ∈ ys)
      later (inl a) = inl (there a.0, a.1)
      later (inr b) = inr b

  fresh_keeps : (xs : List ℕ) → ys ⊆ fresh xs l ys
  unfolding fresh
  fresh_keeps [] x h = h
  fresh_keeps (z ∷ xs) x h =
      split (has z l || has z (fresh xs l ys))
      (λ (e : has z l || has z (fresh xs l ys) ≡ true). rw (e, fresh) (fresh_keeps xs x h))
      (λ (e : has z l || has z (fresh xs l ys) ≡ false). rw (e, fresh) (there (fresh_keeps xs x h)))

  fresh_in : (xs : List ℕ) {x : ℕ} → x ∈ xs → (x ∈ l) ⊎ (x ∈ fresh xs l ys)
  unfolding fresh
  fresh_in (z ∷ xs) {x} h =
      split (has z l || has z (fresh xs l ys))
      (λ (e : has z l || has z (fresh xs l ys) ≡ true). rw (e, fresh) (elim (in_cons h) [
        | inl q ↦ elim (or_true (has z l) (has z (fresh xs l ys)) e) [ inl a ↦ inl (rw q (has_true z l a)) | inr b ↦ inr (rw q (has_true z (fresh xs l ys) b)) ]
        | inr k ↦ fresh_in xs k
      ]))
      (λ (e : has z l || has z (fresh xs l ys) ≡ false). rw (e, fresh) (elim (in_cons h) [
        | inl q ↦ inr (here q)
        | inr k ↦ elim (fresh_in xs k) [ inl a ↦ inl a | inr b ↦ inr (there b) ]
      ]))
  fresh_in [] {x = x} h = elim h [ ]

  fresh_once : (xs : List ℕ) → Once ys → Once (fresh xs l ys)
  unfolding fresh
  fresh_once [] o = o
  fresh_once (z ∷ xs) o =
      split (has z l || has z (fresh xs l ys))
      (λ (e : has z l || has z (fresh xs l ys) ≡ true). rw (e, fresh) (fresh_once xs o))
      (λ (e : has z l || has z (fresh xs l ys) ≡ false). rw (e, fresh) (once_cons z (fresh xs l ys) (has_false z (fresh xs l ys) (or_right (has z l) (has z (fresh xs l ys)) e)) (fresh_once xs o)))

spread_least : (before : ℕ → List ℕ) (P : ℕ → Type 0) → Closed before P → (k : ℕ) (l ys : List ℕ)
    → ((x : ℕ) → x ∈ l → P x) → ((x : ℕ) → x ∈ ys → P x) → (x : ℕ) → x ∈ spread before k l ys → P x
unfolding spread
spread_least before P c zero l ys a b x h = a x h
spread_least before P c (suc k) l [] a b x h = a x h
spread_least before P c (suc k) l (y ∷ ys) a b x h = spread_least before P c k (y ∷ l) (fresh (before y) (y ∷ l) ys)
    (λ z m. elim (in_cons m) [ inl q ↦ rw q (b y (here refl)) | inr i ↦ a z i ])
    (λ z m. elim (in_fresh (y ∷ l) ys (before y) m) [ inl i ↦ c y (b y (here refl)) z i.0 | inr i ↦ b z (there i) ])
    x h

-- l and ys share nothing, hold start, and hold what is before the members of l
record Spread (before : ℕ → List ℕ) (n : ℕ) (start l ys : List ℕ) : Type 0 where
  once : Once l
  once_ys : Once ys
  apart : (x : ℕ) → x ∈ ys → x ∉ l
  low : (x : ℕ) → x ∈ l → x < n
  low_ys : (x : ℕ) → x ∈ ys → x < n
  starts : (x : ℕ) → x ∈ start → (x ∈ l) ⊎ (x ∈ ys)
  closed : (x : ℕ) → x ∈ l → (m : ℕ) → m ∈ before x → (m ∈ l) ⊎ (m ∈ ys)

module _ (before : ℕ → List ℕ) (n : ℕ) (start : List ℕ) (small : Closed before (λ s. s < n)) where
  turn : (l : List ℕ) (y : ℕ) (ys : List ℕ) → Spread before n start l (y ∷ ys) → Spread before n start (y ∷ l) (fresh (before y) (y ∷ l) ys)
  turn l y ys r = record {
    once = once_cons y l (r.apart y (here refl)) r.once;
    once_ys = fresh_once (y ∷ l) ys (before y) (once_tail y ys r.once_ys);
    apart = λ x h. elim (in_fresh (y ∷ l) ys (before y) h) [
      | inl a ↦ a.1
      | inr b ↦ λ k. elim (in_cons k) [ inl q ↦ once_head y ys r.once_ys (rw (← q) b) | inr i ↦ r.apart x (there b) i ]
    ];
    low = cons_low;
    low_ys = λ x h. elim (in_fresh (y ∷ l) ys (before y) h) [ inl a ↦ small y (cons_low y (here refl)) x a.0 | inr b ↦ r.low_ys x (there b) ];
    starts = λ x h. moved x (r.starts x h);
    closed = λ x h m k. elim (in_cons h) [ inl q ↦ fresh_in (y ∷ l) ys (before y) (rw q at k) | inr i ↦ moved m (r.closed x i m k) ];
  }
    where
      cons_low : (x : ℕ) → x ∈ y ∷ l → x < n
      cons_low x (here q) = rw q (r.low_ys y (here refl))
      cons_low x (there h) = r.low x h

      moved : (x : ℕ) → (x ∈ l) ⊎ (x ∈ y ∷ ys) → (x ∈ y ∷ l) ⊎ (x ∈ fresh (before y) (y ∷ l) ys)
      moved x (inl a) = inl (there a)
      moved x (inr (here q)) = inl (here q)
      moved x (inr (there h)) = inr (fresh_keeps (y ∷ l) ys (before y) x h)

  spread_ends : (k : ℕ) (l ys : List ℕ) → length l + k ≡ n → Spread before n start l ys → Spread before n start (spread before k l ys) []
  unfolding spread
  spread_ends zero l [] e r = r
  spread_ends zero l (y ∷ ys) e r =
      let t = turn l y ys r in
      absurd (omega (arith, once_below (y ∷ l) n t.once t.low))
  spread_ends (suc k) l [] e r = r
  spread_ends (suc k) l (y ∷ ys) e r = spread_ends k (y ∷ l) (fresh (before y) (y ∷ l) ys) (omega arith) (turn l y ys r)

-- `reach`

pub rising_reach : (before : ℕ → List ℕ) (n : ℕ) (start : List ℕ) → Rising (reach before n start)
unfolding reach
rising_reach before n start = rising_sorted n (spread before n [] (fresh start [] []))

pub reach_low : (before : ℕ → List ℕ) (n : ℕ) (start : List ℕ) {x : ℕ} → x ∈ reach before n start → x < n
unfolding reach
reach_low before n start h = sorted_low n (spread before n [] (fresh start [] [])) h

pub reach_least : (before : ℕ → List ℕ) (n : ℕ) (start : List ℕ) (P : ℕ → Type 0)
    → ((s : ℕ) → s ∈ start → P s) → Closed before P → (s : ℕ) → s ∈ reach before n start → P s
unfolding reach
reach_least before n start P a c s h = spread_least before P c n [] (fresh start [] []) (λ x i. absurd (not_in_nil i))
    (λ x i. elim (in_fresh [] [] start i) [ inl b ↦ a x b.0 | inr b ↦ absurd (not_in_nil b) ])
    s (in_sorted n (spread before n [] (fresh start [] [])) h)

module _ (before : ℕ → List ℕ) (n : ℕ) (start : List ℕ) (small : Closed before (λ s. s < n)) (low : (s : ℕ) → s ∈ start → s < n) where
  spread_done : Spread before n start (spread before n [] (fresh start [] [])) []
  spread_done = spread_ends before n start small n [] (fresh start [] []) (omega arith) (record {
    once = each_nil (λ earlier x. x ∉ earlier);
    once_ys = fresh_once [] [] start (each_nil (λ earlier x. x ∉ earlier));
    apart = λ x h i. not_in_nil i;
    low = λ x h. absurd (not_in_nil h);
    low_ys = λ x h. elim (in_fresh [] [] start h) [ inl b ↦ low x b.0 | inr b ↦ absurd (not_in_nil b) ];
    starts = λ x h. fresh_in [] [] start h;
    closed = λ x h. absurd (not_in_nil h);
  })

  pub reach_start : start ⊆ reach before n start
  unfolding reach
  reach_start s h = elim (spread_done.starts s h) [
    | inl a ↦ sorted_in n (spread before n [] (fresh start [] [])) a (low s h)
    | inr b ↦ absurd (not_in_nil b)
  ]

  pub reach_closed : Closed before (In (reach before n start))
  unfolding reach
  reach_closed s h m k =
      let r : List ℕ = spread before n [] (fresh start [] []) in
      let i : s ∈ r = in_sorted n r h in
      elim (spread_done.closed s i m k) [ inl a ↦ sorted_in n r a (spread_done.low m a) | inr b ↦ absurd (not_in_nil b) ]

pub upstream_more : {before : ℕ → List ℕ} {m k s : ℕ} → m ∈ before k → ComesBefore before k s → ComesBefore before m s
upstream_more h (direct i) = further (direct h) i
upstream_more h (further u i) = further (upstream_more h u) i

-- what is upstream of a step of a closed set is in the set
pub upstream_closed : {before : ℕ → List ℕ} {P : ℕ → Type 0} → Closed before P → {m s : ℕ} → ComesBefore before m s → P s → P m
upstream_closed c {m} {s} (direct h) p = c s p m h
upstream_closed c {m} {s} (further {k = k} u h) p = upstream_closed c u (c s p k h)

-- in start, or upstream of a step of start
abbrev pub Reached : (ℕ → List ℕ) → List ℕ → ℕ → Type 0
Reached before start x = (x ∈ start) ⊎ ((s : ℕ) × (s ∈ start) × ComesBefore before x s)

reached_closed : (before : ℕ → List ℕ) (start : List ℕ) → Closed before (Reached before start)
reached_closed before start k (inl h) m i = inr (k, h, direct i)
reached_closed before start k (inr (s, h, u)) m i = inr (s, h, upstream_more i u)

pub reach_sound : (before : ℕ → List ℕ) (n : ℕ) (start : List ℕ) {x : ℕ} → x ∈ reach before n start → Reached before start x
reach_sound before n start {x} h = reach_least before n start (Reached before start) (λ s i. inl i) (reached_closed before start) x h

module _ (before : ℕ → List ℕ) (n : ℕ) (start : List ℕ) (small : Closed before (λ s. s < n)) (low : (s : ℕ) → s ∈ start → s < n) where
  pub reach_complete : {x : ℕ} → Reached before start x → x ∈ reach before n start
  reach_complete {x} (inl h) = reach_start before n start small low x h
  reach_complete (inr (s, h, u)) = upstream_closed (reach_closed before n start small low) u (reach_start before n start small low s h)

pub upstream_sound : (before : ℕ → List ℕ) (n s : ℕ) {m : ℕ} → m ∈ upstream before n s → ComesBefore before m s
unfolding upstream
upstream_sound before n s h = elim (reach_sound before n (before s) h) [ inl i ↦ direct i | inr r ↦ further r.2 r.1 ]

pub in_upstream : (before : ℕ → List ℕ) (n : ℕ) → Closed before (λ s. s < n) → (s : ℕ) → s < n → {m : ℕ} → (m ∈ upstream before n s) ↔ ComesBefore before m s
unfolding upstream
in_upstream before n small s b {m} = (upstream_sound before n s, λ u. reach_complete before n (before s) small (small s b) (apart u))
  where
    apart : ComesBefore before m s → Reached before (before s) m
    apart (direct h) = inl h
    apart (further {k = k} u h) = inr (k, h, u)

-- Steps of an order, and what is upstream of them

module _ {Want : ℕ → Type 0} {before : ℕ → List ℕ} (closed : Closed before Want) {l : List ℕ} (o : IsOrder Want (By before) l) where
  pub direct_earlier : (i : ℕ) → i < length l → (m : ℕ) → m ∈ before (get_or l i 0) → m ∈ take i l
  direct_earlier i b m h = o.after i b m h (closed (get_or l i 0) (o.lists.no_others (get_or l i 0) (in_at l i b)) m h)

  -- in an order of a closed set, all that is upstream of a step comes earlier
  pub upstream_earlier : {m s : ℕ} → ComesBefore before m s → (i : ℕ) → i < length l → get_or l i 0 ≡ s → m ∈ take i l
  upstream_earlier {m} (direct h) i b e = direct_earlier i b m (rw e h)
  upstream_earlier (further {k = k} u h) i b e =
      let (j, p, q, d) = place_before i l (direct_earlier i b k (rw e h)) in
      in_take_more l j i (omega arith) (upstream_earlier u j q d)

  -- so steps of the set have an order in which each comes after any of them upstream of it
  pub upstream_whole : (want : List ℕ) (up : ℕ → List ℕ) → ((s : ℕ) → s ∈ want → Want s)
      → ((s : ℕ) → s ∈ want → (m : ℕ) → m ∈ up s → ComesBefore before m s) → whole want up ≡ true
  upstream_whole want up f g =
      split (whole want up)
      (λ (e : whole want up ≡ true). e)
      (λ (e : whole want up ≡ false). let (s, c) = whole_false want up e in absurd (no_descent (Lacking want (greedy want up)) l down (o.lists.each s (f s c.0)) c))
    where
      down : (i : ℕ) → i < length l → Lacking want (greedy want up) (get_or l i 0) → (m : ℕ) × (m ∈ take i l) × Lacking want (greedy want up) m
      down i b d =
          let m : ℕ = blocker want up (greedy want up) (get_or l i 0) in
          let (h, c) = blocked want up (get_or l i 0) d in
          (m, upstream_earlier (g (get_or l i 0) d.0 m h) i b refl, c)
