-- The loop that lists the pending steps.
use Rattle.std.specs.Prelude.{Option, Some, None}
use Prim.Native.Nat.{ℕ, ◌+◌, ◌≤◌, ◌<◌}
use native.Mathlib.Numerals.{add-one}
use native.Mathlib.Decide.{dec_lt, ℕ_discrete}
use native.Mathlib.Omega.{arith}
use mathlib.Core.Path.{◌≡◌, refl, sym, ap, ◌∙◌}
use mathlib.Core.Logic.{inl, inr}
use mathlib.Core.List.{List, [], ◌∷◌, ◌++◌, append-nil}
use lib.Dec.{eqb}
use lib.ListN.{length, get_or, take, set, length-set, length-append, get_or-eq_default}
use lib.Seq.{take-suc-set, length-take-le, drop-length, get_or-set_same, get_or-set_other}
use borrow.Author.Tests.{eqb-true, eq-eqb}
use Rattle.lists.specs.Fill.{zeroed, get_or_zeros, length_zeros}
use Rattle.lists.specs.Members.{◌∈◌, ◌∉◌, Each, Rising, up_to, in_keep, keep_in, in_up_to, up_to_in, rising_keep, rising_up_to, in_snoc, in_left, in_right, here, place, dec_in, each_nil, each_snoc, once_below, not_in_nil}
use Rattle.orders.specs.Order.{Ready, Lowest}
use Rattle.orders.specs.Greedy.{In, By}
use Rattle.orders.specs.GreedyLaws.{lowest_greedy}
use Rattle.orders.specs.Reach.{upstream, in_upstream}
use Rattle.spec.specs.Promises.{filled}
use Rattle.hold_columns.specs.Columns.{before_in, Shown}
use Rattle.hold_columns.proofs.Held.{before_small}
use Rattle.graph_list.specs.Listing.{marked, Unblocked, ClearSteps, NextReady, ReadyFound, PassAsked, ReadyPassed, ListAsked, least_in}

-- the marked steps

pub in_marked : (n : ℕ) (marks : List ℕ) {s : ℕ} → s ∈ marked n marks → (s < n) × (get_or marks s 0 ≡ 1)
unfolding marked
in_marked n marks {s} h = let (a, b) = in_keep (λ k. eqb (get_or marks k 0) 1) (up_to n) h in (in_up_to n a, eqb-true (get_or marks s 0) 1 b)

pub marked_in : (n : ℕ) (marks : List ℕ) {s : ℕ} → s < n → get_or marks s 0 ≡ 1 → s ∈ marked n marks
unfolding marked
marked_in n marks {s} b e = keep_in (λ k. eqb (get_or marks k 0) 1) (up_to n) (up_to_in n b) (eq-eqb (get_or marks s 0) 1 e)

pub rising_marked : (n : ℕ) (marks : List ℕ) → Rising (marked n marks)
unfolding marked
rising_marked n marks = rising_keep (λ k. eqb (get_or marks k 0) 1) (up_to n) (rising_up_to n)

mark_low : (marks : List ℕ) {s : ℕ} → get_or marks s 0 ≡ 1 → s < length marks
mark_low marks {s} e = elim (dec_lt s (length marks)) [ yes b ↦ b | no b ↦ absurd (omega (arith, get_or-eq_default marks 0 {n = s} (omega arith))) ]

-- the steps to list, and what is upstream of what

abbrev pub Pending : List ℕ → ℕ → Type 0
Pending marks = In (marked (length marks) marks)

abbrev pub Up : List ℕ → List ℕ → List ℕ → List ℕ → ℕ → ℕ → Type 0
Up mentions ends made marks = By (upstream (before_in mentions ends made) (length marks))

-- so many steps are listed
pub record Listing (mentions ends made order first lent pending clear list : List ℕ) (count : ℕ) : Type 0 where
  pub pending_long : length pending ≡ length first
  pub clear_long : length clear ≡ length first
  pub list_long : length list ≡ length lent
  pub count_in : count ≤ length first
  pub clear_now : ClearSteps (before_in mentions ends made) pending clear
  pub left : (u : ℕ) → get_or pending u 0 ≡ 1 → (get_or first u 0 ≡ 1) × (u ∉ take count list)
  pub still : (u : ℕ) → get_or first u 0 ≡ 1 → u ∉ take count list → get_or pending u 0 ≡ 1
  pub lowest : Each (Lowest (Pending first) (Up mentions ends made first)) (take count list)

module _ {mentions ends made order pending clear list : List ℕ} (q : ListAsked mentions ends made order pending clear list) where
  pub list_ask : PassAsked mentions ends made order pending clear
  list_ask = record {
    sound = q.sound;
    sorted = q.sorted;
    steps = q.steps;
    long = ap length q.unclear ∙ length_zeros (length pending);
    clear_now = λ s h. absurd (omega (arith, sym h ∙ ap (λ (l : List ℕ). get_or l s 0) q.unclear ∙ get_or_zeros (length pending) s));
  }

  pub list_begin : Listing mentions ends made order pending list pending clear list 0
  list_begin = record {
    pending_long = refl;
    clear_long = list_ask.long;
    list_long = refl;
    count_in = omega arith;
    clear_now = list_ask.clear_now;
    left = λ u h. (h, not_in_nil);
    still = λ u h d. h;
    lowest = each_nil (Lowest (Pending pending) (Up mentions ends made pending));
  }

module _ {mentions ends made order first before_clear lent pending clear list : List ℕ} {count : ℕ} (q : ListAsked mentions ends made order first before_clear lent)
    (r : Listing mentions ends made order first lent pending clear list count) where
  pub list_again : PassAsked mentions ends made order pending clear
  list_again = record {
    sound = rw r.pending_long q.sound;
    sorted = q.sorted;
    steps = rw r.pending_long q.steps;
    long = r.clear_long ∙ sym r.pending_long;
    clear_now = r.clear_now;
  }

  list_count : length (take count list) ≡ count
  list_count = length-take-le count list (omega (arith, r.count_in, r.list_long, q.room))

  -- the ready steps are the pending ones with none upstream

  ready_of : (u : ℕ) → get_or pending u 0 ≡ 1 → Unblocked (before_in mentions ends made) pending u → Ready (Pending first) (Up mentions ends made first) (take count list) u
  ready_of u p free =
      let f : get_or first u 0 ≡ 1 = (r.left u p).0 in
      let b : u < length first = mark_low first f in
      record {
        wanted = marked_in (length first) first b f;
        new = (r.left u p).1;
        after = λ m h w. elim (dec_in m (take count list)) [
          | yes d ↦ d
          | no d ↦ absurd (free m ((in_upstream (before_in mentions ends made) (length first) (before_small q.sound) u b).0 h) (r.still m (in_marked (length first) first w).1 d))
        ];
      }

  of_ready : (u : ℕ) → Ready (Pending first) (Up mentions ends made first) (take count list) u → (get_or pending u 0 ≡ 1) × Unblocked (before_in mentions ends made) pending u
  of_ready u w =
      let (b, f) = in_marked (length first) first w.wanted in (
        r.still u f w.new,
        λ m h p.
            (r.left m p).1 (w.after m ((in_upstream (before_in mentions ends made) (length first) (before_small q.sound) u b).1 h) (marked_in (length first) first (mark_low first (r.left m p).0) (r.left m p).0)),
      )

  least_of : {n s : ℕ} → NextReady (before_in mentions ends made) pending order n s → (u : ℕ) → Ready (Pending first) (Up mentions ends made first) (take count list) u → s ≤ u
  least_of next u w = let (p, free) = of_ready u w in next.least u (q.inside u (r.left u p).0) p free

  -- s is the next
  module _ {exit : List ℕ} {o : Option ℕ} (passed : ReadyPassed mentions ends made order pending exit o) {s : ℕ} (found : o ≡ Some s) where
    next_is : NextReady (before_in mentions ends made) pending order (length pending) s × (s < length pending)
    unfolding ReadyFound
    next_is = rw found at passed.next

    pub next_low : s < length first
    next_low = rw r.pending_long at next_is.1

    lowest_is : Lowest (Pending first) (Up mentions ends made first) (take count list) s
    lowest_is = let (i, p, free) = next_is.0.found next_is.1 in record { ready = ready_of s p free; least = least_of next_is.0 }

    now_lowest : Each (Lowest (Pending first) (Up mentions ends made first)) (take count list ++ (s ∷ []))
    now_lowest = each_snoc (Lowest (Pending first) (Up mentions ends made first)) (take count list) s r.lowest lowest_is

    pub list_room : count < length first
    list_room =
        let l : List ℕ = take count list ++ (s ∷ []) in
        let c = once_below l (length first) (λ i c. (now_lowest i c).ready.new)
        (λ u h. let (i, c, e) = place h in rw e at (in_marked (length first) first (now_lowest i c).ready.wanted).0) in
        omega (arith, length-append (take count list) (s ∷ []), list_count)

    -- after s is listed
    listed_more : take (count + 1) (set list count s) ≡ take count list ++ (s ∷ [])
    listed_more = rw (add-one count) (take-suc-set list count s (omega (arith, list_room, q.room, r.list_long)))

    off : (u : ℕ) → get_or (set pending s 0) u 0 ≡ 1 → (u ≡ s → ⊥) × (get_or pending u 0 ≡ 1)
    off u h = elim (ℕ_discrete u s) [
      | yes e ↦ absurd (omega (arith, sym (get_or-set_same pending s 0 0 next_is.1) ∙ (rw e at h)))
      | no d ↦ (d, sym (get_or-set_other pending s u 0 0 d) ∙ h)
    ]

    pub list_more : Listing mentions ends made order first lent (set pending s 0) exit (set list count s) (count + 1)
    list_more =
        let e : length (set pending s 0) ≡ length first = simp length-set r.pending_long in
        record {
          pending_long = e;
          clear_long = passed.long ∙ r.pending_long;
          list_long = simp length-set r.list_long;
          count_in = omega (arith, list_room);
          clear_now = λ u h. (let (d, free) = passed.clear_now u h in (λ p. d (off u p).1, λ m w p. free m w (off m p).1));
          left = λ u h. (
              let (d, w) = off u h in
              let (f, n) = r.left u w in
              (f, λ g. elim (in_snoc (take count list) (rw listed_more at g)) [ inl i ↦ n i | inr i ↦ d i ])
              );
          still = λ u f d. (
              let ne : u ≡ s → ⊥ = λ z. d (rw (listed_more, z) (in_right (take count list) (here refl))) in
              get_or-set_other pending s u 0 0 ne ∙ r.still u f (λ h. d (rw listed_more (in_left (s ∷ []) h)))
              );
          lowest = rw listed_more now_lowest;
        }

  -- nothing is ready
  module _ {exit : List ℕ} {o : Option ℕ} (passed : ReadyPassed mentions ends made order pending exit o) (none : o ≡ None) where
    next_none : NextReady (before_in mentions ends made) pending order (length pending) (length pending)
    unfolding ReadyFound
    next_none = rw none at passed.next

    listed_all : take count list ≡ least_in mentions ends made first
    unfolding least_in
    listed_all = lowest_greedy (marked (length first) first) (upstream (before_in mentions ends made) (length first)) (rising_marked (length first) first) (take count list) r.lowest
        (λ u w. let c = (in_marked (length first) first w.wanted).0 in absurd (omega (arith, least_of next_none u w, r.pending_long)))

    pub list_end : Shown (least_in mentions ends made first) lent count (zeroed list count (length list))
    unfolding zeroed filled
    list_end = record {
      counted = sym (sym (ap length listed_all) ∙ list_count);
      shown = rw (← listed_all, list_count, ← r.list_long, drop-length list, append-nil);
    }
