-- Orders, circles and least lists of the same steps with the same steps before them, said in another way.
use Rattle.std.specs.Prelude.{◌↔◌, List, ℕ, suc, get_or}
use Rattle.std.proofs.Common.{arith}
use Rattle.lists.specs.Members.{in_at}
use Rattle.orders.specs.Order.{Lists, IsOrder, Ready, IsLeast, IsCircle}

pub lists_as : {Want Want' : ℕ → Type 0} → ((s : ℕ) → Want s ↔ Want' s) → {l : List ℕ} → Lists Want l → Lists Want' l
lists_as same o =
    record { each = λ s w. o.each s ((same s).1 w); once = o.once; no_others = λ s h. (same s).0 (o.no_others s h) }

module _ {Want Want' : ℕ → Type 0} {Before Before' : ℕ → ℕ → Type 0} (same : (s : ℕ) → Want s ↔ Want' s)
    (alike : (s : ℕ) → Want s → (m : ℕ) → Before m s ↔ Before' m s) where
  pub order_as : {l : List ℕ} → IsOrder Want Before l → IsOrder Want' Before' l
  order_as {l} o = record {
    lists = lists_as same o.lists;
    after = λ i b m p w. o.after i b m ((alike (get_or l i 0) (o.lists.no_others (get_or l i 0) (in_at l i b)) m).1 p) ((same m).1 w);
  }

  ready_as : {l : List ℕ} {s : ℕ} → Ready Want Before l s → Ready Want' Before' l s
  ready_as {l} {s} r =
      record { wanted = (same s).0 r.wanted; new = r.new; after = λ m p w. r.after m ((alike s r.wanted m).1 p) ((same m).1 w) }

  ready_back : {l : List ℕ} {s : ℕ} → Ready Want' Before' l s → Ready Want Before l s
  ready_back {l} {s} r =
      let w = (same s).1 r.wanted in
      record { wanted = w; new = r.new; after = λ m p v. r.after m ((alike s w m).0 p) ((same m).0 v) }

  pub least_as : {l : List ℕ} → IsLeast Want Before l → IsLeast Want' Before' l
  least_as o = record {
    lists = lists_as same o.lists;
    lowest = λ i b. record { ready = ready_as (o.lowest i b).ready; least = λ t r. (o.lowest i b).least t (ready_back r) };
  }

  pub circle_as : {c : List ℕ} → IsCircle Want Before c → IsCircle Want' Before' c
  circle_as {c} o = record {
    one_or_more = o.one_or_more;
    wanted = λ s h. (same s).0 (o.wanted s h);
    next = λ i b. (alike (get_or c i 0) (o.wanted (get_or c i 0) (in_at c i (omega arith))) (get_or c (suc i) 0)).0 (o.next i b);
    last = λ i e. (alike (get_or c i 0) (o.wanted (get_or c i 0) (in_at c i (omega arith))) (get_or c 0 0)).0 (o.last i e);
    once = o.once;
  }
