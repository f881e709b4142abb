-- The search among the sorted names: its number of compares, what it knows between two places, and its end.
use Prim.Native.Nat.{ℕ, zero, suc, ◌+◌, ◌*◌, ◌-◌, ◌/◌, ◌≤◌, ◌<◌}
use mathlib.Core.Bool.{true}
use mathlib.Core.List.{List}
use mathlib.Core.Logic.{inl, inr}
use mathlib.Core.Path.{◌≡◌, refl, sym, ◌∙◌, ap}
use native.Mathlib.Decide.{dec_lt}
use native.Mathlib.Nat.{not-suc-le-zero}
use native.Mathlib.Omega.{arith}
use borrow.Author.Tests.{lt-ltb, le-ltb}
use lib.ListN.{length, get_or}
use Rattle.lists.specs.Bytes.{less_bytes, less_trans}
use Rattle.lists.specs.Order.{order_bytes, order_less, order_equal, order_greater}
use Rattle.std.specs.declared.cmp.Ordering.{Ordering}
use Rattle.std.specs.declared.cmp.Ordering.TheVariants.{Less, Equal, Greater}
use Rattle.hold_names.specs.declared.Compared.{Compared}
use Rattle.hold_names.specs.declared.Compared.TheVariants.{Before, Same, Behind}
use Rattle.hold_names.specs.Table.{name_at, picked, Between, compared_of, on_order, halvings, HoldsNames, SoundNames, NamesFile, ComparesName, PicksNames, Halves}
use Rattle.hold_names.proofs.Lies.{holds_one}

-- Two answers that differ are never equal.
pub clash : {A : Type 0} → ◌≡◌ {A = ℕ} 0 1 → A
clash z = absurd (omega arith)

-- ---- what one compare tells

module _ (n : ℕ) {o : Ordering} where
  pub tell_before : o ≡ Less → Before n ≡ compared_of n o
  unfolding compared_of
  tell_before e = rw e

  pub tell_same : o ≡ Equal → Same n ≡ compared_of n o
  unfolding compared_of
  tell_same e = rw e

  pub tell_behind : o ≡ Greater → Behind n ≡ compared_of n o
  unfolding compared_of
  tell_behind e = rw e

-- One compare with the name that lies there.
pub compares_name : {names index : List ℕ} {count k : ℕ} {path n : List ℕ} {made : ℕ} {r : Compared} → NamesFile names index count k n → r ≡ compared_of (made + 1) (order_bytes path n)
    → ComparesName names index count k path made r
compares_name {path = path} {made = made} f e =
    record { answer = λ files h. e ∙ ap (λ (y : List ℕ). compared_of (made + 1) (order_bytes path y)) (f.answer files h) }

pub told_before : (n : ℕ) (o : Ordering) (m : ℕ) → Before m ≡ compared_of n o → (o ≡ Less) × (m ≡ n)
unfolding compared_of
told_before n Less m e = (refl, cc)
told_before n Equal m e = let q : Before m ≡ Same n = e in clash (cc)
told_before n Greater m e = let q : Before m ≡ Behind n = e in clash (cc)

pub told_same : (n : ℕ) (o : Ordering) (m : ℕ) → Same m ≡ compared_of n o → (o ≡ Equal) × (m ≡ n)
unfolding compared_of
told_same n Less m e = let q : Same m ≡ Before n = e in clash (cc)
told_same n Equal m e = (refl, cc)
told_same n Greater m e = let q : Same m ≡ Behind n = e in clash (cc)

pub told_behind : (n : ℕ) (o : Ordering) (m : ℕ) → Behind m ≡ compared_of n o → (o ≡ Greater) × (m ≡ n)
unfolding compared_of
told_behind n Less m e = let q : Behind m ≡ Before n = e in clash (cc)
told_behind n Equal m e = let q : Behind m ≡ Same n = e in clash (cc)
told_behind n Greater m e = (refl, cc)

-- ---- with how many names halving compares

-- so many names are told apart by so many compares
pub reach : ℕ → ℕ
reach zero = 0
reach (suc w) = suc (reach w + reach w)

module _ (files : List (List ℕ)) (pick : ℕ → ℕ) (path : List ℕ) (more : ℕ → ℕ) where
  abbrev runs : ℕ → ℕ → ℕ → ℕ
  runs f low high = halvings f files pick path more low high

  abbrev against : ℕ → Ordering
  against mid = order_bytes path (name_at files (pick mid))

  halvings_zero : (low high : ℕ) → runs 0 low high ≡ more low
  unfolding halvings
  halvings_zero low high = refl

  pub halvings_none : (f low high : ℕ) → high ≤ low → runs f low high ≡ more low
  unfolding halvings
  halvings_none zero low high h = refl
  halvings_none (suc f) low high h = rw (le-ltb low high h)

  abbrev middle : ℕ → ℕ → ℕ
  middle low high = low + (high - low) / 2

  pub halvings_lower : (f low high : ℕ) → high - low ≤ f → low < high → against (middle low high) ≡ Less → runs f low high ≡ suc (runs (f - 1) low (middle low high))
  unfolding halvings on_order
  halvings_lower zero low high a h e = absurd (omega arith)
  halvings_lower (suc f) low high a h e = let z : suc f - 1 ≡ f = omega arith in rw (lt-ltb low high h, e, z)

  pub halvings_same : (f low high : ℕ) → high - low ≤ f → low < high → against (middle low high) ≡ Equal → runs f low high ≡ 1
  unfolding halvings on_order
  halvings_same zero low high a h e = absurd (omega arith)
  halvings_same (suc f) low high a h e = rw (lt-ltb low high h, e)

  pub halvings_higher : (f low high : ℕ) → high - low ≤ f → low < high → against (middle low high) ≡ Greater → runs f low high ≡ suc (runs (f - 1) (middle low high + 1) high)
  unfolding halvings on_order
  halvings_higher zero low high a h e = absurd (omega arith)
  halvings_higher (suc f) low high a h e = let z : suc f - 1 ≡ f = omega arith in rw (lt-ltb low high h, e, z)

  -- What can be told apart by w compares takes no more, and those that follow.
  few_step : (w f low high : ℕ) → low < high
      → runs f low (middle low high) ≤ w → runs f (middle low high + 1) high ≤ w
      → (o : Ordering) → against (middle low high) ≡ o → runs (suc f) low high ≤ suc w
  unfolding halvings on_order
  few_step w f low high h a b Less e = rw (lt-ltb low high h, e) (omega (arith, a))
  few_step w f low high h a b Equal e = rw (lt-ltb low high h, e) (omega arith)
  few_step w f low high h a b Greater e = rw (lt-ltb low high h, e) (omega (arith, b))

  pub halvings_few : (b w f low high : ℕ) → low ≤ high → ((j : ℕ) → low ≤ j → j ≤ high → more j ≤ b) → high - low ≤ reach w → runs f low high ≤ w + b
  unfolding reach
  halvings_few b zero f low high a m h = omega (arith, halvings_none f low high (omega arith), m low (omega arith) a)
  halvings_few b (suc w) zero low high a m h = omega (arith, halvings_zero low high, m low (omega arith) a)
  halvings_few b (suc w) (suc f) low high a m h =
      elim (dec_lt low high) [
        | yes l ↦ (
            let y : runs (suc f) low high ≤ suc (w + b) =
            few_step (w + b) f low high l (halvings_few b w f low (middle low high) (omega arith) (λ j c d. m j c (omega arith)) (omega arith))
            (halvings_few b w f (middle low high + 1) high (omega arith) (λ j c d. m j (omega arith) d) (omega arith)) (against (middle low high)) refl in
            omega (arith, y)
            )
        | no l ↦ omega (arith, halvings_none (suc f) low high (omega arith), m low (omega arith) a)
      ]

pub reach_all : reach 7 ≡ 127
unfolding reach
reach_all = refl

pub seven : (files : List (List ℕ)) (pick : ℕ → ℕ) (path : List ℕ) (more : ℕ → ℕ) (b many : ℕ) → many ≤ 127 → ((j : ℕ) → j ≤ many → more j ≤ b) → halvings many files pick path more 0 many ≤ 7 + b
seven files pick path more b many h m =
    halvings_few files pick path more b 7 many 0 many (omega arith) (λ j c d. m j d) (omega (arith, reach_all))

-- ---- halving

pub record Halving (names index : List ℕ) (count from by many : ℕ) (path : List ℕ) (n made low high : ℕ) : Type 0 where
  pub files : List (List ℕ)
  pub holds : HoldsNames names index count files
  pub picks : PicksNames names index count from by many
  pub ordered : low ≤ high
  pub within : high ≤ many
  pub between : Between files (picked index from by) many path low high
  pub fuel : ℕ
  pub enough : high - low ≤ fuel
  pub counted : (more : ℕ → ℕ) → made + halvings fuel files (picked index from by) path more low high ≡ n + halvings many files (picked index from by) path more 0 many

pub half_begin : {names index : List ℕ} {count from by many : ℕ} {path : List ℕ} {n : ℕ} → SoundNames names index count → PicksNames names index count from by many
    → Halving names index count from by many path n n 0 many
half_begin {many = many} s p =
    record {
      files = s.files;
      holds = s.holds;
      picks = p;
      ordered = omega arith;
      within = omega arith;
      between = record { before = λ i a. absurd (not-suc-le-zero a); after = λ i a b. absurd (omega arith) };
      fuel = many;
      enough = omega arith;
      counted = λ more. refl;
    }

module _ {names index : List ℕ} {count from by many : ℕ} {path : List ℕ} {n made low high : ℕ} (x : Halving names index count from by many path n made low high) where
  abbrev pick : ℕ → ℕ
  pick = picked index from by

  pub made_few : made ≤ n + 7
  made_few = omega (arith, x.counted (λ _. 0), seven x.files pick path (λ _. 0) 0 many x.picks.few (λ j a. omega arith))

  module _ (l : low < high) where
    abbrev mid : ℕ
    mid = low + (high - low) / 2

    mid_within : mid < many
    mid_within = omega (arith, x.within)

    pub mid_inside : from + mid * by < length index
    mid_inside = x.picks.inside mid mid_within

    module _ {k : ℕ} (q : k ≡ get_or index (from + (low + (high - low) / 2) * by) 0) where
      pub mid_below : k < count
      mid_below = rw q (x.picks.below mid mid_within)

      named : name_at x.files k ≡ name_at x.files (pick mid)
      named = ap (name_at x.files) q

      -- The path was compared with the name in the middle.
      module _ {r : Compared} (t : ComparesName names index count k path made r) where
        abbrev name : List ℕ
        name = name_at x.files (pick mid)

        told : r ≡ compared_of (made + 1) (order_bytes path name)
        told = t.answer x.files x.holds ∙ ap (λ (y : List ℕ). compared_of (made + 1) (order_bytes path y)) named

        pub half_lower : {m : ℕ} → r ≡ Before m → Halving names index count from by many path n m low mid
        half_lower {m} e =
            let (o, z) = told_before (made + 1) (order_bytes path name) m (sym e ∙ told) in
            let s : less_bytes path name ≡ true = order_less path name o in
            record {
              files = x.files;
              holds = x.holds;
              picks = x.picks;
              ordered = omega arith;
              within = omega (arith, x.within);
              between =
                  record {
                    before = x.between.before;
                    after = λ i a b. elim (dec_lt mid i) [
                      | yes d ↦ less_trans path name (name_at x.files (pick i)) s (x.picks.rising x.files x.holds mid i d b)
                      | no d ↦ (let w : mid ≡ i = omega arith in rw (← w) s)
                    ];
                  };
              fuel = x.fuel - 1;
              enough = omega (arith, x.enough);
              counted = λ more. omega (arith, z, x.counted more, halvings_lower x.files pick path more x.fuel low high x.enough l o);
            }

        pub half_higher : {m : ℕ} → r ≡ Behind m → Halving names index count from by many path n m (mid + 1) high
        half_higher {m} e =
            let (o, z) = told_behind (made + 1) (order_bytes path name) m (sym e ∙ told) in
            let s : less_bytes name path ≡ true = order_greater path name o in
            record {
              files = x.files;
              holds = x.holds;
              picks = x.picks;
              ordered = omega arith;
              within = x.within;
              between =
                  record {
                    before = λ i a. elim (dec_lt i mid) [
                      | yes d ↦ less_trans (name_at x.files (pick i)) name path (x.picks.rising x.files x.holds i mid d mid_within) s
                      | no d ↦ (let w : mid ≡ i = omega arith in rw (← w) s)
                    ];
                    after = x.between.after;
                  };
              fuel = x.fuel - 1;
              enough = omega (arith, x.enough);
              counted = λ more. omega (arith, z, x.counted more, halvings_higher x.files pick path more x.fuel low high x.enough l o);
            }

        pub half_found : {m : ℕ} → r ≡ Same m → Halves names index count from by many path n (record { number = k; compares = m; place = 0 })
        half_found {m} e =
            let (o, z) = told_same (made + 1) (order_bytes path name) m (sym e ∙ told) in
            let c : (more : ℕ → ℕ) → m ≡ n + halvings many x.files pick path more 0 many =
            λ more. omega (arith, z, x.counted more, halvings_same x.files pick path more x.fuel low high x.enough l o) in
            record {
              within = omega arith;
              few = omega (arith, c (λ _. 0), seven x.files pick path (λ _. 0) 0 many x.picks.few (λ j a. omega arith));
              answer = λ files h. rw (← holds_one x.holds h) (inl ((mid_below, named ∙ sym (order_equal path name o)), c));
            }

  pub half_end : high ≤ low → Halves names index count from by many path n (record { number = count; compares = made; place = low })
  half_end a =
      let z : high ≡ low = omega (arith, x.ordered) in
      record {
        within = omega (arith, x.within);
        few = made_few;
        answer = λ files h.
            rw (← holds_one x.holds h)
            (inr (refl, rw z at x.between, (λ more. omega (arith, x.counted more, halvings_none x.files pick path more x.fuel low high a))));
      }
