-- A caller's walk over the names of a target list with a lookup of its own: one turn of it, and its ways out.
use Prim.Native.Nat.{ℕ, ◌+◌, ◌-◌, ◌≤◌, ◌<◌}
use mathlib.Core.Bool.{Bool, true, false, not, ◌||◌}
use mathlib.Core.List.{List, [], ◌∷◌, ◌++◌, map, append-nil}
use mathlib.Core.Option.{none, some}
use mathlib.Core.Path.{◌≡◌, refl, sym, ◌∙◌}
use native.Mathlib.Decide.{dec_le, dec_lt}
use native.Mathlib.Omega.{arith}
use lib.ListN.{length, drop, drop_of_length-le, length-append}
use lib.Seq.{append_snoc}
use Rattle.lists.specs.Tests.{if_b, split}
use Rattle.lists.specs.Parts.{part, length_part}
use Rattle.lists.specs.Runs.{run, Reads, after_run}
use Rattle.spec.specs.Basics.{among}
use Rattle.spec.specs.Limits.{max_path, max_targets}
use Rattle.spec.specs.Reading.{number_of}
use Rattle.spec.specs.Targets.{Target, targets_from, targets_of, malformed, bad_length, first_bad, bad_target}
use Rattle.scan_targets.specs.declared.NextTarget.{NextTarget}
use Rattle.scan_targets.specs.declared.NextTarget.TheVariants.{End, Bad, Name}
use Rattle.scan_targets.specs.Next.{other, next_in}
use Rattle.scan_targets.proofs.Runs.{clash, left_none, left_one, runs_to, bad_empty, bad_long, good_length, length_good, form_short}

-- ---- the answers of `name_at`

-- the names from a place on
abbrev pub names_from : List ℕ → ℕ → List Target
names_from t from = targets_from from from [] (drop from t)

next_none : {l : List Target} → l ≡ [] → End ≡ next_in l
unfolding next_in
next_none e = rw e

next_one : {x : Target} {l r : List Target} → l ≡ x ∷ r → next_in l ≡ if_b (bad_length x.name) (λ _. Bad) (λ _. Name (x.start + length x.name))
unfolding next_in
next_one e = rw e

pub past_end : (t : List ℕ) (from : ℕ) → length t < from → End ≡ next_in (names_from t from)
unfolding targets_from
past_end t from h = next_none (rw (drop_of_length-le t {i = from} (omega arith)))

module _ {t : List ℕ} {from r : ℕ} (a : Reads (after_run other) t from r) where
  pub at_end : length t ≤ r → End ≡ next_in (names_from t from)
  at_end h = next_none (left_none a h)

  module _ (l : r < length t) where
    size : length (part t from r) ≡ r - from
    size = length_part t from r a.within

    bad : bad_length (part t from r) ≡ true → Bad ≡ next_in (names_from t from)
    bad h = sym (next_one (left_one a l) ∙ rw h)

    pub at_empty : r - from < 1 → Bad ≡ next_in (names_from t from)
    at_empty h = bad (bad_empty (part t from r) (omega (arith, size)))

    pub at_long : max_path < r - from → Bad ≡ next_in (names_from t from)
    at_long h = bad (bad_long (part t from r) (omega (arith, size)))

    pub at_name : 1 ≤ r - from → r - from ≤ max_path → Name r ≡ next_in (names_from t from)
    at_name h k =
        let z : from + length (part t from r) ≡ r = omega (arith, size, a.forward) in
        sym (next_one (left_one a l) ∙ rw (good_length (part t from r) (omega (arith, size)) (omega (arith, size)), z))

-- ---- what an answer says

data Look (t : List ℕ) (from : ℕ) : Type 0 where
  no_name : names_from t from ≡ [] → Look t from
  a_name : (r : ℕ) → from ≤ r → r < length t → names_from t from ≡ record { start = from; name = part t from r } ∷ names_from t (r + 1) → Look t from

look : (t : List ℕ) (from : ℕ) → Look t from
unfolding targets_from
look t from = elim (dec_le from (length t)) [
  | yes h ↦ (let a = runs_to h in elim (dec_lt (from + length (run other (drop from t))) (length t)) [ yes l ↦ a_name (from + length (run other (drop from t))) a.forward l (left_one a l) | no l ↦ no_name (left_none a (omega arith)) ])
  | no h ↦ no_name (rw (drop_of_length-le t {i = from} (omega arith)))
]

-- a name that was found, from its start to its end, and what follows it
pub record Turn (t : List ℕ) (from end : ℕ) : Type 0 where
  pub some : from < end
  pub within : end < length t
  pub short : end - from ≤ max_path
  pub good : bad_length (part t from end) ≡ false
  pub rest : names_from t from ≡ record { start = from; name = part t from end } ∷ names_from t (end + 1)

module _ (t : List ℕ) (from : ℕ) where
  answer : (r : ℕ) → from ≤ r → r < length t → names_from t from ≡ record { start = from; name = part t from r } ∷ names_from t (r + 1) →
      next_in (names_from t from) ≡ if_b (bad_length (part t from r)) (λ _. Bad) (λ _. Name r)
  answer r f l h =
      let z : from + length (part t from r) ≡ r = omega (arith, length_part t from r (omega arith)) in
      rw z at (next_one h)

  pub ended : End ≡ next_in (names_from t from) → names_from t from ≡ []
  ended e = elim (look t from) [
    | no_name h ↦ h
    | a_name r f l h ↦
        split (bad_length (part t from r))
        (λ (b : bad_length (part t from r) ≡ true). let q : End ≡ Bad = e ∙ answer r f l h ∙ rw b in clash (cc))
        (λ (b : bad_length (part t from r) ≡ false). let q : End ≡ Name r = e ∙ answer r f l h ∙ rw b in clash (cc))
  ]

  pub wrong : Bad ≡ next_in (names_from t from) → (n : List ℕ) × (bad_length n ≡ true) × (l : List Target) × (names_from t from ≡ record { start = from; name = n } ∷ l)
  wrong e = elim (look t from) [
    | no_name h ↦ (let q : Bad ≡ End = e ∙ sym (next_none h) in clash (cc))
    | a_name r f l h ↦
        split (bad_length (part t from r)) (λ (b : bad_length (part t from r) ≡ true). (part t from r, b, names_from t (r + 1), h))
        (λ (b : bad_length (part t from r) ≡ false). let q : Bad ≡ Name r = e ∙ answer r f l h ∙ rw b in clash (cc))
  ]

  pub turn : (end : ℕ) → Name end ≡ next_in (names_from t from) → Turn t from end
  turn end e = elim (look t from) [
    | no_name h ↦ (let q : Name end ≡ End = e ∙ sym (next_none h) in clash (cc))
    | a_name r f l h ↦
        split (bad_length (part t from r))
        (λ (b : bad_length (part t from r) ≡ true). let q : Name end ≡ Bad = e ∙ answer r f l h ∙ rw b in clash (cc))
        (λ (b : bad_length (part t from r) ≡ false).
        let q : Name end ≡ Name r = e ∙ answer r f l h ∙ rw b in
        let m : end ≡ r = cc in
        let (x, y) = length_good (part t from r) b in
        let z = length_part t from r (omega arith) in
        rw m (record { some = omega arith; within = l; short = omega arith; good = b; rest = h }))
  ]

-- ---- the walk

-- the numbers of names
abbrev pub numbers_in : List (List ℕ) → List Target → List ℕ
numbers_in files l = map (λ (x : Target). number_of x.name files) l

-- at a place where a name may start, with the numbers of the names before it
pub record Walking (files : List (List ℕ)) (t : List ℕ) (from : ℕ) (done : List ℕ) : Type 0 where
  pub within : from ≤ length t
  pub short : length t ≤ max_targets
  pub few : length done + length done ≤ from
  pub bad : bad_target files t ≡ first_bad files (names_from t from)
  pub numbers : numbers_in files (targets_of t) ≡ done ++ numbers_in files (names_from t from)

pub walk_malformed : (files : List (List ℕ)) (t : List ℕ) → malformed t ≡ true → bad_target files t ≡ some 0
unfolding bad_target
walk_malformed files t h = rw h

pub walk_begin : (files : List (List ℕ)) (t : List ℕ) → malformed t ≡ false → Walking files t 0 []
unfolding bad_target targets_of
walk_begin files t h =
    record { within = omega arith; short = form_short t h; few = omega arith; bad = rw h; numbers = refl }

-- "malformed, or a name the manifest never mentions"
unfoldable pub bad_name : List (List ℕ) → List ℕ → Bool
bad_name files n = bad_length n || not (among n files)

bad_first : (files : List (List ℕ)) (x : Target) (l : List Target) → bad_name files x.name ≡ true → first_bad files (x ∷ l) ≡ some x.start
unfolding first_bad bad_name
bad_first files x l h = rw h

good_first : (files : List (List ℕ)) (x : Target) (l : List Target) → bad_name files x.name ≡ false → first_bad files (x ∷ l) ≡ first_bad files l
unfolding first_bad bad_name
good_first files x l h = rw h

module _ {files : List (List ℕ)} {t : List ℕ} {from : ℕ} {done : List ℕ} (w : Walking files t from done) {r : NextTarget} (n : r ≡ next_in (names_from t from)) where
  pub walk_end : r ≡ End → (bad_target files t ≡ none) × (numbers_in files (targets_of t) ≡ done)
  unfolding first_bad
  walk_end e =
      let h = ended t from (sym e ∙ n) in
      (w.bad ∙ rw h, w.numbers ∙ rw h (append-nil done))

  pub walk_bad : r ≡ Bad → bad_target files t ≡ some from
  unfolding bad_name
  walk_bad e =
      let (m, b, l, h) = wrong t from (sym e ∙ n) in
      w.bad ∙ rw h (bad_first files (record { start = from; name = m }) l (rw b))

  module _ {end : ℕ} (e : r ≡ Name end) where
    pub walk_turn : Turn t from end
    walk_turn = turn t from end (sym e ∙ n)

    pub walk_missing : among (part t from end) files ≡ false → bad_target files t ≡ some from
    unfolding bad_name
    walk_missing m =
        w.bad
        ∙ rw walk_turn.rest (bad_first files (record { start = from; name = part t from end }) (names_from t (end + 1)) (rw (walk_turn.good, m)))

    pub walk_more : among (part t from end) files ≡ true → Walking files t (end + 1) (done ++ (number_of (part t from end) files ∷ []))
    unfolding bad_name
    walk_more m =
        record {
          within = omega (arith, walk_turn.within);
          short = w.short;
          few = omega (arith, length-append done (number_of (part t from end) files ∷ []), w.few, walk_turn.some);
          bad =
              w.bad
              ∙ rw walk_turn.rest (good_first files (record { start = from; name = part t from end }) (names_from t (end + 1)) (rw (walk_turn.good, m)));
          numbers =
              w.numbers ∙ rw walk_turn.rest (sym (append_snoc done (number_of (part t from end) files) (numbers_in files (names_from t (end + 1)))));
        }
