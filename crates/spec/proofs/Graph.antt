-- The computed graph (makers, before, needed, upstream) says what document 01's words say.
use Prim.Native.Nat.{ℕ, zero, suc, ◌+◌, ◌≤◌, ◌<◌}
use native.Mathlib.Omega.{arith}
use mathlib.Core.Path.{◌≡◌, refl, sym, subst}
use mathlib.Core.Logic.{inl, inr, ◌↔◌}
use mathlib.Core.Bool.{true, false}
use mathlib.Core.List.{List, [], ◌∷◌, map}
use lib.ListN.{length, get_or}
use Rattle.lists.specs.Tests.{split}
use Rattle.lists.specs.Members.{◌∈◌, here, there, has, has_true, in_has, in_cons, not_in_nil, in_left, in_right, in_append}
use Rattle.orders.specs.Reach as reaching
use Rattle.orders.specs.Reach.{Closed, reach_least, reach_start, reach_closed}
use Rattle.spec.specs.Basics.{concat}
use Rattle.spec.specs.Reading.{Step}
use Rattle.spec.specs.Graph.{inputs, no_step, step_at, makers_from, makers, makers_of, before, needed}
use Rattle.spec.specs.Words.{Makes, MakerOf, Feeds, Needed, root, input, Upstream, maker, further}

in_makers_from : (k : ℕ) (l : List Step) (f : ℕ) {m : ℕ} → m ∈ makers_from k l f → (i : ℕ) × (i < length l) × (m ≡ k + i) × (f ∈ (get_or l i no_step).outs)
unfolding makers_from
in_makers_from k [] f h = absurd (not_in_nil h)
in_makers_from k (s ∷ l) f {m} h =
    split (has f s.outs)
    (λ (e : has f s.outs ≡ true).
    let h' : m ∈ k ∷ makers_from (suc k) l f = rw (e, makers_from) at h in
    elim (in_cons h') [
      | inl p ↦ (0, omega arith, omega arith, has_true f s.outs e)
      | inr q ↦ (let (i, b, d, o) = in_makers_from (suc k) l f q in (suc i, omega arith, omega arith, o))
    ])
    (λ (e : has f s.outs ≡ false).
    let h' : m ∈ makers_from (suc k) l f = rw (e, makers_from) at h in
    let (i, b, d, o) = in_makers_from (suc k) l f h' in (suc i, omega arith, omega arith, o))

makers_from_in : (k : ℕ) (l : List Step) (f i : ℕ) → i < length l → f ∈ (get_or l i no_step).outs → k + i ∈ makers_from k l f
unfolding makers_from
makers_from_in k [] f i b h = absurd (omega arith)
makers_from_in k (s ∷ l) f zero b h = let e : k + 0 ≡ k = omega arith in rw (in_has h, makers_from) (here {y = k} e)
makers_from_in k (s ∷ l) f (suc i) b h =
    let q : suc k + i ∈ makers_from (suc k) l f = makers_from_in (suc k) l f i (omega arith) h in
    let e : k + suc i ≡ suc k + i = omega arith in
    split (has f s.outs)
    (λ (p : has f s.outs ≡ true). rw (p, makers_from, e) (there q))
    (λ (p : has f s.outs ≡ false). rw (p, makers_from, e) q)

pub in_makers : (steps : List Step) (f : ℕ) {m : ℕ} → (m ∈ makers steps f) ↔ Makes steps m f
unfolding makers
in_makers steps f {m} = (
  λ h. let (i, b, e, o) = in_makers_from 0 steps f h in
      let d : m ≡ i = omega arith in
      record { step = omega arith; output = rw d o },
  λ w. let e : 0 + m ≡ m = omega arith in rw e at (makers_from_in 0 steps f m w.step w.output),
)

-- the maker of a file: the first of `makers`

makers_from_first : (k : ℕ) (l : List Step) (f : ℕ) {m : ℕ} {ms : List ℕ} → makers_from k l f ≡ m ∷ ms → {j : ℕ} → j ∈ makers_from k l f → m ≤ j
unfolding makers_from
makers_from_first k [] f e h = absurd (not_in_nil h)
makers_from_first k (s ∷ l) f {m} {ms} e {j} h =
    split (has f s.outs)
    (λ (t : has f s.outs ≡ true).
    let d : k ∷ makers_from (suc k) l f ≡ m ∷ ms = rw (t, makers_from) at e in
    let z : k ≡ m = cc in
    let (i, b, q, o) = in_makers_from k (s ∷ l) f h in omega arith)
    (λ (t : has f s.outs ≡ false).
    let d : makers_from (suc k) l f ≡ m ∷ ms = rw (t, makers_from) at e in
    let h' : j ∈ makers_from (suc k) l f = rw (t, makers_from) at h in
    makers_from_first (suc k) l f d h')

pub maker_first : (steps : List Step) (f : ℕ) {m : ℕ} {ms : List ℕ} → makers steps f ≡ m ∷ ms → MakerOf steps m f
unfolding makers
maker_first steps f {m} e = record {
  made = (in_makers steps f).0 (subst (λ (l : List ℕ). m ∈ l) (sym e) (here refl));
  first = λ k b w. let h = makers_from_first 0 steps f e ((in_makers steps f).1 w) in omega (arith, h, b);
}

pub no_maker : (steps : List Step) (f : ℕ) → makers steps f ≡ [] → (m : ℕ) → ¬ Makes steps m f
no_maker steps f e m w = not_in_nil (subst (λ (l : List ℕ). m ∈ l) e ((in_makers steps f).1 w))

pub maker_once : {steps : List Step} {m k f : ℕ} → MakerOf steps m f → MakerOf steps k f → m ≡ k
maker_once {steps} {m} {k} {f} a b =
    let p : ¬ (m < k) = λ h. b.first m h a.made in
    let q : ¬ (k < m) = λ h. a.first k h b.made in
    omega (arith, p, q)

-- what a concatenation of lists holds
pub in_concat : (g : ℕ → List ℕ) (fs : List ℕ) {m : ℕ} → m ∈ concat (map g fs) → (f : ℕ) × (f ∈ fs) × (m ∈ g f)
unfolding concat
in_concat g [] h = absurd (not_in_nil h)
in_concat g (f ∷ fs) h = elim (in_append (g f) h) [
  | inl a ↦ (f, here refl, a)
  | inr b ↦ (let (x, i, j) = in_concat g fs b in (x, there i, j))
]

pub concat_in : (g : ℕ → List ℕ) {f : ℕ} {fs : List ℕ} {m : ℕ} → f ∈ fs → m ∈ g f → m ∈ concat (map g fs)
unfolding concat
concat_in g {f} {fs = x ∷ fs} {m} (here e) h = in_left {l = g x} (concat (map g fs)) (rw e at h)
concat_in g {fs = x ∷ fs} (there i) h = in_right (g x) (concat_in g i h)
concat_in g {f = f} {fs = []} {m = m} x5 h = elim x5 [ ]

pub in_makers_of : (steps : List Step) (fs : List ℕ) {m : ℕ} → m ∈ makers_of steps fs → (f : ℕ) × (f ∈ fs) × Makes steps m f
unfolding makers_of
in_makers_of steps fs h = let (f, i, j) = in_concat (makers steps) fs h in (f, i, (in_makers steps f).0 j)

pub makers_of_in : (steps : List Step) {fs : List ℕ} {f m : ℕ} → f ∈ fs → Makes steps m f → m ∈ makers_of steps fs
unfolding makers_of
makers_of_in steps {f} i w = concat_in (makers steps) i ((in_makers steps f).1 w)

pub in_before : (steps : List Step) (s : ℕ) {m : ℕ} → (m ∈ before steps s) ↔ Feeds steps m s
unfolding before
in_before steps s = (
  λ h. let (f, i, w) = in_makers_of steps (inputs (step_at steps s)) h in record { file = f; input = i; made = w },
  λ w. makers_of_in steps w.input w.made,
)

pub before_low : (steps : List Step) → Closed (before steps) (λ s. s < length steps)
before_low steps s b m h = ((in_before steps s).0 h).made.step

-- "Needed": the computed steps are the needed ones

makers_low : (steps : List Step) (fs : List ℕ) (m : ℕ) → m ∈ makers_of steps fs → m < length steps
makers_low steps fs m h = let (f, i, w) = in_makers_of steps fs h in w.step

pub in_needed : (steps : List Step) (rs : List ℕ) {s : ℕ} → (s ∈ needed steps rs) ↔ Needed steps rs s
unfolding needed
in_needed steps rs {s} = (
  λ h. reach_least (before steps) (length steps) (makers_of steps rs) (Needed steps rs)
      (λ m i. let (f, j, w) = in_makers_of steps rs i in root j w)
      (λ k n m i. input n ((in_before steps k).0 i))
      s h,
  complete,
)
  where
    complete : {m : ℕ} → Needed steps rs m → m ∈ reaching.reach (before steps) (length steps) (makers_of steps rs)
    complete {m} (root i w) = reach_start (before steps) (length steps) (makers_of steps rs) (before_low steps) (makers_low steps rs) m (makers_of_in steps i w)
    complete {m} (input {s = k} n w) =
        reach_closed (before steps) (length steps) (makers_of steps rs) (before_low steps) (makers_low steps rs) k (complete n) m ((in_before steps k).1 w)

-- "Upstream"

pub upstream_words : {steps : List Step} {m s : ℕ} → reaching.ComesBefore (before steps) m s → Upstream steps m s
upstream_words {steps} {s} (reaching.direct h) = maker ((in_before steps s).0 h)
upstream_words {steps} {s} (reaching.further u h) = further (upstream_words u) ((in_before steps s).0 h)

pub words_upstream : {steps : List Step} {m s : ℕ} → Upstream steps m s → reaching.ComesBefore (before steps) m s
words_upstream {steps} {s} (maker w) = reaching.direct ((in_before steps s).1 w)
words_upstream {steps} {s} (further u w) = reaching.further (words_upstream u) ((in_before steps s).1 w)

pub in_upstream : (steps : List Step) (s : ℕ) → s < length steps → {m : ℕ} → (m ∈ reaching.upstream (before steps) (length steps) s) ↔ Upstream steps m s
in_upstream steps s b {m} =
    let both = reaching.in_upstream (before steps) (length steps) (before_low steps) s b {m = m} in
    (λ h. upstream_words (both.0 h), λ u. both.1 (words_upstream u))

pub needed_low : {steps : List Step} {rs : List ℕ} {s : ℕ} → Needed steps rs s → s < length steps
needed_low (root i w) = w.step
needed_low (input n w) = w.made.step
