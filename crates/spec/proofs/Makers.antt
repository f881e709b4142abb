-- Each step has an output, each file at most one maker, and makers make files that are named: this stays so when a step joins whose outputs are not made
-- yet.
use Prim.Native.Nat.{ℕ, zero, suc, ◌+◌, ◌≤◌, ◌<◌}
use native.Mathlib.Omega.{arith}
use mathlib.Core.Path.{◌≡◌, refl, sym, ◌∙◌, ap, subst}
use mathlib.Core.Logic.{◌⊎◌, inl, inr}
use mathlib.Core.Bool.{true, false}
use mathlib.Core.List.{List, [], ◌∷◌, ◌++◌, map}
use borrow.Author.Tests.{ltb-true, ltb-false}
use lib.Dec.{ltb}
use lib.ListN.{length, length-append, get_or-append}
use lib.Seq.{get_or-append_seam}
use Rattle.lists.specs.Tests.{split, differ, and_true, and_left, and_right, or_left, or_right}
use Rattle.lists.specs.Members.{◌∈◌, in_cons, not_in_nil, has, in_has, all, any}
use Rattle.spec.specs.Basics.{is_empty, among}
use Rattle.spec.specs.Reading.{Step, Reading, number_of, mention, numbers_of, is_output, is_made}
use Rattle.spec.specs.Graph.{no_step, step_at}
use Rattle.spec.specs.Words.{Makes}
use Rattle.spec.proofs.Numbers.{number_below, number_behind, number_mention, mention_old, mention_new, mention_grows, mentioned_there}

pub record OneMaker (steps : List Step) (files : ℕ) : Type 0 where
  pub low : (m f : ℕ) → Makes steps m f → f < files
  pub once : (m k f : ℕ) → Makes steps m f → Makes steps k f → m ≡ k
  pub output : (s : ℕ) → s < length steps → is_empty (step_at steps s).outs ≡ false

-- a step whose outputs no other makes
pub record NewStep (steps : List Step) (files : ℕ) (outs : List ℕ) : Type 0 where
  pub low : (f : ℕ) → f ∈ outs → f < files
  pub new : (f m : ℕ) → f ∈ outs → ¬ Makes steps m f
  pub output : is_empty outs ≡ false

pub no_steps : (files : ℕ) → OneMaker [] files
no_steps files = record {
  low = λ m f w. absurd (let b : m < 0 = w.step in omega (arith, b));
  once = λ m k f w x. absurd (let b : m < 0 = w.step in omega (arith, b));
  output = λ s b. absurd (omega (arith, b));
}

pub more_files : {steps : List Step} {files more : ℕ} → files ≤ more → OneMaker steps files → OneMaker steps more
more_files b o = record { low = λ m f w. let c = o.low m f w in omega (arith, b, c); once = o.once; output = o.output }

-- ---- a step joins

module _ (steps : List Step) (s : Step) where
  abbrev after : List Step
  after = steps ++ (s ∷ [])

  longer : length after ≡ length steps + 1
  longer = length-append steps (s ∷ [])

  at_old : (m : ℕ) → m < length steps → step_at after m ≡ step_at steps m
  at_old m b = get_or-append steps (s ∷ []) no_step m b

  at_new : step_at after (length steps) ≡ s
  at_new = get_or-append_seam steps s [] no_step

  made_after : {m f : ℕ} → Makes after m f → Makes steps m f ⊎ ((m ≡ length steps) × (f ∈ s.outs))
  made_after {m} {f} w =
      split (ltb m (length steps))
      (λ (e : ltb m (length steps) ≡ true).
      let b = ltb-true m (length steps) e in
      inl (record { step = b; output = subst (λ (x : Step). f ∈ x.outs) (at_old m b) w.output }))
      (λ (e : ltb m (length steps) ≡ false).
      let b = ltb-false m (length steps) e in
      let q : m ≡ length steps = omega (arith, b, w.step, longer) in
      inr (q, subst (λ (x : Step). f ∈ x.outs) (ap (λ (k : ℕ). step_at after k) q ∙ at_new) w.output))

  pub joins : {files : ℕ} → OneMaker steps files → NewStep steps files s.outs → OneMaker after files
  joins {files} o n = record {
    low = λ m f w. elim (made_after w) [ inl x ↦ o.low m f x | inr y ↦ n.low f y.1 ];
    once = λ m k f w x. elim (made_after w) [
      | inl a ↦ elim (made_after x) [ inl b ↦ o.once m k f a b | inr b ↦ absurd (n.new f m b.1 a) ]
      | inr a ↦ elim (made_after x) [ inl b ↦ absurd (n.new f k a.1 b) | inr b ↦ a.0 ∙ sym b.0 ]
    ];
    output = λ k b.
        split (ltb k (length steps))
        (λ (e : ltb k (length steps) ≡ true). let c = ltb-true k (length steps) e in subst (λ (x : Step). is_empty x.outs ≡ false) (sym (at_old k c)) (o.output k c))
        (λ (e : ltb k (length steps) ≡ false).
        let c = ltb-false k (length steps) e in
        let q : k ≡ length steps = omega (arith, b, c, longer) in
        subst (λ (x : Step). is_empty x.outs ≡ false) (sym (ap (λ (j : ℕ). step_at after j) q ∙ at_new)) n.output);
  }

-- ---- outputs that are not made yet

not_made : (steps : List Step) (f : ℕ) → is_output f steps ≡ false → (m : ℕ) → ¬ Makes steps m f
unfolding is_output any
not_made [] f e m w = let b : m < 0 = w.step in omega (arith, b)
not_made (s ∷ l) f e zero w = differ (in_has w.output) (or_left (has f s.outs) (is_output f l) e)
not_made (s ∷ l) f e (suc m) w =
    let b : suc m < suc (length l) = w.step in
    not_made l f (or_right (has f s.outs) (is_output f l) e) m (record { step = omega (arith, b); output = w.output })

module _ (rd : Reading) (o : OneMaker rd.steps (length rd.files)) (ps : List (List ℕ)) where
  abbrev files : List (List ℕ)
  files = mention rd.files ps

  number_new : (p : List ℕ) → is_made p rd ≡ false → (m : ℕ) → ¬ Makes rd.steps m (number_of p files)
  unfolding is_made
  number_new p e m w =
      split (among p rd.files)
      (λ (a : among p rd.files ≡ true). not_made rd.steps (number_of p rd.files) e m (subst (λ (f : ℕ). Makes rd.steps m f) (number_mention p rd.files ps a) w))
      (λ (a : among p rd.files ≡ false).
      let (more, q) = mention_grows rd.files ps in
      let b : length rd.files ≤ number_of p files = subst (λ (l : List (List ℕ)). length rd.files ≤ number_of p l) (sym q) (number_behind p rd.files more a) in
      let c = o.low m (number_of p files) w in
      omega (arith, b, c))

  each_new : (qs : List (List ℕ)) → any (λ p. is_made p rd) qs ≡ false → all (λ p. among p files) qs ≡ true
      → (f : ℕ) → f ∈ numbers_of files qs → (f < length files) × ((m : ℕ) → ¬ Makes rd.steps m f)
  unfolding any all numbers_of
  each_new [] e a f h = absurd (not_in_nil h)
  each_new (q ∷ qs) e a f h = elim (in_cons h) [
    | inl z ↦ subst (λ (x : ℕ). (x < length files) × ((m : ℕ) → ¬ Makes rd.steps m x)) (sym z)
        (number_below q files (and_left (among q files) (all (λ p. among p files) qs) a), number_new q (or_left (is_made q rd) (any (λ p. is_made p rd) qs) e))
    | inr k ↦ each_new qs (or_right (is_made q rd) (any (λ p. is_made p rd) qs) e) (and_right (among q files) (all (λ p. among p files) qs) a) f k
  ]

all_there : (files outs rest : List (List ℕ)) → all (λ p. among p (mention files (outs ++ rest))) outs ≡ true
unfolding all
all_there files [] rest = refl
all_there files (p ∷ ps) rest =
    and_true (among p (mention files (p ∷ (ps ++ rest)))) (all (λ q. among q (mention files (p ∷ (ps ++ rest)))) ps) (mentioned_there files p (ps ++ rest))
    (split (among p files)
    (λ (e : among p files ≡ true). rw (mention_old files p (ps ++ rest) e) (all_there files ps rest))
    (λ (e : among p files ≡ false). rw (mention_new files p (ps ++ rest) e) (all_there (files ++ (p ∷ [])) ps rest)))

pub map_filled : {A B : Type 0} (f : A → B) (l : List A) → is_empty l ≡ false → is_empty (map f l) ≡ false
map_filled f [] e = e
map_filled f (x ∷ l) e = refl

-- the numbers of paths that are mentioned, none of them made
pub new_outputs : (rd : Reading) → OneMaker rd.steps (length rd.files) → (outs rest : List (List ℕ)) → any (λ p. is_made p rd) outs ≡ false → is_empty outs ≡ false
    → NewStep rd.steps (length (mention rd.files (outs ++ rest))) (numbers_of (mention rd.files (outs ++ rest)) outs)
unfolding numbers_of
new_outputs rd o outs rest e n =
    let each = each_new rd o (outs ++ rest) outs e (all_there rd.files outs rest) in
    record {
      low = λ f h. (each f h).0;
      new = λ f m h. (each f h).1 m;
      output = map_filled (λ (p : List ℕ). number_of p (mention rd.files (outs ++ rest))) outs n;
    }
