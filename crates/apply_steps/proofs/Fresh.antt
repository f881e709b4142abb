-- Outputs that no earlier step makes, by the numbers they get.
use Prim.Native.Nat.{ℕ, suc, ◌≤◌}
use mathlib.Core.Bool.{true, false, ◌||◌}
use mathlib.Core.Logic.{inl, inr}
use mathlib.Core.List.{List, [], ◌∷◌, ◌++◌, append_assoc, append-nil}
use mathlib.Core.Path.{◌≡◌, refl, sym, ◌∙◌, ap}
use native.Mathlib.Omega.{arith}
use borrow.Author.Tests.{eqb-true}
use lib.Dec.{eqb}
use lib.ListN.{length, get_or-eq_default}
use Rattle.lists.specs.Tests.{split, or_left, or_right}
use Rattle.lists.specs.Tests as tests
use Rattle.lists.specs.Bytes.{eq_bytes}
use Rattle.lists.specs.Members.{has, any}
use Rattle.spec.specs.Basics.{among, is_empty}
use Rattle.spec.specs.Reading.{Step, Reading, number_of, numbers_of, mention, is_output, is_made}
use Rattle.spec.specs.Statements.{bad_paths, twice}
use Rattle.spec.specs.Graph.{makers, makers_from}
use Rattle.spec.proofs.Numbers.{among_cons, number_there, number_mention, mention_none, mention_old, mention_new}
use Rattle.hold_columns.specs.Columns.{maker_in, made_by, HoldsColumns}
use Rattle.hold_columns.proofs.Held.{held_makers}

-- ---- a path that is new has a number behind the old ones

number_behind : (p : List ℕ) (l r : List (List ℕ)) → among p l ≡ false → length l ≤ number_of p (l ++ r)
number_behind p [] r h = omega arith
number_behind p (f ∷ l) r h =
    let a = sym (among_cons p f l) ∙ h in
    rw (number_there p f (l ++ r) (or_left (eq_bytes p f) (among p l) a))
    (let b = number_behind p l r (or_right (eq_bytes p f) (among p l) a) in omega arith)

mention_behind : (files qs : List (List ℕ)) → (rest : List (List ℕ)) × (mention files qs ≡ files ++ rest)
mention_behind files [] = ([], mention_none files ∙ sym (append-nil files))
mention_behind files (q ∷ qs) =
    split (among q files)
    (λ (e : among q files ≡ true). let (r, z) = mention_behind files qs in (r, mention_old files q qs e ∙ z))
    (λ (e : among q files ≡ false).
    let (r, z) = mention_behind (files ++ (q ∷ [])) qs in ((q ∷ r), mention_new files q qs e ∙ z ∙ append_assoc files (q ∷ []) r))

-- ---- no output, no maker

no_output : (k : ℕ) (steps : List Step) (f : ℕ) → is_output f steps ≡ false → makers_from k steps f ≡ []
unfolding is_output any makers_from
no_output k [] f h = refl
no_output k (s ∷ l) f h =
    rw (or_left (has f s.outs) (is_output f l) h) (no_output (suc k) l f (or_right (has f s.outs) (is_output f l) h))

module _ (rd : Reading) {mentions ends phony made : List ℕ} (t : HoldsColumns rd.steps (length rd.files) mentions ends phony made) (qs : List (List ℕ)) where
  path_fresh : (p : List ℕ) → is_made p rd ≡ false → makers rd.steps (number_of p (mention rd.files qs)) ≡ []
  unfolding is_made makers maker_in made_by
  path_fresh p h =
      split (among p rd.files)
      (λ (e : among p rd.files ≡ true). rw (number_mention p rd.files qs e) (no_output 0 rd.steps (number_of p rd.files) h))
      (λ (e : among p rd.files ≡ false).
      let (r, z) = mention_behind rd.files qs in
      let n = number_of p (mention rd.files qs) in
      let b : length made ≤ n = rw z (omega (arith, number_behind p rd.files r e, t.counted)) in
      sym (ap (λ (m : ℕ → List ℕ). m n) (held_makers t)) ∙ rw (get_or-eq_default made 0 {n = n} b))

  outs_fresh : (ps : List (List ℕ)) → any (λ p. is_made p rd) ps ≡ false → (f : ℕ) → has f (numbers_of (mention rd.files qs) ps) ≡ true → makers rd.steps f ≡ []
  unfolding any has numbers_of
  outs_fresh [] h f k = absurd (let z : ◌≡◌ {A = ℕ} 0 1 = cc in omega arith)
  outs_fresh (p ∷ ps) h f k =
      let a = any (λ q. is_made q rd) ps in
      elim (tests.or_true (eqb f (number_of p (mention rd.files qs))) _ k) [
        | inl e ↦ rw (eqb-true f (number_of p (mention rd.files qs)) e) (path_fresh p (or_left (is_made p rd) a h))
        | inr e ↦ outs_fresh ps (or_right (is_made p rd) a h) f e
      ]

  -- "output made twice" (8) does not apply
  pub line_fresh : (outs ps : List (List ℕ)) → bad_paths outs ps rd ≡ false → (f : ℕ) → has f (numbers_of (mention rd.files qs) outs) ≡ true → makers rd.steps f ≡ []
  unfolding bad_paths
  line_fresh outs ps h =
      let e = any is_empty (outs ++ ps) in
      let m = any (λ p. is_made p rd) outs in
      outs_fresh outs (or_right e m (or_left (e || m) (twice outs) h))
