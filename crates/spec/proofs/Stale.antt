-- Stale and time: a step's verdict rests on those of the makers of its inputs alone, so the verdicts do not depend on the order taken. Likewise the
-- verdict that has the step's depfile among its reasons.
use Prim.Native.Nat.{ℕ}
use mathlib.Core.Path.{◌≡◌, refl, ap, ap₂}
use mathlib.Core.Logic.{inl, inr}
use mathlib.Core.Bool.{Bool, ◌||◌}
use mathlib.Core.List.{List, [], ◌∷◌, ◌++◌, map}
use Rattle.lists.specs.Tests.{if_b}
use Rattle.lists.specs.Members.{◌∈◌, here, there, in_left, in_right, in_append, any}
use Rattle.orders.specs.Along.{Local}
use Rattle.spec.specs.Reading.{Step}
use Rattle.spec.specs.Graph.{inputs, non_order_only, step_at, makers, makers_of, before}
use Rattle.spec.specs.Stale.{Verdict, phony_step, made_time, time_of, greatest, newest_input, maker_stale, stale_phony, stale_command, verdict}
use Rattle.spec.specs.Headers.{Listed, forced}
use Rattle.spec.proofs.Graph.{in_makers, in_makers_of, makers_of_in}

-- what is told of a step by document 01's sentences and document 02's about its depfile
unfoldable pub told_verdict : List Step → (ℕ → ℕ) → List Listed → (ℕ → Verdict) → ℕ → Verdict
unfolding phony_step stale_phony stale_command forced newest_input
told_verdict steps card ls known s = record {
  stale = if_b (phony_step steps s) (λ _. stale_phony steps card known s) (λ _. stale_command steps card known s || forced steps card ls s);
  time = newest_input steps card known s;
}

pub any_same : (p q : ℕ → Bool) (l : List ℕ) → ((x : ℕ) → x ∈ l → p x ≡ q x) → any p l ≡ any q l
unfolding any
any_same p q [] e = refl
any_same p q (x ∷ l) e = ap₂ (λ (a b : Bool). a || b) (e x (here refl)) (any_same p q l (λ y h. e y (there h)))

pub map_same : (p q : ℕ → ℕ) (l : List ℕ) → ((x : ℕ) → x ∈ l → p x ≡ q x) → map p l ≡ map q l
map_same p q [] e = refl
map_same p q (x ∷ l) e = ap₂ (λ (a : ℕ) (b : List ℕ). a ∷ b) (e x (here refl)) (map_same p q l (λ y h. e y (there h)))

-- an input that is not order-only is an input
pub counted_input : (s : Step) {f : ℕ} → f ∈ non_order_only s → f ∈ inputs s
unfolding non_order_only inputs
counted_input s h = elim (in_append s.ins h) [
  | inl a ↦ in_left (s.implicit ++ s.order_only) a
  | inr b ↦ in_right s.ins (in_left s.order_only b)
]

module _ (steps : List Step) (card : ℕ → ℕ) (g h : ℕ → Verdict) (s : ℕ) (same : (m : ℕ) → m ∈ before steps s → g m ≡ h m) where
  counted_maker : {f m : ℕ} → f ∈ non_order_only (step_at steps s) → m ∈ makers steps f → g m ≡ h m
  unfolding before
  counted_maker {f} {m} i j = same m (makers_of_in steps (counted_input (step_at steps s) i) ((in_makers steps f).0 j))

  made_same : (f : ℕ) → f ∈ non_order_only (step_at steps s) → (ms : List ℕ) → ((m : ℕ) → m ∈ ms → m ∈ makers steps f) → made_time steps g ms ≡ made_time steps h ms
  unfolding made_time
  made_same f i [] k = refl
  made_same f i (m ∷ ms) k = ap (λ (v : Verdict). if_b (phony_step steps m) (λ _. v.time) (λ _. 0)) (counted_maker i (k m (here refl)))

  time_same : (f : ℕ) → f ∈ non_order_only (step_at steps s) → time_of steps card g f ≡ time_of steps card h f
  unfolding time_of
  time_same f i = simp (made_same f i (makers steps f) (λ m j. j))

  newest_same : newest_input steps card g s ≡ newest_input steps card h s
  unfolding newest_input
  newest_same = ap greatest (map_same (time_of steps card g) (time_of steps card h) (non_order_only (step_at steps s)) time_same)

  maker_same : maker_stale steps g s ≡ maker_stale steps h s
  unfolding maker_stale
  maker_same =
      any_same (λ m. (g m).stale) (λ m. (h m).stale) (makers_of steps (non_order_only (step_at steps s)))
      (λ m i. let (f, j, w) = in_makers_of steps (non_order_only (step_at steps s)) i in ap (λ (v : Verdict). v.stale) (counted_maker j ((in_makers steps f).1 w)))

  verdict_same : verdict steps card g s ≡ verdict steps card h s
  unfolding verdict
  verdict_same = simp (maker_same, newest_same)

  told_same : (ls : List Listed) → told_verdict steps card ls g s ≡ told_verdict steps card ls h s
  unfolding told_verdict
  told_same ls = simp (maker_same, newest_same)

pub verdict_local : (steps : List Step) (card : ℕ → ℕ) → Local (verdict steps card) (before steps)
verdict_local steps card g h s same = verdict_same steps card g h s same

pub told_local : (steps : List Step) (card : ℕ → ℕ) (ls : List Listed) → Local (told_verdict steps card ls) (before steps)
told_local steps card ls g h s same = told_same steps card g h s same ls
