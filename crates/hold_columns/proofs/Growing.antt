-- The columns with a step more.
use Prim.Native.Nat.{ℕ, ◌+◌}
use mathlib.Core.List.{List, [], ◌∷◌, ◌++◌, map, append_assoc, append-nil}
use mathlib.Core.Path.{◌≡◌, refl, sym, ◌∙◌, ap}
use native.Mathlib.Omega.{arith}
use lib.ListN.{length, length-append}
use Rattle.spec.specs.Basics.{concat}
use Rattle.spec.specs.Reading.{Step}
use Rattle.spec.specs.Graph.{inputs}
use Rattle.hold_columns.specs.Columns.{mentions_of, step_ends_from}

pub mentions_more : (steps : List Step) (s : Step) → concat (map mentions_of (steps ++ (s ∷ []))) ≡ concat (map mentions_of steps) ++ mentions_of s
unfolding concat
mentions_more [] s = append-nil (mentions_of s)
mentions_more (x ∷ l) s =
    ap (λ (r : List ℕ). mentions_of x ++ r) (mentions_more l s) ∙ sym (append_assoc (mentions_of x) (concat (map mentions_of l)) (mentions_of s))

pub length_mentions : (x : Step) → length (mentions_of x) ≡ length x.outs + length x.ins + length x.implicit + length x.order_only
unfolding mentions_of inputs
length_mentions x = simp length-append (omega arith)

pub ends_more : (k : ℕ) (steps : List Step) (s : Step) (n : ℕ) → n ≡ k + length (concat (map mentions_of steps))
    → step_ends_from k (steps ++ (s ∷ [])) ≡ step_ends_from k steps ++ step_ends_from n (s ∷ [])
unfolding step_ends_from concat
ends_more k [] s n e = let z : n ≡ k = omega arith in rw z
ends_more k (x ∷ l) s n e =
    let a = k + length x.outs in
    let b = a + length x.ins in
    let c = b + length x.implicit in
    let d = c + length x.order_only in
    ap (λ (r : List ℕ). a ∷ b ∷ c ∷ d ∷ r)
    (ends_more d l s n (omega (arith, length-append (mentions_of x) (concat (map mentions_of l)), length_mentions x)))

pub map_more : {B : Type 0} (f : Step → B) (steps : List Step) (s : Step) → map f (steps ++ (s ∷ [])) ≡ map f steps ++ (f s ∷ [])
map_more f [] s = refl
map_more {B} f (x ∷ l) s = ap (λ (r : List B). f x ∷ r) (map_more f l s)
