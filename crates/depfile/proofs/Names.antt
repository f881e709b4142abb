-- How names are read: a run of bytes is read into one name, and any other mark ends it.
use Prim.Native.Nat.{ℕ}
use mathlib.Core.Bool.{Bool, true, false}
use mathlib.Core.List.{List, [], ◌∷◌, ◌++◌, map, append-nil, append_assoc}
use mathlib.Core.Option
use mathlib.Core.Option.{Option, none, some}
use mathlib.Core.Path.{◌≡◌, refl, sym, ◌∙◌, ap}
use borrow.Author.Tests.{ne_eqb}
use lib.Dec.{eqb}
use Rattle.lists.specs.Members.{◌∉◌, here, there}
use Rattle.lists.specs.Tests.{if_b}
use Rattle.depfile.specs.Depfile.{colon_byte, Mark, byte, gap, line, lone, dep_rule, name_then, target_then, blank_lines, prerequisites_from, rule_from}

-- a mark that ends a name, or nothing at all
unfoldable pub ends : List Mark → Bool
ends [] = true
ends (byte b ∷ s) = false
ends (gap ∷ s) = true
ends (line ∷ s) = true
ends (lone ∷ s) = true

map_none : {A : Type 0} (f : A → A) → ((a : A) → f a ≡ a) → (o : Option A) → Option.map f o ≡ o
map_none f h none = refl
map_none f h (some a) = rw (h a)

-- ---- prerequisites

pub prerequisites_bytes : (w n : List ℕ) (s : List Mark) → prerequisites_from w (map byte n ++ s) ≡ prerequisites_from (w ++ n) s
unfolding prerequisites_from
prerequisites_bytes w [] s = rw (append-nil w)
prerequisites_bytes w (b ∷ n) s = prerequisites_bytes (w ++ (b ∷ [])) n s ∙ rw (append_assoc w (b ∷ []) n)

pub prerequisites_gap : (s : List Mark) → prerequisites_from [] (gap ∷ s) ≡ prerequisites_from [] s
unfolding prerequisites_from name_then
prerequisites_gap s = map_none (name_then []) (λ l. refl) (prerequisites_from [] s)

pub prerequisites_end : (w : List ℕ) (s : List Mark) → ends s ≡ true → prerequisites_from w s ≡ Option.map (name_then w) (prerequisites_from [] s)
unfolding ends prerequisites_from name_then
prerequisites_end w [] h = refl
prerequisites_end w (byte b ∷ s) h = cc
prerequisites_end w (gap ∷ s) h = ap (Option.map (name_then w)) (sym (prerequisites_gap s))
prerequisites_end w (line ∷ s) h = by_rest (blank_lines s)
  where
    by_rest : (b : Bool) → if_b b (λ _. some (name_then w [])) (λ _. none) ≡ Option.map (name_then w) (if_b b (λ _. some (name_then [] [])) (λ _. none))
    by_rest true = refl
    by_rest false = refl
prerequisites_end w (lone ∷ s) h = refl

-- ---- targets

-- a mark that ends a target, or nothing at all
unfoldable pub ends_target : List Mark → Bool
ends_target [] = true
ends_target (byte b ∷ s) = eqb b colon_byte
ends_target (gap ∷ s) = true
ends_target (line ∷ s) = true
ends_target (lone ∷ s) = true

pub targets_bytes : (w n : List ℕ) (s : List Mark) → colon_byte ∉ n → rule_from w (map byte n ++ s) ≡ rule_from (w ++ n) s
unfolding rule_from
targets_bytes w [] s h = rw (append-nil w)
targets_bytes w (b ∷ n) s h =
    rw (ne_eqb b colon_byte (λ e. h (here (sym e))))
    (targets_bytes (w ++ (b ∷ [])) n s (λ k. h (there k)) ∙ rw (append_assoc w (b ∷ []) n))

pub targets_gap : (s : List Mark) → rule_from [] (gap ∷ s) ≡ rule_from [] s
unfolding rule_from target_then name_then
targets_gap s = map_none (target_then []) (λ r. refl) (rule_from [] s)

pub targets_colon : (w : List ℕ) (s : List Mark) → rule_from w (byte colon_byte ∷ s) ≡ Option.map (dep_rule (name_then w [])) (prerequisites_from [] s)
unfolding rule_from
targets_colon w s = refl

pub targets_end : (w : List ℕ) (s : List Mark) → ends_target s ≡ true → rule_from w s ≡ Option.map (target_then w) (rule_from [] s)
unfolding ends_target rule_from target_then name_then
targets_end w [] h = refl
targets_end w (byte b ∷ s) h = rw h (colon (prerequisites_from [] s))
  where
    colon : (o : Option (List (List ℕ))) → Option.map (dep_rule (name_then w [])) o ≡ Option.map (target_then w) (Option.map (dep_rule (name_then [] [])) o)
    colon none = refl
    colon (some l) = refl
targets_end w (gap ∷ s) h = ap (Option.map (target_then w)) (sym (targets_gap s))
targets_end w (line ∷ s) h = refl
targets_end w (lone ∷ s) h = refl
