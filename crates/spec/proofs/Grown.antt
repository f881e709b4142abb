-- The text of a step's name rests on the names of its explicit inputs and its outputs alone: files that are named later change none.
use Prim.Native.Nat.{ℕ, zero, suc, ◌<◌}
use mathlib.Core.Path.{◌≡◌, refl, ap₂, fun_ext}
use mathlib.Core.Bool.{Bool, true, false}
use mathlib.Core.List.{List, [], ◌∷◌, ◌++◌}
use lib.ListN.{length, get_or-append}
use Rattle.lists.specs.Tests.{if_b}
use Rattle.lists.specs.Members.{◌∈◌, here, there, any}
use Rattle.spec.specs.Basics.{among}
use Rattle.spec.specs.Dollars.{expand, refs}
use Rattle.spec.specs.Reading.{Step, Reading}
use Rattle.spec.specs.Graph.{step_at}
use Rattle.spec.specs.Text.{Spelling, names_of, of_step, lookup_by, quoted, on_found, leads_back, text_by, spelling_for, deep, name_refusal}
use Rattle.spec.specs.TextAsk.{name_outcome}

-- what is read, with more files
abbrev pub with_more : List (List ℕ) → Reading → Reading
with_more more rd =
    record { rules = rd.rules; vars = rd.vars; files = rd.files ++ more; steps = rd.steps; defaults = rd.defaults; bindings = rd.bindings; mentions = rd.mentions; written = rd.written; opened = rd.opened }

module _ (rd : Reading) (more : List (List ℕ)) where
  names_same : (spell : Spelling) (fs : List ℕ) → ((f : ℕ) → f ∈ fs → f < length rd.files) → names_of spell (with_more more rd) fs ≡ names_of spell rd fs
  unfolding names_of
  names_same spell [] low = refl
  names_same spell (f ∷ fs) low =
      ap₂ (λ (n : List ℕ) (ns : List (List ℕ)). spell n ∷ ns) (get_or-append rd.files more [] f (low f (here refl))) (names_same spell fs (λ g h. low g (there h)))

  module _ (s : Step) (ins : (f : ℕ) → f ∈ s.ins → f < length rd.files) (outs : (f : ℕ) → f ∈ s.outs → f < length rd.files) where
    found_same : (spell : Spelling) (n : List ℕ) → lookup_by spell (with_more more rd) s n ≡ lookup_by spell rd s n
    unfolding lookup_by of_step
    found_same spell n = rw (names_same spell s.ins ins, names_same spell s.outs outs)

    back_same : (k : ℕ) (under : List (List ℕ)) (n : List ℕ) → leads_back (with_more more rd) s k under n ≡ leads_back rd s k under n
    unfolding leads_back
    back_same zero under n = refl
    back_same (suc k) under n =
        ap₂ (λ x (f : List ℕ → Bool). on_found x (λ v. false) (λ raw. if_b (among n under) (λ _. true) (λ _. any f (refs raw)))) (found_same quoted n)
        (fun_ext (λ m. back_same k (n ∷ under) m))

    text_same : (spell : Spelling) (k : ℕ) (n : List ℕ) → text_by spell (with_more more rd) s k n ≡ text_by spell rd s k n
    unfolding text_by
    text_same spell zero n = refl
    text_same spell (suc k) n =
        ap₂ (λ x (f : List ℕ → List ℕ). on_found x (λ v. v) (λ raw. expand f raw)) (found_same spell n) (fun_ext (λ m. text_same spell k m))

  -- 16, 17 and the text of a name are what they were
  pub outcome_same : (s : ℕ) (n : List ℕ) → ((f : ℕ) → f ∈ (step_at rd.steps s).ins → f < length rd.files)
      → ((f : ℕ) → f ∈ (step_at rd.steps s).outs → f < length rd.files) → name_outcome s n (with_more more rd) ≡ name_outcome s n rd
  unfolding name_outcome name_refusal
  outcome_same s n ins outs =
      rw (back_same (step_at rd.steps s) ins outs deep [] n, text_same (step_at rd.steps s) ins outs (spelling_for n) deep n)
