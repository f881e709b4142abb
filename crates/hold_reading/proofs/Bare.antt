-- The tables of the graph do not look at blocks: steps that differ in their blocks alone are held by the same tables.
use Prim.Native.Nat.{ℕ, suc, ◌+◌}
use mathlib.Core.Bool.{true, false}
use mathlib.Core.List.{List, [], ◌∷◌, ◌++◌, map}
use mathlib.Core.Path.{◌≡◌, refl, sym, ◌∙◌, ap}
use lib.ListN.{length, length-map, get_or-map}
use Rattle.lists.specs.Tests.{split}
use Rattle.lists.specs.Members.{has}
use Rattle.spec.specs.Basics.{concat}
use Rattle.spec.specs.Reading.{Step, is_phony}
use Rattle.spec.specs.Graph.{no_step, step_at, inputs, makers, makers_from}
use Rattle.hold_columns.specs.Columns.{bit, mentions_of, step_ends_from, HoldsColumns}
use Rattle.hold_reading.specs.Binds.{without_block}

mentions_bare : (l : List Step) → concat (map mentions_of (map without_block l)) ≡ concat (map mentions_of l)
unfolding concat mentions_of inputs without_block
mentions_bare [] = refl
mentions_bare (s ∷ l) = ap (λ (r : List ℕ). mentions_of s ++ r) (mentions_bare l)

ends_bare : (k : ℕ) (l : List Step) → step_ends_from k (map without_block l) ≡ step_ends_from k l
unfolding step_ends_from without_block
ends_bare k [] = refl
ends_bare k (s ∷ l) =
    let a = k + length s.outs in
    let b = a + length s.ins in
    let c = b + length s.implicit in
    let d = c + length s.order_only in
    ap (λ (r : List ℕ). a ∷ b ∷ c ∷ d ∷ r) (ends_bare d l)

phony_bare : (l : List Step) → map (λ (s : Step). bit (is_phony s.rule)) (map without_block l) ≡ map (λ (s : Step). bit (is_phony s.rule)) l
unfolding without_block
phony_bare [] = refl
phony_bare (s ∷ l) = ap (λ (r : List ℕ). bit (is_phony s.rule) ∷ r) (phony_bare l)

makers_from_bare : (k : ℕ) (l : List Step) (f : ℕ) → makers_from k (map without_block l) f ≡ makers_from k l f
unfolding makers_from without_block
makers_from_bare k [] f = refl
makers_from_bare k (s ∷ l) f =
    split (has f s.outs)
    (λ (e : has f s.outs ≡ true). rw e (ap (λ (r : List ℕ). k ∷ r) (makers_from_bare (suc k) l f)))
    (λ (e : has f s.outs ≡ false). rw e (makers_from_bare (suc k) l f))

bare_at : (l : List Step) (s : ℕ) → step_at (map without_block l) s ≡ without_block (step_at l s)
unfolding without_block
bare_at l s = get_or-map without_block l s no_step

module _ (a b : List Step) (e : map without_block a ≡ map without_block b) where
  pub same_count : length a ≡ length b
  same_count = sym (length-map a without_block) ∙ ap length e ∙ length-map b without_block

  pub same_step : (s : ℕ) → without_block (step_at a s) ≡ without_block (step_at b s)
  same_step s = sym (bare_at a s) ∙ ap (λ (l : List Step). step_at l s) e ∙ bare_at b s

  same_makers : (f : ℕ) → makers a f ≡ makers b f
  unfolding makers
  same_makers f = sym (makers_from_bare 0 a f) ∙ ap (λ (l : List Step). makers_from 0 l f) e ∙ makers_from_bare 0 b f

  pub same_tables : {files : ℕ} {mentions ends phony made : List ℕ} → HoldsColumns b files mentions ends phony made → HoldsColumns a files mentions ends phony made
  same_tables h =
      record {
        mentioned = h.mentioned ∙ sym (mentions_bare b) ∙ sym (ap (λ (l : List Step). concat (map mentions_of l)) e) ∙ mentions_bare a;
        ended = h.ended ∙ sym (ends_bare 0 b) ∙ sym (ap (step_ends_from 0) e) ∙ ends_bare 0 a;
        phonies =
            h.phonies ∙ sym (phony_bare b) ∙ sym (ap (map (λ (s : Step). bit (is_phony s.rule))) e) ∙ phony_bare a;
        counted = h.counted;
        makes = λ f d. same_makers f ∙ h.makes f d;
        low = h.low;
        few_steps = rw same_count h.few_steps;
        few_files = h.few_files;
        few_mentions = h.few_mentions;
      }

-- The last step with another block.
pub bare_last : (l : List Step) (s t : Step) → without_block s ≡ without_block t → map without_block (l ++ (s ∷ [])) ≡ map without_block (l ++ (t ∷ []))
bare_last [] s t e = ap (λ (x : Step). x ∷ []) e
bare_last (x ∷ l) s t e = ap (λ (r : List Step). without_block x ∷ r) (bare_last l s t e)
