-- The wrong planners of section "Nothing left to the fitter's choice", each shown to break the promise on a concrete ask.
use Rattle.std.specs.Prelude.{Result, Ok, Err}
use Prim.Native.Nat.{ℕ, ◌<◌}
use native.Mathlib.Omega.{arith}
use mathlib.Core.Path.{◌≡◌, sym, ap, ◌∙◌}
use mathlib.Core.List.{List, [], ◌∷◌}
use lib.ListN.{length, get_or}
use Rattle.lists.specs.Text.{bytes}
use Rattle.spec.specs.declared.Refusal.{Refusal}
use Rattle.spec.specs.declared.Wanted.TheVariants.{Command}
use Rattle.spec.specs.Answers.{number_of_refusal, Said, plan_says, text_says, says}
use Rattle.spec.specs.Bundle.{alone, no_lists}
use Rattle.spec.specs.PlanAsk.{PlanOutcome, inputs_of, plan_ask, listed}
use Rattle.spec.specs.TextAsk.{TextOutcome, text_ask, text}
use Rattle.spec.specs.Promises.{filled, AnswerIs, PlanMeets, PlanPromise, TextMeets, TextPromise}
use Rattle.spec.specs.Marked.{on, card_of, bench}
use Rattle.spec.proofs.Answers.{refusal_not_0}
use Rattle.spec.proofs.Marked.{marked}

-- the bench's card, on which steps 0 and 1 of three are stale, and the card of M1, on which only step 1 is
abbrev both_stale : List ℕ
both_stale = card_of (on "a.c" 5 ∷ on "a.o" 7 ∷ on "b.c" 5 ∷ on "t.h" 9 ∷ [])

abbrev one_stale : List ℕ
one_stale = card_of (on "a.c" 5 ∷ on "a.o" 7 ∷ on "b.c" 5 ∷ on "b.o" 7 ∷ on "t.h" 9 ∷ [])

-- what the promise says of an ask whose outcome is a list
says_list : (o : PlanOutcome) (lent exit l : List ℕ) (said : Said) → o ≡ listed l → PlanMeets o lent said exit → AnswerIs said exit (says 0 (length l)) (filled l lent)
unfolding PlanMeets
says_list o lent exit l said e p = rw e at p

module _ (lent : List ℕ) (room : length lent ≡ 512) where
  bench_both : plan_ask (inputs_of (alone bench) both_stale [] no_lists) (length lent) ≡ listed (0 ∷ 1 ∷ [])
  bench_both = rw room marked.m0

  bench_one : plan_ask (inputs_of (alone bench) one_stale [] no_lists) (length lent) ≡ listed (1 ∷ [])
  bench_one = rw room marked.m1

  both_said : (answer : Result ℕ Refusal) (exit : List ℕ) → PlanPromise (inputs_of (alone bench) both_stale [] no_lists) lent answer exit → plan_says answer ≡ says 0 2
  both_said answer exit p = (says_list (plan_ask (inputs_of (alone bench) both_stale [] no_lists) (length lent)) lent exit (0 ∷ 1 ∷ []) (plan_says answer) bench_both p).says

  -- one that refuses everything, whatever the refusal; so also one that shows an invented circle
  pub refuses : (r : Refusal) (exit : List ℕ) → PlanPromise (inputs_of (alone bench) both_stale [] no_lists) lent (Err r) exit → ⊥
  unfolding plan_says number_of_refusal
  refuses r exit p = refusal_not_0 r (ap (λ (s : Said). s.number) (both_said (Err r) exit p))

  -- an invented list length
  pub length_fixed : (n : ℕ) (exit : List ℕ) → PlanPromise (inputs_of (alone bench) both_stale [] no_lists) lent (Ok n) exit → n ≡ 2
  unfolding plan_says
  length_fixed n exit p = ap (λ (s : Said). s.value) (both_said (Ok n) exit p)

  -- one that lists none
  pub lists_none : (exit : List ℕ) → PlanPromise (inputs_of (alone bench) both_stale [] no_lists) lent (Ok 0) exit → ⊥
  lists_none exit p = let e = length_fixed 0 exit p in omega arith

  -- a reader that returns an empty graph: what is right for the empty manifest is wrong for the bench
  empty_said : plan_ask (inputs_of (alone []) both_stale [] no_lists) (length lent) ≡ listed []
  unfolding plan_ask alone
  empty_said = rw room

  pub empty_graph : (answer : Result ℕ Refusal) (exit : List ℕ) → PlanPromise (inputs_of (alone []) both_stale [] no_lists) lent answer exit → PlanPromise (inputs_of (alone bench) both_stale [] no_lists) lent answer exit → ⊥
  empty_graph answer exit p q =
      let a = (says_list (plan_ask (inputs_of (alone []) both_stale [] no_lists) (length lent)) lent exit [] (plan_says answer) empty_said p).says in
      let z : ◌≡◌ {A = ℕ} 0 2 = ap (λ (s : Said). s.value) (sym a ∙ both_said answer exit q) in
      omega arith

  -- one that lists all steps, whatever the card: all commands, or all three steps
  pub lists_all : (n : ℕ) (exit : List ℕ) → 1 < n → PlanPromise (inputs_of (alone bench) one_stale [] no_lists) lent (Ok n) exit → ⊥
  unfolding plan_says
  lists_all n exit h p =
      let e : n ≡ 1 = ap (λ (s : Said). s.value) (says_list (plan_ask (inputs_of (alone bench) one_stale [] no_lists) (length lent)) lent exit (1 ∷ []) (plan_says (Ok n)) bench_one p).says in
      omega arith

says_text : (o : TextOutcome) (lent exit t : List ℕ) (said : Said) → o ≡ text t → TextMeets o lent said exit → AnswerIs said exit (says 0 (length t)) (filled t lent)
unfolding TextMeets
says_text o lent exit t said e p = rw e at p

module _ (lent : List ℕ) (room : length lent ≡ 8192) where
  bench_text : text_ask (alone bench) 0 Command (length lent) ≡ text (bytes "cc -O1 -c b.c -o b.o")
  bench_text = rw room marked.m0_first

  bench_says : (answer : Result ℕ Refusal) (exit : List ℕ) → TextPromise (alone bench) 0 Command lent answer exit → AnswerIs (text_says answer) exit (says 0 20) (filled (bytes "cc -O1 -c b.c -o b.o") lent)
  bench_says answer exit p = says_text (text_ask (alone bench) 0 Command (length lent)) lent exit (bytes "cc -O1 -c b.c -o b.o") (text_says answer) bench_text p

  -- a text ask that refuses everything
  pub refuses_text : (r : Refusal) (exit : List ℕ) → TextPromise (alone bench) 0 Command lent (Err r) exit → ⊥
  unfolding text_says number_of_refusal
  refuses_text r exit p = refusal_not_0 r (ap (λ (s : Said). s.number) (bench_says (Err r) exit p).says)

  -- one that copies the rule unexpanded
  pub copies : (answer : Result ℕ Refusal) → TextPromise (alone bench) 0 Command lent answer (filled (bytes "cc $cflags -c $in -o $out") lent) → ⊥
  unfolding filled
  copies answer p =
      let z : ◌≡◌ {A = ℕ} 36 45 = ap (λ (l : List ℕ). get_or l 3 0) (bench_says answer (filled (bytes "cc $cflags -c $in -o $out") lent) p).leaves in
      omega arith
