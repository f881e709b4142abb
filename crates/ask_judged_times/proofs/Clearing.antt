-- The times of what marked steps make are cleared, and what is left are the times by which steps are judged.
use Prim.Native.Nat.{ℕ, suc, ◌+◌, ◌-◌, ◌≤◌, ◌<◌}
use native.Mathlib.Decide.{dec_lt, ℕ_discrete}
use native.Mathlib.Omega.{arith}
use mathlib.Core.Path.{◌≡◌, refl, sym, ap, ◌∙◌, subst}
use mathlib.Core.Bool.{Bool, true, false, ◌&&◌, ◌||◌}
use mathlib.Core.List.{List}
use lib.Dec.{eqb}
use lib.ListN.{length, get_or, set, length-set, length-map, get_or-map, get_or-eq_default}
use lib.Seq.{get_or-set_same, get_or-set_other}
use Rattle.lists.specs.Tests.{if_b}
use Rattle.lists.specs.Members.{◌∈◌, any}
use Rattle.spec.specs.Basics.{is_empty}
use Rattle.spec.specs.Reading.{Step}
use Rattle.spec.specs.Graph.{makers}
use Rattle.spec.specs.Headers.{Listed, nothing_listed, listed_of, forced, judged}
use Rattle.spec.proofs.Stale.{any_same}
use Rattle.hold_columns.specs.Columns.{bit, made_by, maker_in, HoldsColumns}
use Rattle.hold_columns.proofs.Makers.{in_maker_in}
use Rattle.hold_columns.proofs.Held.{held_makers}
use Rattle.graph_stale.specs.Judge.{time_at}
use Rattle.graph_stale.proofs.Judging.{bit_test}
use Rattle.ask_judged_times.specs.Lists.{HoldsLists, some_absent, forced_in, marked_maker, JudgedAsked, MarksAsked, ClearAsked, ForcedMarked, TimesCleared, TimesJudged}

-- ---- the maker's mark

module _ (made marks : List ℕ) (f : ℕ) {m : ℕ} (e : m ≡ get_or made f 0) where
  pub unmade : m ≡ 0 → false ≡ marked_maker made marks f
  unfolding marked_maker maker_in made_by any
  unmade z = rw (← e, z)

  pub by_mark : (m ≡ 0 → ⊥) → {v : ℕ} → v ≡ get_or marks (m - 1) 0 → eqb v 1 ≡ marked_maker made marks f
  unfolding marked_maker maker_in made_by any
  by_mark d {v} h = let w : get_or made f 0 ≡ suc (m - 1) = omega arith in rw (w, ← h) (sym (or_none_law (eqb v 1)))
    where
      or_none_law : (b : Bool) → (b || false) ≡ b
      or_none_law true = refl
      or_none_law false = refl

no_mark : (made marks : List ℕ) (u : ℕ) → length made ≤ u → marked_maker made marks u ≡ false
no_mark made marks u b = sym (unmade made marks u refl (get_or-eq_default made 0 {n = u} b))

-- ---- the times of the files below f are cleared

pub record Clearing (made marks times now : List ℕ) (f : ℕ) : Type 0 where
  pub within : f ≤ length made
  pub long : length now ≡ length times
  pub done : (u : ℕ) → u < f → time_at now u ≡ if_b (marked_maker made marks u) (λ _. 0) (λ _. time_at times u)
  pub left : (u : ℕ) → f ≤ u → time_at now u ≡ time_at times u

module _ {made marks times : List ℕ} where
  pub clear_begin : Clearing made marks times times 0
  clear_begin = record { within = omega arith; long = refl; done = λ u b. absurd (omega arith); left = λ u b. refl }

  module _ {now : List ℕ} {f : ℕ} (r : Clearing made marks times now f) (b : f < length made) where
    pub clear_off : length times ≡ length made → marked_maker made marks f ≡ true → Clearing made marks times (set now f 0) (f + 1)
    clear_off n e = record {
      within = omega arith;
      long = simp length-set r.long;
      done = λ u c. elim (ℕ_discrete u f) [
        | yes q ↦ rw (q, e) (get_or-set_same now f 0 0 (omega (arith, r.long, n)))
        | no d ↦ get_or-set_other now f u 0 0 d ∙ r.done u (omega arith)
      ];
      left = λ u c. get_or-set_other now f u 0 0 (λ q. omega arith) ∙ r.left u (omega arith);
    }

    pub clear_on : marked_maker made marks f ≡ false → Clearing made marks times now (f + 1)
    clear_on e = record {
      within = omega arith;
      long = r.long;
      done = λ u c. elim (ℕ_discrete u f) [ yes q ↦ rw (q, e) (r.left f (omega arith)) | no d ↦ r.done u (omega arith) ];
      left = λ u c. r.left u (omega arith);
    }

  pub clear_end : {now : List ℕ} {f : ℕ} → Clearing made marks times now f → length made ≤ f → TimesCleared made marks times now
  clear_end {f = f} r b = record {
    each = λ u. elim (dec_lt u f) [
      | yes c ↦ r.done u c
      | no c ↦ rw (no_mark made marks u (omega arith)) (r.left u (omega arith))
    ];
  }

-- ---- what the functions called ask

pub ask_clear : {mentions ends made missing listed marks times after : List ℕ} → MarksAsked mentions ends made missing listed marks times
    → ForcedMarked mentions ends made missing listed times after → ClearAsked made after times
ask_clear a k = record { makers = λ f b. omega (arith, a.asked.sound.makers f b, k.long); timed = a.asked.timed }

-- ---- the times by which steps are judged

module _ {mentions ends made missing listed times marks exit : List ℕ} (a : JudgedAsked mentions ends made missing listed times)
    (k : ForcedMarked mentions ends made missing listed times marks) (z : TimesCleared made marks times exit) where
  module _ {steps : List Step} {files : ℕ} {phony : List ℕ} {lists : List Listed} (h : HoldsColumns steps files mentions ends phony made)
      (l : HoldsLists lists mentions ends missing listed) where
    lists_long : length missing ≡ length lists
    lists_long = ap length l.misses ∙ length-map lists (λ (x : Listed). bit x.missing)

    missing_held : (s : ℕ) → eqb (get_or missing s 0) 1 ≡ (listed_of lists s).missing
    missing_held s =
        ap (λ (x : List ℕ). eqb (get_or x s 0) 1) l.misses
        ∙ ap (λ (n : ℕ). eqb n 1) (get_or-map (λ (x : Listed). bit x.missing) lists s nothing_listed)
        ∙ bit_test (listed_of lists s).missing

    absent_held : (fs : List ℕ) → some_absent made times fs ≡ any (λ f. is_empty (makers steps f) && eqb (time_at times f) 0) fs
    unfolding some_absent
    absent_held fs = ap (λ (g : ℕ → List ℕ). any (λ f. is_empty (g f) && eqb (time_at times f) 0) fs) (held_makers h)

    forced_held : (s : ℕ) → s < length missing → forced_in mentions ends made missing listed times s ≡ forced steps (time_at times) lists s
    unfolding forced_in forced
    forced_held s b = rw (missing_held s, l.files s (omega (arith, b, lists_long)), absent_held (listed_of lists s).files)

    maker_step : (f m : ℕ) → m ∈ makers steps f → m < length missing
    maker_step f m w =
        let e : get_or made f 0 ≡ suc m = in_maker_in made f (subst (λ (g : ℕ → List ℕ). m ∈ g f) (sym (held_makers h)) w) in
        elim (dec_lt f (length made)) [
          | yes b ↦ omega (arith, e, a.sound.makers f b)
          | no b ↦ absurd (omega (arith, e, get_or-eq_default made 0 {n = f} (omega arith)))
        ]

    marked_held : (f : ℕ) → marked_maker made marks f ≡ any (forced steps (time_at times) lists) (makers steps f)
    unfolding marked_maker
    marked_held f =
        ap (λ (g : ℕ → List ℕ). any (λ m. eqb (get_or marks m 0) 1) (g f)) (held_makers h)
        ∙ any_same (λ m. eqb (get_or marks m 0) 1) (forced steps (time_at times) lists) (makers steps f)
        (λ m w. let b = maker_step f m w in ap (λ (n : ℕ). eqb n 1) (k.marked m b ∙ ap bit (forced_held m b)) ∙ bit_test (forced steps (time_at times) lists m))

    judges : (f : ℕ) → time_at exit f ≡ judged steps (time_at times) lists f
    unfolding judged
    judges f = z.each f ∙ ap (λ (b : Bool). if_b b (λ _. 0) (λ _. time_at times f)) (marked_held f)

  pub times_judged : TimesJudged mentions ends made missing listed times exit
  times_judged = record { judges = λ steps files phony lists h l. judges h l }
