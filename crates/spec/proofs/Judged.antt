-- A step that a depfile makes stale counts as one whose outputs are missing (`judged`): then each step is stale as it is told to be, and a fresh one has
-- the time that it is told to have. A stale maker decides before any time does, so that the times which are changed decide nothing.
use Prim.Native.Nat.{ℕ, zero, suc, ◌<◌}
use native.Mathlib.Omega.{arith}
use mathlib.Core.Path.{◌≡◌, refl, sym, ap, ap₂, subst, ◌∙◌}
use mathlib.Core.Bool.{Bool, true, false, ◌&&◌, ◌||◌}
use mathlib.Core.List.{List, [], ◌∷◌}
use lib.Dec.{eqb, ltb}
use lib.ListN.{length, get_or}
use Rattle.lists.specs.Tests.{if_b, split, differ}
use Rattle.lists.specs.Members.{◌∈◌, here, place, place_before, in_at, any, any_true, any_false, true_any}
use Rattle.orders.specs.Order.{IsOrder}
use Rattle.orders.specs.Greedy.{By}
use Rattle.orders.specs.Reach.{Closed, direct_earlier}
use Rattle.orders.specs.Along.{Solves}
use Rattle.spec.specs.Basics.{is_empty}
use Rattle.spec.specs.Reading.{Step}
use Rattle.spec.specs.Graph.{inputs, non_order_only, step_at, makers, makers_of, before}
use Rattle.spec.specs.Stale.{Verdict, phony_step, made_time, time_of, greatest, newest_input, maker_stale, output_missing, stale_command, stale_phony, verdict}
use Rattle.spec.specs.Headers.{Listed, nothing_listed, listed_of, forced, judged}
use Rattle.spec.specs.Words.{Makes}
use Rattle.spec.proofs.Graph.{in_makers, in_makers_of, makers_of_in}
use Rattle.spec.proofs.Stale.{told_verdict, any_same, map_same, counted_input}

-- what is true of the steps of every manifest, and of their depfiles
pub record SoundSteps (steps : List Step) (ls : List Listed) : Type 0 where
  -- 8 refuses an output made twice
  pub once : (m k f : ℕ) → Makes steps m f → Makes steps k f → m ≡ k
  -- "one output at least"
  pub output : (s : ℕ) → s < length steps → is_empty (step_at steps s).outs ≡ false
  -- "Every non-phony step is checked", and no other
  pub commands : (s : ℕ) → phony_step steps s ≡ true → listed_of ls s ≡ nothing_listed

-- the same of stale, and of the time of a fresh step
pub record Agree (a b : Verdict) : Type 0 where
  pub stale : a.stale ≡ b.stale
  pub time : a.stale ≡ false → a.time ≡ b.time

module _ (steps : List Step) (card : ℕ → ℕ) (ls : List Listed) (w : SoundSteps steps ls) where
  abbrev is_forced : ℕ → Bool
  is_forced = forced steps card ls

  abbrev time : ℕ → ℕ
  time = judged steps card ls

  forced_command : (s : ℕ) → phony_step steps s ≡ true → is_forced s ≡ false
  unfolding forced any
  forced_command s p = rw (w.commands s p) refl

  -- a file that no forced step makes has the card's time
  as_on_card : (f : ℕ) → any is_forced (makers steps f) ≡ false → time f ≡ card f
  unfolding judged
  as_on_card f e = rw e

  -- and so has an output of a step that is not forced
  own_output : (s f : ℕ) → Makes steps s f → is_forced s ≡ false → time f ≡ card f
  own_output s f o n =
      as_on_card f
      (split (any is_forced (makers steps f))
      (λ (e : any is_forced (makers steps f) ≡ true).
      let (m, h, t) = any_true is_forced (makers steps f) e in
      differ (subst (λ (x : ℕ). is_forced x ≡ true) (w.once m s f ((in_makers steps f).0 h) o) t) n)
      (λ (e : any is_forced (makers steps f) ≡ false). e))

  -- every output of a forced step is missing
  forced_missing : (s : ℕ) → s < length steps → is_forced s ≡ true → output_missing steps time s ≡ true
  unfolding output_missing judged any
  forced_missing s b e = go (step_at steps s).outs refl (w.output s b)
    where
      go : (l : List ℕ) → (step_at steps s).outs ≡ l → is_empty l ≡ false → any (λ f. eqb (time f) 0) l ≡ true
      go [] q h = differ refl h
      go (f ∷ l) q h =
          let o : Makes steps s f = record { step = b; output = subst (λ (r : List ℕ). f ∈ r) (sym q) (here refl) } in
          rw (true_any is_forced (makers steps f) ((in_makers steps f).1 o) e) refl

  module _ (g h : ℕ → Verdict) (s : ℕ) (low : s < length steps) (same : (m : ℕ) → m ∈ before steps s → Agree (g m) (h m))
      (stale : (m : ℕ) → m ∈ before steps s → is_forced m ≡ true → (g m).stale ≡ true) where
    of_maker : {f m : ℕ} → f ∈ non_order_only (step_at steps s) → m ∈ makers steps f → m ∈ before steps s
    unfolding before
    of_maker {f} i j = makers_of_in steps (counted_input (step_at steps s) i) ((in_makers steps f).0 j)

    makers_agree : maker_stale steps g s ≡ maker_stale steps h s
    unfolding maker_stale
    makers_agree =
        any_same (λ m. (g m).stale) (λ m. (h m).stale) (makers_of steps (non_order_only (step_at steps s)))
        (λ m i. let (f, j, k) = in_makers_of steps (non_order_only (step_at steps s)) i in (same m (of_maker j ((in_makers steps f).1 k))).stale)

    -- a stale maker makes both stale
    by_maker : maker_stale steps g s ≡ true → Agree (told_verdict steps card ls g s) (verdict steps time h s)
    unfolding told_verdict verdict stale_command stale_phony
    by_maker e =
        let d : maker_stale steps h s ≡ true = sym makers_agree ∙ e in
        split (phony_step steps s)
        (λ (p : phony_step steps s ≡ true). rw (p, e, d) (record { stale = refl; time = λ q. differ refl q }))
        (λ (p : phony_step steps s ≡ false). rw (p, e, d) (record { stale = refl; time = λ q. differ refl q }))

    module _ (fresh : maker_stale steps g s ≡ false) where
      maker_fresh : {f m : ℕ} → f ∈ non_order_only (step_at steps s) → m ∈ makers steps f → (g m).stale ≡ false
      unfolding maker_stale
      maker_fresh {f} {m} i j =
          any_false (λ m. (g m).stale) (makers_of steps (non_order_only (step_at steps s))) fresh (makers_of_in steps i ((in_makers steps f).0 j))

      input_time : (f : ℕ) → f ∈ non_order_only (step_at steps s) → time f ≡ card f
      input_time f i =
          as_on_card f
          (split (any is_forced (makers steps f))
          (λ (e : any is_forced (makers steps f) ≡ true).
          let (m, j, t) = any_true is_forced (makers steps f) e in
          differ (stale m (of_maker i j) t) (maker_fresh i j))
          (λ (e : any is_forced (makers steps f) ≡ false). e))

      made_agree : (f : ℕ) → f ∈ non_order_only (step_at steps s) → (ms : List ℕ) → makers steps f ≡ ms → made_time steps g ms ≡ made_time steps h ms
      unfolding made_time
      made_agree f i [] q = refl
      made_agree f i (m ∷ ms) q =
          let j : m ∈ makers steps f = subst (λ (l : List ℕ). m ∈ l) (sym q) (here refl) in
          ap (λ (t : ℕ). if_b (phony_step steps m) (λ _. t) (λ _. 0)) ((same m (of_maker i j)).time (maker_fresh i j))

      time_agree : (f : ℕ) → f ∈ non_order_only (step_at steps s) → time_of steps card g f ≡ time_of steps time h f
      unfolding time_of
      time_agree f i = rw (input_time f i, made_agree f i (makers steps f) refl)

      newest_agree : newest_input steps card g s ≡ newest_input steps time h s
      unfolding newest_input
      newest_agree = ap greatest (map_same (time_of steps card g) (time_of steps time h) (non_order_only (step_at steps s)) time_agree)

      module _ (free : is_forced s ≡ false) where
        out_time : (f : ℕ) → f ∈ (step_at steps s).outs → time f ≡ card f
        out_time f i = own_output s f (record { step = low; output = i }) free

        missing_agree : output_missing steps card s ≡ output_missing steps time s
        unfolding output_missing
        missing_agree = any_same (λ f. eqb (card f) 0) (λ f. eqb (time f) 0) (step_at steps s).outs (λ f i. ap (λ (t : ℕ). eqb t 0) (sym (out_time f i)))

        older_agree : any (λ f. ltb (card f) (newest_input steps card g s)) (step_at steps s).outs ≡ any (λ f. ltb (time f) (newest_input steps time h s)) (step_at steps s).outs
        older_agree =
            any_same (λ f. ltb (card f) (newest_input steps card g s)) (λ f. ltb (time f) (newest_input steps time h s)) (step_at steps s).outs
            (λ f i. ap₂ (λ (a b : ℕ). ltb a b) (sym (out_time f i)) newest_agree)

        phony_agree : stale_phony steps card g s ≡ stale_phony steps time h s
        unfolding stale_phony
        phony_agree = ap₂ (λ (a b : Bool). a || (is_empty (inputs (step_at steps s)) && b)) makers_agree missing_agree

        command_agree : stale_command steps card g s ≡ stale_command steps time h s
        unfolding stale_command
        command_agree = ap₂ (λ (a b : Bool). a || b) (ap₂ (λ (a b : Bool). a || b) makers_agree missing_agree) older_agree

        all_agree : Agree (told_verdict steps card ls g s) (verdict steps time h s)
        unfolding told_verdict verdict
        all_agree =
            split (phony_step steps s)
            (λ (p : phony_step steps s ≡ true). rw p (record { stale = phony_agree; time = λ q. newest_agree }))
            (λ (p : phony_step steps s ≡ false). rw (p, free) (record { stale = or_none_law (stale_command steps card g s) ∙ command_agree; time = λ q. newest_agree }))
          where
            or_none_law : (b : Bool) → (b || false) ≡ b
            or_none_law true = refl
            or_none_law false = refl

      -- a forced step is stale both ways
      both_stale_law : is_forced s ≡ true → Agree (told_verdict steps card ls g s) (verdict steps time h s)
      unfolding told_verdict verdict stale_command
      both_stale_law e =
          split (phony_step steps s)
          (λ (p : phony_step steps s ≡ true). differ e (forced_command s p))
          (λ (p : phony_step steps s ≡ false).
          rw (p, e, forced_missing s low e) (record { stale = or_all (stale_command steps card g s) ∙ sym (or_mid (maker_stale steps h s) (any (λ f. ltb (time f) (newest_input steps time h s)) (step_at steps s).outs)); time = λ q. differ (or_all (stale_command steps card g s)) q }))
        where
          or_all : (b : Bool) → (b || true) ≡ true
          or_all true = refl
          or_all false = refl

          or_mid : (a b : Bool) → (a || true || b) ≡ true
          or_mid true b = refl
          or_mid false b = refl

    agree : Agree (told_verdict steps card ls g s) (verdict steps time h s)
    agree =
        split (maker_stale steps g s) (λ (e : maker_stale steps g s ≡ true). by_maker e)
        (λ (e : maker_stale steps g s ≡ false).
        split (is_forced s) (λ (t : is_forced s ≡ true). both_stale_law e t) (λ (t : is_forced s ≡ false). all_agree e t))

  -- a forced step is told to be stale
  forced_stale : (g : ℕ → Verdict) (s : ℕ) → is_forced s ≡ true → (told_verdict steps card ls g s).stale ≡ true
  unfolding told_verdict
  forced_stale g s e =
      split (phony_step steps s) (λ (p : phony_step steps s ≡ true). differ e (forced_command s p))
      (λ (p : phony_step steps s ≡ false). rw (p, e) (or_all (stale_command steps card g s)))
    where
      or_all : (b : Bool) → (b || true) ≡ true
      or_all true = refl
      or_all false = refl

  -- along an order of steps: the verdicts that are told and those that are computed by `judged` agree
  pub judged_agrees : {Want : ℕ → Type 0} {l : List ℕ} → Closed (before steps) Want → IsOrder Want (By (before steps)) l → ((s : ℕ) → Want s → s < length steps)
      → (g h : ℕ → Verdict) → Solves (told_verdict steps card ls) Want g → Solves (verdict steps time) Want h → (s : ℕ) → Want s → Agree (g s) (h s)
  judged_agrees {Want} {l} closed o low g h p q s x = let (i, b, e) = place (o.lists.each s x) in subst (λ (t : ℕ). Agree (g t) (h t)) e (go (suc i) i (omega arith) b)
    where
      go : (n i : ℕ) → i < n → i < length l → Agree (g (get_or l i 0)) (h (get_or l i 0))
      go zero i c₀ b = absurd (omega arith)
      go (suc n) i c₀ b =
          let t : ℕ = get_or l i 0 in
          let y : Want t = o.lists.no_others t (in_at l i b) in
          let a : Agree (told_verdict steps card ls g t) (verdict steps time h t) =
          agree g h t (low t y)
          (λ m k. let (j, c, d, e) = place_before i l (direct_earlier closed o i b m k) in subst (λ (u : ℕ). Agree (g u) (h u)) e (go n j (omega arith) d))
          (λ m k f. ap (λ (v : Verdict). v.stale) (p m (closed t y m k)) ∙ forced_stale g m f) in
          record {
            stale = ap (λ (v : Verdict). v.stale) (p t y) ∙ a.stale ∙ sym (ap (λ (v : Verdict). v.stale) (q t y));
            time = λ e. ap (λ (v : Verdict). v.time) (p t y) ∙ a.time (sym (ap (λ (v : Verdict). v.stale) (p t y)) ∙ e) ∙ sym (ap (λ (v : Verdict). v.time) (q t y));
          }
