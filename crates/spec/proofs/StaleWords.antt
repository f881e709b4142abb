-- What `told_verdict` computes of a step is what document 01's sentences about stale and time say, with document 02's about its depfile, and nothing
-- else is.
use Prim.Native.Nat.{ℕ, max, ◌≤◌, ◌<◌}
use native.Mathlib.Omega.{arith}
use mathlib.Core.Path.{◌≡◌, refl, sym, ap, ap₂, subst, ◌∙◌}
use mathlib.Core.Logic.{◌⊎◌, inl, inr, ◌↔◌}
use mathlib.Core.Bool.{Bool, true, false, ◌&&◌, ◌||◌}
use mathlib.Core.List.{List, [], ◌∷◌, map}
use borrow.Author.Tests.{eqb-true, eqb-false, eq-eqb, ltb-true, ltb-false, lt-ltb}
use lib.Dec.{eqb, ltb}
use Rattle.lists.specs.Tests.{split, differ, or_true, and_true, and_left, and_right}
use Rattle.lists.specs.Members.{◌∈◌, here, there, not_in_nil, any, any_true, true_any}
use Rattle.spec.specs.Basics.{is_empty}
use Rattle.spec.specs.Reading.{Step}
use Rattle.spec.specs.Graph.{inputs, non_order_only, step_at, makers, makers_of}
use Rattle.spec.specs.Stale.{Verdict, phony_step, made_time, time_of, greatest, newest_input, maker_stale, output_missing, stale_command, stale_phony}
use Rattle.spec.specs.Headers.{Listed, listed_of, forced}
use Rattle.spec.specs.Words.{TimeIs, by_maker, by_card, InputTime, Greatest, MakerStale, OutputMissing, OutputBelow, CommandStale, maker_stale_law, missing, below, by_depfile, StaleByDepfile, depfile_missing, listed_missing, PhonyStale, such_maker, no_inputs, Sentences}
use Rattle.spec.proofs.Graph.{in_makers, in_makers_of, makers_of_in, maker_first, no_maker, maker_once}
use Rattle.spec.proofs.Sources.{empty_none, none_empty, or_left, or_right}
use Rattle.spec.proofs.Stale.{told_verdict}

-- ------------------------------------------------------------------ the greatest of some numbers

in_map : (g : ℕ → ℕ) (l : List ℕ) {t : ℕ} → t ∈ map g l → (f : ℕ) × (f ∈ l) × (t ≡ g f)
in_map g [] h = absurd (not_in_nil h)
in_map g (x ∷ l) (here e) = (x, here refl, e)
in_map g (x ∷ l) (there h) = let (f, i, e) = in_map g l h in (f, there i, e)

map_in : (g : ℕ → ℕ) {f : ℕ} {l : List ℕ} → f ∈ l → g f ∈ map g l
map_in g (here e) = here (ap g e)
map_in g (there h) = there (map_in g h)

greatest_above : (l : List ℕ) {t : ℕ} → t ∈ l → t ≤ greatest l
unfolding greatest
greatest_above (u ∷ l) (here e) = omega (arith, e)
greatest_above (u ∷ l) (there h) = let b = greatest_above l h in omega (arith, b)
greatest_above [] {t = t} x' = elim x' [ ]

greatest_in : (u : ℕ) (l : List ℕ) → greatest (u ∷ l) ∈ u ∷ l
unfolding greatest
greatest_in u [] = here {y = u} (omega arith)
greatest_in u (w ∷ l) =
    let g : ℕ = greatest (w ∷ l) in
    split (ltb g u)
    (λ (e : ltb g u ≡ true). let b = ltb-true g u e in here {y = u} (omega (arith, b)))
    (λ (e : ltb g u ≡ false).
    let b = ltb-false g u e in
    let q : g ≡ max u g = omega (arith, b) in
    there (subst (λ (x : ℕ). x ∈ w ∷ l) q (greatest_in w l)))

module _ {Is : ℕ → Type 0} where
  greatest_least : {t u : ℕ} → Greatest Is t → Greatest Is u → t ≤ u
  greatest_least {t} {u} a b = elim a.attained [
    | inl p ↦ b.none_above t p
    | inr z ↦ (let e : t ≡ 0 = z.0 in omega (arith, e))
  ]

  greatest_once : {t u : ℕ} → Greatest Is t → Greatest Is u → t ≡ u
  greatest_once a b = omega (arith, greatest_least a b, greatest_least b a)

-- two tests of one statement
same_test : {a b : Bool} {P : Type 0} → (a ≡ true) ↔ P → (b ≡ true) ↔ P → a ≡ b
same_test {a} {b} f g =
    split a (λ (e : a ≡ true). e ∙ sym (g.1 (f.0 e)))
    (λ (e : a ≡ false). split b (λ (h : b ≡ true). differ (f.1 (g.0 h)) e) (λ (h : b ≡ false). e ∙ sym h))

abbrev told_of : Bool → ℕ → Verdict
told_of b t = record { stale = b; time = t }

module _ (steps : List Step) (card : ℕ → ℕ) (ls : List Listed) (v : ℕ → Verdict) where
  -- ------------------------------------------------------------------ the time of a file

  made_time_law : (f : ℕ) → card f ≡ 0 → (ms : List ℕ) → makers steps f ≡ ms → TimeIs steps card v f (made_time steps v ms)
  unfolding made_time
  made_time_law f z [] e = by_card (λ m w. no_maker steps f e m w.made.made) (sym z)
  made_time_law f z (m ∷ ms) e =
      split (phony_step steps m)
      (λ (p : phony_step steps m ≡ true). rw p (by_maker m (record { made = maker_first steps f e; phony = p; absent = z }) refl))
      (λ (p : phony_step steps m ≡ false).
      rw p (by_card (λ k w. differ (subst (λ (x : ℕ). phony_step steps x ≡ true) (maker_once w.made (maker_first steps f e)) w.phony) p) (sym z)))

  on_card : (f : ℕ) → eqb (card f) 0 ≡ false → TimeIs steps card v f (card f)
  on_card f e = by_card (λ m w. eqb-false (card f) 0 e w.absent) refl

  time_is : (f : ℕ) → TimeIs steps card v f (time_of steps card v f)
  unfolding time_of
  time_is f =
      split (eqb (card f) 0)
      (λ (e : eqb (card f) 0 ≡ true). rw e (made_time_law f (eqb-true (card f) 0 e) (makers steps f) refl))
      (λ (e : eqb (card f) 0 ≡ false). rw e (on_card f e))

  -- a file has one time
  pub time_once : {f t u : ℕ} → TimeIs steps card v f t → TimeIs steps card v f u → t ≡ u
  time_once (by_maker m w a) (by_maker k x b) = a ∙ ap (λ (j : ℕ). (v j).time) (maker_once w.made x.made) ∙ sym b
  time_once (by_maker m w a) (by_card n b) = absurd (n m w)
  time_once (by_card n a) (by_maker m w b) = absurd (n m w)
  time_once (by_card n a) (by_card p b) = a ∙ sym b

  pub time_words : (f t : ℕ) → (t ≡ time_of steps card v f) ↔ TimeIs steps card v f t
  time_words f t = (λ e. subst (λ (x : ℕ). TimeIs steps card v f x) (sym e) (time_is f), λ w. time_once w (time_is f))

  -- ------------------------------------------------------------------ the greatest time of the inputs

  newest_in : (fs : List ℕ)
      → ((f : ℕ) × (f ∈ fs) × TimeIs steps card v f (greatest (map (time_of steps card v) fs)))
      ⊎ ((greatest (map (time_of steps card v) fs) ≡ 0) × ((f : ℕ) → ¬ (f ∈ fs)))
  unfolding greatest
  newest_in [] = inr (refl, λ f h. not_in_nil h)
  newest_in (f ∷ fs) =
      let (x, i, e) = in_map (time_of steps card v) (f ∷ fs) (greatest_in (time_of steps card v f) (map (time_of steps card v) fs)) in
      inl (x, i, (time_words x (greatest (map (time_of steps card v) (f ∷ fs)))).0 e)

  module _ (s : ℕ) where
    newest_words : Greatest (InputTime steps card v s) (newest_input steps card v s)
    unfolding newest_input
    newest_words = record {
      none_above = λ u w.
          let b = greatest_above (map (time_of steps card v) (non_order_only (step_at steps s))) (map_in (time_of steps card v) w.input) in
          omega (arith, b, (time_words w.file u).1 w.time);
      attained = elim (newest_in (non_order_only (step_at steps s))) [
        | inl a ↦ inl (record { file = a.0; input = a.1; time = a.2 })
        | inr z ↦ inr (z.0, λ u w. z.1 w.file w.input)
      ];
    }

    -- ------------------------------------------------------------------ stale

    maker_words : (maker_stale steps v s ≡ true) ↔ MakerStale steps v s
    unfolding maker_stale
    maker_words = (
      λ e. let (m, h, q) = any_true (λ m. (v m).stale) (makers_of steps (non_order_only (step_at steps s))) e in
          let (f, i, w) = in_makers_of steps (non_order_only (step_at steps s)) h in
          record { file = f; input = i; step = m; made = w; stale = q },
      λ w. true_any (λ m. (v m).stale) (makers_of steps (non_order_only (step_at steps s))) (makers_of_in steps w.input w.made) w.stale,
    )

    missing_words : (output_missing steps card s ≡ true) ↔ OutputMissing steps card s
    unfolding output_missing
    missing_words = (
      λ e. let (f, h, q) = any_true (λ f. eqb (card f) 0) (step_at steps s).outs e in record { file = f; output = h; absent = eqb-true (card f) 0 q },
      λ w. true_any (λ f. eqb (card f) 0) (step_at steps s).outs w.output (eq-eqb (card w.file) 0 w.absent),
    )

    -- an output that is older than the newest input
    older : ℕ → Bool
    older f = ltb (card f) (newest_input steps card v s)

    older_stale : {f : ℕ} → f ∈ (step_at steps s).outs → card f < newest_input steps card v s → CommandStale steps card ls v s
    older_stale {f} h l =
        split (eqb (card f) 0)
        (λ (e : eqb (card f) 0 ≡ true). missing (record { file = f; output = h; absent = eqb-true (card f) 0 e }))
        (λ (e : eqb (card f) 0 ≡ false).
        elim newest_words.attained [
          | inl p ↦ below (record { file = f; output = h; old = card f; time = on_card f e; new = newest_input steps card v s; input = p; below = l })
          | inr z ↦ (let q : newest_input steps card v s ≡ 0 = z.0 in absurd (omega (arith, q, l)))
        ])

    missing_test : OutputMissing steps card s → (maker_stale steps v s || output_missing steps card s || any older (step_at steps s).outs) ≡ true
    missing_test w =
        or_left (maker_stale steps v s || output_missing steps card s) (any older (step_at steps s).outs)
        (or_right (maker_stale steps v s) (output_missing steps card s) (missing_words.1 w))

    -- "A missing depfile makes its step stale; so does a missing listed file without a maker"
    lost : ℕ → Bool
    lost f = is_empty (makers steps f) && eqb (card f) 0

    depfile_words : (forced steps card ls s ≡ true) ↔ StaleByDepfile steps card ls s
    unfolding forced lost
    depfile_words = (
      λ e. elim (or_true (listed_of ls s).missing (any lost (listed_of ls s).files) e) [
        | inl p ↦ depfile_missing p
        | inr q ↦ (let (f, h, t) = any_true lost (listed_of ls s).files q in
            listed_missing f h (eqb-true (card f) 0 (and_right (is_empty (makers steps f)) (eqb (card f) 0) t))
            (λ m w. empty_none (makers steps f) (and_left (is_empty (makers steps f)) (eqb (card f) 0) t) m ((in_makers steps f).1 w)))
      ],
      depfile_test,
    )
      where
        depfile_test : StaleByDepfile steps card ls s → ((listed_of ls s).missing || any lost (listed_of ls s).files) ≡ true
        depfile_test (depfile_missing e) = or_left (listed_of ls s).missing (any lost (listed_of ls s).files) e
        depfile_test (listed_missing f h e n) =
            or_right (listed_of ls s).missing (any lost (listed_of ls s).files)
            (true_any lost (listed_of ls s).files h
            (and_true (is_empty (makers steps f)) (eqb (card f) 0) (none_empty (makers steps f) (λ m i. n m ((in_makers steps f).0 i))) (eq-eqb (card f) 0 e)))

    below_test : OutputBelow steps card v s → (maker_stale steps v s || output_missing steps card s || any older (step_at steps s).outs) ≡ true
    unfolding older
    below_test w =
        let f : ℕ = w.file in
        split (eqb (card f) 0)
        (λ (e : eqb (card f) 0 ≡ true). missing_test (record { file = f; output = w.output; absent = eqb-true (card f) 0 e }))
        (λ (e : eqb (card f) 0 ≡ false).
        let q : w.old ≡ card f = time_once w.time (on_card f e) in
        let l : w.new ≤ newest_input steps card v s = newest_words.none_above w.new w.input in
        or_right (maker_stale steps v s || output_missing steps card s) (any older (step_at steps s).outs)
        (true_any older (step_at steps s).outs w.output (lt-ltb (card f) (newest_input steps card v s) (omega (arith, q, l, w.below)))))

    command_test : CommandStale steps card ls v s → (stale_command steps card v s || forced steps card ls s) ≡ true
    unfolding stale_command older
    command_test (maker_stale_law w) =
        or_left (stale_command steps card v s) (forced steps card ls s)
        (or_left (maker_stale steps v s || output_missing steps card s) (any older (step_at steps s).outs)
        (or_left (maker_stale steps v s) (output_missing steps card s) (maker_words.1 w)))
    command_test (missing w) = or_left (stale_command steps card v s) (forced steps card ls s) (missing_test w)
    command_test (below w) = or_left (stale_command steps card v s) (forced steps card ls s) (below_test w)
    command_test (by_depfile w) = or_right (stale_command steps card v s) (forced steps card ls s) (depfile_words.1 w)

    computed_stale : stale_command steps card v s ≡ true → CommandStale steps card ls v s
    unfolding stale_command older
    computed_stale e = elim (or_true (maker_stale steps v s || output_missing steps card s) (any older (step_at steps s).outs) e) [
      | inl a ↦ elim (or_true (maker_stale steps v s) (output_missing steps card s) a) [
        | inl p ↦ maker_stale_law (maker_words.0 p)
        | inr q ↦ missing (missing_words.0 q)
      ]
      | inr b ↦ (let (f, h, q) = any_true older (step_at steps s).outs b in older_stale h (ltb-true (card f) (newest_input steps card v s) q))
    ]

    command_words : ((stale_command steps card v s || forced steps card ls s) ≡ true) ↔ CommandStale steps card ls v s
    command_words = (
      λ e. elim (or_true (stale_command steps card v s) (forced steps card ls s) e) [
        | inl a ↦ computed_stale a
        | inr b ↦ by_depfile (depfile_words.0 b)
      ],
      command_test,
    )

    phony_test : PhonyStale steps card v s → (maker_stale steps v s || (is_empty (inputs (step_at steps s)) && output_missing steps card s)) ≡ true
    phony_test (such_maker w) =
        or_left (maker_stale steps v s) (is_empty (inputs (step_at steps s)) && output_missing steps card s) (maker_words.1 w)
    phony_test (no_inputs n w) =
        or_right (maker_stale steps v s) (is_empty (inputs (step_at steps s)) && output_missing steps card s)
        (and_true (is_empty (inputs (step_at steps s))) (output_missing steps card s) (none_empty (inputs (step_at steps s)) n) (missing_words.1 w))

    phony_words : (stale_phony steps card v s ≡ true) ↔ PhonyStale steps card v s
    unfolding stale_phony
    phony_words = (
      λ e. elim (or_true (maker_stale steps v s) (is_empty (inputs (step_at steps s)) && output_missing steps card s) e) [
        | inl p ↦ such_maker (maker_words.0 p)
        | inr q ↦ no_inputs (empty_none (inputs (step_at steps s)) (and_left (is_empty (inputs (step_at steps s))) (output_missing steps card s) q))
            (missing_words.0 (and_right (is_empty (inputs (step_at steps s))) (output_missing steps card s) q))
      ],
      phony_test,
    )

    -- ------------------------------------------------------------------ the law

    of_command : phony_step steps s ≡ false → (told_verdict steps card ls v s).stale ≡ (stale_command steps card v s || forced steps card ls s)
    unfolding told_verdict
    of_command p = rw p

    of_phony : phony_step steps s ≡ true → (told_verdict steps card ls v s).stale ≡ stale_phony steps card v s
    unfolding told_verdict
    of_phony p = rw p

    of_time : (told_verdict steps card ls v s).time ≡ newest_input steps card v s
    unfolding told_verdict
    of_time = refl

    computed_words : v s ≡ told_verdict steps card ls v s → Sentences steps card ls v s
    computed_words e = record {
      command = λ p.
          let q : (v s).stale ≡ (stale_command steps card v s || forced steps card ls s) = ap (λ (x : Verdict). x.stale) e ∙ of_command p in
          (λ h. command_words.0 (sym q ∙ h), λ w. q ∙ command_words.1 w);
      phony = λ p.
          let q : (v s).stale ≡ stale_phony steps card v s = ap (λ (x : Verdict). x.stale) e ∙ of_phony p in
          (λ h. phony_words.0 (sym q ∙ h), λ w. q ∙ phony_words.1 w);
      time = subst (λ (t : ℕ). Greatest (InputTime steps card v s) t) (sym (ap (λ (x : Verdict). x.time) e ∙ of_time)) newest_words;
    }

    words_computed : Sentences steps card ls v s → v s ≡ told_verdict steps card ls v s
    words_computed w =
        let a : (v s).stale ≡ (told_verdict steps card ls v s).stale =
        split (phony_step steps s) (λ (p : phony_step steps s ≡ true). same_test (w.phony p) phony_words ∙ sym (of_phony p))
        (λ (p : phony_step steps s ≡ false). same_test (w.command p) command_words ∙ sym (of_command p)) in
        let b : (v s).time ≡ (told_verdict steps card ls v s).time = greatest_once w.time newest_words ∙ sym of_time in
        ap₂ told_of a b

    pub verdict_words : (v s ≡ told_verdict steps card ls v s) ↔ Sentences steps card ls v s
    verdict_words = (computed_words, words_computed)
