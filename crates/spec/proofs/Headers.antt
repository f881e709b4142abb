-- What adding the listed inputs leaves as it was: the number of steps, their outputs and their rules; and a phony step has no list. So the steps with
-- the listed inputs are sound as those of the manifest are. And whatever refuses here is 16, 17 or 20.
use Prim.Native.Nat.{ℕ, zero, suc, ◌+◌, ◌<◌}
use native.Mathlib.Omega.{arith}
use mathlib.Core.Path.{◌≡◌, refl, sym, ◌∙◌, ap, subst}
use mathlib.Core.Bool.{Bool, true, false, not, ◌||◌}
use mathlib.Core.Option.{Option, none, some}
use mathlib.Core.List.{List, [], ◌∷◌, ◌++◌, append-nil, append_assoc}
use lib.Dec.{ltb}
use lib.ListN.{length, get_or, length-append}
use lib.Seq.{get_or-append_seam}
use Rattle.lists.specs.Tests.{if_b, split}
use Rattle.lists.specs.Members.{◌∈◌, here, there}
use Rattle.spec.specs.declared.Key.TheVariants.{Depfile as depfile_key}
use Rattle.spec.specs.declared.Refusal.{Refusal}
use Rattle.spec.specs.declared.Refusal.TheVariants.{EndlessText, LongText, BadHeaders}
use Rattle.spec.specs.Basics.{is_empty, or_else, among}
use Rattle.spec.specs.Limits.{max_text}
use Rattle.spec.specs.Answers.{number_of_refusal}
use Rattle.spec.specs.Bundle.{bundle_names, bundle_texts}
use Rattle.spec.specs.Reading.{Step, Reading, is_phony, number_of, numbers_of}
use Rattle.spec.specs.Statements.{over_counts, over_paths, mentioned}
use Rattle.spec.specs.Manifest.{with_step}
use Rattle.spec.specs.Graph.{no_step, step_at}
use Rattle.spec.specs.Stale.{phony_step}
use Rattle.spec.specs.Text.{key_name, leads_back, deep, name_text, name_refusal}
use Rattle.spec.specs.TextAsk.{text, no_text, name_outcome}
use Rattle.depfile.specs.Depfile.{depfile_rule, listed_for}
use Rattle.spec.specs.Headers.{FoundDepfile, no_depfile, missing_depfile, depfile_lists, bad_depfile, first_output, depfile_named, depfile_at, depfile_of, Listed, nothing_listed, HeaderGraph, Heading, headed, headless, with_listed, head_step, add_headers, on_headed, headers_from, stepless, with_headers, listed_of}
use Rattle.spec.specs.Words.{Makes}
use Rattle.spec.proofs.Makers.{OneMaker}
use Rattle.spec.proofs.Judged.{SoundSteps}

-- ---- a step with its listed inputs

pub record HeadOf (s after : Step) (l : Listed) : Type 0 where
  pub outs : after.outs ≡ s.outs
  pub rule : after.rule ≡ s.rule
  pub phony : is_phony s.rule ≡ true → l ≡ nothing_listed

pub data Heads : List Step → List Step → List Listed → Type 0 where
  no_heads : Heads [] [] []
  next_head : {s after : Step} {l : Listed} {ss afters : List Step} {ls : List Listed} → HeadOf s after l → Heads ss afters ls → Heads (s ∷ ss) (after ∷ afters) (l ∷ ls)

heads_last : {ss afters : List Step} {ls : List Listed} {s after : Step} {l : Listed} → Heads ss afters ls → HeadOf s after l
    → Heads (ss ++ (s ∷ [])) (afters ++ (after ∷ [])) (ls ++ (l ∷ []))
heads_last no_heads w = next_head w no_heads
heads_last (next_head x h) w = next_head x (heads_last h w)

head_at : {ss afters : List Step} {ls : List Listed} → Heads ss afters ls → (k : ℕ) → HeadOf (step_at ss k) (step_at afters k) (listed_of ls k)
head_at no_heads k = record { outs = refl; rule = refl; phony = λ e. refl }
head_at (next_head w h) zero = w
head_at (next_head w h) (suc k) = head_at h k

heads_long : {ss afters : List Step} {ls : List Listed} → Heads ss afters ls → length afters ≡ length ss
heads_long no_heads = refl
heads_long (next_head w h) = ap suc (heads_long h)

longer : (ss : List Step) (s : Step) → suc (length ss) ≡ length (ss ++ (s ∷ []))
longer ss s = let z : length (ss ++ (s ∷ [])) ≡ length ss + 1 = length-append ss (s ∷ []) in omega arith

-- ---- the steps one after another

abbrev Found : Step → FoundDepfile → Type 0
Found s d = is_phony s.rule ≡ true → d ≡ no_depfile

found_at : (headers : List ℕ) (rd : Reading) (k : ℕ) → Found (step_at rd.steps k) (depfile_of headers rd k)
unfolding depfile_of
found_at headers rd k e = rw e

-- where the steps so far have their inputs, the next one gets its own
abbrev Grows : List Step → Step → Heading → Type 0
Grows ss s (headed h) = Heads (ss ++ (s ∷ [])) h.reading.steps h.lists
Grows ss s (headless r) = Unit {0}

listed_grows : (ss : List Step) (s : Step) (l : Listed) (h : HeaderGraph) → Heads ss h.reading.steps h.lists → (is_phony s.rule ≡ true → l ≡ nothing_listed)
    → Grows ss s (headed (head_step s l h))
unfolding head_step with_step with_listed
listed_grows ss s l h w p = heads_last w (record { outs = refl; rule = refl; phony = p })

add_grows : (k : ℕ) (ss : List Step) (s : Step) (d : FoundDepfile) (h : HeaderGraph) → Heads ss h.reading.steps h.lists → Found s d → Grows ss s (add_headers k s d h)
unfolding add_headers mentioned
add_grows k ss s no_depfile h w p = listed_grows ss s nothing_listed h w (λ e. refl)
add_grows k ss s missing_depfile h w p = listed_grows ss s (record { missing = true; files = [] }) h w (λ e. absurd (let q : missing_depfile ≡ no_depfile = p e in let z : ◌≡◌ {A = ℕ} 0 1 = cc in omega arith))
add_grows k ss s (depfile_lists ns) h w p =
    split (over_paths ns || over_counts (mentioned ns h.reading))
    (λ (e : over_paths ns || over_counts (mentioned ns h.reading) ≡ true). rw e tt)
    (λ (e : over_paths ns || over_counts (mentioned ns h.reading) ≡ false).
    rw e
    (listed_grows ss s (record { missing = false; files = numbers_of (mentioned ns h.reading).files ns }) (record { reading = mentioned ns h.reading; lists = h.lists }) w
    (λ t. absurd (let q : depfile_lists ns ≡ no_depfile = p t in let z : ◌≡◌ {A = ℕ} 0 1 = cc in omega arith))))
add_grows k ss s (bad_depfile r) h w p = tt

after_head : {P : Type 0} (ss : List Step) (s : Step) (r : HeaderGraph) (f : HeaderGraph → Heading) (x : Heading)
    → ((h : HeaderGraph) → Grows ss s (headed h) → f h ≡ headed r → P) → Grows ss s x → on_headed x headless f ≡ headed r → P
unfolding on_headed
after_head ss s r f (headed h) k g e = k h g e
after_head ss s r f (headless x) k g e = absurd (let z : ◌≡◌ {A = ℕ} 0 1 = cc in omega arith)

module _ (headers : List ℕ) (rd : Reading) where
  heads_from_law : (k : ℕ) (ss l : List Step) (h r : HeaderGraph) → rd.steps ≡ ss ++ l → k ≡ length ss → Heads ss h.reading.steps h.lists
      → headers_from headers rd k l h ≡ headed r → Heads rd.steps r.reading.steps r.lists
  unfolding headers_from
  heads_from_law k ss [] h r q n w e =
      let z : h ≡ r = cc in
      subst (λ (x : HeaderGraph). Heads rd.steps x.reading.steps x.lists) z
      (subst (λ (x : List Step). Heads x h.reading.steps h.lists) (sym (q ∙ append-nil ss)) w)
  heads_from_law k ss (s ∷ l) h r q n w e =
      let at : step_at rd.steps k ≡ s = ap (λ (x : List Step). step_at x k) q ∙ ap (λ (j : ℕ). step_at (ss ++ s ∷ l) j) n ∙ get_or-append_seam ss s l no_step in
      let f : Found s (depfile_of headers rd k) = subst (λ (x : Step). Found x (depfile_of headers rd k)) at (found_at headers rd k) in
      after_head ss s r (headers_from headers rd (suc k) l) (add_headers k s (depfile_of headers rd k) h)
      (λ h' g d. heads_from_law (suc k) (ss ++ (s ∷ [])) l h' r (q ∙ sym (append_assoc ss (s ∷ []) l)) (ap suc n ∙ longer ss s) g d)
      (add_grows k ss s (depfile_of headers rd k) h w f) e

  pub heads : (r : HeaderGraph) → with_headers headers rd ≡ headed r → Heads rd.steps r.reading.steps r.lists
  unfolding with_headers stepless
  heads r e = heads_from_law 0 [] rd.steps (record { reading = stepless rd; lists = [] }) r refl refl no_heads e

pub steps_counted : (headers : List ℕ) (rd : Reading) (h : HeaderGraph) → with_headers headers rd ≡ headed h → length h.reading.steps ≡ length rd.steps
steps_counted headers rd h e = heads_long (heads headers rd h e)

-- ---- sound steps

pub headed_sound : (headers : List ℕ) (rd : Reading) (h : HeaderGraph) → OneMaker rd.steps (length rd.files) → with_headers headers rd ≡ headed h
    → SoundSteps h.reading.steps h.lists
unfolding phony_step
headed_sound headers rd h o e =
    let w = heads headers rd h e in
    let at : (k : ℕ) → HeadOf (step_at rd.steps k) (step_at h.reading.steps k) (listed_of h.lists k) = head_at w in
    let long : length h.reading.steps ≡ length rd.steps = heads_long w in
    let back : (m f : ℕ) → Makes h.reading.steps m f → Makes rd.steps m f = λ m f x. record { step = subst (λ (n : ℕ). m < n) long x.step; output = subst (λ (l : List ℕ). f ∈ l) (at m).outs x.output } in
    record {
      once = λ m k f x y. o.once m k f (back m f x) (back k f y);
      output = λ s b. subst (λ (l : List ℕ). is_empty l ≡ false) (sym (at s).outs) (o.output s (subst (λ (n : ℕ). s < n) long b));
      commands = λ s p. (at s).phony (subst (λ (n : List ℕ). is_phony n ≡ true) (at s).rule p);
    }

-- ---- refusals

abbrev pub OfHeaders : Refusal → Type 0
OfHeaders r = number_of_refusal r ∈ 16 ∷ 17 ∷ 20 ∷ []

of_endless : (s : ℕ) → OfHeaders (EndlessText s)
unfolding number_of_refusal
of_endless s = here refl

of_long : (s : ℕ) → OfHeaders (LongText s)
unfolding number_of_refusal
of_long s = there (here refl)

pub of_bad : (s : ℕ) → OfHeaders (BadHeaders s)
unfolding number_of_refusal
of_bad s = there (there (here refl))

abbrev OffFound : FoundDepfile → Type 0
OffFound no_depfile = Unit {0}
OffFound missing_depfile = Unit {0}
OffFound (depfile_lists ns) = Unit {0}
OffFound (bad_depfile r) = OfHeaders r

off_if : (b : Bool) (x y : FoundDepfile) → OffFound x → OffFound y → OffFound (if_b b (λ _. x) (λ _. y))
off_if true x y a c = a
off_if false x y a c = c

off_list : (s : ℕ) (o : Option (List (List ℕ))) → OffFound (or_else o depfile_lists (λ _. bad_depfile (BadHeaders s)))
off_list s none = of_bad s
off_list s (some ns) = tt

module _ (headers : List ℕ) (rd : Reading) where
  off_named : (s : ℕ) (n : List ℕ) → OffFound (depfile_named headers rd s n)
  unfolding depfile_named
  off_named s n =
      let l = listed_for (first_output rd s) (depfile_rule (get_or (bundle_texts headers) (number_of n (bundle_names headers)) [])) in
      let by = or_else l depfile_lists (λ _. bad_depfile (BadHeaders s)) in
      off_if (is_empty n) no_depfile (if_b (not (among n (bundle_names headers))) (λ _. missing_depfile) (λ _. by)) tt
      (off_if (not (among n (bundle_names headers))) missing_depfile by tt (off_list s l))

  off_text : (s : ℕ) (b c : Bool) (t : List ℕ)
      → OffFound (depfile_at headers rd s (or_else (if_b b (λ _. some (EndlessText s)) (λ _. if_b c (λ _. some (LongText s)) (λ _. none))) no_text (λ _. text t)))
  unfolding depfile_at
  off_text s true c t = of_endless s
  off_text s false true t = of_long s
  off_text s false false t = off_named s t

  off_found : (s : ℕ) → OffFound (depfile_of headers rd s)
  unfolding depfile_of name_outcome name_refusal
  off_found s =
      off_if (is_phony (step_at rd.steps s).rule) no_depfile (depfile_at headers rd s (name_outcome s (key_name depfile_key) rd)) tt
      (off_text s (leads_back rd (step_at rd.steps s) deep [] (key_name depfile_key)) (ltb max_text (length (name_text rd s (key_name depfile_key)))) (name_text rd s (key_name depfile_key)))

  OffHeading : Heading → Type 0
  OffHeading (headed h) = Unit {0}
  OffHeading (headless r) = OfHeaders r

  off_add : (k : ℕ) (s : Step) (d : FoundDepfile) (h : HeaderGraph) → OffFound d → OffHeading (add_headers k s d h)
  unfolding OffHeading add_headers
  off_add k s no_depfile h o = tt
  off_add k s missing_depfile h o = tt
  off_add k s (depfile_lists ns) h o =
      let b = over_paths ns || over_counts (mentioned ns h.reading) in
      split b (λ (e : b ≡ true). rw e (of_bad k)) (λ (e : b ≡ false). rw e tt)
  off_add k s (bad_depfile r) h o = o

  off_then : (x : Heading) (f : HeaderGraph → Heading) → OffHeading x → ((h : HeaderGraph) → OffHeading (f h)) → OffHeading (on_headed x headless f)
  unfolding OffHeading on_headed
  off_then (headed h) f o g = g h
  off_then (headless r) f o g = o

  off_from : (k : ℕ) (l : List Step) (h : HeaderGraph) → OffHeading (headers_from headers rd k l h)
  unfolding OffHeading headers_from
  off_from k [] h = tt
  off_from k (s ∷ l) h =
      off_then (add_headers k s (depfile_of headers rd k) h) (headers_from headers rd (suc k) l) (off_add k s (depfile_of headers rd k) h (off_found k)) (off_from (suc k) l)

  pub headers_off : (r : Refusal) → with_headers headers rd ≡ headless r → OfHeaders r
  unfolding OffHeading with_headers
  headers_off r e = subst (λ (x : Heading). OffHeading x) e (off_from 0 rd.steps (record { reading = stepless rd; lists = [] }))
