-- The files that a step's depfile lists are the last of its implicit inputs.
use Prim.Native.Nat.{ℕ, zero, suc}
use mathlib.Core.Bool.{true, false, ◌||◌}
use mathlib.Core.List.{List, [], ◌∷◌, ◌++◌}
use mathlib.Core.Path.{◌≡◌, refl, subst}
use Rattle.lists.specs.Tests.{split}
use Rattle.spec.specs.Reading.{Step, Reading, numbers_of}
use Rattle.spec.specs.Statements.{mentioned, over_paths, over_counts}
use Rattle.spec.specs.Manifest.{with_step}
use Rattle.spec.specs.Graph.{step_at}
use Rattle.spec.specs.Headers.{FoundDepfile, no_depfile, missing_depfile, depfile_lists, bad_depfile, Listed, nothing_listed, HeaderGraph, Heading, headed, headless, with_listed, head_step, add_headers, on_headed, headers_from, stepless, with_headers, depfile_of, listed_of}

data Tails : List Step → List Listed → Type 0 where
  no_tails : Tails [] []
  next_tail : {x : Step} {l : Listed} {xs : List Step} {ls : List Listed} (a : List ℕ) → x.implicit ≡ a ++ l.files → Tails xs ls → Tails (x ∷ xs) (l ∷ ls)

tails_last : {xs : List Step} {ls : List Listed} (x : Step) (l : Listed) (a : List ℕ) → Tails xs ls → x.implicit ≡ a ++ l.files → Tails (xs ++ (x ∷ [])) (ls ++ (l ∷ []))
tails_last x l a no_tails e = next_tail a e no_tails
tails_last x l a (next_tail b d t) e = next_tail b d (tails_last x l a t e)

tail_at : {xs : List Step} {ls : List Listed} → Tails xs ls → (k : ℕ) → (a : List ℕ) × ((step_at xs k).implicit ≡ a ++ (listed_of ls k).files)
tail_at no_tails k = ([], refl)
tail_at (next_tail a e t) zero = (a, e)
tail_at (next_tail a e t) (suc k) = tail_at t k

-- ---- one step after another

abbrev TailsOf : Heading → Type 0
TailsOf (headed h) = Tails h.reading.steps h.lists
TailsOf (headless r) = Unit {0}

tails_headed : (s : Step) (l : Listed) (h : HeaderGraph) → Tails h.reading.steps h.lists → TailsOf (headed (head_step s l h))
unfolding head_step with_step with_listed
tails_headed s l h t = tails_last (with_listed l.files s) l s.implicit t refl

tails_added : (k : ℕ) (s : Step) (d : FoundDepfile) (h : HeaderGraph) → Tails h.reading.steps h.lists → TailsOf (add_headers k s d h)
unfolding add_headers mentioned
tails_added k s no_depfile h t = tails_headed s nothing_listed h t
tails_added k s missing_depfile h t = tails_headed s (record { missing = true; files = [] }) h t
tails_added k s (depfile_lists ns) h t =
    let over = over_paths ns || over_counts (mentioned ns h.reading) in
    split over
    (λ (e : over ≡ true). rw e tt)
    (λ (e : over ≡ false).
    rw e (tails_headed s (record { missing = false; files = numbers_of (mentioned ns h.reading).files ns }) (record { reading = mentioned ns h.reading; lists = h.lists }) t))
tails_added k s (bad_depfile r) h t = tt

module _ (headers : List ℕ) (rd : Reading) where
  tails_then : (f : HeaderGraph → Heading) → ((h : HeaderGraph) → Tails h.reading.steps h.lists → TailsOf (f h)) → (x : Heading) → TailsOf x → TailsOf (on_headed x headless f)
  unfolding on_headed
  tails_then f g (headed h) t = g h t
  tails_then f g (headless r) t = tt

  tails_from : (k : ℕ) (l : List Step) (h : HeaderGraph) → Tails h.reading.steps h.lists → TailsOf (headers_from headers rd k l h)
  unfolding headers_from
  tails_from k [] h t = t
  tails_from k (s ∷ l) h t =
      tails_then (headers_from headers rd (suc k) l) (tails_from (suc k) l) (add_headers k s (depfile_of headers rd k) h) (tails_added k s (depfile_of headers rd k) h t)

  pub listed_last : (h : HeaderGraph) → with_headers headers rd ≡ headed h → (k : ℕ) → (a : List ℕ) × ((step_at h.reading.steps k).implicit ≡ a ++ (listed_of h.lists k).files)
  unfolding with_headers stepless
  listed_last h e k = tail_at (subst (λ (x : Heading). TailsOf x) e (tails_from 0 rd.steps (record { reading = stepless rd; lists = [] }) no_tails)) k
