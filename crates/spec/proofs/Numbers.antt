-- The number of a path among the names mentioned so far, and the names after one mention more.
use Prim.Native.Nat.{ℕ, suc, ◌+◌, ◌≤◌, ◌<◌}
use mathlib.Core.Bool.{true, false, ◌||◌}
use mathlib.Core.List.{List, [], ◌∷◌, ◌++◌, append-nil, append_assoc}
use mathlib.Core.Path.{◌≡◌, refl, sym, ◌∙◌, ap}
use native.Mathlib.Omega.{arith}
use lib.ListN.{length, length-append}
use Rattle.lists.specs.Tests.{if_b, split, differ, or_left, or_right}
use Rattle.lists.specs.Bytes.{eq_bytes, eq_bytes_refl}
use Rattle.spec.specs.Basics.{among}
use Rattle.spec.specs.Reading.{number_of, mention}

pub among_none : (p : List ℕ) → among p [] ≡ false
unfolding among
among_none p = refl

pub among_cons : (p f : List ℕ) (l : List (List ℕ)) → among p (f ∷ l) ≡ eq_bytes p f || among p l
unfolding among
among_cons p f l = refl

pub number_cons : (p f : List ℕ) (l : List (List ℕ)) → number_of p (f ∷ l) ≡ if_b (eq_bytes p f) (λ _. 0) (λ _. suc (number_of p l))
unfolding number_of
number_cons p f l = refl

module _ (p f : List ℕ) (l : List (List ℕ)) where
  pub number_here : eq_bytes p f ≡ true → number_of p (f ∷ l) ≡ 0
  number_here e = rw (number_cons p f l, e)

  pub number_there : eq_bytes p f ≡ false → number_of p (f ∷ l) ≡ suc (number_of p l)
  number_there e = rw (number_cons p f l, e)

  pub among_here : eq_bytes p f ≡ true → among p (f ∷ l) ≡ true
  among_here e = rw (among_cons p f l, e)

  pub among_there : eq_bytes p f ≡ false → among p (f ∷ l) ≡ among p l
  among_there e = rw (among_cons p f l, e)

-- A path that is there has a number below the count, and stands at it.
pub number_below : (p : List ℕ) (l : List (List ℕ)) → among p l ≡ true → number_of p l < length l
number_below p [] h = differ h (among_none p)
number_below p (f ∷ l) h =
    split (eq_bytes p f)
    (λ (e : eq_bytes p f ≡ true). rw (number_here p f l e) (omega arith))
    (λ (e : eq_bytes p f ≡ false). rw (number_there p f l e) (let b = number_below p l (sym (among_there p f l e) ∙ h) in omega arith))

-- One that is not there has the count for its number.
pub number_missing : (p : List ℕ) (l : List (List ℕ)) → among p l ≡ false → number_of p l ≡ length l
unfolding number_of
number_missing p [] h = refl
number_missing p (f ∷ l) h =
    let a = sym (among_cons p f l) ∙ h in
    number_there p f l (or_left (eq_bytes p f) (among p l) a) ∙ ap suc (number_missing p l (or_right (eq_bytes p f) (among p l) a))

-- ---- more names after it

pub among_stays : (p : List ℕ) (l r : List (List ℕ)) → among p l ≡ true → among p (l ++ r) ≡ true
among_stays p [] r h = differ h (among_none p)
among_stays p (f ∷ l) r h =
    split (eq_bytes p f)
    (λ (e : eq_bytes p f ≡ true). among_here p f (l ++ r) e)
    (λ (e : eq_bytes p f ≡ false). among_there p f (l ++ r) e ∙ among_stays p l r (sym (among_there p f l e) ∙ h))

pub number_stays : (p : List ℕ) (l r : List (List ℕ)) → among p l ≡ true → number_of p (l ++ r) ≡ number_of p l
number_stays p [] r h = differ h (among_none p)
number_stays p (f ∷ l) r h =
    split (eq_bytes p f)
    (λ (e : eq_bytes p f ≡ true). number_here p f (l ++ r) e ∙ sym (number_here p f l e))
    (λ (e : eq_bytes p f ≡ false).
    number_there p f (l ++ r) e ∙ ap suc (number_stays p l r (sym (among_there p f l e) ∙ h)) ∙ sym (number_there p f l e))

pub number_new : (p : List ℕ) (l r : List (List ℕ)) → among p l ≡ false → number_of p (l ++ p ∷ r) ≡ length l
number_new p [] r h = number_here p p r (eq_bytes_refl p)
number_new p (f ∷ l) r h =
    let a = sym (among_cons p f l) ∙ h in
    number_there p f (l ++ p ∷ r) (or_left (eq_bytes p f) (among p l) a) ∙ ap suc (number_new p l r (or_right (eq_bytes p f) (among p l) a))

pub mention_old : (files : List (List ℕ)) (p : List ℕ) (ps : List (List ℕ)) → among p files ≡ true → mention files (p ∷ ps) ≡ mention files ps
unfolding mention
mention_old files p ps h = rw h

pub mention_new : (files : List (List ℕ)) (p : List ℕ) (ps : List (List ℕ)) → among p files ≡ false → mention files (p ∷ ps) ≡ mention (files ++ (p ∷ [])) ps
unfolding mention
mention_new files p ps h = rw h

pub mention_none : (files : List (List ℕ)) → mention files [] ≡ files
unfolding mention
mention_none files = refl

-- ---- several mentions

pub mention_append : (files ps qs : List (List ℕ)) → mention files (ps ++ qs) ≡ mention (mention files ps) qs
mention_append files [] qs = ap (λ (l : List (List ℕ)). mention l qs) (sym (mention_none files))
mention_append files (p ∷ ps) qs =
    split (among p files)
    (λ (h : among p files ≡ true). rw (mention_old files p (ps ++ qs) h, mention_old files p ps h) (mention_append files ps qs))
    (λ (h : among p files ≡ false).
    rw (mention_new files p (ps ++ qs) h, mention_new files p ps h) (mention_append (files ++ (p ∷ [])) ps qs))

-- What was there stays, with its number.
pub among_mention : (q : List ℕ) (files ps : List (List ℕ)) → among q files ≡ true → among q (mention files ps) ≡ true
among_mention q files [] h = rw (mention_none files) h
among_mention q files (p ∷ ps) h =
    split (among p files)
    (λ (e : among p files ≡ true). rw (mention_old files p ps e) (among_mention q files ps h))
    (λ (e : among p files ≡ false).
    rw (mention_new files p ps e) (among_mention q (files ++ (p ∷ [])) ps (among_stays q files (p ∷ []) h)))

pub number_mention : (q : List ℕ) (files ps : List (List ℕ)) → among q files ≡ true → number_of q (mention files ps) ≡ number_of q files
number_mention q files [] h = rw (mention_none files)
number_mention q files (p ∷ ps) h =
    split (among p files)
    (λ (e : among p files ≡ true). rw (mention_old files p ps e) (number_mention q files ps h))
    (λ (e : among p files ≡ false).
    rw (mention_new files p ps e)
    (number_mention q (files ++ (p ∷ [])) ps (among_stays q files (p ∷ []) h) ∙ number_stays q files (p ∷ []) h))

-- One that was not there has a number behind the names that were.
pub number_behind : (p : List ℕ) (l r : List (List ℕ)) → among p l ≡ false → length l ≤ number_of p (l ++ r)
number_behind p [] r h = omega arith
number_behind p (f ∷ l) r h =
    let a = sym (among_cons p f l) ∙ h in
    rw (number_there p f (l ++ r) (or_left (eq_bytes p f) (among p l) a)) (let b = number_behind p l r (or_right (eq_bytes p f) (among p l) a) in omega arith)

-- The names after some mentions are those before them, and more.
pub mention_grows : (files ps : List (List ℕ)) → (more : List (List ℕ)) × (mention files ps ≡ files ++ more)
mention_grows files [] = ([], mention_none files ∙ sym (append-nil files))
mention_grows files (p ∷ ps) =
    split (among p files)
    (λ (e : among p files ≡ true). let (more, q) = mention_grows files ps in (more, mention_old files p ps e ∙ q))
    (λ (e : among p files ≡ false).
    let (more, q) = mention_grows (files ++ (p ∷ [])) ps in (p ∷ more, mention_new files p ps e ∙ q ∙ append_assoc files (p ∷ []) more))

pub mention_longer : (files ps : List (List ℕ)) → length files ≤ length (mention files ps)
mention_longer files ps =
    let (more, e) = mention_grows files ps in
    let z : length (mention files ps) ≡ length files + length more = ap length e ∙ length-append files more in
    omega arith

-- What is mentioned is there.
pub mentioned_there : (files : List (List ℕ)) (p : List ℕ) (ps : List (List ℕ)) → among p (mention files (p ∷ ps)) ≡ true
mentioned_there files p ps =
    split (among p files)
    (λ (e : among p files ≡ true). among_mention p files (p ∷ ps) e)
    (λ (e : among p files ≡ false). rw (mention_new files p ps e) (among_mention p (files ++ (p ∷ [])) ps (among_last p files)))
  where
    among_last : (p : List ℕ) (l : List (List ℕ)) → among p (l ++ (p ∷ [])) ≡ true
    among_last p [] = among_here p p [] (eq_bytes_refl p)
    among_last p (f ∷ l) =
        split (eq_bytes p f) (λ (e : eq_bytes p f ≡ true). among_here p f (l ++ (p ∷ [])) e)
        (λ (e : eq_bytes p f ≡ false). among_there p f (l ++ (p ∷ [])) e ∙ among_last p l)
