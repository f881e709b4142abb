-- Membership in a list of numbers and its tests, lists without repeats, rising lists, and the pigeonhole.
use Rattle.std.specs.Prelude.{◌≡◌, refl, ◌⊎◌, Bool, true, false, not, cond, ◌&&◌, ◌||◌, List, [], ◌∷◌, ◌++◌, ℕ, zero, suc, ◌+◌, ◌≤◌, ◌<◌, eqb, length, get_or, take, drop}
use Rattle.std.proofs.Common.{sym, ap, ap₂, inl, inr, true≢false, not-suc-le-zero, le_of_suc-le-suc, le_of_lt, arith, length-append, eqb-true, eq-eqb, ne_eqb}
use Rattle.std.proofs.lemmas.Bool.{false≢true, eqb-false}
use Rattle.std.proofs.Math.Option.{Option, none, some, none-ne-some, some-injective}
use Rattle.std.proofs.Math.Decide.{dec_lt, ℕ_discrete}
use Rattle.std.proofs.Math.ListN.{get_or-append}
use Rattle.std.proofs.lemmas.List.{take-append-le}
use Rattle.std.proofs.Math.Seq.{take-append_seam, get_or-append_seam}
use Rattle.lists.specs.Tests.{split, differ, and_left, and_right, and_false, or_left, or_right, or_true}

infix 50 ◌∈◌ ◌∉◌ ◌⊆◌
pub data ◌∈◌ (x : ℕ) : List ℕ → Type 0 where
  here : {y : ℕ} {l : List ℕ} → x ≡ y → x ∈ y ∷ l
  there : {y : ℕ} {l : List ℕ} → x ∈ l → x ∈ y ∷ l

abbrev pub ◌∉◌ : ℕ → List ℕ → Type 0
x ∉ l = ¬ (x ∈ l)

-- P holds of each entry, with the entries before it
abbrev pub Each : (List ℕ → ℕ → Type 0) → List ℕ → Type 0
Each P l = (i : ℕ) → i < length l → P (take i l) (get_or l i 0)

abbrev pub Once : List ℕ → Type 0
Once = Each (λ earlier x. x ∉ earlier)

abbrev pub Rising : List ℕ → Type 0
Rising = Each (λ earlier x. (y : ℕ) → y ∈ earlier → y < x)

abbrev pub ◌⊆◌ : List ℕ → List ℕ → Type 0
l ⊆ r = (x : ℕ) → x ∈ l → x ∈ r

unfoldable pub has : ℕ → List ℕ → Bool
has x [] = false
has x (y ∷ l) = let r = has x l in eqb x y || r

unfoldable pub all : {A : Type 0} → (A → Bool) → List A → Bool
all p [] = true
all p (x ∷ l) = let r = all p l in p x && r

unfoldable pub any : {A : Type 0} → (A → Bool) → List A → Bool
any p [] = false
any p (x ∷ l) = let r = any p l in p x || r

unfoldable pub find : (ℕ → Bool) → List ℕ → Option ℕ
find p [] = none
find p (x ∷ l) = let r = find p l in cond (p x) (some x) r

unfoldable pub keep : (ℕ → Bool) → List ℕ → List ℕ
keep p [] = []
keep p (x ∷ l) = let r = keep p l in cond (p x) (x ∷ r) r

unfoldable pub up_from : ℕ → ℕ → List ℕ
up_from k zero = []
up_from k (suc n) = k ∷ up_from (suc k) n

unfoldable pub up_to : ℕ → List ℕ
unfolding up_from
up_to n = up_from 0 n

-- Membership

pub not_in_nil : {x : ℕ} → x ∉ []
not_in_nil h = elim h [ ]

pub in_cons : {x y : ℕ} {l : List ℕ} → x ∈ y ∷ l → (x ≡ y) ⊎ (x ∈ l)
in_cons (here e) = inl e
in_cons (there h) = inr h

pub in_at : (l : List ℕ) (i : ℕ) → i < length l → get_or l i 0 ∈ l
in_at [] i h = absurd (not-suc-le-zero h)
in_at (x ∷ l) zero h = here refl
in_at (x ∷ l) (suc i) h = there (in_at l i (le_of_suc-le-suc h))

pub place : {x : ℕ} {l : List ℕ} → x ∈ l → (i : ℕ) × (i < length l) × (get_or l i 0 ≡ x)
place (here e) = (0, omega arith, sym e)
place (there h) = let (i, b, e) = place h in (suc i, omega arith, e)

pub in_left : {x : ℕ} {l : List ℕ} (r : List ℕ) → x ∈ l → x ∈ l ++ r
in_left r (here e) = here e
in_left r (there h) = there (in_left r h)

pub in_right : {x : ℕ} (l : List ℕ) {r : List ℕ} → x ∈ r → x ∈ l ++ r
in_right [] h = h
in_right (y ∷ l) h = there (in_right l h)

pub in_append : {x : ℕ} (l : List ℕ) {r : List ℕ} → x ∈ l ++ r → (x ∈ l) ⊎ (x ∈ r)
in_append [] h = inr h
in_append (y ∷ l) (here e) = inl (here e)
in_append (y ∷ l) (there h) = elim (in_append l h) [ inl a ↦ inl (there a) | inr b ↦ inr b ]

pub in_snoc : {x y : ℕ} (l : List ℕ) → x ∈ l ++ (y ∷ []) → (x ∈ l) ⊎ (x ≡ y)
in_snoc l h = elim (in_append l h) [ inl a ↦ inl a | inr b ↦ elim (in_cons b) [ inl e ↦ inr e | inr c ↦ absurd (not_in_nil c) ] ]

pub in_take : (i : ℕ) (l : List ℕ) {x : ℕ} → x ∈ take i l → x ∈ l
in_take zero l h = absurd (not_in_nil h)
in_take (suc i) [] h = h
in_take (suc i) (y ∷ l) (here e) = here e
in_take (suc i) (y ∷ l) (there h) = there (in_take i l h)

pub in_drop : (i : ℕ) (l : List ℕ) {x : ℕ} → x ∈ drop i l → x ∈ l
in_drop zero l h = h
in_drop (suc i) [] h = h
in_drop (suc i) (y ∷ l) h = there (in_drop i l h)

pub place_before : (i : ℕ) (l : List ℕ) {x : ℕ} → x ∈ take i l → (j : ℕ) × (j < i) × (j < length l) × (get_or l j 0 ≡ x)
place_before zero l h = absurd (not_in_nil h)
place_before (suc i) [] h = absurd (not_in_nil h)
place_before (suc i) (y ∷ l) (here e) = (0, omega arith, omega arith, sym e)
place_before (suc i) (y ∷ l) (there h) = let (j, a, b, e) = place_before i l h in (suc j, omega arith, omega arith, e)

pub at_before : (l : List ℕ) (i j : ℕ) → j < i → j < length l → get_or l j 0 ∈ take i l
at_before [] i j a b = absurd (not-suc-le-zero b)
at_before (y ∷ l) zero j a b = absurd (not-suc-le-zero a)
at_before (y ∷ l) (suc i) zero a b = here refl
at_before (y ∷ l) (suc i) (suc j) a b = there (at_before l i j (le_of_suc-le-suc a) (le_of_suc-le-suc b))

pub in_take_more : (l : List ℕ) (i j : ℕ) {x : ℕ} → i ≤ j → x ∈ take i l → x ∈ take j l
in_take_more l i j a h = let (k, b, c, e) = place_before i l h in rw (← e) (at_before l j k (omega arith) c)

pub cons-⊆ : {x : ℕ} {l r : List ℕ} → x ∈ r → l ⊆ r → (x ∷ l) ⊆ r
cons-⊆ h f y (here e) = rw e h
cons-⊆ h f y (there k) = f y k

-- The tests

pub has_true : (x : ℕ) (l : List ℕ) → has x l ≡ true → x ∈ l
unfolding has
has_true x [] e = absurd (false≢true e)
has_true x (y ∷ l) e = elim (or_true (eqb x y) (has x l) e) [ inl a ↦ here (eqb-true x y a) | inr b ↦ there (has_true x l b) ]

pub has_false : (x : ℕ) (l : List ℕ) → has x l ≡ false → x ∉ l
unfolding has
has_false x [] e h = not_in_nil h
has_false x (y ∷ l) e (here q) = eqb-false x y (or_left (eqb x y) (has x l) e) q
has_false x (y ∷ l) e (there h) = has_false x l (or_right (eqb x y) (has x l) e) h

pub in_has : {x : ℕ} {l : List ℕ} → x ∈ l → has x l ≡ true
in_has {x} {l} h = split (has x l) (λ (e : has x l ≡ true). e) (λ (e : has x l ≡ false). absurd (has_false x l e h))

pub not_in_has : {x : ℕ} {l : List ℕ} → x ∉ l → has x l ≡ false
not_in_has {x} {l} h = split (has x l) (λ (e : has x l ≡ true). absurd (h (has_true x l e))) (λ (e : has x l ≡ false). e)

pub dec_in : (x : ℕ) (l : List ℕ) → Dec (x ∈ l)
dec_in x l = split (has x l) (λ (e : has x l ≡ true). yes (has_true x l e)) (λ (e : has x l ≡ false). no (has_false x l e))

pub all_true : (p : ℕ → Bool) (l : List ℕ) → all p l ≡ true → {x : ℕ} → x ∈ l → p x ≡ true
unfolding all
all_true p (y ∷ l) e (here q) = rw q (and_left (p y) (all p l) e)
all_true p (y ∷ l) e (there h) = all_true p l (and_right (p y) (all p l) e) h
all_true p [] e x4 = elim x4 [ ]

pub all_false : (p : ℕ → Bool) (l : List ℕ) → all p l ≡ false → (x : ℕ) × (x ∈ l) × (p x ≡ false)
unfolding all
all_false p [] e = absurd (true≢false e)
all_false p (y ∷ l) e = elim (and_false (p y) (all p l) e) [ inl a ↦ (y, here refl, a) | inr b ↦ (let (x, h, f) = all_false p l b in (x, there h, f)) ]

pub true_all : (p : ℕ → Bool) (l : List ℕ) → ((x : ℕ) → x ∈ l → p x ≡ true) → all p l ≡ true
true_all p l f = split (all p l) (λ (e : all p l ≡ true). e) (λ (e : all p l ≡ false). let (x, h, g) = all_false p l e in differ (f x h) g)

pub any_true : (p : ℕ → Bool) (l : List ℕ) → any p l ≡ true → (x : ℕ) × (x ∈ l) × (p x ≡ true)
unfolding any
any_true p [] e = absurd (false≢true e)
any_true p (y ∷ l) e = elim (or_true (p y) (any p l) e) [ inl a ↦ (y, here refl, a) | inr b ↦ (let (x, h, f) = any_true p l b in (x, there h, f)) ]

pub any_false : (p : ℕ → Bool) (l : List ℕ) → any p l ≡ false → {x : ℕ} → x ∈ l → p x ≡ false
unfolding any
any_false p (y ∷ l) e (here q) = rw q (or_left (p y) (any p l) e)
any_false p (y ∷ l) e (there h) = any_false p l (or_right (p y) (any p l) e) h
any_false p [] e x4 = elim x4 [ ]

pub true_any : (p : ℕ → Bool) (l : List ℕ) {x : ℕ} → x ∈ l → p x ≡ true → any p l ≡ true
true_any p l h e = split (any p l) (λ (a : any p l ≡ true). a) (λ (b : any p l ≡ false). differ e (any_false p l b h))

pub any_append : {A : Type 0} (p : A → Bool) (l r : List A) → any p (l ++ r) ≡ any p l || any p r
unfolding any
any_append p [] r = refl
any_append p (x ∷ l) r = rw (any_append p l r) (or_assoc (p x) (any p l) (any p r))
  where
    or_assoc : (a b c : Bool) → a || (b || c) ≡ (a || b) || c
    or_assoc true b c = refl
    or_assoc false b c = refl

pub any_cons : {A : Type 0} (p : A → Bool) (x : A) (l : List A) → any p (x ∷ l) ≡ p x || any p l
unfolding any
any_cons p x l = refl

pub any_none : {A : Type 0} (p : A → Bool) → any p [] ≡ false
unfolding any
any_none p = refl

pub find_some : (p : ℕ → Bool) (l : List ℕ) {x : ℕ} → find p l ≡ some x → (x ∈ l) × (p x ≡ true)
unfolding find
find_some p [] {x} e = absurd (none-ne-some x e)
find_some p (y ∷ l) {x} e =
    split (p y)
    (λ (a : p y ≡ true). let q : y ≡ x = some-injective y x (rw (a, find) at e) in (here (sym q), rw (← q) a))
    (λ (b : p y ≡ false). let (h, f) = find_some p l (rw (b, find) at e) in (there h, f))

pub find_none : (p : ℕ → Bool) (l : List ℕ) → find p l ≡ none → {x : ℕ} → x ∈ l → p x ≡ false
unfolding find
find_none p (y ∷ l) e {x} h =
    split (p y)
    (λ (a : p y ≡ true). absurd (none-ne-some y (sym (rw (a, find) at e))))
    (λ (b : p y ≡ false). elim (in_cons h) [ inl q ↦ rw q b | inr k ↦ find_none p l (rw (b, find) at e) k ])
find_none p [] e {x = x} h = elim h [ ]

pub in_keep : (p : ℕ → Bool) (l : List ℕ) {x : ℕ} → x ∈ keep p l → (x ∈ l) × (p x ≡ true)
unfolding keep
in_keep p [] h = absurd (not_in_nil h)
in_keep p (y ∷ l) {x} h =
    split (p y)
    (λ (a : p y ≡ true). elim (in_cons (rw (a, keep) at h)) [ inl q ↦ (here q, rw q a) | inr k ↦ (let (m, f) = in_keep p l k in (there m, f)) ])
    (λ (b : p y ≡ false). let (m, f) = in_keep p l (rw (b, keep) at h) in (there m, f))

pub keep_in : (p : ℕ → Bool) (l : List ℕ) {x : ℕ} → x ∈ l → p x ≡ true → x ∈ keep p l
unfolding keep
keep_in p (y ∷ l) (here q) e = rw (← q, e, keep) (here refl)
keep_in p (y ∷ l) (there h) e = split (p y) (λ (a : p y ≡ true). rw (a, keep) (there (keep_in p l h e))) (λ (b : p y ≡ false). rw (b, keep) (keep_in p l h e))
keep_in p [] x4 e = elim x4 [ ]

pub length_keep : (p : ℕ → Bool) (l : List ℕ) → length (keep p l) ≤ length l
unfolding keep
length_keep p [] = omega arith
length_keep p (y ∷ l) =
    let h = length_keep p l in
    split (p y) (λ (a : p y ≡ true). rw (a, keep) (omega arith)) (λ (b : p y ≡ false). rw (b, keep) (omega arith))

pub length_keep_less : (p : ℕ → Bool) (l : List ℕ) {x : ℕ} → x ∈ l → p x ≡ false → length (keep p l) < length l
unfolding keep
length_keep_less p (y ∷ l) (here q) e = let h = length_keep p l in rw (← q, e, keep) (omega arith)
length_keep_less p (y ∷ l) (there k) e =
    let h = length_keep_less p l k e in
    split (p y) (λ (a : p y ≡ true). rw (a, keep) (omega arith)) (λ (b : p y ≡ false). rw (b, keep) (omega arith))
length_keep_less p [] x4 e = elim x4 [ ]

pub in_up_from : (k n : ℕ) {x : ℕ} → x ∈ up_from k n → (k ≤ x) × (x < k + n)
unfolding up_from
in_up_from k zero h = absurd (not_in_nil h)
in_up_from k (suc n) (here e) = omega arith
in_up_from k (suc n) (there h) = let c = in_up_from (suc k) n h in omega arith

pub up_from_in : (k n : ℕ) {x : ℕ} → k ≤ x → x < k + n → x ∈ up_from k n
unfolding up_from
up_from_in k zero a b = absurd (omega arith)
up_from_in k (suc n) {x} a b = elim (ℕ_discrete x k) [ yes e ↦ here e | no d ↦ there (up_from_in (suc k) n (omega arith) (omega arith)) ]

pub in_up_to : (n : ℕ) {x : ℕ} → x ∈ up_to n → x < n
unfolding up_to
in_up_to n h = let c = in_up_from 0 n h in omega arith

pub up_to_in : (n : ℕ) {x : ℕ} → x < n → x ∈ up_to n
unfolding up_to
up_to_in n h = up_from_in 0 n (omega arith) (omega arith)

pub length_up_from : (k n : ℕ) → length (up_from k n) ≡ n
unfolding up_from
length_up_from k zero = refl
length_up_from k (suc n) = ap suc (length_up_from (suc k) n)

pub length_up_to : (n : ℕ) → length (up_to n) ≡ n
unfolding up_to
length_up_to n = length_up_from 0 n

-- `Each`

pub each_nil : (P : List ℕ → ℕ → Type 0) → Each P []
each_nil P i b = absurd (not-suc-le-zero b)

pub each_snoc : (P : List ℕ → ℕ → Type 0) (l : List ℕ) (x : ℕ) → Each P l → P l x → Each P (l ++ (x ∷ []))
each_snoc P l x f g i b = elim (dec_lt i (length l)) [
  | yes h ↦ rw (take-append-le i l (x ∷ []) (le_of_lt h), get_or-append l (x ∷ []) 0 i h) (f i h)
  | no h ↦ (let e : i ≡ length l = omega (arith, length-append l (x ∷ [])) in rw (e, take-append_seam l (x ∷ []), get_or-append_seam l x [] 0) g)
]

pub each_init : (P : List ℕ → ℕ → Type 0) (l r : List ℕ) → Each P (l ++ r) → Each P l
each_init P l r f i b =
    rw (take-append-le i l r (le_of_lt b), get_or-append l r 0 i b) at (f i (omega (arith, length-append l r)))

pub each_last : (P : List ℕ → ℕ → Type 0) (l r : List ℕ) (x : ℕ) → Each P (l ++ x ∷ r) → P l x
each_last P l r x f =
    rw (take-append_seam l (x ∷ r), get_or-append_seam l x r 0) at (f (length l) (omega (arith, length-append l (x ∷ r))))

-- Lists without repeats, and the pigeonhole

pub once_head : (x : ℕ) (l : List ℕ) → Once (x ∷ l) → x ∉ l
once_head x l o h = let (i, b, e) = place h in o (suc i) (omega arith) (here e)

pub once_tail : (x : ℕ) (l : List ℕ) → Once (x ∷ l) → Once l
once_tail x l o i b h = o (suc i) (omega arith) (there h)

pub once_drop : (l : List ℕ) (j : ℕ) → Once l → Once (drop j l)
once_drop l zero o = o
once_drop [] (suc j) o = o
once_drop (x ∷ l) (suc j) o = once_drop l j (once_tail x l o)

pub once_cons : (x : ℕ) (l : List ℕ) → x ∉ l → Once l → Once (x ∷ l)
once_cons x l n o zero b h = not_in_nil h
once_cons x l n o (suc i) b (here e) = n (rw (← e) (in_at l i (le_of_suc-le-suc b)))
once_cons x l n o (suc i) b (there h) = o i (le_of_suc-le-suc b) h

pub once_apart : (l : List ℕ) → Once l → (i : ℕ) {x : ℕ} → x ∈ take i l → x ∉ drop i l
once_apart [] o i h k = not_in_nil (in_drop i [] k)
once_apart (y ∷ l) o zero h k = not_in_nil h
once_apart (y ∷ l) o (suc i) (here e) k = once_head y l o (rw e at (in_drop i l k))
once_apart (y ∷ l) o (suc i) (there h) k = once_apart l (once_tail y l o) i h k

pub once_length : (l r : List ℕ) → Once l → l ⊆ r → length l ≤ length r
once_length [] r o f = omega arith
once_length (x ∷ l) r o f =
    let p : ℕ → Bool = λ y. not (eqb x y) in
    let a : length (keep p r) < length r = length_keep_less p r (f x (here refl)) (ap not (eq-eqb x x refl)) in
    let b : length l ≤ length (keep p r) = once_length l (keep p r) (once_tail x l o)
    (λ y h. keep_in p r (f y (there h)) (ap not (ne_eqb x y (λ e. once_head x l o (rw e h))))) in
    omega arith

pub once_below : (l : List ℕ) (n : ℕ) → Once l → ((x : ℕ) → x ∈ l → x < n) → length l ≤ n
once_below l n o f = rw length_up_to at (once_length l (up_to n) o (λ x h. up_to_in n (f x h)))

pub once_full : (l r : List ℕ) → Once l → l ⊆ r → length r ≤ length l → r ⊆ l
once_full l r o f b x h =
    split (has x l)
    (λ (e : has x l ≡ true). has_true x l e)
    (λ (e : has x l ≡ false). let c = once_length (x ∷ l) r (once_cons x l (has_false x l e) o) (cons-⊆ h f) in absurd (omega arith))

-- Rising lists

pub rising_head : (x : ℕ) (l : List ℕ) → Rising (x ∷ l) → {y : ℕ} → y ∈ l → x < y
rising_head x l r h = let (i, b, e) = place h in rw (← e) (r (suc i) (omega arith) x (here refl))

pub rising_tail : (x : ℕ) (l : List ℕ) → Rising (x ∷ l) → Rising l
rising_tail x l r i b y h = r (suc i) (omega arith) y (there h)

pub rising_cons : (x : ℕ) (l : List ℕ) → ((y : ℕ) → y ∈ l → x < y) → Rising l → Rising (x ∷ l)
rising_cons x l f r zero b y h = absurd (not_in_nil h)
rising_cons x l f r (suc i) b y (here e) = rw e (f (get_or l i 0) (in_at l i (le_of_suc-le-suc b)))
rising_cons x l f r (suc i) b y (there h) = r i (le_of_suc-le-suc b) y h

pub rising_up_from : (k n : ℕ) → Rising (up_from k n)
unfolding up_from
rising_up_from k zero = each_nil (λ earlier x. (y : ℕ) → y ∈ earlier → y < x)
rising_up_from k (suc n) = rising_cons k (up_from (suc k) n) (λ y h. (in_up_from (suc k) n h).0) (rising_up_from (suc k) n)

pub rising_up_to : (n : ℕ) → Rising (up_to n)
unfolding up_to
rising_up_to n = rising_up_from 0 n

pub rising_keep : (p : ℕ → Bool) (l : List ℕ) → Rising l → Rising (keep p l)
unfolding keep
rising_keep p [] r = r
rising_keep p (y ∷ l) r =
    let k : Rising (keep p l) = rising_keep p l (rising_tail y l r) in
    split (p y) (λ (a : p y ≡ true). rw (a, keep) (rising_cons y (keep p l) (λ z h. rising_head y l r (in_keep p l h).0) k)) (λ (b : p y ≡ false). rw (b, keep) k)

pub find_least : (p : ℕ → Bool) (l : List ℕ) → Rising l → {x : ℕ} → find p l ≡ some x → {y : ℕ} → y ∈ l → p y ≡ true → x ≤ y
unfolding find
find_least p (z ∷ l) r {x} e {y} h f =
    split (p z)
    (λ (a : p z ≡ true). let q : z ≡ x = some-injective z x (rw (a, find) at e) in elim (in_cons h) [ inl k ↦ omega arith | inr k ↦ (let c = rising_head z l r k in omega arith) ])
    (λ (b : p z ≡ false). elim (in_cons h) [ inl k ↦ differ f (rw k b) | inr k ↦ find_least p l (rising_tail z l r) (rw (b, find) at e) k f ])
find_least p [] r {x = x} e {y = y} h f = elim h [ ]

pub rising_ext : (l r : List ℕ) → Rising l → Rising r → l ⊆ r → r ⊆ l → l ≡ r
rising_ext [] [] a b f g = refl
rising_ext [] (y ∷ r) a b f g = absurd (not_in_nil (g y (here refl)))
rising_ext (x ∷ l) [] a b f g = absurd (not_in_nil (f x (here refl)))
rising_ext (x ∷ l) (y ∷ r) a b f g =
    ap₂ {C = List ℕ} (λ z t. z ∷ t) e (rising_ext l r (rising_tail x l a) (rising_tail y r b)
    (λ z h. elim (in_cons (f z (there h))) [ inl q ↦ (let c = rising_head x l a h in absurd (omega (arith, e))) | inr k ↦ k ])
    (λ z h. elim (in_cons (g z (there h))) [ inl q ↦ (let c = rising_head y r b h in absurd (omega (arith, e))) | inr k ↦ k ]))
  where
    e : x ≡ y
    e = elim (in_cons (f x (here refl))) [
      | inl q ↦ q
      | inr h ↦ elim (in_cons (g y (here refl))) [ inl q ↦ sym q | inr k ↦ (let c = rising_head y r b h in let d = rising_head x l a k in absurd (omega arith)) ]
    ]
