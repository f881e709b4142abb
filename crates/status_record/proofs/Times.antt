-- Times that fall, and the window as the list of them.
use mathlib.Core.Path.{◌≡◌, refl, ap, ◌∙◌}
use mathlib.Core.List.{List, [], ◌∷◌, ◌++◌, map}
use Prim.Native.Nat.{ℕ, zero, suc, ◌≤◌, ◌<◌}
use native.Mathlib.Nat.{le_refl, le_trans}
use native.Mathlib.Omega.{arith}
use lib.ListN.{length, take, get_or}
use lib.Ieee.{Float, nan}
use Rattle.status_rates.specs.Rates.{whole_float}
use Rattle.status_rates.specs.Within.{day}
use Rattle.status_record.specs.Record.{taken_time}
use Rattle.status_record.specs.Claims.{Falling}

-- ---- a time as it counts
pub taken_day : (last t : ℕ) → last ≤ day → taken_time last t ≤ day
unfolding taken_time
taken_day last t h = omega arith

pub taken_later : (last t : ℕ) → last ≤ taken_time last t
unfolding taken_time
taken_later last t = omega arith

-- "one above 86,400,000 counts as that"
pub taken_past : (last t : ℕ) → day ≤ t → taken_time last t ≡ taken_time last day
unfolding taken_time
taken_past last t h = omega arith

-- "one earlier than the last as the last"
pub taken_early : (last t : ℕ) → t ≤ last → taken_time last t ≡ last
unfolding taken_time
taken_early last t h = omega arith

-- any other as itself
pub taken_itself : (last t : ℕ) → last ≤ t → t ≤ day → taken_time last t ≡ t
unfolding taken_time
taken_itself last t h k = omega arith

-- ---- times that fall
pub falling_on : (m n : ℕ) (ts : List ℕ) → m ≤ n → Falling m ts → Falling n ts
falling_on m n [] h f = tt
falling_on m n (t ∷ ts) h f = (le_trans f.0 h, f.1)

pub falling_below : (m : ℕ) (ts : List ℕ) (j : ℕ) → Falling m ts → j < length ts → get_or ts j 0 ≤ m
falling_below m [] j f h = absurd (omega arith)
falling_below m (t ∷ ts) zero f h = f.0
falling_below m (t ∷ ts) (suc j) f h = le_trans (falling_below t ts j f.1 (omega arith)) f.0

pub falling_first : (m : ℕ) (ts : List ℕ) (j : ℕ) → Falling m ts → j < length ts → get_or ts j 0 ≤ get_or ts 0 0
falling_first m [] j f h = absurd (omega arith)
falling_first m (t ∷ ts) zero f h = le_refl t
falling_first m (t ∷ ts) (suc j) f h = falling_below t ts j f.1 (omega arith)

-- ---- the window
take_less : (n m : ℕ) (l : List Float) → n ≤ m → take n (take m l) ≡ take n l
take_less zero m l h = refl
take_less (suc n) zero l h = absurd (omega arith)
take_less (suc n) (suc m) [] h = refl
take_less (suc n) (suc m) (x ∷ l) h = ap (λ (r : List Float). x ∷ r) (take_less n m l (omega arith))

-- one time more
pub window_more : (w : List Float) (t : ℕ) (ts : List ℕ) (zs : List Float) → w ≡ take 16 (map whole_float ts ++ zs) → whole_float t ∷ take 15 w ≡ take 16 (map whole_float (t ∷ ts) ++ zs)
window_more w t ts zs e = ap (λ (r : List Float). whole_float t ∷ take 15 r) e ∙ ap (λ (r : List Float). whole_float t ∷ r) (take_less 15 16 (map whole_float ts ++ zs) (omega arith))

-- an entry of the window is a finish time
entry : (n i : ℕ) (ts : List ℕ) (zs : List Float) → i < n → i < length ts → get_or (take n (map whole_float ts ++ zs)) i nan ≡ whole_float (get_or ts i 0)
entry zero i ts zs h k = absurd (omega arith)
entry (suc n) i [] zs h k = absurd (omega arith)
entry (suc n) zero (t ∷ ts) zs h k = refl
entry (suc n) (suc i) (t ∷ ts) zs h k = entry n i ts zs (omega arith) (omega arith)

pub window_entry : (w : List Float) (i : ℕ) (ts : List ℕ) (zs : List Float) → w ≡ take 16 (map whole_float ts ++ zs) → i < 16 → i < length ts → get_or w i nan ≡ whole_float (get_or ts i 0)
window_entry w i ts zs e h k = ap (λ (l : List Float). get_or l i nan) e ∙ entry 16 i ts zs h k
