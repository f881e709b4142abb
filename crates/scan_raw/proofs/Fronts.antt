-- What a sound text passes is sound by itself: its bytes without those that follow it read as they do before them.
use Prim.Native.Nat.{ℕ, zero, suc}
use mathlib.Core.Bool.{Bool, true, false}
use mathlib.Core.List.{List, [], ◌∷◌, ◌++◌, append_assoc}
use mathlib.Core.Option.{none, some}
use mathlib.Core.Path.{◌≡◌, refl, ◌∙◌, ap}
use borrow.Author.Tests.{eqb-true}
use lib.Dec.{eqb}
use lib.ListN.{length}
use Rattle.lists.specs.Tests.{split, differ}
use Rattle.lists.specs.Runs.{run, after_run, run_append}
use Rattle.spec.specs.Basics.{is_empty}
use Rattle.spec.specs.Bytes.{newline, dollar, open_brace, close_brace, short_byte, name_byte}
use Rattle.spec.specs.Lines.{is_space}
use Rattle.spec.specs.Dollars.{Element, literal, joins, names, wrong, escaped, braced, element, Raw, with_piece, go_on, read_up, read_raw}
use Rattle.scan_dollars.specs.Element.{rest_of}
use Rattle.scan_raw.proofs.Look.{look_byte, look_past, look_end}

-- ---- a run

run_front : (p : ℕ → Bool) (s q r : List ℕ) → q ++ r ≡ after_run p s → (run p (run p s ++ q) ≡ run p s) × (after_run p (run p s ++ q) ≡ q)
unfolding run after_run
run_front p [] [] r e = (refl, refl)
run_front p [] (c ∷ q) r e = (cc, cc)
run_front p (b ∷ s) q r e =
    split (p b)
    (λ (t : p b ≡ true).
    let (x, y) = run_front p s q r (rw t at e) in
    (rw (t, t) (ap (λ (l : List ℕ). b ∷ l) x), rw (t, t) y))
    (λ (t : p b ≡ false). rw t (apart q (rw t at e) t))
  where
    apart : (q : List ℕ) → q ++ r ≡ b ∷ s → p b ≡ false → (run p q ≡ []) × (after_run p q ≡ q)
    apart [] d t = (refl, refl)
    apart (c ∷ q) d t =
        let z : b ≡ c = cc in
        let n : p c ≡ false = rw (← z) t in
        (rw n, rw n)

-- ---- what a `$` begins

pub record ElementFront (s q r : List ℕ) : Type 0 where
  pub bytes : List ℕ
  pub is : bytes ++ r ≡ s
  pub rest : rest_of (element bytes) ≡ some q

module _ (b : ℕ) (s q r : List ℕ) (a : escaped b ≡ false) where
  join_front : eqb b newline ≡ true → q ++ r ≡ after_run is_space s → ElementFront (b ∷ s) q r
  unfolding element rest_of
  join_front c e =
      record {
        bytes = b ∷ (run is_space s ++ q);
        is = ap (λ (l : List ℕ). b ∷ l) (append_assoc (run is_space s) q r ∙ rw e (run_append is_space s));
        rest = rw (a, c) (ap some (run_front is_space s q r e).1);
      }

  module _ (c : eqb b newline ≡ false) where
    brace_front : eqb b open_brace ≡ true → (u : List ℕ) → after_run name_byte s ≡ close_brace ∷ u → is_empty (run name_byte s) ≡ false → q ++ r ≡ u → ElementFront (b ∷ s) q r
    unfolding element rest_of braced
    brace_front o u v n e =
        let f : (close_brace ∷ q) ++ r ≡ after_run name_byte s = rw (v, ← e) in
        let (x, y) = run_front name_byte s (close_brace ∷ q) r f in
        record {
          bytes = b ∷ (run name_byte s ++ (close_brace ∷ q));
          is = ap (λ (l : List ℕ). b ∷ l) (append_assoc (run name_byte s) (close_brace ∷ q) r ∙ rw f (run_append name_byte s));
          rest = rw (a, c, o, x, y, n);
        }

    short_front : eqb b open_brace ≡ false → short_byte b ≡ true → q ++ r ≡ after_run short_byte s → ElementFront (b ∷ s) q r
    unfolding element rest_of after_run
    short_front o t e =
        record {
          bytes = b ∷ (run short_byte s ++ q);
          is = ap (λ (l : List ℕ). b ∷ l) (append_assoc (run short_byte s) q r ∙ rw e (run_append short_byte s));
          rest = rw (a, c, o, t) (ap some (run_front short_byte s q r e).1);
        }

-- what a sound `${..}` is
braced_is : (n v u : List ℕ) → rest_of (braced n v) ≡ some u → (v ≡ close_brace ∷ u) × (is_empty n ≡ false)
unfolding rest_of braced
braced_is n [] u e = (cc, cc)
braced_is [] (b ∷ v) u e =
    split (eqb b close_brace) (λ (t : eqb b close_brace ≡ true). let d : none ≡ some u = rw t at e in (cc, cc)) (λ (t : eqb b close_brace ≡ false). let d : none ≡ some u = rw t at e in (cc, cc))
braced_is (c ∷ n) (b ∷ v) u e =
    split (eqb b close_brace)
    (λ (t : eqb b close_brace ≡ true).
    let d : some v ≡ some u = rw t at e in
    let z : v ≡ u = cc in
    let y : b ≡ close_brace = eqb-true b close_brace t in
    (rw (z, y), refl))
    (λ (t : eqb b close_brace ≡ false). let d : none ≡ some u = rw t at e in (cc, cc))

element_front : (s u q r : List ℕ) → rest_of (element s) ≡ some u → q ++ r ≡ u → ElementFront s q r
unfolding element rest_of after_run
element_front [] u q r e f = absurd (none_is_none u e)
  where
    none_is_none : (u : List ℕ) → rest_of wrong ≡ some u → ⊥
    none_is_none u e = let z : true ≡ false = cc in differ refl z
element_front (b ∷ s) u q r e f =
    split (escaped b)
    (λ (a : escaped b ≡ true).
    let d : some s ≡ some u = rw a at e in
    let z : u ≡ s = cc in
    record { bytes = b ∷ q; is = ap (λ (l : List ℕ). b ∷ l) (f ∙ z); rest = rw a })
    (λ (a : escaped b ≡ false).
    split (eqb b newline)
    (λ (c : eqb b newline ≡ true).
    let d : some (after_run is_space s) ≡ some u = rw (a, c) at e in
    let z : u ≡ after_run is_space s = cc in
    join_front b s q r a c (f ∙ z))
    (λ (c : eqb b newline ≡ false).
    split (eqb b open_brace)
    (λ (o : eqb b open_brace ≡ true).
    let (v, n) = braced_is (run name_byte s) (after_run name_byte s) u (rw (a, c, o) at e) in
    brace_front b s q r a c o u v n f)
    (λ (o : eqb b open_brace ≡ false).
    split (short_byte b)
    (λ (t : short_byte b ≡ true).
    let d : some (after_run short_byte s) ≡ some u = rw (a, c, o, t) at e in
    let z : u ≡ after_run short_byte s = cc in
    short_front b s q r a c o t (f ∙ z))
    (λ (t : short_byte b ≡ false).
    let d : none ≡ some u = rw (a, c, o, t) at e in
    let z : true ≡ false = cc in
    differ refl z))))

-- ---- a text

-- the bytes of s in front of r, with sound dollars
pub record Front (s r : List ℕ) : Type 0 where
  pub bytes : List ℕ
  pub is : bytes ++ r ≡ s
  pub sound : (read_raw (λ b. false) bytes).sound ≡ true

no_bytes : (s : List ℕ) → Front s s
no_bytes s = record { bytes = []; is = refl; sound = ap (λ (x : List ℕ × Bool). x.1) (look_end (λ b. false)) }

-- behind a sound `$`
pub record Behind (x : Element) (r : List ℕ) : Type 0 where
  pub start : List ℕ
  pub found : rest_of x ≡ some start
  pub front : Front start r

go_on_behind : (t : List ℕ) (x : Element) (f : List ℕ → Raw) → ((u : List ℕ) → (f u).sound ≡ true → Front u (f u).rest)
    → (go_on t x f).sound ≡ true → Behind x (go_on t x f).rest
unfolding go_on rest_of with_piece
go_on_behind t (literal b s) f h e = record { start = s; found = refl; front = h s e }
go_on_behind t (joins s) f h e = record { start = s; found = refl; front = h s e }
go_on_behind t (names n s) f h e = record { start = s; found = refl; front = h s e }
go_on_behind t wrong f h e = differ e refl

byte_front : (b : ℕ) (s r : List ℕ) → eqb b dollar ≡ false → Front s r → Front (b ∷ s) r
byte_front b s r d g =
    record {
      bytes = b ∷ g.bytes;
      is = ap (λ (l : List ℕ). b ∷ l) g.is;
      sound = ap (λ (x : List ℕ × Bool). x.1) (look_byte (λ x. false) b g.bytes refl d) ∙ g.sound;
    }

dollar_front : (b : ℕ) (s r : List ℕ) → eqb b dollar ≡ true → Behind (element s) r → Front (b ∷ s) r
dollar_front b s r d g =
    let w : ElementFront s g.front.bytes r = element_front s g.start g.front.bytes r g.found g.front.is in
    record {
      bytes = b ∷ w.bytes;
      is = ap (λ (l : List ℕ). b ∷ l) w.is;
      sound = ap (λ (x : List ℕ × Bool). x.1) (look_past (λ x. false) b w.bytes refl d w.rest) ∙ g.front.sound;
    }

fronts : (ends : ℕ → Bool) (k : ℕ) (s : List ℕ) → (read_up ends k s).sound ≡ true → Front s (read_up ends k s).rest
unfolding read_up with_piece
fronts ends zero s e = no_bytes s
fronts ends (suc k) [] e = no_bytes []
fronts ends (suc k) (b ∷ s) e =
    split (ends b) (λ (t : ends b ≡ true). rw t (no_bytes (b ∷ s)))
    (λ (t : ends b ≡ false).
    split (eqb b dollar)
    (λ (d : eqb b dollar ≡ true).
    rw (t, d) (dollar_front b s _ d (go_on_behind (b ∷ s) (element s) (read_up ends k) (fronts ends k) (rw (t, d) at e))))
    (λ (d : eqb b dollar ≡ false). rw (t, d) (byte_front b s _ d (fronts ends k s (rw (t, d) at e)))))

pub front_of : (ends : ℕ → Bool) (s : List ℕ) → (read_raw ends s).sound ≡ true → Front s (read_raw ends s).rest
unfolding read_raw
front_of ends s e = fronts ends (length s) s e
