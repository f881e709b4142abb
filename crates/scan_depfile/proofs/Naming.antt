-- Names at places: a name's bytes one after another, written over the buffer or compared with an output.
use Prim.Native.Nat.{ℕ, zero, suc, ◌+◌, ◌≤◌, ◌<◌}
use mathlib.Core.Bool.{Bool, true, false}
use mathlib.Core.List.{List, [], ◌∷◌, ◌++◌, append-nil, append_assoc}
use mathlib.Core.Path.{◌≡◌, refl, sym, ◌∙◌, ap}
use native.Mathlib.Nat.{le_refl, not-suc-le-zero, le_of_suc-le-suc}
use native.Mathlib.Numerals.{add-one}
use native.Mathlib.Omega.{arith}
use borrow.Author.Tests.{ne_eqb}
use lib.ListN.{length, take, drop, get_or, set, length-append}
use lib.Seq.{take-suc, take_all, length-take-le, get_or-append_seam}
use Rattle.lists.specs.Tests.{split}
use Rattle.depfile.specs.Depfile.{colon_byte, Mark, byte, gap, line, lone, marks_of}
use Rattle.scan_depfile.specs.Walk.{in_name, name_here, behind_name, written_over}
use Rattle.scan_depfile.specs.Answers.{NextMark, InName, PassesName, TargetHere}
use Rattle.scan_depfile.specs.declared.NameEnd.{NameEnd}
use Rattle.scan_depfile.proofs.Places.{no_marks}

-- ---- the byte of a name at a place

pub any_in : (t : Bool) (b : ℕ) → t ≡ false → in_name t b ≡ true
unfolding in_name
any_in true b h = cc
any_in false b h = refl

pub other_in : (t : Bool) (b : ℕ) → (b ≡ colon_byte → ⊥) → in_name t b ≡ true
unfolding in_name
other_in true b h = rw (ne_eqb b colon_byte h)
other_in false b h = refl

module _ (t : Bool) {s : List ℕ} {i : ℕ} where
  pub over_colon : {b n : ℕ} → NextMark s i (byte b) n → t ≡ true → b ≡ colon_byte → name_here t (marks_of (drop i s)) ≡ []
  unfolding name_here in_name
  over_colon h e k = rw (h.marks, e, k)

  pub over_gap : {n : ℕ} → NextMark s i gap n → name_here t (marks_of (drop i s)) ≡ []
  unfolding name_here
  over_gap h = rw h.marks

  pub over_line_law : {n : ℕ} → NextMark s i line n → name_here t (marks_of (drop i s)) ≡ []
  unfolding name_here
  over_line_law h = rw h.marks

  pub over_lone : {n : ℕ} → NextMark s i lone n → name_here t (marks_of (drop i s)) ≡ []
  unfolding name_here
  over_lone h = rw h.marks

pub over_end : (t : Bool) (s : List ℕ) (i : ℕ) → length s ≤ i → name_here t (marks_of (drop i s)) ≡ []
unfolding name_here
over_end t s i h = rw (no_marks s i h)

-- ---- a name and what follows it

name_cons : {t : Bool} {s : List ℕ} {i b n : ℕ} → InName t s i b n → name_here t (marks_of (drop i s)) ≡ b ∷ name_here t (marks_of (drop n s))
unfolding name_here
name_cons h = rw (h.mark.marks, h.is_in)

behind_cons : {t : Bool} {s : List ℕ} {i b n : ℕ} → InName t s i b n → behind_name t (marks_of (drop i s)) ≡ behind_name t (marks_of (drop n s))
unfolding behind_name
behind_cons h = rw (h.mark.marks, h.is_in)

pub behind_none : (t : Bool) (m : List Mark) → name_here t m ≡ [] → behind_name t m ≡ m
unfolding name_here behind_name
behind_none t [] h = refl
behind_none t (byte b ∷ m) h =
    split (in_name t b)
    (λ (e : in_name t b ≡ true). let z : b ∷ name_here t m ≡ [] = rw e at h in cc)
    (λ (e : in_name t b ≡ false). rw e)
behind_none t (gap ∷ m) h = refl
behind_none t (line ∷ m) h = refl
behind_none t (lone ∷ m) h = refl

-- ---- written over the buffer

pub set_past : (l : List ℕ) (i v : ℕ) → length l ≤ i → set l i v ≡ l
set_past [] i v h = refl
set_past (x ∷ l) zero v h = absurd (not-suc-le-zero h)
set_past (x ∷ l) (suc i) v h = ap (λ (r : List ℕ). x ∷ r) (set_past l i v (le_of_suc-le-suc h))

written_more : (n word : List ℕ) (b : ℕ) → set (written_over n word) (length n) b ≡ written_over (n ++ (b ∷ [])) word
unfolding written_over
written_more [] [] b = refl
written_more [] (x ∷ word) b = refl
written_more (a ∷ n) [] b = refl
written_more (a ∷ n) (x ∷ word) b = ap (λ (r : List ℕ). a ∷ r) (written_more n word b)

pub take_written : (n word : List ℕ) → length n ≤ length word → take (length n) (written_over n word) ≡ n
unfolding written_over
take_written [] word h = refl
take_written (a ∷ n) [] h = absurd (not-suc-le-zero h)
take_written (a ∷ n) (x ∷ word) h = ap (λ (r : List ℕ). a ∷ r) (take_written n word (le_of_suc-le-suc h))

-- A loop that reads the name at `from` is at place i, with n bytes read.
pub record Naming (s : List ℕ) (from : ℕ) (before word : List ℕ) (i n : ℕ) : Type 0 where
  pub forward : from ≤ i
  pub within : i ≤ length s
  pub low : n ≤ i
  pub read : List ℕ
  pub counts : n ≡ length read
  pub holds : word ≡ written_over read before
  pub name : name_here false (marks_of (drop from s)) ≡ read ++ name_here false (marks_of (drop i s))
  pub rest : behind_name false (marks_of (drop from s)) ≡ behind_name false (marks_of (drop i s))

pub naming_begin : {s : List ℕ} {from : ℕ} (word : List ℕ) → from ≤ length s → Naming s from word word from 0
unfolding written_over
naming_begin word h =
    record { forward = le_refl _; within = h; low = omega arith; read = []; counts = refl; holds = refl; name = refl; rest = refl }

module _ {s before word : List ℕ} {from i n : ℕ} (a : Naming s from before word i n) where
  pub naming_on : {b next : ℕ} {after : List ℕ} → InName false s i b next → after ≡ set word n b → Naming s from before after next (n + 1)
  naming_on {b} {next} {after} h e =
      record {
        forward = omega (arith, a.forward, h.mark.forward);
        within = h.mark.within;
        low = omega (arith, a.low, h.mark.forward);
        read = a.read ++ (b ∷ []);
        counts = simp length-append (omega (arith, a.counts));
        holds = e ∙ rw (a.holds, a.counts) (written_more a.read before b);
        name = a.name ∙ rw (name_cons h, append_assoc a.read (b ∷ []) (name_here false (marks_of (drop next s))));
        rest = a.rest ∙ behind_cons h;
      }

  pub naming_end : {r : NameEnd} → name_here false (marks_of (drop i s)) ≡ [] → r.next ≡ i → r.length ≡ n → PassesName s from before word r
  naming_end {r} h p q =
      let whole : name_here false (marks_of (drop from s)) ≡ a.read = a.name ∙ rw h (append-nil a.read) in
      record {
        reads = record { forward = rw p a.forward; within = rw p a.within; rest = rw p (sym (a.rest ∙ behind_none false (marks_of (drop i s)) h)) };
        counts = q ∙ a.counts ∙ ap length (sym whole);
        word = rw whole a.holds;
      }

-- ---- compared with an output

pub record Matching (s : List ℕ) (from : ℕ) (out : List ℕ) (i k : ℕ) : Type 0 where
  pub forward : from ≤ i
  pub within : i ≤ length s
  pub low : k ≤ length out
  pub name : name_here true (marks_of (drop from s)) ≡ take k out ++ name_here true (marks_of (drop i s))
  pub rest : behind_name true (marks_of (drop from s)) ≡ behind_name true (marks_of (drop i s))

pub matching_begin : {s : List ℕ} {from : ℕ} (out : List ℕ) → from ≤ length s → Matching s from out from 0
matching_begin out h = record { forward = le_refl _; within = h; low = omega arith; name = refl; rest = refl }

module _ {s out : List ℕ} {from i k : ℕ} (a : Matching s from out i k) where
  module _ (l : k < length out) where
    pub matching_on : {b next : ℕ} → InName true s i b next → b ≡ get_or out k 0 → Matching s from out next (k + 1)
    matching_on {b} {next} h e =
        record {
          forward = omega (arith, a.forward, h.mark.forward);
          within = h.mark.within;
          low = omega arith;
          name =
              a.name
              ∙ rw (name_cons h, add-one k, take-suc out k 0 l, append_assoc (take k out) (get_or out k 0 ∷ []) (name_here true (marks_of (drop next s))), e);
          rest = a.rest ∙ behind_cons h;
        }

    pub matching_other : {b next : ℕ} → InName true s i b next → (b ≡ get_or out k 0 → ⊥) → name_here true (marks_of (drop from s)) ≡ out → ⊥
    matching_other {b} {next} h e z =
        let t = name_here true (marks_of (drop next s)) in
        let w : take k out ++ (b ∷ t) ≡ out = rw (← (name_cons h)) (sym a.name ∙ z) in
        e (sym (get_or-append_seam (take k out) b t 0) ∙ rw (length-take-le k out a.low, w))

    pub matching_short : name_here true (marks_of (drop i s)) ≡ [] → name_here true (marks_of (drop from s)) ≡ out → ⊥
    matching_short h z =
        let w : take k out ≡ out = sym (append-nil (take k out)) ∙ rw (← h) (sym a.name ∙ z) in
        omega (arith, length-take-le k out a.low, ap length w)

  module _ (l : length out ≤ k) where
    pub matching_long : {b next : ℕ} → InName true s i b next → name_here true (marks_of (drop from s)) ≡ out → ⊥
    matching_long {b} {next} h z =
        let t = name_here true (marks_of (drop next s)) in
        let w : take k out ++ (b ∷ t) ≡ out = rw (← (name_cons h)) (sym a.name ∙ z) in
        let n : length (take k out) + suc (length t) ≡ length out = sym (length-append (take k out) (b ∷ t)) ∙ ap length w in
        omega (arith, length-take-le k out a.low, a.low)

    pub matching_end : name_here true (marks_of (drop i s)) ≡ [] → TargetHere s from out i
    matching_end h =
        record {
          target = a.name ∙ rw h (append-nil (take k out) ∙ take_all k out l);
          reads =
              record {
                forward = a.forward;
                within = a.within;
                rest = sym (a.rest ∙ behind_none true (marks_of (drop i s)) h);
              };
        }
