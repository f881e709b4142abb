-- A walk over a list of paths: what each path that is passed leaves of the list, and the list that was passed.
use Rattle.std.specs.Prelude.{Option, Some, None}
use Prim.Native.Nat.{ℕ, ◌≤◌}
use mathlib.Core.Bool.{Bool, true, false, not}
use mathlib.Core.List.{List, [], ◌∷◌, ◌++◌}
use mathlib.Core.Path.{◌≡◌, refl, sym, ◌∙◌, ap}
use native.Mathlib.Nat.{le_trans}
use native.Mathlib.Omega.{arith}
use lib.ListN.{length, drop}
use Rattle.lists.specs.Parts.{part}
use Rattle.spec.specs.Basics.{is_empty}
use Rattle.spec.specs.Forms.{Cut, fits, fails, then, Paths, with_path, paths}
use Rattle.scan_raw.specs.Texts.{PathsStop, PathNext, PathsBad}
use Rattle.scan_raw.proofs.PathLists.{Listing, list_begin, list_next, list_stop, list_bad}
use Rattle.cut_forms.specs.declared.Fault.TheVariants.{BadDollar}
use Rattle.cut_forms.specs.Faults.{Fails}
use Rattle.cut_forms.specs.Paths.{PathsAt, NextListed, ListEnds}
use Rattle.cut_forms.proofs.Faults.{bad_dollar_law}

-- ---- a list that is known, path by path

abbrev raw_of : Cut Paths → List (List ℕ)
raw_of (fits p) = p.raw
raw_of (fails e) = []

abbrev rest_of : Cut Paths → List ℕ
rest_of (fits p) = p.rest
rest_of (fails e) = []

behind : (p : List ℕ) (c : Cut Paths) {ps : List (List ℕ)} {r : List ℕ} → then c (with_path p) ≡ fits (record { raw = ps; rest = r })
    → (qs : List (List ℕ)) × (ps ≡ p ∷ qs) × (c ≡ fits (record { raw = qs; rest = r }))
unfolding then with_path
behind p (fits q) e = (q.raw, sym (ap raw_of e), ap (λ (r : List ℕ). fits (record { raw = q.raw; rest = r })) (ap rest_of e))
behind p (fails f) e = absurd (let z : ◌≡◌ {A = ℕ} 0 1 = cc in omega arith)

-- The list begins with the path that `next_path` gives, and goes on behind it.
pub walk_on : {l : List ℕ} {at from to : ℕ} {ps : List (List ℕ)} → PathNext l at from to → PathsAt l at ps
    → (qs : List (List ℕ)) × (ps ≡ part l from to ∷ qs) × PathsAt l to qs
walk_on {l} {at} {from} {to} a w =
    let (qs, e, c) = behind (part l from to) (paths (drop to l)) (sym a.is ∙ w.cut) in
    (qs, e, record { within = a.within; rest = w.rest; cut = c })

pub walk_stop : {l : List ℕ} {at e : ℕ} {ps : List (List ℕ)} → PathsStop l at e → PathsAt l at ps → ps ≡ []
walk_stop a w = ap raw_of (sym w.cut ∙ a.is)

pub walk_bad : {l : List ℕ} {at p : ℕ} {ps : List (List ℕ)} → PathsBad l at p → PathsAt l at ps → ps ≡ []
walk_bad a w = ap raw_of (sym w.cut ∙ a.is)

-- ---- what `next_path` answers

module _ (l : List ℕ) (i : ℕ) (r : Option (ℕ × ℕ)) (n : NextListed l i r) where
  pub goes_on : {from to : ℕ} → r ≡ Some (from, to) → PathNext l i from to
  unfolding NextListed
  goes_on e = rw e at n

  pub stops : r ≡ None → (ps : List (List ℕ)) → PathsAt l i ps → ps ≡ []
  unfolding NextListed
  stops e = rw e at n

-- ---- a list that is being read

-- The loop that reads from place `at` on is at i.
pub record Passing (l : List ℕ) (at i : ℕ) (any : Bool) : Type 0 where
  pub passed : List (List ℕ)
  pub listing : Listing l at passed i
  pub some : any ≡ not (is_empty passed)

not_empty_more : (ps : List (List ℕ)) (p : List ℕ) → is_empty (ps ++ (p ∷ [])) ≡ false
not_empty_more [] p = refl
not_empty_more (q ∷ ps) p = refl

pub pass_begin : {l : List ℕ} {at : ℕ} → at ≤ length l → Passing l at at false
pass_begin h = record { passed = []; listing = list_begin h; some = refl }

module _ {l : List ℕ} {at i : ℕ} {any : Bool} (w : Passing l at i any) where
  pub pass_next : {from to : ℕ} → PathNext l i from to → Passing l at to true
  pass_next {from} {to} a =
      record {
        passed = w.passed ++ (part l from to ∷ []);
        listing = list_next w.listing a;
        some = rw (not_empty_more w.passed (part l from to));
      }

  pub pass_stop : {e : ℕ} → PathsStop l i e → ListEnds l at e any
  pass_stop a =
      record {
        forward = le_trans w.listing.forward a.forward;
        within = a.within;
        raw = w.passed;
        cut = list_stop w.listing a;
        some = w.some;
      }

  pub pass_bad : {p : ℕ} → PathsBad l i p → Fails l (paths (drop at l)) (BadDollar p)
  pass_bad a = bad_dollar_law a.within (list_bad w.listing a)

-- The list that was read.
pub paths_of_law : {l : List ℕ} {at end : ℕ} {any : Bool} (w : ListEnds l at end any) → PathsAt l at w.raw
paths_of_law {l} {end = end} w = record { within = le_trans w.forward w.within; rest = drop end l; cut = w.cut }
