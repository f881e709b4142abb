-- What the cut of a line's bytes says of the line, one law for each answer.
use Rattle.std.specs.Prelude.{Result, Ok, Err}
use Prim.Native.Nat.{ℕ, ◌+◌, ◌≤◌}
use mathlib.Core.Bool.{Bool, true, false}
use mathlib.Core.List.{List}
use mathlib.Core.Path.{◌≡◌, subst, ap}
use native.Mathlib.Omega.{arith}
use lib.ListN.{length}
use Rattle.spec.specs.declared.Refusal.{Refusal}
use Rattle.spec.specs.declared.Refusal.TheVariants.{BadLine}
use Rattle.spec.specs.Limits.{max_place}
use Rattle.spec.specs.Lines.{Line}
use Rattle.spec.specs.Forms.{cut_statement, cut_indented, Cut, fits, Form}
use Rattle.spec.specs.Statements.{refused}
use Rattle.spec.specs.Manifest.{fault_of, if_cut}
use Rattle.scan_raw.proofs.Faults.{fault_place}
use Rattle.cut_forms.specs.declared.Fault.{Fault}
use Rattle.cut_forms.specs.declared.Fault.TheVariants.{NoForm, BadDollar, NotYet}
use Rattle.cut_forms.specs.Faults.{fault_in, FaultWithin, Fails}
use Rattle.cut_forms.specs.declared.BuildPlaces.{BuildPlaces}
use Rattle.cut_forms.specs.Statements.{RuleAt, BuildAt, DefaultAt, OpenAt, BindingAt}
use Rattle.cut_refusals.specs.Cuts.{refusal_of, Near, Wrong, SoundBinding, FileLineAt, BlockLineAt}
use Rattle.cut_refusals.proofs.Dollars.{Sound}
use Rattle.cut_forms.specs.declared.Statement.{Statement}
use Rattle.cut_forms.specs.declared.Statement.TheVariants.{Rule, Build, Default, Open, Binding}

-- ---- a fault, and a line that is not ended

pub fault_near : {A : Type 0} (start : ℕ) (l : List ℕ) {x : Cut A} (f : Fault) → start + length l ≤ max_place → Fails l x f → Near start f
unfolding FaultWithin Near
fault_near start l NoForm h e = tt
fault_near start l (BadDollar p) h e = omega (arith, e.within)
fault_near start l NotYet h e = tt

module _ (l : Line) {x : Cut Form} where
  pub line_wrong : (f : Fault) → Fails l.text x f → Wrong l x (refusal_of l.start f)
  unfolding refusal_of fault_in FaultWithin if_cut fault_of
  line_wrong NoForm e k = rw e.cut
  line_wrong (BadDollar p) e k = let z : p ≤ length l.text = omega (arith, e.within) in rw e.cut (ap refused (fault_place l p z))
  line_wrong NotYet e k = rw e.cut

  pub line_open : {y : Form} → x ≡ fits y → l.ended ≡ false → Wrong l x (BadLine l.start)
  unfolding if_cut
  line_open e n k = rw (e, n)

  pub line_binds : {from to at : ℕ} → Sound x → BindingAt l.text x from to at → l.ended ≡ true → SoundBinding l x from to at
  line_binds d b e = record { ended = e; places = b; dollars = d.dollars _ _ b.cut }

-- ---- by the answer

module _ (l : Line) where
  pub setting_told : {x : Result (ℕ × ℕ × ℕ) Refusal} {from to at : ℕ} → BlockLineAt l x → x ≡ Ok (from, to, at) → SoundBinding l (cut_indented l.text) from to at
  unfolding BlockLineAt
  setting_told a e = subst (BlockLineAt l) e a

  pub wrong_told : {x : Result (ℕ × ℕ × ℕ) Refusal} {r : Refusal} → BlockLineAt l x → x ≡ Err r → Wrong l (cut_indented l.text) r
  unfolding BlockLineAt
  wrong_told a e = subst (BlockLineAt l) e a

  pub rule_told : {x : Result Statement Refusal} {from to : ℕ} → FileLineAt l x → x ≡ Ok (Rule from to) → (l.ended ≡ true) × RuleAt l.text (cut_statement l.text) from to
  unfolding FileLineAt
  rule_told a e = subst (FileLineAt l) e a

  pub build_told : {x : Result Statement Refusal} {p : BuildPlaces} → FileLineAt l x → x ≡ Ok (Build p) → (l.ended ≡ true) × BuildAt l.text (cut_statement l.text) p
  unfolding FileLineAt
  build_told a e = subst (FileLineAt l) e a

  pub default_told : {x : Result Statement Refusal} {at : ℕ} → FileLineAt l x → x ≡ Ok (Default at) → (l.ended ≡ true) × DefaultAt l.text (cut_statement l.text) at
  unfolding FileLineAt
  default_told a e = subst (FileLineAt l) e a

  pub open_told : {x : Result Statement Refusal} {sub : Bool} {from to : ℕ} → FileLineAt l x → x ≡ Ok (Open sub from to)
      → (l.ended ≡ true) × OpenAt l.text (cut_statement l.text) sub from to
  unfolding FileLineAt
  open_told a e = subst (FileLineAt l) e a

  pub binding_told : {x : Result Statement Refusal} {from to at : ℕ} → FileLineAt l x → x ≡ Ok (Binding from to at) → SoundBinding l (cut_statement l.text) from to at
  unfolding FileLineAt
  binding_told a e = subst (FileLineAt l) e a

  pub refused_told : {x : Result Statement Refusal} {r : Refusal} → FileLineAt l x → x ≡ Err r → Wrong l (cut_statement l.text) r
  unfolding FileLineAt
  refused_told a e = subst (FileLineAt l) e a
