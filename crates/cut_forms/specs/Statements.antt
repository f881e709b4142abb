-- What the answers about a line say of the rules' cut, case by case.
use Rattle.std.specs.Prelude.{ℕ, ◌≤◌, ◌<◌, Bool, List, ◌≡◌, length, drop, Result, Ok, Err}
use Rattle.std.proofs.Math.Option.{none}
use Rattle.lists.specs.Parts.{part}
use Rattle.lists.specs.Runs.{Reads}
use Rattle.spec.specs.Dollars.{bad_dollar}
use Rattle.spec.specs.Forms.{Cut, fits, after_name, Form, rule_form, build_form, default_form, open_form, binding_form, raw_value, BuildLine}
use Rattle.cut_forms.specs.declared.Bars.{Bars}
use Rattle.cut_forms.specs.declared.Bars.TheVariants.{LineEnd, One, Two, Other}
use Rattle.cut_forms.specs.declared.Head.{Head}
use Rattle.cut_forms.specs.declared.BuildPlaces.{BuildPlaces}
use Rattle.cut_forms.specs.Faults.{Fails}
use Rattle.cut_forms.specs.Paths.{PathsAt}
use Rattle.cut_forms.specs.Inputs.{Bars as Met, line_end, one_bar, two_bars, other_byte, bars_at}
use Rattle.cut_forms.specs.declared.Statement.{Statement}
use Rattle.cut_forms.specs.declared.Fault.{Fault}
use Rattle.cut_forms.specs.declared.Statement.TheVariants.{Rule, Build, Default, Open, Binding}

-- A name goes from one place to another.
pub record NameEnds (l : List ℕ) (from to : ℕ) (x : Cut (List ℕ)) : Type 0 where
  pub reads : Reads after_name l from to
  pub cut : x ≡ fits (part l from to)

unfoldable pub NamedAt : List ℕ → ℕ → Cut (List ℕ) → Result ℕ Fault → Type 0
NamedAt l from x (Ok to) = NameEnds l from to x
NamedAt l from x (Err f) = Fails l x f

-- What stands after a list of inputs.
pub record BarEnds (l : List ℕ) (next : ℕ) (x y : Met) : Type 0 where
  pub within : next ≤ length l
  pub cut : x ≡ y

unfoldable pub BarsAt : List ℕ → ℕ → Bars → Type 0
BarsAt l at LineEnd = bars_at (drop at l) ≡ line_end
BarsAt l at (One next) = BarEnds l next (bars_at (drop at l)) (one_bar (drop next l))
BarsAt l at (Two next) = BarEnds l next (bars_at (drop at l)) (two_bars (drop next l))
BarsAt l at Other = bars_at (drop at l) ≡ other_byte

-- ------------------------------------------------------------------ forms

pub record RuleAt (l : List ℕ) (x : Cut Form) (from to : ℕ) : Type 0 where
  pub ordered : from ≤ to
  pub within : to ≤ length l
  pub cut : x ≡ fits (rule_form (part l from to))

-- Where a build line's outputs and its rule, which b has, and its explicit inputs stand.
pub record HeadAt (l : List ℕ) (h : Head) (b : BuildLine) (ins : List (List ℕ)) : Type 0 where
  pub ordered : h.rule ≤ h.ins
  pub rule : b.rule ≡ part l h.rule h.ins
  pub outs : PathsAt l h.outs b.outs
  pub inputs : PathsAt l h.ins ins

-- Where all its parts stand.
pub record Stands (l : List ℕ) (p : BuildPlaces) (b : BuildLine) : Type 0 where
  pub ordered : p.rule ≤ p.ins
  pub rule : b.rule ≡ part l p.rule p.ins
  pub outs : PathsAt l p.outs b.outs
  pub ins : PathsAt l p.ins b.ins
  pub implicit : PathsAt l p.implicit b.implicit
  pub order_only : PathsAt l p.order b.order_only

pub record BuildAt (l : List ℕ) (x : Cut Form) (p : BuildPlaces) : Type 0 where
  pub line : BuildLine
  pub stands : Stands l p line
  pub cut : x ≡ fits (build_form line)

pub record DefaultAt (l : List ℕ) (x : Cut Form) (at : ℕ) : Type 0 where
  pub raw : List (List ℕ)
  pub stands : PathsAt l at raw
  pub cut : x ≡ fits (default_form raw)

-- `subninja PATH` or else `include PATH`: the path, whose dollars are sound.
pub record OpenAt (l : List ℕ) (x : Cut Form) (sub : Bool) (from to : ℕ) : Type 0 where
  pub longer : from < to
  pub within : to ≤ length l
  pub sound : bad_dollar (part l from to) ≡ none
  pub cut : x ≡ fits (open_form sub (part l from to))

-- `NAME = value`: the name, and the place behind the `=`, from which the value is handed back.
pub record BindingAt (l : List ℕ) (x : Cut Form) (from to at : ℕ) : Type 0 where
  pub ordered : from ≤ to
  pub within : to ≤ length l
  pub starts : at ≤ length l
  pub cut : x ≡ fits (binding_form (part l from to) (raw_value (drop at l)))

unfoldable pub StatementAt : List ℕ → Cut Form → Result Statement Fault → Type 0
StatementAt l x (Ok (Rule from to)) = RuleAt l x from to
StatementAt l x (Ok (Build p)) = BuildAt l x p
StatementAt l x (Ok (Default at)) = DefaultAt l x at
StatementAt l x (Ok (Open sub from to)) = OpenAt l x sub from to
StatementAt l x (Ok (Binding from to at)) = BindingAt l x from to at
StatementAt l x (Err f) = Fails l x f

unfoldable pub AssignmentAt : List ℕ → Cut Form → Result (ℕ × ℕ × ℕ) Fault → Type 0
AssignmentAt l x (Ok (from, to, at)) = BindingAt l x from to at
AssignmentAt l x (Err f) = Fails l x f
