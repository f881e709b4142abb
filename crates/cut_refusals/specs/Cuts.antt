-- What is said of a line: where it lies in the manifest, and its cut.
use Rattle.std.specs.Prelude.{ℕ, ◌+◌, ◌≤◌, true, List, ◌≡◌, length, drop, Result, Ok, Err}
use Rattle.std.proofs.Math.Option.{none}
use Rattle.spec.specs.declared.Refusal.{Refusal}
use Rattle.spec.specs.declared.Refusal.TheVariants.{BadLine, BadDollar, NotYet}
use Rattle.spec.specs.Limits.{max_manifest, max_place}
use Rattle.spec.specs.Lines.{Line}
use Rattle.spec.specs.Dollars.{bad_dollar}
use Rattle.spec.specs.Forms.{Cut, Form, raw_value, cut_statement, cut_indented}
use Rattle.spec.specs.Statements.{Outcome, refused}
use Rattle.spec.specs.Manifest.{if_cut}
use Rattle.scan_classes.specs.Table.{classes}
use Rattle.cut_forms.specs.declared.Fault.{Fault}
use Rattle.cut_forms.specs.declared.Fault.TheVariants.{NoForm, BadDollar as WrongDollar, NotYet as Later}
use Rattle.cut_forms.specs.Statements.{RuleAt, BuildAt, DefaultAt, OpenAt, BindingAt}
use Rattle.cut_forms.specs.declared.Statement.{Statement}
use Rattle.cut_forms.specs.declared.Statement.TheVariants.{Rule, Build, Default, Open, Binding}

-- ---- faults

-- the refusal of a fault in the line that starts here
unfoldable pub refusal_of : ℕ → Fault → Refusal
refusal_of start NoForm = BadLine start
refusal_of start (WrongDollar p) = BadDollar (start + p)
refusal_of start Later = NotYet start

-- its place lies in what is read
unfoldable pub Near : ℕ → Fault → Type 0
Near start NoForm = Unit {0}
Near start (WrongDollar p) = start + p ≤ max_place
Near start Later = Unit {0}

-- ---- cuts

pub record CutAsks (t : List ℕ) (start : ℕ) (l : List ℕ) : Type 0 where
  pub table : t ≡ classes
  pub near : start + length l ≤ max_place
  pub short : length l ≤ max_manifest

-- the line's fault in its bytes, or that the manifest ends inside it, whatever its form would do
abbrev pub Wrong : Line → Cut Form → Refusal → Type 0
Wrong l x r = (f : Form → Outcome) → if_cut l x f ≡ refused r

-- `NAME = value`, whose dollars are sound
pub record SoundBinding (l : Line) (x : Cut Form) (from to at : ℕ) : Type 0 where
  pub ended : l.ended ≡ true
  pub places : BindingAt l.text x from to at
  pub dollars : bad_dollar (raw_value (drop at l.text)) ≡ none

unfoldable pub FileLineAt : Line → Result Statement Refusal → Type 0
FileLineAt l (Ok (Rule from to)) = (l.ended ≡ true) × RuleAt l.text (cut_statement l.text) from to
FileLineAt l (Ok (Build p)) = (l.ended ≡ true) × BuildAt l.text (cut_statement l.text) p
FileLineAt l (Ok (Default at)) = (l.ended ≡ true) × DefaultAt l.text (cut_statement l.text) at
FileLineAt l (Ok (Open sub from to)) = (l.ended ≡ true) × OpenAt l.text (cut_statement l.text) sub from to
FileLineAt l (Ok (Binding from to at)) = SoundBinding l (cut_statement l.text) from to at
FileLineAt l (Err r) = Wrong l (cut_statement l.text) r

unfoldable pub BlockLineAt : Line → Result (ℕ × ℕ × ℕ) Refusal → Type 0
BlockLineAt l (Ok (from, to, at)) = SoundBinding l (cut_indented l.text) from to at
BlockLineAt l (Err r) = Wrong l (cut_indented l.text) r
