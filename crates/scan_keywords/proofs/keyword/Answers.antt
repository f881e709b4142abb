-- `scan_keywords::keyword` meets its contract.
use mathlib.Core.Bool.{◌||◌}
use mathlib.Core.Path.{◌≡◌, refl, sym, ◌∙◌}
use Rattle.lists.specs.Bytes.{eq_bytes}
use Rattle.lists.specs.Members.{any}
use Rattle.lists.specs.Text.{bytes}
use Rattle.spec.specs.Basics.{among}
use Rattle.spec.specs.Forms.{keyword}
use Rattle.scan_keywords.proofs.Ors.{or_then, or_else, five}
use Rattle.scan_keywords.proofs.keyword.Goals as goal
use Rattle.scan_keywords.proofs.keyword.Goals.{then-equal, else-equal, then-equal-2, else-equal-2, then-equal-3, else-equal-3}

pub returns-then-equal-4 : goal.returns-then-equal-4
unfolding keyword among any
returns-then-equal-4 c =
    let v1 : c.if-equal.value ≡ ((eq_bytes c.args.w.now (bytes "rule")) || eq_bytes c.args.w.now (bytes "build")) = elim c.if-equal.branch [
      | then-equal w ↦ or_then _ (sym c.equal.ensures ∙ w.if-equal.true) (w.value-is ∙ w.if-equal.true)
      | else-equal w ↦ or_else (sym c.equal.ensures ∙ w.if-equal.false) w.value-is w.equal-else-equal.ensures
    ] in
    let v2 : c.if-equal-2.value ≡ (((eq_bytes c.args.w.now (bytes "rule")) || eq_bytes c.args.w.now (bytes "build")) || eq_bytes c.args.w.now (bytes "default")) = elim c.if-equal-2.branch [
      | then-equal-2 w ↦ or_then _ (sym v1 ∙ w.if-equal-2.true) (w.value-is ∙ w.if-equal-2.true)
      | else-equal-2 w ↦ or_else (sym v1 ∙ w.if-equal-2.false) w.value-is w.equal-else-equal-2.ensures
    ] in
    let v3 : c.if-equal-3.value ≡ ((((eq_bytes c.args.w.now (bytes "rule")) || eq_bytes c.args.w.now (bytes "build")) || eq_bytes c.args.w.now (bytes "default")) || eq_bytes c.args.w.now (bytes "include")) = elim c.if-equal-3.branch [
      | then-equal-3 w ↦ or_then _ (sym v2 ∙ w.if-equal-3.true) (w.value-is ∙ w.if-equal-3.true)
      | else-equal-3 w ↦ or_else (sym v2 ∙ w.if-equal-3.false) w.value-is w.equal-else-equal-3.ensures
    ] in
    or_then (eq_bytes c.args.w.now (bytes "subninja")) (sym v3 ∙ c.if-equal-4.true) c.if-equal-4.true ∙ five (eq_bytes c.args.w.now (bytes "rule")) (eq_bytes c.args.w.now (bytes "build")) (eq_bytes c.args.w.now (bytes "default")) (eq_bytes c.args.w.now (bytes "include")) (eq_bytes c.args.w.now (bytes "subninja"))

pub returns-else-equal-4 : goal.returns-else-equal-4
unfolding keyword among any
returns-else-equal-4 c =
    let v1 : c.if-equal.value ≡ ((eq_bytes c.args.w.now (bytes "rule")) || eq_bytes c.args.w.now (bytes "build")) = elim c.if-equal.branch [
      | then-equal w ↦ or_then _ (sym c.equal.ensures ∙ w.if-equal.true) (w.value-is ∙ w.if-equal.true)
      | else-equal w ↦ or_else (sym c.equal.ensures ∙ w.if-equal.false) w.value-is w.equal-else-equal.ensures
    ] in
    let v2 : c.if-equal-2.value ≡ (((eq_bytes c.args.w.now (bytes "rule")) || eq_bytes c.args.w.now (bytes "build")) || eq_bytes c.args.w.now (bytes "default")) = elim c.if-equal-2.branch [
      | then-equal-2 w ↦ or_then _ (sym v1 ∙ w.if-equal-2.true) (w.value-is ∙ w.if-equal-2.true)
      | else-equal-2 w ↦ or_else (sym v1 ∙ w.if-equal-2.false) w.value-is w.equal-else-equal-2.ensures
    ] in
    let v3 : c.if-equal-3.value ≡ ((((eq_bytes c.args.w.now (bytes "rule")) || eq_bytes c.args.w.now (bytes "build")) || eq_bytes c.args.w.now (bytes "default")) || eq_bytes c.args.w.now (bytes "include")) = elim c.if-equal-3.branch [
      | then-equal-3 w ↦ or_then _ (sym v2 ∙ w.if-equal-3.true) (w.value-is ∙ w.if-equal-3.true)
      | else-equal-3 w ↦ or_else (sym v2 ∙ w.if-equal-3.false) w.value-is w.equal-else-equal-3.ensures
    ] in
    or_else (sym v3 ∙ c.if-equal-4.false) refl c.equal-else-equal-4.ensures ∙ five (eq_bytes c.args.w.now (bytes "rule")) (eq_bytes c.args.w.now (bytes "build")) (eq_bytes c.args.w.now (bytes "default")) (eq_bytes c.args.w.now (bytes "include")) (eq_bytes c.args.w.now (bytes "subninja"))
