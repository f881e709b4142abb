-- `scan_keywords::later_key` meets its contract.
use mathlib.Core.Bool.{◌||◌}
use mathlib.Core.Path.{◌≡◌, refl, sym, ◌∙◌}
use Rattle.lists.specs.Bytes.{eq_bytes}
use Rattle.lists.specs.Members.{any}
use Rattle.lists.specs.Text.{bytes}
use Rattle.spec.specs.Basics.{among}
use Rattle.spec.specs.Forms.{later_key}
use Rattle.scan_keywords.proofs.Ors.{or_then, or_else, seven}
use Rattle.scan_keywords.proofs.later_key.Goals as goal
use Rattle.scan_keywords.proofs.later_key.Goals.{then-equal, else-equal, then-equal-2, else-equal-2, then-equal-3, else-equal-3, then-equal-4, else-equal-4, then-equal-5, else-equal-5}

pub returns-then-equal-6 : goal.returns-then-equal-6
unfolding later_key among any
returns-then-equal-6 c =
    let v1 : c.if-equal.value ≡ ((eq_bytes c.args.w.now (bytes "deps")) || eq_bytes c.args.w.now (bytes "dyndep")) = elim c.if-equal.branch [
      | then-equal w ↦ or_then _ (sym c.equal.ensures ∙ w.if-equal.true) (w.value-is ∙ w.if-equal.true)
      | else-equal w ↦ or_else (sym c.equal.ensures ∙ w.if-equal.false) w.value-is w.equal-else-equal.ensures
    ] in
    let v2 : c.if-equal-2.value ≡ (((eq_bytes c.args.w.now (bytes "deps")) || eq_bytes c.args.w.now (bytes "dyndep")) || eq_bytes c.args.w.now (bytes "msvc_deps_prefix")) = elim c.if-equal-2.branch [
      | then-equal-2 w ↦ or_then _ (sym v1 ∙ w.if-equal-2.true) (w.value-is ∙ w.if-equal-2.true)
      | else-equal-2 w ↦ or_else (sym v1 ∙ w.if-equal-2.false) w.value-is w.equal-else-equal-2.ensures
    ] in
    let v3 : c.if-equal-3.value ≡ ((((eq_bytes c.args.w.now (bytes "deps")) || eq_bytes c.args.w.now (bytes "dyndep")) || eq_bytes c.args.w.now (bytes "msvc_deps_prefix")) || eq_bytes c.args.w.now (bytes "pool")) = elim c.if-equal-3.branch [
      | then-equal-3 w ↦ or_then _ (sym v2 ∙ w.if-equal-3.true) (w.value-is ∙ w.if-equal-3.true)
      | else-equal-3 w ↦ or_else (sym v2 ∙ w.if-equal-3.false) w.value-is w.equal-else-equal-3.ensures
    ] in
    let v4 : c.if-equal-4.value ≡ (((((eq_bytes c.args.w.now (bytes "deps")) || eq_bytes c.args.w.now (bytes "dyndep")) || eq_bytes c.args.w.now (bytes "msvc_deps_prefix")) || eq_bytes c.args.w.now (bytes "pool")) || eq_bytes c.args.w.now (bytes "restat")) = elim c.if-equal-4.branch [
      | then-equal-4 w ↦ or_then _ (sym v3 ∙ w.if-equal-4.true) (w.value-is ∙ w.if-equal-4.true)
      | else-equal-4 w ↦ or_else (sym v3 ∙ w.if-equal-4.false) w.value-is w.equal-else-equal-4.ensures
    ] in
    let v5 : c.if-equal-5.value ≡ ((((((eq_bytes c.args.w.now (bytes "deps")) || eq_bytes c.args.w.now (bytes "dyndep")) || eq_bytes c.args.w.now (bytes "msvc_deps_prefix")) || eq_bytes c.args.w.now (bytes "pool")) || eq_bytes c.args.w.now (bytes "restat")) || eq_bytes c.args.w.now (bytes "rspfile")) = elim c.if-equal-5.branch [
      | then-equal-5 w ↦ or_then _ (sym v4 ∙ w.if-equal-5.true) (w.value-is ∙ w.if-equal-5.true)
      | else-equal-5 w ↦ or_else (sym v4 ∙ w.if-equal-5.false) w.value-is w.equal-else-equal-5.ensures
    ] in
    or_then (eq_bytes c.args.w.now (bytes "rspfile_content")) (sym v5 ∙ c.if-equal-6.true) c.if-equal-6.true ∙ seven (eq_bytes c.args.w.now (bytes "deps")) (eq_bytes c.args.w.now (bytes "dyndep")) (eq_bytes c.args.w.now (bytes "msvc_deps_prefix")) (eq_bytes c.args.w.now (bytes "pool")) (eq_bytes c.args.w.now (bytes "restat")) (eq_bytes c.args.w.now (bytes "rspfile")) (eq_bytes c.args.w.now (bytes "rspfile_content"))

pub returns-else-equal-6 : goal.returns-else-equal-6
unfolding later_key among any
returns-else-equal-6 c =
    let v1 : c.if-equal.value ≡ ((eq_bytes c.args.w.now (bytes "deps")) || eq_bytes c.args.w.now (bytes "dyndep")) = elim c.if-equal.branch [
      | then-equal w ↦ or_then _ (sym c.equal.ensures ∙ w.if-equal.true) (w.value-is ∙ w.if-equal.true)
      | else-equal w ↦ or_else (sym c.equal.ensures ∙ w.if-equal.false) w.value-is w.equal-else-equal.ensures
    ] in
    let v2 : c.if-equal-2.value ≡ (((eq_bytes c.args.w.now (bytes "deps")) || eq_bytes c.args.w.now (bytes "dyndep")) || eq_bytes c.args.w.now (bytes "msvc_deps_prefix")) = elim c.if-equal-2.branch [
      | then-equal-2 w ↦ or_then _ (sym v1 ∙ w.if-equal-2.true) (w.value-is ∙ w.if-equal-2.true)
      | else-equal-2 w ↦ or_else (sym v1 ∙ w.if-equal-2.false) w.value-is w.equal-else-equal-2.ensures
    ] in
    let v3 : c.if-equal-3.value ≡ ((((eq_bytes c.args.w.now (bytes "deps")) || eq_bytes c.args.w.now (bytes "dyndep")) || eq_bytes c.args.w.now (bytes "msvc_deps_prefix")) || eq_bytes c.args.w.now (bytes "pool")) = elim c.if-equal-3.branch [
      | then-equal-3 w ↦ or_then _ (sym v2 ∙ w.if-equal-3.true) (w.value-is ∙ w.if-equal-3.true)
      | else-equal-3 w ↦ or_else (sym v2 ∙ w.if-equal-3.false) w.value-is w.equal-else-equal-3.ensures
    ] in
    let v4 : c.if-equal-4.value ≡ (((((eq_bytes c.args.w.now (bytes "deps")) || eq_bytes c.args.w.now (bytes "dyndep")) || eq_bytes c.args.w.now (bytes "msvc_deps_prefix")) || eq_bytes c.args.w.now (bytes "pool")) || eq_bytes c.args.w.now (bytes "restat")) = elim c.if-equal-4.branch [
      | then-equal-4 w ↦ or_then _ (sym v3 ∙ w.if-equal-4.true) (w.value-is ∙ w.if-equal-4.true)
      | else-equal-4 w ↦ or_else (sym v3 ∙ w.if-equal-4.false) w.value-is w.equal-else-equal-4.ensures
    ] in
    let v5 : c.if-equal-5.value ≡ ((((((eq_bytes c.args.w.now (bytes "deps")) || eq_bytes c.args.w.now (bytes "dyndep")) || eq_bytes c.args.w.now (bytes "msvc_deps_prefix")) || eq_bytes c.args.w.now (bytes "pool")) || eq_bytes c.args.w.now (bytes "restat")) || eq_bytes c.args.w.now (bytes "rspfile")) = elim c.if-equal-5.branch [
      | then-equal-5 w ↦ or_then _ (sym v4 ∙ w.if-equal-5.true) (w.value-is ∙ w.if-equal-5.true)
      | else-equal-5 w ↦ or_else (sym v4 ∙ w.if-equal-5.false) w.value-is w.equal-else-equal-5.ensures
    ] in
    or_else (sym v5 ∙ c.if-equal-6.false) refl c.equal-else-equal-6.ensures ∙ seven (eq_bytes c.args.w.now (bytes "deps")) (eq_bytes c.args.w.now (bytes "dyndep")) (eq_bytes c.args.w.now (bytes "msvc_deps_prefix")) (eq_bytes c.args.w.now (bytes "pool")) (eq_bytes c.args.w.now (bytes "restat")) (eq_bytes c.args.w.now (bytes "rspfile")) (eq_bytes c.args.w.now (bytes "rspfile_content"))
