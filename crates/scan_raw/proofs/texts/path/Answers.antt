-- `scan_raw::texts::path` meets its contract.
use mathlib.Core.Path.{refl}
use native.Mathlib.Omega.{arith}
use Rattle.spec.specs.Forms.{path_stop}
use Rattle.scan_raw.specs.Texts.{PathAt}
use Rattle.scan_tokens.proofs.Places.{going_begin}
use Rattle.scan_dollars.proofs.Answers.{past_to, past_bad}
use Rattle.scan_raw.proofs.Cuts.{text_end, text_stop, text_byte, text_past, text_bad, path_ends, path_bad, path_goes_on, path_stops, class_dollar, class_other}
use Rattle.scan_raw.proofs.texts.path.Goals as goal
use Rattle.scan_raw.proofs.texts.path.Goals.{then-k-eq-SPACE-via-then-k-eq-SPACE, then-k-eq-SPACE-via-else-k-eq-SPACE+then-k-eq-COLON, then-k-eq-SPACE-via-else-k-eq-SPACE+else-k-eq-COLON+then-k-eq-BAR}

pub loop-i-init : goal.loop-i-init
loop-i-init c = going_begin c.requires.1

pub loop-i-smaller-then-k-eq-DOLLAR : goal.loop-i-smaller-then-k-eq-DOLLAR
loop-i-smaller-then-k-eq-DOLLAR c = omega (arith, past_to _ _ _ c.past.ensures c.in-Some.is)

pub loop-i-preserved-then-k-eq-DOLLAR : goal.loop-i-preserved-then-k-eq-DOLLAR
unfolding path_stop
loop-i-preserved-then-k-eq-DOLLAR c = text_past path_stop c.loop-i.invariant c.loop-i-test.true refl (class_dollar _ c.class_in-k.ensures c.if-k-eq-DOLLAR.true) (past_to _ _ _ c.past.ensures c.in-Some.is)

pub returns-in_default : goal.returns-in_default
unfolding PathAt path_stop
returns-in_default c = path_bad c.loop-i.invariant c.loop-i-test.true (text_bad path_stop c.loop-i.invariant c.loop-i-test.true refl (class_dollar _ c.class_in-k.ensures c.if-k-eq-DOLLAR.true) (past_bad _ _ _ c.past.ensures c.in_default.is))

pub returns-then-k-eq-SPACE : goal.returns-then-k-eq-SPACE
unfolding PathAt
returns-then-k-eq-SPACE c =
    path_ends c.loop-i.invariant (text_stop path_stop c.loop-i.invariant c.loop-i-test.true (path_stops _ c.class_in-k.ensures (elim c.then-k-eq-SPACE.branch [
      | then-k-eq-SPACE-via-then-k-eq-SPACE w ↦ rw w.if-k-eq-SPACE.true
      | then-k-eq-SPACE-via-else-k-eq-SPACE+then-k-eq-COLON w ↦ rw w.if-k-eq-COLON.true
      | then-k-eq-SPACE-via-else-k-eq-SPACE+else-k-eq-COLON+then-k-eq-BAR w ↦ rw w.if-k-eq-BAR.true
    ])))

pub loop-i-preserved : goal.loop-i-preserved
loop-i-preserved c = text_byte path_stop c.loop-i.invariant c.loop-i-test.true (path_goes_on _ c.class_in-k.ensures c.if-k-eq-SPACE.false c.if-k-eq-COLON.false c.if-k-eq-BAR.false) (class_other _ c.class_in-k.ensures c.if-k-eq-DOLLAR.false)

pub returns : goal.returns
unfolding PathAt
returns c = path_ends c.loop-i.invariant (text_end path_stop c.loop-i.invariant c.loop-i-test.false)
